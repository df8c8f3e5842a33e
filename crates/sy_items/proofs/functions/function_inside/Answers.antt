use Rattle.std.proofs.Common.{ap, ◌∙◌}
use Rattle.sy_items.proofs.functions.function_inside.Goals as goal
use Rattle.sy_looks.proofs.LookLemmas.{known_there}
use Rattle.sy_rules.specs.Names.{in_setting, scoped}
use Rattle.sy_rules.specs.Units.{in_function, parameters_then_body, typed_function}
use Rattle.sy_rules.specs.Walk.{block}

pub returns : goal.returns
returns g c =
    let f = c.args.f.now in
    ap (λ y. (y, c.in_its_setting.new.w)) c.typed_function.ensures
    ∙ known_there (typed_function f) (in_setting (in_function c.args.place f) (scoped (parameters_then_body f.parameters (block f.body)))) c.args.w.now c.in_its_setting.new.w c.in_ok-inside.inside c.in_ok-inside.ensures
