use Rattle.std.proofs.Common.{ap, ◌∙◌}
use Rattle.sy_closures.proofs.StepLemmas.{setting_step}
use Rattle.sy_items.proofs.functions.in_its_setting.Goals as goal
use Rattle.sy_looks.specs.Looked.{looked}
use Rattle.sy_rules.specs.Names.{scoped, with_setting}
use Rattle.sy_rules.specs.Units.{in_function, parameters_then_body}
use Rattle.sy_rules.specs.Walk.{block}

pub returns : goal.returns
returns g c =
    let f = c.args.f.now in
    setting_step (in_function c.args.place f) (scoped (parameters_then_body f.parameters (block f.body))) c.args.w.now _ _ _ _ _ _
    c.setting-setting.ensures (c.in_function.ensures c.setting-setting.result) c.set.ensures
    (c.in_ok-found.ensures ∙ ap (λ ps. looked (scoped (parameters_then_body ps (block f.body))) (record c.args.w.now { names = c.set.new.self })) c.as_slice.ensures)
    c.set-2.ensures
