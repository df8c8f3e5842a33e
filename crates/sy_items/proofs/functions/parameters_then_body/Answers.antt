use Rattle.std.proofs.Common.{map, ap, ◌∙◌}
use Rattle.sy_items.proofs.functions.parameters_then_body.Goals as goal
use Rattle.sy_looks.proofs.LookLemmas.{chained, known_there, found_beside}
use Rattle.sy_rules.specs.Outcome.{in_turn, known_as}
use Rattle.sy_rules.specs.Units.{one_parameter}
use Rattle.sy_rules.specs.Walk.{block}

pub returns : goal.returns
returns g c =
    let w = c.args.w.now in
    let ps = in_turn (map one_parameter c.args.ps.now) in
    let b = block c.args.b.now in
    let m = c.parameters.new.w in
    let k = c.sub_block.new.w in
    let both = c.in_ok-vs-2 in
    chained ps (λ vs n. known_as (λ y. (vs, y)) (b n)) w m k both.vs (both.vs, both.y)
    (ap (λ p. (p, m)) both.ensures.ok.0 ∙ c.in_ok-vs.ensures)
    (known_there (λ y. (both.vs, y)) b m k both.y (found_beside b m k c.sub_block.result both.y both.ensures.ok.1 c.sub_block.ensures))
