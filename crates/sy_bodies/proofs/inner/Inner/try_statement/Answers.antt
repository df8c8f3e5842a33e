use Rattle.std.proofs.Common.{ap, ◌∙◌}
use Rattle.sy_bodies.proofs.StepLemmas.{after_step, placed_step}
use Rattle.sy_bodies.proofs.inner.Inner.try_statement.Goals as goal
use Rattle.sy_looks.proofs.LookLemmas.{chained, found_beside, known_there}
use Rattle.sy_rules.specs.Foreign.{foreign_everywhere}
use Rattle.sy_rules.specs.Names.{scoped}
use Rattle.sy_rules.specs.Outcome.{and_then, known_as}
use Rattle.sy_rules.specs.Walk.{block, handler, trying}
use Rattle.sy_typed.specs.declared.tree.TypedStmt.TheVariants as typed

pub returns : goal.returns
returns g c =
    let there = c.begin_statement-outside.new.w in
    let s = c.args.s in
    let x = c.args.x.now in
    let a = scoped (block c.args.a.now) in
    let b = scoped (handler x (block c.args.b.now)) in
    let f = c.add_foreign.new.self in
    let m = c.scoped_block.new.w in
    let k = c.handler.new.w in
    let two = c.in_ok-tried-2 in
    placed_step c.args.own s (trying s (block c.args.a.now) x (block c.args.b.now)) c.args.w.now there _ _ _ c.begin_statement-outside.ensures.there c.begin_statement-outside.ensures.outside
    (after_step (λ n. foreign_everywhere) (λ n. and_then (a n) (λ y j. known_as (λ h. typed.Try s y h.0 h.1) (b j))) there f _ _ c.add_foreign.ensures
    (chained a (λ y j. known_as (λ h. typed.Try s y h.0 h.1) (b j)) (record there { found = f }) m k two.tried _
    (ap (λ p. (p, m)) two.ensures.ok.0 ∙ c.in_ok-tried.ensures)
    (known_there (λ h. typed.Try s two.tried h.0 h.1) b m k two.whole
    (found_beside b m k c.handler.result two.whole two.ensures.ok.1 c.handler.ensures))))
