use Rattle.std.proofs.Common.{ap, arith, drop, map, sym, ◌++◌, ◌+◌, ◌∙◌, ◌∷◌, ◌≡◌}
use Rattle.std.proofs.lemmas.List.{drop_all, drop_more}
use Rattle.sy_bodies.proofs.blocks.in_list.Goals as goal
use Rattle.sy_looks.proofs.ListLookLemmas.{ended_looked, one_more_looked}
use Rattle.sy_looks.specs.Looked.{looked}
use Rattle.sy_rules.specs.Outcome.{in_turn, known_as}
use Rattle.sy_rules.specs.Walk.{stmt}
use Rattle.sy_rules.specs.declared.statements.Standing.TheVariants as standing

pub loop-s-preserved : goal.loop-s-preserved
loop-s-preserved g c =
    let xs = c.args.ss.now in
    let i = c.loop-s.s-index in
    let x = c.s-item.result in
    let left : map (λ s. stmt s standing.InList) (drop i xs) ≡ stmt x standing.InList ∷ map (λ s. stmt s standing.InList) (drop (i + 1) xs) = ap (λ l. map (λ s. stmt s standing.InList) l) (drop_more xs i x c.loop-s-test.true ∙ ap (λ y. y ∷ drop (i + 1) xs) (sym c.s-item.is)) in
    one_more_looked (stmt x standing.InList) (map (λ s. stmt s standing.InList) (drop (i + 1) xs)) c.loop-s.all c.push.new.self c.loop-s.w _ _ c.in_ok-tree.ensures c.in_ok-push.ensures.ok
    ∙ ap (λ l. looked (λ n. known_as (λ z. c.loop-s.all ++ z) (in_turn l n)) c.loop-s.w) (sym left)
    ∙ c.loop-s.invariant

pub returns : goal.returns
returns g c =
    ended_looked c.loop-s.all c.loop-s.w
    ∙ ap (λ l. looked (λ n. known_as (λ z. c.loop-s.all ++ z) (in_turn (map (λ s. stmt s standing.InList) l) n)) c.loop-s.w) (sym (drop_all c.loop-s.s-index c.args.ss.now (omega (arith, c.loop-s-test.false))))
    ∙ c.loop-s.invariant
