use Rattle.std.proofs.Common.{ap, arith, drop, map, sym, ◌++◌, ◌+◌, ◌∙◌, ◌∷◌, ◌≡◌}
use Rattle.std.proofs.lemmas.List.{drop_all, drop_more}
use Rattle.sy_bodies.proofs.inner.Inner.printed_items.Goals as goal
use Rattle.sy_declare.specs.Trees.{printed}
use Rattle.sy_looks.proofs.ListLookLemmas.{ended_looked, one_more_looked}
use Rattle.sy_looks.specs.Looked.{looked}
use Rattle.sy_rules.specs.Outcome.{in_turn, known_as}

pub loop-x-preserved : goal.loop-x-preserved
loop-x-preserved g c =
    let xs = c.args.xs.now in
    let i = c.loop-x.x-index in
    let x = c.x-item.result in
    let left : map printed (drop i xs) ≡ printed x ∷ map printed (drop (i + 1) xs) = ap (λ l. map printed l) (drop_more xs i x c.loop-x-test.true ∙ ap (λ y. y ∷ drop (i + 1) xs) (sym c.x-item.is)) in
    one_more_looked (printed x) (map printed (drop (i + 1) xs)) c.loop-x.all c.push.new.self c.loop-x.w _ _ c.in_ok-item.ensures c.in_ok-push.ensures.ok
    ∙ ap (λ l. looked (λ n. known_as (λ z. c.loop-x.all ++ z) (in_turn l n)) c.loop-x.w) (sym left)
    ∙ c.loop-x.invariant

pub returns : goal.returns
returns g c =
    ended_looked c.loop-x.all c.loop-x.w
    ∙ ap (λ l. looked (λ n. known_as (λ z. c.loop-x.all ++ z) (in_turn (map printed l) n)) c.loop-x.w) (sym (drop_all c.loop-x.x-index c.args.xs.now (omega (arith, c.loop-x-test.false))))
    ∙ c.loop-x.invariant
