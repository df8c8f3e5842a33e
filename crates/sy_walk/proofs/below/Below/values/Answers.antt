use Rattle.std.proofs.Common.{◌≡◌, ◌+◌, ◌∷◌, drop, map, ap, sym, ◌∙◌, arith}
use Rattle.std.proofs.lemmas.List.{drop_more, drop_all}
use Rattle.sy_looks.specs.Looked.{looked}
use Rattle.sy_rules.specs.Walk.{expr}
use Rattle.sy_walk.proofs.ValueLemmas.{values_behind, values_begun, values_on, values_ended}
use Rattle.sy_walk.proofs.below.Below.values.Goals as goal

pub loop-x-init : goal.loop-x-init
loop-x-init g c = values_begun c.new-seen.result c.new-trees.result (map expr c.args.xs.now) c.args.w.now c.new-seen.ensures c.new-trees.ensures

pub loop-x-preserved : goal.loop-x-preserved
loop-x-preserved g c =
    let xs = c.args.xs.now in
    let i = c.loop-x.x-index in
    let x = c.x-item.result in
    let left : drop i xs ≡ x ∷ drop (i + 1) xs = drop_more xs i x c.loop-x-test.true ∙ ap (λ y. y ∷ drop (i + 1) xs) (sym c.x-item.is) in
    values_on (expr x) (map expr (drop (i + 1) xs)) c.loop-x.w c.part.new.w _ c.loop-x.seen c.push_both.new.seen c.loop-x.trees c.push_both.new.trees
    c.in_ok-both.ensures c.in_ok-push_both.ensures.seen c.in_ok-push_both.ensures.trees
    ∙ ap (λ l. looked (values_behind c.loop-x.seen c.loop-x.trees (map expr l)) c.loop-x.w) (sym left)
    ∙ c.loop-x.invariant

pub returns : goal.returns
returns g c =
    values_ended c.loop-x.seen c.loop-x.trees c.loop-x.w
    ∙ ap (λ l. looked (values_behind c.loop-x.seen c.loop-x.trees (map expr l)) c.loop-x.w) (sym (drop_all c.loop-x.x-index c.args.xs.now (omega (arith, c.loop-x-test.false))))
    ∙ c.loop-x.invariant
