use Rattle.std.proofs.Common.{◌≡◌, ◌+◌, List, ◌∷◌, drop, map, Option, ap, sym, ◌∙◌, arith}
use Rattle.std.proofs.lemmas.List.{drop_more, drop_all}
use Rattle.sy_looks.specs.Looked.{looked}
use Rattle.sy_rules.specs.declared.library.Role.{Role}
use Rattle.sy_rules.specs.declared.seen.SeenArgument.{SeenArgument}
use Rattle.sy_rules.specs.Walk.{role_for}
use Rattle.sy_walk.proofs.ValueLemmas.{arguments_behind, arguments_begun, arguments_on, arguments_ended}
use Rattle.sy_walk.proofs.below.Below.arguments_for.Goals as goal
use Rattle.sy_walk.specs.Trees.{argument}

pub loop-x-init : goal.loop-x-init
loop-x-init g c =
    arguments_begun c.args.taken (role_for c.args.object c.args.variable c.args.member) c.new-seen.result c.new-trees.result (map argument c.args.xs.now) c.args.w.now
    c.new-seen.ensures c.new-trees.ensures

pub loop-x-preserved : goal.loop-x-preserved
loop-x-preserved g c =
    let xs = c.args.xs.now in
    let i = c.loop-x.x-index in
    let x = c.x-item.result in
    let role : List SeenArgument → Option Role = role_for c.args.object c.args.variable c.args.member in
    let left : drop i xs ≡ x ∷ drop (i + 1) xs = drop_more xs i x c.loop-x-test.true ∙ ap (λ y. y ∷ drop (i + 1) xs) (sym c.x-item.is) in
    arguments_on c.args.taken role (argument x) (map argument (drop (i + 1) xs)) c.role_for-role.result c.loop-x.w c.one_argument.new.w _
    c.loop-x.seen c.push_both.new.seen c.loop-x.trees c.push_both.new.trees
    (c.role_for-role.ensures ∙ ap role c.as_slice.ensures) c.in_ok-both.ensures c.in_ok-push_both.ensures.seen c.in_ok-push_both.ensures.trees
    ∙ ap (λ l. looked (arguments_behind c.args.taken role c.loop-x.seen c.loop-x.trees (map argument l)) c.loop-x.w) (sym left)
    ∙ c.loop-x.invariant

pub returns : goal.returns
returns g c =
    let role : List SeenArgument → Option Role = role_for c.args.object c.args.variable c.args.member in
    arguments_ended c.args.taken role c.loop-x.seen c.loop-x.trees c.loop-x.w
    ∙ ap (λ l. looked (arguments_behind c.args.taken role c.loop-x.seen c.loop-x.trees (map argument l)) c.loop-x.w) (sym (drop_all c.loop-x.x-index c.args.xs.now (omega (arith, c.loop-x-test.false))))
    ∙ c.loop-x.invariant
