use Rattle.std.proofs.Common.{[], map, ap, ◌∙◌}
use Rattle.sy_looks.proofs.LookLemmas.{chained}
use Rattle.sy_looks.specs.Looked.{looked}
use Rattle.sy_rules.specs.Foreign.{type_word}
use Rattle.sy_rules.specs.Outcome.{and_then}
use Rattle.sy_rules.specs.Walk.{arguments, judged, no_role}
use Rattle.sy_tree.specs.declared.tree.Argument.TheOpen.{Expr-F}
use Rattle.sy_typed.specs.declared.tree.TypedNode.TheVariants as node
use Rattle.sy_walk.proofs.below.Below.construct.Goals as goal
use Rattle.sy_walk.specs.Trees.{argument}

pub returns : goal.returns
returns g c =
    let w = c.args.w.now in
    let t = c.args.t.now in
    let b = c.args.b in
    let s = c.args.s in
    let e = c.args.e in
    let k = c.taken_by_object-taken.result in
    let xs = map argument c.args.xs.now in
    chained (arguments k no_role [] xs) (λ p. judged (Expr-F.Construct t b s p.0 e) (node.Construct p.1 e) (type_word t)) w c.arguments.new.w c.judge_construct.new.w _ c.judge_construct.result c.in_ok-xs.ensures c.judge_construct.ensures
    ∙ ap (λ z. looked (λ n. and_then (arguments z no_role [] xs n) (λ p. judged (Expr-F.Construct t b s p.0 e) (node.Construct p.1 e) (type_word t))) w) c.taken_by_object-taken.ensures
