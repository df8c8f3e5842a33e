use Rattle.std.proofs.Common.{[], map, ap, ◌∙◌}
use Rattle.sy_looks.proofs.LookLemmas.{chained}
use Rattle.sy_looks.specs.Looked.{looked}
use Rattle.sy_rules.specs.Outcome.{and_then}
use Rattle.sy_rules.specs.Walk.{arguments, judged, no_role}
use Rattle.sy_tree.specs.declared.tree.Argument.TheOpen.{Expr-F}
use Rattle.sy_typed.specs.declared.tree.TypedNode.TheVariants as node
use Rattle.sy_walk.proofs.below.Below.library_call.Goals as goal
use Rattle.sy_walk.specs.Trees.{argument}

pub returns : goal.returns
returns g c =
    let w = c.args.w.now in
    let q = c.args.q in
    let f = c.args.f in
    let e = c.args.e in
    let k = c.taken_by_library-taken.result in
    let xs = map argument c.args.xs.now in
    chained (arguments k no_role [] xs) (λ p. judged (Expr-F.LibraryCall q f p.0 e) (node.LibraryCall f p.1 e) q.name) w c.arguments.new.w c.judge_library_call.new.w _ c.judge_library_call.result c.in_ok-xs.ensures c.judge_library_call.ensures
    ∙ ap (λ z. looked (λ n. and_then (arguments z no_role [] xs n) (λ p. judged (Expr-F.LibraryCall q f p.0 e) (node.LibraryCall f p.1 e) q.name)) w) c.taken_by_library-taken.ensures
