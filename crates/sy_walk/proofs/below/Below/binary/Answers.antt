use Rattle.std.proofs.Common.{ap, subst, ◌∙◌}
use Rattle.sy_looks.proofs.LookLemmas.{chained_to, found_beside}
use Rattle.sy_looks.specs.Looked.{Looked}
use Rattle.sy_rules.specs.Names.{where_taken}
use Rattle.sy_rules.specs.Outcome.{and_then}
use Rattle.sy_rules.specs.Walk.{expr, judged, two_parts}
use Rattle.sy_tree.specs.declared.tree.Argument.TheOpen.{Expr-F}
use Rattle.sy_typed.specs.declared.tree.TypedNode.TheVariants as node
use Rattle.sy_walk.proofs.below.Below.binary.Goals as goal

pub returns : goal.returns
returns g c =
    let w = c.args.w.now in
    let s = c.args.s in
    let op = c.args.op in
    let k = c.taken_beside-taken.result in
    let a = where_taken k (expr c.args.a.now) in
    let b = where_taken k (expr c.args.b.now) in
    subst (λ t. Looked (two_parts t (expr c.args.a.now) (expr c.args.b.now) (λ a b. Expr-F.Binary a s op b) (λ a b. node.Binary a op b) s) w c.judge_binary.result c.judge_binary.new.w) c.taken_beside-taken.ensures
    (chained_to a (λ p n. and_then (b n) (λ q. judged (Expr-F.Binary p.0 s op q.0) (node.Binary p.1 op q.1) s)) w c.part.new.w c.judge_binary.new.w c.in_ok-a-2.a c.judge_binary.result
    (ap (λ p. (p, c.part.new.w)) c.in_ok-a-2.ensures.ok.0 ∙ c.in_ok-a.ensures)
    (chained_to b (λ q. judged (Expr-F.Binary c.in_ok-a-2.a.0 s op q.0) (node.Binary c.in_ok-a-2.a.1 op q.1) s) c.part.new.w c.part-2.new.w c.judge_binary.new.w c.in_ok-a-2.b c.judge_binary.result
    (found_beside b c.part.new.w c.part-2.new.w c.part-2.result c.in_ok-a-2.b c.in_ok-a-2.ensures.ok.1 c.part-2.ensures)
    c.judge_binary.ensures))
