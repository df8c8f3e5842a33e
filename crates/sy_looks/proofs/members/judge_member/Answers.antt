use Rattle.std.proofs.Common.{refl, ap, ◌∙◌}
use Rattle.sy_findings.specs.Told.{told}
use Rattle.sy_looks.proofs.members.judge_member.Goals as goal
use Rattle.sy_looks.specs.Looked.{looked}
use Rattle.sy_rules.specs.ExprRules.{faults}
use Rattle.sy_rules.specs.ExprTypes.{member_or_wait}
use Rattle.sy_rules.specs.Layers.{SeenExpr}
use Rattle.sy_rules.specs.Walk.{judged}
use Rattle.sy_tree.specs.declared.tree.Argument.TheOpen.{Expr-F}
use Rattle.sy_typed.specs.declared.tree.TypedNode.TheVariants as node

pub returns : goal.returns
returns c =
    let w = c.args.w.now in
    let m = c.args.x.now in
    let x : SeenExpr = Expr-F.MemberCall c.args.a m c.args.t.now c.as_slice.result.now c.args.e in
    c.judge.ensures x c.member_call-whole.ensures.seen (c.member_call-whole.ensures.found ∙ ap (λ f. told f (faults w.names x)) c.new-own.ensures) refl refl
    ∙ ap (λ i. looked (judged x (node.MemberCall c.args.object i c.args.xs.1 c.args.e) m.spot) w) (c.member_or_wait-member.ensures ∙ ap member_or_wait c.items.ensures)
    ∙ ap (λ xs. looked (judged (Expr-F.MemberCall c.args.a m c.args.t.now xs c.args.e) (node.MemberCall c.args.object (member_or_wait m.text) c.args.xs.1 c.args.e) m.spot) w) c.as_slice.ensures
