use Rattle.std.proofs.Common.{None, ap, ◌∙◌}
use Rattle.sy_bodies.proofs.StepLemmas.{judged_statement}
use Rattle.sy_bodies.proofs.judged.judge_for.Goals as goal
use Rattle.sy_findings.specs.Told.{told}
use Rattle.sy_looks.specs.Looked.{looked}
use Rattle.sy_rules.specs.Layers.{SeenStmt}
use Rattle.sy_rules.specs.StmtRules.{stmt_faults}
use Rattle.sy_rules.specs.Walk.{first_seen, first_typed, stmt_judged}
use Rattle.sy_tree.specs.declared.tree.Argument.TheOpen.{Stmt-F}
use Rattle.sy_typed.specs.declared.tree.TypedStmt.TheVariants as typed

pub returns : goal.returns
returns c =
    let w = c.args.w.now in
    let s = c.args.s in
    let q = c.apart-seen.result in
    let x : SeenStmt = Stmt-F.For s tt (first_seen c.args.p) None tt in
    judged_statement x (typed.For s c.args.x q.1 c.full_tree-step.result c.args.y) w _ _
    (c.maybe_condition.ensures w.names.setting s tt tt None
    ∙ ap (λ f. told f (stmt_faults w.names.setting (Stmt-F.For s tt q.0 None tt))) c.new-own.ensures
    ∙ ap (λ a. told None (stmt_faults w.names.setting (Stmt-F.For s tt a None tt))) c.apart-seen.ensures.seen)
    c.add.ensures
    ∙ ap (λ v. looked (stmt_judged x (typed.For s c.args.x v c.full_tree-step.result c.args.y)) w) c.apart-seen.ensures.tree
    ∙ ap (λ v. looked (stmt_judged x (typed.For s c.args.x (first_typed c.args.p) v c.args.y)) w) c.full_tree-step.ensures
