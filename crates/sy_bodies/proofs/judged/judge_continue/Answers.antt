use Rattle.std.proofs.Common.{None, ap, ◌∙◌}
use Rattle.sy_bodies.proofs.StepLemmas.{judged_statement}
use Rattle.sy_bodies.proofs.judged.judge_continue.Goals as goal
use Rattle.sy_findings.specs.Told.{told}
use Rattle.sy_rules.specs.Layers.{SeenStmt}
use Rattle.sy_rules.specs.StmtRules.{stmt_faults}
use Rattle.sy_tree.specs.declared.tree.Argument.TheOpen.{Stmt-F}
use Rattle.sy_typed.specs.declared.tree.TypedStmt.TheVariants as typed

pub returns : goal.returns
returns c =
    let w = c.args.w.now in
    let s = c.args.s in
    let x : SeenStmt = Stmt-F.Continue s c.args.e in
    judged_statement x (typed.Continue s c.args.e) w _ _
    (c.leave_loop.ensures.at_continue c.args.e ∙ ap (λ f. told f (stmt_faults c.setting.result x)) c.new-own.ensures ∙ ap (λ t. told None (stmt_faults t x)) c.setting.ensures)
    c.add.ensures
