use Rattle.std.proofs.Common.{ap, ◌∙◌}
use Rattle.sy_bodies.proofs.StepLemmas.{judged_statement}
use Rattle.sy_bodies.proofs.judged.judge_while.Goals as goal
use Rattle.sy_findings.specs.Told.{told}
use Rattle.sy_rules.specs.Layers.{SeenStmt}
use Rattle.sy_rules.specs.StmtRules.{stmt_faults}
use Rattle.sy_tree.specs.declared.tree.Argument.TheOpen.{Stmt-F}
use Rattle.sy_typed.specs.declared.tree.TypedStmt.TheVariants as typed

pub returns : goal.returns
returns c =
    let w = c.args.w.now in
    let s = c.args.s in
    let x : SeenStmt = Stmt-F.While s c.args.c.0 tt in
    judged_statement x (typed.While s c.args.c.1 c.args.x) w _ _
    (c.condition.ensures.at_while w.names.setting s tt ∙ ap (λ f. told f (stmt_faults w.names.setting x)) c.new-own.ensures)
    c.add.ensures
