use Rattle.std.proofs.Common.{None, ap, ◌∙◌}
use Rattle.sy_bodies.proofs.StepLemmas.{judged_statement}
use Rattle.sy_bodies.proofs.judged.judge_return.Goals as goal
use Rattle.sy_findings.specs.Told.{told}
use Rattle.sy_looks.specs.Looked.{looked}
use Rattle.sy_rules.specs.Layers.{SeenStmt}
use Rattle.sy_rules.specs.StmtRules.{stmt_faults}
use Rattle.sy_rules.specs.Walk.{first_seen, stmt_judged}
use Rattle.sy_tree.specs.declared.tree.Argument.TheOpen.{Stmt-F}
use Rattle.sy_typed.specs.declared.tree.TypedStmt.TheVariants as typed

pub returns : goal.returns
returns c =
    let w = c.args.w.now in
    let s = c.args.s in
    let e = c.args.e in
    let q = c.apart-seen.result in
    let x : SeenStmt = Stmt-F.Return s (first_seen c.args.p) e in
    judged_statement x (typed.Return s q.1 e) w _ _
    (c.return_from.ensures e
    ∙ ap (λ f. told f (stmt_faults c.setting.result (Stmt-F.Return s q.0 e))) c.new-own.ensures
    ∙ ap (λ t. told None (stmt_faults t (Stmt-F.Return s q.0 e))) c.setting.ensures
    ∙ ap (λ a. told None (stmt_faults w.names.setting (Stmt-F.Return s a e))) c.apart-seen.ensures.seen)
    c.add.ensures
    ∙ ap (λ v. looked (stmt_judged x (typed.Return s v e)) w) c.apart-seen.ensures.tree
