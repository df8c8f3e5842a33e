use Rattle.std.proofs.Common.{ap, sym, ◌∙◌}
use Rattle.sy_bodies.proofs.judged.maybe_condition.Goals as goal
use Rattle.sy_findings.specs.Told.{told}
use Rattle.sy_rules.specs.StmtRules.{stmt_faults}
use Rattle.sy_tree.specs.declared.tree.Argument.TheOpen.{Stmt-F}

pub returns-in-None : goal.returns-in-None
returns-in-None c = λ t s i x f. ap (λ a. told c.args.own.now (stmt_faults t (Stmt-F.For s i a f x))) (sym c.in-None.is)

pub returns-in-Some : goal.returns-in-Some
returns-in-Some c = λ t s i x f. c.condition.ensures.at_for t s i x f ∙ ap (λ a. told c.args.own.now (stmt_faults t (Stmt-F.For s i a f x))) (sym c.in-Some.is)
