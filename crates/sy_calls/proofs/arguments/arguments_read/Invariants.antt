use Rattle.std.proofs.Common.{◌≡◌, drop}
use Rattle.sy_note.specs.declared.Code.TheVariants as code
use Rattle.sy_rules.specs.Faults.{at}
use Rattle.sy_rules.specs.ExprRules.{unread_arguments}
use Rattle.sy_findings.specs.Told.{told}
use Rattle.sy_calls.proofs.arguments.arguments_read.Given as goal

abbrev pub invariant-loop-x : goal.invariant-loop-x
invariant-loop-x l = told l.findings (at code.ModeBroken (unread_arguments (drop l.x-index l.xs))) ≡ told l.initial.findings (at code.ModeBroken (unread_arguments l.xs))
