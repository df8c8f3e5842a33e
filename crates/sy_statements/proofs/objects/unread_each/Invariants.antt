use Rattle.std.proofs.Common.{◌≡◌, drop}
use Rattle.std.specs.Prelude.{flat_map}
use Rattle.sy_findings.specs.Told.{told}
use Rattle.sy_note.specs.declared.Code.TheVariants as code
use Rattle.sy_rules.specs.Faults.{at}
use Rattle.sy_rules.specs.Seen.{unread}
use Rattle.sy_statements.proofs.objects.unread_each.Given as goal

abbrev pub invariant-loop-x : goal.invariant-loop-x
invariant-loop-x l = told l.findings (at code.ModeBroken (flat_map unread (drop l.x-index l.xs))) ≡ told l.fn.findings (at code.ModeBroken (flat_map unread l.xs))
