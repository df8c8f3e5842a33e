use Rattle.std.proofs.Common.{◌≡◌, drop}
use Rattle.std.specs.Prelude.{flat_map}
use Rattle.sy_note.specs.declared.Code.TheVariants as code
use Rattle.sy_rules.specs.Faults.{at}
use Rattle.sy_rules.specs.Seen.{unread}
use Rattle.sy_findings.specs.Told.{told}
use Rattle.sy_calls.proofs.arguments.all_read.Given as goal

abbrev pub invariant-loop-a : goal.invariant-loop-a
invariant-loop-a l = told l.findings (at code.ModeBroken (flat_map unread (drop l.a-index l.xs))) ≡ told l.initial.findings (at code.ModeBroken (flat_map unread l.xs))
