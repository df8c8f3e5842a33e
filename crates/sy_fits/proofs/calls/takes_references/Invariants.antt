use Rattle.std.proofs.Common.{◌≡◌, drop}
use Rattle.std.specs.List.{list_any}
use Rattle.sy_rules.specs.Calls.{is_reference}
use Rattle.sy_fits.proofs.calls.takes_references.Given as goal

abbrev pub invariant-loop-p : goal.invariant-loop-p
invariant-loop-p l = list_any is_reference (drop l.p-index l.f.parameters) ≡ list_any is_reference l.f.parameters
