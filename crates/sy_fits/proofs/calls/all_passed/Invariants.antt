use Rattle.std.proofs.Common.{◌≡◌, drop}
use Rattle.sy_rules.specs.Calls.{all_passed}
use Rattle.sy_fits.proofs.calls.all_passed.Given as goal

abbrev pub invariant-loop-p : goal.invariant-loop-p
invariant-loop-p l = all_passed (drop l.p-index l.ps) l.rest ≡ all_passed l.ps l.xs
