use Rattle.std.proofs.Common.{◌≡◌, drop}
use Rattle.sy_rules.specs.Fit.{each_integer}
use Rattle.sy_fits.proofs.fits.each_integer.Given as goal

abbrev pub invariant-loop-x : goal.invariant-loop-x
invariant-loop-x l = each_integer (drop l.x-index l.xs) ≡ each_integer l.xs
