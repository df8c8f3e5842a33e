use Rattle.std.proofs.Common.{◌≡◌, drop}
use Rattle.sy_rules.specs.Fit.{all_integers}
use Rattle.sy_fits.proofs.fits.all_integers.Given as goal

abbrev pub invariant-loop-x : goal.invariant-loop-x
invariant-loop-x l = all_integers (drop l.x-index l.xs) ≡ all_integers l.xs
