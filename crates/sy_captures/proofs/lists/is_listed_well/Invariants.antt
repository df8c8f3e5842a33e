use Rattle.std.proofs.Common.{◌≡◌, [], take, drop, reverse}
use Rattle.sy_rules.specs.Lambdas.{is_listed_well}
use Rattle.sy_captures.proofs.lists.is_listed_well.Given as goal

abbrev pub invariant-loop-i : goal.invariant-loop-i
invariant-loop-i l = is_listed_well (reverse (take l.i l.cs)) (drop l.i l.cs) ≡ is_listed_well [] l.cs
