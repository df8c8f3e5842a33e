use Rattle.std.proofs.Common.{◌≡◌, ◌++◌, drop, map}
use Rattle.sy_captures.specs.Taken.{name_found}
use Rattle.sy_captures.proofs.captures.names_found.Given as goal

abbrev pub invariant-loop-c : goal.invariant-loop-c
invariant-loop-c l = l.all.items ++ map (name_found l.names) (drop l.c-index l.cs) ≡ map (name_found l.names) l.cs
