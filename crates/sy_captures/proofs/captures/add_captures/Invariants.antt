use Rattle.std.proofs.Common.{◌≡◌, ◌++◌, drop, Option}
use Rattle.sy_found.specs.Noted.{found_in}
use Rattle.sy_found.specs.declared.parts.Place.{Place}
use Rattle.sy_rules.specs.declared.names.Names.{Names}
use Rattle.sy_rules.specs.Walk.{all_captures}
use Rattle.sy_captures.proofs.captures.add_captures.Given as goal

abbrev pub invariant-loop-c : goal.invariant-loop-c
invariant-loop-c l = record {
  noted : (p : Option Place) (n : Names) → found_in p l.found (all_captures l.names l.t (drop l.c-index l.cs) n).found ≡ found_in p l.fn.found (all_captures l.names l.t l.cs n).found;
  taken : (n : Names) → l.captures.items ++ (all_captures l.names l.t (drop l.c-index l.cs) n).what ≡ l.fn.captures.items ++ (all_captures l.names l.t l.cs n).what;
}
