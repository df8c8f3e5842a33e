use Rattle.std.proofs.Common.{◌≡◌, drop, map}
use Rattle.sy_rules.specs.declared.names.Names.{Names}
use Rattle.sy_rules.specs.Walk.{all_captures}
use Rattle.sy_captures.specs.Taken.{name_found}
use Rattle.sy_captures.proofs.captures.declare_captures.Given as goal

abbrev pub invariant-loop-i : goal.invariant-loop-i
invariant-loop-i l = (n : Names) → l.outside ≡ map (name_found n) l.cs
    → (all_captures n l.t (drop l.i l.cs) l.names).names ≡ (all_captures n l.t l.cs l.fn.names).names
