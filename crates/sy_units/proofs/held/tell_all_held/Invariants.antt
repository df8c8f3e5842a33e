use Rattle.std.proofs.Common.{◌≡◌, ◌≤◌, ℕ, List, [], length, reverse, take}
use Rattle.sy_findings.specs.Told.{told}
use Rattle.sy_rules.specs.Units.{Piece, held_back, last_first, found_in_functions}
use Rattle.sy_units.specs.Calls.{within_of, notes_of, Agrees}
use Rattle.sy_units.proofs.held.tell_all_held.Given as goal

abbrev pub invariant-loop-left : goal.invariant-loop-left
invariant-loop-left l = record {
  len : length l.called ≡ length l.fn.called;
  within : l.left ≤ length l.functions;
  told : (ps : List Piece) → l.functions ≡ notes_of ps → Agrees l.fn.called []
      → (is : List ℕ) × Agrees l.called is × (told l.findings (held_back (within_of l.in_kernels) is (reverse (take l.left (found_in_functions 0 ps)))) ≡ told l.fn.findings (held_back (within_of l.in_kernels) [] (last_first ps)));
}

abbrev pub decreases-loop-left : goal.decreases-loop-left
decreases-loop-left l = l.left
