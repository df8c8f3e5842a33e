use Rattle.std.proofs.Common.{◌≡◌, ◌<◌, ◌||◌, ℕ, false, drop, length, get_or}
use Rattle.std.specs.List.{list_any}
use Rattle.sy_units.specs.Calls.{makes_to}
use Rattle.sy_units.proofs.held.mark_calls.Given as goal

abbrev pub invariant-loop-c : goal.invariant-loop-c
invariant-loop-c l = record {
  len : length l.called ≡ length l.fn.called;
  marked : (i : ℕ) → i < length l.fn.called
      → (list_any (makes_to l.in_kernels l.is_called i) (drop l.c-index l.calls) || get_or l.called i false) ≡ (list_any (makes_to l.in_kernels l.is_called i) l.calls || get_or l.fn.called i false);
}
