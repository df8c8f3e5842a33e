use Rattle.std.proofs.Common.{◌≡◌, ℕ, ◌<◌, Bool, Some}
use Rattle.std.specs.Prelude.{slice_get}
use Rattle.sy_access.specs.declared.access.Need.{Need}
use Rattle.sy_access.specs.Needs.{writes}
use Rattle.sy_index.specs.Lists.{Has}
use Rattle.sy_index.specs.Listed.{by_root}
use Rattle.sy_index.proofs.roots.Roots.enlist.Given as goal

abbrev pub invariant-loop-need : goal.invariant-loop-need
invariant-loop-need l = record {
  named : (i : ℕ) (a : Need) → i < l.need-index → slice_get l.node.needs i ≡ Some a → Has (by_root l.self (writes a.mode) a.buffer) l.n;
  kept : (w : Bool) (k m : ℕ) → Has (by_root l.initial.self w k) m → Has (by_root l.self w k) m;
}
