use Rattle.std.proofs.Common.{◌≡◌, ◌≢◌, ◌⊎◌, ℕ, Bool, true}
use Rattle.sy_index.specs.Lists.{Has}
use Rattle.sy_index.specs.Listed.{by_root}
use Rattle.sy_index.specs.Slots.{superseded_at}
use Rattle.sy_index.proofs.roots.Roots.shed.Given as goal

abbrev pub invariant-loop-need : goal.invariant-loop-need
invariant-loop-need l = (w : Bool) (k m : ℕ) → Has (by_root l.initial.self w k) m → Has (by_root l.self w k) m ⊎ ((m ≢ l.n) × (superseded_at l.slots m k l.y ≡ true))
