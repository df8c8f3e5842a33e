use Rattle.std.proofs.Common.{◌≡◌, ℕ, map, Bor}
use Rattle.sy_index.specs.Slots.{unlinked}
use Rattle.sy_index.proofs.slot.Slots.unlink_all.Given as goal

abbrev pub invariant-loop-m : goal.invariant-loop-m
invariant-loop-m l = l.self ≡ unlinked l.initial.self (map (λ (m : Bor ℕ). m.now) l.yielded)
