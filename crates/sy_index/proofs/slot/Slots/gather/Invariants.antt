use Rattle.std.proofs.Common.{◌≡◌, ◌++◌, take}
use Rattle.std.specs.List.{filter}
use Rattle.sy_index.specs.Slots.{holds_at}
use Rattle.sy_index.proofs.slot.Slots.gather.Given as goal

abbrev pub invariant-loop-m : goal.invariant-loop-m
invariant-loop-m l = l.into.items ≡ l.initial.into.items ++ filter (holds_at l.self l.y) (take l.m-index l.from)
