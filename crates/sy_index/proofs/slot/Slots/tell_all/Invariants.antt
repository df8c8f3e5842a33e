use Rattle.std.proofs.Common.{◌≡◌, take}
use Rattle.sy_index.specs.Slots.{told}
use Rattle.sy_index.proofs.slot.Slots.tell_all.Given as goal

abbrev pub invariant-loop-m : goal.invariant-loop-m
invariant-loop-m l = l.self ≡ told l.initial.self (take l.m-index l.ms)
