use Rattle.std.proofs.Common.{◌≡◌, take}
use Rattle.sy_index.specs.Slots.{linked}
use Rattle.sy_index.proofs.slot.Slots.link_all.Given as goal

abbrev pub invariant-loop-i : goal.invariant-loop-i
invariant-loop-i l = l.self ≡ linked l.initial.self l.n (take l.i l.ms)
