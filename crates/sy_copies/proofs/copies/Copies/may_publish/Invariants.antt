use Rattle.std.proofs.Common.{ℕ, IsTrue, take}
use Rattle.sy_needs.specs.Versions.{renews}
use Rattle.sy_copies.specs.Calls.{MayRenew}
use Rattle.sy_copies.proofs.copies.Copies.may_publish.Given as goal

abbrev pub invariant-loop-need : goal.invariant-loop-need
invariant-loop-need l = (b : ℕ) → IsTrue (renews (take l.need-index l.needs) b) → MayRenew l.self l.place l.needs b
