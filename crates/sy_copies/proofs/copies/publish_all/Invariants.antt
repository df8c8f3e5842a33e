use Rattle.std.proofs.Common.{◌≡◌, take}
use Rattle.sy_needs.specs.Each.{each_from}
use Rattle.sy_copies.specs.Current.{publish_at}
use Rattle.sy_copies.proofs.copies.publish_all.Given as goal

abbrev pub invariant-loop-k : goal.invariant-loop-k
invariant-loop-k l = l.buffers ≡ each_from (publish_at l.place l.needs l.log (take l.k l.needs)) 0 l.initial.buffers
