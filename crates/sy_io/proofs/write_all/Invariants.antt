use Rattle.std.proofs.Common.{◌≡◌, [], length}
use Rattle.sy_io.proofs.Bytes.{HasSent}
use Rattle.sy_io.proofs.write_all.Given as goal

abbrev pub invariant-loop-rest : goal.invariant-loop-rest
invariant-loop-rest g l =
    HasSent (g.K.Sink.taken l.initial.sink) (g.K.Sink.taken l.sink)
    (g.K.Sink.faults l.initial.sink) (g.K.Sink.faults l.sink) l.bytes l.rest
    × (l.bytes ≡ [] → l.sink ≡ l.initial.sink)

abbrev pub decreases-loop-rest : goal.decreases-loop-rest
decreases-loop-rest g l = length l.rest
