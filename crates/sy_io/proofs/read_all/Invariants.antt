use Rattle.std.proofs.Common.{◌-◌, ◌<◌, length, vec_len}
use Rattle.sy_io.proofs.Bytes.{HasRead}
use Rattle.sy_io.proofs.read_all.Given as goal

abbrev pub invariant-loop-all : goal.invariant-loop-all
invariant-loop-all g l =
    HasRead (g.S.Source.left l.initial.source) (g.S.Source.left l.source)
    (g.S.Source.faults l.initial.source) (g.S.Source.faults l.source) l.all.items l.limit
    × (0 < length l.buffer)

abbrev pub decreases-loop-all : goal.decreases-loop-all
decreases-loop-all g l = l.limit - vec_len l.all
