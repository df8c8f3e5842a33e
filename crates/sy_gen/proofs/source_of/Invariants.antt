use Rattle.std.proofs.Common.{◌+◌, ◌*◌, ◌≤◌, vec_len, vec_capacity}
use Rattle.sy_gen.proofs.Lines.{HasWritten}
use Rattle.sy_gen.proofs.source_of.Given as goal

abbrev pub invariant-loop-group : goal.invariant-loop-group
invariant-loop-group l =
    HasWritten l.seed l._group l.text.items l.draws.last (vec_len l.text)
    × (1647 + 25 * l.groups ≤ vec_capacity l.text)
