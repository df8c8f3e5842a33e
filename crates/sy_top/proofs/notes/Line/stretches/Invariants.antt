use Rattle.std.proofs.Common.{◌≡◌, length}
use Rattle.std.specs.Prelude.{◌++◌}
use Rattle.sy_top.specs.Trace.{stretch_lines, stretches_of}
use Rattle.sy_top.proofs.notes.Line.stretches.Given as goal

-- the text so far and the lines of what is left are the lines of the order
abbrev pub invariant-loop-rest : goal.invariant-loop-rest
invariant-loop-rest l = l.self.text.items ++ stretch_lines (stretches_of l.rest) ≡ l.fn.self.text.items ++ stretch_lines (stretches_of l.order)

abbrev pub decreases-loop-rest : goal.decreases-loop-rest
decreases-loop-rest l = length l.rest
