use Rattle.std.proofs.Common.{◌≡◌, length}
use Rattle.sy_sums.specs.Form.{first_given, unbuilt_printed}
use Rattle.sy_sums.proofs.form.unbuilt_print.Given as goal

abbrev pub invariant-loop-items : goal.invariant-loop-items
invariant-loop-items l = first_given unbuilt_printed l.items ≡ first_given unbuilt_printed l.fn.items

abbrev pub decreases-loop-items : goal.decreases-loop-items
decreases-loop-items l = length l.items
