use Rattle.std.proofs.Common.{◌∙◌}
use Rattle.sy_copies.proofs.RenewalLemmas.{renewed_kept, renewed_zeros}
use Rattle.sy_copies.proofs.cells.renew.Goals as goal
use Rattle.sy_copies.proofs.cells.renew.Goals.{then-from_zeros, else-from_zeros}

pub returns : goal.returns
returns c =
    elim c.if-from_zeros.branch [
      | then-from_zeros w ↦ rw w.if-from_zeros.true (renewed_zeros c.args.needs.now c.args.log.now c.args.root c.args.cells.now c.if-from_zeros.cells c.put_written.new.cells (w.cells-is ∙ w.zero_run.ensures) c.put_written.ensures)
      | else-from_zeros w ↦ rw w.if-from_zeros.false (renewed_kept c.args.needs.now c.args.log.now c.args.root c.args.cells.now c.if-from_zeros.cells c.put_written.new.cells (w.cells-is ∙ w.clear_unwanted.ensures) c.put_written.ensures)
    ]
