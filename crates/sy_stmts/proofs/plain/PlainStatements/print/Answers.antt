use Rattle.std.proofs.Common.{refl, ap}
use Rattle.sy_reading.specs.Stmts.{print}
use Rattle.sy_cursor.proofs.StepLaws.{reads_ok, reads_err, err_exit}
use Rattle.sy_stmts.proofs.plain.PlainStatements.print.Goals as goal

pub returns-in_err-items : goal.returns-in_err-items
unfolding print
returns-in_err-items g c = err_exit _ _ _ _ c.from_residual-in_err-items.ensures.1 (λ ne. rw (c.in_ok-name.ensures, c.in_err-items.ensures ne) refl)

pub returns-in_err-items-2 : goal.returns-in_err-items-2
unfolding print
returns-in_err-items-2 g c = err_exit _ _ _ _ c.from_residual-in_err-items-2.ensures.1 (λ ne. rw (c.in_ok-name.ensures, c.in_ok-items.ensures, reads_err _ c.expect.ensures c.in_err-items-2.ensures.stopped ne) refl)

pub returns : goal.returns
unfolding print
returns g c = rw (c.in_ok-name.ensures, c.in_ok-items.ensures, reads_ok c.expect.ensures c.in_ok-items-2.ensures.ok.1, ← c.in_ok-items-2.ensures.ok.0) c.stmt_node.ensures
