use Rattle.std.proofs.Common.{refl, ap}
use Rattle.sy_reading.specs.Stmts.{return_value}
use Rattle.sy_cursor.proofs.StepLaws.{reads_ok, reads_err, err_exit}
use Rattle.sy_stmts.proofs.plain.PlainStatements.return_value.Goals as goal

pub returns-in_err-value : goal.returns-in_err-value
unfolding return_value
returns-in_err-value g c = err_exit _ _ _ _ c.from_residual-in_err-value.ensures.1 (λ ne. rw (c.in_ok-spot.ensures, c.in_err-value.ensures ne) refl)

pub returns-in_err-value-2 : goal.returns-in_err-value-2
unfolding return_value
returns-in_err-value-2 g c = err_exit _ _ _ _ c.from_residual-in_err-value-2.ensures.1 (λ ne. rw (c.in_ok-spot.ensures, c.in_ok-value.ensures, reads_err _ c.expect-2.ensures c.in_err-value-2.ensures.stopped ne) refl)

pub returns : goal.returns
unfolding return_value
returns g c = rw (c.in_ok-spot.ensures, c.in_ok-value.ensures, reads_ok c.expect-2.ensures c.in_ok-value-2.ensures.ok.1, ← c.in_ok-value-2.ensures.ok.0) c.stmt_node.ensures
