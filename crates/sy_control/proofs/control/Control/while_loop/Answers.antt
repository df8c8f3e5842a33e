use Rattle.std.proofs.Common.{refl, ap}
use Rattle.sy_reading.specs.Stmts.{while_loop}
use Rattle.sy_cursor.proofs.StepLaws.{reads_ok, reads_err, err_exit}
use Rattle.sy_control.proofs.control.Control.while_loop.Goals as goal

pub returns-in_err-test : goal.returns-in_err-test
unfolding while_loop
returns-in_err-test g c = err_exit _ _ _ _ c.from_residual-in_err-test.ensures.1 (λ ne. rw (c.in_ok-spot.ensures, c.in_err-test.ensures ne) refl)

pub returns-in_err-test-2 : goal.returns-in_err-test-2
unfolding while_loop
returns-in_err-test-2 g c = err_exit _ _ _ _ c.from_residual-in_err-test-2.ensures.1 (λ ne. rw (c.in_ok-spot.ensures, c.in_ok-test.ensures, reads_err _ c.body.ensures c.in_err-test-2.ensures.stopped ne) refl)

pub returns : goal.returns
unfolding while_loop
returns g c = rw (c.in_ok-spot.ensures, c.in_ok-test.ensures, reads_ok c.body.ensures c.in_ok-test-2.ensures.ok.1, ← c.in_ok-test-2.ensures.ok.0, ← c.max.ensures) c.stmt_node.ensures
