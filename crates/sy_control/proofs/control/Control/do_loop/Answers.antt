use Rattle.std.proofs.Common.{refl, ap}
use Rattle.sy_reading.specs.Stmts.{do_loop}
use Rattle.sy_cursor.proofs.StepLaws.{reads_ok, reads_err, err_exit}
use Rattle.sy_control.proofs.control.Control.do_loop.Goals as goal

pub returns-in_err-body : goal.returns-in_err-body
unfolding do_loop
returns-in_err-body g c = err_exit _ _ _ _ c.from_residual-in_err-body.ensures.1 (λ ne. rw (c.in_ok-spot.ensures, c.in_err-body.ensures ne) refl)

pub returns-in_err-body-2 : goal.returns-in_err-body-2
unfolding do_loop
returns-in_err-body-2 g c = err_exit _ _ _ _ c.from_residual-in_err-body-2.ensures.1 (λ ne. rw (c.in_ok-spot.ensures, c.in_ok-body.ensures, reads_err _ c.expect-2.ensures c.in_err-body-2.ensures.stopped ne) refl)

pub returns-in_err-body-3 : goal.returns-in_err-body-3
unfolding do_loop
returns-in_err-body-3 g c = err_exit _ _ _ _ c.from_residual-in_err-body-3.ensures.1 (λ ne. rw (c.in_ok-spot.ensures, c.in_ok-body.ensures, reads_ok c.expect-2.ensures c.in_ok-body-2.ensures.ok.1, reads_err _ c.condition.ensures c.in_err-body-3.ensures.stopped ne) refl)

pub returns-in_err-body-4 : goal.returns-in_err-body-4
unfolding do_loop
returns-in_err-body-4 g c = err_exit _ _ _ _ c.from_residual-in_err-body-4.ensures.1 (λ ne. rw (c.in_ok-spot.ensures, c.in_ok-body.ensures, reads_ok c.expect-2.ensures c.in_ok-body-2.ensures.ok.1, reads_ok c.condition.ensures c.in_ok-body-3.ensures.ok.1, reads_err _ c.expect-3.ensures c.in_err-body-4.ensures.stopped ne) refl)

pub returns : goal.returns
unfolding do_loop
returns g c = rw (c.in_ok-spot.ensures, c.in_ok-body.ensures, reads_ok c.expect-2.ensures c.in_ok-body-2.ensures.ok.1, reads_ok c.condition.ensures c.in_ok-body-3.ensures.ok.1, reads_ok c.expect-3.ensures c.in_ok-body-4.ensures.ok.1, ← c.in_ok-body-2.ensures.ok.0, ← c.in_ok-body-3.ensures.ok.0, ← ap (λ p. p.0) c.in_ok-body-4.ensures.ok.0, ← ap (λ p. p.1) c.in_ok-body-4.ensures.ok.0, ← c.max.ensures) c.stmt_node.ensures
