use Rattle.std.proofs.Common.{refl, ap}
use Rattle.sy_reading.specs.Stmts.{range_for}
use Rattle.sy_cursor.proofs.StepLaws.{reads_ok, reads_err, err_exit}
use Rattle.sy_control.proofs.control.Control.range_for.Goals as goal

pub returns-in_err-name-2 : goal.returns-in_err-name-2
unfolding range_for
returns-in_err-name-2 g c = err_exit _ _ _ _ c.from_residual-in_err-name-2.ensures.1 (λ ne. rw (reads_ok c.expect_row.ensures c.in_ok-name.ensures.ok.1, reads_err _ c.expect.ensures c.in_err-name-2.ensures.stopped ne) refl)

pub returns-in_err-name-3 : goal.returns-in_err-name-3
unfolding range_for
returns-in_err-name-3 g c = err_exit _ _ _ _ c.from_residual-in_err-name-3.ensures.1 (λ ne. rw (reads_ok c.expect_row.ensures c.in_ok-name.ensures.ok.1, reads_ok c.expect.ensures c.in_ok-name-2.ensures.ok.1, reads_err _ c.body.ensures c.in_err-name-3.ensures.stopped ne) refl)

pub returns : goal.returns
unfolding range_for
returns g c = rw (reads_ok c.expect_row.ensures c.in_ok-name.ensures.ok.1, reads_ok c.expect.ensures c.in_ok-name-2.ensures.ok.1, reads_ok c.body.ensures c.in_ok-name-3.ensures.ok.1, ← c.in_ok-name.ensures.ok.0, ← ap (λ p. p.0) c.in_ok-name-2.ensures.ok.0, ← ap (λ p. p.1) c.in_ok-name-2.ensures.ok.0, ← ap (λ p. p.0) c.in_ok-name-3.ensures.ok.0, ← ap (λ p. p.1) c.in_ok-name-3.ensures.ok.0) c.stmt_node.ensures
