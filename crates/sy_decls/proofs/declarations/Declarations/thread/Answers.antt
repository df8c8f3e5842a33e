use Rattle.std.proofs.Common.{refl, ap}
use Rattle.sy_reading.specs.Stmts.{thread}
use Rattle.sy_cursor.proofs.StepLaws.{reads_ok, reads_err, err_exit}
use Rattle.sy_decls.proofs.declarations.Declarations.thread.Goals as goal

pub returns-in_err-variable-2 : goal.returns-in_err-variable-2
unfolding thread
returns-in_err-variable-2 g c = err_exit _ _ _ _ c.from_residual-in_err-variable-2.ensures.1 (λ ne. rw (c.in_ok-variable.ensures, reads_err _ c.expect_open.ensures c.in_err-variable-2.ensures.stopped ne) refl)

pub returns-in_err-variable-3 : goal.returns-in_err-variable-3
unfolding thread
returns-in_err-variable-3 g c = err_exit _ _ _ _ c.from_residual-in_err-variable-3.ensures.1 (λ ne. rw (c.in_ok-variable.ensures, reads_ok c.expect_open.ensures c.in_ok-variable-2.ensures.ok.1, reads_err _ c.one_lambda.ensures c.in_err-variable-3.ensures.stopped ne) refl)

pub returns-in_err-variable-4 : goal.returns-in_err-variable-4
unfolding thread
returns-in_err-variable-4 g c = err_exit _ _ _ _ c.from_residual-in_err-variable-4.ensures.1 (λ ne. rw (c.in_ok-variable.ensures, reads_ok c.expect_open.ensures c.in_ok-variable-2.ensures.ok.1, reads_ok c.one_lambda.ensures c.in_ok-variable-3.ensures.ok.1, reads_err _ c.expect_close.ensures c.in_err-variable-4.ensures.stopped ne) refl)

pub returns-in_err-variable-5 : goal.returns-in_err-variable-5
unfolding thread
returns-in_err-variable-5 g c = err_exit _ _ _ _ c.from_residual-in_err-variable-5.ensures.1 (λ ne. rw (c.in_ok-variable.ensures, reads_ok c.expect_open.ensures c.in_ok-variable-2.ensures.ok.1, reads_ok c.one_lambda.ensures c.in_ok-variable-3.ensures.ok.1, reads_ok c.expect_close.ensures c.in_ok-variable-4.ensures.ok.1, reads_err _ c.expect.ensures c.in_err-variable-5.ensures.stopped ne) refl)

pub returns : goal.returns
unfolding thread
returns g c = rw (c.in_ok-variable.ensures, reads_ok c.expect_open.ensures c.in_ok-variable-2.ensures.ok.1, reads_ok c.one_lambda.ensures c.in_ok-variable-3.ensures.ok.1, reads_ok c.expect_close.ensures c.in_ok-variable-4.ensures.ok.1, reads_ok c.expect.ensures c.in_ok-variable-5.ensures.ok.1, ← c.in_ok-variable-2.ensures.ok.0, ← c.in_ok-variable-3.ensures.ok.0, ← ap (λ p. p.0) c.in_ok-variable-4.ensures.ok.0, ← ap (λ p. p.1) c.in_ok-variable-4.ensures.ok.0, ← ap (λ p. p.0) c.in_ok-variable-5.ensures.ok.0, ← ap (λ p. p.1) c.in_ok-variable-5.ensures.ok.0) refl
