use Rattle.std.proofs.Common.{refl, ap}
use Rattle.sy_reading.specs.Stmts.{plain_for}
use Rattle.sy_cursor.proofs.StepLaws.{reads_ok, reads_err, err_exit}
use Rattle.sy_pexpr.proofs.statements.Statements.plain_for.Goals as goal

pub returns-in_err-init : goal.returns-in_err-init
unfolding plain_for
returns-in_err-init g c = err_exit _ _ _ _ c.from_residual.ensures.1 (λ ne. rw (c.in_err-init.ensures ne) refl)

pub returns-in_err-init-2 : goal.returns-in_err-init-2
unfolding plain_for
returns-in_err-init-2 g c = err_exit _ _ _ _ c.from_residual-in_err-init-2.ensures.1 (λ ne. rw (c.in_ok-init.ensures, reads_err _ c.maybe_expr.ensures c.in_err-init-2.ensures.stopped ne) refl)

pub returns-in_err-init-3 : goal.returns-in_err-init-3
unfolding plain_for
returns-in_err-init-3 g c = err_exit _ _ _ _ c.from_residual-in_err-init-3.ensures.1 (λ ne. rw (c.in_ok-init.ensures, reads_ok c.maybe_expr.ensures c.in_ok-init-2.ensures.ok.1, reads_err _ c.expect.ensures c.in_err-init-3.ensures.stopped ne) refl)

pub returns-in_err-init-4 : goal.returns-in_err-init-4
unfolding plain_for
returns-in_err-init-4 g c = err_exit _ _ _ _ c.from_residual-in_err-init-4.ensures.1 (λ ne. rw (c.in_ok-init.ensures, reads_ok c.maybe_expr.ensures c.in_ok-init-2.ensures.ok.1, reads_ok c.expect.ensures c.in_ok-init-3.ensures.ok.1, reads_err _ c.maybe_full.ensures c.in_err-init-4.ensures.stopped ne) refl)

pub returns-in_err-init-5 : goal.returns-in_err-init-5
unfolding plain_for
returns-in_err-init-5 g c = err_exit _ _ _ _ c.from_residual-in_err-init-5.ensures.1 (λ ne. rw (c.in_ok-init.ensures, reads_ok c.maybe_expr.ensures c.in_ok-init-2.ensures.ok.1, reads_ok c.expect.ensures c.in_ok-init-3.ensures.ok.1, reads_ok c.maybe_full.ensures c.in_ok-init-4.ensures.ok.1, reads_err _ c.expect-2.ensures c.in_err-init-5.ensures.stopped ne) refl)

pub returns-in_err-init-6 : goal.returns-in_err-init-6
unfolding plain_for
returns-in_err-init-6 g c = err_exit _ _ _ _ c.from_residual-in_err-init-6.ensures.1 (λ ne. rw (c.in_ok-init.ensures, reads_ok c.maybe_expr.ensures c.in_ok-init-2.ensures.ok.1, reads_ok c.expect.ensures c.in_ok-init-3.ensures.ok.1, reads_ok c.maybe_full.ensures c.in_ok-init-4.ensures.ok.1, reads_ok c.expect-2.ensures c.in_ok-init-5.ensures.ok.1, reads_err _ c.body.ensures c.in_err-init-6.ensures.stopped ne) refl)

pub returns : goal.returns
unfolding plain_for
returns g c = rw (c.in_ok-init.ensures, reads_ok c.maybe_expr.ensures c.in_ok-init-2.ensures.ok.1, reads_ok c.expect.ensures c.in_ok-init-3.ensures.ok.1, reads_ok c.maybe_full.ensures c.in_ok-init-4.ensures.ok.1, reads_ok c.expect-2.ensures c.in_ok-init-5.ensures.ok.1, reads_ok c.body.ensures c.in_ok-init-6.ensures.ok.1, ← c.in_ok-init-2.ensures.ok.0, ← ap (λ p. p.0) c.in_ok-init-3.ensures.ok.0, ← ap (λ p. p.1) c.in_ok-init-3.ensures.ok.0, ← ap (λ p. p.0) c.in_ok-init-4.ensures.ok.0, ← ap (λ p. p.1) c.in_ok-init-4.ensures.ok.0, ← ap (λ p. p.0) c.in_ok-init-5.ensures.ok.0, ← ap (λ p. p.1) c.in_ok-init-5.ensures.ok.0, ← ap (λ p. p.2) c.in_ok-init-5.ensures.ok.0, ← ap (λ p. p.0) c.in_ok-init-6.ensures.ok.0, ← ap (λ p. p.1) c.in_ok-init-6.ensures.ok.0, ← ap (λ p. p.2) c.in_ok-init-6.ensures.ok.0, ← c.max.ensures, ← c.max-2.ensures, ← c.max-height.ensures) c.stmt_node.ensures
