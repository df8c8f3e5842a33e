use Rattle.std.proofs.Common.{refl, ap}
use Rattle.sy_reading.specs.Stmts.{integer_vector}
use Rattle.sy_cursor.proofs.StepLaws.{reads_ok, reads_err, err_exit}
use Rattle.sy_decls.proofs.declarations.Declarations.integer_vector.Goals as goal

pub returns-in_err-name-2 : goal.returns-in_err-name-2
unfolding integer_vector
returns-in_err-name-2 g c = err_exit _ _ _ _ c.from_residual-in_err-name-2.ensures.1 (λ ne. rw (c.in_ok-element.ensures, c.in_ok-expect.ensures, c.in_ok-name.ensures, reads_err _ c.maybe_initializer.ensures c.in_err-name-2.ensures.stopped ne) refl)

pub returns-in_err-name-3 : goal.returns-in_err-name-3
unfolding integer_vector
returns-in_err-name-3 g c = err_exit _ _ _ _ c.from_residual-in_err-name-3.ensures.1 (λ ne. rw (c.in_ok-element.ensures, c.in_ok-expect.ensures, c.in_ok-name.ensures, reads_ok c.maybe_initializer.ensures c.in_ok-name-2.ensures.ok.1, reads_err _ c.expect-2.ensures c.in_err-name-3.ensures.stopped ne) refl)

pub returns : goal.returns
unfolding integer_vector
returns g c = rw (c.in_ok-element.ensures, c.in_ok-expect.ensures, c.in_ok-name.ensures, reads_ok c.maybe_initializer.ensures c.in_ok-name-2.ensures.ok.1, reads_ok c.expect-2.ensures c.in_ok-name-3.ensures.ok.1, ← c.in_ok-name-2.ensures.ok.0, ← ap (λ p. p.0) c.in_ok-name-3.ensures.ok.0, ← ap (λ p. p.1) c.in_ok-name-3.ensures.ok.0) refl
