use Rattle.std.proofs.Common.{refl, ap}
use Rattle.sy_reading.specs.Stmts.{direct_initializer}
use Rattle.sy_cursor.proofs.StepLaws.{reads_ok, reads_err, err_exit}
use Rattle.sy_decls.proofs.declarations.Declarations.direct_initializer.Goals as goal

pub returns-in_err-items : goal.returns-in_err-items
unfolding direct_initializer
returns-in_err-items g c = err_exit _ _ _ _ c.from_residual-in_err-items.ensures.1 (λ ne. rw (c.in_ok-brackets.ensures, c.in_err-items.ensures ne) refl)

pub returns-in_err-items-2 : goal.returns-in_err-items-2
unfolding direct_initializer
returns-in_err-items-2 g c = err_exit _ _ _ _ c.from_residual-in_err-items-2.ensures.1 (λ ne. rw (c.in_ok-brackets.ensures, c.in_ok-items.ensures, reads_err _ c.expect_close.ensures c.in_err-items-2.ensures.stopped ne) refl)

pub returns : goal.returns
unfolding direct_initializer
returns g c = rw (c.in_ok-brackets.ensures, c.in_ok-items.ensures, reads_ok c.expect_close.ensures c.in_ok-items-2.ensures.ok.1, ← c.in_ok-items-2.ensures.ok.0) refl
