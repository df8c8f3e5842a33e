use Rattle.std.proofs.Common.{refl}
use Rattle.sy_reading.specs.Stmts.{full}
use Rattle.sy_cursor.proofs.StepLaws.{err_exit}
use Rattle.sy_stmts.proofs.plain.PlainStatements.full.Goals as goal

pub returns-in_err-found : goal.returns-in_err-found
unfolding full
returns-in_err-found g c = err_exit _ _ _ _ c.from_residual.ensures.1 (λ ne. rw (c.in_err-found.ensures ne) refl)

pub returns : goal.returns
unfolding full
returns g c = rw (c.in_ok-found.ensures) c.check_height.ensures
