use Rattle.std.proofs.Common.{refl, ap}
use Rattle.sy_reading.specs.Stmts.{try_block}
use Rattle.sy_cursor.proofs.StepLaws.{reads_ok, reads_err, err_exit}
use Rattle.sy_control.proofs.control.Control.try_block.Goals as goal

pub returns-in_err-block : goal.returns-in_err-block
unfolding try_block
returns-in_err-block g c = err_exit _ _ _ _ c.from_residual-in_err-block.ensures.1 (λ ne. rw (c.in_ok-spot.ensures, c.in_err-block.ensures ne) refl)

pub returns-in_err-block-2 : goal.returns-in_err-block-2
unfolding try_block
returns-in_err-block-2 g c = err_exit _ _ _ _ c.from_residual-in_err-block-2.ensures.1 (λ ne. rw (c.in_ok-spot.ensures, c.in_ok-block.ensures, reads_err _ c.handler.ensures c.in_err-block-2.ensures.stopped ne) refl)

pub returns-in_err-block-3 : goal.returns-in_err-block-3
unfolding try_block
returns-in_err-block-3 g c = err_exit _ _ _ _ c.from_residual-in_err-block-3.ensures.1 (λ ne. rw (c.in_ok-spot.ensures, c.in_ok-block.ensures, reads_ok c.handler.ensures c.in_ok-block-2.ensures.ok.1, reads_err _ c.one_block-2.ensures c.in_err-block-3.ensures.stopped ne) refl)

pub returns : goal.returns
unfolding try_block
returns g c = rw (c.in_ok-spot.ensures, c.in_ok-block.ensures, reads_ok c.handler.ensures c.in_ok-block-2.ensures.ok.1, reads_ok c.one_block-2.ensures c.in_ok-block-3.ensures.ok.1, ← c.in_ok-block-2.ensures.ok.0, ← ap (λ p. p.0) c.in_ok-block-3.ensures.ok.0, ← ap (λ p. p.1) c.in_ok-block-3.ensures.ok.0, ← c.max.ensures) c.stmt_node.ensures
