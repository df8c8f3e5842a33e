use Rattle.std.proofs.Common.{refl}
use Rattle.sy_reading.specs.Exprs.{one_block}
use Rattle.sy_cursor.proofs.StepLaws.{reads_ok, reads_err, err_exit}
use Rattle.sy_grammar.proofs.grammar.Grammar.one_block.Goals as goal

pub returns-in_err-list : goal.returns-in_err-list
unfolding one_block
returns-in_err-list g c = err_exit _ _ _ _ c.from_residual-in_err-list.ensures.1 (λ ne. rw (c.in_ok-spot.ensures, c.in_err-list.ensures ne) refl)

pub returns-in_err-statements : goal.returns-in_err-statements
unfolding one_block
returns-in_err-statements g c = err_exit _ _ _ _ c.from_residual-in_err-statements.ensures.1 (λ ne. rw (c.in_ok-spot.ensures, c.in_ok-list.ensures, reads_err _ c.expect-2.ensures c.in_err-statements.ensures.stopped ne) refl)

pub returns : goal.returns
unfolding one_block
returns g c = rw (c.in_ok-spot.ensures, c.in_ok-list.ensures, reads_ok c.expect-2.ensures c.in_ok-statements.ensures.ok.1, ← c.in_ok-statements.ensures.ok.0) c.check_height.ensures
