use Rattle.std.proofs.Common.{refl, ap}
use Rattle.sy_reading.specs.Exprs.{construct}
use Rattle.sy_cursor.proofs.StepLaws.{reads_ok, reads_err, err_exit}
use Rattle.sy_exprs.proofs.primary.Primaries.construct.Goals as goal

pub returns-in_err-object-3 : goal.returns-in_err-object-3
unfolding construct
returns-in_err-object-3 g c =
    err_exit _ _ _ _ c.from_residual-in_err-object-3.ensures.1
    (λ ne. rw (c.in_ok-object.ensures, reads_ok c.expect_open.ensures c.in_ok-object-2.ensures.ok.1, reads_err _ c.arguments_within.ensures c.in_err-object-3.ensures.stopped ne) refl)

pub returns-in_err-object-4 : goal.returns-in_err-object-4
unfolding construct
returns-in_err-object-4 g c =
    err_exit _ _ _ _ c.from_residual-in_err-object-4.ensures.1
    (λ ne. rw (
      c.in_ok-object.ensures,
      reads_ok c.expect_open.ensures c.in_ok-object-2.ensures.ok.1,
      reads_ok c.arguments_within.ensures c.in_ok-object-3.ensures.ok.1,
      reads_err _ c.expect_close.ensures c.in_err-object-4.ensures.stopped ne,
    ) refl)

pub returns : goal.returns
unfolding construct
returns g c =
    rw (
      c.in_ok-object.ensures,
      reads_ok c.expect_open.ensures c.in_ok-object-2.ensures.ok.1,
      reads_ok c.arguments_within.ensures c.in_ok-object-3.ensures.ok.1,
      reads_ok c.expect_close.ensures c.in_ok-object-4.ensures.ok.1,
      ← c.in_ok-object-2.ensures.ok.0,
      ← c.in_ok-object-3.ensures.ok.0,
      ← ap (λ p. p.0) c.in_ok-object-4.ensures.ok.0,
      ← ap (λ p. p.1) c.in_ok-object-4.ensures.ok.0,
      ← ap (λ p. p.0) c.in_ok-object-5.ensures,
      ← ap (λ p. p.1) c.in_ok-object-5.ensures,
    ) c.expr_node.ensures
