use Rattle.std.proofs.Common.{refl, ap}
use Rattle.sy_reading.specs.Exprs.{one_lambda}
use Rattle.sy_cursor.proofs.StepLaws.{reads_ok, reads_err, err_exit}
use Rattle.sy_grammar.proofs.grammar.Grammar.one_lambda.Goals as goal

pub returns-in_err-captures-4 : goal.returns-in_err-captures-4
unfolding one_lambda
returns-in_err-captures-4 g c =
    err_exit _ _ _ _ c.from_residual-in_err-captures-4.ensures.1
    (λ ne. rw (
      c.in_ok-spot.ensures,
      c.in_ok-captures.ensures,
      reads_ok c.expect-2.ensures c.in_ok-captures-2.ensures.ok.1,
      reads_ok c.maybe_parameters.ensures c.in_ok-captures-3.ensures.ok.1,
      reads_err _ c.one_block.ensures c.in_err-captures-4.ensures.stopped ne,
    ) refl)

pub returns : goal.returns
unfolding one_lambda
returns g c =
    rw (
      c.in_ok-spot.ensures,
      c.in_ok-captures.ensures,
      reads_ok c.expect-2.ensures c.in_ok-captures-2.ensures.ok.1,
      reads_ok c.maybe_parameters.ensures c.in_ok-captures-3.ensures.ok.1,
      reads_ok c.one_block.ensures c.in_ok-captures-4.ensures.ok.1,
      ← c.in_ok-captures-2.ensures.ok.0,
      ← c.in_ok-captures-3.ensures.ok.0,
      ← ap (λ p. p.0) c.in_ok-captures-4.ensures.ok.0,
      ← ap (λ p. p.1) c.in_ok-captures-4.ensures.ok.0,
    ) c.check_height.ensures
