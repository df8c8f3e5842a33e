use Rattle.std.proofs.Common.{refl}
use Rattle.sy_reading.specs.Reading.{read_expr, read_stmt}
use Rattle.sy_cursor.proofs.StepLaws.{reads_ok, reads_err, err_exit}
use Rattle.sy_postfix.proofs.MemberLemmas.{member_parts}
use Rattle.sy_postfix.proofs.postfix.PostfixExpressions.member.Goals as goal

pub returns-in_err-base-2 : goal.returns-in_err-base-2
returns-in_err-base-2 g c =
    err_exit _ _ _ _ c.from_residual-in_err-base-2.ensures.1
    (λ ne. rw (
      member_parts (read_expr c.args.self.now.below.depth) (read_stmt c.args.self.now.below.depth) c.args.base _ _ _ (reads_ok c.expect.ensures c.in_ok-base.ensures.ok.1),
      reads_err _ c.member_name.ensures c.in_err-base-2.ensures.stopped ne,
    ) refl)

pub returns : goal.returns
returns g c =
    rw (
      member_parts (read_expr c.args.self.now.below.depth) (read_stmt c.args.self.now.below.depth) c.args.base _ _ _ (reads_ok c.expect.ensures c.in_ok-base.ensures.ok.1),
      reads_ok c.member_name.ensures c.in_ok-base-2.ensures.ok.1,
      ← c.in_ok-base.ensures.ok.0,
      ← c.in_ok-base-2.ensures.ok.0,
    )
    c.member_call.ensures
