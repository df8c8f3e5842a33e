use Rattle.std.proofs.Common.{◌≡◌, ◌∙◌, ap, arith, ◌<◌, length, vec_len, rules}
use Rattle.std.specs.Prelude.{slice_set}
use Rattle.sy_onecopy.specs.Settle.{with_stage}
use Rattle.sy_board.proofs.ListLemmas.{changed_at-set, changed_at-past}
use Rattle.sy_board.proofs.board.set_stage.Goals as goal

pub returns-then-k-len : goal.returns-then-k-len
returns-then-k-len c =
    let n : vec_len c.args.entries.now ≡ length c.args.entries.now.items = search rules in
    let lt : c.args.k < length c.args.entries.now.items = omega (arith, c.len.ensures, n) in
    ap (λ x. slice_set c.args.entries.now.items c.args.k (with_stage c.args.s x)) c.index_mut.ensures.value
    ∙ changed_at-set (with_stage c.args.s) c.args.k c.args.entries.now.items c.index_mut.result.now lt

pub returns-else-k-len : goal.returns-else-k-len
returns-else-k-len c =
    let n : vec_len c.args.entries.now ≡ length c.args.entries.now.items = search rules in
    changed_at-past (with_stage c.args.s) c.args.k c.args.entries.now.items (omega (arith, c.len.ensures, n))
