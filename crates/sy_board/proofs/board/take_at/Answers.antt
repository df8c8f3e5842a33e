use Rattle.std.proofs.Common.{◌≡◌, ◌∙◌, ap, sym, arith, ◌<◌, ◌≤◌, length, vec_len, rules}
use Rattle.std.specs.Prelude.{slice_set}
use Rattle.std.proofs.lemmas.Option.{slice_get_past}
use Rattle.sy_onecopy.specs.Step.{once_heard}
use Rattle.sy_board.specs.Turns.{due_of}
use Rattle.sy_board.proofs.ListLemmas.{changed_at-set, changed_at-past}
use Rattle.sy_board.proofs.board.take_at.Goals as goal

pub returns-then-k-len-clause-answer : goal.returns-then-k-len-clause-answer
returns-then-k-len-clause-answer c =
    let n : vec_len c.args.waits.now ≡ length c.args.waits.now.items = search rules in
    let le : length c.args.waits.now.items ≤ c.args.k = omega (arith, c.len.ensures, n) in
    ap due_of (sym (slice_get_past c.args.waits.now.items c.args.k le))

pub returns-then-k-len-clause-heard : goal.returns-then-k-len-clause-heard
returns-then-k-len-clause-heard c =
    let n : vec_len c.args.waits.now ≡ length c.args.waits.now.items = search rules in
    changed_at-past once_heard c.args.k c.args.waits.now.items (omega (arith, c.len.ensures, n))

pub returns-clause-heard : goal.returns-clause-heard
returns-clause-heard c =
    let n : vec_len c.args.waits.now ≡ length c.args.waits.now.items = search rules in
    let lt : c.args.k < length c.args.waits.now.items = omega (arith, c.len.ensures, n) in
    ap (slice_set c.args.waits.now.items c.args.k) (c.take_due.ensures.heard ∙ ap once_heard c.index_mut.ensures.value)
    ∙ changed_at-set once_heard c.args.k c.args.waits.now.items c.index_mut.result.now lt
