use Rattle.std.proofs.Common.{◌≡◌, ◌<◌, ◌≤◌, arith, length, sym, refl}
use Rattle.sy_plain.proofs.AnswerLemmas.{hearing_none, hearing_step, can_still, due_still, due_there, heard_more, heard_all, told_past}
use Rattle.sy_plain.proofs.hosts.hear_all.Goals as goal

pub loop-k-init : goal.loop-k-init
loop-k-init g c = record { board = refl; hearing = hearing_none g.H.Host.pending g.H.Host.stands _ c.args.hosts.now.items c.args.asks.now.items }

pub hear_at-requires-clause-can : goal.hear_at-requires-clause-can
hear_at-requires-clause-can g c = λ a e.
    let due = due_there c.args.board.now c.loop-k.board c.loop-k.k a c.loop-k.invariant.board e in
    can_still g.H.Host.pending g.H.Host.stands _ c.args.hosts.now.items c.loop-k.hosts.items c.args.asks.now.items c.loop-k.asks.items c.loop-k.k a c.loop-k.invariant.hearing (c.requires.fit c.loop-k.k a due)

pub loop-k-preserved : goal.loop-k-preserved
loop-k-preserved g c =
    let lt : c.loop-k.k < length c.args.asks.now.items = omega arith in
    record {
      board = heard_more c.args.board.now c.loop-k.board c.hear_at.new.board c.loop-k.k c.loop-k.invariant.board c.in_ok-hear_at.ensures.board;
      hearing = hearing_step g.H.Host.pending g.H.Host.stands _ c.args.hosts.now.items c.loop-k.hosts.items c.hear_at.new.hosts.items c.args.asks.now.items c.loop-k.asks.items c.hear_at.new.asks.items c.loop-k.k _ lt (sym (due_still c.args.board.now c.loop-k.board c.loop-k.k c.loop-k.invariant.board)) c.loop-k.invariant.hearing c.in_ok-hear_at.ensures.heard;
    }

pub returns-clause-board : goal.returns-clause-board
returns-clause-board g c =
    let n : c.loop-k.k ≡ length c.args.board.now.waits = omega arith in
    heard_all c.args.board.now c.loop-k.board c.loop-k.k n c.loop-k.invariant.board

pub returns-clause-told : goal.returns-clause-told
returns-clause-told g c =
    let n : length c.args.board.now.waits ≤ c.loop-k.k = omega arith in
    told_past g.H.Host.pending g.H.Host.stands c.args.board.now.waits c.args.hosts.now.items c.loop-k.hosts.items c.args.asks.now.items c.loop-k.asks.items c.loop-k.k n c.loop-k.invariant.hearing
