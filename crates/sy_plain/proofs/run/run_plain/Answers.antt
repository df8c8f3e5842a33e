use Rattle.std.proofs.Common.{◌≡◌, ◌∙◌, [], List, ℕ, Some, None, ap, sym, subst}
use Rattle.sy_onecopy.specs.Sequence.{ending_at}
use Rattle.sy_plain.specs.Hosts.{Seats}
use Rattle.sy_plain.specs.Runs.{Reached, least}
use Rattle.sy_plain.proofs.EndingLemmas.{reached_start}
use Rattle.sy_plain.proofs.RunLemmas.{known_opening, sound_board, few, run_is, legal_first, can_step, more}
use Rattle.sy_plain.proofs.run.run_plain.Goals as goal

pub loop-ending-init : goal.loop-ending-init
loop-ending-init g c =
    let start : Seats g.H.Host.pending g.H.Host.stands c.args.main [] [] c.seat.new.hosts.items c.seat.new.asks.items =
    subst (λ l. Seats g.H.Host.pending g.H.Host.stands c.args.main l [] c.seat.new.hosts.items c.seat.new.asks.items) c.new-hosts.ensures.items
    (subst (λ l. Seats g.H.Host.pending g.H.Host.stands c.args.main c.new-hosts.result.items l c.seat.new.hosts.items c.seat.new.asks.items) c.new-asks.ensures.items c.in_ok-seat.ensures) in
    record {
      known = known_opening (g.R.Runner.knows c.args.runner.now) c.in_ok-board.board c.in_ok-board.ensures;
      reached = λ p bg.
          subst (λ (l : List ℕ). Reached g.H.Host.pending g.H.Host.stands p c.in_ok-board.board c.seat.new.hosts.items c.seat.new.asks.items l) (sym c.new-order.ensures.items)
          (reached_start g.H.Host.pending g.H.Host.stands p c.args.main c.in_ok-board.board c.seat.new.hosts.items c.seat.new.asks.items c.in_ok-board.ensures bg.at start);
    }

pub first_thread-first-requires : goal.first_thread-first-requires
first_thread-first-requires g c =
    let r = c.loop-ending.invariant.reached c.requires.begins.0 c.requires.begins.1 in
    few g.H.Host.pending g.H.Host.stands _ c.loop-ending.board c.loop-ending.hosts.items c.loop-ending.asks.items c.loop-ending.order.items r c.as_slice.result.now c.as_slice.ensures.value

pub copies-requires : goal.copies-requires
copies-requires g c =
    let r = c.loop-ending.invariant.reached c.requires.begins.0 c.requires.begins.1 in
    sound_board g.H.Host.pending g.H.Host.stands _ c.loop-ending.board c.loop-ending.hosts.items c.loop-ending.asks.items c.loop-ending.order.items r

pub returns-in-Some : goal.returns-in-Some
returns-in-Some g c = record {
  run = λ p bg.
      let r = c.loop-ending.invariant.reached p bg in
      run_is g.H.Host.pending g.H.Host.stands p c.loop-ending.board c.loop-ending.hosts.items c.loop-ending.asks.items c.loop-ending.order.items r c.first_thread-first.result c.as_slice.result.now c.in-Some.ending c.into_output.result c.in_ok-copies.copies c.as_slice.ensures.value c.first_thread-first.ensures c.in-Some.ensures c.into_output.ensures c.in_ok-copies.ensures;
  serial = λ p bg. (c.loop-ending.invariant.reached p bg).serial;
}

pub step-requires-clause-can : goal.step-requires-clause-can
step-requires-clause-can g c =
    let b = c.loop-ending.board in
    let t = c.in-Some-first.t in
    let p = c.requires.begins.0 in
    let bg = c.requires.begins.1 in
    let r = c.loop-ending.invariant.reached p bg in
    let first : Some t ≡ least b 0 c.as_slice.result.now = sym c.in-Some-first.is ∙ c.first_thread-first.ensures in
    let none : None ≡ ending_at b (Some t) = c.in_default.ensures ∙ ap (ending_at b) c.in-Some-first.is in
    can_step g.H.Host.pending g.H.Host.stands p b c.loop-ending.hosts.items c.loop-ending.asks.items c.loop-ending.order.items r (g.R.Runner.outcome c.args.runner.now) (g.R.Runner.knows c.args.runner.now) t c.as_slice.result.now bg.outcome c.requires.begins.2 c.as_slice.ensures.value first none

pub loop-ending-preserved : goal.loop-ending-preserved
loop-ending-preserved g c = record {
  known = c.in_ok-step.ensures.known;
  reached = λ p bg.
      let b = c.loop-ending.board in
      let t = c.in-Some-first.t in
      let r = c.loop-ending.invariant.reached p bg in
      let first : Some t ≡ least b 0 c.as_slice.result.now = sym c.in-Some-first.is ∙ c.first_thread-first.ensures in
      let none : None ≡ ending_at b (Some t) = c.in_default.ensures ∙ ap (ending_at b) c.in-Some-first.is in
      more g.H.Host.pending g.H.Host.stands p b c.loop-ending.hosts.items c.loop-ending.asks.items c.loop-ending.order.items r c.step.new.board c.step.new.hosts.items c.step.new.asks.items c.push.new.self.items t c.as_slice.result.now c.as_slice.ensures.value first none c.in_ok-push.ensures.items
      (c.in_ok-step.ensures.holds p c.loop-ending.order.items r.state bg.outcome r.legal (legal_first g.H.Host.pending g.H.Host.stands p b c.loop-ending.hosts.items c.loop-ending.asks.items c.loop-ending.order.items r t c.as_slice.result.now c.as_slice.ensures.value first none) r.holds);
}
