use Rattle.std.proofs.Common.{arith}
use Rattle.sy_io.proofs.Searched.{found_exactly, none_unreachable}
use Rattle.sy_io.proofs.calls.CallLog.next_fails.Goals as goal
use Rattle.sy_io.proofs.calls.CallLog.next_fails.Goals.{in-Some, in-None}

pub returns-clause-listed : goal.returns-clause-listed
returns-clause-listed c = elim c.match-number.branch [
  | in-Some w ↦
      let found = found_exactly w.deref.result.now w.in-Some.number w.binary_search.result w.binary_search.ensures.position (rw w.deref.ensures.value c.self.invariant.rising) in
      rw (w.result-is, w.is_ok.ensures.value, ← c.self.view_is) (rw (w.deref.ensures.value, w.in-Some.ensures.1) at found)
  | in-None w ↦
      rw (w.result-is, ← c.self.view_is) (λ no. cc, λ there. absurd (none_unreachable _ _ c.self.invariant (omega (arith, w.in-None.ensures)) there))
]
