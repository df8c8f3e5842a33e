-- What a step counts, and what an ending rules out.
use Rattle.std.proofs.Common.{◌≡◌, ℕ, zero, suc, ◌+◌, ◌-◌, ◌<◌, ℤ, Bool, true, false, List, [], ◌∷◌, length, Option, Some, None, refl, sym, ap, ◌∙◌, arith, add-one, inl, inr}
use Rattle.std.specs.Prelude.{◌^◌, ◌&&◌, nat_le, nat_lt, ◌==◌, if◌then◌else◌, is_none, slice_get}
use Rattle.std.proofs.lemmas.Option.{slice_get_cases}
use Rattle.sy_access.specs.declared.access.Need.{Need}
use Rattle.sy_access.specs.Needs.{writes}
use Rattle.sy_range.specs.LinearIds.{product}
use Rattle.sy_work.specs.Programs.{Program, OutcomeOf}
use Rattle.sy_work.specs.declared.asks.Ask.{Ask}
use Rattle.sy_work.specs.declared.asks.Ask.TheVariants.{Print, MakeBuffer, MakeSub, EndBuffer, OpenHost, CloseHost, MakeContext, MakeQueue, Submit, WaitNode, WaitQueue, ThrowQueue, Spawn, Join, Finish, Halt, Barrier, Collect}
use Rattle.sy_work.specs.declared.asks.NewBuffer.{NewBuffer}
use Rattle.sy_work.specs.declared.asks.NewQueue.{NewQueue}
use Rattle.sy_work.specs.declared.asks.Submission.{Submission}
use Rattle.sy_work.specs.declared.commands.Outcome.{Outcome}
use Rattle.sy_work.specs.declared.commands.Outcome.TheVariants.{Wrote, Failed}
use Rattle.sy_work.specs.declared.endings.KernelError.{KernelError}
use Rattle.sy_work.specs.declared.endings.Ending.{Ending}
use Rattle.sy_onecopy.specs.declared.Buffer.{Buffer}
use Rattle.sy_onecopy.specs.declared.Origin.{Origin}
use Rattle.sy_onecopy.specs.declared.Origin.TheVariants.{Vector, Range, Part}
use Rattle.sy_onecopy.specs.declared.Queue.{Queue}
use Rattle.sy_onecopy.specs.declared.Entry.{Entry}
use Rattle.sy_onecopy.specs.declared.Work.{Work}
use Rattle.sy_onecopy.specs.declared.Work.TheVariants.{Node, Access, End}
use Rattle.sy_onecopy.specs.declared.Stage.{Stage}
use Rattle.sy_onecopy.specs.declared.Stage.TheVariants as stage
use Rattle.sy_onecopy.specs.declared.Waits.{Waits}
use Rattle.sy_onecopy.specs.State.{Board, State, next_ask}
use Rattle.sy_onecopy.specs.Before.{is_free}
use Rattle.sy_onecopy.specs.Outcome.{inputs}
use Rattle.sy_onecopy.specs.Settle.{took, effect, settle_entry, settle_upto}
use Rattle.sy_onecopy.specs.Step.{after_print, made_buffer, made_part, end_root, end_buffer, opened_host, put_back, after_close, close_entry, close_at, close_found, made_context, made_queue, after_submit, wait_if, after_throw, throw_queue, after_spawn, apply, begin_ask, give_all, turn, step, access_from, error_on, is_root, count_of, is_root_need, has_count, live_elements, holds_together}
use Rattle.sy_onecopy.specs.Sequence.{ready_at, is_legal, may_step, goes_on, value_of_main, first_from, first_thread, ending, ending_by_step, ending_by_main, ending_of_threads}

-- ---- steps

either : (v : Bool) (b c : Board) (n : ℕ) → b.steps ≡ n → c.steps ≡ n → (if v then b else c).steps ≡ n
either true b c n p q = p
either false b c n p q = q

after_print-steps : (b : Board) (t : ℕ) (bytes : List ℕ) → (after_print b t bytes).steps ≡ b.steps
unfolding after_print
after_print-steps b t bytes = either (nat_le (length b.output + length bytes) (2 ^ 24)) _ _ b.steps refl refl

made_buffer-steps : (b : Board) (t : ℕ) (m : NewBuffer) → (made_buffer b t m).steps ≡ b.steps
unfolding made_buffer
made_buffer-steps b t m =
    either (has_count (product m.range) m.init) _ b b.steps (either (nat_le (live_elements b.buffers + product m.range) (2 ^ 22)) _ _ b.steps refl refl) refl

made_part-steps : (b : Board) (t r base n : ℕ) → (made_part b t r base n).steps ≡ b.steps
unfolding made_part
made_part-steps b t r base n = either (is_root (slice_get b.buffers r) && nat_le (base + n) (count_of (slice_get b.buffers r))) _ b b.steps refl refl

end_root-steps : (b : Board) (t r : ℕ) (x : Buffer) (o : Origin) → (end_root b t r x o).steps ≡ b.steps
unfolding end_root
end_root-steps b t r x Vector = refl
end_root-steps b t r x Range = refl
end_root-steps b t r x Part = refl

end_buffer-steps : (b : Board) (t r : ℕ) (o : Option Buffer) → (end_buffer b t r o).steps ≡ b.steps
unfolding end_buffer
end_buffer-steps b t r None = refl
end_buffer-steps b t r (Some x) = either x.ended b _ b.steps refl (end_root-steps b t r x x.origin)

opened_host-steps : (b : Board) (t : ℕ) (n : Need) → (opened_host b t n).steps ≡ b.steps
unfolding opened_host
opened_host-steps b t n = either (is_root_need b.buffers n) _ b b.steps refl refl

put_back-steps : (b : Board) (n : Need) (values : List ℤ) → (put_back b n values).steps ≡ b.steps
unfolding put_back
put_back-steps b n values = either (writes n.mode) _ b b.steps refl refl

after_close-steps : (b : Board) (t : ℕ) (values : List ℤ) (k : ℕ) (n : Need) → (after_close b t values k n).steps ≡ b.steps
unfolding after_close
after_close-steps b t values k n = either (length values == n.to - n.from) _ b b.steps (put_back-steps b n values) refl

close_entry-steps : (b : Board) (t : ℕ) (values : List ℤ) (k : ℕ) (s : Stage) (ns : List Need) → (close_entry b t values k s ns).steps ≡ b.steps
unfolding close_entry
close_entry-steps b t values k stage.Granted (n ∷ ns) = after_close-steps b t values k n
close_entry-steps b t values k stage.Granted [] = refl
close_entry-steps b t values k stage.Pending ns = refl
close_entry-steps b t values k stage.Done ns = refl
close_entry-steps b t values k (stage.Failed f) ns = refl

close_at-steps : (b : Board) (t : ℕ) (values : List ℤ) (k : ℕ) (o : Option Entry) → (close_at b t values k o).steps ≡ b.steps
unfolding close_at
close_at-steps b t values k None = refl
close_at-steps b t values k (Some e) = close_entry-steps b t values k e.stage e.needs

close_found-steps : (b : Board) (t : ℕ) (values : List ℤ) (o : Option ℕ) → (close_found b t values o).steps ≡ b.steps
unfolding close_found
close_found-steps b t values None = refl
close_found-steps b t values (Some k) = close_at-steps b t values k (slice_get b.entries k)

made_context-steps : (b : Board) (t : ℕ) → (made_context b t).steps ≡ b.steps
unfolding made_context
made_context-steps b t = either (nat_lt b.places 17) _ _ b.steps refl refl

made_queue-steps : (b : Board) (t : ℕ) (m : NewQueue) → (made_queue b t m).steps ≡ b.steps
unfolding made_queue
made_queue-steps b t m = either (nat_lt 0 m.context && nat_lt m.context b.places) _ b b.steps refl refl

after_submit-steps : (b : Board) (t : ℕ) (s : Submission) (o : Option Queue) → (after_submit b t s o).steps ≡ b.steps
unfolding after_submit
after_submit-steps b t s None = refl
after_submit-steps b t s (Some x) = either (holds_together b s) _ b b.steps refl refl

wait_if-steps : (v : Bool) (b : Board) (t : ℕ) (w : Waits) → (wait_if v b t w).steps ≡ b.steps
wait_if-steps true b t w = refl
wait_if-steps false b t w = refl

after_throw-steps : (b : Board) (t : ℕ) (o : Option KernelError) → (after_throw b t o).steps ≡ b.steps
after_throw-steps b t None = refl
after_throw-steps b t (Some e) = refl

throw_queue-steps : (b : Board) (t q : ℕ) → (throw_queue b t q).steps ≡ b.steps
unfolding throw_queue
throw_queue-steps b t q = either (nat_lt q (length b.queues)) _ b b.steps (after_throw-steps b t (error_on q b.entries)) refl

after_spawn-steps : (b : Board) (t : ℕ) → (after_spawn b t).steps ≡ b.steps
unfolding after_spawn
after_spawn-steps b t = either (nat_lt (length b.waits) 64) _ _ b.steps refl refl

apply-steps : (b : Board) (t : ℕ) (q : Ask) → (apply b t q).steps ≡ b.steps
unfolding apply
apply-steps b t (Print bytes) = after_print-steps b t bytes
apply-steps b t (MakeBuffer m) = made_buffer-steps b t m
apply-steps b t (MakeSub parent base range) = made_part-steps b t parent base (product range)
apply-steps b t (EndBuffer r) = end_buffer-steps b t r (slice_get b.buffers r)
apply-steps b t (OpenHost n) = opened_host-steps b t n
apply-steps b t (CloseHost k values) = close_found-steps b t values (access_from 0 b.entries t k)
apply-steps b t (MakeContext device) = made_context-steps b t
apply-steps b t (MakeQueue m) = made_queue-steps b t m
apply-steps b t (Submit s) = after_submit-steps b t s (slice_get b.queues s.queue)
apply-steps b t (WaitNode n) = wait_if-steps _ b t _
apply-steps b t (WaitQueue q) = wait_if-steps _ b t _
apply-steps b t (ThrowQueue q) = throw_queue-steps b t q
apply-steps b t (Spawn body captures) = after_spawn-steps b t
apply-steps b t (Join u) = wait_if-steps _ b t _
apply-steps b t (Finish v) = refl
apply-steps b t (Halt h) = refl
apply-steps b t (Barrier place line) = refl
apply-steps b t (Collect place line call) = refl

took-steps : (b : Board) (k : ℕ) (needs : List Need) (o : Outcome) → (took b k needs o).steps ≡ b.steps
unfolding took
took-steps b k needs (Wrote log) = refl
took-steps b k needs (Failed fault) = refl

effect-steps : (out : OutcomeOf) (b : Board) (k : ℕ) (e : Entry) (w : Work) → (effect out b k e w).steps ≡ b.steps
unfolding effect
effect-steps out b k e (Node n q c) = took-steps b k e.needs (out c (inputs b.buffers e.needs))
effect-steps out b k e (Access t i) = refl
effect-steps out b k e (End t r) = refl

settle_entry-steps : (out : OutcomeOf) (b : Board) (k : ℕ) (o : Option Entry) → (settle_entry out b k o).steps ≡ b.steps
unfolding settle_entry
settle_entry-steps out b k None = refl
settle_entry-steps out b k (Some e) = either (is_free b.entries k e) _ b b.steps (effect-steps out b k e e.work) refl

settle_upto-steps : (out : OutcomeOf) (b : Board) (n : ℕ) → (settle_upto out b n).steps ≡ b.steps
settle_upto-steps out b zero = refl
settle_upto-steps out b (suc n) =
    settle_entry-steps out (settle_upto out b n) n (slice_get (settle_upto out b n).entries n) ∙ settle_upto-steps out b n

pub turn-steps : (out : OutcomeOf) (b : Board) (t : ℕ) (q : Ask) → (turn out b t q).steps ≡ suc b.steps
unfolding turn give_all
turn-steps out b t q =
    let a = apply (begin_ask b t) t q in
    settle_upto-steps out a (length a.entries) ∙ apply-steps (begin_ask b t) t q

pub steps_counted : (p : Program) (s : State) (t : ℕ) → (step p s t).board.steps ≡ s.board.steps + 1
unfolding step
steps_counted p s t = turn-steps p.outcome s.board t (next_ask p s t) ∙ sym (add-one s.board.steps)

-- ---- an ending

false_left : (a b : Bool) → a ≡ false → (a && b) ≡ false
false_left a b h = ap (λ x. x && b) h

false_right : (a b : Bool) → b ≡ false → (a && b) ≡ false
false_right true b h = h
false_right false b h = refl

no_more : (v : Bool) (k : ℕ) (o : Option ℕ) → (if v then Some k else o) ≡ None → (v ≡ false) × (o ≡ None)
no_more true k o h = absurd cc
no_more false k o h = (refl, h)

none_passes : {A : Type 0} (test : ℕ → Bool) (k : ℕ) (xs : List A) (j : ℕ) → j < length xs → first_from test k xs ≡ None → test (k + j) ≡ false
none_passes test k [] j lt h = absurd (omega (arith, lt))
none_passes test k (x ∷ xs) zero lt h = ap test (let e : k + 0 ≡ k = omega arith in e) ∙ (no_more (test k) k (first_from test (suc k) xs) h).0
none_passes test k (x ∷ xs) (suc j) lt h =
    ap test (let e : k + suc j ≡ suc k + j = omega arith in e) ∙ none_passes test (suc k) xs j (omega (arith, lt)) (no_more (test k) k (first_from test (suc k) xs) h).1

none_may : (p : Program) (s : State) (t : ℕ) → first_thread p s ≡ None → may_step p s t ≡ false
unfolding first_thread may_step
none_may p s t h =
    elim (slice_get_cases s.board.waits t).1 [
      | inl c ↦ ap (may_step p s) (let e : t ≡ 0 + t = omega arith in e) ∙ none_passes (may_step p s) 0 s.board.waits t c.1 h
      | inr c ↦ false_right (goes_on s.board) _ (false_left (ready_at (slice_get s.board.waits t)) _ (ap ready_at c.1))
    ]

in_time : (v : Bool) (f e : Ending) → (if v then None else Some f) ≡ Some e → v ≡ false
in_time true f e h = absurd cc
in_time false f e h = refl

ended_by_threads : (p : Program) (s : State) (t : ℕ) (o : Option ℕ) (e : Ending) → first_thread p s ≡ o → ending_of_threads s.board.steps o ≡ Some e → is_legal p s t ≡ false
ended_by_threads p s t None e r h = false_left (may_step p s t) _ (none_may p s t r)
ended_by_threads p s t (Some u) e r h = false_right (may_step p s t) _ (in_time (nat_lt s.board.steps (2 ^ 24)) _ e h)

stopped : (p : Program) (s : State) (t : ℕ) → goes_on s.board ≡ false → is_legal p s t ≡ false
unfolding may_step
stopped p s t h = false_left (may_step p s t) _ (false_left (goes_on s.board) _ h)

ended_by_main : (p : Program) (s : State) (t : ℕ) (o : Option ℤ) (e : Ending) → value_of_main s.board.waits ≡ o → ending_by_main s.board (first_thread p s) o ≡ Some e → is_legal p s t ≡ false
ended_by_main p s t (Some v) e m h = stopped p s t (false_right (is_none s.board.ended) _ (ap is_none m))
ended_by_main p s t None e m h = ended_by_threads p s t (first_thread p s) e refl h

ended_by_step : (p : Program) (s : State) (t : ℕ) (o : Option Ending) (e : Ending) → s.board.ended ≡ o → ending_by_step s.board (first_thread p s) o ≡ Some e → is_legal p s t ≡ false
ended_by_step p s t (Some f) e g h = stopped p s t (false_left (is_none s.board.ended) _ (ap is_none g))
ended_by_step p s t None e g h = ended_by_main p s t (value_of_main s.board.waits) e refl h

pub ended_is_final : (p : Program) (s : State) (e : Ending) (t : ℕ) → ending p s ≡ Some e → is_legal p s t ≡ false
unfolding ending
ended_is_final p s e t h = ended_by_step p s t s.board.ended e refl h
