-- A thread told something before another thread's ask and after it.
use Rattle.std.proofs.Common.{◌≡◌, ◌≢◌, ℕ, suc, ◌+◌, ◌-◌, ◌<◌, ℤ, List, [], ◌∷◌, ◌++◌, length, set, Bool, true, false, Option, Some, None, refl, sym, ap, ◌∙◌}
use Rattle.std.specs.Prelude.{◌^◌, slice_get, if◌then◌else◌, ◌&&◌, ◌==◌, nat_lt, nat_le}
use Rattle.std.proofs.lemmas.List.{set-append_left, length-set}
use Rattle.sy_access.specs.declared.access.Need.{Need}
use Rattle.sy_access.specs.Needs.{writes}
use Rattle.sy_range.specs.LinearIds.{product}
use Rattle.sy_work.specs.declared.asks.Ask.{Ask}
use Rattle.sy_work.specs.declared.asks.Ask.TheVariants.{Print, MakeBuffer, MakeSub, EndBuffer, OpenHost, CloseHost, MakeContext, MakeQueue, Submit, WaitNode, WaitQueue, ThrowQueue, Spawn, Join, Finish, Halt, Barrier, Collect}
use Rattle.sy_work.specs.declared.asks.Answer.TheVariants.{Done as Answered, Number}
use Rattle.sy_work.specs.declared.asks.NewBuffer.{NewBuffer}
use Rattle.sy_work.specs.declared.asks.NewQueue.{NewQueue}
use Rattle.sy_work.specs.declared.asks.Submission.{Submission}
use Rattle.sy_work.specs.declared.asks.Why.TheVariants.{Threads}
use Rattle.sy_work.specs.declared.endings.Ending.TheVariants.{Terminated}
use Rattle.sy_work.specs.declared.endings.KernelError.{KernelError}
use Rattle.sy_onecopy.specs.declared.Buffer.{Buffer}
use Rattle.sy_onecopy.specs.declared.Origin.{Origin}
use Rattle.sy_onecopy.specs.declared.Origin.TheVariants.{Vector, Range, Part}
use Rattle.sy_onecopy.specs.declared.Queue.{Queue}
use Rattle.sy_onecopy.specs.declared.Entry.{Entry}
use Rattle.sy_onecopy.specs.declared.Stage.{Stage}
use Rattle.sy_onecopy.specs.declared.Stage.TheVariants as stage
use Rattle.sy_onecopy.specs.declared.Waits.{Waits}
use Rattle.sy_onecopy.specs.declared.Waits.TheVariants.{Ready as NoWait, OnThread, Finished}
use Rattle.sy_onecopy.specs.State.{Board}
use Rattle.sy_onecopy.specs.Settle.{await, reply, to_stage}
use Rattle.sy_onecopy.specs.Step.{stop, after_print, made_buffer, made_part, mark_ended, add_entry, end_entry, end_root, end_buffer, opened_host, access_entry, accesses, access_from, put_back, after_close, close_entry, close_at, close_found, made_context, made_queue, add_node, node_entry, after_submit, wait_if, after_throw, throw_queue, after_spawn, apply, error_on, is_root, count_of, is_root_need, has_count, live_elements, holds_together, new_buffer, part_buffer}
use Rattle.sy_settling.proofs.ListLemmas.{set-swap}

-- two threads
pub awaits-swap : (b : Board) (u t : ℕ) (w x : Waits) → u ≢ t → await (await b u w) t x ≡ await (await b t x) u w
awaits-swap b u t w x ne = ap (λ l. let c : Board = record b { waits = l } in c) (set-swap b.waits u t w x ne)

-- where both branches commute the choice does
pick : (v : Bool) (u : ℕ) (w : Waits) (y z y' z' : Board) → y' ≡ await y u w → z' ≡ await z u w → (if v then y' else z') ≡ await (if v then y else z) u w
pick true u w y z y' z' p q = p
pick false u w y z y' z' p q = q

made_buffer-told : (b : Board) (u t : ℕ) (w : Waits) (m : NewBuffer) → u ≢ t → made_buffer (await b u w) t m ≡ await (made_buffer b t m) u w
unfolding made_buffer
made_buffer-told b u t w m ne =
    pick (has_count (product m.range) m.init) u w _ b _ (await b u w)
    (pick (nat_le (live_elements b.buffers + product m.range) (2 ^ 22)) u w _ _ _ _ (awaits-swap (record b { buffers = b.buffers ++ new_buffer m ∷ [] }) u t w _ ne) (awaits-swap b u t w _ ne))
    refl

made_part-told : (b : Board) (u t : ℕ) (w : Waits) (r base n : ℕ) → u ≢ t → made_part (await b u w) t r base n ≡ await (made_part b t r base n) u w
unfolding made_part
made_part-told b u t w r base n ne =
    pick (is_root (slice_get b.buffers r) && nat_le (base + n) (count_of (slice_get b.buffers r))) u w _ b _ (await b u w)
    (awaits-swap (record b { buffers = b.buffers ++ part_buffer ∷ [] }) u t w _ ne) refl

after_print-told : (b : Board) (u t : ℕ) (w : Waits) (bytes : List ℕ) → u ≢ t → after_print (await b u w) t bytes ≡ await (after_print b t bytes) u w
unfolding after_print
after_print-told b u t w bytes ne =
    pick (nat_le (length b.output + length bytes) (2 ^ 24)) u w _ _ _ _ (awaits-swap (record b { output = b.output ++ bytes }) u t w _ ne) refl

end_root-told : (b : Board) (u t : ℕ) (w : Waits) (r : ℕ) (x : Buffer) (o : Origin) → u ≢ t → end_root (await b u w) t r x o ≡ await (end_root b t r x o) u w
unfolding end_root
end_root-told b u t w r x Vector ne = awaits-swap (add_entry (mark_ended b r) (end_entry t r x)) u t w _ ne
end_root-told b u t w r x Range ne = awaits-swap (mark_ended b r) u t w _ ne
end_root-told b u t w r x Part ne = awaits-swap (mark_ended b r) u t w _ ne

end_buffer-told : (b : Board) (u t : ℕ) (w : Waits) (r : ℕ) (o : Option Buffer) → u ≢ t → end_buffer (await b u w) t r o ≡ await (end_buffer b t r o) u w
unfolding end_buffer
end_buffer-told b u t w r None ne = refl
end_buffer-told b u t w r (Some x) ne = pick x.ended u w b _ (await b u w) _ refl (end_root-told b u t w r x x.origin ne)

opened_host-told : (b : Board) (u t : ℕ) (w : Waits) (n : Need) → u ≢ t → opened_host (await b u w) t n ≡ await (opened_host b t n) u w
unfolding opened_host
opened_host-told b u t w n ne =
    pick (is_root_need b.buffers n) u w _ b _ (await b u w) (awaits-swap (add_entry b (access_entry t (accesses b.entries t) n)) u t w _ ne) refl

put_back-told : (b : Board) (u : ℕ) (w : Waits) (n : Need) (values : List ℤ) → put_back (await b u w) n values ≡ await (put_back b n values) u w
unfolding put_back
put_back-told b u w n values = pick (writes n.mode) u w _ b _ (await b u w) refl refl

after_close-told : (b : Board) (u t : ℕ) (w : Waits) (values : List ℤ) (j : ℕ) (n : Need) → u ≢ t → after_close (await b u w) t values j n ≡ await (after_close b t values j n) u w
unfolding after_close
after_close-told b u t w values j n ne =
    pick (length values == n.to - n.from) u w _ b _ (await b u w)
    (ap (λ z. reply (to_stage z j stage.Done) t Answered) (put_back-told b u w n values) ∙ awaits-swap (to_stage (put_back b n values) j stage.Done) u t w _ ne)
    refl

close_entry-told : (b : Board) (u t : ℕ) (w : Waits) (values : List ℤ) (j : ℕ) (s : Stage) (ns : List Need) → u ≢ t → close_entry (await b u w) t values j s ns ≡ await (close_entry b t values j s ns) u w
unfolding close_entry
close_entry-told b u t w values j stage.Granted (n ∷ ns) ne = after_close-told b u t w values j n ne
close_entry-told b u t w values j stage.Granted [] ne = refl
close_entry-told b u t w values j stage.Pending ns ne = refl
close_entry-told b u t w values j stage.Done ns ne = refl
close_entry-told b u t w values j (stage.Failed f) ns ne = refl

close_at-told : (b : Board) (u t : ℕ) (w : Waits) (values : List ℤ) (j : ℕ) (o : Option Entry) → u ≢ t → close_at (await b u w) t values j o ≡ await (close_at b t values j o) u w
unfolding close_at
close_at-told b u t w values j None ne = refl
close_at-told b u t w values j (Some x) ne = close_entry-told b u t w values j x.stage x.needs ne

close_found-told : (b : Board) (u t : ℕ) (w : Waits) (values : List ℤ) (o : Option ℕ) → u ≢ t → close_found (await b u w) t values o ≡ await (close_found b t values o) u w
unfolding close_found
close_found-told b u t w values None ne = refl
close_found-told b u t w values (Some j) ne = close_at-told b u t w values j (slice_get b.entries j) ne

made_context-told : (b : Board) (u t : ℕ) (w : Waits) → u ≢ t → made_context (await b u w) t ≡ await (made_context b t) u w
unfolding made_context
made_context-told b u t w ne =
    pick (nat_lt b.places 17) u w _ _ _ _ (awaits-swap (record b { places = suc b.places }) u t w _ ne) (awaits-swap b u t w _ ne)

made_queue-told : (b : Board) (u t : ℕ) (w : Waits) (m : NewQueue) → u ≢ t → made_queue (await b u w) t m ≡ await (made_queue b t m) u w
unfolding made_queue
made_queue-told b u t w m ne =
    pick (nat_lt 0 m.context && nat_lt m.context b.places) u w _ b _ (await b u w)
    (awaits-swap (record b { queues = b.queues ++ record { place = m.context; in_order = m.in_order } ∷ [] }) u t w _ ne) refl

holds-told : (b : Board) (u : ℕ) (w : Waits) (m : Submission) → holds_together (await b u w) m ≡ holds_together b m
unfolding holds_together
holds-told b u w m = refl

after_submit-told : (b : Board) (u t : ℕ) (w : Waits) (m : Submission) (o : Option Queue) → u ≢ t → after_submit (await b u w) t m o ≡ await (after_submit b t m o) u w
unfolding after_submit
after_submit-told b u t w m None ne = refl
after_submit-told b u t w m (Some x) ne =
    ap (λ v. if v then add_node (await b u w) t (node_entry b.nodes m x) else await b u w) (holds-told b u w m)
    ∙ pick (holds_together b m) u w _ b _ (await b u w) (awaits-swap (record b { entries = b.entries ++ node_entry b.nodes m x ∷ []; nodes = suc b.nodes }) u t w _ ne) refl

wait_if-told : (v : Bool) (b : Board) (u t : ℕ) (w x : Waits) → u ≢ t → wait_if v (await b u w) t x ≡ await (wait_if v b t x) u w
wait_if-told true b u t w x ne = awaits-swap b u t w x ne
wait_if-told false b u t w x ne = refl

after_throw-told : (b : Board) (u t : ℕ) (w : Waits) (o : Option KernelError) → u ≢ t → after_throw (await b u w) t o ≡ await (after_throw b t o) u w
after_throw-told b u t w None ne = awaits-swap b u t w _ ne
after_throw-told b u t w (Some f) ne = refl

throw_queue-told : (b : Board) (u t : ℕ) (w : Waits) (q : ℕ) → u ≢ t → throw_queue (await b u w) t q ≡ await (throw_queue b t q) u w
unfolding throw_queue
throw_queue-told b u t w q ne = pick (nat_lt q (length b.queues)) u w _ b _ (await b u w) (after_throw-told b u t w (error_on q b.entries) ne) refl

after_spawn-told : (b : Board) (u t : ℕ) (w : Waits) → u ≢ t → u < length b.waits → after_spawn (await b u w) t ≡ await (after_spawn b t) u w
unfolding after_spawn
after_spawn-told b u t w ne lt =
    let n = length-set b.waits u w in
    let grow = λ (l : List Waits) (i : ℕ). (let c : Board = reply (record b { waits = l }) t (Number i) in c) in
    ap (λ i. if nat_lt i 64 then reply (record b { waits = set b.waits u w ++ NoWait ∷ [] }) t (Number (length (set b.waits u w))) else stop (await b u w) (Terminated Threads)) n
    ∙ pick (nat_lt (length b.waits) 64) u w _ _ _ _
    (ap (grow (set b.waits u w ++ NoWait ∷ [])) n
    ∙ ap (λ l. grow l (length b.waits)) (sym (set-append_left b.waits (NoWait ∷ []) u w lt))
    ∙ awaits-swap (record b { waits = b.waits ++ NoWait ∷ [] }) u t w _ ne)
    refl

-- a thread that doesn't ask is told the same before the ask's effect and after it
pub apply-told : (b : Board) (u t : ℕ) (w : Waits) (q : Ask) → u ≢ t → u < length b.waits → apply (await b u w) t q ≡ await (apply b t q) u w
unfolding apply
apply-told b u t w (Print bytes) ne lt = after_print-told b u t w bytes ne
apply-told b u t w (MakeBuffer m) ne lt = made_buffer-told b u t w m ne
apply-told b u t w (MakeSub parent base range) ne lt = made_part-told b u t w parent base (product range) ne
apply-told b u t w (EndBuffer r) ne lt = end_buffer-told b u t w r (slice_get b.buffers r) ne
apply-told b u t w (OpenHost n) ne lt = opened_host-told b u t w n ne
apply-told b u t w (CloseHost i values) ne lt = close_found-told b u t w values (access_from 0 b.entries t i) ne
apply-told b u t w (MakeContext device) ne lt = made_context-told b u t w ne
apply-told b u t w (MakeQueue m) ne lt = made_queue-told b u t w m ne
apply-told b u t w (Submit m) ne lt = after_submit-told b u t w m (slice_get b.queues m.queue) ne
apply-told b u t w (WaitNode n) ne lt = wait_if-told _ b u t w _ ne
apply-told b u t w (WaitQueue q) ne lt = wait_if-told _ b u t w _ ne
apply-told b u t w (ThrowQueue q) ne lt = throw_queue-told b u t w q ne
apply-told b u t w (Spawn body captures) ne lt = after_spawn-told b u t w ne lt
apply-told b u t w (Join v) ne lt =
    ap (λ n. wait_if (nat_lt v n) (await b u w) t (OnThread v)) (length-set b.waits u w) ∙ wait_if-told _ b u t w _ ne
apply-told b u t w (Finish v) ne lt = awaits-swap b u t w (Finished v) ne
apply-told b u t w (Halt x) ne lt = refl
apply-told b u t w (Barrier place line) ne lt = refl
apply-told b u t w (Collect place line call) ne lt = refl
