-- What an ask keeps of the core.
use Rattle.std.proofs.Common.{◌≡◌, ℕ, zero, suc, ◌+◌, ◌<◌, ℤ, List, [], ◌∷◌, ◌++◌, length, map, Bool, true, false, Option, Some, None, ◌⊎◌, refl, sym, ap, ◌∙◌, subst, inl, inr}
use Rattle.std.specs.Prelude.{slice_get, IsSome, ◌^◌, ◌&&◌, ◌==◌, nat_lt, nat_le, if◌then◌else◌, is_none}
use Rattle.std.proofs.lemmas.List.{length-map}
use Rattle.std.proofs.lemmas.Option.{slice_get_within}
use Rattle.sy_answers.proofs.RunLemmas.{counted}
use Rattle.sy_settling.proofs.AlikeLemmas.{alike-settle}
use Rattle.sy_range.specs.LinearIds.{product}
use Rattle.sy_work.specs.Programs.{OutcomeOf, Program}
use Rattle.sy_work.specs.declared.asks.Ask.{Ask}
use Rattle.sy_work.specs.declared.asks.Ask.TheVariants.{Print, MakeBuffer, MakeSub, EndBuffer, OpenHost, CloseHost, MakeContext, MakeQueue, Submit, WaitNode, WaitQueue, ThrowQueue, Spawn, Join, Finish, Halt, Barrier, Collect}
use Rattle.sy_work.specs.declared.asks.Submission.{Submission}
use Rattle.sy_work.specs.declared.asks.NewQueue.{NewQueue}
use Rattle.sy_work.specs.declared.asks.NewBuffer.{NewBuffer}
use Rattle.sy_work.specs.declared.asks.Answer.TheVariants.{Done as Answered}
use Rattle.sy_work.specs.declared.commands.Command.{Command}
use Rattle.sy_work.specs.declared.endings.KernelError.{KernelError}
use Rattle.sy_access.specs.declared.access.Need.{Need}
use Rattle.sy_onecopy.specs.declared.Buffer.{Buffer}
use Rattle.sy_onecopy.specs.declared.Origin.{Origin}
use Rattle.sy_onecopy.specs.declared.Origin.TheVariants.{Vector, Range, Part}
use Rattle.sy_onecopy.specs.declared.Queue.{Queue}
use Rattle.sy_onecopy.specs.declared.Entry.{Entry}
use Rattle.sy_onecopy.specs.declared.Work.{Work}
use Rattle.sy_onecopy.specs.declared.Work.TheVariants.{Node}
use Rattle.sy_onecopy.specs.declared.Waits.{Waits}
use Rattle.sy_onecopy.specs.declared.Waits.TheVariants.{Ready as NoWait, Due, OnEntry, OnNode, OnQueue, OnThread, Never, Finished}
use Rattle.sy_onecopy.specs.Each.{changed_at}
use Rattle.sy_onecopy.specs.State.{Board, State, Thread, ask_of}
use Rattle.sy_onecopy.specs.Before.{is_pending}
use Rattle.sy_onecopy.specs.Copies.{uses}
use Rattle.sy_onecopy.specs.Outcome.{values_at, values_of, inputs}
use Rattle.sy_onecopy.specs.Settle.{settle, effect}
use Rattle.sy_onecopy.specs.Step.{apply, begin_ask, add_buffer, made_buffer, made_part, part_buffer, new_buffer, has_count, live_elements, is_root, count_of, after_print, with_end, end_root, end_buffer, opened_host, made_context, made_queue, after_submit, wait_if, after_throw, throw_queue, after_spawn, error_on, node_entry, access_entry, accesses, threads_after, is_root_need, holds_together, give_all, given, once_heard, hear_all, is_due}
use Rattle.sy_onecopy.specs.Sequence.{goes_on, value_of_main, seq}
use Rattle.sy_settling.specs.Orderly.{IsAt, IsFreeAt, IsOrderly}
use Rattle.sy_settling.proofs.ListLemmas.{get-append}
use Rattle.sy_settling.proofs.EffectLemmas.{Seen, seen, told}
use Rattle.sy_settling.proofs.OrderlyEffectLemmas.{Ready, act_at, act_at-of, effect-act}
use Rattle.sy_settling.proofs.FreeLemmas.{free-pending}
use Rattle.sy_settling.proofs.SettleLemmas.{settle-keeps}
use Rattle.sy_settling.proofs.OrderlyAskLemmas.{apply-follows}
use Rattle.sy_settling.proofs.LegalOrderLemmas.{orderly-begin_ask, orderly-apply}
use Rattle.sy_sound.specs.Sound.{IsHeld, IsSound}
use Rattle.sy_sound.proofs.InputLemmas.{stands_at}
use Rattle.sy_sound.proofs.ListLemmas.{All-at}
use Rattle.sy_sound.proofs.SoundLemmas.{asked-sound}
use Rattle.sy_lagging.specs.Lagging.{state_of, catch_up, after_ask}
use Rattle.sy_coreboard.specs.Core.{Core, HasCopies, IsKept, StandsFor}
use Rattle.sy_coreboard.specs.Events.{keeps_copies, CanAsk, Asks}
use Rattle.sy_settling.proofs.DeferredLemmas.{Asking, asking_idle, asking_may}
use Rattle.sy_lagging.proofs.StepLemmas.{asks-stand, catch_up-ended}
use Rattle.sy_coreboard.proofs.NeedLemmas.{among, names_it, named_here}
use Rattle.sy_coreboard.proofs.LiveLemmas.{Lives, lives_back, lives_begin_ask, apply-lives, below_or_not, at_end}

-- the buffers that are there keep their numbers, and what entries come are pending
pub record Quiet (b c : Board) : Type 0 where
  pub values : (r : ℕ) → r < length b.buffers → values_at c.buffers r ≡ values_at b.buffers r
  pub entries : (k : ℕ) (e : Entry) → IsAt c.entries k e → IsAt b.entries k e ⊎ (is_pending e.stage ≡ true)

-- ---- from one board to the next

freed : (old new : Core) (t : ℕ) (q : Ask) → Asking old.board t q → new.board ≡ apply (begin_ask old.board t) t q → (k : ℕ) (e : Entry) → IsFreeAt old.board.entries k e → IsFreeAt new.board.entries k e
freed old new t q a board k e f =
    let go = apply-follows (begin_ask old.board t) t q (asking_may old.board t q a).idle in
    let r : Ready (begin_ask old.board t) k e = record { orderly = orderly-begin_ask old.board t a.orderly (asking_idle old.board t q a); at = f.0; free = f.1 } in
    let s = go.stays k e r in
    subst (λ (b : Board). IsFreeAt b.entries k e) (sym board) (s.0, s.1)

given_same : (old new : Core) (t : ℕ) (q : Ask) (n m : ℕ) (e : Entry) (k : ℕ) → Asking old.board t q → new.board ≡ apply (begin_ask old.board t) t q → IsFreeAt old.board.entries k e → seen new.board.buffers e.needs e.work ≡ seen old.board.buffers e.needs e.work
given_same old new t q n m e k a board f =
    let go = apply-follows (begin_ask old.board t) t q (asking_may old.board t q a).idle in
    let r : Ready (begin_ask old.board t) k e = record { orderly = orderly-begin_ask old.board t a.orderly (asking_idle old.board t q a); at = f.0; free = f.1 } in
    ap (λ (b : Board). seen b.buffers e.needs e.work) board ∙ go.sees k e r

node_seen : (xs ys : List Buffer) (needs : List Need) (w : Work) (n q : ℕ) (c : Command) → w ≡ Node n q c → seen ys needs w ≡ seen xs needs w → inputs ys needs ≡ inputs xs needs
node_seen xs ys needs w n q c h s = ap (λ (x : Seen). x.0) (subst (λ v. seen ys needs v ≡ seen xs needs v) h s)

-- what holds of an ask that changes no copies
record Scene (old new : Core) (t : ℕ) (q : Ask) : Type 0 where
  kept : IsKept old
  asking : Asking old.board t q
  early : old.board.steps < 2 ^ 24
  asks : Asks old new t q
  quiet : Quiet old.board new.board

-- a root that an entry needs is there
used_there : (b : Board) (k : ℕ) (y : Entry) (r count : ℕ) → IsSound b → IsAt b.entries k y → uses y r count ≡ true → r < length b.buffers
used_there b k y r count sound g u =
    let a = among (λ (n : Need). n.buffer == r) y.needs (names_it r count y u) in
    let h = All-at (IsHeld b.buffers) y.needs a.place a.need (stands_at b k y sound g).held a.at in
    let lt = slice_get_within b.buffers a.need.buffer h.root h.there in
    subst (λ i. i < length b.buffers) (named_here a.need r a.passes) lt

has_still : (old new : Core) (t : ℕ) (q : Ask) (k : ℕ) (y : Entry) → Scene old new t q → IsAt old.board.entries k y → HasCopies old y → HasCopies new y
has_still old new t q k y s g has r u =
    let lt = used_there old.board k y r (length (values_at new.board.buffers r)) s.kept.sound g u in
    subst IsSome (sym (s.asks.copies y.place r lt)) (has r (ap (λ l. uses y r (length l)) (sym (s.quiet.values r lt)) ∙ u))

asked_copies : (old new : Core) (t : ℕ) (q : Ask) (p r : ℕ) (v : List ℤ) → Scene old new t q → new.copies p r ≡ Some v → v ≡ values_at new.board.buffers r
asked_copies old new t q p r v s h = elim (below_or_not r (length old.board.buffers)) [
  | inl lt ↦ s.kept.copies p r v (sym (s.asks.copies p r lt) ∙ h) ∙ sym (s.quiet.values r lt)
  | inr le ↦ s.asks.fresh p r v le h
]

pub asked-kept : (old new : Core) (t : ℕ) (q : Ask) → IsKept old → Asking old.board t q → old.board.steps < 2 ^ 24 → Asks old new t q → Quiet old.board new.board → Lives old.board new.board → IsKept new
asked-kept old new t q kept asking early f quiet lives =
    let s : Scene old new t q = record { kept = kept; asking = asking; early = early; asks = f; quiet = quiet } in
    record {
      orderly = subst IsOrderly (sym f.board) (orderly-apply (begin_ask old.board t) t q (orderly-begin_ask old.board t asking.orderly (asking_idle old.board t q asking)) (asking_may old.board t q asking));
      sound = subst IsSound (sym f.board) (asked-sound old.board t q kept.sound early);
      copies = λ p r v h. asked_copies old new t q p r v s h;
      out = λ k given h.
          (let o = kept.out k given (sym (f.out k) ∙ h) in
          record {
            entry = o.entry;
            node = o.node;
            queue = o.queue;
            command = o.command;
            work = o.work;
            free = freed old new t q asking f.board k o.entry o.free;
            inputs = o.inputs ∙ sym (node_seen old.board.buffers new.board.buffers o.entry.needs o.entry.work o.node o.queue o.command o.work (given_same old new t q 0 0 o.entry k asking f.board o.free));
            copies = has_still old new t q k o.entry s o.free.0 o.copies;
          });
      granted = λ k e g st. elim (quiet.entries k e g) [
        | inl w ↦ has_still old new t q k e s w (kept.granted k e w st)
        | inr w ↦ absurd (let z : false ≡ true = ap is_pending (sym st) ∙ w in cc)
      ];
      moving = λ p r v h.
          (let m = kept.moving p r v (sym (f.moving p r) ∙ h) in
          let lt = used_there old.board m.at m.entry r (length (values_at old.board.buffers r)) kept.sound m.free.0 m.needed in
          record {
            at = m.at;
            entry = m.entry;
            free = freed old new t q asking f.board m.at m.entry m.free;
            needed = ap (λ l. uses m.entry r (length l)) (quiet.values r lt) ∙ m.needed;
            placed = m.placed;
            none = f.copies p r lt ∙ m.none;
            current = m.current ∙ sym (quiet.values r lt);
          });
      sources = λ r l. elim (below_or_not r (length old.board.buffers)) [
        | inl lt ↦
            let h = kept.sources r (lives_back old.board new.board r lives lt l) in
            (h.0, subst IsSome (sym (f.copies h.0 r lt)) h.1)
        | inr le ↦ f.sources r le l
      ];
    }

-- ---- the asks that are quiet

pub quiet_same : (b c : Board) → c.entries ≡ b.entries → c.buffers ≡ b.buffers → Quiet b c
quiet_same b c e h = record {
  values = λ r lt. ap (λ l. values_at l r) h;
  entries = λ k x g. inl (ap (λ l. slice_get l k) (sym e) ∙ g);
}

quiet_if : (b y z : Board) (v : Bool) → (v ≡ true → Quiet b y) → Quiet b z → Quiet b (if v then y else z)
quiet_if b y z true f g = f refl
quiet_if b y z false f g = g

quiet_added : (b c : Board) (x : Entry) → c.entries ≡ b.entries ++ x ∷ [] → ((r : ℕ) → r < length b.buffers → values_at c.buffers r ≡ values_at b.buffers r) → is_pending x.stage ≡ true → Quiet b c
quiet_added b c x e h p = record {
  values = h;
  entries = λ k y g. elim (at_end b.entries x y k (ap (λ l. slice_get l k) (sym e) ∙ g)) [
    | inl q ↦ inl q
    | inr q ↦ inr (ap (λ (z : Entry). is_pending z.stage) (sym q) ∙ p)
  ];
}

ended_values : (r : ℕ) (bs : List Buffer) (i : ℕ) → values_at (changed_at with_end r bs) i ≡ values_at bs i
ended_values r [] i = refl
ended_values zero (x ∷ xs) zero = refl
ended_values zero (x ∷ xs) (suc i) = refl
ended_values (suc r) (x ∷ xs) zero = refl
ended_values (suc r) (x ∷ xs) (suc i) = ended_values r xs i

end_root-quiet : (b : Board) (t r : ℕ) (x : Buffer) (o : Origin) → Quiet b (end_root b t r x o)
unfolding end_root
end_root-quiet b t r x Vector = quiet_added b _ _ refl (λ i lt. ended_values r b.buffers i) refl
end_root-quiet b t r x Range = record { values = λ i lt. ended_values r b.buffers i; entries = λ k e g. inl g }
end_root-quiet b t r x Part = record { values = λ i lt. ended_values r b.buffers i; entries = λ k e g. inl g }

end_buffer-quiet : (b : Board) (t r : ℕ) (o : Option Buffer) → Quiet b (end_buffer b t r o)
unfolding end_buffer
end_buffer-quiet b t r None = quiet_same b b refl refl
end_buffer-quiet b t r (Some x) = quiet_if b b (end_root b t r x x.origin) x.ended (λ h. quiet_same b b refl refl) (end_root-quiet b t r x x.origin)

after_submit-quiet : (b : Board) (t : ℕ) (m : Submission) (o : Option Queue) → Quiet b (after_submit b t m o)
unfolding after_submit
after_submit-quiet b t m None = quiet_same b b refl refl
after_submit-quiet b t m (Some x) = quiet_if b _ b (holds_together b m) (λ h. quiet_added b _ (node_entry b.nodes m x) refl (λ r lt. refl) refl) (quiet_same b b refl refl)

wait_if-quiet : (v : Bool) (b : Board) (t : ℕ) (w : Waits) → Quiet b (wait_if v b t w)
wait_if-quiet true b t w = quiet_same b _ refl refl
wait_if-quiet false b t w = quiet_same b b refl refl

after_throw-quiet : (b : Board) (t : ℕ) (o : Option KernelError) → Quiet b (after_throw b t o)
after_throw-quiet b t None = quiet_same b _ refl refl
after_throw-quiet b t (Some e) = quiet_same b _ refl refl

after_print-quiet : (b : Board) (t : ℕ) (bytes : List ℕ) → Quiet b (after_print b t bytes)
unfolding after_print
after_print-quiet b t bytes = quiet_if b _ _ (nat_le (length b.output + length bytes) (2 ^ 24)) (λ h. quiet_same b _ refl refl) (quiet_same b _ refl refl)

opened_host-quiet : (b : Board) (t : ℕ) (m : Need) → Quiet b (opened_host b t m)
unfolding opened_host
opened_host-quiet b t m = quiet_if b _ b (is_root_need b.buffers m) (λ h. quiet_added b _ (access_entry t (accesses b.entries t) m) refl (λ r lt. refl) refl) (quiet_same b b refl refl)

made_context-quiet : (b : Board) (t : ℕ) → Quiet b (made_context b t)
unfolding made_context
made_context-quiet b t = quiet_if b _ _ (nat_lt b.places 17) (λ h. quiet_same b _ refl refl) (quiet_same b _ refl refl)

made_queue-quiet : (b : Board) (t : ℕ) (m : NewQueue) → Quiet b (made_queue b t m)
unfolding made_queue
made_queue-quiet b t m = quiet_if b _ b (nat_lt 0 m.context && nat_lt m.context b.places) (λ h. quiet_same b _ refl refl) (quiet_same b b refl refl)

throw_queue-quiet : (b : Board) (t q : ℕ) → Quiet b (throw_queue b t q)
unfolding throw_queue
throw_queue-quiet b t q = quiet_if b _ b (nat_lt q (length b.queues)) (λ h. after_throw-quiet b t (error_on q b.entries)) (quiet_same b b refl refl)

after_spawn-quiet : (b : Board) (t : ℕ) → Quiet b (after_spawn b t)
unfolding after_spawn
after_spawn-quiet b t = quiet_if b _ _ (nat_lt (length b.waits) 64) (λ h. quiet_same b _ refl refl) (quiet_same b _ refl refl)

added-quiet : (b : Board) (t : ℕ) (x : Buffer) → Quiet b (add_buffer b t x)
added-quiet b t x = record {
  values = λ r lt. ap values_of (get-append b.buffers (x ∷ []) r lt);
  entries = λ k e g. inl g;
}

made_buffer-quiet : (b : Board) (t : ℕ) (m : NewBuffer) → Quiet b (made_buffer b t m)
unfolding made_buffer
made_buffer-quiet b t m =
    quiet_if b _ b (has_count (product m.range) m.init)
    (λ h. quiet_if b (add_buffer b t (new_buffer m)) _ (nat_le (live_elements b.buffers + product m.range) (2 ^ 22)) (λ k. added-quiet b t (new_buffer m)) (quiet_same b _ refl refl))
    (quiet_same b b refl refl)

made_part-quiet : (b : Board) (t parent base count : ℕ) → Quiet b (made_part b t parent base count)
unfolding made_part
made_part-quiet b t parent base count =
    quiet_if b (add_buffer b t part_buffer) b (is_root (slice_get b.buffers parent) && nat_le (base + count) (count_of (slice_get b.buffers parent))) (λ h. added-quiet b t part_buffer) (quiet_same b b refl refl)

pub apply-quiet : (b : Board) (t : ℕ) (q : Ask) → keeps_copies q ≡ true → Quiet b (apply b t q)
unfolding apply
apply-quiet b t (Print bytes) n = after_print-quiet b t bytes
apply-quiet b t (MakeBuffer m) n = made_buffer-quiet b t m
apply-quiet b t (MakeSub parent base range) n = made_part-quiet b t parent base (product range)
apply-quiet b t (EndBuffer r) n = end_buffer-quiet b t r (slice_get b.buffers r)
apply-quiet b t (OpenHost m) n = opened_host-quiet b t m
apply-quiet b t (CloseHost k values) n = absurd cc
apply-quiet b t (MakeContext device) n = made_context-quiet b t
apply-quiet b t (MakeQueue m) n = made_queue-quiet b t m
apply-quiet b t (Submit m) n = after_submit-quiet b t m (slice_get b.queues m.queue)
apply-quiet b t (WaitNode m) n = wait_if-quiet (nat_lt m b.nodes) b t (OnNode m)
apply-quiet b t (WaitQueue m) n = wait_if-quiet (nat_lt m (length b.queues)) b t (OnQueue m b.nodes)
apply-quiet b t (ThrowQueue m) n = throw_queue-quiet b t m
apply-quiet b t (Spawn body captures) n = after_spawn-quiet b t
apply-quiet b t (Join u) n = wait_if-quiet (nat_lt u (length b.waits)) b t (OnThread u)
apply-quiet b t (Finish v) n = quiet_same b _ refl refl
apply-quiet b t (Halt x) n = quiet_same b _ refl refl
apply-quiet b t (Barrier place line) n = quiet_same b b refl refl
apply-quiet b t (Collect place line call) n = quiet_same b b refl refl

-- ---- the run goes on in the state that has caught up

abbrev value_at : Option Waits → Option ℤ
value_at (Some (Finished v)) = Some v
value_at w = None

main_is : (ws : List Waits) → value_of_main ws ≡ value_at (slice_get ws 0)
main_is [] = refl
main_is (NoWait ∷ ws) = refl
main_is (Due a ∷ ws) = refl
main_is (OnEntry ∷ ws) = refl
main_is (OnNode n ∷ ws) = refl
main_is (OnQueue q n ∷ ws) = refl
main_is (OnThread u ∷ ws) = refl
main_is (Never ∷ ws) = refl
main_is (Finished v ∷ ws) = refl

told_main : (o : Option (ℕ × Waits)) (ws : List Waits) → ((d : ℕ × Waits) → o ≡ Some d → (value_at (Some d.1) ≡ None) × ((d.0 ≡ 0) → value_at (slice_get ws 0) ≡ None)) → value_at (slice_get (told o ws) 0) ≡ value_at (slice_get ws 0)
told_main None ws h = refl
told_main (Some (t, w)) [] h = refl
told_main (Some (zero, w)) (x ∷ ws) h = (h (zero, w) refl).0 ∙ sym ((h (zero, w) refl).1 refl)
told_main (Some (suc t, w)) (x ∷ ws) h = refl

effect_main : (out : OutcomeOf) (b : Board) (k : ℕ) (e : Entry) → Ready b k e → value_at (slice_get (effect out b k e e.work).waits 0) ≡ value_at (slice_get b.waits 0)
effect_main out b k e r =
    let a = act_at out b e in
    let of = act_at-of out b e in
    ap (λ (z : Board). value_at (slice_get z.waits 0)) (effect-act out b k e)
    ∙ told_main a.due b.waits (λ d p. (
      (let x = of.answers d p in ap (λ w. value_at (Some w)) x.1),
      λ z. (let w = r.orderly.awaited k d.0 e (r.at, free-pending b.entries k e r.free) (of.tells d p) in ap value_at (ap (slice_get b.waits) (sym z) ∙ w)),
    ))

settle_main : (out : OutcomeOf) (b : Board) → IsOrderly b → value_at (slice_get (settle out b).waits 0) ≡ value_at (slice_get b.waits 0)
settle_main out b o = settle-keeps (λ d. value_at (slice_get d.waits 0) ≡ value_at (slice_get b.waits 0)) out (λ d n x p r. effect_main out d n x r ∙ p) b o refl

due_main : (v : Bool) (w : Waits) → value_at (Some w) ≡ None → value_at (Some (once_heard (if v then Due Answered else w))) ≡ None
due_main true w h = refl
due_main false NoWait h = refl
due_main false (Due a) h = refl
due_main false OnEntry h = refl
due_main false (OnNode n) h = refl
due_main false (OnQueue q n) h = refl
due_main false (OnThread u) h = refl
due_main false Never h = refl
due_main false (Finished v) h = absurd cc

given_main : (d : Board) (w : Waits) → value_at (Some (once_heard (given d w))) ≡ value_at (Some w)
given_main d NoWait = refl
given_main d (Due a) = refl
given_main d OnEntry = refl
given_main d (OnNode n) = due_main (is_due d (OnNode n)) (OnNode n) refl
given_main d (OnQueue q n) = due_main (is_due d (OnQueue q n)) (OnQueue q n) refl
given_main d (OnThread u) = due_main (is_due d (OnThread u)) (OnThread u) refl
given_main d Never = refl
given_main d (Finished v) = refl

mapped_main : (d : Board) (ws : List Waits) → value_at (slice_get (map once_heard (map (given d) ws)) 0) ≡ value_at (slice_get ws 0)
mapped_main d [] = refl
mapped_main d (w ∷ ws) = given_main d w

give_main : (d : Board) → value_at (slice_get (map once_heard (give_all d).waits) 0) ≡ value_at (slice_get d.waits 0)
unfolding give_all
give_main d = mapped_main d d.waits

-- main has made its last step in the state that has caught up where it has in the one that lags behind
pub catch_up-main : (out : OutcomeOf) (s : State) → IsOrderly s.board → value_of_main (catch_up out s).board.waits ≡ value_of_main s.board.waits
catch_up-main out s o =
    let c = settle out s.board in
    main_is (map once_heard (give_all c).waits) ∙ give_main c ∙ settle_main out s.board o ∙ sym (main_is s.board.waits)

pub catch_up-goes : (out : OutcomeOf) (s : State) → IsOrderly s.board → goes_on (catch_up out s).board ≡ goes_on s.board
catch_up-goes out s o =
    ap (λ x. is_none x && is_none (value_of_main (catch_up out s).board.waits)) (catch_up-ended out s)
    ∙ ap (λ x. is_none s.board.ended && is_none x) (catch_up-main out s o)

-- ---- the ask

pub asking : (p : Program) (order : List ℕ) (xs : List Thread) (c : Core) (t : ℕ) (q : Ask) → StandsFor p order xs c → CanAsk p xs c t q → Asking c.board t q
asking p order xs c t q s a = record { orderly = s.kept.orderly; ready = a.ready; clear = a.clear }

length-hear_all : (ws : List Waits) (xs : List Thread) → length (hear_all ws xs) ≡ length xs
length-hear_all [] xs = refl
length-hear_all (w ∷ ws) [] = refl
length-hear_all (w ∷ ws) (x ∷ xs) = ap suc (length-hear_all ws xs)

give-length : (d : Board) → length (map once_heard (give_all d).waits) ≡ length d.waits
unfolding give_all
give-length d = length-map (map (given d) d.waits) once_heard ∙ length-map d.waits (given d)

-- as many threads as waits
pub members_by : (p : Program) (order : List ℕ) (s : State) → seq p order ≡ Some (catch_up p.outcome s) → length s.threads ≡ length s.board.waits
members_by p order s h =
    let c = settle p.outcome s.board in
    let m = (counted p order (catch_up p.outcome s) h).members in
    sym (length-hear_all (give_all c).waits s.threads) ∙ m ∙ give-length c ∙ sym (alike-settle p.outcome s.board).threads

pub quiet_begin_ask : (b : Board) (t : ℕ) (q : Ask) → Quiet (begin_ask b t) (apply (begin_ask b t) t q) → Quiet b (apply (begin_ask b t) t q)
quiet_begin_ask b t q h = record { values = h.values; entries = h.entries }

pub ask-reached : (p : Program) (order : List ℕ) (xs : List Thread) (old new : Core) (t : ℕ) (q : Ask) → StandsFor p order xs old → CanAsk p xs old t q → new.board ≡ apply (begin_ask old.board t) t q → seq p (order ++ t ∷ []) ≡ Some (catch_up p.outcome (state_of new.board (threads_after new.board q xs)))
ask-reached p order xs old new t q s a board =
    let b = old.board in
    let is : Asking b t (ask_of p.next a.thread) = subst (Asking b t) a.next (asking p order xs old t q s a) in
    let on = catch_up-goes p.outcome (state_of b xs) s.kept.orderly ∙ a.goes_on in
    asks-stand p order (state_of b xs) t a.thread s.reached is s.members a.here on a.early
    ∙ ap (λ r. Some (catch_up p.outcome (after_ask (state_of b xs) t r))) (sym a.next)
    ∙ ap (λ c. Some (catch_up p.outcome (state_of c (threads_after c q xs)))) (sym board)

-- the ask of a thread that changes no copies
pub ask-stands : (p : Program) (order : List ℕ) (xs : List Thread) (old new : Core) (t : ℕ) (q : Ask) → StandsFor p order xs old → CanAsk p xs old t q → keeps_copies q ≡ true → Asks old new t q → StandsFor p (order ++ t ∷ []) (threads_after new.board q xs) new
ask-stands p order xs old new t q s a quiet f =
    let b = old.board in
    let reached = ask-reached p order xs old new t q s a f.board in
    record {
      reached = reached;
      members = members_by p (order ++ t ∷ []) (state_of new.board (threads_after new.board q xs)) reached;
      kept = asked-kept old new t q s.kept (asking p order xs old t q s a) a.early f (subst (Quiet b) (sym f.board) (quiet_begin_ask b t q (apply-quiet (begin_ask b t) t q quiet))) (subst (Lives b) (sym f.board) (lives_begin_ask b t (apply (begin_ask b t) t q) (apply-lives (begin_ask b t) t q quiet)));
    }
