-- A thread with a pending entry waits for it, and has no other.
use Rattle.std.proofs.Common.{◌≡◌, ℕ, zero, suc, ◌+◌, ◌-◌, ◌<◌, ℤ, inl, inr, List, [], ◌∷◌, ◌++◌, length, map, Bool, true, false, Option, Some, None, refl, sym, ap, ◌∙◌, subst, arith}
use Rattle.std.specs.Prelude.{slice_get, slice_set, ◌&&◌, ◌==◌, ◌^◌, nat_lt, nat_le, if◌then◌else◌, option_map}
use Rattle.std.proofs.lemmas.Option.{same_Some, none-some, slice_get-map, slice_get_within}
use Rattle.sy_access.specs.declared.access.Need.{Need}
use Rattle.sy_access.specs.Needs.{writes}
use Rattle.sy_range.specs.LinearIds.{product}
use Rattle.sy_work.specs.Programs.{OutcomeOf, Program}
use Rattle.sy_work.specs.declared.asks.Ask.{Ask}
use Rattle.sy_work.specs.declared.asks.Ask.TheVariants.{Print, MakeBuffer, MakeSub, EndBuffer, OpenHost, CloseHost, MakeContext, MakeQueue, Submit, WaitNode, WaitQueue, ThrowQueue, Spawn, Join, Finish, Halt, Barrier, Collect}
use Rattle.sy_work.specs.declared.asks.Answer.TheVariants.{Done as Answered}
use Rattle.sy_work.specs.declared.asks.NewBuffer.{NewBuffer}
use Rattle.sy_work.specs.declared.asks.NewQueue.{NewQueue}
use Rattle.sy_work.specs.declared.asks.Submission.{Submission}
use Rattle.sy_work.specs.declared.commands.Command.{Command}
use Rattle.sy_work.specs.declared.commands.Outcome.{Outcome}
use Rattle.sy_work.specs.declared.commands.Outcome.TheVariants.{Wrote, Failed as CommandFailed}
use Rattle.sy_work.specs.declared.endings.KernelError.{KernelError}
use Rattle.sy_onecopy.specs.declared.Buffer.{Buffer}
use Rattle.sy_onecopy.specs.declared.Origin.{Origin}
use Rattle.sy_onecopy.specs.declared.Origin.TheVariants.{Vector, Range, Part}
use Rattle.sy_onecopy.specs.declared.Queue.{Queue}
use Rattle.sy_onecopy.specs.declared.Entry.{Entry}
use Rattle.sy_onecopy.specs.declared.Work.{Work}
use Rattle.sy_onecopy.specs.declared.Work.TheVariants.{Node, Access, End}
use Rattle.sy_onecopy.specs.declared.Stage.{Stage}
use Rattle.sy_onecopy.specs.declared.Stage.TheVariants as stage
use Rattle.sy_onecopy.specs.declared.Waits.{Waits}
use Rattle.sy_onecopy.specs.declared.Waits.TheVariants.{Ready, Due, OnEntry, Never}
use Rattle.sy_onecopy.specs.Each.{changed_at}
use Rattle.sy_onecopy.specs.State.{Board, State, start, next_ask}
use Rattle.sy_onecopy.specs.Before.{is_free, is_pending}
use Rattle.sy_onecopy.specs.Outcome.{inputs}
use Rattle.sy_onecopy.specs.Settle.{with_stage, took, effect, settle_entry, settle_upto, settle}
use Rattle.sy_onecopy.specs.Step.{after_print, made_buffer, made_part, end_root, end_buffer, opened_host, put_back, after_close, close_entry, close_at, close_found, made_context, made_queue, after_submit, wait_if, after_throw, throw_queue, after_spawn, apply, access_from, error_on, is_root, count_of, is_root_need, has_count, live_elements, holds_together, begin_ask, given, give_all, turn, step, once_heard}
use Rattle.sy_onecopy.specs.Sequence.{ready_at, is_legal, seq, seq_from}
use Rattle.sy_inorder.specs.Ledger.{asked}
use Rattle.sy_inorder.proofs.ListLemmas as places
use Rattle.sy_inorder.proofs.ListLemmas.WasAt.{kept, changed}
use Rattle.sy_inorder.proofs.AskLemmas.{same_part}
use Rattle.sy_inorder.proofs.StateLemmas.{one_legal, free_pending}
use Rattle.sy_inorder.proofs.GrantLemmas.{legal_ready, legal_there}

-- the thread that an entry answers
pub owner : Work → Option ℕ
owner (Node n q c) = None
owner (Access t i) = Some t
owner (End t r) = Some t

pub node_owner : (n q : ℕ) (c : Command) → owner (Node n q c) ≡ None
unfolding owner
node_owner n q c = refl

pub access_owner : (t i : ℕ) → owner (Access t i) ≡ Some t
unfolding owner
access_owner t i = refl

pub end_owner : (t r : ℕ) → owner (End t r) ≡ Some t
unfolding owner
end_owner t r = refl

-- an entry of the list is pending, and a thread's
pub record IsOf (es : List Entry) (k u : ℕ) (e : Entry) : Type 0 where
  pub there : slice_get es k ≡ Some e
  pub pending : is_pending e.stage ≡ true
  pub owned : owner e.work ≡ Some u

pub record Waited (es : List Entry) (ws : List Waits) : Type 0 where
  pub waits : (k u : ℕ) (e : Entry) → IsOf es k u e → slice_get ws u ≡ Some OnEntry
  pub alone : (i j u : ℕ) (x y : Entry) → IsOf es i u x → IsOf es j u y → i ≡ j

-- the threads but t wait on for their entries
abbrev pub OthersWait : ℕ → List Waits → List Waits → Type 0
OthersWait t ws vs = (u : ℕ) → (u ≡ t → ⊥) → slice_get ws u ≡ Some OnEntry → slice_get vs u ≡ Some OnEntry

-- the pending entries are old ones
abbrev pub NoneNew : List Entry → List Entry → Type 0
NoneNew es fs = (k : ℕ) (e : Entry) → slice_get fs k ≡ Some e → is_pending e.stage ≡ true → slice_get es k ≡ Some e

-- who waits for a new entry: nobody, or t
abbrev pub IsAwaited : ℕ → List Waits → Entry → Type 0
IsAwaited t vs e = (u : ℕ) → owner e.work ≡ Some u → (u ≡ t) × (slice_get vs u ≡ Some OnEntry)

-- what an ask of thread t changes
data Turned (t : ℕ) (es fs : List Entry) (ws vs : List Waits) : Type 0 where
  no_entry : NoneNew es fs → OthersWait t ws vs → Turned t es fs ws vs
  an_entry : (e : Entry) → fs ≡ es ++ e ∷ [] → IsAwaited t vs e → OthersWait t ws vs → Turned t es fs ws vs

abbrev Turns : ℕ → Board → Board → Type 0
Turns t b c = Turned t b.entries c.entries b.waits c.waits

either : (v : Bool) (t : ℕ) (b c d : Board) → Turns t b c → Turns t b d → Turns t b (if v then c else d)
either true t b c d h i = h
either false t b c d h i = i

all_old : (es : List Entry) → NoneNew es es
all_old es k e g p = g

others_set : (t : ℕ) (ws : List Waits) (w : Waits) → OthersWait t ws (slice_set ws t w)
others_set t ws w u n h = places.set_other ws t w u n ∙ h

nothing : (t : ℕ) (b : Board) → Turns t b b
nothing t b = no_entry (all_old b.entries) (λ u n h. h)

-- the thread waits for something else, and the entries stay
waits_for : (t : ℕ) (es : List Entry) (ws : List Waits) (w : Waits) → Turned t es es ws (slice_set ws t w)
waits_for t es ws w = no_entry (all_old es) (others_set t ws w)

after_print-turn : (b : Board) (t : ℕ) (bytes : List ℕ) → Turns t b (after_print b t bytes)
unfolding after_print
after_print-turn b t bytes = either (nat_le (length b.output + length bytes) (2 ^ 24)) t b _ _ (waits_for t b.entries b.waits _) (nothing t b)

made_buffer-turn : (b : Board) (t : ℕ) (m : NewBuffer) → Turns t b (made_buffer b t m)
unfolding made_buffer
made_buffer-turn b t m =
    either (has_count (product m.range) m.init) t b _ b (either (nat_le (live_elements b.buffers + product m.range) (2 ^ 22)) t b _ _ (waits_for t b.entries b.waits _) (waits_for t b.entries b.waits _)) (nothing t b)

made_part-turn : (b : Board) (t r base n : ℕ) → Turns t b (made_part b t r base n)
unfolding made_part
made_part-turn b t r base n = either (is_root (slice_get b.buffers r) && nat_le (base + n) (count_of (slice_get b.buffers r))) t b _ b (waits_for t b.entries b.waits _) (nothing t b)

-- a new entry of thread t, which awaits it
awaited : (t : ℕ) (es : List Entry) (ws : List Waits) (e : Entry) → t < length ws → owner e.work ≡ Some t → Turned t es (es ++ e ∷ []) ws (slice_set ws t OnEntry)
awaited t es ws e lt o =
    an_entry e refl (λ u h. let same : u ≡ t = sym (same_Some t u (sym o ∙ h)) in (same, ap (slice_get (slice_set ws t OnEntry)) same ∙ places.set_same ws t OnEntry lt)) (others_set t ws OnEntry)

end_root-turn : (b : Board) (t r : ℕ) (x : Buffer) (o : Origin) → t < length b.waits → Turns t b (end_root b t r x o)
unfolding end_root owner
end_root-turn b t r x Vector lt = awaited t b.entries b.waits _ lt refl
end_root-turn b t r x Range lt = waits_for t b.entries b.waits _
end_root-turn b t r x Part lt = waits_for t b.entries b.waits _

end_buffer-turn : (b : Board) (t r : ℕ) (o : Option Buffer) → t < length b.waits → Turns t b (end_buffer b t r o)
unfolding end_buffer
end_buffer-turn b t r None lt = nothing t b
end_buffer-turn b t r (Some x) lt = either x.ended t b b _ (nothing t b) (end_root-turn b t r x x.origin lt)

opened_host-turn : (b : Board) (t : ℕ) (n : Need) → t < length b.waits → Turns t b (opened_host b t n)
unfolding opened_host owner
opened_host-turn b t n lt = either (is_root_need b.buffers n) t b _ b (awaited t b.entries b.waits _ lt refl) (nothing t b)

nobodys : (t : ℕ) (es : List Entry) (ws : List Waits) (e : Entry) (w : Waits) → owner e.work ≡ None → Turned t es (es ++ e ∷ []) ws (slice_set ws t w)
nobodys t es ws e w o = an_entry e refl (λ u h. absurd (none-some u (sym o ∙ h))) (others_set t ws w)

after_submit-turn : (b : Board) (t : ℕ) (s : Submission) (o : Option Queue) → Turns t b (after_submit b t s o)
unfolding after_submit owner
after_submit-turn b t s None = nothing t b
after_submit-turn b t s (Some x) = either (holds_together b s) t b _ b (nobodys t b.entries b.waits _ _ refl) (nothing t b)

closed_old : (es : List Entry) (k : ℕ) (s : Stage) → is_pending s ≡ false → NoneNew es (changed_at (with_stage s) k es)
closed_old es k s p j e g h = elim (places.changed_or (with_stage s) k es j e g) [
  | kept old n ↦ old
  | changed z jk gk fz ↦ let w : true ≡ false = sym h ∙ ap (λ x. is_pending x.stage) (sym fz) ∙ p in absurd cc
]

after_close-turn : (b : Board) (t : ℕ) (values : List ℤ) (k : ℕ) (n : Need) → Turns t b (after_close b t values k n)
unfolding after_close put_back
after_close-turn b t values k n =
    let es = same_part (λ (c : Board). c.entries) (writes n.mode) b _ refl in
    let ws = same_part (λ (c : Board). c.waits) (writes n.mode) b _ refl in
    either (length values == n.to - n.from) t b _ b
    (no_entry (λ j e g p. closed_old b.entries k stage.Done refl j e (ap (λ l. slice_get (changed_at (with_stage stage.Done) k l) j) (sym es) ∙ g) p)
    (λ u d h. ap (λ l. slice_get (slice_set l t (Due Answered)) u) ws ∙ others_set t b.waits _ u d h))
    (nothing t b)

close_entry-turn : (b : Board) (t : ℕ) (values : List ℤ) (k : ℕ) (s : Stage) (ns : List Need) → Turns t b (close_entry b t values k s ns)
unfolding close_entry
close_entry-turn b t values k stage.Granted (n ∷ ns) = after_close-turn b t values k n
close_entry-turn b t values k stage.Granted [] = nothing t b
close_entry-turn b t values k stage.Pending ns = nothing t b
close_entry-turn b t values k stage.Done ns = nothing t b
close_entry-turn b t values k (stage.Failed f) ns = nothing t b

close_at-turn : (b : Board) (t : ℕ) (values : List ℤ) (k : ℕ) (o : Option Entry) → Turns t b (close_at b t values k o)
unfolding close_at
close_at-turn b t values k None = nothing t b
close_at-turn b t values k (Some e) = close_entry-turn b t values k e.stage e.needs

close_found-turn : (b : Board) (t : ℕ) (values : List ℤ) (o : Option ℕ) → Turns t b (close_found b t values o)
unfolding close_found
close_found-turn b t values None = nothing t b
close_found-turn b t values (Some k) = close_at-turn b t values k (slice_get b.entries k)

made_context-turn : (b : Board) (t : ℕ) → Turns t b (made_context b t)
unfolding made_context
made_context-turn b t = either (nat_lt b.places 17) t b _ _ (waits_for t b.entries b.waits _) (waits_for t b.entries b.waits _)

made_queue-turn : (b : Board) (t : ℕ) (m : NewQueue) → Turns t b (made_queue b t m)
unfolding made_queue
made_queue-turn b t m = either (nat_lt 0 m.context && nat_lt m.context b.places) t b _ b (waits_for t b.entries b.waits _) (nothing t b)

wait_if-turn : (v : Bool) (b : Board) (t : ℕ) (w : Waits) → Turns t b (wait_if v b t w)
wait_if-turn true b t w = waits_for t b.entries b.waits w
wait_if-turn false b t w = nothing t b

after_throw-turn : (b : Board) (t : ℕ) (o : Option KernelError) → Turns t b (after_throw b t o)
after_throw-turn b t None = waits_for t b.entries b.waits _
after_throw-turn b t (Some e) = nothing t b

throw_queue-turn : (b : Board) (t q : ℕ) → Turns t b (throw_queue b t q)
unfolding throw_queue
throw_queue-turn b t q = either (nat_lt q (length b.queues)) t b _ b (after_throw-turn b t (error_on q b.entries)) (nothing t b)

after_spawn-turn : (b : Board) (t : ℕ) → Turns t b (after_spawn b t)
unfolding after_spawn
after_spawn-turn b t =
    either (nat_lt (length b.waits) 64) t b _ _
    (no_entry (all_old b.entries) (λ u n h. others_set t (b.waits ++ Ready ∷ []) _ u n (places.get_front b.waits Ready u (slice_get_within b.waits u OnEntry h) ∙ h)))
    (nothing t b)

apply-turn : (b : Board) (t : ℕ) (q : Ask) → t < length b.waits → Turns t b (apply b t q)
unfolding apply
apply-turn b t (Print bytes) lt = after_print-turn b t bytes
apply-turn b t (MakeBuffer m) lt = made_buffer-turn b t m
apply-turn b t (MakeSub parent base range) lt = made_part-turn b t parent base (product range)
apply-turn b t (EndBuffer r) lt = end_buffer-turn b t r (slice_get b.buffers r) lt
apply-turn b t (OpenHost n) lt = opened_host-turn b t n lt
apply-turn b t (CloseHost k values) lt = close_found-turn b t values (access_from 0 b.entries t k)
apply-turn b t (MakeContext device) lt = made_context-turn b t
apply-turn b t (MakeQueue m) lt = made_queue-turn b t m
apply-turn b t (Submit s) lt = after_submit-turn b t s (slice_get b.queues s.queue)
apply-turn b t (WaitNode n) lt = wait_if-turn _ b t _
apply-turn b t (WaitQueue q) lt = wait_if-turn _ b t _
apply-turn b t (ThrowQueue q) lt = throw_queue-turn b t q
apply-turn b t (Spawn body captures) lt = after_spawn-turn b t
apply-turn b t (Join u) lt = wait_if-turn _ b t _
apply-turn b t (Finish v) lt = waits_for t b.entries b.waits _
apply-turn b t (Halt h) lt = nothing t b
apply-turn b t (Barrier place line) lt = nothing t b
apply-turn b t (Collect place line call) lt = nothing t b

-- ---- the invariant through a step

-- no pending entry is of thread t
abbrev pub NoneOf : ℕ → List Entry → Type 0
NoneOf t es = (k : ℕ) (e : Entry) → IsOf es k t e → ⊥

turned_waited : (t : ℕ) (es fs : List Entry) (ws vs : List Waits) → Turned t es fs ws vs → NoneOf t es → Waited es ws → Waited fs vs
turned_waited t es fs ws vs (no_entry old others) none h =
    let back = λ (k u : ℕ) (e : Entry) (p : IsOf fs k u e). let q : IsOf es k u e = record { there = old k e p.there p.pending; pending = p.pending; owned = p.owned } in q in
    record {
      waits = λ k u e p. others u (λ same. none k e (subst (λ v. IsOf es k v e) same (back k u e p))) (h.waits k u e (back k u e p));
      alone = λ i j u x y p q. h.alone i j u x y (back i u x p) (back j u y q);
    }
turned_waited t es fs ws vs (an_entry e p awaits others) none h = subst (λ l. Waited l vs) (sym p) (record {
  waits = λ k u x q. elim (places.last_or es e k x q.there) [
    | inl old ↦
        let was : IsOf es k u x = record { there = old; pending = q.pending; owned = q.owned } in
        others u (λ same. none k x (subst (λ v. IsOf es k v x) same was)) (h.waits k u x was)
    | inr last ↦ (awaits u (ap (λ y. owner y.work) last.1 ∙ q.owned)).1
  ];
  alone = λ i j u x y q r. elim (places.last_or es e i x q.there) [
    | inl old ↦ elim (places.last_or es e j y r.there) [
      | inl older ↦ h.alone i j u x y (record { there = old; pending = q.pending; owned = q.owned }) (record { there = older; pending = r.pending; owned = r.owned })
      | inr last ↦ absurd (none i x (subst (λ v. IsOf es i v x) (awaits u (ap (λ z. owner z.work) last.1 ∙ r.owned)).0 (record { there = old; pending = q.pending; owned = q.owned })))
    ]
    | inr last ↦ elim (places.last_or es e j y r.there) [
      | inl older ↦ absurd (none j y (subst (λ v. IsOf es j v y) (awaits u (ap (λ z. owner z.work) last.1 ∙ q.owned)).0 (record { there = older; pending = r.pending; owned = r.owned })))
      | inr also ↦ last.0 ∙ sym also.0
    ]
  ];
})

abbrev pub BoardWaited : Board → Type 0
BoardWaited b = Waited b.entries b.waits

ready_is : (o : Option Waits) → ready_at o ≡ true → o ≡ Some OnEntry → ⊥
ready_is o h e = let z : true ≡ false = sym h ∙ ap ready_at e in cc

none_of_ready : (es : List Entry) (ws : List Waits) (t : ℕ) → ready_at (slice_get ws t) ≡ true → Waited es ws → NoneOf t es
none_of_ready es ws t ready h k e p = ready_is (slice_get ws t) ready (h.waits k t e p)

set_waited : (es : List Entry) (ws : List Waits) (t : ℕ) (w : Waits) → NoneOf t es → Waited es ws → Waited es (slice_set ws t w)
set_waited es ws t w none h = record {
  waits = λ k u e p. others_set t ws w u (λ same. none k e (subst (λ v. IsOf es k v e) same p)) (h.waits k u e p);
  alone = h.alone;
}

pub asked_waited : (b : Board) (t : ℕ) (q : Ask) → t < length b.waits → ready_at (slice_get b.waits t) ≡ true → BoardWaited b → BoardWaited (asked b t q)
asked_waited b t q lt ready h =
    let none = none_of_ready b.entries b.waits t ready h in
    let long : t < length (begin_ask b t).waits = let x = places.length_slice_set b.waits t Never in omega (arith, lt, x) in
    turned_waited t b.entries (asked b t q).entries (begin_ask b t).waits (asked b t q).waits (apply-turn (begin_ask b t) t q long) none (set_waited b.entries b.waits t Never none h)

-- ---- the pass

-- a thread that the entry does not answer waits on
abbrev pub Spared : Work → List Waits → List Waits → Type 0
Spared w ws vs = (u : ℕ) → (owner w ≡ Some u → ⊥) → slice_get vs u ≡ slice_get ws u

took_waits : (b : Board) (k : ℕ) (needs : List Need) (o : Outcome) → (took b k needs o).waits ≡ b.waits
unfolding took
took_waits b k needs (Wrote log) = refl
took_waits b k needs (CommandFailed f) = refl

pub effect_spares : (out : OutcomeOf) (b : Board) (k : ℕ) (e : Entry) (w : Work) → Spared w b.waits (effect out b k e w).waits
unfolding effect owner
effect_spares out b k e (Node n q c) u h = ap (λ l. slice_get l u) (took_waits b k e.needs (out c (inputs b.buffers e.needs)))
effect_spares out b k e (Access t i) u h = places.set_other b.waits t _ u (λ same. h (ap Some (sym same)))
effect_spares out b k e (End t r) u h = places.set_other b.waits t _ u (λ same. h (ap Some (sym same)))

-- the entries change at k alone, which is no longer pending
pub record Moves (k : ℕ) (es fs : List Entry) : Type 0 where
  pub new_stage : Stage
  pub moved_on : is_pending new_stage ≡ false
  pub same_but : fs ≡ changed_at (with_stage new_stage) k es

took_moves : (b : Board) (k : ℕ) (needs : List Need) (o : Outcome) → Moves k b.entries (took b k needs o).entries
unfolding took
took_moves b k needs (Wrote log) = record { new_stage = stage.Done; moved_on = refl; same_but = refl }
took_moves b k needs (CommandFailed f) = record { new_stage = stage.Failed f; moved_on = refl; same_but = refl }

pub effect_moves : (out : OutcomeOf) (b : Board) (k : ℕ) (e : Entry) (w : Work) → Moves k b.entries (effect out b k e w).entries
unfolding effect
effect_moves out b k e (Node n q c) = took_moves b k e.needs (out c (inputs b.buffers e.needs))
effect_moves out b k e (Access t i) = record { new_stage = stage.Granted; moved_on = refl; same_but = refl }
effect_moves out b k e (End t r) = record { new_stage = stage.Done; moved_on = refl; same_but = refl }

-- a pending entry after the move is an old one at another place
moved_old : (k : ℕ) (es fs : List Entry) (j u : ℕ) (x : Entry) → Moves k es fs → IsOf fs j u x → (IsOf es j u x) × (j ≡ k → ⊥)
moved_old k es fs j u x m p = elim (places.changed_or (with_stage m.new_stage) k es j x (ap (λ l. slice_get l j) (sym m.same_but) ∙ p.there)) [
  | kept old n ↦ (record { there = old; pending = p.pending; owned = p.owned }, n)
  | changed z jk gk fz ↦ let w : true ≡ false = sym p.pending ∙ ap (λ y. is_pending y.stage) (sym fz) ∙ m.moved_on in absurd cc
]

effect_waited : (out : OutcomeOf) (b : Board) (k : ℕ) (e : Entry) → slice_get b.entries k ≡ Some e → is_pending e.stage ≡ true → BoardWaited b → BoardWaited (effect out b k e e.work)
effect_waited out b k e at pending h =
    let m = effect_moves out b k e e.work in
    let fs = (effect out b k e e.work).entries in
    record {
      waits = λ j u x p.
          let q = moved_old k b.entries fs j u x m p in
          effect_spares out b k e e.work u (λ o. q.1 (h.alone j k u x e q.0 (record { there = at; pending = pending; owned = o }))) ∙ h.waits j u x q.0;
      alone = λ i j u x y p q. h.alone i j u x y (moved_old k b.entries fs i u x m p).0 (moved_old k b.entries fs j u y m q).0;
    }

chosen_waited : (v : Bool) (out : OutcomeOf) (b : Board) (k : ℕ) (e : Entry) → is_free b.entries k e ≡ v → slice_get b.entries k ≡ Some e → BoardWaited b → BoardWaited (if v then effect out b k e e.work else b)
chosen_waited true out b k e free at h = effect_waited out b k e at (free_pending b.entries k e free) h
chosen_waited false out b k e free at h = h

entry_waited : (out : OutcomeOf) (b : Board) (k : ℕ) (o : Option Entry) → slice_get b.entries k ≡ o → BoardWaited b → BoardWaited (settle_entry out b k o)
unfolding settle_entry
entry_waited out b k None at h = h
entry_waited out b k (Some e) at h = chosen_waited (is_free b.entries k e) out b k e refl at h

pub upto_waited : (out : OutcomeOf) (b : Board) (n : ℕ) → BoardWaited b → BoardWaited (settle_upto out b n)
upto_waited out b zero h = h
upto_waited out b (suc n) h = entry_waited out (settle_upto out b n) n (slice_get (settle_upto out b n).entries n) refl (upto_waited out b n h)

-- ---- the end of a step

given_waited : (b : Board) (es : List Entry) (ws : List Waits) → Waited es ws → Waited es (map once_heard (map (given b) ws))
given_waited b es ws h = record {
  waits = λ k u e p. slice_get-map once_heard (map (given b) ws) u ∙ ap (option_map once_heard) (slice_get-map (given b) ws u ∙ ap (option_map (given b)) (h.waits k u e p));
  alone = h.alone;
}

step_waited : (p : Program) (s : State) (t : ℕ) → is_legal p s t ≡ true → BoardWaited s.board → BoardWaited (step p s t).board
unfolding step turn give_all
step_waited p s t legal h =
    let c = asked s.board t (next_ask p s t) in
    let d = settle p.outcome c in
    given_waited d d.entries d.waits (upto_waited p.outcome c (length c.entries) (asked_waited s.board t (next_ask p s t) (legal_there p s t legal) (legal_ready p s t legal) h))

from_waited : (p : Program) (s : State) (order : List ℕ) (u : State) → seq_from p s order ≡ Some u → BoardWaited s.board → BoardWaited u.board
from_waited p s [] u e h = subst (λ (x : State). BoardWaited x.board) (same_Some s u e) h
from_waited p s (t ∷ ts) u e h =
    let q = one_legal (is_legal p s t) (seq_from p (step p s t) ts) u e in
    from_waited p (step p s t) ts u q.1 (step_waited p s t q.0 h)

pub seq_waited : (p : Program) (order : List ℕ) (s : State) → seq p order ≡ Some s → BoardWaited s.board
seq_waited p order s e = from_waited p (start p) order s e (record {
  waits = λ k u x h. absurd (none-some x h.there);
  alone = λ i j u x y h g. absurd (none-some x h.there);
})
