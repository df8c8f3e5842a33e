-- What each ask does to the fitting, and to who is ready.
use Rattle.std.proofs.Common.{◌≡◌, ◌≢◌, ◌⊎◌, ℕ, suc, ◌+◌, ◌-◌, ◌≤◌, ◌<◌, ℤ, List, [], ◌∷◌, ◌++◌, length, Bool, true, false, Option, Some, None, refl, sym, ap, ◌∙◌, subst, inl, inr, arith, length-set}
use Rattle.std.specs.Prelude.{slice_get, slice_set, if◌then◌else◌, ◌&&◌, ◌==◌, nat_lt, nat_le, ◌^◌}
use Rattle.std.proofs.lemmas.Bool.Decides.{nat_tests}
use Rattle.sy_access.specs.declared.access.Need.{Need}
use Rattle.sy_access.specs.Needs.{writes}
use Rattle.sy_range.specs.LinearIds.{product}
use Rattle.sy_work.specs.declared.asks.Ask.{Ask}
use Rattle.sy_work.specs.declared.asks.Ask.TheVariants.{Print, MakeBuffer, MakeSub, EndBuffer, OpenHost, CloseHost, MakeContext, MakeQueue, Submit, WaitNode, WaitQueue, ThrowQueue, Spawn, Join, Finish, Halt, Barrier, Collect}
use Rattle.sy_work.specs.declared.asks.Answer.TheVariants.{Done as Answered, Number, Refused}
use Rattle.sy_work.specs.declared.asks.Errc.TheVariants.{Runtime, MemoryAllocation}
use Rattle.sy_work.specs.declared.asks.NewBuffer.{NewBuffer}
use Rattle.sy_work.specs.declared.asks.NewQueue.{NewQueue}
use Rattle.sy_work.specs.declared.asks.Submission.{Submission}
use Rattle.sy_work.specs.declared.endings.KernelError.{KernelError}
use Rattle.sy_work.specs.declared.endings.Ending.TheVariants.{Terminated}
use Rattle.sy_work.specs.declared.asks.Why.TheVariants.{Threads}
use Rattle.sy_onecopy.specs.declared.Buffer.{Buffer}
use Rattle.sy_onecopy.specs.declared.Origin.{Origin}
use Rattle.sy_onecopy.specs.declared.Origin.TheVariants.{Vector, Range, Part}
use Rattle.sy_onecopy.specs.declared.Queue.{Queue}
use Rattle.sy_onecopy.specs.declared.Entry.{Entry}
use Rattle.sy_onecopy.specs.declared.Stage.{Stage}
use Rattle.sy_onecopy.specs.declared.Stage.TheVariants as stage
use Rattle.sy_onecopy.specs.declared.Waits.{Waits}
use Rattle.sy_onecopy.specs.declared.Waits.TheVariants.{Ready, Due, OnEntry, OnNode, OnQueue, OnThread, Never, Finished}
use Rattle.sy_needs.specs.Each.{each_from}
use Rattle.sy_onecopy.specs.State.{Board}
use Rattle.sy_onecopy.specs.Outcome.{values_of}
use Rattle.sy_onecopy.specs.Settle.{await, reply, to_stage}
use Rattle.sy_onecopy.specs.Step.{after_print, made_buffer, new_buffer, part_buffer, mark_ended, end_entry, access_entry, accesses, add_entry, node_entry, made_part, end_root, end_buffer, opened_host, buffer_put, put_back, after_close, close_entry, close_at, close_found, made_context, made_queue, after_submit, wait_if, after_throw, throw_queue, after_spawn, apply, stop, access_from, error_on, is_root, count_of, is_root_need, has_count, live_elements, holds_together}
use Rattle.sy_onecopy.specs.Sequence.{is_ready, ready_at}
use Rattle.sy_answers.specs.Fitting.{count_after, FitsEnd}
use Rattle.sy_answers.proofs.ListLemmas.{set_there, more_at, more_kept, more_before, last_at, length-more}
use Rattle.sy_answers.proofs.WaitLemmas.{Fit, Waited, Suits, IsAsked, owner, count_at, Idle, AllStay, NoneNew, Stays, less, told, node_none_new, stage_none_new}
use Rattle.sy_answers.proofs.BufferLemmas.{one_more_kept, all_kept, ended_kept, put_kept}
use Rattle.sy_answers.proofs.SettleLemmas.{Moves, MovesTo, FitsBoard, ready_set, unmoved, either}

-- thread t has asked this, and nothing is done about it yet
pub record Asks (ask : ℕ → Ask) (b : Board) (t : ℕ) (q : Ask) : Type 0 where
  pub fit : FitsBoard ask b
  pub never : slice_get b.waits t ≡ Some Never
  pub own : ask t ≡ q

none_kept : (es : List Entry) → NoneNew es es
none_kept es k e u x = x

-- the entry that is added is pending, and thread t waits for it
added : (ask : ℕ → Ask) (bs : List Buffer) (es : List Entry) (ws : List Waits) (t : ℕ) (e : Entry) → Fit ask bs es ws → Idle es t → slice_get ws t ≡ Some OnEntry → owner e.work ≡ Some t → IsAsked (ask t) bs e.needs e.work → Fit ask bs (es ++ e ∷ []) ws
added ask bs es ws t e f idle w o a = record {
  suits = f.suits;
  waiting = λ k d u x. elim (newer k d u x) [
    | inl y ↦ f.waiting k d u y
    | inr y ↦ subst (λ v. slice_get ws v ≡ Some OnEntry) (sym y.2) w
  ];
  asked = λ k d u x. elim (newer k d u x) [
    | inl y ↦ f.asked k d u y
    | inr y ↦ subst (λ v. IsAsked (ask v) bs d.needs d.work) (sym y.2) (subst (λ c. IsAsked (ask t) bs c.needs c.work) (sym y.1) a)
  ];
  once = λ j k c d u x y. elim (newer j c u x) [
    | inl p ↦ elim (newer k d u y) [
      | inl r ↦ f.once j k c d u p r
      | inr r ↦ absurd (idle j c (subst (λ v. Waited es j c v) r.2 p))
    ]
    | inr p ↦ elim (newer k d u y) [
      | inl r ↦ absurd (idle k d (subst (λ v. Waited es k d v) p.2 r))
      | inr r ↦ p.0 ∙ sym r.0
    ]
  ];
}
  where
    newer : (k : ℕ) (d : Entry) (u : ℕ) → Waited (es ++ e ∷ []) k d u → (Waited es k d u) ⊎ ((k ≡ length es) × (d ≡ e) × (u ≡ t))
    newer k d u x =
        elim (more_at es e d k x.at) [
          | inl p ↦ inl (record { at = p; pending = x.pending; owned = x.owned })
          | inr p ↦ inr (p.0, p.1, let z : Some u ≡ Some t = sym x.owned ∙ ap (λ y. owner y.work) p.1 ∙ o in cc)
        ]

module _ (ask : ℕ → Ask) (b : Board) (t : ℕ) (q : Ask) (a : Asks ask b t q) where
  idle : Idle b.entries t
  idle k e x = let z : Some Never ≡ Some OnEntry = sym a.never ∙ a.fit.waiting k e t x in cc

  stays : MovesTo ask b.waits b
  stays = unmoved ask b a.fit

  -- the thread is answered, or waits, while no buffer loses numbers and no entry comes that a thread waits for
  replied : (bs : List Buffer) (es : List Entry) (w : Waits) → AllStay b.buffers bs → NoneNew b.entries es → Suits bs q w → is_ready w ≡ false → Moves ask b.waits bs es (slice_set b.waits t w)
  replied bs es w h n s r = record {
    fit = told ask bs es b.waits t w (less ask b.buffers bs b.entries es b.waits a.fit h n) (λ k e x. idle k e (n k e t x)) (subst (λ y. Suits bs y w) (sym a.own) s);
    ready = ready_set b.waits t w (ap ready_at a.never) r;
    count = length-set b.waits t w;
  }

  answers : (w : Waits) → Suits b.buffers q w → is_ready w ≡ false → Moves ask b.waits b.buffers b.entries (slice_set b.waits t w)
  answers w s r = replied b.buffers b.entries w (all_kept b.buffers) (none_kept b.entries) s r

  -- the thread waits for a new entry
  entered : (bs : List Buffer) (e : Entry) → AllStay b.buffers bs → owner e.work ≡ Some t → IsAsked q bs e.needs e.work → Moves ask b.waits bs (b.entries ++ e ∷ []) (slice_set b.waits t OnEntry)
  entered bs e h o i =
      let m = replied bs b.entries OnEntry h (none_kept b.entries) tt refl in
      record {
        fit = added ask bs b.entries (slice_set b.waits t OnEntry) t e m.fit idle (set_there b.waits t OnEntry Never a.never) o (subst (λ y. IsAsked y bs e.needs e.work) (sym a.own) i);
        ready = m.ready;
        count = m.count;
      }

  waits_moves : (v : Bool) (w : Waits) → Suits b.buffers q w → is_ready w ≡ false → MovesTo ask b.waits (wait_if v b t w)
  waits_moves true w s r = answers w s r
  waits_moves false w s r = stays

module _ (ask : ℕ → Ask) (b : Board) (t : ℕ) where
  printed_moves : (bytes : List ℕ) → Asks ask b t (Print bytes) → MovesTo ask b.waits (after_print b t bytes)
  unfolding after_print
  printed_moves bytes a =
      either ask b.waits (nat_le (length b.output + length bytes) (2 ^ 24)) _ _ (answers ask b t (Print bytes) a (Due Answered) tt refl) (stays ask b t (Print bytes) a)

  made_buffer_moves : (m : NewBuffer) → Asks ask b t (MakeBuffer m) → MovesTo ask b.waits (made_buffer b t m)
  unfolding made_buffer
  made_buffer_moves m a =
      let q = MakeBuffer m in
      either ask b.waits (has_count (product m.range) m.init) _ b
      (either ask b.waits (nat_le (live_elements b.buffers + product m.range) (2 ^ 22)) _ _
      (replied ask b t q a (b.buffers ++ new_buffer m ∷ []) b.entries (Due (Number (length b.buffers))) (one_more_kept b.buffers (new_buffer m)) (none_kept b.entries) tt refl)
      (answers ask b t q a (Due (Refused MemoryAllocation)) refl refl))
      (stays ask b t q a)

  made_part_moves : (q : Ask) (r base n : ℕ) → Asks ask b t q → Suits (b.buffers ++ part_buffer ∷ []) q (Due (Number (length b.buffers))) → MovesTo ask b.waits (made_part b t r base n)
  unfolding made_part
  made_part_moves q r base n a s =
      either ask b.waits (is_root (slice_get b.buffers r) && nat_le (base + n) (count_of (slice_get b.buffers r))) _ b
      (replied ask b t q a (b.buffers ++ part_buffer ∷ []) b.entries (Due (Number (length b.buffers))) (one_more_kept b.buffers part_buffer) (none_kept b.entries) s refl)
      (stays ask b t q a)

  -- the buffer, marked as ended
  ended_at : (r : ℕ) (x : Buffer) → slice_get b.buffers r ≡ Some x → Stays x (mark_ended b r).buffers r
  ended_at r x e = ended_kept r b.buffers r x e

  end_done : (r : ℕ) (x : Buffer) → slice_get b.buffers r ≡ Some x → x.origin ≢ Vector → FitsEnd (slice_get (mark_ended b r).buffers r) Answered
  end_done r x e n = let y = ended_at r x e in subst (λ o. FitsEnd o Answered) (sym y.there) (λ v. n (sym y.origin ∙ v))

  end_root_moves : (r : ℕ) (x : Buffer) (o : Origin) → slice_get b.buffers r ≡ Some x → x.origin ≡ o → Asks ask b t (EndBuffer r) → MovesTo ask b.waits (end_root b t r x o)
  unfolding end_root
  end_root_moves r x Vector e v a =
      let y = ended_at r x e in
      entered ask b t (EndBuffer r) a (mark_ended b r).buffers (end_entry t r x) (ended_kept r b.buffers) refl (record { ask = refl; buffer = y.now; there = y.there; vector = y.origin ∙ v })
  end_root_moves r x Range e v a =
      replied ask b t (EndBuffer r) a (mark_ended b r).buffers b.entries (Due Answered) (ended_kept r b.buffers) (none_kept b.entries) (end_done r x e (λ h. let z : Range ≡ Vector = sym v ∙ h in cc)) refl
  end_root_moves r x Part e v a =
      replied ask b t (EndBuffer r) a (mark_ended b r).buffers b.entries (Due Answered) (ended_kept r b.buffers) (none_kept b.entries) (end_done r x e (λ h. let z : Part ≡ Vector = sym v ∙ h in cc)) refl

  end_buffer_moves : (r : ℕ) (o : Option Buffer) → slice_get b.buffers r ≡ o → Asks ask b t (EndBuffer r) → MovesTo ask b.waits (end_buffer b t r o)
  unfolding end_buffer
  end_buffer_moves r None e a = stays ask b t (EndBuffer r) a
  end_buffer_moves r (Some x) e a = either ask b.waits x.ended b _ (stays ask b t (EndBuffer r) a) (end_root_moves r x x.origin e refl a)

  counted_need : (o : Option Buffer) → count_of o ≡ length (values_of o)
  counted_need None = refl
  counted_need (Some x) = refl

  within_need : (n : Need) → is_root_need b.buffers n ≡ true → n.to ≤ count_at b.buffers n.buffer
  unfolding is_root_need
  within_need n h = let e = counted_need (slice_get b.buffers n.buffer) in grind (arith, nat_tests, e)

  opened_chosen : (n : Need) (k : ℕ) (v : Bool) → is_root_need b.buffers n ≡ v → Asks ask b t (OpenHost n) → MovesTo ask b.waits (if v then await (add_entry b (access_entry t k n)) t OnEntry else b)
  opened_chosen n k true h a = entered ask b t (OpenHost n) a b.buffers (access_entry t k n) (all_kept b.buffers) refl (record { need = n; alone = refl; ask = refl; within = within_need n h })
  opened_chosen n k false h a = stays ask b t (OpenHost n) a

  opened_host_moves : (n : Need) → Asks ask b t (OpenHost n) → MovesTo ask b.waits (opened_host b t n)
  unfolding opened_host
  opened_host_moves n a = opened_chosen n (accesses b.entries t) (is_root_need b.buffers n) refl a

  closed_put : (q : Ask) (values : List ℤ) (k : ℕ) (n : Need) (v : Bool) → Asks ask b t q → ((bs : List Buffer) → Suits bs q (Due Answered)) → MovesTo ask b.waits (reply (to_stage (if v then record b { buffers = each_from (buffer_put n values) 0 b.buffers } else b) k stage.Done) t Answered)
  closed_put q values k n true a s =
      replied ask b t q a (each_from (buffer_put n values) 0 b.buffers) (to_stage b k stage.Done).entries (Due Answered) (put_kept n values b.buffers) (stage_none_new stage.Done refl k b.entries) (s (each_from (buffer_put n values) 0 b.buffers)) refl
  closed_put q values k n false a s =
      replied ask b t q a b.buffers (to_stage b k stage.Done).entries (Due Answered) (all_kept b.buffers) (stage_none_new stage.Done refl k b.entries) (s b.buffers) refl

  closed_moves : (q : Ask) (values : List ℤ) (k : ℕ) (n : Need) → Asks ask b t q → ((bs : List Buffer) → Suits bs q (Due Answered)) → MovesTo ask b.waits (after_close b t values k n)
  unfolding after_close put_back
  closed_moves q values k n a s =
      either ask b.waits (length values == n.to - n.from) _ b (closed_put q values k n (writes n.mode) a s) (stays ask b t q a)

  close_entry_moves : (q : Ask) (values : List ℤ) (k : ℕ) (s : Stage) (ns : List Need) → Asks ask b t q → ((bs : List Buffer) → Suits bs q (Due Answered)) → MovesTo ask b.waits (close_entry b t values k s ns)
  unfolding close_entry
  close_entry_moves q values k stage.Granted (n ∷ ns) a f = closed_moves q values k n a f
  close_entry_moves q values k stage.Granted [] a f = stays ask b t q a
  close_entry_moves q values k stage.Pending ns a f = stays ask b t q a
  close_entry_moves q values k stage.Done ns a f = stays ask b t q a
  close_entry_moves q values k (stage.Failed x) ns a f = stays ask b t q a

  close_at_moves : (q : Ask) (values : List ℤ) (k : ℕ) (o : Option Entry) → Asks ask b t q → ((bs : List Buffer) → Suits bs q (Due Answered)) → MovesTo ask b.waits (close_at b t values k o)
  unfolding close_at
  close_at_moves q values k None a s = stays ask b t q a
  close_at_moves q values k (Some e) a s = close_entry_moves q values k e.stage e.needs a s

  close_found_moves : (q : Ask) (values : List ℤ) (o : Option ℕ) → Asks ask b t q → ((bs : List Buffer) → Suits bs q (Due Answered)) → MovesTo ask b.waits (close_found b t values o)
  unfolding close_found
  close_found_moves q values None a s = stays ask b t q a
  close_found_moves q values (Some k) a s = close_at_moves q values k (slice_get b.entries k) a s

  made_context_moves : (q : Ask) → Asks ask b t q → Suits b.buffers q (Due (Number b.places)) → Suits b.buffers q (Due (Refused Runtime)) → MovesTo ask b.waits (made_context b t)
  unfolding made_context
  made_context_moves q a s r = either ask b.waits (nat_lt b.places 17) _ _ (answers ask b t q a (Due (Number b.places)) s refl) (answers ask b t q a (Due (Refused Runtime)) r refl)

  made_queue_moves : (m : NewQueue) → Asks ask b t (MakeQueue m) → MovesTo ask b.waits (made_queue b t m)
  unfolding made_queue
  made_queue_moves m a =
      either ask b.waits (nat_lt 0 m.context && nat_lt m.context b.places) _ b (answers ask b t (MakeQueue m) a (Due (Number (length b.queues))) tt refl) (stays ask b t (MakeQueue m) a)

  submitted_moves : (s : Submission) (o : Option Queue) → Asks ask b t (Submit s) → MovesTo ask b.waits (after_submit b t s o)
  unfolding after_submit
  submitted_moves s None a = stays ask b t (Submit s) a
  submitted_moves s (Some x) a =
      let e = node_entry b.nodes s x in
      either ask b.waits (holds_together b s) _ b
      (replied ask b t (Submit s) a b.buffers (b.entries ++ e ∷ []) (Due (Number b.nodes)) (all_kept b.buffers) (node_none_new b.entries e refl) tt refl)
      (stays ask b t (Submit s) a)

  thrown_moves : (r : ℕ) (o : Option KernelError) → Asks ask b t (ThrowQueue r) → MovesTo ask b.waits (after_throw b t o)
  thrown_moves r None a = answers ask b t (ThrowQueue r) a (Due Answered) tt refl
  thrown_moves r (Some e) a = stays ask b t (ThrowQueue r) a

  throw_queue_moves : (r : ℕ) → Asks ask b t (ThrowQueue r) → MovesTo ask b.waits (throw_queue b t r)
  unfolding throw_queue
  throw_queue_moves r a = either ask b.waits (nat_lt r (length b.queues)) _ b (thrown_moves r (error_on r b.entries) a) (stays ask b t (ThrowQueue r) a)

-- these parts fit after an ask, and the threads that were there are ready as before, but for a new one
pub record Turned (ask : ℕ → Ask) (old : List Waits) (q : Ask) (bs : List Buffer) (es : List Entry) (ws : List Waits) : Type 0 where
  pub fit : Fit ask bs es ws
  pub ready : (u : ℕ) → u < length old → ready_at (slice_get ws u) ≡ ready_at (slice_get old u)
  pub fresh : (u : ℕ) → length old ≤ u → u < length ws → ready_at (slice_get ws u) ≡ true
  pub count : length ws ≡ count_after q (length old)

abbrev pub TurnedTo : (ℕ → Ask) → List Waits → Ask → Board → Type 0
TurnedTo ask old q b = Turned ask old q b.buffers b.entries b.waits

module _ (ask : ℕ → Ask) where
  -- an ask that starts no thread
  starts_none : (old : List Waits) (q : Ask) {bs : List Buffer} {es : List Entry} {ws : List Waits} → count_after q (length old) ≡ length old → Moves ask old bs es ws → Turned ask old q bs es ws
  starts_none old q n m = record {
    fit = m.fit;
    ready = λ u l. m.ready u;
    fresh = λ u l h. let e = m.count in absurd (omega arith);
    count = m.count ∙ sym n;
  }

  pub moves_on : (old : List Waits) (q : Ask) (b c : Board) → TurnedTo ask old q b → MovesTo ask b.waits c → TurnedTo ask old q c
  moves_on old q b c m n = record {
    fit = n.fit;
    ready = λ u l. n.ready u ∙ m.ready u l;
    fresh = λ u l h. n.ready u ∙ m.fresh u l (let e = n.count in omega arith);
    count = n.count ∙ m.count;
  }

  -- a thread that is ready fits whatever it asks next
  with_ready : (b : Board) → FitsBoard ask b → Fit ask b.buffers b.entries (b.waits ++ Ready ∷ [])
  with_ready b f = record {
    suits = λ u w h. elim (more_at b.waits Ready w u h) [
      | inl p ↦ f.suits u w p
      | inr p ↦ subst (λ y. Suits b.buffers (ask u) y) (sym p.1) tt
    ];
    waiting = λ k e u x. more_kept b.waits Ready OnEntry u (f.waiting k e u x);
    asked = f.asked;
    once = f.once;
  }

  module _ (b : Board) (t : ℕ) (q : Ask) (a : Asks ask b t q) where
    -- the waits once the thread is started
    pub started : List Waits
    started = slice_set (b.waits ++ Ready ∷ []) t (Due (Number (length b.waits)))

    started_ready : (u : ℕ) → ready_at (slice_get started u) ≡ ready_at (slice_get (b.waits ++ Ready ∷ []) u)
    unfolding started
    started_ready u = ready_set (b.waits ++ Ready ∷ []) t (Due (Number (length b.waits))) (ap ready_at (more_kept b.waits Ready Never t a.never)) refl u

    started_count : length started ≡ suc (length b.waits)
    unfolding started
    started_count = length-set (b.waits ++ Ready ∷ []) t (Due (Number (length b.waits))) ∙ length-more b.waits Ready

    started_fit : Suits b.buffers q (Due (Number (length b.waits))) → Fit ask b.buffers b.entries started
    unfolding started
    started_fit s = told ask b.buffers b.entries (b.waits ++ Ready ∷ []) t (Due (Number (length b.waits))) (with_ready b a.fit) (idle ask b t q a) (subst (λ y. Suits b.buffers y (Due (Number (length b.waits)))) (sym a.own) s)

    started_last : (u : ℕ) → length b.waits ≤ u → u < length started → ready_at (slice_get started u) ≡ true
    started_last u l h =
        let c = started_count in
        let e : u ≡ length b.waits = omega arith in
        started_ready u ∙ ap (λ v. ready_at (slice_get (b.waits ++ Ready ∷ []) v)) e ∙ ap ready_at (last_at b.waits Ready)

  spawn_chosen : (b : Board) (t body : ℕ) (captures : List ℤ) (v : Bool) → nat_lt (length b.waits) 64 ≡ v → Asks ask b t (Spawn body captures) → TurnedTo ask b.waits (Spawn body captures) (if v then reply (record b { waits = b.waits ++ Ready ∷ [] }) t (Number (length b.waits)) else stop b (Terminated Threads))
  unfolding started
  spawn_chosen b t body captures true h a =
      let q = Spawn body captures in
      record {
        fit = started_fit b t q a tt;
        ready = λ u l. started_ready b t q a u ∙ ap ready_at (more_before b.waits Ready u l);
        fresh = started_last b t q a;
        count = started_count b t q a ∙ ap (λ v. if v then suc (length b.waits) else length b.waits) (sym h);
      }
  spawn_chosen b t body captures false h a =
      starts_none b.waits (Spawn body captures) (ap (λ v. if v then suc (length b.waits) else length b.waits) h) (stays ask b t (Spawn body captures) a)

  spawned_turns : (b : Board) (t body : ℕ) (captures : List ℤ) → Asks ask b t (Spawn body captures) → TurnedTo ask b.waits (Spawn body captures) (after_spawn b t)
  unfolding after_spawn
  spawned_turns b t body captures a = spawn_chosen b t body captures (nat_lt (length b.waits) 64) refl a

  pub apply_turns : (b : Board) (t : ℕ) (q : Ask) → Asks ask b t q → TurnedTo ask b.waits q (apply b t q)
  unfolding apply
  apply_turns b t (Print bytes) a = starts_none b.waits (Print bytes) refl (printed_moves ask b t bytes a)
  apply_turns b t (MakeBuffer m) a = starts_none b.waits (MakeBuffer m) refl (made_buffer_moves ask b t m a)
  apply_turns b t (MakeSub parent base range) a = starts_none b.waits (MakeSub parent base range) refl (made_part_moves ask b t (MakeSub parent base range) parent base (product range) a tt)
  apply_turns b t (EndBuffer r) a = starts_none b.waits (EndBuffer r) refl (end_buffer_moves ask b t r (slice_get b.buffers r) refl a)
  apply_turns b t (OpenHost n) a = starts_none b.waits (OpenHost n) refl (opened_host_moves ask b t n a)
  apply_turns b t (CloseHost k values) a = starts_none b.waits (CloseHost k values) refl (close_found_moves ask b t (CloseHost k values) values (access_from 0 b.entries t k) a (λ bs. tt))
  apply_turns b t (MakeContext device) a = starts_none b.waits (MakeContext device) refl (made_context_moves ask b t (MakeContext device) a tt refl)
  apply_turns b t (MakeQueue m) a = starts_none b.waits (MakeQueue m) refl (made_queue_moves ask b t m a)
  apply_turns b t (Submit s) a = starts_none b.waits (Submit s) refl (submitted_moves ask b t s (slice_get b.queues s.queue) a)
  apply_turns b t (WaitNode n) a = starts_none b.waits (WaitNode n) refl (waits_moves ask b t (WaitNode n) a (nat_lt n b.nodes) (OnNode n) refl refl)
  apply_turns b t (WaitQueue r) a = starts_none b.waits (WaitQueue r) refl (waits_moves ask b t (WaitQueue r) a (nat_lt r (length b.queues)) (OnQueue r b.nodes) refl refl)
  apply_turns b t (ThrowQueue r) a = starts_none b.waits (ThrowQueue r) refl (throw_queue_moves ask b t r a)
  apply_turns b t (Spawn body captures) a = spawned_turns b t body captures a
  apply_turns b t (Join u) a = starts_none b.waits (Join u) refl (waits_moves ask b t (Join u) a (nat_lt u (length b.waits)) (OnThread u) refl refl)
  apply_turns b t (Finish v) a = starts_none b.waits (Finish v) refl (answers ask b t (Finish v) a (Finished v) tt refl)
  apply_turns b t (Halt h) a = starts_none b.waits (Halt h) refl (stays ask b t (Halt h) a)
  apply_turns b t (Barrier place line) a = starts_none b.waits (Barrier place line) refl (stays ask b t (Barrier place line) a)
  apply_turns b t (Collect place line call) a = starts_none b.waits (Collect place line call) refl (stays ask b t (Collect place line call) a)
