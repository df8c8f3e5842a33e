-- The commands of a board's nodes are known if those of all submissions are.
use Rattle.std.proofs.Common.{◌≡◌, ℕ, zero, suc, ◌+◌, ℤ, List, [], ◌∷◌, ◌++◌, length, Bool, true, false, Option, Some, None, refl, ap, ◌∙◌, subst, ◌⊎◌, inl, inr}
use Rattle.std.specs.Prelude.{slice_get, if◌then◌else◌, ◌^◌, nat_le, nat_lt, ◌&&◌}
use Rattle.sy_access.specs.declared.access.Need.{Need}
use Rattle.sy_access.specs.Needs.{writes}
use Rattle.sy_range.specs.LinearIds.{product}
use Rattle.sy_work.specs.Programs.{OutcomeOf}
use Rattle.sy_work.specs.declared.asks.Ask.{Ask}
use Rattle.sy_work.specs.declared.asks.Ask.TheVariants.{Print, MakeBuffer, MakeSub, EndBuffer, OpenHost, CloseHost, MakeContext, MakeQueue, Submit, WaitNode, WaitQueue, ThrowQueue, Spawn, Join, Finish, Halt as AskHalt, Barrier, Collect}
use Rattle.sy_work.specs.declared.asks.NewBuffer.{NewBuffer}
use Rattle.sy_work.specs.declared.asks.NewQueue.{NewQueue}
use Rattle.sy_work.specs.declared.asks.Submission.{Submission}
use Rattle.sy_work.specs.declared.commands.Command.{Command}
use Rattle.sy_work.specs.declared.commands.Outcome.{Outcome}
use Rattle.sy_work.specs.declared.commands.Outcome.TheVariants as outcome
use Rattle.sy_work.specs.declared.endings.KernelError.{KernelError}
use Rattle.sy_onecopy.specs.declared.Buffer.{Buffer}
use Rattle.sy_onecopy.specs.declared.Queue.{Queue}
use Rattle.sy_onecopy.specs.declared.Origin.{Origin}
use Rattle.sy_onecopy.specs.declared.Origin.TheVariants.{Vector, Range, Part}
use Rattle.sy_onecopy.specs.declared.Entry.{Entry}
use Rattle.sy_onecopy.specs.declared.Work.{Work}
use Rattle.sy_onecopy.specs.declared.Work.TheVariants.{Node, Access, End}
use Rattle.sy_onecopy.specs.declared.Stage.{Stage}
use Rattle.sy_onecopy.specs.declared.Stage.TheVariants.{Pending, Granted, Done, Failed}
use Rattle.sy_onecopy.specs.declared.Waits.{Waits}
use Rattle.sy_onecopy.specs.Each.{changed_at}
use Rattle.sy_onecopy.specs.State.{Board}
use Rattle.sy_onecopy.specs.Before.{is_free}
use Rattle.sy_onecopy.specs.Outcome.{inputs}
use Rattle.sy_onecopy.specs.Settle.{with_stage, took, effect, settle_entry, settle_upto}
use Rattle.sy_onecopy.specs.Step.{after_print, is_root, count_of, is_root_need, live_elements, has_count, made_buffer, made_part, end_root, end_buffer, opened_host, put_back, after_close, close_entry, close_at, close_found, access_from, made_context, made_queue, holds_together, node_entry, after_submit, wait_if, error_on, after_throw, throw_queue, after_spawn, apply, give_all, begin_ask, turn}
use Rattle.sy_sound.specs.Known.{AllKnown, IsKnown}

some_is : {A : Type 0} {x y : A} → Some x ≡ Some y → x ≡ y
some_is p = cc

-- a member of a list that was added to
in_push : {A : Type 0} (xs : List A) (e : A) (k : ℕ) (x : A) → slice_get (xs ++ e ∷ []) k ≡ Some x → (slice_get xs k ≡ Some x) ⊎ (e ≡ x)
in_push [] e zero x h = inr (some_is h)
in_push [] e (suc k) x h = inl h
in_push (y ∷ ys) e zero x h = inl h
in_push (y ∷ ys) e (suc k) x h = in_push ys e k x h

-- an entry whose stage may have changed
staged : (s : Stage) (k : ℕ) (es : List Entry) (j : ℕ) (x : Entry) → slice_get (changed_at (with_stage s) k es) j ≡ Some x → (y : Entry) × (slice_get es j ≡ Some y) × (y.work ≡ x.work)
staged s k [] j x h = (x, h, refl)
staged s zero (e ∷ es) zero x h = (e, refl, ap (λ (z : Entry). z.work) (some_is h))
staged s zero (e ∷ es) (suc j) x h = (x, h, refl)
staged s (suc k) (e ∷ es) zero x h = (x, h, refl)
staged s (suc k) (e ∷ es) (suc j) x h = staged s k es j x h

-- the work is no node, or its command is known
abbrev WorkKnown : (Command → Type 0) → Work → Type 0
WorkKnown K w = (n q : ℕ) (c : Command) → w ≡ Node n q c → K c

module _ (K : Command → Type 0) where
  abbrev Knows : Board → Type 0
  Knows b = AllKnown K b.entries

  known_push : (es : List Entry) (e : Entry) → AllKnown K es → WorkKnown K e.work → AllKnown K (es ++ e ∷ [])
  known_push es e h new k n q x c here is = elim (in_push es e k x here) [ inl old ↦ h k n q x c old is | inr same ↦ new n q c (ap (λ (z : Entry). z.work) same ∙ is) ]

  known_stage : (es : List Entry) (s : Stage) (k : ℕ) → AllKnown K es → AllKnown K (changed_at (with_stage s) k es)
  known_stage es s k h j n q x c here is = let w = staged s k es j x here in h j n q w.0 c w.1 (w.2 ∙ is)

  on_if : (v : Bool) (a b : Board) → Knows a → Knows b → Knows (if v then a else b)
  on_if true a b h k = h
  on_if false a b h k = k

  no_access : (t i : ℕ) → WorkKnown K (Access t i)
  no_access t i n q c e = absurd (let z : ⊥ = cc in z)

  no_end : (t r : ℕ) → WorkKnown K (End t r)
  no_end t r n q c e = absurd (let z : ⊥ = cc in z)

  node_known : (m p : ℕ) (d : Command) → K d → WorkKnown K (Node m p d)
  node_known m p d h n q c e = let same : d ≡ c = cc in subst K same h

  known_printed : (b : Board) (t : ℕ) (bytes : List ℕ) → Knows b → Knows (after_print b t bytes)
  unfolding after_print
  known_printed b t bytes h = on_if (nat_le (length b.output + length bytes) (2 ^ 24)) _ _ h h

  known_buffer : (b : Board) (t : ℕ) (m : NewBuffer) → Knows b → Knows (made_buffer b t m)
  unfolding made_buffer
  known_buffer b t m h = on_if (has_count (product m.range) m.init) _ _ (on_if (nat_le (live_elements b.buffers + product m.range) (2 ^ 22)) _ _ h h) h

  known_part : (b : Board) (t parent base count : ℕ) → Knows b → Knows (made_part b t parent base count)
  unfolding made_part
  known_part b t parent base count h = on_if (is_root (slice_get b.buffers parent) && nat_le (base + count) (count_of (slice_get b.buffers parent))) _ _ h h

  known_root : (b : Board) (t r : ℕ) (x : Buffer) (o : Origin) → Knows b → Knows (end_root b t r x o)
  unfolding end_root
  known_root b t r x Vector h = known_push b.entries _ h (no_end t r)
  known_root b t r x Range h = h
  known_root b t r x Part h = h

  known_end : (b : Board) (t r : ℕ) (o : Option Buffer) → Knows b → Knows (end_buffer b t r o)
  unfolding end_buffer
  known_end b t r None h = h
  known_end b t r (Some x) h = on_if x.ended _ _ h (known_root b t r x x.origin h)

  known_open : (b : Board) (t : ℕ) (n : Need) → Knows b → Knows (opened_host b t n)
  unfolding opened_host
  known_open b t n h = on_if (is_root_need b.buffers n) _ _ (known_push b.entries _ h (no_access t _)) h

  known_put : (b : Board) (n : Need) (values : List ℤ) → Knows b → Knows (put_back b n values)
  unfolding put_back
  known_put b n values h = on_if (writes n.mode) _ _ h h

  known_closed : (b : Board) (t : ℕ) (values : List ℤ) (k : ℕ) (n : Need) → Knows b → Knows (after_close b t values k n)
  unfolding after_close
  known_closed b t values k n h = on_if _ _ _ (known_stage (put_back b n values).entries Done k (known_put b n values h)) h

  known_entry : (b : Board) (t : ℕ) (values : List ℤ) (k : ℕ) (s : Stage) (ns : List Need) → Knows b → Knows (close_entry b t values k s ns)
  unfolding close_entry
  known_entry b t values k Granted (n ∷ ns) h = known_closed b t values k n h
  known_entry b t values k Granted [] h = h
  known_entry b t values k Pending ns h = h
  known_entry b t values k Done ns h = h
  known_entry b t values k (Failed f) ns h = h

  known_at : (b : Board) (t : ℕ) (values : List ℤ) (k : ℕ) (o : Option Entry) → Knows b → Knows (close_at b t values k o)
  unfolding close_at
  known_at b t values k None h = h
  known_at b t values k (Some e) h = known_entry b t values k e.stage e.needs h

  known_found : (b : Board) (t : ℕ) (values : List ℤ) (o : Option ℕ) → Knows b → Knows (close_found b t values o)
  unfolding close_found
  known_found b t values None h = h
  known_found b t values (Some k) h = known_at b t values k (slice_get b.entries k) h

  known_context : (b : Board) (t : ℕ) → Knows b → Knows (made_context b t)
  unfolding made_context
  known_context b t h = on_if (nat_lt b.places 17) _ _ h h

  known_queue : (b : Board) (t : ℕ) (m : NewQueue) → Knows b → Knows (made_queue b t m)
  unfolding made_queue
  known_queue b t m h = on_if (nat_lt 0 m.context && nat_lt m.context b.places) _ _ h h

  known_submitted : (b : Board) (t : ℕ) (s : Submission) (o : Option Queue) → K s.command → Knows b → Knows (after_submit b t s o)
  unfolding after_submit
  known_submitted b t s None k h = h
  known_submitted b t s (Some x) k h = on_if (holds_together b s) _ _ (known_push b.entries (node_entry b.nodes s x) h (node_known b.nodes s.queue s.command k)) h

  known_wait : (v : Bool) (b : Board) (t : ℕ) (w : Waits) → Knows b → Knows (wait_if v b t w)
  known_wait true b t w h = h
  known_wait false b t w h = h

  known_thrown : (b : Board) (t : ℕ) (o : Option KernelError) → Knows b → Knows (after_throw b t o)
  known_thrown b t None h = h
  known_thrown b t (Some e) h = h

  known_throw : (b : Board) (t q : ℕ) → Knows b → Knows (throw_queue b t q)
  unfolding throw_queue
  known_throw b t q h = on_if (nat_lt q (length b.queues)) _ _ (known_thrown b t (error_on q b.entries) h) h

  known_spawned : (b : Board) (t : ℕ) → Knows b → Knows (after_spawn b t)
  unfolding after_spawn
  known_spawned b t h = on_if (nat_lt (length b.waits) 64) _ _ h h

  pub known_apply : (b : Board) (t : ℕ) (q : Ask) → IsKnown K q → Knows b → Knows (apply b t q)
  unfolding apply
  known_apply b t (Print bytes) k h = known_printed b t bytes h
  known_apply b t (MakeBuffer m) k h = known_buffer b t m h
  known_apply b t (MakeSub parent base range) k h = known_part b t parent base (product range) h
  known_apply b t (EndBuffer r) k h = known_end b t r (slice_get b.buffers r) h
  known_apply b t (OpenHost n) k h = known_open b t n h
  known_apply b t (CloseHost i values) k h = known_found b t values (access_from 0 b.entries t i) h
  known_apply b t (MakeContext device) k h = known_context b t h
  known_apply b t (MakeQueue m) k h = known_queue b t m h
  known_apply b t (Submit s) k h = known_submitted b t s (slice_get b.queues s.queue) (k s refl) h
  known_apply b t (WaitNode n) k h = known_wait _ b t _ h
  known_apply b t (WaitQueue q) k h = known_wait _ b t _ h
  known_apply b t (ThrowQueue q) k h = known_throw b t q h
  known_apply b t (Spawn body captures) k h = known_spawned b t h
  known_apply b t (Join u) k h = known_wait _ b t _ h
  known_apply b t (Finish v) k h = h
  known_apply b t (AskHalt halt) k h = h
  known_apply b t (Barrier place line) k h = h
  known_apply b t (Collect place line call) k h = h

  known_took : (b : Board) (k : ℕ) (needs : List Need) (o : Outcome) → Knows b → Knows (took b k needs o)
  unfolding took
  known_took b k needs (outcome.Wrote log) h = known_stage b.entries Done k h
  known_took b k needs (outcome.Failed fault) h = known_stage b.entries (Failed fault) k h

  known_effect : (out : OutcomeOf) (b : Board) (k : ℕ) (e : Entry) (w : Work) → Knows b → Knows (effect out b k e w)
  unfolding effect
  known_effect out b k e (Node n q c) h = known_took b k e.needs (out c (inputs b.buffers e.needs)) h
  known_effect out b k e (Access t i) h = known_stage b.entries Granted k h
  known_effect out b k e (End t r) h = known_stage b.entries Done k h

  known_settle : (out : OutcomeOf) (b : Board) (k : ℕ) (o : Option Entry) → Knows b → Knows (settle_entry out b k o)
  unfolding settle_entry
  known_settle out b k None h = h
  known_settle out b k (Some e) h = on_if (is_free b.entries k e) _ _ (known_effect out b k e e.work h) h

  pub known_upto : (out : OutcomeOf) (b : Board) (k : ℕ) → Knows b → Knows (settle_upto out b k)
  known_upto out b zero h = h
  known_upto out b (suc k) h = known_settle out (settle_upto out b k) k (slice_get (settle_upto out b k).entries k) (known_upto out b k h)

  pub known_asked : (b : Board) (t : ℕ) (q : Ask) → IsKnown K q → Knows b → Knows (apply (begin_ask b t) t q)
  known_asked b t q k h = known_apply (begin_ask b t) t q k h

  -- the commands of the nodes after a turn
  pub known_turn : (out : OutcomeOf) (b : Board) (t : ℕ) (q : Ask) → IsKnown K q → Knows b → Knows (turn out b t q)
  unfolding turn give_all
  known_turn out b t q k h = known_upto out (apply (begin_ask b t) t q) (length (apply (begin_ask b t) t q).entries) (known_asked b t q k h)
