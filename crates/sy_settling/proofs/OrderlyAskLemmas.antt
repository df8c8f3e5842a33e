-- What an ask leaves of the entries that may take effect, and of the order of the board.
use Rattle.std.proofs.Common.{◌≡◌, ◌≢◌, ℕ, zero, suc, ◌+◌, ◌-◌, ◌<◌, ◌≤◌, ℤ, List, [], ◌∷◌, ◌++◌, length, take, map, set, Bool, true, false, Option, Some, None, ◌⊎◌, refl, sym, ap, ◌∙◌, subst, inl, inr, arith}
use Rattle.std.specs.Prelude.{◌^◌, slice_get, option_map, if◌then◌else◌, not, ◌&&◌, ◌||◌, ◌==◌, nat_lt, nat_le}
use Rattle.std.specs.List.{list_any, list_all}
use Rattle.std.proofs.lemmas.List.{take-append-le, length-append, length-set}
use Rattle.std.proofs.lemmas.Bool.{cases_Bool, cases_eq}
use Rattle.std.proofs.lemmas.List.Folds.{list_any-append, list_all-append}
use Rattle.std.proofs.lemmas.Bool.Decides.{nat_tests}
use Rattle.std.proofs.lemmas.Option.{slice_get_within, slice_get_cases}
use Rattle.sy_access.specs.declared.access.Need.{Need}
use Rattle.sy_range.specs.LinearIds.{product}
use Rattle.sy_work.specs.declared.asks.Ask.{Ask}
use Rattle.sy_work.specs.declared.asks.Ask.TheVariants.{Print, MakeBuffer, MakeSub, EndBuffer, OpenHost, CloseHost, MakeContext, MakeQueue, Submit, WaitNode, WaitQueue, ThrowQueue, Spawn, Join, Finish, Halt, Barrier, Collect}
use Rattle.sy_work.specs.declared.asks.Answer.TheVariants.{Done as Answered}
use Rattle.sy_work.specs.declared.asks.NewBuffer.{NewBuffer}
use Rattle.sy_work.specs.declared.asks.NewQueue.{NewQueue}
use Rattle.sy_work.specs.declared.asks.Submission.{Submission}
use Rattle.sy_work.specs.declared.endings.KernelError.{KernelError}
use Rattle.sy_onecopy.specs.declared.Buffer.{Buffer}
use Rattle.sy_onecopy.specs.declared.Origin.{Origin}
use Rattle.sy_onecopy.specs.declared.Origin.TheVariants.{Vector, Range, Part}
use Rattle.sy_onecopy.specs.declared.Queue.{Queue}
use Rattle.sy_onecopy.specs.declared.Entry.{Entry}
use Rattle.sy_onecopy.specs.declared.Work.{Work}
use Rattle.sy_onecopy.specs.declared.Work.TheVariants.{Node, Access, End}
use Rattle.sy_onecopy.specs.declared.Stage.{Stage}
use Rattle.sy_onecopy.specs.declared.Stage.TheVariants as stage
use Rattle.sy_onecopy.specs.declared.Waits.{Waits}
use Rattle.sy_onecopy.specs.declared.Waits.TheVariants.{Ready as NoWait, OnEntry, OnNode, OnQueue, OnThread}
use Rattle.sy_onecopy.specs.Each.{changed_at}
use Rattle.sy_onecopy.specs.State.{Board}
use Rattle.sy_onecopy.specs.Before.{is_node, is_pending, is_done, is_held, is_free}
use Rattle.sy_onecopy.specs.Outcome.{run_of, values_at, values_of, input, inputs}
use Rattle.sy_needs.specs.Elements.{at_start}
use Rattle.sy_needs.specs.Each.{each_from}
use Rattle.sy_onecopy.specs.Settle.{with_stage, await, reply}
use Rattle.sy_onecopy.specs.Step.{writes_if_fresh, node_done, queue_done, is_past, is_node_on, number_of, after_print, made_buffer, made_part, mark_ended, with_end, add_entry, end_entry, end_root, end_buffer, opened_host, access_entry, accesses, access_from, after_close, close_entry, close_at, close_found, made_context, made_queue, add_node, node_entry, after_submit, wait_if, after_throw, throw_queue, after_spawn, apply, error_on, is_root, count_of, is_root_need, are_root_needs, are_different, are_below, has_needs, has_count, live_elements, holds_together}
use Rattle.sy_settling.specs.Orderly.{IsAt, IsPendingAt, waiter, is_idle, are_there, NeedsWhole, IsOrderly}
use Rattle.sy_settling.proofs.ListLemmas.{get-changed, get-changed_other, length-changed, get-append, get-set, get-set_other, set_is, and_left, and_right, and_true, some_is, or_true, or_rest, or_start, no_right}
use Rattle.sy_settling.proofs.EffectLemmas.{Act, Seen, seen, seen-kept, after}
use Rattle.sy_settling.proofs.ElementLemmas.{meet_comm}
use Rattle.sy_settling.proofs.FreeLemmas.{free-pending, free-unheld, pending-open, strangers, free-changed}
use Rattle.sy_settling.proofs.OrderlyEffectLemmas.{need_of, Acts, orderly-after, Ready}
use Rattle.sy_settling.proofs.SettleLemmas.{is_free-front}
use Rattle.sy_settling.proofs.AskLemmas.{told-length, not_pending, closing, after_close-is, closing-acts}

-- ---- buffers and waits that go on

-- the buffers that were there hold what they held
pub record BuffersGo (xs ys : List Buffer) : Type 0 where
  pub longer : length xs ≤ length ys
  pub found : (r : ℕ) (x : Buffer) → slice_get xs r ≡ Some x → (y : Buffer) × (slice_get ys r ≡ Some y) × (y.values ≡ x.values)

-- the threads that waited for an entry still do, and those that wait for a queue wait for nodes that are there
pub record WaitsGo (b c : Board) : Type 0 where
  pub still : (u : ℕ) → slice_get b.waits u ≡ Some OnEntry → slice_get c.waits u ≡ Some OnEntry
  pub queued : ((u q n : ℕ) → slice_get b.waits u ≡ Some (OnQueue q n) → n ≤ b.nodes) → (u q n : ℕ) → slice_get c.waits u ≡ Some (OnQueue q n) → n ≤ c.nodes
  pub threads : length b.waits ≤ length c.waits
  pub nodes : b.nodes ≤ c.nodes

pub buffers-stay : (xs : List Buffer) → BuffersGo xs xs
buffers-stay xs = record { longer = omega arith; found = λ r x g. (x, g, refl) }

buffers-append : (xs ys : List Buffer) → BuffersGo xs (xs ++ ys)
buffers-append xs ys = record {
  longer = omega (arith, length-append xs ys);
  found = λ r x g. (x, get-append xs ys r (slice_get_within xs r x g) ∙ g, refl);
}

buffers-ended : (xs : List Buffer) (r : ℕ) → BuffersGo xs (changed_at with_end r xs)
buffers-ended xs r = record {
  longer = omega (arith, length-changed with_end r xs);
  found = λ q x g. elim (cases_eq q r) [
    | inl e ↦ (with_end x, subst (λ i. slice_get (changed_at with_end i xs) q ≡ Some (with_end x)) e (get-changed with_end q xs ∙ ap (option_map with_end) g), refl)
    | inr n ↦ (x, get-changed_other with_end r q xs n ∙ g, refl)
  ];
}

pub waits-stay : (b c : Board) → c.waits ≡ b.waits → b.nodes ≤ c.nodes → WaitsGo b c
waits-stay b c e m = record {
  still = λ u g. ap (λ l. slice_get l u) e ∙ g;
  queued = λ o u q n g. (let k : n ≤ b.nodes = o u q n (ap (λ l. slice_get l u) (sym e) ∙ g) in omega arith);
  threads = omega (arith, ap length e);
  nodes = m;
}

-- a wait for no queue
abbrev pub is_calm : Waits → Bool
is_calm (OnQueue q n) = false
is_calm w = true

quiet : (w : Waits) (q n : ℕ) → is_calm w ≡ true → w ≡ OnQueue q n → {A : Type 0} → A
quiet w q n k p = absurd (let z : false ≡ true = sym (ap is_calm p) ∙ k in cc)

set-still : (xs : List Waits) (t : ℕ) (w : Waits) → is_idle (slice_get xs t) ≡ true → (u : ℕ) → slice_get xs u ≡ Some OnEntry → slice_get (set xs t w) u ≡ Some OnEntry
set-still xs t w i u g = elim (cases_eq u t) [
  | inl e ↦ absurd (let z : false ≡ true = sym (ap is_idle (subst (λ j. slice_get xs j ≡ Some OnEntry) e g)) ∙ i in cc)
  | inr n ↦ get-set_other xs t u w n ∙ g
]

set-queued : (xs : List Waits) (t : ℕ) (w : Waits) (m : ℕ) → ((q n : ℕ) → w ≡ OnQueue q n → n ≤ m) → ((u q n : ℕ) → slice_get xs u ≡ Some (OnQueue q n) → n ≤ m) → (u q n : ℕ) → slice_get (set xs t w) u ≡ Some (OnQueue q n) → n ≤ m
set-queued xs t w m k o u q n g = elim (cases_eq u t) [
  | inl e ↦ k q n (set_is xs t w (OnQueue q n) (subst (λ j. slice_get (set xs t w) j ≡ Some (OnQueue q n)) e g))
  | inr ne ↦ o u q n (sym (get-set_other xs t u w ne) ∙ g)
]

waits-set_to : (b c : Board) (t : ℕ) (w : Waits) → c.waits ≡ set b.waits t w → b.nodes ≤ c.nodes → is_idle (slice_get b.waits t) ≡ true → ((q n : ℕ) → w ≡ OnQueue q n → n ≤ c.nodes) → WaitsGo b c
waits-set_to b c t w e m i k = record {
  still = λ u g. ap (λ l. slice_get l u) e ∙ set-still b.waits t w i u g;
  queued = λ o u q n g. set-queued b.waits t w c.nodes k (λ v r j h. (let z : j ≤ b.nodes = o v r j h in omega arith)) u q n (ap (λ l. slice_get l u) (sym e) ∙ g);
  threads = omega (arith, ap length e, length-set b.waits t w);
  nodes = m;
}

pub waits-set : (b c : Board) (t : ℕ) (w : Waits) → c.waits ≡ set b.waits t w → b.nodes ≤ c.nodes → is_idle (slice_get b.waits t) ≡ true → is_calm w ≡ true → WaitsGo b c
waits-set b c t w e m i k = waits-set_to b c t w e m i (λ q n p. quiet w q n k p)

pub idle_within : (xs : List Waits) (t : ℕ) → is_idle (slice_get xs t) ≡ true → t < length xs
idle_within xs t i =
    elim (slice_get_cases xs t).1 [
      | inl c ↦ c.1
      | inr c ↦ absurd (let z : false ≡ true = sym (ap is_idle c.1) ∙ i in cc)
    ]

-- ---- what an entry reads

values-go : (xs ys : List Buffer) (r : ℕ) → BuffersGo xs ys → r < length xs → values_at ys r ≡ values_at xs r
values-go xs ys r g lt =
    elim (slice_get_cases xs r).1 [
      | inl c ↦
          let f = g.found r c.0 c.2 in
          ap values_of f.1 ∙ f.2 ∙ sym (ap values_of c.2)
      | inr c ↦ absurd (omega (arith, c.0))
    ]

below_more : (n : Need) (i j : ℕ) → i ≤ j → nat_lt n.buffer i ≡ true → nat_lt n.buffer j ≡ true
below_more n i j le h = grind (arith, nat_tests)

test_lt : (m n : ℕ) → nat_lt m n ≡ true → m < n
test_lt m n h = grind (arith, nat_tests)

test_not : (m n : ℕ) → n ≤ m → nat_lt m n ≡ false
test_not m n h = grind (arith, nat_tests)

lt_test : (m n : ℕ) → m < n → nat_lt m n ≡ true
lt_test m n h = grind (arith, nat_tests)

there-go : (i j : ℕ) (needs : List Need) → i ≤ j → are_there i needs ≡ true → are_there j needs ≡ true
unfolding are_there
there-go i j [] le h = refl
there-go i j (n ∷ ns) le h =
    and_true (nat_lt n.buffer j) (are_there j ns) (below_more n i j le (and_left (nat_lt n.buffer i) (are_there i ns) h)) (there-go i j ns le (and_right (nat_lt n.buffer i) (are_there i ns) h))

inputs_go : (xs ys : List Buffer) (all needs : List Need) → BuffersGo xs ys → are_there (length xs) needs ≡ true → map (input ys all) needs ≡ map (input xs all) needs
unfolding input are_there
inputs_go xs ys all [] g h = refl
inputs_go xs ys all (n ∷ ns) g h =
    let lt : n.buffer < length xs = test_lt n.buffer (length xs) (and_left (nat_lt n.buffer (length xs)) (are_there (length xs) ns) h) in
    ap (λ l. (n.buffer, n.from, each_from (at_start all n.buffer) n.from (run_of l n.from n.to)) ∷ map (input ys all) ns) (values-go xs ys n.buffer g lt)
    ∙ ap (λ l. input xs all n ∷ l) (inputs_go xs ys all ns g (and_right (nat_lt n.buffer (length xs)) (are_there (length xs) ns) h))

inputs-go : (xs ys : List Buffer) (needs : List Need) → BuffersGo xs ys → are_there (length xs) needs ≡ true → inputs ys needs ≡ inputs xs needs
unfolding inputs
inputs-go xs ys needs g h = inputs_go xs ys needs needs g h

seen-go : (xs ys : List Buffer) (needs : List Need) (w : Work) → BuffersGo xs ys → are_there (length xs) needs ≡ true → ((t r : ℕ) → w ≡ End t r → NeedsWhole xs r needs) → seen ys needs w ≡ seen xs needs w
seen-go xs ys needs (Node n q c) g h w = ap (λ l. let s : Seen = (l, []) in s) (inputs-go xs ys needs g h)
seen-go xs ys needs (Access t i) g h w = ap (λ l. let s : Seen = (l, []) in s) (inputs-go xs ys needs g h)
seen-go xs ys needs (End t r) g h w = ap (λ l. let s : Seen = ([], l) in s) (values-go xs ys r g (slice_get_within xs r (w t r refl).buffer (w t r refl).found))

whole-go : (xs ys : List Buffer) (r : ℕ) (needs : List Need) → BuffersGo xs ys → NeedsWhole xs r needs → NeedsWhole ys r needs
whole-go xs ys r needs g n =
    let f = g.found r n.buffer n.found in
    record { buffer = f.0; found = f.1; all = n.all ∙ ap (λ l. need_of r (length l) ∷ []) (sym f.2) }

-- ---- what is over stays over

-- what a thread may wait for, where it has come, has come for good
pub record Lasts (b c : Board) : Type 0 where
  pub nodes : b.nodes ≤ c.nodes
  pub threads : length b.waits ≤ length c.waits
  pub node : (n : ℕ) → node_done b.entries n ≡ true → node_done c.entries n ≡ true
  pub queue : (q n : ℕ) → n ≤ b.nodes → queue_done b.entries q n ≡ true → queue_done c.entries q n ≡ true

pub lasts-trans : (b c d : Board) → Lasts b c → Lasts c d → Lasts b d
lasts-trans b c d f g = record {
  nodes = (let x = f.nodes in let y = g.nodes in omega arith);
  threads = (let x = f.threads in let y = g.threads in omega arith);
  node = λ n h. g.node n (f.node n h);
  queue = λ q n m h. g.queue q n (let x = f.nodes in omega arith) (f.queue q n m h);
}

pub lasts-same : (b c : Board) → c.entries ≡ b.entries → b.nodes ≤ c.nodes → length b.waits ≤ length c.waits → Lasts b c
lasts-same b c e m w = record {
  nodes = m;
  threads = w;
  node = λ n h. ap (λ l. node_done l n) e ∙ h;
  queue = λ q n k h. ap (λ l. queue_done l q n) e ∙ h;
}

node-added : (xs : List Entry) (x : Entry) (n : ℕ) → node_done xs n ≡ true → node_done (xs ++ x ∷ []) n ≡ true
unfolding node_done
node-added xs x n h =
    let p = λ (e : Entry). is_node e.work n && is_done e.stage in
    list_any-append p xs (x ∷ []) ∙ ap (λ v. v || list_any p (x ∷ [])) h

queue-added : (xs : List Entry) (x : Entry) (q n : ℕ) → is_past q n x ≡ true → queue_done xs q n ≡ true → queue_done (xs ++ x ∷ []) q n ≡ true
unfolding queue_done
queue-added xs x q n k h = list_all-append (is_past q n) xs (x ∷ []) ∙ and_true (list_all (is_past q n) xs) (is_past q n x && true) h (and_true (is_past q n x) true k refl)

node-changed : (s : Stage) (k : ℕ) (xs : List Entry) (e : Entry) (n : ℕ) → IsAt xs k e → is_done e.stage ≡ false → node_done xs n ≡ true → node_done (changed_at (with_stage s) k xs) n ≡ true
unfolding node_done
node-changed s k [] e n g d h = h
node-changed s zero (x ∷ xs) e n g d h =
    let p = λ (y : Entry). is_node y.work n && is_done y.stage in
    let undone : is_done x.stage ≡ false = ap (λ (y : Entry). is_done y.stage) (some_is g) ∙ d in
    or_true (p (with_stage s x)) (list_any p xs) (or_rest (p x) (list_any p xs) (no_right (is_node x.work n) (is_done x.stage) undone) h)
node-changed s (suc k) (x ∷ xs) e n g d h =
    let p = λ (y : Entry). is_node y.work n && is_done y.stage in
    elim (cases_Bool (p x)) [
      | inl v ↦ ap (λ u. u || list_any p (changed_at (with_stage s) k xs)) v
      | inr v ↦ or_true (p x) (list_any p (changed_at (with_stage s) k xs)) (node-changed s k xs e n g d (or_rest (p x) (list_any p xs) v h))
    ]

queue-changed : (s : Stage) (k : ℕ) (xs : List Entry) (e : Entry) (q n : ℕ) → IsAt xs k e → is_done e.stage ≡ false → queue_done xs q n ≡ true → queue_done (changed_at (with_stage s) k xs) q n ≡ true
unfolding queue_done
queue-changed s k [] e q n g d h = h
queue-changed s zero (x ∷ xs) e q n g d h =
    let undone : is_done x.stage ≡ false = ap (λ (y : Entry). is_done y.stage) (some_is g) ∙ d in
    let off = not (is_node_on q x.work && nat_lt (number_of x.work) n) in
    let is : off ≡ true = or_start off (is_done x.stage) undone (and_left (is_past q n x) (list_all (is_past q n) xs) h) in
    and_true (is_past q n (with_stage s x)) (list_all (is_past q n) xs) (ap (λ u. u || is_done s) is) (and_right (is_past q n x) (list_all (is_past q n) xs) h)
queue-changed s (suc k) (x ∷ xs) e q n g d h =
    and_true (is_past q n x) (list_all (is_past q n) (changed_at (with_stage s) k xs)) (and_left (is_past q n x) (list_all (is_past q n) xs) h)
    (queue-changed s k xs e q n g d (and_right (is_past q n x) (list_all (is_past q n) xs) h))

pub lasts-after : (b : Board) (a : Act) (k : ℕ) (e : Entry) → IsAt b.entries k e → is_done e.stage ≡ false → Lasts b (after a k b)
lasts-after b a k e g d = record {
  nodes = omega arith;
  threads = omega (arith, told-length a.due b.waits);
  node = λ n h. node-changed a.stage k b.entries e n g d h;
  queue = λ q n m h. queue-changed a.stage k b.entries e q n g d h;
}

-- ---- one board after another

-- each entry that may take effect still may, and reads the same, and the board is in order
pub record Follows (b c : Board) : Type 0 where
  pub sees : (k : ℕ) (e : Entry) → Ready b k e → seen c.buffers e.needs e.work ≡ seen b.buffers e.needs e.work
  pub stays : (k : ℕ) (e : Entry) → Ready b k e → IsAt c.entries k e × (is_free c.entries k e ≡ true)
  pub orderly : IsOrderly b → IsOrderly c
  pub lasts : Lasts b c

pub ready-go : (b c : Board) (k : ℕ) (e : Entry) → Follows b c → Ready b k e → Ready c k e
ready-go b c k e f r = record { orderly = f.orderly r.orderly; at = (f.stays k e r).0; free = (f.stays k e r).1 }

pub follows-trans : (b c d : Board) → Follows b c → Follows c d → Follows b d
follows-trans b c d f g = record {
  sees = λ k e r. g.sees k e (ready-go b c k e f r) ∙ f.sees k e r;
  stays = λ k e r. g.stays k e (ready-go b c k e f r);
  orderly = λ o. g.orderly (f.orderly o);
  lasts = lasts-trans b c d f.lasts g.lasts;
}

sees-go : (b c : Board) (k : ℕ) (e : Entry) → BuffersGo b.buffers c.buffers → Ready b k e → seen c.buffers e.needs e.work ≡ seen b.buffers e.needs e.work
sees-go b c k e g r =
    let p : IsPendingAt b.entries k e = (r.at, free-pending b.entries k e r.free) in
    seen-go b.buffers c.buffers e.needs e.work g (r.orderly.there k e p) (λ t i w. r.orderly.whole k t i e p w)

pub orderly-same : (b c : Board) → c.entries ≡ b.entries → BuffersGo b.buffers c.buffers → WaitsGo b c → IsOrderly b → IsOrderly c
orderly-same b c h g w o =
    let was : (k : ℕ) (x : Entry) → IsPendingAt c.entries k x → IsPendingAt b.entries k x = λ k x p. (ap (λ l. slice_get l k) (sym h) ∙ p.0, p.1) in
    record {
      awaited = λ k t x p q. w.still t (o.awaited k t x (was k x p) q);
      alone = λ j k t x y p q u v. o.alone j k t x y (was j x p) (was k y q) u v;
      there = λ k x p. there-go (length b.buffers) (length c.buffers) x.needs g.longer (o.there k x (was k x p));
      whole = λ k t r x p q. whole-go b.buffers c.buffers r x.needs g (o.whole k t r x (was k x p) q);
      open_first = λ k x p q. ap (λ l. is_held (take k l) x) h ∙ o.open_first k x (ap (λ l. slice_get l k) (sym h) ∙ p) q;
      queued = w.queued o.queued;
    }

pub follows-same : (b c : Board) → c.entries ≡ b.entries → BuffersGo b.buffers c.buffers → WaitsGo b c → Follows b c
follows-same b c h g w = record {
  sees = λ k e r. sees-go b c k e g r;
  stays = λ k e r. (ap (λ l. slice_get l k) h ∙ r.at, ap (λ l. is_free l k e) h ∙ r.free);
  orderly = orderly-same b c h g w;
  lasts = lasts-same b c h w.nodes w.threads;
}

follows-itself : (b : Board) → Follows b b
follows-itself b = follows-same b b refl (buffers-stay b.buffers) (waits-stay b _ refl (omega arith))

pub follows-if : (b y z : Board) (v : Bool) → (v ≡ true → Follows b y) → Follows b z → Follows b (if v then y else z)
follows-if b y z true f g = f refl
follows-if b y z false f g = g

-- ---- an entry at the end

-- an entry comes to b, which then is c
record Newcomer (b c : Board) (e : Entry) : Type 0 where
  added : c.entries ≡ b.entries ++ e ∷ []
  pends : e.stage ≡ stage.Pending
  awaits : (t : ℕ) → waiter e.work ≡ Some t → slice_get c.waits t ≡ Some OnEntry
  idle : (t : ℕ) → waiter e.work ≡ Some t → is_idle (slice_get b.waits t) ≡ true
  there : are_there (length c.buffers) e.needs ≡ true
  whole : (t r : ℕ) → e.work ≡ End t r → NeedsWhole c.buffers r e.needs
  later : (q m : ℕ) → m ≤ b.nodes → is_past q m e ≡ true

at-append : (xs : List Entry) (e : Entry) (k : ℕ) (x : Entry) → IsAt (xs ++ e ∷ []) k x → ((k < length xs) × IsAt xs k x) ⊎ ((k ≡ length xs) × (x ≡ e))
at-append [] e zero x g = inr (refl, some_is (sym g))
at-append [] e (suc k) x g = absurd cc
at-append (y ∷ ys) e zero x g = inl (omega arith, g)
at-append (y ∷ ys) e (suc k) x g = elim (at-append ys e k x g) [
  | inl p ↦ inl (let q = p.0 in omega arith, p.1)
  | inr p ↦ inr (ap suc p.0, p.1)
]

orderly-added : (b c : Board) (e : Entry) → Newcomer b c e → BuffersGo b.buffers c.buffers → WaitsGo b c → IsOrderly b → IsOrderly c
orderly-added b c e n g w o =
    let place : (k : ℕ) (x : Entry) → IsAt c.entries k x → ((k < length b.entries) × IsAt b.entries k x) ⊎ ((k ≡ length b.entries) × (x ≡ e)) = λ k x p. at-append b.entries e k x (ap (λ l. slice_get l k) (sym n.added) ∙ p) in
    record {
      awaited = λ k t x p q. elim (place k x p.0) [
        | inl f ↦ w.still t (o.awaited k t x (f.1, p.1) q)
        | inr f ↦ n.awaits t (ap (λ y. waiter y.work) (sym f.1) ∙ q)
      ];
      alone = λ j k t x y p q u v. elim (place j x p.0) [
        | inl f ↦ elim (place k y q.0) [
          | inl h ↦ o.alone j k t x y (f.1, p.1) (h.1, q.1) u v
          | inr h ↦ not_pending b j t x o (n.idle t (ap (λ z. waiter z.work) (sym h.1) ∙ v)) (f.1, p.1) u
        ]
        | inr f ↦ elim (place k y q.0) [
          | inl h ↦ not_pending b k t y o (n.idle t (ap (λ z. waiter z.work) (sym f.1) ∙ u)) (h.1, q.1) v
          | inr h ↦ f.0 ∙ sym h.0
        ]
      ];
      there = λ k x p. elim (place k x p.0) [
        | inl f ↦ there-go (length b.buffers) (length c.buffers) x.needs g.longer (o.there k x (f.1, p.1))
        | inr f ↦ subst (λ y. are_there (length c.buffers) y.needs ≡ true) (sym f.1) n.there
      ];
      whole = λ k t r x p q. elim (place k x p.0) [
        | inl f ↦ whole-go b.buffers c.buffers r x.needs g (o.whole k t r x (f.1, p.1) q)
        | inr f ↦ subst (λ y. NeedsWhole c.buffers r y.needs) (sym f.1) (n.whole t r (ap (λ y. y.work) (sym f.1) ∙ q))
      ];
      open_first = λ k x p q. elim (place k x p) [
        | inl f ↦ ap (λ l. is_held (take k l) x) n.added ∙ ap (λ l. is_held l x) (take-append-le k b.entries (e ∷ []) (let lt = f.0 in omega arith)) ∙ o.open_first k x f.1 q
        | inr f ↦ (let z : stage.Pending ≡ stage.Granted = sym n.pends ∙ ap (λ y. y.stage) (sym f.1) ∙ q in absurd cc)
      ];
      queued = w.queued o.queued;
    }

follows-added : (b c : Board) (e : Entry) → Newcomer b c e → BuffersGo b.buffers c.buffers → WaitsGo b c → Follows b c
follows-added b c e n g w = record {
  sees = λ k x r. sees-go b c k x g r;
  stays = λ k x r.
      (let lt : k < length b.entries = slice_get_within b.entries k x r.at in (
        ap (λ l. slice_get l k) n.added ∙ get-append b.entries (e ∷ []) k lt ∙ r.at,
        is_free-front c.entries b.entries k x (ap (take k) n.added ∙ take-append-le k b.entries (e ∷ []) (omega arith)) ∙ r.free,
      ));
  orderly = orderly-added b c e n g w;
  lasts = record {
    nodes = w.nodes;
    threads = w.threads;
    node = λ m h. ap (λ l. node_done l m) n.added ∙ node-added b.entries e m h;
    queue = λ q m k h. ap (λ l. queue_done l q m) n.added ∙ queue-added b.entries e q m (n.later q m k) h;
  };
}

-- ---- an open host access is closed

after_close-other : (b : Board) (j k : ℕ) (x e : Entry) → IsAt b.entries j x → x.stage ≡ stage.Granted → Ready b k e → j ≢ k
after_close-other b j k x e g st r q =
    let is : x ≡ e = some_is (sym g ∙ ap (slice_get b.entries) q ∙ r.at) in
    let z : false ≡ true = sym (ap is_pending st) ∙ ap (λ y. is_pending y.stage) is ∙ free-pending b.entries k e r.free in
    absurd cc

follows-after : (b : Board) (a : Act) (j : ℕ) (x : Entry) → x.stage ≡ stage.Granted → (IsOrderly b → Acts b a j x) → IsAt b.entries j x → Follows b (after a j b)
follows-after b a j x st c g = record {
  sees = λ k e r.
      (let ca = c r.orderly in
      let pe = free-pending b.entries k e r.free in
      let m = strangers b.entries j k x e (after_close-other b j k x e g st r) g r.at ca.undone (pending-open e.stage pe) ca.unheld (free-unheld b.entries k e r.free) in
      seen-kept a.cells x.needs x.place b.buffers e.needs e.work e.place ca.of.keeps (meet_comm x.needs e.needs x.place e.place m) (λ t i w. r.orderly.whole k t i e (r.at, pe) w));
  stays = λ k e r. (
    get-changed_other (with_stage a.stage) j k b.entries (λ q. after_close-other b j k x e g st r (sym q)) ∙ r.at,
    free-changed a.stage j k b.entries x e g (c r.orderly).undone r.free,
  );
  orderly = λ o. orderly-after b a j x o (c o);
  lasts = lasts-after b a j x g (ap is_done st);
}

-- ---- each ask

after_print-follows : (b : Board) (t : ℕ) (bytes : List ℕ) → is_idle (slice_get b.waits t) ≡ true → Follows b (after_print b t bytes)
unfolding after_print
after_print-follows b t bytes i =
    follows-if b _ _ (nat_le (length b.output + length bytes) (2 ^ 24))
    (λ h. follows-same b _ refl (buffers-stay b.buffers) (waits-set b _ t _ refl (omega arith) i refl))
    (follows-same b _ refl (buffers-stay b.buffers) (waits-stay b _ refl (omega arith)))

made_buffer-follows : (b : Board) (t : ℕ) (m : NewBuffer) → is_idle (slice_get b.waits t) ≡ true → Follows b (made_buffer b t m)
unfolding made_buffer
made_buffer-follows b t m i =
    follows-if b _ b (has_count (product m.range) m.init)
    (λ h. follows-if b _ _ (nat_le (live_elements b.buffers + product m.range) (2 ^ 22))
    (λ k. follows-same b _ refl (buffers-append b.buffers _) (waits-set b _ t _ refl (omega arith) i refl))
    (follows-same b _ refl (buffers-stay b.buffers) (waits-set b _ t _ refl (omega arith) i refl)))
    (follows-itself b)

made_part-follows : (b : Board) (t r base n : ℕ) → is_idle (slice_get b.waits t) ≡ true → Follows b (made_part b t r base n)
unfolding made_part
made_part-follows b t r base n i =
    follows-if b _ b (is_root (slice_get b.buffers r) && nat_le (base + n) (count_of (slice_get b.buffers r)))
    (λ h. follows-same b _ refl (buffers-append b.buffers _) (waits-set b _ t _ refl (omega arith) i refl))
    (follows-itself b)

same_thread : {t u : ℕ} → Some t ≡ Some u → t ≡ u
same_thread p = cc

queue_number : {q r m n : ℕ} → OnQueue q m ≡ OnQueue r n → m ≡ n
queue_number p = cc

same_buffer : {t u r q : ℕ} → End t r ≡ End u q → r ≡ q
same_buffer p = cc

one_there : (n r : ℕ) (x : Need) → x.buffer ≡ r → r < n → are_there n (x ∷ []) ≡ true
unfolding are_there
one_there n r x e lt = and_true (nat_lt x.buffer n) true (lt_test x.buffer n (subst (λ i. i < n) (sym e) lt)) refl

end_vector-follows : (b : Board) (t r : ℕ) (x : Buffer) → slice_get b.buffers r ≡ Some x → is_idle (slice_get b.waits t) ≡ true → Follows b (await (add_entry (mark_ended b r) (end_entry t r x)) t OnEntry)
end_vector-follows b t r x g i =
    let c = await (add_entry (mark_ended b r) (end_entry t r x)) t OnEntry in
    let lt : r < length b.buffers = slice_get_within b.buffers r x g in
    let n : Newcomer b c (end_entry t r x) = record {
      added = refl;
      pends = refl;
      awaits = λ u p. subst (λ j. slice_get c.waits j ≡ Some OnEntry) (same_thread p) (get-set b.waits t OnEntry (idle_within b.waits t i));
      idle = λ u p. subst (λ j. is_idle (slice_get b.waits j) ≡ true) (same_thread p) i;
      there = one_there (length c.buffers) r _ refl (subst (λ j. r < j) (sym (length-changed with_end r b.buffers)) lt);
      later = λ q m k. refl;
      whole = λ u q p. subst (λ j. NeedsWhole c.buffers j (end_entry t r x).needs) (same_buffer p)
          (record { buffer = with_end x; found = get-changed with_end r b.buffers ∙ ap (option_map with_end) g; all = refl });
    } in
    follows-added b c (end_entry t r x) n (buffers-ended b.buffers r) (waits-set b c t OnEntry refl (omega arith) i refl)

end_root-follows : (b : Board) (t r : ℕ) (x : Buffer) (o : Origin) → slice_get b.buffers r ≡ Some x → is_idle (slice_get b.waits t) ≡ true → Follows b (end_root b t r x o)
unfolding end_root
end_root-follows b t r x Vector g i = end_vector-follows b t r x g i
end_root-follows b t r x Range g i = follows-same b _ refl (buffers-ended b.buffers r) (waits-set b _ t _ refl (omega arith) i refl)
end_root-follows b t r x Part g i = follows-same b _ refl (buffers-ended b.buffers r) (waits-set b _ t _ refl (omega arith) i refl)

end_buffer-follows : (b : Board) (t r : ℕ) (o : Option Buffer) → slice_get b.buffers r ≡ o → is_idle (slice_get b.waits t) ≡ true → Follows b (end_buffer b t r o)
unfolding end_buffer
end_buffer-follows b t r None g i = follows-itself b
end_buffer-follows b t r (Some x) g i = follows-if b b _ x.ended (λ h. follows-itself b) (end_root-follows b t r x x.origin g i)

root_there : (xs : List Buffer) (r : ℕ) → is_root (slice_get xs r) ≡ true → r < length xs
root_there xs r h =
    elim (slice_get_cases xs r).1 [
      | inl c ↦ c.1
      | inr c ↦ (let z : false ≡ true = sym (ap is_root c.1) ∙ h in absurd cc)
    ]

root_need_there : (xs : List Buffer) (n : Need) → is_root_need xs n ≡ true → n.buffer < length xs
unfolding is_root_need
root_need_there xs n h = root_there xs n.buffer (and_left (is_root (slice_get xs n.buffer)) (nat_le n.from n.to && (nat_le n.to (count_of (slice_get xs n.buffer)) && writes_if_fresh n)) h)

opened-follows : (b : Board) (t : ℕ) (n : Need) → is_idle (slice_get b.waits t) ≡ true → n.buffer < length b.buffers → (j : ℕ) → Follows b (await (add_entry b (access_entry t j n)) t OnEntry)
opened-follows b t n i lt j =
    let c = await (add_entry b (access_entry t j n)) t OnEntry in
    let new : Newcomer b c (access_entry t j n) = record {
      added = refl;
      pends = refl;
      awaits = λ u p. subst (λ k. slice_get c.waits k ≡ Some OnEntry) (same_thread p) (get-set b.waits t OnEntry (idle_within b.waits t i));
      idle = λ u p. subst (λ k. is_idle (slice_get b.waits k) ≡ true) (same_thread p) i;
      there = one_there (length b.buffers) n.buffer n refl lt;
      whole = λ u q p. absurd cc;
      later = λ q m k. refl;
    } in
    follows-added b c (access_entry t j n) new (buffers-stay b.buffers) (waits-set b c t OnEntry refl (omega arith) i refl)

opened_host-follows : (b : Board) (t : ℕ) (n : Need) → is_idle (slice_get b.waits t) ≡ true → Follows b (opened_host b t n)
unfolding opened_host
opened_host-follows b t n i = follows-if b _ b (is_root_need b.buffers n) (λ h. opened-follows b t n i (root_need_there b.buffers n h) (accesses b.entries t)) (follows-itself b)

after_close-follows : (b : Board) (t j : ℕ) (values : List ℤ) (x : Entry) (n : Need) (ns : List Need) → is_idle (slice_get b.waits t) ≡ true → IsAt b.entries j x → x.stage ≡ stage.Granted → x.needs ≡ n ∷ ns → Follows b (after_close b t values j n)
unfolding after_close
after_close-follows b t j values x n ns i g st hn =
    let a = closing n values in
    let c = after a j b in
    follows-if b _ b (length values == n.to - n.from)
    (λ h. subst (λ z. Follows b (reply z t Answered)) (sym (after_close-is b n values j))
    (follows-trans b c _ (follows-after b a j x st (λ o. closing-acts b j x n ns values o g st hn) g) (follows-same c _ refl (buffers-stay c.buffers) (waits-set c _ t _ refl (omega arith) i refl))))
    (follows-itself b)

close_entry-follows : (b : Board) (t j : ℕ) (values : List ℤ) (x : Entry) (s : Stage) (ns : List Need) → is_idle (slice_get b.waits t) ≡ true → IsAt b.entries j x → x.stage ≡ s → x.needs ≡ ns → Follows b (close_entry b t values j s ns)
unfolding close_entry
close_entry-follows b t j values x stage.Granted (n ∷ ns) i g hs hn = after_close-follows b t j values x n ns i g hs hn
close_entry-follows b t j values x stage.Granted [] i g hs hn = follows-itself b
close_entry-follows b t j values x stage.Pending ns i g hs hn = follows-itself b
close_entry-follows b t j values x stage.Done ns i g hs hn = follows-itself b
close_entry-follows b t j values x (stage.Failed f) ns i g hs hn = follows-itself b

close_at-follows : (b : Board) (t j : ℕ) (values : List ℤ) (o : Option Entry) → is_idle (slice_get b.waits t) ≡ true → slice_get b.entries j ≡ o → Follows b (close_at b t values j o)
unfolding close_at
close_at-follows b t j values None i g = follows-itself b
close_at-follows b t j values (Some x) i g = close_entry-follows b t j values x x.stage x.needs i g refl refl

close_found-follows : (b : Board) (t : ℕ) (values : List ℤ) (o : Option ℕ) → is_idle (slice_get b.waits t) ≡ true → Follows b (close_found b t values o)
unfolding close_found
close_found-follows b t values None i = follows-itself b
close_found-follows b t values (Some j) i = close_at-follows b t j values (slice_get b.entries j) i refl

made_context-follows : (b : Board) (t : ℕ) → is_idle (slice_get b.waits t) ≡ true → Follows b (made_context b t)
unfolding made_context
made_context-follows b t i =
    follows-if b _ _ (nat_lt b.places 17)
    (λ h. follows-same b _ refl (buffers-stay b.buffers) (waits-set b _ t _ refl (omega arith) i refl))
    (follows-same b _ refl (buffers-stay b.buffers) (waits-set b _ t _ refl (omega arith) i refl))

made_queue-follows : (b : Board) (t : ℕ) (m : NewQueue) → is_idle (slice_get b.waits t) ≡ true → Follows b (made_queue b t m)
unfolding made_queue
made_queue-follows b t m i =
    follows-if b _ b (nat_lt 0 m.context && nat_lt m.context b.places) (λ h. follows-same b _ refl (buffers-stay b.buffers) (waits-set b _ t _ refl (omega arith) i refl)) (follows-itself b)

roots_there : (xs : List Buffer) (needs : List Need) → list_all (is_root_need xs) needs ≡ true → are_there (length xs) needs ≡ true
unfolding are_there
roots_there xs [] h = refl
roots_there xs (n ∷ ns) h =
    and_true (nat_lt n.buffer (length xs)) (are_there (length xs) ns)
    (lt_test n.buffer (length xs) (root_need_there xs n (and_left (is_root_need xs n) (list_all (is_root_need xs) ns) h)))
    (roots_there xs ns (and_right (is_root_need xs n) (list_all (is_root_need xs) ns) h))

holds_there : (b : Board) (m : Submission) → holds_together b m ≡ true → are_there (length b.buffers) m.needs ≡ true
unfolding holds_together are_root_needs
holds_there b m h =
    roots_there b.buffers m.needs
    (and_left (list_all (is_root_need b.buffers) m.needs) (are_different m.needs)
    (and_left (list_all (is_root_need b.buffers) m.needs && are_different m.needs) (are_below b.nodes m.after && has_needs m.needs m.command) h))

not_below : (v : Bool) (n k : ℕ) → k ≤ n → (not (v && nat_lt n k) || false) ≡ true
not_below v n k le = ap (λ u. not u || false) (no_right v (nat_lt n k) (test_not n k le))

added-follows : (b : Board) (t : ℕ) (m : Submission) (x : Queue) → is_idle (slice_get b.waits t) ≡ true → are_there (length b.buffers) m.needs ≡ true → Follows b (add_node b t (node_entry b.nodes m x))
added-follows b t m x i h =
    let c = add_node b t (node_entry b.nodes m x) in
    let new : Newcomer b c (node_entry b.nodes m x) = record {
      added = refl;
      pends = refl;
      awaits = λ u p. absurd cc;
      idle = λ u p. absurd cc;
      there = h;
      whole = λ u q p. absurd cc;
      later = λ q k l. not_below (m.queue == q) b.nodes k l;
    } in
    follows-added b c (node_entry b.nodes m x) new (buffers-stay b.buffers) (waits-set b _ t _ refl (omega arith) i refl)

after_submit-follows : (b : Board) (t : ℕ) (m : Submission) (o : Option Queue) → is_idle (slice_get b.waits t) ≡ true → Follows b (after_submit b t m o)
unfolding after_submit
after_submit-follows b t m None i = follows-itself b
after_submit-follows b t m (Some x) i = follows-if b _ b (holds_together b m) (λ h. added-follows b t m x i (holds_there b m h)) (follows-itself b)

wait_if-follows : (v : Bool) (b : Board) (t : ℕ) (w : Waits) → ((q n : ℕ) → w ≡ OnQueue q n → n ≤ b.nodes) → is_idle (slice_get b.waits t) ≡ true → Follows b (wait_if v b t w)
wait_if-follows true b t w k i = follows-same b _ refl (buffers-stay b.buffers) (waits-set_to b _ t w refl (omega arith) i k)
wait_if-follows false b t w k i = follows-itself b

after_throw-follows : (b : Board) (t : ℕ) (o : Option KernelError) → is_idle (slice_get b.waits t) ≡ true → Follows b (after_throw b t o)
after_throw-follows b t None i = follows-same b _ refl (buffers-stay b.buffers) (waits-set b _ t _ refl (omega arith) i refl)
after_throw-follows b t (Some f) i = follows-same b _ refl (buffers-stay b.buffers) (waits-stay b _ refl (omega arith))

throw_queue-follows : (b : Board) (t q : ℕ) → is_idle (slice_get b.waits t) ≡ true → Follows b (throw_queue b t q)
unfolding throw_queue
throw_queue-follows b t q i = follows-if b _ b (nat_lt q (length b.queues)) (λ h. after_throw-follows b t (error_on q b.entries) i) (follows-itself b)

grown_queued : (xs : List Waits) (m : ℕ) → ((u q n : ℕ) → slice_get xs u ≡ Some (OnQueue q n) → n ≤ m) → (u q n : ℕ) → slice_get (xs ++ NoWait ∷ []) u ≡ Some (OnQueue q n) → n ≤ m
grown_queued [] m o zero q n g = absurd cc
grown_queued [] m o (suc u) q n g = absurd cc
grown_queued (x ∷ xs) m o zero q n g = o zero q n g
grown_queued (x ∷ xs) m o (suc u) q n g = grown_queued xs m (λ v r j h. o (suc v) r j h) u q n g

waits-threads_after : (b c : Board) (t : ℕ) (w : Waits) → c.waits ≡ set (b.waits ++ NoWait ∷ []) t w → b.nodes ≤ c.nodes → is_idle (slice_get b.waits t) ≡ true → is_calm w ≡ true → WaitsGo b c
waits-threads_after b c t w e m i k =
    let ws = b.waits ++ NoWait ∷ [] in
    let j : is_idle (slice_get ws t) ≡ true = ap is_idle (get-append b.waits (NoWait ∷ []) t (idle_within b.waits t i)) ∙ i in
    record {
      still = λ u g. ap (λ l. slice_get l u) e ∙ set-still ws t w j u (get-append b.waits (NoWait ∷ []) u (slice_get_within b.waits u OnEntry g) ∙ g);
      queued = λ o u q n g. set-queued ws t w c.nodes (λ r l p. quiet w r l k p) (grown_queued b.waits c.nodes (λ v r l h. (let z : l ≤ b.nodes = o v r l h in omega arith))) u q n (ap (λ l. slice_get l u) (sym e) ∙ g);
      threads = omega (arith, ap length e, length-set ws t w, length-append b.waits (NoWait ∷ []));
      nodes = m;
    }

after_spawn-follows : (b : Board) (t : ℕ) → is_idle (slice_get b.waits t) ≡ true → Follows b (after_spawn b t)
unfolding after_spawn
after_spawn-follows b t i =
    follows-if b _ _ (nat_lt (length b.waits) 64)
    (λ h. follows-same b _ refl (buffers-stay b.buffers) (waits-threads_after b _ t _ refl (omega arith) i refl))
    (follows-same b _ refl (buffers-stay b.buffers) (waits-stay b _ refl (omega arith)))

pub apply-follows : (b : Board) (t : ℕ) (q : Ask) → is_idle (slice_get b.waits t) ≡ true → Follows b (apply b t q)
unfolding apply
apply-follows b t (Print bytes) i = after_print-follows b t bytes i
apply-follows b t (MakeBuffer m) i = made_buffer-follows b t m i
apply-follows b t (MakeSub parent base range) i = made_part-follows b t parent base (product range) i
apply-follows b t (EndBuffer r) i = end_buffer-follows b t r (slice_get b.buffers r) refl i
apply-follows b t (OpenHost n) i = opened_host-follows b t n i
apply-follows b t (CloseHost k values) i = close_found-follows b t values (access_from 0 b.entries t k) i
apply-follows b t (MakeContext device) i = made_context-follows b t i
apply-follows b t (MakeQueue m) i = made_queue-follows b t m i
apply-follows b t (Submit m) i = after_submit-follows b t m (slice_get b.queues m.queue) i
apply-follows b t (WaitNode n) i = wait_if-follows _ b t (OnNode n) (λ q m p. absurd cc) i
apply-follows b t (WaitQueue q) i = wait_if-follows _ b t (OnQueue q b.nodes) (λ r m p. (let e : b.nodes ≡ m = queue_number p in omega arith)) i
apply-follows b t (ThrowQueue q) i = throw_queue-follows b t q i
apply-follows b t (Spawn body captures) i = after_spawn-follows b t i
apply-follows b t (Join u) i = wait_if-follows _ b t (OnThread u) (λ q m p. absurd cc) i
apply-follows b t (Finish v) i = follows-same b _ refl (buffers-stay b.buffers) (waits-set b _ t _ refl (omega arith) i refl)
apply-follows b t (Halt x) i = follows-same b _ refl (buffers-stay b.buffers) (waits-stay b _ refl (omega arith))
apply-follows b t (Barrier place line) i = follows-itself b
apply-follows b t (Collect place line call) i = follows-itself b
