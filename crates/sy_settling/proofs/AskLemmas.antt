-- An effect before an ask's own and after it.
use Rattle.std.proofs.Common.{◌≡◌, ◌≢◌, ℕ, zero, suc, ◌+◌, ◌-◌, ◌<◌, ℤ, List, [], ◌∷◌, ◌++◌, length, Bool, true, false, Option, Some, None, refl, sym, ap, ◌∙◌, subst, inl, inr, arith}
use Rattle.std.specs.Prelude.{◌^◌, slice_get, option_map, slice_index_or, if◌then◌else◌, not, ◌&&◌, ◌==◌, nat_lt, nat_le, fold}
use Rattle.std.specs.List.{list_any, list_all}
use Rattle.std.proofs.lemmas.List.{set-append_left, length-set}
use Rattle.std.proofs.lemmas.Bool.{cases_Bool, eqb-true}
use Rattle.std.proofs.lemmas.Option.{slice_get_within}
use Rattle.sy_access.specs.declared.access.Need.{Need}
use Rattle.sy_access.specs.declared.access.Mode.TheVariants.{ReadWrite}
use Rattle.sy_access.specs.Needs.{writes, has_cell}
use Rattle.sy_range.specs.LinearIds.{product}
use Rattle.sy_work.specs.declared.asks.Ask.{Ask}
use Rattle.sy_work.specs.declared.asks.Ask.TheVariants.{Print, MakeBuffer, MakeSub, EndBuffer, OpenHost, CloseHost, MakeContext, MakeQueue, Submit, WaitNode, WaitQueue, ThrowQueue, Spawn, Join, Finish, Halt, Barrier, Collect}
use Rattle.sy_work.specs.declared.asks.Answer.TheVariants.{Done as Answered, Number}
use Rattle.sy_work.specs.declared.asks.NewBuffer.{NewBuffer}
use Rattle.sy_work.specs.declared.asks.NewQueue.{NewQueue}
use Rattle.sy_work.specs.declared.asks.Submission.{Submission}
use Rattle.sy_work.specs.declared.endings.KernelError.{KernelError}
use Rattle.sy_onecopy.specs.declared.Buffer.{Buffer}
use Rattle.sy_onecopy.specs.declared.Origin.{Origin}
use Rattle.sy_onecopy.specs.declared.Origin.TheVariants.{Vector, Range, Part}
use Rattle.sy_onecopy.specs.declared.Queue.{Queue}
use Rattle.sy_onecopy.specs.declared.Entry.{Entry}
use Rattle.sy_onecopy.specs.declared.Work.{Work}
use Rattle.sy_onecopy.specs.declared.Work.TheVariants.{Node, Access, End}
use Rattle.sy_onecopy.specs.declared.Stage.{Stage}
use Rattle.sy_onecopy.specs.declared.Stage.TheVariants as stage
use Rattle.sy_onecopy.specs.declared.Waits.{Waits}
use Rattle.sy_onecopy.specs.declared.Waits.TheVariants.{Due, Ready as NoWait, OnEntry, OnNode, OnQueue, OnThread, Finished}
use Rattle.sy_onecopy.specs.Each.{changed_at}
use Rattle.sy_needs.specs.Each.{each_from}
use Rattle.sy_onecopy.specs.State.{Board}
use Rattle.sy_onecopy.specs.Before.{is_pending, is_done}
use Rattle.sy_needs.specs.Elements.{is_written, writes_at}
use Rattle.sy_onecopy.specs.Settle.{with_stage, await, reply, to_stage}
use Rattle.sy_onecopy.specs.Step.{writes_if_fresh, after_print, made_buffer, add_buffer, made_part, mark_ended, with_end, add_entry, end_entry, end_root, end_buffer, opened_host, access_entry, accesses, is_access, is_access_of, access_from, cell_put, buffer_put, put_back, after_close, close_entry, close_at, close_found, made_context, made_queue, add_node, node_entry, after_submit, wait_if, after_throw, throw_queue, after_spawn, apply, error_on, error_in, or_later, is_root, count_of, is_root_need, are_root_needs, are_different, are_below, has_needs, has_count, live_elements, holds_together, is_node_on, new_buffer, part_buffer}
use Rattle.sy_onecopy.specs.Sequence.{is_clear, has_open_node_on}
use Rattle.sy_settling.specs.Orderly.{IsAt, IsPendingAt, waiter, is_idle, IsOrderly}
use Rattle.sy_settling.proofs.ListLemmas.{get-changed_other, changed-append, each-changed, length-each, or_left, and_left, some_is, any-at, not_true}
use Rattle.sy_settling.proofs.ElementLemmas.{Cells, mapped, buffer_by, get-mapped, mapped-kept, KeepsBut, mapped-append}
use Rattle.sy_settling.proofs.EffectLemmas.{Act, told, told-set, after, build, build-same}
use Rattle.sy_settling.proofs.OrderlyEffectLemmas.{Acts, after-swap}

-- an entry acts, and a thread that waits for no entry asks
pub record Scene (b : Board) (a : Act) (k : ℕ) (e : Entry) (t : ℕ) : Type 0 where
  pub orderly : IsOrderly b
  pub acts : Acts b a k e
  pub pending : is_pending e.stage ≡ true
  pub idle : is_idle (slice_get b.waits t) ≡ true

-- ---- the thread is told nothing by the entry

pub untold : (b : Board) (a : Act) (k : ℕ) (e : Entry) (t : ℕ) → Scene b a k e t → (d : ℕ × Waits) → a.due ≡ Some d → t ≢ d.0
untold b a k e t s d p q =
    let w : slice_get b.waits t ≡ Some OnEntry = subst (λ i. slice_get b.waits i ≡ Some OnEntry) (sym q) (s.orderly.awaited k d.0 e (s.acts.at, s.pending) (s.acts.of.tells d p)) in
    let z : false ≡ true = sym (ap is_idle w) ∙ s.idle in
    cc

pub await-after : (b : Board) (a : Act) (k : ℕ) (t : ℕ) (w : Waits) → ((d : ℕ × Waits) → a.due ≡ Some d → t ≢ d.0) → after a k (await b t w) ≡ await (after a k b) t w
await-after b a k t w h = ap (λ l. build (after a k b) (mapped a.cells b.buffers) (changed_at (with_stage a.stage) k b.entries) l) (told-set a.due b.waits t w h)

-- where both branches commute the choice does
branch : (a : Act) (k : ℕ) (v w : Bool) (y z : Board) {y' z' : Board} → v ≡ w → after a k y ≡ y' → after a k z ≡ z' → after a k (if v then y else z) ≡ (if w then y' else z')
branch a k true w y z {y' = y'} {z' = z'} h p q = p ∙ ap (λ u. if u then y' else z') h
branch a k false w y z {y' = y'} {z' = z'} h p q = q ∙ ap (λ u. if u then y' else z') h

after_print-after : (b : Board) (a : Act) (k : ℕ) (e : Entry) (t : ℕ) (bytes : List ℕ) → Scene b a k e t → after a k (after_print b t bytes) ≡ after_print (after a k b) t bytes
unfolding after_print
after_print-after b a k e t bytes s =
    let v = nat_le (length b.output + length bytes) (2 ^ 24) in
    branch a k v v _ _ refl (await-after (record b { output = b.output ++ bytes }) a k t (Due Answered) (untold b a k e t s)) refl

-- ---- buffers

sums_from : (f : Buffer → ℕ) (g : ℕ → Buffer → Buffer) → ((i : ℕ) (x : Buffer) → f (g i x) ≡ f x) → (n m : ℕ) (xs : List Buffer) → fold (λ i x. i + f x) n (each_from g m xs) ≡ fold (λ i x. i + f x) n xs
sums_from f g h n m [] = refl
sums_from f g h n m (x ∷ xs) = ap (λ i. fold (λ i x. i + f x) (n + i) (each_from g (suc m) xs)) (h m x) ∙ sums_from f g h (n + f x) (suc m) xs

live_one : (h : Cells) (r : ℕ) (x : Buffer) → (if x.ended then 0 else length (each_from (h r) 0 x.values)) ≡ (if x.ended then 0 else length x.values)
live_one h r x = ap (λ n. if x.ended then 0 else n) (length-each (h r) 0 x.values)

live_same : (h : Cells) (xs : List Buffer) → live_elements (mapped h xs) ≡ live_elements xs
unfolding live_elements
live_same h xs = sums_from (λ x. if x.ended then 0 else length x.values) (buffer_by h) (live_one h) 0 0 xs

root_kept : (h : Cells) (r : ℕ) (o : Option Buffer) → is_root (option_map (buffer_by h r) o) ≡ is_root o
root_kept h r None = refl
root_kept h r (Some x) = refl

pub root_same : (h : Cells) (xs : List Buffer) (r : ℕ) → is_root (slice_get (mapped h xs) r) ≡ is_root (slice_get xs r)
root_same h xs r = ap is_root (get-mapped h xs r) ∙ root_kept h r (slice_get xs r)

count_kept : (h : Cells) (r : ℕ) (o : Option Buffer) → count_of (option_map (buffer_by h r) o) ≡ count_of o
count_kept h r None = refl
count_kept h r (Some x) = length-each (h r) 0 x.values

pub count_same : (h : Cells) (xs : List Buffer) (r : ℕ) → count_of (slice_get (mapped h xs) r) ≡ count_of (slice_get xs r)
count_same h xs r = ap count_of (get-mapped h xs r) ∙ count_kept h r (slice_get xs r)

root_need_same : (h : Cells) (xs : List Buffer) (n : Need) → is_root_need (mapped h xs) n ≡ is_root_need xs n
unfolding is_root_need
root_need_same h xs n =
    ap (λ v. v && (nat_le n.from n.to && (nat_le n.to (count_of (slice_get (mapped h xs) n.buffer)) && writes_if_fresh n))) (root_same h xs n.buffer)
    ∙ ap (λ c. is_root (slice_get xs n.buffer) && (nat_le n.from n.to && (nat_le n.to c && writes_if_fresh n))) (count_same h xs n.buffer)

added-after : (b : Board) (a : Act) (k : ℕ) (e : Entry) (t : ℕ) (x : Buffer) → Scene b a k e t → after a k (add_buffer b t x) ≡ add_buffer (after a k b) t x
added-after b a k e t x s =
    let there = s.orderly.there k e (s.acts.at, s.pending) in
    let n = length b.buffers in
    await-after (record b { buffers = b.buffers ++ x ∷ [] }) a k t (Due (Number n)) (untold b a k e t s)
    ∙ ap (λ l. reply (build b l (changed_at (with_stage a.stage) k b.entries) (told a.due b.waits)) t (Number n)) (mapped-append a.cells e.needs b.buffers x s.acts.of.keeps there)
    ∙ ap (λ i. reply (build b (mapped a.cells b.buffers ++ x ∷ []) (changed_at (with_stage a.stage) k b.entries) (told a.due b.waits)) t (Number i)) (sym (length-each (buffer_by a.cells) 0 b.buffers))

made_buffer-after : (b : Board) (a : Act) (k : ℕ) (e : Entry) (t : ℕ) (m : NewBuffer) → Scene b a k e t → after a k (made_buffer b t m) ≡ made_buffer (after a k b) t m
unfolding made_buffer
made_buffer-after b a k e t m s =
    let v = has_count (product m.range) m.init in
    branch a k v v _ _ refl
    (branch a k _ _ _ _ (ap (λ n. nat_le (n + product m.range) (2 ^ 22)) (sym (live_same a.cells b.buffers))) (added-after b a k e t (new_buffer m) s) (await-after b a k t _ (untold b a k e t s)))
    refl

made_part-after : (b : Board) (a : Act) (k : ℕ) (e : Entry) (t r base n : ℕ) → Scene b a k e t → after a k (made_part b t r base n) ≡ made_part (after a k b) t r base n
unfolding made_part
made_part-after b a k e t r base n s =
    branch a k _ _ _ _
    (ap (λ v. v && nat_le (base + n) (count_of (slice_get b.buffers r))) (sym (root_same a.cells b.buffers r))
    ∙ ap (λ c. is_root (slice_get (mapped a.cells b.buffers) r) && nat_le (base + n) c) (sym (count_same a.cells b.buffers r)))
    (added-after b a k e t part_buffer s) refl

ended-after : (h : Cells) (r : ℕ) (xs : List Buffer) → mapped h (changed_at with_end r xs) ≡ changed_at with_end r (mapped h xs)
ended-after h r xs = each-changed (buffer_by h) with_end r 0 xs (λ i x. refl)

abbrev end_of : ℕ → ℕ → ℕ → Entry
end_of t r n = record { work = End t r; needs = record { buffer = r; mode = ReadWrite; no_init = false; from = 0; to = n } ∷ []; after = []; in_order = None; place = 0; stage = stage.Pending }

end_root-after : (b : Board) (a : Act) (k : ℕ) (e : Entry) (t r : ℕ) (x : Buffer) (o : Origin) → Scene b a k e t → after a k (end_root b t r x o) ≡ end_root (after a k b) t r (buffer_by a.cells r x) o
unfolding end_root
end_root-after b a k e t r x Vector s =
    let es = changed_at (with_stage a.stage) k b.entries in
    await-after (add_entry (mark_ended b r) (end_entry t r x)) a k t OnEntry (untold b a k e t s)
    ∙ ap (λ z. await z t OnEntry) (build-same b
    (ended-after a.cells r b.buffers)
    (changed-append (with_stage a.stage) k b.entries (end_entry t r x ∷ []) (slice_get_within b.entries k e s.acts.at)
    ∙ ap (λ n. es ++ end_of t r n ∷ []) (sym (length-each (a.cells r) 0 x.values)))
    refl)
end_root-after b a k e t r x Range s =
    await-after (mark_ended b r) a k t (Due Answered) (untold b a k e t s)
    ∙ ap (λ l. reply (build (after a k b) l (changed_at (with_stage a.stage) k b.entries) (told a.due b.waits)) t Answered) (ended-after a.cells r b.buffers)
end_root-after b a k e t r x Part s =
    await-after (mark_ended b r) a k t (Due Answered) (untold b a k e t s)
    ∙ ap (λ l. reply (build (after a k b) l (changed_at (with_stage a.stage) k b.entries) (told a.due b.waits)) t Answered) (ended-after a.cells r b.buffers)

end_buffer-by : (b : Board) (a : Act) (k : ℕ) (e : Entry) (t r : ℕ) (o : Option Buffer) → Scene b a k e t → after a k (end_buffer b t r o) ≡ end_buffer (after a k b) t r (option_map (buffer_by a.cells r) o)
unfolding end_buffer
end_buffer-by b a k e t r None s = refl
end_buffer-by b a k e t r (Some x) s = branch a k x.ended x.ended _ _ refl refl (end_root-after b a k e t r x x.origin s)

end_buffer-after : (b : Board) (a : Act) (k : ℕ) (e : Entry) (t r : ℕ) → Scene b a k e t → after a k (end_buffer b t r (slice_get b.buffers r)) ≡ end_buffer (after a k b) t r (slice_get (mapped a.cells b.buffers) r)
end_buffer-after b a k e t r s = end_buffer-by b a k e t r (slice_get b.buffers r) s ∙ ap (end_buffer (after a k b) t r) (sym (get-mapped a.cells b.buffers r))

-- ---- host accesses

within : (b : Board) (a : Act) (k : ℕ) (e : Entry) (t : ℕ) → Scene b a k e t → k < length b.entries
within b a k e t s = slice_get_within b.entries k e s.acts.at

folds_changed : {B : Type 0} (f : B → Entry → B) (g : Entry → Entry) → ((n : B) (x : Entry) → f n (g x) ≡ f n x) → (n : B) (k : ℕ) (xs : List Entry) → fold f n (changed_at g k xs) ≡ fold f n xs
folds_changed f g h n k [] = refl
folds_changed f g h n zero (x ∷ xs) = ap (λ i. fold f i xs) (h n x)
folds_changed f g h n (suc k) (x ∷ xs) = folds_changed f g h (f n x) k xs

accesses_same : (s : Stage) (k t : ℕ) (xs : List Entry) → accesses (changed_at (with_stage s) k xs) t ≡ accesses xs t
unfolding accesses
accesses_same s k t xs = folds_changed (λ n x. n + (if is_access_of t x.work then 1 else 0)) (with_stage s) (λ n x. refl) 0 k xs

opened_host-after : (b : Board) (a : Act) (k : ℕ) (e : Entry) (t : ℕ) (n : Need) → Scene b a k e t → after a k (opened_host b t n) ≡ opened_host (after a k b) t n
unfolding opened_host
opened_host-after b a k e t n s =
    let es = b.entries in
    let x = access_entry t (accesses es t) n in
    branch a k _ _ _ _ (sym (root_need_same a.cells b.buffers n))
    (await-after (add_entry b x) a k t OnEntry (untold b a k e t s)
    ∙ ap (λ l. await (build (after a k b) (mapped a.cells b.buffers) l (told a.due b.waits)) t OnEntry)
    (changed-append (with_stage a.stage) k es (x ∷ []) (within b a k e t s)
    ∙ ap (λ i. changed_at (with_stage a.stage) k es ++ access_entry t i n ∷ []) (sym (accesses_same a.stage k t es))))
    refl

access_from_same : (s : Stage) (n k t i : ℕ) (xs : List Entry) → access_from n (changed_at (with_stage s) k xs) t i ≡ access_from n xs t i
access_from_same s n k t i [] = refl
access_from_same s n zero t i (x ∷ xs) = refl
access_from_same s n (suc k) t i (x ∷ xs) = ap (λ o. if is_access x.work t i then Some n else o) (access_from_same s (suc n) k t i xs)

pub record Found (n j t i : ℕ) (xs : List Entry) : Type 0 where
  pub place : ℕ
  pub entry : Entry
  pub counted : n + place ≡ j
  pub at : IsAt xs place entry
  pub named : is_access entry.work t i ≡ true

pub access_found : (n j t i : ℕ) (xs : List Entry) → access_from n xs t i ≡ Some j → Found n j t i xs
access_found n j t i [] h = absurd cc
access_found n j t i (x ∷ xs) h = elim (cases_Bool (is_access x.work t i)) [
  | inl v ↦ record {
    place = 0;
    entry = x;
    counted = (let c : n + 0 ≡ n = omega arith in c) ∙ some_is (sym (ap (λ u. if u then Some n else access_from (suc n) xs t i) v) ∙ h);
    at = refl;
    named = v;
  }
  | inr v ↦
      let f = access_found (suc n) j t i xs (sym (ap (λ u. if u then Some n else access_from (suc n) xs t i) v) ∙ h) in
      record { place = suc f.place; entry = f.entry; counted = (let c : n + suc f.place ≡ suc n + f.place = omega arith in c) ∙ f.counted; at = f.at; named = f.named }
]

pub access_waiter : (w : Work) (t i : ℕ) → is_access w t i ≡ true → waiter w ≡ Some t
access_waiter (Node n q c) t i h = absurd cc
access_waiter (Access u j) t i h = ap Some (eqb-true u t (and_left (u == t) (j == i) h))
access_waiter (End u r) t i h = absurd cc

abbrev put_by : Bool → Need → List ℤ → Cells
put_by true n values = cell_put n values
put_by false n values = λ r i v. v

-- what a host access that is closed does
abbrev pub closing : Need → List ℤ → Act
closing n values = record { cells = put_by (writes n.mode) n values; stage = stage.Done; due = None }

put-is : (b : Board) (n : Need) (values : List ℤ) (v : Bool) → (if v then record b { buffers = each_from (buffer_put n values) 0 b.buffers } else b) ≡ build b (mapped (put_by v n values) b.buffers) b.entries b.waits
unfolding buffer_put
put-is b n values true = refl
put-is b n values false = ap (λ l. build b l b.entries b.waits) (sym (mapped-kept b.buffers))

pub after_close-is : (b : Board) (n : Need) (values : List ℤ) (j : ℕ) → to_stage (put_back b n values) j stage.Done ≡ after (closing n values) j b
unfolding put_back
after_close-is b n values j = ap (λ z. to_stage z j stage.Done) (put-is b n values (writes n.mode))

and_yes : (v : Bool) → (v && true) ≡ false → v ≡ false
and_yes true h = h
and_yes false h = refl

put_kept : (v : Bool) (n : Need) (values : List ℤ) (r i : ℕ) (x : ℤ) → (has_cell n r i && v) ≡ false → put_by v n values r i x ≡ x
unfolding cell_put
put_kept true n values r i x h = ap (λ u. if u then slice_index_or values (i - n.from) x else x) (and_yes (has_cell n r i) h)
put_kept false n values r i x h = refl

closing-keeps : (n : Need) (ns : List Need) (values : List ℤ) → KeepsBut (put_by (writes n.mode) n values) (n ∷ ns)
unfolding is_written
closing-keeps n ns values = record { keeps = λ r i v w. put_kept (writes n.mode) n values r i v (or_left (writes_at r i n) (list_any (writes_at r i) ns) w) }

pub closing-acts : (b : Board) (j : ℕ) (x : Entry) (n : Need) (ns : List Need) (values : List ℤ) → IsOrderly b → IsAt b.entries j x → x.stage ≡ stage.Granted → x.needs ≡ n ∷ ns → Acts b (closing n values) j x
closing-acts b j x n ns values o g st ne = record {
  at = g;
  undone = ap is_done st;
  unheld = o.open_first j x g st;
  pends = λ d p. absurd cc;
  of = record {
    keeps = subst (KeepsBut (put_by (writes n.mode) n values)) (sym ne) (closing-keeps n ns values);
    moves = refl;
    tells = λ d p. absurd cc;
    answers = λ d p. absurd cc;
  };
}

after_close-after : (b : Board) (a : Act) (k j : ℕ) (e x : Entry) (t : ℕ) (values : List ℤ) (n : Need) → Scene b a k e t → j ≢ k → Acts b (closing n values) j x → after a k (after_close b t values j n) ≡ after_close (after a k b) t values j n
unfolding after_close
after_close-after b a k j e x t values n s ne c =
    let v = length values == n.to - n.from in
    branch a k v v _ _ refl
    (await-after (to_stage (put_back b n values) j stage.Done) a k t (Due Answered) (untold b a k e t s)
    ∙ ap (λ z. reply z t Answered)
    (ap (after a k) (after_close-is b n values j) ∙ after-swap b a (closing n values) k j e x s.orderly (λ q. ne (sym q)) s.acts c ∙ sym (after_close-is (after a k b) n values j)))
    refl

close_entry-after : (b : Board) (a : Act) (k j : ℕ) (e x : Entry) (t : ℕ) (values : List ℤ) (st : Stage) (ns : List Need) → Scene b a k e t → j ≢ k → IsAt b.entries j x → x.stage ≡ st → x.needs ≡ ns → after a k (close_entry b t values j st ns) ≡ close_entry (after a k b) t values j st ns
unfolding close_entry
close_entry-after b a k j e x t values stage.Granted (n ∷ ns) s ne g hs hn = after_close-after b a k j e x t values n s ne (closing-acts b j x n ns values s.orderly g hs hn)
close_entry-after b a k j e x t values stage.Granted [] s ne g hs hn = refl
close_entry-after b a k j e x t values stage.Pending ns s ne g hs hn = refl
close_entry-after b a k j e x t values stage.Done ns s ne g hs hn = refl
close_entry-after b a k j e x t values (stage.Failed f) ns s ne g hs hn = refl

close_at-after : (b : Board) (a : Act) (k j : ℕ) (e x : Entry) (t : ℕ) (values : List ℤ) → Scene b a k e t → j ≢ k → IsAt b.entries j x → after a k (close_at b t values j (Some x)) ≡ close_at (after a k b) t values j (Some x)
unfolding close_at
close_at-after b a k j e x t values s ne g = close_entry-after b a k j e x t values x.stage x.needs s ne g refl refl

-- the thread waits for none of its accesses
pub not_pending : (b : Board) (j t : ℕ) (x : Entry) → IsOrderly b → is_idle (slice_get b.waits t) ≡ true → IsPendingAt b.entries j x → waiter x.work ≡ Some t → {A : Type 0} → A
not_pending b j t x o i p w = let z : false ≡ true = sym (ap is_idle (o.awaited j t x p w)) ∙ i in absurd cc

close_found-after : (b : Board) (a : Act) (k : ℕ) (e : Entry) (t i : ℕ) (values : List ℤ) (o : Option ℕ) → Scene b a k e t → access_from 0 b.entries t i ≡ o → after a k (close_found b t values o) ≡ close_found (after a k b) t values o
unfolding close_found
close_found-after b a k e t i values None s h = refl
close_found-after b a k e t i values (Some j) s h =
    let f = access_found 0 j t i b.entries h in
    let x = f.entry in
    let g : IsAt b.entries j x = subst (λ m. IsAt b.entries m x) ((let c : f.place ≡ 0 + f.place = omega arith in c) ∙ f.counted) f.at in
    let ne : j ≢ k = λ q.
    (let is : x ≡ e = some_is (sym g ∙ ap (slice_get b.entries) q ∙ s.acts.at) in
    let p : is_pending x.stage ≡ true = ap (λ y. is_pending y.stage) is ∙ s.pending in
    not_pending b j t x s.orderly s.idle (g, p) (access_waiter x.work t i f.named)) in
    ap (λ v. after a k (close_at b t values j v)) g
    ∙ close_at-after b a k j e x t values s ne g
    ∙ ap (close_at (after a k b) t values j) (sym (get-changed_other (with_stage a.stage) k j b.entries ne ∙ g))

close-after : (b : Board) (a : Act) (k : ℕ) (e : Entry) (t i : ℕ) (values : List ℤ) → Scene b a k e t → after a k (close_found b t values (access_from 0 b.entries t i)) ≡ close_found (after a k b) t values (access_from 0 (changed_at (with_stage a.stage) k b.entries) t i)
close-after b a k e t i values s =
    close_found-after b a k e t i values (access_from 0 b.entries t i) s refl
    ∙ ap (close_found (after a k b) t values) (sym (access_from_same a.stage 0 k t i b.entries))

-- ---- contexts, queues and nodes

made_context-after : (b : Board) (a : Act) (k : ℕ) (e : Entry) (t : ℕ) → Scene b a k e t → after a k (made_context b t) ≡ made_context (after a k b) t
unfolding made_context
made_context-after b a k e t s =
    let v = nat_lt b.places 17 in
    let u = untold b a k e t s in
    branch a k v v _ _ refl (await-after (record b { places = suc b.places }) a k t (Due (Number b.places)) u) (await-after b a k t _ u)

made_queue-after : (b : Board) (a : Act) (k : ℕ) (e : Entry) (t : ℕ) (m : NewQueue) → Scene b a k e t → after a k (made_queue b t m) ≡ made_queue (after a k b) t m
unfolding made_queue
made_queue-after b a k e t m s =
    let v = nat_lt 0 m.context && nat_lt m.context b.places in
    branch a k v v _ _ refl (await-after (record b { queues = b.queues ++ record { place = m.context; in_order = m.in_order } ∷ [] }) a k t (Due (Number (length b.queues))) (untold b a k e t s)) refl

all_roots : (h : Cells) (xs : List Buffer) (needs : List Need) → list_all (is_root_need (mapped h xs)) needs ≡ list_all (is_root_need xs) needs
all_roots h xs [] = refl
all_roots h xs (n ∷ ns) =
    ap (λ v. v && list_all (is_root_need (mapped h xs)) ns) (root_need_same h xs n)
    ∙ ap (λ v. is_root_need xs n && v) (all_roots h xs ns)

holds_same : (b : Board) (a : Act) (k : ℕ) (s : Submission) → holds_together (after a k b) s ≡ holds_together b s
unfolding holds_together are_root_needs
holds_same b a k s =
    ap (λ v. (v && are_different s.needs) && (are_below b.nodes s.after && has_needs s.needs s.command)) (all_roots a.cells b.buffers s.needs)

add_node-after : (b : Board) (a : Act) (k : ℕ) (e : Entry) (t : ℕ) (x : Entry) → Scene b a k e t → after a k (add_node b t x) ≡ add_node (after a k b) t x
add_node-after b a k e t x s =
    await-after (record b { entries = b.entries ++ x ∷ []; nodes = suc b.nodes }) a k t (Due (Number b.nodes)) (untold b a k e t s)
    ∙ ap (λ l. reply (record (after a k b) { entries = l; nodes = suc b.nodes }) t (Number b.nodes)) (changed-append (with_stage a.stage) k b.entries (x ∷ []) (within b a k e t s))

after_submit-after : (b : Board) (a : Act) (k : ℕ) (e : Entry) (t : ℕ) (m : Submission) (o : Option Queue) → Scene b a k e t → after a k (after_submit b t m o) ≡ after_submit (after a k b) t m o
unfolding after_submit
after_submit-after b a k e t m None s = refl
after_submit-after b a k e t m (Some x) s = branch a k _ _ _ _ (sym (holds_same b a k m)) (add_node-after b a k e t (node_entry b.nodes m x) s) refl

-- ---- waits

wait_if-after : (v w : Bool) (b : Board) (a : Act) (k : ℕ) (e : Entry) (t : ℕ) (x : Waits) → v ≡ w → Scene b a k e t → after a k (wait_if v b t x) ≡ wait_if w (after a k b) t x
wait_if-after true w b a k e t x h s = await-after b a k t x (untold b a k e t s) ∙ ap (λ v. wait_if v (after a k b) t x) h
wait_if-after false w b a k e t x h s = ap (λ v. wait_if v (after a k b) t x) h

no_error : (q : ℕ) (w : Work) (s : Stage) → is_node_on q w ≡ false → error_in q w s ≡ None
no_error q (Node n p c) stage.Pending h = refl
no_error q (Node n p c) stage.Granted h = refl
no_error q (Node n p c) stage.Done h = refl
no_error q (Node n p c) (stage.Failed f) h = ap (λ v. if v then Some (record { node = n; fault = f }) else None) h
no_error q (Access u i) s h = refl
no_error q (End u r) s h = refl

errors-changed : (q : ℕ) (s : Stage) (k : ℕ) (xs : List Entry) (e : Entry) → IsAt xs k e → is_node_on q e.work ≡ false → error_on q (changed_at (with_stage s) k xs) ≡ error_on q xs
errors-changed q s k [] e g h = refl
errors-changed q s zero (x ∷ xs) e g h =
    let no_node : is_node_on q x.work ≡ false = ap (λ (y : Entry). is_node_on q y.work) (some_is g) ∙ h in
    ap (λ o. or_later o (error_on q xs)) (no_error q x.work s no_node ∙ sym (no_error q x.work x.stage no_node))
errors-changed q s (suc k) (x ∷ xs) e g h = ap (or_later (error_in q x.work x.stage)) (errors-changed q s k xs e g h)

after_throw-after : (b : Board) (a : Act) (k : ℕ) (e : Entry) (t : ℕ) (o : Option KernelError) → Scene b a k e t → after a k (after_throw b t o) ≡ after_throw (after a k b) t o
after_throw-after b a k e t None s = await-after b a k t (Due Answered) (untold b a k e t s)
after_throw-after b a k e t (Some f) s = refl

-- the entry is no node of a queue whose nodes are done
pub off_queue : (q k : ℕ) (xs : List Entry) (e : Entry) → IsAt xs k e → is_done e.stage ≡ false → has_open_node_on xs q ≡ false → is_node_on q e.work ≡ false
unfolding has_open_node_on
off_queue q k xs e g d h =
    and_yes (is_node_on q e.work) (ap (λ v. is_node_on q e.work && not v) (sym d) ∙ any-at (λ x. is_node_on q x.work && not (is_done x.stage)) xs k e h g)

throw-after : (b : Board) (a : Act) (k : ℕ) (e : Entry) (t q : ℕ) → Scene b a k e t → has_open_node_on b.entries q ≡ false → after a k (throw_queue b t q) ≡ throw_queue (after a k b) t q
unfolding throw_queue
throw-after b a k e t q s h =
    let v = nat_lt q (length b.queues) in
    branch a k v v _ _ refl
    (after_throw-after b a k e t (error_on q b.entries) s
    ∙ ap (after_throw (after a k b) t) (sym (errors-changed q a.stage k b.entries e s.acts.at (off_queue q k b.entries e s.acts.at s.acts.undone h))))
    refl

-- ---- threads

pub told-length : (d : Option (ℕ × Waits)) (ws : List Waits) → length (told d ws) ≡ length ws
told-length None ws = refl
told-length (Some x) ws = length-set ws x.0 x.1

told-append : (d : Option (ℕ × Waits)) (ws : List Waits) (w : Waits) → ((x : ℕ × Waits) → d ≡ Some x → x.0 < length ws) → told d (ws ++ w ∷ []) ≡ told d ws ++ w ∷ []
told-append None ws w h = refl
told-append (Some x) ws w h = set-append_left ws (w ∷ []) x.0 x.1 (h x refl)

after_spawn-after : (b : Board) (a : Act) (k : ℕ) (e : Entry) (t : ℕ) → Scene b a k e t → after a k (after_spawn b t) ≡ after_spawn (after a k b) t
unfolding after_spawn
after_spawn-after b a k e t s =
    let c = after a k b in
    let n = told-length a.due b.waits in
    let there : (d : ℕ × Waits) → a.due ≡ Some d → d.0 < length b.waits = λ d p. slice_get_within b.waits d.0 OnEntry (s.orderly.awaited k d.0 e (s.acts.at, s.pending) (s.acts.of.tells d p)) in
    branch a k _ _ _ _ (ap (λ i. nat_lt i 64) (sym n))
    (await-after (record b { waits = b.waits ++ NoWait ∷ [] }) a k t (Due (Number (length b.waits))) (untold b a k e t s)
    ∙ ap (λ l. reply (build c c.buffers c.entries l) t (Number (length b.waits))) (told-append a.due b.waits NoWait there)
    ∙ ap (λ i. reply (build c c.buffers c.entries (told a.due b.waits ++ NoWait ∷ [])) t (Number i)) (sym n))
    refl

-- ---- any ask

pub apply-after : (b : Board) (a : Act) (k : ℕ) (e : Entry) (t : ℕ) (q : Ask) → Scene b a k e t → is_clear b q ≡ true → after a k (apply b t q) ≡ apply (after a k b) t q
unfolding apply
apply-after b a k e t (Print bytes) s h = after_print-after b a k e t bytes s
apply-after b a k e t (MakeBuffer m) s h = made_buffer-after b a k e t m s
apply-after b a k e t (MakeSub parent base range) s h = made_part-after b a k e t parent base (product range) s
apply-after b a k e t (EndBuffer r) s h = end_buffer-after b a k e t r s
apply-after b a k e t (OpenHost n) s h = opened_host-after b a k e t n s
apply-after b a k e t (CloseHost i values) s h = close-after b a k e t i values s
apply-after b a k e t (MakeContext device) s h = made_context-after b a k e t s
apply-after b a k e t (MakeQueue m) s h = made_queue-after b a k e t m s
apply-after b a k e t (Submit m) s h = after_submit-after b a k e t m (slice_get b.queues m.queue) s
apply-after b a k e t (WaitNode n) s h = wait_if-after _ _ b a k e t (OnNode n) refl s
apply-after b a k e t (WaitQueue q) s h = wait_if-after _ _ b a k e t (OnQueue q b.nodes) refl s
apply-after b a k e t (ThrowQueue q) s h = throw-after b a k e t q s (not_true (has_open_node_on b.entries q) h)
apply-after b a k e t (Spawn body captures) s h = after_spawn-after b a k e t s
apply-after b a k e t (Join u) s h = wait_if-after _ _ b a k e t (OnThread u) (ap (nat_lt u) (sym (told-length a.due b.waits))) s
apply-after b a k e t (Finish v) s h = await-after b a k t (Finished v) (untold b a k e t s)
apply-after b a k e t (Halt x) s h = refl
apply-after b a k e t (Barrier place line) s h = refl
apply-after b a k e t (Collect place line call) s h = refl
