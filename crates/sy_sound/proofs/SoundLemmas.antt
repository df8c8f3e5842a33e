-- Each operation on a board keeps it sound.
use Rattle.std.proofs.Common.{◌≡◌, ℕ, zero, suc, ◌+◌, ◌-◌, ◌<◌, ◌≤◌, ℤ, Bool, true, false, List, [], ◌∷◌, ◌++◌, length, map, Option, Some, None, refl, sym, ap, ◌∙◌, subst, arith, set, length-append, length-set}
use Rattle.std.specs.Prelude.{◌^◌, ◌&&◌, ◌==◌, nat_le, nat_lt, if◌then◌else◌, pos, replicate, unwrap_or, slice_get, All}
use Rattle.std.specs.List.{AllZip, range_with_len, list_all, cons_option}
use Rattle.std.proofs.lemmas.Option.{same_Some}
use Rattle.std.proofs.lemmas.Bool.{and_parts, ltb-true, leb-true, eqb-true}
use Rattle.std.proofs.lemmas.List.{length-replicate, length-map, append-nil}
use Rattle.std.proofs.lemmas.List.Elements.{All-nil, All-cons, All-push, All-weaker, length_all_zip, filter_map-append}
use Rattle.std.proofs.lemmas.List.Sums.{sum_by_push}
use Rattle.sy_access.specs.declared.access.Need.{Need}
use Rattle.sy_access.specs.declared.cells.Cell.{Cell}
use Rattle.sy_access.specs.Needs.{writes}
use Rattle.sy_range.specs.LinearIds.{product}
use Rattle.sy_work.specs.Programs.{Program, OutcomeOf}
use Rattle.sy_work.specs.declared.asks.Ask.{Ask}
use Rattle.sy_work.specs.declared.asks.Ask.TheVariants.{Print, MakeBuffer, MakeSub, EndBuffer, OpenHost, CloseHost, MakeContext, MakeQueue, Submit, WaitNode, WaitQueue, ThrowQueue, Spawn, Join, Finish, Halt, Barrier, Collect}
use Rattle.sy_work.specs.declared.asks.NewBuffer.{NewBuffer}
use Rattle.sy_work.specs.declared.asks.NewQueue.{NewQueue}
use Rattle.sy_work.specs.declared.asks.Submission.{Submission}
use Rattle.sy_work.specs.declared.commands.Outcome.{Outcome}
use Rattle.sy_work.specs.declared.commands.Outcome.TheVariants.{Wrote, Failed}
use Rattle.sy_work.specs.declared.endings.KernelError.{KernelError}
use Rattle.sy_work.specs.declared.endings.Ending.{Ending}
use Rattle.sy_onecopy.specs.declared.Buffer.{Buffer}
use Rattle.sy_onecopy.specs.declared.Origin.{Origin}
use Rattle.sy_onecopy.specs.declared.Origin.TheVariants.{Vector, Range, Part}
use Rattle.sy_onecopy.specs.declared.Queue.{Queue}
use Rattle.sy_onecopy.specs.declared.Entry.{Entry}
use Rattle.sy_onecopy.specs.declared.Work.{Work}
use Rattle.sy_onecopy.specs.declared.Work.TheVariants.{Node, Access, End}
use Rattle.sy_onecopy.specs.declared.Stage.{Stage}
use Rattle.sy_onecopy.specs.declared.Stage.TheVariants as stage
use Rattle.sy_onecopy.specs.declared.Waits.{Waits}
use Rattle.sy_onecopy.specs.declared.Waits.TheVariants.{Ready}
use Rattle.sy_onecopy.specs.Each.{changed_at}
use Rattle.sy_needs.specs.Each.{each_from}
use Rattle.sy_onecopy.specs.State.{Board, State, opening, start, next_ask}
use Rattle.sy_onecopy.specs.Before.{is_free}
use Rattle.sy_onecopy.specs.Outcome.{inputs, buffer_after, buffers_after}
use Rattle.sy_onecopy.specs.Settle.{await, with_stage, to_stage, took, effect, settle_entry, settle_one, settle_upto, settle}
use Rattle.sy_onecopy.specs.Step.{after_print, stop, live_elements, has_count, new_buffer, add_buffer, part_buffer, made_buffer, made_part, is_part, is_root, count_of, add_entry, whole, end_entry, with_end, mark_ended, end_root, end_buffer, accesses, access_entry, access_from, opened_host, is_root_need, are_root_needs, are_different, are_below, has_needs, holds_together, buffer_put, put_back, after_close, close_entry, close_at, close_found, made_context, add_queue, made_queue, node_entry, add_node, after_submit, wait_if, after_throw, error_on, throw_queue, after_spawn, apply, given, give_all, begin_ask, turn, step, once_heard}
use Rattle.sy_onecopy.specs.Sequence.{seq_from, seq, is_legal, may_step}
use Rattle.sy_sound.specs.Sound.{IsHeld, Stands, node_number, node_numbers, IsSound}
use Rattle.sy_sound.proofs.ListLemmas.{length-each_from, length-changed_at, All-at, All-changed_at, range_push}
use Rattle.sy_sound.proofs.EntryLemmas.{Alike, alike-each_from, alike-changed_at, small_alike, live_of, live_alike, alike_grows, push_grows, same_grows, stands_more, stands_staged, root_held, roots_held, below_named}

either : (v : Bool) (b c : Board) → (v ≡ true → IsSound b) → IsSound c → IsSound (if v then b else c)
either true b c h k = h refl
either false b c h k = k

-- ---- what the threads wait for, how the run has ended, the output and the steps

pub rewaited : (b : Board) (waits : List Waits) (end : Option Ending) → length waits ≡ length b.waits → IsSound b → IsSound (record b { waits = waits; ended = end })
rewaited b waits end e s =
    let main : 1 ≤ length b.waits = s.counts.main in
    let threads : length b.waits ≤ 64 = s.counts.threads in
    record {
      counts = record {
        buffers = s.counts.buffers;
        queues = s.counts.queues;
        entries = s.counts.entries;
        steps = s.counts.steps;
        host = s.counts.host;
        places = s.counts.places;
        main = omega (arith, e, main);
        threads = omega (arith, e, threads);
        output = s.counts.output;
        live = s.counts.live;
      };
      small = s.small;
      queues = s.queues;
      entries = s.entries;
      numbers = s.numbers;
    }

pub await-sound : (b : Board) (t : ℕ) (w : Waits) → IsSound b → IsSound (await b t w)
await-sound b t w s = rewaited b (set b.waits t w) b.ended (length-set b.waits t w) s

pub stop-sound : (b : Board) (e : Ending) → IsSound b → IsSound (stop b e)
stop-sound b e s = rewaited b b.waits (Some e) refl s

printed_more : (b : Board) (bytes : List ℕ) → length b.output + length bytes ≤ 2 ^ 24 → IsSound b → IsSound (record b { output = b.output ++ bytes })
printed_more b bytes h s = record {
  counts = record {
    buffers = s.counts.buffers;
    queues = s.counts.queues;
    entries = s.counts.entries;
    steps = s.counts.steps;
    host = s.counts.host;
    places = s.counts.places;
    main = s.counts.main;
    threads = s.counts.threads;
    output = omega (arith, h, length-append b.output bytes);
    live = s.counts.live;
  };
  small = s.small;
  queues = s.queues;
  entries = s.entries;
  numbers = s.numbers;
}

pub after_print-sound : (b : Board) (t : ℕ) (bytes : List ℕ) → IsSound b → IsSound (after_print b t bytes)
unfolding after_print
after_print-sound b t bytes s =
    either (nat_le (length b.output + length bytes) (2 ^ 24)) _ _
    (λ h. await-sound (record b { output = b.output ++ bytes }) t _ (printed_more b bytes (leb-true (length b.output + length bytes) (2 ^ 24) h) s))
    (stop-sound b _ s)

-- a step has been counted that has added nothing yet
pub record HasRoom (b : Board) : Type 0 where
  pub buffers : length b.buffers < b.steps
  pub queues : length b.queues < b.steps
  pub entries : length b.entries < b.steps

counted_more : (b : Board) → IsSound b → b.steps < 2 ^ 24 → IsSound (record b { steps = suc b.steps })
counted_more b s lt =
    let c : length b.buffers ≤ b.steps = s.counts.buffers in
    let q : length b.queues ≤ b.steps = s.counts.queues in
    let e : length b.entries ≤ b.steps = s.counts.entries in
    record {
      counts = record {
        buffers = omega (arith, c);
        queues = omega (arith, q);
        entries = omega (arith, e);
        steps = omega (arith, lt);
        host = s.counts.host;
        places = s.counts.places;
        main = s.counts.main;
        threads = s.counts.threads;
        output = s.counts.output;
        live = s.counts.live;
      };
      small = s.small;
      queues = s.queues;
      entries = s.entries;
      numbers = s.numbers;
    }

pub begin_ask-sound : (b : Board) (t : ℕ) → IsSound b → b.steps < 2 ^ 24 → IsSound (begin_ask b t)
begin_ask-sound b t s lt = await-sound (record b { steps = suc b.steps }) t _ (counted_more b s lt)

pub begin_ask-room : (b : Board) (t : ℕ) → IsSound b → HasRoom (begin_ask b t)
begin_ask-room b t s =
    let c : length b.buffers ≤ b.steps = s.counts.buffers in
    let q : length b.queues ≤ b.steps = s.counts.queues in
    let e : length b.entries ≤ b.steps = s.counts.entries in
    record { buffers = omega (arith, c); queues = omega (arith, q); entries = omega (arith, e) }

-- ---- buffers

live_push : (xs : List Buffer) (x : Buffer) → live_elements (xs ++ x ∷ []) ≡ live_elements xs + live_of x
unfolding live_elements
live_push xs x = sum_by_push live_of xs x

buffer_more : (b : Board) (x : Buffer) → IsSound b → HasRoom b → length x.values ≤ 2 ^ 22 → live_elements b.buffers + live_of x ≤ 2 ^ 22 → IsSound (record b { buffers = b.buffers ++ x ∷ [] })
buffer_more b x s room few live =
    let lt : length b.buffers < b.steps = room.buffers in
    record {
      counts = record {
        buffers = omega (arith, lt, length-append b.buffers (x ∷ []));
        queues = s.counts.queues;
        entries = s.counts.entries;
        steps = s.counts.steps;
        host = s.counts.host;
        places = s.counts.places;
        main = s.counts.main;
        threads = s.counts.threads;
        output = s.counts.output;
        live = omega (arith, live, live_push b.buffers x);
      };
      small = All-push (λ (v : Buffer). length v.values ≤ 2 ^ 22) b.buffers x s.small few;
      queues = s.queues;
      entries = All-weaker (Stands b.buffers b.nodes b.places) (Stands (b.buffers ++ x ∷ []) b.nodes b.places)
          (stands_more b.buffers (b.buffers ++ x ∷ []) b.nodes b.nodes b.places b.places (push_grows b.buffers (x ∷ [])) (omega arith) (omega arith)) b.entries s.entries;
      numbers = s.numbers;
    }

pub add_buffer-sound : (b : Board) (t : ℕ) (x : Buffer) → IsSound b → HasRoom b → length x.values ≤ 2 ^ 22 → live_elements b.buffers + live_of x ≤ 2 ^ 22 → IsSound (add_buffer b t x)
add_buffer-sound b t x s room few live = await-sound (record b { buffers = b.buffers ++ x ∷ [] }) t _ (buffer_more b x s room few live)

new_count : (n : ℕ) (o : Option (List ℤ)) → has_count n o ≡ true → length (unwrap_or o (replicate n (pos 0))) ≡ n
new_count n None h = length-replicate n (pos 0)
new_count n (Some values) h = eqb-true (length values) n h

pub new_buffer-sound : (b : Board) (t : ℕ) (m : NewBuffer) → IsSound b → HasRoom b → has_count (product m.range) m.init ≡ true → live_elements b.buffers + product m.range ≤ 2 ^ 22 → IsSound (add_buffer b t (new_buffer m))
new_buffer-sound b t m s room h l =
    let e : length (new_buffer m).values ≡ product m.range = new_count (product m.range) m.init h in
    let f : live_of (new_buffer m) ≡ product m.range = e in
    add_buffer-sound b t (new_buffer m) s room (omega (arith, e, l)) (omega (arith, f, l))

pub made_buffer-sound : (b : Board) (t : ℕ) (m : NewBuffer) → IsSound b → HasRoom b → IsSound (made_buffer b t m)
unfolding made_buffer
made_buffer-sound b t m s room =
    either (has_count (product m.range) m.init) _ b
    (λ h. either (nat_le (live_elements b.buffers + product m.range) (2 ^ 22)) _ _
    (λ l. new_buffer-sound b t m s room h (leb-true (live_elements b.buffers + product m.range) (2 ^ 22) l)) (await-sound b t _ s))
    s

part-sound : (b : Board) (t : ℕ) → IsSound b → HasRoom b → IsSound (add_buffer b t part_buffer)
part-sound b t s room =
    let l : live_elements b.buffers ≤ 2 ^ 22 = s.counts.live in add_buffer-sound b t part_buffer s room (omega arith) (omega (arith, l))

pub made_part-sound : (b : Board) (t parent base count : ℕ) → IsSound b → HasRoom b → IsSound (made_part b t parent base count)
unfolding made_part
made_part-sound b t parent base count s room =
    either (is_root (slice_get b.buffers parent) && nat_le (base + count) (count_of (slice_get b.buffers parent))) _ b (λ h. part-sound b t s room) s

-- other numbers in the buffers, as many
pub rebuffered : (b : Board) (ys : List Buffer) → AllZip Alike b.buffers ys → IsSound b → IsSound (record b { buffers = ys })
rebuffered b ys z s =
    let n : length b.buffers ≤ b.steps = s.counts.buffers in
    let l : live_elements b.buffers ≤ 2 ^ 22 = s.counts.live in
    record {
      counts = record {
        buffers = omega (arith, n, length_all_zip Alike b.buffers ys z);
        queues = s.counts.queues;
        entries = s.counts.entries;
        steps = s.counts.steps;
        host = s.counts.host;
        places = s.counts.places;
        main = s.counts.main;
        threads = s.counts.threads;
        output = s.counts.output;
        live = omega (arith, l, live_alike b.buffers ys z);
      };
      small = small_alike (2 ^ 22) b.buffers ys z s.small;
      queues = s.queues;
      entries = All-weaker (Stands b.buffers b.nodes b.places) (Stands ys b.nodes b.places)
          (stands_more b.buffers ys b.nodes b.nodes b.places b.places (alike_grows b.buffers ys z) (omega arith) (omega arith)) b.entries s.entries;
      numbers = s.numbers;
    }

ended_same : (v : Bool) (n m : ℕ) → n ≡ m → (if v then 0 else n) ≤ (if v then 0 else m)
ended_same true n m e = omega arith
ended_same false n m e = omega (arith, e)

alike_numbers : (x : Buffer) (values : List ℤ) → length values ≡ length x.values → Alike x (record x { values = values })
alike_numbers x values e = record { count = e; origin = refl; live = ended_same x.ended (length values) (length x.values) e }

-- ---- entries

numbers_push : (es : List Entry) (e : Entry) → node_numbers (es ++ e ∷ []) ≡ node_numbers es ++ cons_option (node_number e.work) []
unfolding node_numbers
numbers_push es e = filter_map-append (λ (x : Entry). node_number x.work) es (e ∷ [])

no_number : (es : List Entry) (e : Entry) → node_number e.work ≡ None → node_numbers (es ++ e ∷ []) ≡ node_numbers es
no_number es e h = numbers_push es e ∙ ap (λ o. node_numbers es ++ cons_option o []) h ∙ append-nil (node_numbers es)

next_number : (es : List Entry) (e : Entry) (n : ℕ) → node_number e.work ≡ Some n → node_numbers es ≡ range_with_len 0 n → node_numbers (es ++ e ∷ []) ≡ range_with_len 0 (suc n)
next_number es e n h k =
    numbers_push es e ∙ ap (λ o. node_numbers es ++ cons_option o []) h ∙ ap (λ l. l ++ n ∷ []) k
    ∙ ap (λ m. range_with_len 0 n ++ m ∷ []) (let z : n ≡ 0 + n = omega arith in z) ∙ sym (range_push 0 n)

pub add_entry-sound : (b : Board) (e : Entry) → IsSound b → length b.entries < b.steps → Stands b.buffers b.nodes b.places e → node_number e.work ≡ None → IsSound (add_entry b e)
add_entry-sound b e s lt h k = record {
  counts = record {
    buffers = s.counts.buffers;
    queues = s.counts.queues;
    entries = omega (arith, lt, length-append b.entries (e ∷ []));
    steps = s.counts.steps;
    host = s.counts.host;
    places = s.counts.places;
    main = s.counts.main;
    threads = s.counts.threads;
    output = s.counts.output;
    live = s.counts.live;
  };
  small = s.small;
  queues = s.queues;
  entries = All-push (Stands b.buffers b.nodes b.places) b.entries e s.entries h;
  numbers = no_number b.entries e k ∙ s.numbers;
}

node_more : (b : Board) (e : Entry) → IsSound b → length b.entries < b.steps → Stands b.buffers (suc b.nodes) b.places e → node_number e.work ≡ Some b.nodes → IsSound (record b { entries = b.entries ++ e ∷ []; nodes = suc b.nodes })
node_more b e s lt h k = record {
  counts = record {
    buffers = s.counts.buffers;
    queues = s.counts.queues;
    entries = omega (arith, lt, length-append b.entries (e ∷ []));
    steps = s.counts.steps;
    host = s.counts.host;
    places = s.counts.places;
    main = s.counts.main;
    threads = s.counts.threads;
    output = s.counts.output;
    live = s.counts.live;
  };
  small = s.small;
  queues = s.queues;
  entries = All-push (Stands b.buffers (suc b.nodes) b.places) b.entries e
      (All-weaker (Stands b.buffers b.nodes b.places) (Stands b.buffers (suc b.nodes) b.places)
      (stands_more b.buffers b.buffers b.nodes (suc b.nodes) b.places b.places (same_grows b.buffers) (omega arith) (omega arith)) b.entries s.entries)
      h;
  numbers = next_number b.entries e b.nodes k s.numbers;
}

numbers_staged : (s : Stage) (k : ℕ) (es : List Entry) → node_numbers (changed_at (with_stage s) k es) ≡ node_numbers es
unfolding node_numbers
numbers_staged s k [] = refl
numbers_staged s zero (e ∷ es) = refl
numbers_staged s (suc k) (e ∷ es) = ap (cons_option (node_number e.work)) (numbers_staged s k es)

pub to_stage-sound : (b : Board) (k : ℕ) (g : Stage) → IsSound b → IsSound (to_stage b k g)
to_stage-sound b k g s =
    let n : length b.entries ≤ b.steps = s.counts.entries in
    record {
      counts = record {
        buffers = s.counts.buffers;
        queues = s.counts.queues;
        entries = omega (arith, n, length-changed_at (with_stage g) k b.entries);
        steps = s.counts.steps;
        host = s.counts.host;
        places = s.counts.places;
        main = s.counts.main;
        threads = s.counts.threads;
        output = s.counts.output;
        live = s.counts.live;
      };
      small = s.small;
      queues = s.queues;
      entries = All-changed_at (Stands b.buffers b.nodes b.places) (with_stage g) (stands_staged b.buffers b.nodes b.places g) k b.entries s.entries;
      numbers = numbers_staged g k b.entries ∙ s.numbers;
    }

-- ---- ends of buffers

ended_alike : (x : Buffer) → Alike x (with_end x)
ended_alike x = record { count = refl; origin = refl; live = omega arith }

pub mark_ended-sound : (b : Board) (r : ℕ) → IsSound b → IsSound (mark_ended b r)
mark_ended-sound b r s = rebuffered b (changed_at with_end r b.buffers) (alike-changed_at with_end ended_alike r b.buffers) s

one_needed : (xs : List Buffer) (n : Need) → IsHeld xs n → All (IsHeld xs) (n ∷ [])
one_needed xs n h = All-cons (IsHeld xs) n [] h (All-nil (IsHeld xs))

end_stands : (xs : List Buffer) (nodes places t r : ℕ) (x : Buffer) → slice_get xs r ≡ Some x → is_part x.origin ≡ false → 1 ≤ places → Stands xs nodes places (end_entry t r x)
end_stands xs nodes places t r x e o p = record {
  held = one_needed xs (whole r x) (record { root = x; there = e; own = o; up = omega arith; within = omega arith; honest = refl });
  different = refl;
  suits = (x, e, refl);
  named = All-nil (λ k. k < nodes);
  placed = omega (arith, p);
}

end_vector : (b : Board) (t r : ℕ) (x : Buffer) → IsSound b → length b.entries < b.steps → slice_get b.buffers r ≡ Some x → is_part x.origin ≡ false → IsSound (add_entry (mark_ended b r) (end_entry t r x))
end_vector b t r x s lt e o =
    let z = alike-changed_at with_end ended_alike r b.buffers in
    add_entry-sound (mark_ended b r) (end_entry t r x) (mark_ended-sound b r s) lt
    (stands_more b.buffers (changed_at with_end r b.buffers) b.nodes b.nodes b.places b.places (alike_grows b.buffers (changed_at with_end r b.buffers) z) (omega arith) (omega arith)
    (end_entry t r x) (end_stands b.buffers b.nodes b.places t r x e o s.counts.host))
    refl

pub end_root-sound : (b : Board) (t r : ℕ) (x : Buffer) (o : Origin) → IsSound b → HasRoom b → slice_get b.buffers r ≡ Some x → x.origin ≡ o → IsSound (end_root b t r x o)
unfolding end_root
end_root-sound b t r x Vector s room e o =
    await-sound (add_entry (mark_ended b r) (end_entry t r x)) t _ (end_vector b t r x s room.entries e (ap is_part o))
end_root-sound b t r x Range s room e o = await-sound (mark_ended b r) t _ (mark_ended-sound b r s)
end_root-sound b t r x Part s room e o = await-sound (mark_ended b r) t _ (mark_ended-sound b r s)

pub end_buffer-sound : (b : Board) (t r : ℕ) (o : Option Buffer) → IsSound b → HasRoom b → slice_get b.buffers r ≡ o → IsSound (end_buffer b t r o)
unfolding end_buffer
end_buffer-sound b t r None s room e = s
end_buffer-sound b t r (Some x) s room e = either x.ended b _ (λ h. s) (end_root-sound b t r x x.origin s room e refl)

-- ---- host accesses

access_stands : (xs : List Buffer) (nodes places t k : ℕ) (n : Need) → IsHeld xs n → 1 ≤ places → Stands xs nodes places (access_entry t k n)
access_stands xs nodes places t k n h p = record {
  held = one_needed xs n h;
  different = refl;
  suits = refl;
  named = All-nil (λ j. j < nodes);
  placed = omega (arith, p);
}

access_more : (b : Board) (t k : ℕ) (n : Need) → IsSound b → length b.entries < b.steps → IsHeld b.buffers n → IsSound (add_entry b (access_entry t k n))
access_more b t k n s lt h = add_entry-sound b (access_entry t k n) s lt (access_stands b.buffers b.nodes b.places t k n h s.counts.host) refl

pub opened_host-sound : (b : Board) (t : ℕ) (n : Need) → IsSound b → HasRoom b → IsSound (opened_host b t n)
unfolding opened_host
opened_host-sound b t n s room =
    either (is_root_need b.buffers n) _ b
    (λ h. await-sound (add_entry b (access_entry t (accesses b.entries t) n)) t _ (access_more b t (accesses b.entries t) n s room.entries (root_held b.buffers n h))) s

put_alike : (n : Need) (values : List ℤ) (k : ℕ) (x : Buffer) → Alike x (buffer_put n values k x)
unfolding buffer_put
put_alike n values k x = alike_numbers x _ (length-each_from _ 0 x.values)

pub put_back-sound : (b : Board) (n : Need) (values : List ℤ) → IsSound b → IsSound (put_back b n values)
unfolding put_back
put_back-sound b n values s =
    either (writes n.mode) _ b (λ h. rebuffered b (each_from (buffer_put n values) 0 b.buffers) (alike-each_from (buffer_put n values) (put_alike n values) 0 b.buffers) s) s

pub after_close-sound : (b : Board) (t : ℕ) (values : List ℤ) (k : ℕ) (n : Need) → IsSound b → IsSound (after_close b t values k n)
unfolding after_close
after_close-sound b t values k n s =
    either (length values == n.to - n.from) _ b
    (λ h. await-sound (to_stage (put_back b n values) k stage.Done) t _ (to_stage-sound (put_back b n values) k stage.Done (put_back-sound b n values s))) s

pub close_entry-sound : (b : Board) (t : ℕ) (values : List ℤ) (k : ℕ) (g : Stage) (ns : List Need) → IsSound b → IsSound (close_entry b t values k g ns)
unfolding close_entry
close_entry-sound b t values k stage.Granted (n ∷ ns) s = after_close-sound b t values k n s
close_entry-sound b t values k stage.Granted [] s = s
close_entry-sound b t values k stage.Pending ns s = s
close_entry-sound b t values k stage.Done ns s = s
close_entry-sound b t values k (stage.Failed f) ns s = s

pub close_at-sound : (b : Board) (t : ℕ) (values : List ℤ) (k : ℕ) (o : Option Entry) → IsSound b → IsSound (close_at b t values k o)
unfolding close_at
close_at-sound b t values k None s = s
close_at-sound b t values k (Some e) s = close_entry-sound b t values k e.stage e.needs s

pub close_found-sound : (b : Board) (t : ℕ) (values : List ℤ) (o : Option ℕ) → IsSound b → IsSound (close_found b t values o)
unfolding close_found
close_found-sound b t values None s = s
close_found-sound b t values (Some k) s = close_at-sound b t values k (slice_get b.entries k) s

-- ---- contexts and queues

context_more : (b : Board) → b.places < 17 → IsSound b → IsSound (record b { places = suc b.places })
context_more b lt s = record {
  counts = record {
    buffers = s.counts.buffers;
    queues = s.counts.queues;
    entries = s.counts.entries;
    steps = s.counts.steps;
    host = omega arith;
    places = omega (arith, lt);
    main = s.counts.main;
    threads = s.counts.threads;
    output = s.counts.output;
    live = s.counts.live;
  };
  small = s.small;
  queues = All-weaker (λ (x : Queue). x.place < b.places) (λ (x : Queue). x.place < suc b.places) (λ x l. omega (arith, l)) b.queues s.queues;
  entries = All-weaker (Stands b.buffers b.nodes b.places) (Stands b.buffers b.nodes (suc b.places))
      (stands_more b.buffers b.buffers b.nodes b.nodes b.places (suc b.places) (same_grows b.buffers) (omega arith) (omega arith)) b.entries s.entries;
  numbers = s.numbers;
}

pub made_context-sound : (b : Board) (t : ℕ) → IsSound b → IsSound (made_context b t)
unfolding made_context
made_context-sound b t s =
    either (nat_lt b.places 17) _ _ (λ h. await-sound (record b { places = suc b.places }) t _ (context_more b (ltb-true b.places 17 h) s)) (await-sound b t _ s)

queue_more : (b : Board) (x : Queue) → IsSound b → HasRoom b → x.place < b.places → IsSound (record b { queues = b.queues ++ x ∷ [] })
queue_more b x s room h =
    let lt : length b.queues < b.steps = room.queues in
    record {
      counts = record {
        buffers = s.counts.buffers;
        queues = omega (arith, lt, length-append b.queues (x ∷ []));
        entries = s.counts.entries;
        steps = s.counts.steps;
        host = s.counts.host;
        places = s.counts.places;
        main = s.counts.main;
        threads = s.counts.threads;
        output = s.counts.output;
        live = s.counts.live;
      };
      small = s.small;
      queues = All-push (λ (v : Queue). v.place < b.places) b.queues x s.queues h;
      entries = s.entries;
      numbers = s.numbers;
    }

pub add_queue-sound : (b : Board) (t : ℕ) (x : Queue) → IsSound b → HasRoom b → x.place < b.places → IsSound (add_queue b t x)
add_queue-sound b t x s room h = await-sound (record b { queues = b.queues ++ x ∷ [] }) t _ (queue_more b x s room h)

pub made_queue-sound : (b : Board) (t : ℕ) (m : NewQueue) → IsSound b → HasRoom b → IsSound (made_queue b t m)
unfolding made_queue
made_queue-sound b t m s room =
    either (nat_lt 0 m.context && nat_lt m.context b.places) _ b
    (λ h. add_queue-sound b t _ s room (ltb-true m.context b.places (and_parts (nat_lt 0 m.context) (nat_lt m.context b.places) h).1)) s

-- ---- nodes

pub node_stands : (b : Board) (m : Submission) (x : Queue) → holds_together b m ≡ true → x.place < b.places → Stands b.buffers (suc b.nodes) b.places (node_entry b.nodes m x)
unfolding holds_together are_root_needs
node_stands b m x h p =
    let a = and_parts (list_all (is_root_need b.buffers) m.needs && are_different m.needs) _ h in
    let c = and_parts (list_all (is_root_need b.buffers) m.needs) (are_different m.needs) a.0 in
    let d = and_parts (are_below b.nodes m.after) (has_needs m.needs m.command) a.1 in
    record {
      held = roots_held b.buffers m.needs c.0;
      different = c.1;
      suits = d.1;
      named = All-weaker (λ k. k < b.nodes) (λ k. k < suc b.nodes) (λ k l. omega (arith, l)) m.after (below_named b.nodes m.after d.0);
      placed = p;
    }

pub add_node-sound : (b : Board) (t : ℕ) (m : Submission) (x : Queue) → IsSound b → HasRoom b → slice_get b.queues m.queue ≡ Some x → holds_together b m ≡ true → IsSound (add_node b t (node_entry b.nodes m x))
add_node-sound b t m x s room e h =
    await-sound (record b { entries = b.entries ++ node_entry b.nodes m x ∷ []; nodes = suc b.nodes }) t _
    (node_more b (node_entry b.nodes m x) s room.entries (node_stands b m x h (All-at (λ (v : Queue). v.place < b.places) b.queues m.queue x s.queues e)) refl)

pub after_submit-sound : (b : Board) (t : ℕ) (m : Submission) (o : Option Queue) → IsSound b → HasRoom b → slice_get b.queues m.queue ≡ o → IsSound (after_submit b t m o)
unfolding after_submit
after_submit-sound b t m None s room e = s
after_submit-sound b t m (Some x) s room e = either (holds_together b m) _ b (λ h. add_node-sound b t m x s room e h) s

-- ---- waits and threads

pub wait_if-sound : (v : Bool) (b : Board) (t : ℕ) (w : Waits) → IsSound b → IsSound (wait_if v b t w)
wait_if-sound true b t w s = await-sound b t w s
wait_if-sound false b t w s = s

pub after_throw-sound : (b : Board) (t : ℕ) (o : Option KernelError) → IsSound b → IsSound (after_throw b t o)
after_throw-sound b t None s = await-sound b t _ s
after_throw-sound b t (Some e) s = stop-sound b _ s

pub throw_queue-sound : (b : Board) (t q : ℕ) → IsSound b → IsSound (throw_queue b t q)
unfolding throw_queue
throw_queue-sound b t q s = either (nat_lt q (length b.queues)) _ b (λ h. after_throw-sound b t (error_on q b.entries) s) s

thread_more : (b : Board) → length b.waits < 64 → IsSound b → IsSound (record b { waits = b.waits ++ Ready ∷ [] })
thread_more b lt s = record {
  counts = record {
    buffers = s.counts.buffers;
    queues = s.counts.queues;
    entries = s.counts.entries;
    steps = s.counts.steps;
    host = s.counts.host;
    places = s.counts.places;
    main = omega (arith, length-append b.waits (Ready ∷ []));
    threads = omega (arith, lt, length-append b.waits (Ready ∷ []));
    output = s.counts.output;
    live = s.counts.live;
  };
  small = s.small;
  queues = s.queues;
  entries = s.entries;
  numbers = s.numbers;
}

pub after_spawn-sound : (b : Board) (t : ℕ) → IsSound b → IsSound (after_spawn b t)
unfolding after_spawn
after_spawn-sound b t s =
    either (nat_lt (length b.waits) 64) _ _ (λ h. await-sound (record b { waits = b.waits ++ Ready ∷ [] }) t _ (thread_more b (ltb-true (length b.waits) 64 h) s)) (stop-sound b _ s)

-- ---- an ask

pub apply-sound : (b : Board) (t : ℕ) (q : Ask) → IsSound b → HasRoom b → IsSound (apply b t q)
unfolding apply
apply-sound b t (Print bytes) s room = after_print-sound b t bytes s
apply-sound b t (MakeBuffer m) s room = made_buffer-sound b t m s room
apply-sound b t (MakeSub parent base range) s room = made_part-sound b t parent base (product range) s room
apply-sound b t (EndBuffer r) s room = end_buffer-sound b t r (slice_get b.buffers r) s room refl
apply-sound b t (OpenHost n) s room = opened_host-sound b t n s room
apply-sound b t (CloseHost k values) s room = close_found-sound b t values (access_from 0 b.entries t k) s
apply-sound b t (MakeContext device) s room = made_context-sound b t s
apply-sound b t (MakeQueue m) s room = made_queue-sound b t m s room
apply-sound b t (Submit m) s room = after_submit-sound b t m (slice_get b.queues m.queue) s room refl
apply-sound b t (WaitNode n) s room = wait_if-sound _ b t _ s
apply-sound b t (WaitQueue q) s room = wait_if-sound _ b t _ s
apply-sound b t (ThrowQueue q) s room = throw_queue-sound b t q s
apply-sound b t (Spawn body captures) s room = after_spawn-sound b t s
apply-sound b t (Join u) s room = wait_if-sound _ b t _ s
apply-sound b t (Finish v) s room = await-sound b t _ s
apply-sound b t (Halt h) s room = stop-sound b _ s
apply-sound b t (Barrier place line) s room = s
apply-sound b t (Collect place line call) s room = s

-- ---- entries that take effect

after_alike : (needs : List Need) (log : List (Cell × ℤ)) (k : ℕ) (x : Buffer) → Alike x (buffer_after needs log k x)
unfolding buffer_after
after_alike needs log k x = alike_numbers x _ (length-each_from _ 0 x.values)

pub buffers_after-sound : (b : Board) (needs : List Need) (log : List (Cell × ℤ)) → IsSound b → IsSound (record b { buffers = buffers_after needs log b.buffers })
unfolding buffers_after
buffers_after-sound b needs log s =
    rebuffered b (each_from (buffer_after needs log) 0 b.buffers) (alike-each_from (buffer_after needs log) (after_alike needs log) 0 b.buffers) s

pub took-sound : (b : Board) (k : ℕ) (needs : List Need) (o : Outcome) → IsSound b → IsSound (took b k needs o)
unfolding took
took-sound b k needs (Wrote log) s = to_stage-sound (record b { buffers = buffers_after needs log b.buffers }) k stage.Done (buffers_after-sound b needs log s)
took-sound b k needs (Failed fault) s =
    to_stage-sound (record b { buffers = buffers_after needs [] b.buffers }) k (stage.Failed fault) (buffers_after-sound b needs [] s)

pub effect-sound : (out : OutcomeOf) (b : Board) (k : ℕ) (e : Entry) (w : Work) → IsSound b → IsSound (effect out b k e w)
unfolding effect
effect-sound out b k e (Node n q c) s = took-sound b k e.needs (out c (inputs b.buffers e.needs)) s
effect-sound out b k e (Access t i) s = await-sound (to_stage b k stage.Granted) t _ (to_stage-sound b k stage.Granted s)
effect-sound out b k e (End t r) s = await-sound (to_stage b k stage.Done) t _ (to_stage-sound b k stage.Done s)

pub settle_entry-sound : (out : OutcomeOf) (b : Board) (k : ℕ) (o : Option Entry) → IsSound b → IsSound (settle_entry out b k o)
unfolding settle_entry
settle_entry-sound out b k None s = s
settle_entry-sound out b k (Some e) s = either (is_free b.entries k e) _ b (λ h. effect-sound out b k e e.work s) s

pub settle_one-sound : (out : OutcomeOf) (k : ℕ) (b : Board) → IsSound b → IsSound (settle_one out k b)
settle_one-sound out k b s = settle_entry-sound out b k (slice_get b.entries k) s

pub settle_upto-sound : (out : OutcomeOf) (b : Board) (n : ℕ) → IsSound b → IsSound (settle_upto out b n)
settle_upto-sound out b zero s = s
settle_upto-sound out b (suc n) s = settle_one-sound out n (settle_upto out b n) (settle_upto-sound out b n s)

pub settle-sound : (out : OutcomeOf) (b : Board) → IsSound b → IsSound (settle out b)
settle-sound out b s = settle_upto-sound out b (length b.entries) s

pub give_all-sound : (b : Board) → IsSound b → IsSound (give_all b)
unfolding give_all
give_all-sound b s = rewaited b (map (given b) b.waits) b.ended (length-map b.waits (given b)) s

-- ---- a turn, a step and a sequence

-- an ask has had its effect, and nothing has settled yet
pub asked-sound : (b : Board) (t : ℕ) (q : Ask) → IsSound b → b.steps < 2 ^ 24 → IsSound (apply (begin_ask b t) t q)
asked-sound b t q s lt = apply-sound (begin_ask b t) t q (begin_ask-sound b t s lt) (begin_ask-room b t s)

pub turn-sound : (out : OutcomeOf) (b : Board) (t : ℕ) (q : Ask) → IsSound b → b.steps < 2 ^ 24 → IsSound (turn out b t q)
unfolding turn
turn-sound out b t q s lt =
    let a = apply (begin_ask b t) t q in give_all-sound (settle out a) (settle-sound out a (asked-sound b t q s lt))

pub step-sound : (p : Program) (s : State) (t : ℕ) → IsSound s.board → s.board.steps < 2 ^ 24 → IsSound (step p s t).board
unfolding step
step-sound p s t h lt =
    let b = turn p.outcome s.board t (next_ask p s t) in
    rewaited b (map once_heard b.waits) b.ended (length-map b.waits once_heard) (turn-sound p.outcome s.board t (next_ask p s t) h lt)

some_state : (v : Bool) (o : Option State) (u : State) → (if v then o else None) ≡ Some u → (v ≡ true) × (o ≡ Some u)
some_state true o u e = (refl, e)
some_state false o u e = let z : None ≡ Some u = e in absurd cc

at_end : (s u : State) → Some s ≡ Some u → IsSound s.board → IsSound u.board
at_end s u e h = subst (λ (x : State). IsSound x.board) (same_Some s u e) h

pub seq_from-sound : (p : Program) (s : State) (order : List ℕ) (u : State) → IsSound s.board → seq_from p s order ≡ Some u → IsSound u.board
seq_from-sound p s [] u h e = at_end s u e h
seq_from-sound p s (t ∷ ts) u h e =
    let a = some_state (is_legal p s t) (seq_from p (step p s t) ts) u e in
    seq_from-sound p (step p s t) ts u (step-sound p s t h (ltb-true s.board.steps (2 ^ 24) (and_parts (may_step p s t) (nat_lt s.board.steps (2 ^ 24)) a.0).1)) a.1

pub opening-sound : IsSound opening
unfolding node_numbers live_elements
opening-sound = record {
  counts = record {
    buffers = omega arith;
    queues = omega arith;
    entries = omega arith;
    steps = omega arith;
    host = omega arith;
    places = omega arith;
    main = omega arith;
    threads = omega arith;
    output = omega arith;
    live = omega arith;
  };
  small = All-nil (λ (x : Buffer). length x.values ≤ 2 ^ 22);
  queues = All-nil (λ (x : Queue). x.place < 2);
  entries = All-nil (Stands [] 0 2);
  numbers = refl;
}

pub seq-sound : (p : Program) (order : List ℕ) (s : State) → seq p order ≡ Some s → IsSound s.board
seq-sound p order s e = seq_from-sound p (start p) order s opening-sound e
