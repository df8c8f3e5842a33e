-- What holds in each state of a run.
use Rattle.std.proofs.Common.{◌≡◌, ◌≢◌, ◌⊎◌, ℕ, zero, suc, ◌<◌, ℤ, List, [], ◌∷◌, ◌++◌, length, map, Bool, true, false, Option, Some, None, refl, sym, ap, ◌∙◌, subst, inl, inr, arith, append-nil}
use Rattle.std.specs.Prelude.{slice_get, if◌then◌else◌, option_map, nat_lt, slice_index_or}
use Rattle.std.proofs.lemmas.Option.{slice_get-map, slice_get_within, slice_get-get_or}
use Rattle.std.proofs.lemmas.List.{length-map}
use Rattle.std.proofs.lemmas.Bool.Decides.{nat_tests}
use Rattle.sy_work.specs.Programs.{Program}
use Rattle.sy_work.specs.declared.asks.Ask.{Ask}
use Rattle.sy_work.specs.declared.asks.Ask.TheVariants.{Spawn}
use Rattle.sy_work.specs.declared.asks.Answer.{Answer}
use Rattle.sy_onecopy.specs.declared.Entry.{Entry}
use Rattle.sy_onecopy.specs.declared.Waits.{Waits}
use Rattle.sy_onecopy.specs.declared.Waits.TheVariants.{Ready, Due, OnEntry, OnNode, OnQueue, OnThread, Never, Finished}
use Rattle.sy_onecopy.specs.State.{Board, Thread, State, start, new_thread, ask_by, next_ask}
use Rattle.sy_onecopy.specs.Step.{threads_after, hear, hear_all, once_heard, step}
use Rattle.sy_onecopy.specs.Sequence.{is_ready, ready_at, is_legal, seq_from, seq}
use Rattle.sy_answers.specs.Fitting.{StepFits, Counted, board_after, count_after, due_of, due_at}
use Rattle.sy_answers.proofs.ListLemmas.{below_or_not, map_at, more_kept, last_at, length-more}
use Rattle.sy_answers.proofs.WaitLemmas.{Fit, Waited, Suits, IsAsked}
use Rattle.sy_answers.proofs.TurnLemmas.{Keeps, turned, kept_fits}

abbrev with_answers : Thread → List Answer → Thread
with_answers x l = record x { answers = l }

hear_none : (x : Thread) → x ≡ record x { answers = x.answers ++ [] }
hear_none x = ap (with_answers x) (sym (append-nil x.answers))

hear_is : (w : Waits) (x : Thread) → hear w x ≡ record x { answers = x.answers ++ due_of w }
hear_is (Due a) x = refl
hear_is w x = hear_none x

-- each thread hears what is due to it
hear_all_at : (ws : List Waits) (xs : List Thread) (u : ℕ) (x : Thread) → slice_get xs u ≡ Some x → slice_get (hear_all ws xs) u ≡ Some (record x { answers = x.answers ++ due_at (slice_get ws u) })
hear_all_at [] xs u x h = h ∙ ap Some (hear_none x)
hear_all_at (w ∷ ws) [] u x h = cc
hear_all_at (w ∷ ws) (y ∷ xs) zero x h = let e : y ≡ x = cc in ap (λ z. Some (hear w z)) e ∙ ap Some (hear_is w x)
hear_all_at (w ∷ ws) (y ∷ xs) (suc u) x h = hear_all_at ws xs u x h

length-hear_all : (ws : List Waits) (xs : List Thread) → length (hear_all ws xs) ≡ length xs
length-hear_all [] xs = refl
length-hear_all (w ∷ ws) [] = refl
length-hear_all (w ∷ ws) (x ∷ xs) = ap suc (length-hear_all ws xs)

-- ---- threads that a spawn starts

chosen_at : (v : Bool) (xs : List Thread) (y : Thread) (u : ℕ) (x : Thread) → slice_get xs u ≡ Some x → slice_get (if v then xs ++ y ∷ [] else xs) u ≡ Some x
chosen_at true xs y u x h = more_kept xs y x u h
chosen_at false xs y u x h = h

grown_at : (b : Board) (q : Ask) (xs : List Thread) (u : ℕ) (x : Thread) → slice_get xs u ≡ Some x → slice_get (threads_after b q xs) u ≡ Some x
unfolding threads_after
grown_at b (Spawn body captures) xs u x h = chosen_at (nat_lt (length xs) (length b.waits)) xs (new_thread body captures) u x h
grown_at b q xs u x h = h

chosen_count : (v w : Bool) (n : ℕ) (xs : List Thread) (y : Thread) → nat_lt (length xs) n ≡ v → n ≡ (if w then suc (length xs) else length xs) → length (if v then xs ++ y ∷ [] else xs) ≡ (if w then suc (length xs) else length xs)
chosen_count true true n xs y h e = length-more xs y
chosen_count true false n xs y h e = absurd (grind (arith, nat_tests))
chosen_count false true n xs y h e = absurd (grind (arith, nat_tests))
chosen_count false false n xs y h e = refl

grown_count : (b : Board) (q : Ask) (xs : List Thread) → length b.waits ≡ count_after q (length xs) → length (threads_after b q xs) ≡ count_after q (length xs)
unfolding threads_after
grown_count b (Spawn body captures) xs e = chosen_count (nat_lt (length xs) (length b.waits)) (nat_lt (length xs) 64) (length b.waits) xs (new_thread body captures) refl e
grown_count b q xs e = refl

chosen_last : (v w : Bool) (n : ℕ) (xs : List Thread) (y : Thread) → nat_lt (length xs) n ≡ v → w ≡ true → n ≡ (if w then suc (length xs) else length xs) → slice_get (if v then xs ++ y ∷ [] else xs) (length xs) ≡ Some y
chosen_last true w n xs y h t e = last_at xs y
chosen_last false true n xs y h t e = absurd (grind (arith, nat_tests))
chosen_last false false n xs y h t e = cc

grown_last : (b : Board) (body : ℕ) (captures : List ℤ) (xs : List Thread) → length b.waits ≡ count_after (Spawn body captures) (length xs) → length xs < 64 → slice_get (threads_after b (Spawn body captures) xs) (length xs) ≡ Some (new_thread body captures)
unfolding threads_after
grown_last b body captures xs e l = chosen_last (nat_lt (length xs) (length b.waits)) (nat_lt (length xs) 64) (length b.waits) xs (new_thread body captures) refl (grind (arith, nat_tests)) e

-- ---- a step

quiet_or_ready : (w : Waits) → (once_heard w ≡ Ready) ⊎ ((is_ready w ≡ false) × (due_of w ≡ []) × (once_heard w ≡ w))
quiet_or_ready Ready = inl refl
quiet_or_ready (Due a) = inl refl
quiet_or_ready w = inr (refl, refl, refl)

none_due : (w : Waits) (a : Answer) → once_heard w ≢ Due a
none_due Ready a h = cc
none_due (Due x) a h = cc
none_due OnEntry a h = cc
none_due (OnNode n) a h = cc
none_due (OnQueue q n) a h = cc
none_due (OnThread u) a h = cc
none_due Never a h = cc
none_due (Finished v) a h = cc

ready_none : (o : Option Waits) → ready_at o ≡ true → due_at o ≡ []
ready_none (Some Ready) h = refl
ready_none o h = cc

one_spawn : (n : ℕ) → n < 64 → n < (if nat_lt n 64 then suc n else n)
one_spawn n h = grind (arith, nat_tests)

same_thread : (p : Program) (s r : State) (u : ℕ) (x : Thread) → slice_get s.threads u ≡ Some x → slice_get r.threads u ≡ Some x → next_ask p r u ≡ next_ask p s u
same_thread p s r u x g h = ap (ask_by p.next) (h ∙ sym g)

module _ (p : Program) (s : State) (t : ℕ) (k : Keeps p s) (l : is_legal p s t ≡ true) where
  members_after : length (board_after p s t).waits ≡ count_after (next_ask p s t) (length s.threads)
  members_after = (kept_fits p s t k l).count ∙ ap (count_after (next_ask p s t)) (sym k.counted.members)

  pub step_told : (u : ℕ) (x : Thread) → slice_get s.threads u ≡ Some x → slice_get (step p s t).threads u ≡ Some (record x { answers = x.answers ++ due_at (slice_get (board_after p s t).waits u) })
  unfolding step
  step_told u x h =
      let b = board_after p s t in
      hear_all_at b.waits (threads_after b (next_ask p s t) s.threads) u x (grown_at b (next_ask p s t) s.threads u x h)

  pub step_count : length (step p s t).threads ≡ count_after (next_ask p s t) (length s.threads)
  unfolding step
  step_count =
      let b = board_after p s t in
      length-hear_all b.waits (threads_after b (next_ask p s t) s.threads) ∙ grown_count b (next_ask p s t) s.threads members_after

  pub step_started : (body : ℕ) (captures : List ℤ) → next_ask p s t ≡ Spawn body captures → length s.threads < 64 → slice_get (step p s t).threads (length s.threads) ≡ Some (new_thread body captures)
  unfolding step
  step_started body captures e h =
      let b = board_after p s t in
      let x = new_thread body captures in
      let c : length b.waits ≡ count_after (Spawn body captures) (length s.threads) = subst (λ q. length b.waits ≡ count_after q (length s.threads)) e members_after in
      let g : slice_get (threads_after b (next_ask p s t) s.threads) (length s.threads) ≡ Some x = ap (λ q. slice_get (threads_after b q s.threads) (length s.threads)) e ∙ grown_last b body captures s.threads c h in
      let r : ready_at (slice_get b.waits (length s.threads)) ≡ true = (kept_fits p s t k l).fresh (length s.threads) (let m = k.counted.members in omega arith) (subst (λ n. length s.threads < n) (sym c) (one_spawn (length s.threads) h)) in
      hear_all_at b.waits (threads_after b (next_ask p s t) s.threads) (length s.threads) x g ∙ ap (λ a. Some (with_answers x a)) (ready_none (slice_get b.waits (length s.threads)) r)

  -- who hears nothing asks as before
  same_ask : (u : ℕ) (w : Waits) → slice_get (board_after p s t).waits u ≡ Some w → is_ready w ≡ false → due_of w ≡ [] → next_ask p (step p s t) u ≡ next_ask p s u
  same_ask u w h n d =
      elim (below_or_not u (length s.threads)) [
        | inl b ↦
            let x = slice_index_or s.threads u (new_thread p.main []) in
            let g : slice_get s.threads u ≡ Some x = slice_get-get_or s.threads u (new_thread p.main []) b in
            let e : due_at (slice_get (board_after p s t).waits u) ≡ [] = ap due_at h ∙ d in
            same_thread p s (step p s t) u x g (step_told u x g ∙ ap (λ a. Some (with_answers x (x.answers ++ a))) e ∙ ap Some (sym (hear_none x)))
        | inr b ↦
            let m = k.counted.members in
            let r : ready_at (slice_get (board_after p s t).waits u) ≡ true = (kept_fits p s t k l).fresh u (omega arith) (slice_get_within (board_after p s t).waits u w h) in
            let z : true ≡ false = sym r ∙ ap ready_at h ∙ n in cc
      ]

  step_suits : (u : ℕ) (v : Waits) → slice_get (map once_heard (board_after p s t).waits) u ≡ Some v → Suits (board_after p s t).buffers (next_ask p (step p s t) u) v
  step_suits u v h =
      let m = map_at once_heard (board_after p s t).waits u v h in
      elim (quiet_or_ready m.from) [
        | inl r ↦ subst (λ y. Suits (board_after p s t).buffers (next_ask p (step p s t) u) y) (sym r ∙ m.made) tt
        | inr r ↦
            let f = (turned p s t k l).fit.suits u m.from m.at in
            subst (λ y. Suits (board_after p s t).buffers (next_ask p (step p s t) u) y) (sym r.2 ∙ m.made) (subst (λ a. Suits (board_after p s t).buffers a m.from) (sym (same_ask u m.from m.at r.0 r.1)) f)
      ]

  step_asked : (j : ℕ) (e : Entry) (u : ℕ) → Waited (board_after p s t).entries j e u → IsAsked (next_ask p (step p s t) u) (board_after p s t).buffers e.needs e.work
  step_asked j e u x =
      let f = (turned p s t k l).fit in
      subst (λ a. IsAsked a (board_after p s t).buffers e.needs e.work) (sym (same_ask u OnEntry (f.waiting j e u x) refl refl)) (f.asked j e u x)

  step_fit : Fit (next_ask p (step p s t)) (board_after p s t).buffers (board_after p s t).entries (map once_heard (board_after p s t).waits)
  step_fit =
      let f = (turned p s t k l).fit in
      record {
        suits = step_suits;
        waiting = λ j e u x. slice_get-map once_heard (board_after p s t).waits u ∙ ap (option_map once_heard) (f.waiting j e u x);
        asked = step_asked;
        once = f.once;
      }

  step_counted : Counted (step p s t)
  unfolding step
  step_counted = record {
    members = step_count ∙ sym members_after ∙ sym (length-map (board_after p s t).waits once_heard);
    heard = λ u a h. let m = map_at once_heard (board_after p s t).waits u (Due a) h in none_due m.from a m.made;
  }

  pub step_keeps : Keeps p (step p s t)
  unfolding step
  step_keeps = record { fit = step_fit; counted = step_counted }

-- ---- an order of steps

first_suits : (p : Program) (u : ℕ) (w : Waits) → slice_get (Ready ∷ []) u ≡ Some w → Suits [] (next_ask p (start p) u) w
first_suits p zero w h = let e : Ready ≡ w = cc in subst (Suits [] (next_ask p (start p) 0)) e tt
first_suits p (suc u) w h = absurd cc

first_heard : (u : ℕ) (a : Answer) → slice_get (Ready ∷ []) u ≢ Some (Due a)
first_heard zero a h = cc
first_heard (suc u) a h = cc

pub start_keeps : (p : Program) → Keeps p (start p)
start_keeps p = record {
  fit = record {
    suits = first_suits p;
    waiting = λ k e u x. let z = x.at in cc;
    asked = λ k e u x. let z = x.at in absurd cc;
    once = λ j k d e u x y. let z = x.at in cc;
  };
  counted = record { members = refl; heard = first_heard };
}

chosen_keeps : (p : Program) (s r : State) (t : ℕ) (ts : List ℕ) (v : Bool) → is_legal p s t ≡ v → Keeps p s → (Keeps p (step p s t) → seq_from p (step p s t) ts ≡ Some r → Keeps p r) → (if v then seq_from p (step p s t) ts else None) ≡ Some r → Keeps p r
chosen_keeps p s r t ts true l k more h = more (step_keeps p s t k l) h
chosen_keeps p s r t ts false l k more h = absurd cc

from_keeps : (p : Program) (order : List ℕ) (s r : State) → Keeps p s → seq_from p s order ≡ Some r → Keeps p r
from_keeps p [] s r k h = let e : s ≡ r = cc in subst (Keeps p) e k
from_keeps p (t ∷ ts) s r k h = chosen_keeps p s r t ts (is_legal p s t) refl k (from_keeps p ts (step p s t) r) h

-- each state of a run keeps the fitting
pub runs_keep : (p : Program) (order : List ℕ) (s : State) → seq p order ≡ Some s → Keeps p s
runs_keep p order s h = from_keeps p order (start p) s (start_keeps p) h

pub counted : (p : Program) (order : List ℕ) (s : State) → seq p order ≡ Some s → Counted s
counted p order s h = (runs_keep p order s h).counted

pub step_fits : (p : Program) (order : List ℕ) (s : State) (t : ℕ) → seq p order ≡ Some s → is_legal p s t ≡ true → StepFits p s t
step_fits p order s t h l = kept_fits p s t (runs_keep p order s h) l

pub all_told : (p : Program) (order : List ℕ) (s : State) (t u : ℕ) (x : Thread) → seq p order ≡ Some s → is_legal p s t ≡ true → slice_get s.threads u ≡ Some x → slice_get (step p s t).threads u ≡ Some (record x { answers = x.answers ++ due_at (slice_get (board_after p s t).waits u) })
all_told p order s t u x h l g = step_told p s t (runs_keep p order s h) l u x g

pub all_started : (p : Program) (order : List ℕ) (s : State) (t body : ℕ) (captures : List ℤ) → seq p order ≡ Some s → is_legal p s t ≡ true → next_ask p s t ≡ Spawn body captures → length s.threads < 64 → slice_get (step p s t).threads (length s.threads) ≡ Some (new_thread body captures)
all_started p order s t body captures h l e b = step_started p s t (runs_keep p order s h) l body captures e b

pub all_counted : (p : Program) (order : List ℕ) (s : State) (t : ℕ) → seq p order ≡ Some s → is_legal p s t ≡ true → length (step p s t).threads ≡ count_after (next_ask p s t) (length s.threads)
all_counted p order s t h l = step_count p s t (runs_keep p order s h) l
