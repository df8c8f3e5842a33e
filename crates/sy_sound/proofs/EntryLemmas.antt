-- What stands over a list of buffers stands over one that has grown, or whose numbers have changed.
use Rattle.std.proofs.Common.{◌≡◌, ℕ, zero, suc, ◌+◌, ◌<◌, ◌≤◌, Bool, true, false, List, [], ◌∷◌, ◌++◌, length, Option, Some, None, refl, sym, ap, ◌∙◌, arith}
use Rattle.std.specs.Prelude.{All, slice_get, if◌then◌else◌, ◌&&◌, not, nat_le}
use Rattle.std.specs.List.{AllZip, list_all}
use Rattle.std.proofs.lemmas.Option.{same_Some}
use Rattle.std.proofs.lemmas.Bool.{and_parts, not-true, leb-true, ltb-true}
use Rattle.std.proofs.lemmas.List.Elements.{All-nil, All-head, All-tail, All-cons, All-weaker}
use Rattle.std.proofs.lemmas.List.Sums.{sum_by-cons}
use Rattle.sy_access.specs.declared.access.Need.{Need}
use Rattle.sy_access.specs.declared.access.Mode.TheVariants.{ReadWrite}
use Rattle.sy_onecopy.specs.declared.Buffer.{Buffer}
use Rattle.sy_onecopy.specs.declared.Entry.{Entry}
use Rattle.sy_onecopy.specs.declared.Work.{Work}
use Rattle.sy_onecopy.specs.declared.Work.TheVariants.{Node, Access, End}
use Rattle.sy_onecopy.specs.declared.Stage.{Stage}
use Rattle.sy_onecopy.specs.Each.{changed_at}
use Rattle.sy_needs.specs.Each.{each_from}
use Rattle.sy_onecopy.specs.Settle.{with_stage}
use Rattle.sy_onecopy.specs.Step.{writes_if_fresh, is_part, is_root, is_root_need, count_of, live_elements, are_below}
use Rattle.sy_sound.specs.Sound.{IsHeld, Suit, Stands}
use Rattle.sy_sound.proofs.ListLemmas.{slice_get-push}

abbrev pub live_of : Buffer → ℕ
live_of x = if x.ended then 0 else length x.values

-- y is x with other numbers, as many, and ended if x is
pub record Alike (x y : Buffer) : Type 0 where
  pub count : length y.values ≡ length x.values
  pub origin : y.origin ≡ x.origin
  pub live : live_of y ≤ live_of x

alike_itself : (x : Buffer) → Alike x x
alike_itself x = record { count = refl; origin = refl; live = omega arith }

pub alike-each_from : (f : ℕ → Buffer → Buffer) → ((k : ℕ) (x : Buffer) → Alike x (f k x)) → (k : ℕ) (xs : List Buffer) → AllZip Alike xs (each_from f k xs)
alike-each_from f g k [] = tt
alike-each_from f g k (x ∷ xs) = (g k x, alike-each_from f g (suc k) xs)

alike_all : (xs : List Buffer) → AllZip Alike xs xs
alike_all [] = tt
alike_all (x ∷ xs) = (alike_itself x, alike_all xs)

pub alike-changed_at : (f : Buffer → Buffer) → ((x : Buffer) → Alike x (f x)) → (k : ℕ) (xs : List Buffer) → AllZip Alike xs (changed_at f k xs)
alike-changed_at f g k [] = tt
alike-changed_at f g zero (x ∷ xs) = (g x, alike_all xs)
alike-changed_at f g (suc k) (x ∷ xs) = (alike_itself x, alike-changed_at f g k xs)

pub small_alike : (n : ℕ) (xs ys : List Buffer) → AllZip Alike xs ys → All (λ (x : Buffer). length x.values ≤ n) xs → All (λ (x : Buffer). length x.values ≤ n) ys
small_alike n [] [] z h = h
small_alike n [] (y ∷ ys) z h = absurd z
small_alike n (x ∷ xs) [] z h = absurd z
small_alike n (x ∷ xs) (y ∷ ys) z h =
    let c : length y.values ≡ length x.values = z.0.count in
    let l : length x.values ≤ n = All-head (λ (v : Buffer). length v.values ≤ n) x xs h in
    All-cons (λ (v : Buffer). length v.values ≤ n) y ys (omega arith) (small_alike n xs ys z.1 (All-tail (λ (v : Buffer). length v.values ≤ n) x xs h))

pub live-cons : (x : Buffer) (xs : List Buffer) → live_elements (x ∷ xs) ≡ live_of x + live_elements xs
unfolding live_elements
live-cons x xs = sum_by-cons live_of x xs

pub live_alike : (xs ys : List Buffer) → AllZip Alike xs ys → live_elements ys ≤ live_elements xs
live_alike [] [] z = omega arith
live_alike [] (y ∷ ys) z = absurd z
live_alike (x ∷ xs) [] z = absurd z
live_alike (x ∷ xs) (y ∷ ys) z =
    let a : live_of y ≤ live_of x = z.0.live in
    let b : live_elements ys ≤ live_elements xs = live_alike xs ys z.1 in
    omega (arith, live-cons x xs, live-cons y ys)

-- the list has a buffer at r with the count and the origin of this one
pub record Has (ys : List Buffer) (r : ℕ) (x : Buffer) : Type 0 where
  pub now : Buffer
  pub there : slice_get ys r ≡ Some now
  pub count : length now.values ≡ length x.values
  pub origin : now.origin ≡ x.origin

-- what the first list has the second has
pub record Grows (xs ys : List Buffer) : Type 0 where
  pub at : (r : ℕ) (x : Buffer) → slice_get xs r ≡ Some x → Has ys r x

alike_has : (xs ys : List Buffer) → AllZip Alike xs ys → (r : ℕ) (x : Buffer) → slice_get xs r ≡ Some x → Has ys r x
alike_has [] ys z r x e = let n : None ≡ Some x = e in cc
alike_has (a ∷ xs) [] z r x e = absurd z
alike_has (a ∷ xs) (y ∷ ys) z zero x e =
    let s : a ≡ x = same_Some a x e in
    record { now = y; there = refl; count = z.0.count ∙ ap (λ v. length v.values) s; origin = z.0.origin ∙ ap (λ v. v.origin) s }
alike_has (a ∷ xs) (y ∷ ys) z (suc r) x e =
    let h = alike_has xs ys z.1 r x e in record { now = h.now; there = h.there; count = h.count; origin = h.origin }

pub alike_grows : (xs ys : List Buffer) → AllZip Alike xs ys → Grows xs ys
alike_grows xs ys z = record { at = alike_has xs ys z }

pub push_grows : (xs ys : List Buffer) → Grows xs (xs ++ ys)
push_grows xs ys = record { at = λ r x e. record { now = x; there = slice_get-push xs ys r x e; count = refl; origin = refl } }

pub same_grows : (xs : List Buffer) → Grows xs xs
same_grows xs = record { at = λ r x e. record { now = x; there = e; count = refl; origin = refl } }

held_more : (xs ys : List Buffer) → Grows xs ys → (n : Need) → IsHeld xs n → IsHeld ys n
held_more xs ys g n h =
    let k = g.at n.buffer h.root h.there in
    let w : n.to ≤ length h.root.values = h.within in
    let c : length k.now.values ≡ length h.root.values = k.count in
    record { root = k.now; there = k.there; own = ap is_part k.origin ∙ h.own; up = h.up; within = omega arith; honest = h.honest }

whole_of : ℕ → ℕ → List Need
whole_of r n = record { buffer = r; mode = ReadWrite; no_init = false; from = 0; to = n } ∷ []

suits_more : (xs ys : List Buffer) → Grows xs ys → (needs : List Need) (w : Work) → Suit xs needs w → Suit ys needs w
unfolding whole_of
suits_more xs ys g needs (Node n q c) h = h
suits_more xs ys g needs (Access t k) h = h
suits_more xs ys g needs (End t r) h =
    let k = g.at r h.0 h.1 in (k.now, k.there, h.2 ∙ ap (whole_of r) (sym k.count))

pub stands_more : (xs ys : List Buffer) (n m p q : ℕ) → Grows xs ys → n ≤ m → p ≤ q → (e : Entry) → Stands xs n p e → Stands ys m q e
stands_more xs ys n m p q g nodes places e s =
    let l : e.place < p = s.placed in
    record {
      held = All-weaker (IsHeld xs) (IsHeld ys) (held_more xs ys g) e.needs s.held;
      different = s.different;
      suits = suits_more xs ys g e.needs e.work s.suits;
      named = All-weaker (λ k. k < n) (λ k. k < m) (λ k less. omega arith) e.after s.named;
      placed = omega arith;
    }

pub stands_staged : (xs : List Buffer) (n p : ℕ) (s : Stage) (e : Entry) → Stands xs n p e → Stands xs n p (with_stage s e)
stands_staged xs n p s e h = record { held = h.held; different = h.different; suits = h.suits; named = h.named; placed = h.placed }

root_held_by : (xs : List Buffer) (n : Need) (o : Option Buffer) → slice_get xs n.buffer ≡ o → (is_root o && (nat_le n.from n.to && (nat_le n.to (count_of o) && writes_if_fresh n))) ≡ true → IsHeld xs n
root_held_by xs n None e h = let z : false ≡ true = h in cc
root_held_by xs n (Some x) e h =
    let a = and_parts (not x.ended && not (is_part x.origin)) _ h in
    let b = and_parts (not x.ended) (not (is_part x.origin)) a.0 in
    let c = and_parts (nat_le n.from n.to) (nat_le n.to (length x.values) && writes_if_fresh n) a.1 in
    let d = and_parts (nat_le n.to (length x.values)) (writes_if_fresh n) c.1 in
    record {
      root = x;
      there = e;
      own = not-true (is_part x.origin) b.1;
      up = leb-true n.from n.to c.0;
      within = leb-true n.to (length x.values) d.0;
      honest = d.1;
    }

-- a need that passes the test is held
pub root_held : (xs : List Buffer) (n : Need) → is_root_need xs n ≡ true → IsHeld xs n
unfolding is_root_need
root_held xs n h = root_held_by xs n (slice_get xs n.buffer) refl h

pub all_from : {A : Type 0} (test : A → Bool) (P : A → Type 0) → ((x : A) → test x ≡ true → P x) → (xs : List A) → list_all test xs ≡ true → All P xs
all_from test P g [] h = All-nil P
all_from test P g (x ∷ xs) h =
    let a = and_parts (test x) (list_all test xs) h in All-cons P x xs (g x a.0) (all_from test P g xs a.1)

pub roots_held : (xs : List Buffer) (needs : List Need) → list_all (is_root_need xs) needs ≡ true → All (IsHeld xs) needs
roots_held xs needs h = all_from (is_root_need xs) (IsHeld xs) (root_held xs) needs h

pub below_named : (n : ℕ) (numbers : List ℕ) → are_below n numbers ≡ true → All (λ k. k < n) numbers
unfolding are_below
below_named n numbers h = all_from _ (λ k. k < n) (λ k l. ltb-true k n l) numbers h
