-- Changes of the elements of all buffers, and what they leave of the elements of other needs.
use Rattle.std.proofs.Common.{◌≡◌, ℕ, zero, suc, ◌+◌, ◌-◌, ◌<◌, ◌≤◌, ℤ, List, [], ◌∷◌, ◌++◌, length, take, drop, map, true, false, Option, Some, None, refl, sym, ap, ◌∙◌, arith, inl, inr}
use Rattle.std.specs.Prelude.{slice_get, option_map, ◌||◌, if◌then◌else◌, unwrap_or, nat_lt}
use Rattle.std.specs.List.{list_any}
use Rattle.std.proofs.lemmas.Bool.{cases_Bool}
use Rattle.std.proofs.lemmas.Bool.Decides.{nat_tests}
use Rattle.sy_access.specs.declared.access.Need.{Need}
use Rattle.sy_access.specs.declared.cells.Cell.{Cell}
use Rattle.sy_access.specs.declared.cells.Cell.TheVariants as cell
use Rattle.sy_access.specs.Needs.{has_cell, conflict, is_apart}
use Rattle.sy_access.specs.Logs.{logged}
use Rattle.sy_access.proofs.Meeting.{conflict_comm, is_apart_comm}
use Rattle.sy_onecopy.specs.declared.Buffer.{Buffer}
use Rattle.sy_needs.specs.Each.{each_from}
use Rattle.sy_needs.specs.Order.{meets_one}
use Rattle.sy_onecopy.specs.Outcome.{run_of, values_at, values_of, input, inputs}
use Rattle.sy_needs.specs.Elements.{is_written, writes_at, at_start, cell_after}
use Rattle.sy_needs.specs.Order.{needs_meet}
use Rattle.sy_onecopy.specs.Step.{whole}
use Rattle.sy_onecopy.proofs.WriteLemmas.{write_apart}
use Rattle.sy_settling.specs.Orderly.{are_there}
use Rattle.sy_settling.proofs.ListLemmas.{get-each, each-same, each-swap, each-append, or_left, or_right, or_false, and_left, and_right}

-- an element by its buffer, its place and its number
abbrev pub Cells : Type 0
Cells = ℕ → ℕ → ℤ → ℤ

abbrev pub kept_cells : Cells
kept_cells r i v = v

abbrev pub buffer_by : Cells → ℕ → Buffer → Buffer
buffer_by h r x = record x { values = each_from (h r) 0 x.values }

abbrev pub mapped : Cells → List Buffer → List Buffer
mapped h buffers = each_from (buffer_by h) 0 buffers

-- only elements that the needs write change
pub record KeepsBut (h : Cells) (needs : List Need) : Type 0 where
  pub keeps : (r i : ℕ) (v : ℤ) → is_written needs r i ≡ false → h r i v ≡ v

pub kept_keep : (needs : List Need) → KeepsBut kept_cells needs
kept_keep needs = record { keeps = λ r i v w. refl }

pub after_keeps : (needs : List Need) (log : List (Cell × ℤ)) → KeepsBut (cell_after needs log) needs
unfolding cell_after
after_keeps needs log = record { keeps = λ r i v w. ap (λ t. if t then unwrap_or (logged log (cell.Buffer r i)) (at_start needs r i v) else v) w }

with_values : Buffer → List ℤ → Buffer
with_values x l = record x { values = l }

pub mapped-kept : (buffers : List Buffer) → mapped kept_cells buffers ≡ buffers
unfolding with_values
mapped-kept buffers = each-same (buffer_by kept_cells) 0 buffers (λ r x a b. ap (with_values x) (each-same (kept_cells r) 0 x.values (λ i v c d. refl)))

pub mapped-swap : (g h : Cells) (buffers : List Buffer) → ((r i : ℕ) (v : ℤ) → g r i (h r i v) ≡ h r i (g r i v)) → mapped g (mapped h buffers) ≡ mapped h (mapped g buffers)
unfolding with_values
mapped-swap g h buffers s = each-swap (buffer_by g) (buffer_by h) 0 buffers (λ r x. ap (with_values x) (each-swap (g r) (h r) 0 x.values (s r)))

-- ---- needs that don't meet

meets_one_comm : (a b : Need) (p q : ℕ) → meets_one a p q b ≡ meets_one b q p a
meets_one_comm a b p q = ap (λ t. t || is_apart a p b q) (conflict_comm a b) ∙ ap (λ t. conflict b a || t) (is_apart_comm a b p q)

-- a need that meets none of the rest is met by none of them
one_column : (y : Need) (xs ys : List Need) (p q : ℕ) → needs_meet xs p (y ∷ ys) q ≡ false → (list_any (meets_one y q p) xs ≡ false) × (needs_meet xs p ys q ≡ false)
one_column y [] ys p q m = (refl, refl)
one_column y (x ∷ xs) ys p q m =
    let row = or_left (list_any (meets_one x p q) (y ∷ ys)) (needs_meet xs p (y ∷ ys) q) m in
    let rest = one_column y xs ys p q (or_right (list_any (meets_one x p q) (y ∷ ys)) (needs_meet xs p (y ∷ ys) q) m) in (
      or_false (meets_one y q p x) (list_any (meets_one y q p) xs) (meets_one_comm y x q p ∙ or_left (meets_one x p q y) (list_any (meets_one x p q) ys) row) rest.0,
      or_false (list_any (meets_one x p q) ys) (needs_meet xs p ys q) (or_right (meets_one x p q y) (list_any (meets_one x p q) ys) row) rest.1,
    )

pub meet_comm : (xs ys : List Need) (p q : ℕ) → needs_meet xs p ys q ≡ false → needs_meet ys q xs p ≡ false
meet_comm xs [] p q m = refl
meet_comm xs (y ∷ ys) p q m =
    let c = one_column y xs ys p q m in
    or_false (list_any (meets_one y q p) xs) (needs_meet ys q xs p) c.0 (meet_comm xs ys p q c.1)

written_free : (a b : Need) (r i : ℕ) → has_cell a r i ≡ true → conflict a b ≡ false → writes_at r i b ≡ false
unfolding has_cell conflict
written_free a b r i h c = grind (arith, nat_tests)

-- nothing that the need has is written by the others
not_written : (a : Need) (p q : ℕ) (ys : List Need) (r i : ℕ) → has_cell a r i ≡ true → list_any (meets_one a p q) ys ≡ false → is_written ys r i ≡ false
unfolding is_written
not_written a p q [] r i h m = refl
not_written a p q (y ∷ ys) r i h m =
    let c : conflict a y ≡ false = or_left (conflict a y) (is_apart a p y q) (or_left (meets_one a p q y) (list_any (meets_one a p q) ys) m) in
    ap (λ t. t || list_any (writes_at r i) ys) (written_free a y r i h c) ∙ not_written a p q ys r i h (or_right (meets_one a p q y) (list_any (meets_one a p q) ys) m)

-- changes of needs that don't meet commute
pub apart-swap : (g h : Cells) (xs ys : List Need) (p q : ℕ) → KeepsBut g xs → KeepsBut h ys → needs_meet xs p ys q ≡ false → (buffers : List Buffer) → mapped g (mapped h buffers) ≡ mapped h (mapped g buffers)
apart-swap g h xs ys p q kg kh m buffers =
    mapped-swap g h buffers (λ r i v. elim (cases_Bool (is_written xs r i)) [
      | inl w ↦
          let free = write_apart xs ys p q m r i w in
          ap (g r i) (kh.keeps r i v free) ∙ sym (kh.keeps r i (g r i v) free)
      | inr w ↦ kg.keeps r i (h r i v) w ∙ ap (h r i) (sym (kg.keeps r i v w))
    ])

-- ---- what a need reads

values_of-by : (h : ℕ → ℤ → ℤ) (f : Buffer → Buffer) (o : Option Buffer) → ((x : Buffer) → (f x).values ≡ each_from h 0 x.values) → values_of (option_map f o) ≡ each_from h 0 (values_of o)
values_of-by h f None e = refl
values_of-by h f (Some x) e = e x

pub get-mapped : (h : Cells) (buffers : List Buffer) (r : ℕ) → slice_get (mapped h buffers) r ≡ option_map (buffer_by h r) (slice_get buffers r)
get-mapped h buffers r = get-each (buffer_by h) 0 r buffers ∙ ap (λ n. option_map (buffer_by h n) (slice_get buffers r)) (let e : 0 + r ≡ r = omega arith in e)

pub values-mapped : (h : Cells) (buffers : List Buffer) (r : ℕ) → values_at (mapped h buffers) r ≡ each_from (h r) 0 (values_at buffers r)
values-mapped h buffers r = ap values_of (get-mapped h buffers r) ∙ values_of-by (h r) (buffer_by h r) (slice_get buffers r) (λ x. refl)

drop-each : (f : ℕ → ℤ → ℤ) (k m : ℕ) (xs : List ℤ) → drop m (each_from f k xs) ≡ each_from f (k + m) (drop m xs)
drop-each f k zero xs = ap (λ j. each_from f j xs) (let e : k ≡ k + 0 = omega arith in e)
drop-each f k (suc m) [] = refl
drop-each f k (suc m) (x ∷ xs) = drop-each f (suc k) m xs ∙ ap (λ j. each_from f j (drop m xs)) (let e : suc k + m ≡ k + suc m = omega arith in e)

take-each : (f : ℕ → ℤ → ℤ) (k n : ℕ) (xs : List ℤ) → ((i : ℕ) (x : ℤ) → k ≤ i → i < k + n → f i x ≡ x) → take n (each_from f k xs) ≡ take n xs
take-each f k zero xs h = refl
take-each f k (suc n) [] h = refl
take-each f k (suc n) (x ∷ xs) h =
    ap (λ y. y ∷ take n (each_from f (suc k) xs)) (h k x (omega arith) (omega arith))
    ∙ ap (λ l. x ∷ l) (take-each f (suc k) n xs (λ i y a b. h i y (omega arith) (omega arith)))

run-each : (f : ℕ → ℤ → ℤ) (from to : ℕ) (xs : List ℤ) → ((i : ℕ) (x : ℤ) → from ≤ i → i < to → f i x ≡ x) → run_of (each_from f 0 xs) from to ≡ run_of xs from to
unfolding run_of
run-each f from to xs h =
    ap (take (to - from)) (drop-each f 0 from xs ∙ ap (λ j. each_from f j (drop from xs)) (let e : 0 + from ≡ from = omega arith in e))
    ∙ take-each f from (to - from) (drop from xs) (λ i x a b. h i x a (omega arith))

pub in_need : (n : Need) (i : ℕ) → n.from ≤ i → i < n.to → has_cell n n.buffer i ≡ true
unfolding has_cell
in_need n i a b = grind (arith, nat_tests)

input-kept : (all : List Need) (n : Need) (h : Cells) (ys : List Need) (p q : ℕ) (buffers : List Buffer) → KeepsBut h ys → list_any (meets_one n p q) ys ≡ false → input (mapped h buffers) all n ≡ input buffers all n
unfolding input
input-kept all n h ys p q buffers k m =
    ap (λ l. (n.buffer, n.from, each_from (at_start all n.buffer) n.from l))
    (ap (λ l. run_of l n.from n.to) (values-mapped h buffers n.buffer)
    ∙ run-each (h n.buffer) n.from n.to (values_at buffers n.buffer) (λ i v a b. k.keeps n.buffer i v (not_written n p q ys n.buffer i (in_need n i a b) m)))

inputs_from : (all xs : List Need) (h : Cells) (ys : List Need) (p q : ℕ) (buffers : List Buffer) → KeepsBut h ys → needs_meet xs p ys q ≡ false → map (input (mapped h buffers) all) xs ≡ map (input buffers all) xs
inputs_from all [] h ys p q buffers k m = refl
inputs_from all (x ∷ xs) h ys p q buffers k m =
    ap (λ v. v ∷ map (input (mapped h buffers) all) xs) (input-kept all x h ys p q buffers k (or_left (list_any (meets_one x p q) ys) (needs_meet xs p ys q) m))
    ∙ ap (λ l. input buffers all x ∷ l) (inputs_from all xs h ys p q buffers k (or_right (list_any (meets_one x p q) ys) (needs_meet xs p ys q) m))

pub inputs-kept : (xs : List Need) (h : Cells) (ys : List Need) (p q : ℕ) (buffers : List Buffer) → KeepsBut h ys → needs_meet xs p ys q ≡ false → inputs (mapped h buffers) xs ≡ inputs buffers xs
unfolding inputs
inputs-kept xs h ys p q buffers k m = inputs_from xs xs h ys p q buffers k m

pub whole-kept : (h : Cells) (ys : List Need) (p q r : ℕ) (x : Buffer) (buffers : List Buffer) → KeepsBut h ys → slice_get buffers r ≡ Some x → needs_meet (whole r x ∷ []) p ys q ≡ false → values_at (mapped h buffers) r ≡ values_at buffers r
whole-kept h ys p q r x buffers k g m =
    let here : values_at buffers r ≡ x.values = ap values_of g in
    values-mapped h buffers r ∙ ap (each_from (h r) 0) here
    ∙ each-same (h r) 0 x.values (λ i v a b. k.keeps r i v (not_written (whole r x) p q ys r i (in_need (whole r x) i a (omega arith)) (or_left (list_any (meets_one (whole r x) p q) ys) false m)))
    ∙ sym here

-- ---- buffers that are added

below_unwritten : (n : Need) (count i : ℕ) → nat_lt n.buffer count ≡ true → writes_at count i n ≡ false
unfolding has_cell
below_unwritten n count i h = grind (arith, nat_tests)

pub there_unwritten : (count : ℕ) (needs : List Need) (i : ℕ) → are_there count needs ≡ true → is_written needs count i ≡ false
unfolding is_written are_there
there_unwritten count [] i h = refl
there_unwritten count (n ∷ ns) i h =
    or_false (writes_at count i n) (list_any (writes_at count i) ns) (below_unwritten n count i (and_left (nat_lt n.buffer count) (are_there count ns) h))
    (there_unwritten count ns i (and_right (nat_lt n.buffer count) (are_there count ns) h))

-- elements of a buffer that is added are in no need of an entry that was there
pub mapped-append : (h : Cells) (needs : List Need) (buffers : List Buffer) (x : Buffer) → KeepsBut h needs → are_there (length buffers) needs ≡ true → mapped h (buffers ++ x ∷ []) ≡ mapped h buffers ++ x ∷ []
unfolding with_values
mapped-append h needs buffers x k there =
    let n = length buffers in
    each-append (buffer_by h) 0 buffers x
    ∙ ap (λ i. mapped h buffers ++ buffer_by h i x ∷ []) (let e : 0 + n ≡ n = omega arith in e)
    ∙ ap (λ l. mapped h buffers ++ with_values x l ∷ []) (each-same (h n) 0 x.values (λ i v a b. k.keeps n i v (there_unwritten n needs i there)))
