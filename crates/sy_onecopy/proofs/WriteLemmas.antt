-- Writes to different elements commute.
use Rattle.std.proofs.Common.{◌≡◌, ℕ, zero, suc, ℤ, List, [], ◌∷◌, Bool, true, false, refl, ap, ◌∙◌}
use Rattle.std.specs.Prelude.{if◌then◌else◌, unwrap_or}
use Rattle.sy_access.specs.declared.access.Need.{Need}
use Rattle.sy_access.specs.declared.cells.Cell.{Cell}
use Rattle.sy_access.specs.declared.cells.Cell.TheVariants as cell
use Rattle.sy_access.specs.Logs.{logged}
use Rattle.sy_onecopy.specs.declared.Buffer.{Buffer}
use Rattle.sy_needs.specs.Each.{each_from}
use Rattle.sy_onecopy.specs.Outcome.{buffer_after, buffers_after}
use Rattle.sy_needs.specs.Elements.{is_written, at_start, cell_after}
use Rattle.std.proofs.Common.{◌+◌, ◌-◌, ◌<◌, ◌≤◌, take, drop, map, arith}
use Rattle.std.specs.Prelude.{◌&&◌, ◌||◌}
use Rattle.std.specs.List.{list_any}
use Rattle.std.proofs.lemmas.Bool.Decides.{nat_tests}
use Rattle.sy_access.specs.Needs.{has_cell, conflict, is_apart, writes}
use Rattle.sy_needs.specs.Order.{meets_one}
use Rattle.sy_onecopy.specs.Outcome.{inputs, input, run_of, values_at}
use Rattle.sy_needs.specs.Elements.{writes_at}
use Rattle.sy_onecopy.specs.Laws.{WriteApart}
use Rattle.sy_needs.specs.Order.{needs_meet}

-- two functions of place and member that commute at each place
each_from-swap : {A : Type 0} (f g : ℕ → A → A) → ((i : ℕ) (x : A) → f i (g i x) ≡ g i (f i x)) → (k : ℕ) (xs : List A) → each_from f k (each_from g k xs) ≡ each_from g k (each_from f k xs)
each_from-swap f g h k [] = refl
each_from-swap f g h k (x ∷ xs) = ap (λ y. y ∷ each_from f (suc k) (each_from g (suc k) xs)) (h k x) ∙ ap (λ l. g k (f k x) ∷ l) (each_from-swap f g h (suc k) xs)

-- a choice of which at most one side is taken
choice-swap : (a b : Bool) (f g : ℤ → ℤ) (v : ℤ) → (a ≡ true → b ≡ false) → (if a then f (if b then g v else v) else (if b then g v else v)) ≡ (if b then g (if a then f v else v) else (if a then f v else v))
choice-swap true true f g v h = let z : true ≡ false = h refl in cc
choice-swap true false f g v h = refl
choice-swap false true f g v h = refl
choice-swap false false f g v h = refl

cell_after-swap : (xs ys : List Need) (u v : List (Cell × ℤ)) → WriteApart xs ys → (r i : ℕ) (x : ℤ) → cell_after xs u r i (cell_after ys v r i x) ≡ cell_after ys v r i (cell_after xs u r i x)
unfolding cell_after
cell_after-swap xs ys u v h r i x =
    choice-swap (is_written xs r i) (is_written ys r i) (λ y. unwrap_or (logged u (cell.Buffer r i)) (at_start xs r i y)) (λ y. unwrap_or (logged v (cell.Buffer r i)) (at_start ys r i y)) x (h r i)

with_values : Buffer → List ℤ → Buffer
with_values x l = record x { values = l }

buffer_after-swap : (xs ys : List Need) (u v : List (Cell × ℤ)) → WriteApart xs ys → (r : ℕ) (x : Buffer) → buffer_after xs u r (buffer_after ys v r x) ≡ buffer_after ys v r (buffer_after xs u r x)
unfolding buffer_after with_values
buffer_after-swap xs ys u v h r x =
    ap (with_values x) (each_from-swap (cell_after xs u r) (cell_after ys v r) (cell_after-swap xs ys u v h r) 0 x.values)

pub buffers_after-swap : (xs ys : List Need) (u v : List (Cell × ℤ)) (buffers : List Buffer) → WriteApart xs ys → buffers_after xs u (buffers_after ys v buffers) ≡ buffers_after ys v (buffers_after xs u buffers)
unfolding buffers_after
buffers_after-swap xs ys u v buffers h = each_from-swap (buffer_after xs u) (buffer_after ys v) (buffer_after-swap xs ys u v h) 0 buffers

or_left : (a b : Bool) → (a || b) ≡ false → a ≡ false
or_left false b h = refl
or_left true b h = h

or_right : (a b : Bool) → (a || b) ≡ false → b ≡ false
or_right false b h = h
or_right true b h = let z : true ≡ false = h in cc

-- a need that has the cell, and one that has it and writes, conflict
need_free : (a b : Need) (r i : ℕ) → has_cell a r i ≡ true → conflict a b ≡ false → writes_at r i b ≡ false
unfolding has_cell conflict
need_free a b r i h c = grind (arith, nat_tests)

need_free_by : (a b : Need) (r i : ℕ) → writes_at r i a ≡ true → conflict a b ≡ false → has_cell b r i ≡ false
unfolding has_cell conflict
need_free_by a b r i h c = grind (arith, nat_tests)

-- nothing that the need has is written by the others
free_of : (a : Need) (p q : ℕ) (ys : List Need) (r i : ℕ) → has_cell a r i ≡ true → list_any (meets_one a p q) ys ≡ false → list_any (writes_at r i) ys ≡ false
free_of a p q [] r i h m = refl
free_of a p q (y ∷ ys) r i h m =
    let c : conflict a y ≡ false = or_left (conflict a y) (is_apart a p y q) (or_left (meets_one a p q y) (list_any (meets_one a p q) ys) m) in
    ap (λ t. t || list_any (writes_at r i) ys) (need_free a y r i h c) ∙ free_of a p q ys r i h (or_right (meets_one a p q y) (list_any (meets_one a p q) ys) m)

and_first : (a b : Bool) → (a && b) ≡ true → a ≡ true
and_first true b h = refl
and_first false b h = h

first_or_rest : (x : Need) (p q : ℕ) (ys : List Need) (r i : ℕ) (rest : Bool) → list_any (meets_one x p q) ys ≡ false → (rest ≡ true → list_any (writes_at r i) ys ≡ false) → (t : Bool) → writes_at r i x ≡ t → (t || rest) ≡ true → list_any (writes_at r i) ys ≡ false
first_or_rest x p q ys r i rest m more true e k = free_of x p q ys r i (and_first (has_cell x r i) (writes x.mode) e) m
first_or_rest x p q ys r i rest m more false e k = more k

apart_from : (xs : List Need) (p q : ℕ) (ys : List Need) (r i : ℕ) → needs_meet xs p ys q ≡ false → list_any (writes_at r i) xs ≡ true → list_any (writes_at r i) ys ≡ false
apart_from [] p q ys r i m h = let z : false ≡ true = h in cc
apart_from (x ∷ xs) p q ys r i m h =
    first_or_rest x p q ys r i (list_any (writes_at r i) xs) (or_left (list_any (meets_one x p q) ys) (needs_meet xs p ys q) m)
    (apart_from xs p q ys r i (or_right (list_any (meets_one x p q) ys) (needs_meet xs p ys q) m)) (writes_at r i x) refl h

pub write_apart : (xs ys : List Need) (p q : ℕ) → needs_meet xs p ys q ≡ false → WriteApart xs ys
unfolding is_written
write_apart xs ys p q m r i h = apart_from xs p q ys r i m h

each_from-drop : {A : Type 0} (f : ℕ → A → A) (k m : ℕ) (xs : List A) → drop m (each_from f k xs) ≡ each_from f (k + m) (drop m xs)
each_from-drop f k zero xs = ap (λ j. each_from f j xs) (let e : k ≡ k + 0 = omega arith in e)
each_from-drop f k (suc m) [] = refl
each_from-drop f k (suc m) (x ∷ xs) = each_from-drop f (suc k) m xs ∙ ap (λ j. each_from f j (drop m xs)) (let e : suc k + m ≡ k + suc m = omega arith in e)

each_from-fixed : {A : Type 0} (f : ℕ → A → A) (k n : ℕ) (xs : List A) → ((i : ℕ) (x : A) → k ≤ i → i < k + n → f i x ≡ x) → take n (each_from f k xs) ≡ take n xs
each_from-fixed f k zero xs h = refl
each_from-fixed f k (suc n) [] h = refl
each_from-fixed f k (suc n) (x ∷ xs) h =
    ap (λ y. y ∷ take n (each_from f (suc k) xs)) (h k x (omega arith) (omega arith))
    ∙ ap (λ l. x ∷ l) (each_from-fixed f (suc k) n xs (λ i y a b. h i y (omega arith) (omega arith)))

run_of-fixed : (f : ℕ → ℤ → ℤ) (from to : ℕ) (xs : List ℤ) → ((i : ℕ) (x : ℤ) → from ≤ i → i < to → f i x ≡ x) → run_of (each_from f 0 xs) from to ≡ run_of xs from to
unfolding run_of
run_of-fixed f from to xs h =
    ap (take (to - from)) (each_from-drop f 0 from xs ∙ ap (λ j. each_from f j (drop from xs)) (let e : 0 + from ≡ from = omega arith in e))
    ∙ each_from-fixed f from (to - from) (drop from xs) (λ i x a b. h i x a (omega arith))

values_at-after : (ys : List Need) (v : List (Cell × ℤ)) (k : ℕ) (buffers : List Buffer) (r : ℕ) → values_at (each_from (buffer_after ys v) k buffers) r ≡ each_from (cell_after ys v (k + r)) 0 (values_at buffers r)
unfolding buffer_after
values_at-after ys v k [] r = refl
values_at-after ys v k (x ∷ xs) zero = ap (λ j. each_from (cell_after ys v j) 0 x.values) (let e : k ≡ k + 0 = omega arith in e)
values_at-after ys v k (x ∷ xs) (suc r) = values_at-after ys v (suc k) xs r ∙ ap (λ j. each_from (cell_after ys v j) 0 (values_at xs r)) (let e : suc k + r ≡ k + suc r = omega arith in e)

in_need : (n : Need) (i : ℕ) → n.from ≤ i → i < n.to → has_cell n n.buffer i ≡ true
unfolding has_cell
in_need n i a b = grind (arith, nat_tests)

cell_kept : (ys : List Need) (v : List (Cell × ℤ)) (r i : ℕ) (x : ℤ) → list_any (writes_at r i) ys ≡ false → cell_after ys v r i x ≡ x
unfolding cell_after is_written
cell_kept ys v r i x h = ap (λ t. if t then unwrap_or (logged v (cell.Buffer r i)) (at_start ys r i x) else x) h

values_same : (n : Need) (ys : List Need) (p q : ℕ) (v : List (Cell × ℤ)) (buffers : List Buffer) → list_any (meets_one n p q) ys ≡ false → run_of (values_at (buffers_after ys v buffers) n.buffer) n.from n.to ≡ run_of (values_at buffers n.buffer) n.from n.to
unfolding buffers_after
values_same n ys p q v buffers m =
    ap (λ l. run_of l n.from n.to) (values_at-after ys v 0 buffers n.buffer ∙ ap (λ j. each_from (cell_after ys v j) 0 (values_at buffers n.buffer)) (let e : 0 + n.buffer ≡ n.buffer = omega arith in e))
    ∙ run_of-fixed (cell_after ys v n.buffer) n.from n.to (values_at buffers n.buffer) (λ i x a b. cell_kept ys v n.buffer i x (free_of n p q ys n.buffer i (in_need n i a b) m))

inputs_of : (all : List Need) (xs : List Need) (p q : ℕ) (ys : List Need) (v : List (Cell × ℤ)) (buffers : List Buffer) → needs_meet xs p ys q ≡ false → map (input (buffers_after ys v buffers) all) xs ≡ map (input buffers all) xs
unfolding input
inputs_of all [] p q ys v buffers m = refl
inputs_of all (x ∷ xs) p q ys v buffers m =
    ap (λ l. (x.buffer, x.from, each_from (at_start all x.buffer) x.from l) ∷ map (input (buffers_after ys v buffers) all) xs) (values_same x ys p q v buffers (or_left (list_any (meets_one x p q) ys) (needs_meet xs p ys q) m))
    ∙ ap (λ l. input buffers all x ∷ l) (inputs_of all xs p q ys v buffers (or_right (list_any (meets_one x p q) ys) (needs_meet xs p ys q) m))

pub inputs-same : (xs ys : List Need) (p q : ℕ) (v : List (Cell × ℤ)) (buffers : List Buffer) → needs_meet xs p ys q ≡ false → inputs (buffers_after ys v buffers) xs ≡ inputs buffers xs
unfolding inputs
inputs-same xs ys p q v buffers m = inputs_of xs xs p q ys v buffers m

pub outcomes-swap : (xs ys : List Need) (p q : ℕ) (u v : List (Cell × ℤ)) (buffers : List Buffer) → needs_meet xs p ys q ≡ false → buffers_after xs u (buffers_after ys v buffers) ≡ buffers_after ys v (buffers_after xs u buffers)
outcomes-swap xs ys p q u v buffers m = buffers_after-swap xs ys u v buffers (write_apart xs ys p q m)
