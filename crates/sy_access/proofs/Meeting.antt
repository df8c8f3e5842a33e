-- What it means that needs conflict, and that meeting goes both ways.
use Rattle.std.proofs.Common.{◌≡◌, ℕ, ◌<◌, ◌≤◌, Bool, true, false, not, ◌&&◌, ◌||◌, ◌⊎◌, eqb, ltb, leb, inl, inr, refl, ap, arith}
use Rattle.std.specs.Prelude.{IsTrue}
use Rattle.std.proofs.lemmas.Bool.{and_parts, and_from, leb-true, leb-false, ltb-true, eqb-true, le-leb, lt-ltb, eq-eqb, cases_lt, cases_Bool}
use Rattle.std.proofs.lemmas.Bool.Decides.{nat_tests}
use Rattle.sy_access.specs.declared.access.Need.{Need}
use Rattle.sy_access.specs.Needs.{writes, one_writes, shares, is_empty, has_cell, conflict, is_apart}

or_from_left : (x y : Bool) → x ≡ true → (x || y) ≡ true
or_from_left x y e = grind arith

or_from_right : (x y : Bool) → y ≡ true → (x || y) ≡ true
or_from_right true y e = refl
or_from_right false y e = e

or_comm : (x y : Bool) → (x || y) ≡ (y || x)
or_comm true true = refl
or_comm true false = refl
or_comm false true = refl
or_comm false false = refl

and_comm : (x y : Bool) → (x && y) ≡ (y && x)
and_comm true true = refl
and_comm true false = refl
and_comm false true = refl
and_comm false false = refl

ap₃_and : {x y z x' y' z' : Bool} → x ≡ x' → y ≡ y' → z ≡ z' → (x && (y && z)) ≡ (x' && (y' && z'))
ap₃_and first second third = cc

eqb_comm : (m n : ℕ) → eqb m n ≡ eqb n m
eqb_comm m n = grind (arith, nat_tests)

has_from : (n : Need) (i : ℕ) → n.from ≤ i → i < n.to → IsTrue (has_cell n n.buffer i)
unfolding has_cell
has_from n i low high = and_from _ _ (eq-eqb _ _ refl) (and_from _ _ (le-leb _ _ low) (lt-ltb _ _ high))

has_low : (n : Need) (i : ℕ) → IsTrue (has_cell n n.buffer i) → n.from ≤ i
unfolding has_cell
has_low n i h = leb-true _ _ (and_parts _ _ (and_parts (eqb n.buffer n.buffer) _ h).1).0

has_high : (n : Need) (i : ℕ) → IsTrue (has_cell n n.buffer i) → i < n.to
unfolding has_cell
has_high n i h = ltb-true _ _ (and_parts (leb n.from i) _ (and_parts (eqb n.buffer n.buffer) _ h).1).1

overlap : (a b : Need) → a.from < a.to → b.from < b.to → a.from < b.to → b.from < a.to → (i : ℕ) × (IsTrue (has_cell a a.buffer i) × IsTrue (has_cell b b.buffer i))
overlap a b la lb ab ba =
    elim (cases_lt a.from b.from) [
      | inl low ↦ (b.from, (has_from a b.from (omega arith) ba, has_from b b.from (omega arith) lb))
      | inr low ↦ (a.from, (has_from a a.from (omega arith) la, has_from b a.from low ab))
    ]

ends_cross : (a b : Need) → IsTrue (shares a b) → leb a.to a.from ≡ false → leb b.to b.from ≡ false → (a.from < b.to) × (b.from < a.to)
ends_cross a b h full_a full_b = grind (arith, nat_tests)

sharing : (a b : Need) → IsTrue (shares a b) → IsTrue (is_empty a) ⊎ (IsTrue (is_empty b) ⊎ ((i : ℕ) × (IsTrue (has_cell a a.buffer i) × IsTrue (has_cell b b.buffer i))))
sharing a b h =
    elim (cases_Bool (leb a.to a.from)) [
      | inl void ↦ inl void
      | inr full_a ↦ elim (cases_Bool (leb b.to b.from)) [
        | inl void ↦ inr (inl void)
        | inr full_b ↦ let cross = ends_cross a b h full_a full_b in inr (inr (overlap a b (leb-false _ _ full_a) (leb-false _ _ full_b) cross.0 cross.1))
      ]
    ]

pub conflict_tells : (a b : Need) → IsTrue (conflict a b) → (a.buffer ≡ b.buffer) × (IsTrue (is_empty a) ⊎ (IsTrue (is_empty b) ⊎ ((i : ℕ) × (IsTrue (has_cell a a.buffer i) × IsTrue (has_cell b b.buffer i))))) × IsTrue (one_writes a b)
unfolding conflict
conflict_tells a b h =
    let rest = and_parts (eqb a.buffer b.buffer) _ h in
    let parts = and_parts (shares a b) _ rest.1 in
    (eqb-true _ _ rest.0, sharing a b parts.0, parts.1)

conflict_from : (a b : Need) → a.buffer ≡ b.buffer → IsTrue (shares a b) → IsTrue (one_writes a b) → IsTrue (conflict a b)
unfolding conflict
conflict_from a b root shared one = and_from _ _ (eq-eqb _ _ root) (and_from _ _ shared one)

pub conflict_at : (a b : Need) (i : ℕ) → a.buffer ≡ b.buffer → IsTrue (has_cell a a.buffer i) → IsTrue (has_cell b b.buffer i) → IsTrue (one_writes a b) → IsTrue (conflict a b)
conflict_at a b i root in_a in_b one =
    let low : a.from < b.to = omega (arith, has_low a i in_a, has_high b i in_b) in
    let high : b.from < a.to = omega (arith, has_low b i in_b, has_high a i in_a) in
    let crossed : IsTrue (ltb a.from b.to && ltb b.from a.to) = and_from _ _ (lt-ltb _ _ low) (lt-ltb _ _ high) in
    conflict_from a b root (or_from_right (leb a.to a.from) _ (or_from_right (leb b.to b.from) _ crossed)) one

pub conflict_void : (a b : Need) → a.buffer ≡ b.buffer → IsTrue (is_empty a) ⊎ IsTrue (is_empty b) → IsTrue (one_writes a b) → IsTrue (conflict a b)
conflict_void a b root (inl void) one = conflict_from a b root (or_from_left _ _ void) one
conflict_void a b root (inr void) one = conflict_from a b root (or_from_right (leb a.to a.from) _ (or_from_left _ _ void)) one

one_writes_comm : (a b : Need) → one_writes a b ≡ one_writes b a
one_writes_comm a b = or_comm (writes a.mode) (writes b.mode)

or_swap : (x y z w : Bool) → (x || (y || (z && w))) ≡ (y || (x || (w && z)))
or_swap true true z w = refl
or_swap true false z w = refl
or_swap false true z w = refl
or_swap false false z w = and_comm z w

pub conflict_comm : (a b : Need) → conflict a b ≡ conflict b a
unfolding conflict
conflict_comm a b = ap₃_and (eqb_comm a.buffer b.buffer) (or_swap (leb a.to a.from) (leb b.to b.from) (ltb a.from b.to) (ltb b.from a.to)) (one_writes_comm a b)

pub is_apart_comm : (a b : Need) (p q : ℕ) → is_apart a p b q ≡ is_apart b q a p
unfolding is_apart
is_apart_comm a b p q = ap₃_and (eqb_comm a.buffer b.buffer) (ap not (eqb_comm p q)) (one_writes_comm a b)
