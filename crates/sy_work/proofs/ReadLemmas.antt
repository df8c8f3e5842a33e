-- What was written to successive elements is read back from them.
use Rattle.std.proofs.Common.{◌≡◌, ◌≢◌, ℕ, ℤ, suc, ◌+◌, ◌-◌, ◌<◌, ◌≤◌, Bool, true, false, cond, ◌&&◌, ◌==◌, leb, List, [], ◌∷◌, Option, Some, None, inl, inr, refl, sym, ap, ◌∙◌, subst, eqb, arith}
use Rattle.std.specs.Prelude.{IsTrue, slice_get}
use Rattle.std.proofs.lemmas.Bool.{and_from, and_left, and_right, eqb-true, eq-eqb, ne_eqb, le-leb, lt-leb, cases_Bool, cases_order, cond-true, cond-false}
use Rattle.sy_access.specs.declared.cells.Cell.{Cell}
use Rattle.sy_access.specs.declared.cells.Cell.TheVariants.{Buffer}
use Rattle.sy_access.specs.Logs.{same_cell, logged}
use Rattle.sy_work.specs.Programs.{Input}
use Rattle.sy_work.specs.Inputs.{number_in}
use Rattle.sy_work.specs.Moves.{writes_from}

same_number : (root e r i : ℕ) → IsTrue (root == r) → e ≡ i → IsTrue (same_cell (Buffer root e) (Buffer r i))
unfolding same_cell
same_number root e r i one same = and_from _ _ one (eq-eqb e i same)

other_number : (root e r i : ℕ) → (e ≡ i → ⊥) → same_cell (Buffer root e) (Buffer r i) ≡ false
unfolding same_cell
other_number root e r i differ = and_right (root == r) _ (ne_eqb e i differ)

other_root : (root e r i : ℕ) → (root == r) ≡ false → same_cell (Buffer root e) (Buffer r i) ≡ false
unfolding same_cell
other_root root e r i differ = and_left (root == r) _ differ

number_at : (root from : ℕ) (values : List ℤ) (r e : ℕ) → IsTrue (root == r) → from ≤ e → number_in (root, from, values) r e ≡ slice_get values (e - from)
number_at root from values r e one reached = cond-true (root == r && leb from e) (slice_get values (e - from)) None (and_from _ _ one (le-leb from e reached))

number_before : (root from : ℕ) (values : List ℤ) (r e : ℕ) → e < from → number_in (root, from, values) r e ≡ None
number_before root from values r e before = cond-false (root == r && leb from e) (slice_get values (e - from)) None (and_right (root == r) _ (lt-leb from e before))

number_elsewhere : (root from : ℕ) (values : List ℤ) (r e : ℕ) → (root == r) ≡ false → number_in (root, from, values) r e ≡ None
number_elsewhere root from values r e differ = cond-false (root == r && leb from e) (slice_get values (e - from)) None (and_left (root == r) _ differ)

none_either : (b : Bool) → let none : Option ℤ = None in cond b none none ≡ none
none_either true = refl
none_either false = refl

-- the first write is of another cell
passed : (root from : ℕ) (v : ℤ) (values : List ℤ) (r e : ℕ) → same_cell (Buffer root from) (Buffer r e) ≡ false → logged (writes_from root from (v ∷ values)) (Buffer r e) ≡ logged (writes_from root (from + 1) values) (Buffer r e)
passed root from v values r e other = cond-false (same_cell (Buffer root from) (Buffer r e)) (Some v) (logged (writes_from root (from + 1) values) (Buffer r e)) other

first_read : (root from : ℕ) (v : ℤ) (values : List ℤ) (r e : ℕ) → IsTrue (root == r) → from ≡ e → logged (writes_from root from (v ∷ values)) (Buffer r e) ≡ number_in (root, from, v ∷ values) r e
first_read root from v values r e one here =
    let zero_behind : 0 ≡ e - from = omega arith in
    cond-true (same_cell (Buffer root from) (Buffer r e)) (Some v) (logged (writes_from root (from + 1) values) (Buffer r e)) (same_number root from r e one here)
    ∙ (ap (slice_get (v ∷ values)) zero_behind ∙ sym (number_at root from (v ∷ values) r e one (omega arith)))

later_read : (root from : ℕ) (v : ℤ) (values : List ℤ) (r e : ℕ) → IsTrue (root == r) → from < e → number_in (root, from + 1, values) r e ≡ number_in (root, from, v ∷ values) r e
later_read root from v values r e one later =
    let one_behind : suc (e - (from + 1)) ≡ e - from = omega arith in
    number_at root (from + 1) values r e one (omega arith) ∙ (ap (slice_get (v ∷ values)) one_behind ∙ sym (number_at root from (v ∷ values) r e one (omega arith)))

pub read_back : (root from : ℕ) (values : List ℤ) (r e : ℕ) → logged (writes_from root from values) (Buffer r e) ≡ number_in (root, from, values) r e
read_back root from [] r e = sym (none_either (root == r && leb from e))
read_back root from (v ∷ values) r e =
    let rest = read_back root (from + 1) values r e in
    elim (cases_Bool (root == r)) [
      | inl one ↦ elim (cases_order from e) [
        | inl here ↦ first_read root from v values r e one here
        | inr apart ↦ elim apart [
          | inl later ↦ passed root from v values r e (other_number root from r e (λ same. omega arith)) ∙ (rest ∙ later_read root from v values r e one later)
          | inr before ↦ passed root from v values r e (other_number root from r e (λ same. omega arith)) ∙ (rest ∙ (number_before root (from + 1) values r e (omega arith) ∙ sym (number_before root from (v ∷ values) r e before)))
        ]
      ]
      | inr differ ↦ passed root from v values r e (other_root root from r e differ) ∙ (rest ∙ (number_elsewhere root (from + 1) values r e differ ∙ sym (number_elsewhere root from (v ∷ values) r e differ)))
    ]
