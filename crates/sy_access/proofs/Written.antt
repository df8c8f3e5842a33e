-- Cells are told apart by `same_cell`, and a log in which no cell is named twice is a map.
use Rattle.std.proofs.Common.{◌≡◌, ℕ, ℤ, Bool, true, false, not, ◌&&◌, ◌||◌, ◌==◌, ◌⊎◌, ◌↔◌, List, [], ◌∷◌, Some, None, Contains, inl, inr, refl, sym, ap, ◌∙◌, subst, arith}
use Rattle.std.specs.Prelude.{IsTrue}
use Rattle.std.proofs.lemmas.Bool.{and_parts, and_from, eqb-true, eq-eqb, cases_Bool, not-true, both_ways, cond-true, cond-false}
use Rattle.std.proofs.lemmas.List.Elements.{Contains-append_left, Contains-append_right, Contains-append_cases, Contains-push, Contains-push_cases}
use Rattle.sy_access.specs.declared.cells.Cell.{Cell}
use Rattle.sy_access.specs.declared.cells.Cell.TheVariants.{Buffer, Local}
use Rattle.sy_access.specs.Logs.{same_cell, logged, is_logged, differ}

pair_equal : (r i s j : ℕ) (f : ℕ → ℕ → Cell) → (eqb_and : IsTrue ((r == s) && (i == j))) → f r i ≡ f s j
pair_equal r i s j f h = let p = and_parts (r == s) _ h in let first : r ≡ s = eqb-true _ _ p.0 in let second : i ≡ j = eqb-true _ _ p.1 in cc

pub equal_from_same : (a b : Cell) → IsTrue (same_cell a b) → a ≡ b
unfolding same_cell
equal_from_same (Buffer r i) (Buffer s j) h = pair_equal r i s j Buffer h
equal_from_same (Local r i) (Local s j) h = pair_equal r i s j Local h
equal_from_same (Buffer r i) (Local s j) h = cc
equal_from_same (Local r i) (Buffer s j) h = cc

pub same_itself : (a : Cell) → IsTrue (same_cell a a)
unfolding same_cell
same_itself (Buffer r i) = and_from _ _ (eq-eqb r r refl) (eq-eqb i i refl)
same_itself (Local r i) = and_from _ _ (eq-eqb r r refl) (eq-eqb i i refl)

pub same_decides : (a b : Cell) → IsTrue (same_cell a b) ↔ (a ≡ b)
same_decides a b = (equal_from_same a b, λ e. let P : Cell → Type 0 = λ x. IsTrue (same_cell a x) in subst P e (same_itself a))

or_left : (x y : Bool) → x ≡ true → (x || y) ≡ true
or_left true y e = refl
or_left false y e = cc

or_right : (x y : Bool) → y ≡ true → (x || y) ≡ true
or_right true y e = refl
or_right false y e = e

whole_pair : (w : Cell × ℤ) (c : Cell) (v : ℤ) → w.0 ≡ c → w.1 ≡ v → w ≡ (c, v)
whole_pair w c v cell number = ap (λ (x : Cell). let p : Cell × ℤ = (x, w.1) in p) cell ∙ ap (λ (x : ℤ). let p : Cell × ℤ = (c, x) in p) number

first_of_pair : (w : Cell × ℤ) (c : Cell) (v : ℤ) → w ≡ (c, v) → w.0 ≡ c
first_of_pair w c v e = ap (λ (x : Cell × ℤ). x.0) e

second_of_pair : (w : Cell × ℤ) (c : Cell) (v : ℤ) → w ≡ (c, v) → w.1 ≡ v
second_of_pair w c v e = ap (λ (x : Cell × ℤ). x.1) e

-- what a list of one more pair contains
cons_cases : (w : Cell × ℤ) (ws : List (Cell × ℤ)) (c : Cell) (v : ℤ) → Contains (w ∷ ws) (c, v) → (w ≡ (c, v)) ⊎ Contains ws (c, v)
cons_cases w ws c v h =
    elim (Contains-append_cases (w ∷ []) ws (c, v) h) [
      | inl first ↦ elim (Contains-push_cases [] w (c, v) first) [
        | inl none ↦ absurd (omega (arith, none.1))
        | inr e ↦ inl e
      ]
      | inr rest ↦ inr rest
    ]

first_contained : (w : Cell × ℤ) (ws : List (Cell × ℤ)) (c : Cell) (v : ℤ) → w ≡ (c, v) → Contains (w ∷ ws) (c, v)
first_contained w ws c v e = let P : (Cell × ℤ) → Type 0 = λ x. Contains (w ∷ ws) x in subst P e (Contains-append_left (w ∷ []) ws w (Contains-push [] w))

is_logged-contained : (ws : List (Cell × ℤ)) (c : Cell) (v : ℤ) → Contains ws (c, v) → IsTrue (is_logged ws c)
is_logged-contained [] c v h = absurd (omega (arith, h.1))
is_logged-contained (w ∷ ws) c v h =
    elim (cons_cases w ws c v h) [
      | inl e ↦ or_left (same_cell w.0 c) (is_logged ws c) (let P : Cell → Type 0 = λ x. IsTrue (same_cell w.0 x) in subst P (first_of_pair w c v e) (same_itself w.0))
      | inr rest ↦ or_right (same_cell w.0 c) (is_logged ws c) (is_logged-contained ws c v rest)
    ]

some_equal : (x y : ℤ) → Some x ≡ Some y → x ≡ y
some_equal x y e = cc

none_some : (v : ℤ) → (None ≡ Some v) → ⊥
none_some v e = cc

-- the head of the list has the cell, and so nothing behind it
at_head : (w : Cell × ℤ) (ws : List (Cell × ℤ)) (c : Cell) (v : ℤ) → IsTrue (differ (w ∷ ws)) → w.0 ≡ c → (logged (w ∷ ws) c ≡ Some v) ↔ Contains (w ∷ ws) (c, v)
at_head w ws c v apart here =
    let found : logged (w ∷ ws) c ≡ Some w.1 = cond-true (same_cell w.0 c) (Some w.1) (logged ws c) (let P : Cell → Type 0 = λ x. IsTrue (same_cell w.0 x) in subst P here (same_itself w.0)) in
    let absent : is_logged ws w.0 ≡ false = not-true _ (and_parts (not (is_logged ws w.0)) _ apart).0 in (
      λ e. first_contained w ws c v (whole_pair w c v here (some_equal w.1 v (sym found ∙ e))),
      λ h. elim (cons_cases w ws c v h) [
        | inl e ↦ found ∙ ap Some (second_of_pair w c v e)
        | inr rest ↦ absurd (both_ways (is_logged ws w.0) absent (let P : Cell → Type 0 = λ x. IsTrue (is_logged ws x) in subst P (sym here) (is_logged-contained ws c v rest)))
      ],
    )

-- the head of the list has another cell
past_head : (w : Cell × ℤ) (ws : List (Cell × ℤ)) (c : Cell) (v : ℤ) → same_cell w.0 c ≡ false → (logged ws c ≡ Some v) ↔ Contains ws (c, v) → (logged (w ∷ ws) c ≡ Some v) ↔ Contains (w ∷ ws) (c, v)
past_head w ws c v other rest =
    let passed : logged (w ∷ ws) c ≡ logged ws c = cond-false (same_cell w.0 c) (Some w.1) (logged ws c) other in (
      λ e. Contains-append_right (w ∷ []) ws (c, v) (rest.0 (sym passed ∙ e)),
      λ h. elim (cons_cases w ws c v h) [
        | inl e ↦ absurd (both_ways (same_cell w.0 c) other (let P : Cell → Type 0 = λ x. IsTrue (same_cell w.0 x) in subst P (first_of_pair w c v e) (same_itself w.0)))
        | inr at ↦ passed ∙ rest.1 at
      ],
    )

pub logged_tells : (log : List (Cell × ℤ)) (c : Cell) (v : ℤ) → IsTrue (differ log) → (logged log c ≡ Some v) ↔ Contains log (c, v)
logged_tells [] c v apart = (λ e. absurd (none_some v e), λ h. absurd (omega (arith, h.1)))
logged_tells (w ∷ ws) c v apart =
    elim (cases_Bool (same_cell w.0 c)) [
      | inl here ↦ at_head w ws c v apart (equal_from_same w.0 c here)
      | inr other ↦ past_head w ws c v other (logged_tells ws c v (and_parts (not (is_logged ws w.0)) _ apart).1)
    ]
