-- The linear ids of a range's items are the numbers below its count, in the items' order.
use Rattle.std.proofs.Common.{◌≡◌, ℕ, zero, suc, ◌+◌, ◌*◌, ◌/◌, ◌%◌, ◌<◌, ◌≤◌, ◌↔◌, List, [], ◌∷◌, inl, inr, refl, sym, ap, ◌∙◌, arith, mul-le-mul_right, div-lt_iff_lt-mul, mod-lt, div-add-mod'}
use Rattle.std.proofs.lemmas.Bool.{cases_order}
use Rattle.std.proofs.lemmas.Nat.{div-mul-add}
use Rattle.sy_range.specs.LinearIds.{product, linear_id, IsIn, IsBefore}

pub below_count : (i r : List ℕ) → IsIn i r → linear_id i r < product r
below_count [] [] h = omega arith
below_count [] (r ∷ rs) h = absurd h
below_count (i ∷ is) [] h = absurd h
below_count (i ∷ is) (r ∷ rs) h =
    let rows : (i + 1) * product rs ≤ r * product rs = mul-le-mul_right (product rs) (omega (arith, h.0)) in
    omega (arith, rows, below_count is rs h.1)

-- a row and a place in it are known by their number
same_row : (i j w a b : ℕ) → a < w → b < w → i * w + a ≡ j * w + b → i ≡ j
same_row i j w a b small_a small_b e = sym (div-mul-add i w a small_a) ∙ (ap (λ n. n / w) e ∙ div-mul-add j w b small_b)

same_place : (i j w a b : ℕ) → i ≡ j → i * w + a ≡ j * w + b → a ≡ b
same_place i j w a b row e = let rows : i * w ≡ j * w = ap (λ n. n * w) row in omega arith

cons_equal : (i j : ℕ) (is js : List ℕ) → i ≡ j → is ≡ js → i ∷ is ≡ j ∷ js
cons_equal i j is js first rest = cc

pub one_item : (i j r : List ℕ) → IsIn i r → IsIn j r → linear_id i r ≡ linear_id j r → i ≡ j
one_item [] [] [] h k e = refl
one_item [] (j ∷ js) [] h k e = absurd k
one_item (i ∷ is) js [] h k e = absurd h
one_item [] js (r ∷ rs) h k e = absurd h
one_item (i ∷ is) [] (r ∷ rs) h k e = absurd k
one_item (i ∷ is) (j ∷ js) (r ∷ rs) h k e =
    let row : i ≡ j = same_row i j (product rs) (linear_id is rs) (linear_id js rs) (below_count is rs h.1) (below_count js rs k.1) e in
    cons_equal i j is js row (one_item is js rs h.1 k.1 (same_place i j (product rs) (linear_id is rs) (linear_id js rs) row e))

-- a range with an item has items in the dimensions behind the first
some_behind : (k r w : ℕ) → k < r * w → 0 < w
some_behind k r zero h = absurd (omega arith)
some_behind k r (suc w) h = omega arith

pub item_at : (k : ℕ) (r : List ℕ) → k < product r → (i : List ℕ) × (IsIn i r × (linear_id i r ≡ k))
item_at k [] h = ([], (tt, omega arith))
item_at k (r ∷ rs) h =
    let some : 0 < product rs = some_behind k r (product rs) h in
    let rest = item_at (k % product rs) rs (mod-lt k some) in
    let row : k / product rs < r = (div-lt_iff_lt-mul some).1 h in
    (k / product rs ∷ rest.0, ((row, rest.1.0), ap (λ n. k / product rs * product rs + n) rest.1.1 ∙ div-add-mod' k (product rs)))

-- in an earlier row, and earlier in one row
row_before : (i j w a b : ℕ) → a < w → i < j → i * w + a < j * w + b
row_before i j w a b small h = let rows : (i + 1) * w ≤ j * w = mul-le-mul_right w (omega arith) in omega arith

place_before : (i j w a b : ℕ) → i ≡ j → a < b → i * w + a < j * w + b
place_before i j w a b row h = let rows : i * w ≡ j * w = ap (λ n. n * w) row in omega arith

place_from : (i j w a b : ℕ) → i ≡ j → i * w + a < j * w + b → a < b
place_from i j w a b row h = let rows : i * w ≡ j * w = ap (λ n. n * w) row in omega arith

no_items : (js : List ℕ) → IsIn js [] → linear_id [] [] < linear_id js [] → ⊥
no_items [] k l = omega arith
no_items (j ∷ js) k l = k

pub in_order : (i j r : List ℕ) → IsIn i r → IsIn j r → IsBefore i j ↔ (linear_id i r < linear_id j r)
in_order [] js [] h k = (λ b. absurd b, λ l. absurd (no_items js k l))
in_order (i ∷ is) js [] h k = absurd h
in_order [] js (r ∷ rs) h k = absurd h
in_order (i ∷ is) [] (r ∷ rs) h k = absurd k
in_order (i ∷ is) (j ∷ js) (r ∷ rs) h k =
    let rest = in_order is js rs h.1 k.1 in
    let a = below_count is rs h.1 in
    let b = below_count js rs k.1 in (
      λ before. elim before [
        | inl row ↦ row_before i j (product rs) (linear_id is rs) (linear_id js rs) a row
        | inr same ↦ place_before i j (product rs) (linear_id is rs) (linear_id js rs) same.0 (rest.0 same.1)
      ],
      λ less. elim (cases_order i j) [
        | inl row ↦ inr (row, rest.1 (place_from i j (product rs) (linear_id is rs) (linear_id js rs) row less))
        | inr other ↦ elim other [
          | inl row ↦ inl row
          | inr row ↦ absurd (omega (arith, row_before j i (product rs) (linear_id js rs) (linear_id is rs) b row, less))
        ]
      ],
    )
