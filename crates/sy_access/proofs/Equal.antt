-- The equal parts of a device lie in it.
use Rattle.std.proofs.Common.{◌≡◌, ℕ, ◌+◌, ◌-◌, ◌*◌, ◌/◌, ◌<◌, ◌≤◌, Bool, true, false, ◌||◌, ◌==◌, leb, ◌⊎◌, ◌↔◌, List, [], ◌∷◌, ◌++◌, map, inl, inr, refl, sym, ap, ◌∙◌, subst, All, arith}
use Rattle.std.specs.Prelude.{IsTrue}
use Rattle.std.specs.List.{range_with_len}
use Rattle.std.proofs.lemmas.Bool.{and_parts, or_cases, and_from, leb-true, ltb-true, eqb-true, le-leb, lt-ltb, eq-eqb, cases_eq}
use Rattle.std.proofs.lemmas.List.Elements.{All-map, All-from_get_or, All-same}
use Rattle.std.proofs.lemmas.List.FromFn.{length-range_with_len, get_or-range_with_len, map-range_with_len_more}
use Rattle.std.proofs.Math.Nat.{mul-le-mul_right, div-mul-le_self}
use Rattle.sy_access.specs.declared.devices.Device.{Device}
use Rattle.sy_access.specs.Devices.{has_unit, is_part, part_at, parts}

or_right : (x y : Bool) → y ≡ true → (x || y) ≡ true
or_right true y e = refl
or_right false y e = e

or_left : (x y : Bool) → x ≡ true → (x || y) ≡ true
or_left x y e = grind arith

part_by_ends : (d whole : Device) → whole.first ≤ d.first → d.first + d.units ≤ whole.first + whole.units → IsTrue (is_part d whole)
unfolding is_part
part_by_ends d whole low high = or_right (d.units == 0) _ (and_from _ _ (le-leb _ _ low) (le-leb _ _ high))

part_void : (d whole : Device) → d.units ≡ 0 → IsTrue (is_part d whole)
unfolding is_part
part_void d whole e = or_left _ _ (eq-eqb _ _ e)

part_tells : (d whole : Device) → IsTrue (is_part d whole) → (d.units ≡ 0) ⊎ ((whole.first ≤ d.first) × (d.first + d.units ≤ whole.first + whole.units))
unfolding is_part
part_tells d whole h =
    elim (or_cases (d.units == 0) _ h) [
      | inl none ↦ inl (eqb-true _ _ none)
      | inr ends ↦ let p = and_parts (leb whole.first d.first) _ ends in inr (leb-true _ _ p.0, leb-true _ _ p.1)
    ]

unit_from : (d : Device) (k : ℕ) → d.first ≤ k → k < d.first + d.units → IsTrue (has_unit d k)
unit_from d k low high = and_from _ _ (le-leb _ _ low) (lt-ltb _ _ high)

unit_tells : (d : Device) (k : ℕ) → IsTrue (has_unit d k) → (d.first ≤ k) × (k < d.first + d.units)
unit_tells d k h = let p = and_parts (leb d.first k) _ h in (leb-true _ _ p.0, ltb-true _ _ p.1)

units_of_part : (d whole : Device) → IsTrue (is_part d whole) → (k : ℕ) → IsTrue (has_unit d k) → IsTrue (has_unit whole k)
units_of_part d whole h k u =
    let at = unit_tells d k u in
    elim (part_tells d whole h) [
      | inl none ↦ absurd (omega arith)
      | inr ends ↦ unit_from whole k (omega arith) (omega arith)
    ]

part_by_units : (d whole : Device) → ((k : ℕ) → IsTrue (has_unit d k) → IsTrue (has_unit whole k)) → IsTrue (is_part d whole)
part_by_units d whole f =
    elim (cases_eq d.units 0) [
      | inl none ↦ part_void d whole none
      | inr some ↦
          let low = unit_tells whole d.first (f d.first (unit_from d d.first (omega arith) (omega arith))) in
          let high = unit_tells whole (d.first + d.units - 1) (f (d.first + d.units - 1) (unit_from d (d.first + d.units - 1) (omega arith) (omega arith))) in
          part_by_ends d whole (omega arith) (omega arith)
    ]

pub part_is_units : (d whole : Device) → IsTrue (is_part d whole) ↔ ((k : ℕ) → IsTrue (has_unit d k) → IsTrue (has_unit whole k))
part_is_units d whole = (units_of_part d whole, part_by_units d whole)

part_within : (d : Device) (n k : ℕ) → k < d.units / n → IsTrue (is_part (part_at d n k) d)
part_within d n k h =
    let room : (k + 1) * n ≤ d.units / n * n = mul-le-mul_right n (omega arith) in
    part_by_ends (part_at d n k) d (omega arith) (omega (arith, div-mul-le_self d.units n))

pub parts_within : (d : Device) (n : ℕ) → All (λ p. IsTrue (is_part p d)) (parts d n)
unfolding parts
parts_within d n =
    All-map (λ p. IsTrue (is_part p d)) (part_at d n) (range_with_len 0 (d.units / n))
    (All-from_get_or (λ k. IsTrue (is_part (part_at d n k) d)) (range_with_len 0 (d.units / n)) 0
    (λ i h. let short : i < d.units / n = subst (λ (m : ℕ). i < m) (length-range_with_len 0 (d.units / n)) h in
    let P : ℕ → Type 0 = λ k. IsTrue (is_part (part_at d n k) d) in
    subst P (sym (get_or-range_with_len 0 (d.units / n) i 0 short)) (part_within d n (0 + i) (omega arith))))

pub one_more : (d : Device) (n k : ℕ) (xs ys : List Device) → xs ≡ map (part_at d n) (range_with_len 0 k) → ys ≡ xs ++ part_at d n k ∷ [] → ys ≡ map (part_at d n) (range_with_len 0 (k + 1))
one_more d n k xs ys so_far pushed = pushed ∙ ap (λ (zs : List Device). zs ++ part_at d n k ∷ []) so_far ∙ sym (map-range_with_len_more (part_at d n) 0 k k (omega arith))

pub all_parts : (d : Device) (n k : ℕ) (xs : List Device) → xs ≡ map (part_at d n) (range_with_len 0 k) → k ≡ d.units / n → xs ≡ parts d n
unfolding parts
all_parts d n k xs made end = made ∙ ap (λ (m : ℕ). map (part_at d n) (range_with_len 0 m)) end

pub within_all : (d : Device) (n : ℕ) (xs : List Device) → xs ≡ parts d n → All (λ p. IsTrue (is_part p d)) xs
within_all d n xs e = All-same (λ p. IsTrue (is_part p d)) xs (parts d n) e (parts_within d n)
