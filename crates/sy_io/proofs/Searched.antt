-- A binary search among numbers in order finds exactly those that are there.
use Rattle.std.proofs.Common.{ℕ, ◌≤◌, ◌^◌, ◌↔◌, IsTrue, List, Result, Ok, Err, ◌∙◌, inl, inr, arith, rules}
use Rattle.std.specs.List.{Contains}
use Rattle.std.specs.List.Sorted.{IsBinarySearchResult, IsNonDecreasing}
use Rattle.std.specs.Ordering.{nat_cmp}
use Rattle.std.specs.Result.{is_ok}
use Rattle.std.proofs.lemmas.Bool.{cases_lt}
use Rattle.std.proofs.lemmas.Grind.{get_or_default_zero}
use Rattle.std.proofs.lemmas.List.Sorted.{searched}
use Rattle.sy_io.specs.Calls.{IsInOrder}

pub found_exactly : (xs : List ℕ) (x : ℕ) (r : Result ℕ ℕ) → IsBinarySearchResult (λ y. nat_cmp y x) xs r → IsNonDecreasing xs → IsTrue (is_ok r) ↔ Contains xs x
found_exactly xs x (Ok i) h up =
    let found = searched xs x (Ok i) h (λ i j le lt. up i j 0 le lt) in
    (λ _. (i, found.0, get_or_default_zero xs i x found.0 ∙ found.1), λ _. search rules)
found_exactly xs x (Err i) h up =
    let missing = searched xs x (Err i) h (λ i j le lt. up i j 0 le lt) in (
      λ no. cc,
      λ there.
          let same = get_or_default_zero xs there.0 x there.1 in
          elim (cases_lt there.0 i) as (λ _. IsTrue (is_ok {T = ℕ} {E = ℕ} (Err i))) [
            | inl below ↦ absurd (omega (arith, missing.1 there.0 below, same, there.2))
            | inr above ↦ absurd (omega (arith, missing.2 there.0 above there.1, same, there.2))
          ],
    )

-- a number past the counter is not there
pub none_unreachable : (xs : List ℕ) (x : ℕ) → IsInOrder xs → 2 ^ 64 ≤ x → Contains xs x → ⊥
none_unreachable xs x h past there = omega (arith, h.reachable there.0 x there.1, there.2)
