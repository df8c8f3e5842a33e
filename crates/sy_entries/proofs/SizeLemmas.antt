-- The count of live elements fits its type.
use Rattle.std.proofs.Common.{◌≡◌, ℕ, ◌*◌, ◌<◌, ◌≤◌, ◌^◌, List, length, Bool, true, false, arith}
use Rattle.std.specs.Prelude.{if◌then◌else◌, sum_by}
use Rattle.std.proofs.lemmas.List.Sums.{sum_by-le}
use Rattle.sy_onecopy.specs.declared.Buffer.{Buffer}
use Rattle.sy_onecopy.specs.Step.{live_elements}
use Rattle.sy_entries.specs.Sizes.{AreNumbered}

live_one : (v : Bool) (n : ℕ) → n ≤ 4194304 → (if v then 0 else n) ≤ 4194304
live_one true n le = omega arith
live_one false n le = le

-- the count of live elements fits
pub live_fits : (buffers : List Buffer) → AreNumbered buffers → live_elements buffers < 2 ^ 64
unfolding live_elements
live_fits buffers n =
    let le : sum_by (λ (x : Buffer). if x.ended then 0 else length x.values) buffers ≤ length buffers * 4194304 =
    sum_by-le (λ (x : Buffer). if x.ended then 0 else length x.values) 4194304 buffers (λ k d lt. live_one _ _ (n.small k d lt)) in
    omega (arith, le, n.few)
