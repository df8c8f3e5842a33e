-- The elements of the buffers that have not ended.
use Rattle.std.proofs.Common.{◌≡◌, ℕ, ◌+◌, List, [], ◌∷◌, ◌++◌, length, Bool, false, Some, refl, sym, ap, ◌∙◌, arith}
use Rattle.std.specs.Prelude.{slice_get, if◌then◌else◌, map, sum_by}
use Rattle.std.proofs.lemmas.List.Sums.{sum_by-cons, sum_by_push}
use Rattle.sy_onecopy.specs.declared.Buffer.{Buffer}
use Rattle.sy_onecopy.specs.declared.Origin.{Origin}
use Rattle.sy_onecopy.specs.Each.{changed_at}
use Rattle.sy_onecopy.specs.Step.{live_elements, with_end}
use Rattle.sy_settling.specs.Orderly.{shape}
use Rattle.sy_counts.proofs.SumLemmas.{sum_changed}

abbrev size : Buffer → ℕ
size x = if x.ended then 0 else length x.values

pub live-more : (xs : List Buffer) (x : Buffer) → live_elements (xs ++ x ∷ []) ≡ live_elements xs + (if x.ended then 0 else length x.values)
unfolding live_elements
live-more xs x = sum_by_push size xs x

pub live-ends : (r : ℕ) (xs : List Buffer) (x : Buffer) → slice_get xs r ≡ Some x → x.ended ≡ false → live_elements (changed_at with_end r xs) + length x.values ≡ live_elements xs
unfolding live_elements
live-ends r xs x g h =
    ap (λ n. sum_by size (changed_at with_end r xs) + n) (sym (ap (λ v. if v then 0 else length x.values) h))
    ∙ sum_changed size with_end r xs x g
    ∙ (let z : sum_by size xs + 0 ≡ sum_by size xs = omega arith in z)

abbrev size_of : ℕ × Origin × Bool → ℕ
size_of s = if s.2 then 0 else s.0

of_shapes : (xs : List Buffer) → sum_by size xs ≡ sum_by size_of (map shape xs)
of_shapes [] = refl
of_shapes (x ∷ xs) = sum_by-cons size x xs ∙ ap (λ n. size x + n) (of_shapes xs) ∙ sym (sum_by-cons size_of (shape x) (map shape xs))

pub live-alike : (xs ys : List Buffer) → map shape xs ≡ map shape ys → live_elements xs ≡ live_elements ys
unfolding live_elements
live-alike xs ys h = of_shapes xs ∙ ap (sum_by size_of) h ∙ sym (of_shapes ys)
