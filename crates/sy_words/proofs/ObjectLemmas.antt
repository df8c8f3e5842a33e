-- A list at an index, and a list cut or filled up.
use Rattle.std.proofs.Common.{◌≡◌, refl, ℕ, zero, suc, ◌-◌, ◌<◌, ◌≤◌, ℤ, pos, List, [], ◌∷◌, ◌++◌, take, drop, length, ap, sym, ◌∙◌, arith}
use Rattle.std.specs.Prelude.{Option, Some, None, slice_get, slice_index_or, unwrap_or}
use Rattle.std.proofs.lemmas.Option.{unwrap_or-slice_get}
use Rattle.std.proofs.lemmas.List.{append_assoc, drop_all, take_rest}
use Rattle.sy_meaning.specs.Words.{sized}

pub found_there : {A : Type 0} (xs : List A) (i : ℕ) (d x : A) → Some x ≡ slice_get xs i → x ≡ slice_index_or xs i d
found_there xs i d x e = ap (λ o. unwrap_or o d) e ∙ unwrap_or-slice_get xs i d

pub not_there : {A : Type 0} (xs : List A) (i : ℕ) (d : A) → None ≡ slice_get xs i → d ≡ slice_index_or xs i d
not_there xs i d e = ap (λ o. unwrap_or o d) e ∙ unwrap_or-slice_get xs i d

pub none_behind : {A : Type 0} (xs : List A) (i : ℕ) → ¬ (i < length xs) → [] ≡ drop i xs
none_behind xs i h = sym (drop_all i xs (omega arith))

pub filled : (n : ℕ) → ¬ (n ≡ 0) → sized n [] ≡ pos 0 ∷ sized (n - 1) []
filled zero h = absurd (h refl)
filled (suc n) h = let e : n ≡ suc n - 1 = omega arith in ap (λ k. pos 0 ∷ sized k []) e

pub kept : (n : ℕ) (z : ℤ) (zs : List ℤ) → ¬ (n ≡ 0) → sized n (z ∷ zs) ≡ z ∷ sized (n - 1) zs
kept zero z zs h = absurd (h refl)
kept (suc n) z zs h = let e : n ≡ suc n - 1 = omega arith in ap (λ k. z ∷ sized k zs) e

-- the same behind what was made before
pub filled_on : (made pushed all : List ℤ) (n : ℕ) → ¬ (n ≡ 0) → pushed ≡ made ++ pos 0 ∷ [] → all ≡ pushed ++ sized (n - 1) [] → all ≡ made ++ sized n []
filled_on made pushed all n h p e =
    e
    ∙ ap (λ l. l ++ sized (n - 1) []) p
    ∙ append_assoc made (pos 0 ∷ []) (sized (n - 1) [])
    ∙ ap (λ l. made ++ l) (sym (filled n h))

pub kept_on : (words made pushed all : List ℤ) (n : ℕ) (d : ℤ) → 1 ≤ length words → ¬ (n ≡ 0) → pushed ≡ made ++ slice_index_or words 0 d ∷ [] → all ≡ pushed ++ sized (n - 1) (take (length words - 1) (drop 1 words)) → all ≡ made ++ sized n words
kept_on [] made pushed all n d le h p e = absurd (omega (arith, le))
kept_on (z ∷ zs) made pushed all n d le h p e =
    e
    ∙ ap (λ l. pushed ++ sized (n - 1) l) (take_rest (z ∷ zs) 1)
    ∙ ap (λ l. l ++ sized (n - 1) zs) p
    ∙ append_assoc made (z ∷ []) (sized (n - 1) zs)
    ∙ ap (λ l. made ++ l) (sym (kept n z zs h))
