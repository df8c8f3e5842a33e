-- Whether one of them passes a test doesn't depend on their order.
use Rattle.std.proofs.Common.{◌≡◌, refl, Bool, true, false, ◌||◌, List, [], ◌∷◌, reverse, ap, ◌∙◌}
use Rattle.std.specs.List.{list_any}
use Rattle.std.proofs.lemmas.List.{reverse-append}
use Rattle.std.proofs.lemmas.List.Folds.{list_any-append}

or_swap : (a b : Bool) → (a || (b || false)) ≡ (b || a)
or_swap true true = refl
or_swap true false = refl
or_swap false true = refl
or_swap false false = refl

pub any_reverse : {T : Type 0} (p : T → Bool) (xs : List T) → list_any p (reverse xs) ≡ list_any p xs
any_reverse p [] = refl
any_reverse p (x ∷ xs) =
    ap (list_any p) (reverse-append (x ∷ []) xs)
    ∙ list_any-append p (reverse xs) (x ∷ [])
    ∙ ap (λ b. b || (p x || false)) (any_reverse p xs)
    ∙ or_swap (list_any p xs) (p x)
