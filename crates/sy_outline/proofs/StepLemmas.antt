-- One step of a walk after another, and the steps of a loop.
use Rattle.std.proofs.Common.{◌≡◌, ◌++◌, ◌∷◌, ◌+◌, ◌<◌, ◌≤◌, [], ℕ, List, drop, get_or, length, ap, sym, ◌∙◌}
use Rattle.std.proofs.lemmas.List.{append-nil, append_assoc, drop_all, drop_more}
use Rattle.std.specs.Prelude.{Result, Ok, Err}
use denote.Ref.{Bor}
use Rattle.sy_meaning.specs.Bodies.{Found}
use Rattle.sy_outline.specs.Parts.{Added, of_all, pointed}
use Rattle.sy_typed.specs.declared.tree.TypedLambda.{TypedLambda}

-- what was added is what the whole has
pub added_as : {U Stop : Type 0} (old : List (Bor TypedLambda)) (r : Result U Stop) (new : List (Bor TypedLambda)) (xs ys : Found) →
    ys ≡ xs → Added old r new xs → Added old r new ys
added_as old (Ok x) new xs ys e h = h ∙ ap (λ z. pointed old ++ z) (sym e)
added_as old (Err x) new xs ys e h = h

pub added_behind : {U Stop : Type 0} (old mid : List (Bor TypedLambda)) (r : Result U Stop) (new : List (Bor TypedLambda)) (xs ys : Found) →
    pointed mid ≡ pointed old ++ xs → Added mid r new ys → Added old r new (xs ++ ys)
added_behind old mid (Ok x) new xs ys e h = h ∙ ap (λ z. z ++ ys) e ∙ append_assoc (pointed old) xs ys
added_behind old mid (Err x) new xs ys e h = h

pub nothing_added : (old ys : Found) → ys ≡ [] → old ≡ old ++ ys
nothing_added old ys e = sym (append-nil old) ∙ ap (λ (z : Found). old ++ z) (sym e)

-- ---- a loop over the list

pub all_on : {X : Type 0} (f : X → Found) (xs : List X) (i : ℕ) (x : X) (old now new : Found) →
    i < length xs → x ≡ get_or xs i x → new ≡ now ++ f x →
    now ++ of_all f (drop i xs) ≡ old ++ of_all f xs → new ++ of_all f (drop (i + 1) xs) ≡ old ++ of_all f xs
all_on f xs i x old now new below is e h =
    let left : drop i xs ≡ x ∷ drop (i + 1) xs = drop_more xs i x below ∙ ap (λ y. y ∷ drop (i + 1) xs) (sym is) in
    ap (λ z. z ++ of_all f (drop (i + 1) xs)) e
    ∙ append_assoc now (f x) (of_all f (drop (i + 1) xs))
    ∙ ap (λ l. now ++ of_all f l) (sym left)
    ∙ h

pub all_ended : {X : Type 0} (f : X → Found) (xs : List X) (i : ℕ) (old now : Found) →
    length xs ≤ i → now ++ of_all f (drop i xs) ≡ old ++ of_all f xs → now ≡ old ++ of_all f xs
all_ended f xs i old now over h =
    sym (append-nil now) ∙ ap (λ l. now ++ of_all f l) (sym (drop_all i xs over)) ∙ h
