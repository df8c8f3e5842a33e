-- What a body is given stands for the objects that were captured.
use Rattle.std.proofs.Common.{refl}
use Rattle.std.specs.Prelude.{List, [], drop, length, suc, zero, ℕ, ℤ, ◌++◌, ◌∷◌, ◌≡◌}
use Rattle.sy_num.specs.Kinds.{InRange}
use Rattle.sy_num.specs.Scalars.{reduced}
use Rattle.sy_num.specs.declared.Kind.{Kind}
use Rattle.sy_typed.specs.declared.things.Thing.{Thing}
use Rattle.sy_typed.specs.declared.things.Thing.TheVariants as thing
use Rattle.sy_typed.specs.declared.tree.Variable.{Variable}
use Rattle.sy_meaning.specs.Words.{Object, as_thing, number_as, sized, width, word}
use Rattle.sy_meaning.specs.Lambdas.{all_words}
use Rattle.sy_meaning.specs.Next.{object_from, objects_from}
use Rattle.sy_meaning.specs.Captures.{AllHave, HasType}
use Rattle.std.proofs.Common.{sym, ap, ◌∙◌, subst}
use Rattle.sy_num.proofs.Residues.{reduced_is}
use Rattle.sy_num.proofs.Theorems.{converted_in_range}

cut_back : (n : ℕ) (o rest : Object) → length o ≡ n → (sized n (o ++ rest) ≡ o) × (drop n (o ++ rest) ≡ rest)
cut_back zero [] rest h = (refl, refl)
cut_back zero (z ∷ zs) rest h = absurd cc
cut_back (suc n) [] rest h = absurd cc
cut_back (suc n) (z ∷ zs) rest h =
    let e : length zs ≡ n = cc in
    let p = cut_back n zs rest e in
    (ap (λ l. z ∷ l) p.0, p.1)

in_its_kind : (k : Kind) (z : ℤ) → InRange k z → reduced k z ≡ z
in_its_kind k z fits = reduced_is k z z fits (record { up = 0; down = 0; same = refl })

integer_back : (k : Kind) (z : ℤ) (rest : Object) → InRange k z → (object_from (thing.Integer k) (z ∷ rest) ≡ z ∷ []) × (drop 1 (z ∷ rest) ≡ rest)
integer_back k z rest fits = (ap (λ y. y ∷ []) (in_its_kind k z fits), refl)

pub read_back : (t : Thing) (o rest : Object) → HasType t o → (object_from t (o ++ rest) ≡ o) × (drop (width t) (o ++ rest) ≡ rest)
read_back (thing.Integer k) o rest h =
    let P : Object → Type 0 = λ x. (object_from (thing.Integer k) (x ++ rest) ≡ x) × (drop 1 (x ++ rest) ≡ rest) in
    subst P (sym h.1) (integer_back k h.0 rest h.2)
read_back t o rest h = cut_back (width t) o rest h

pub all_read_back : (xs : List Variable) (os : List Object) → AllHave xs os → objects_from xs (all_words os) ≡ os
all_read_back [] [] h = refl
all_read_back [] (o ∷ os) h = absurd h
all_read_back (x ∷ xs) [] h = absurd h
all_read_back (x ∷ xs) (o ∷ os) h =
    let p = read_back x.what o (all_words os) h.0 in
    ap (λ y. y ∷ objects_from xs (drop (width x.what) (o ++ all_words os))) p.0 ∙ ap (λ l. o ∷ l) (ap (λ zs. objects_from xs zs) p.1 ∙ all_read_back xs os h.1)

length_sized : (n : ℕ) (o : Object) → length (sized n o) ≡ n
length_sized zero o = refl
length_sized (suc n) [] = ap suc (length_sized n [])
length_sized (suc n) (z ∷ zs) = ap suc (length_sized n zs)

pub declared_has_type : (t : Thing) (o : Object) → HasType t (as_thing t o)
declared_has_type (thing.Integer k) o = (number_as k o, refl, converted_in_range k (word 0 o))
declared_has_type t o = length_sized (width t) o
