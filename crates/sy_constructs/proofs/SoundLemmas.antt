-- A construct's own rules, told to an accumulator of their own, and then to that of the source.
use Rattle.std.proofs.Common.{◌≡◌, refl, true, false, List, [], ◌∷◌, ◌++◌, Option, Some, None, ap, sym, ◌∙◌}
use Rattle.sy_note.specs.declared.Diagnostic.{Diagnostic}
use Rattle.sy_rules.specs.ExprTypes.{is_empty}
use Rattle.sy_rules.specs.Faults.{first_broken, sooner}
use Rattle.sy_findings.specs.Told.{told}
use Rattle.sy_findings.proofs.ToldLemmas.{told_first, told-append, told-nothing}

sooner_some : (d : Diagnostic) (o : Option Diagnostic) → sooner (Some d) o ≡ None → Some d ≡ None
sooner_some d None e = e
sooner_some d (Some b) e = cc

-- nothing is told of no rule
pub none_is_empty : (ds : List Diagnostic) → None ≡ told None ds → is_empty ds ≡ true
none_is_empty [] e = refl
none_is_empty (d ∷ ds) e = let h = sooner_some d (first_broken ds) (sym (told_first None (d ∷ ds)) ∙ sym e) in cc

pub some_is_not_empty : (d : Diagnostic) (ds : List Diagnostic) → Some d ≡ told None ds → is_empty ds ≡ false
some_is_not_empty d [] e = cc
some_is_not_empty d (x ∷ ds) e = refl

-- what is told first of a list stands for all of it
pub told_as_first : (f : Option Diagnostic) (ds : List Diagnostic) → told f ds ≡ sooner f (told None ds)
told_as_first f ds = told_first f ds ∙ ap (sooner f) (sym (told_first None ds))

sooner_none : (f : Option Diagnostic) → sooner f None ≡ f
sooner_none None = refl
sooner_none (Some d) = refl

pub nothing_told : (f : Option Diagnostic) (ds : List Diagnostic) → None ≡ told None ds → f ≡ told f ds
nothing_told f ds e = sym (sooner_none f) ∙ ap (sooner f) e ∙ sym (told_as_first f ds)

pub one_told : (f : Option Diagnostic) (d : Diagnostic) (ds : List Diagnostic) → Some d ≡ told None ds → sooner f (Some d) ≡ told f ds
one_told f d ds e = ap (sooner f) e ∙ sym (told_as_first f ds)

-- ---- rules one after another

pub told_two : (f : Option Diagnostic) (xs ys : List Diagnostic) → told f (xs ++ (ys ++ [])) ≡ told (told f xs) ys
told_two f xs ys = told-append f xs (ys ++ []) ∙ told-nothing (told f xs) ys

pub told_four : (f : Option Diagnostic) (ws xs ys zs : List Diagnostic) → told f (ws ++ (xs ++ (ys ++ zs))) ≡ told (told (told (told f ws) xs) ys) zs
told_four f ws xs ys zs = told-append f ws (xs ++ (ys ++ zs)) ∙ told-append (told f ws) xs (ys ++ zs) ∙ told-append (told (told f ws) xs) ys zs

-- first these, and then the others
pub told_on : (f g h : Option Diagnostic) (xs ys : List Diagnostic) → g ≡ told f xs → h ≡ told g ys → h ≡ told f (xs ++ ys)
told_on f g h xs ys e d = d ∙ ap (λ w. told w ys) e ∙ sym (told-append f xs ys)

pub told_last : (f g : Option Diagnostic) (xs : List Diagnostic) → g ≡ told f xs → g ≡ told f (xs ++ [])
told_last f g xs e = e ∙ sym (told-nothing f xs)
