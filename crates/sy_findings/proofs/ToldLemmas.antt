-- What is told in one list may be told in two, and the first of all is what is told in the end.
use Rattle.std.proofs.Common.{◌≡◌, refl, ℕ, nat_lt, List, [], ◌∷◌, ◌++◌, Option, Some, None, ap, sym, ◌∙◌, arith, if◌then◌else◌}
use Rattle.sy_note.specs.declared.Code.{Code}
use Rattle.sy_note.specs.declared.Diagnostic.{Diagnostic}
use Rattle.sy_note.specs.declared.Spot.{Spot}
use Rattle.sy_rules.specs.Faults.{rank, sooner, first_broken, at}
use Rattle.sy_findings.specs.Told.{told}

pub told-append : (f : Option Diagnostic) (xs ys : List Diagnostic) → told f (xs ++ ys) ≡ told (told f xs) ys
told-append f [] ys = refl
told-append f (d ∷ ds) ys = told-append (sooner f (Some d)) ds ys

pub at-append : (c : Code) (xs ys : List Spot) → at c (xs ++ ys) ≡ at c xs ++ at c ys
at-append c [] ys = refl
at-append c (s ∷ ss) ys = ap (λ ds. (record { spot = s; code = c }) ∷ ds) (at-append c ss ys)

pub told-nothing : (f : Option Diagnostic) (xs : List Diagnostic) → told f (xs ++ []) ≡ told f xs
told-nothing f [] = refl
told-nothing f (d ∷ ds) = told-nothing (sooner f (Some d)) ds

-- rules with several places each
pub told_at : (f : Option Diagnostic) (c : Code) (xs ys : List Spot) → told f (at c (xs ++ ys)) ≡ told (told f (at c xs)) (at c ys)
told_at f c xs ys = ap (told f) (at-append c xs ys) ∙ told-append f (at c xs) (at c ys)

sooner_none : (w : Option Diagnostic) → sooner w None ≡ w
sooner_none None = refl
sooner_none (Some a) = refl

lesser-lesser : (f : Diagnostic → ℕ) (a b c : Diagnostic)
    → (if nat_lt (f (if nat_lt (f c) (f b) then c else b)) (f a) then (if nat_lt (f c) (f b) then c else b) else a)
    ≡ (if nat_lt (f c) (f (if nat_lt (f b) (f a) then b else a)) then c else (if nat_lt (f b) (f a) then b else a))
lesser-lesser f a b c = grind arith

pub sooner_assoc : (a b c : Option Diagnostic) → sooner a (sooner b c) ≡ sooner (sooner a b) c
sooner_assoc None b c = refl
sooner_assoc (Some a) None c = refl
sooner_assoc (Some a) (Some b) None = refl
sooner_assoc (Some a) (Some b) (Some c) = ap Some (lesser-lesser rank a b c)

pub told_first : (f : Option Diagnostic) (ds : List Diagnostic) → told f ds ≡ sooner f (first_broken ds)
told_first f [] = sym (sooner_none f)
told_first f (d ∷ ds) = told_first (sooner f (Some d)) ds ∙ sym (sooner_assoc f (Some d) (first_broken ds))
