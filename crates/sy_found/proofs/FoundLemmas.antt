-- Findings in parts, in their places.
use Rattle.std.proofs.Common.{◌≡◌, refl, sym, ap, ◌∙◌, append_assoc, List, [], ◌∷◌, ◌++◌, Option, Some, None}
use Rattle.std.specs.Prelude.{flat_map}
use Rattle.sy_note.specs.declared.Diagnostic.{Diagnostic}
use Rattle.sy_note.specs.declared.Spot.{Spot}
use Rattle.sy_found.specs.Noted.{Notes, note, noted, placed_by, found_in, held_for}
use Rattle.sy_found.specs.declared.parts.Place.{Place}
use Rattle.sy_rules.specs.declared.names.Within.{Within}
use Rattle.sy_rules.specs.declared.names.Within.TheVariants as within
use Rattle.sy_rules.specs.Faults.{sooner}
use Rattle.sy_rules.specs.Outcome.{Finding, broken, foreign, held, calls, uses, placed, placed_in, all_broken, broken_of, faults_found}
use Rattle.sy_findings.specs.Told.{told}
use Rattle.sy_constructs.proofs.SoundLemmas.{nothing_told, one_told, told_as_first}

pub noted_append : (t : Notes) (xs ys : List Finding) → noted t (xs ++ ys) ≡ noted (noted t xs) ys
noted_append t [] ys = refl
noted_append t (x ∷ xs) ys = noted_append (note t x) xs ys

flat_append : {A B : Type 0} (f : A → List B) (xs ys : List A) → flat_map f (xs ++ ys) ≡ flat_map f xs ++ flat_map f ys
flat_append f [] ys = refl
flat_append f (x ∷ xs) ys = ap (λ l. f x ++ l) (flat_append f xs ys) ∙ sym (append_assoc (f x) (flat_map f xs) (flat_map f ys))

pub in_parts : (p : Option Place) (t : Notes) (xs ys : List Finding) → found_in p t (xs ++ ys) ≡ found_in p (found_in p t xs) ys
in_parts p t xs ys = ap (noted t) (flat_append (placed_by p) xs ys) ∙ noted_append t (flat_map (placed_by p) xs) (flat_map (placed_by p) ys)

-- what has its place keeps it
kept_in : (p : Option Place) (w : Within) (s : Spot) (u : Within) → flat_map (placed_by p) (placed_in w s u) ≡ placed_in w s u
kept_in None within.Host s u = refl
kept_in None within.Group s within.Host = refl
kept_in None within.Group s within.Group = refl
kept_in None within.Group s within.Kernel = refl
kept_in None within.Kernel s within.Host = refl
kept_in None within.Kernel s within.Group = refl
kept_in None within.Kernel s within.Kernel = refl
kept_in (Some p) within.Host s u = refl
kept_in (Some p) within.Group s within.Host = refl
kept_in (Some p) within.Group s within.Group = refl
kept_in (Some p) within.Group s within.Kernel = refl
kept_in (Some p) within.Kernel s within.Host = refl
kept_in (Some p) within.Kernel s within.Group = refl
kept_in (Some p) within.Kernel s within.Kernel = refl

kept_one : (p : Option Place) (w : Within) (s : Spot) (x : Finding) → flat_map (placed_by p) (placed w s x) ≡ placed w s x
kept_one p w s (foreign u) = kept_in p w s u
kept_one None w s (broken d) = refl
kept_one None w s (held u r) = refl
kept_one None w s (calls u i) = refl
kept_one None w s (uses v) = refl
kept_one (Some p) w s (broken d) = refl
kept_one (Some p) w s (held u r) = refl
kept_one (Some p) w s (calls u i) = refl
kept_one (Some p) w s (uses v) = refl

kept : (p : Option Place) (w : Within) (s : Spot) (xs : List Finding) → flat_map (placed_by p) (flat_map (placed w s) xs) ≡ flat_map (placed w s) xs
kept p w s [] = refl
kept p w s (x ∷ xs) =
    flat_append (placed_by p) (placed w s x) (flat_map (placed w s) xs)
    ∙ ap (λ l. l ++ flat_map (placed_by p) (flat_map (placed w s) xs)) (kept_one p w s x)
    ∙ ap (λ l. placed w s x ++ l) (kept p w s xs)

pub in_statements : (p : Option Place) (t : Notes) (w : Within) (s : Spot) (xs : List Finding) → found_in p t (flat_map (placed w s) xs) ≡ found_in (Some (record { within = w; statement = s })) t xs
in_statements p t w s xs = ap (noted t) (kept p w s xs)

first_noted : (t : Notes) (xs : List Finding) → (noted t xs).first ≡ told t.first (all_broken xs)
first_noted t [] = refl
first_noted t (broken d ∷ xs) = first_noted (note t (broken d)) xs
first_noted t (foreign u ∷ xs) = first_noted t xs
first_noted t (held within.Host s ∷ xs) = first_noted t xs
first_noted t (held within.Kernel s ∷ xs) = first_noted (note t (held within.Kernel s)) xs
first_noted t (held within.Group s ∷ xs) = first_noted (note t (held within.Group s)) xs
first_noted t (calls w i ∷ xs) = first_noted (note t (calls w i)) xs
first_noted t (uses v ∷ xs) = first_noted (note t (uses v)) xs

pub first_in : (p : Option Place) (t : Notes) (xs : List Finding) → (found_in p t xs).first ≡ told t.first (all_broken (flat_map (placed_by p) xs))
first_in p t xs = first_noted t (flat_map (placed_by p) xs)

-- broken rules have their place already
pub faults_in : (p : Option Place) (t : Notes) (ds : List Diagnostic) → found_in p t (faults_found ds) ≡ record t { first = told t.first ds }
faults_in p t [] = refl
faults_in None t (d ∷ ds) = faults_in None (note t (broken d)) ds
faults_in (Some p) t (d ∷ ds) = faults_in (Some p) (note t (broken d)) ds

pub nothing_more : (p : Option Place) (t : Notes) (ds : List Diagnostic) → None ≡ told None ds → t ≡ found_in p t (faults_found ds)
nothing_more p t ds e = ap (λ f. record t { first = f }) (nothing_told t.first ds e) ∙ sym (faults_in p t ds)

pub one_more : (p : Option Place) (t : Notes) (d : Diagnostic) (ds : List Diagnostic) → Some d ≡ told None ds → record t { first = sooner t.first (Some d) } ≡ found_in p t (faults_found ds)
one_more p t d ds e = ap (λ f. record t { first = f }) (one_told t.first d ds e) ∙ sym (faults_in p t ds)

-- ---- what a part finds, apart from what was found before it

pub or_none : (f : Option Diagnostic) → f ≡ sooner f None
or_none None = refl
or_none (Some d) = refl

-- the rule that is told first matters to itself alone
others : (t : Notes) (f g : Option Diagnostic) (xs : List Finding)
    → noted (record t { first = f }) xs ≡ record (noted (record t { first = g }) xs) { first = (noted (record t { first = f }) xs).first }
others t f g [] = refl
others t f g (broken d ∷ xs) = others t (sooner f (Some d)) (sooner g (Some d)) xs
others t f g (foreign u ∷ xs) = others t f g xs
others t f g (held within.Host s ∷ xs) = others t f g xs
others t f g (held within.Kernel s ∷ xs) = others (held_for within.Kernel s t) f g xs
others t f g (held within.Group s ∷ xs) = others (held_for within.Group s t) f g xs
others t f g (calls w i ∷ xs) = others (note t (calls w i)) f g xs
others t f g (uses v ∷ xs) = others (note t (uses v)) f g xs

apart : (t : Notes) (f : Option Diagnostic) (xs : List Finding)
    → noted (record t { first = f }) xs ≡ record (noted (record t { first = None }) xs) { first = sooner f (noted (record t { first = None }) xs).first }
apart t f xs =
    others t f None xs
    ∙ ap (λ x. record (noted (record t { first = None }) xs) { first = x })
    (first_noted (record t { first = f }) xs ∙ told_as_first f (all_broken xs) ∙ ap (sooner f) (sym (first_noted (record t { first = None }) xs)))

pub put_back : (p : Option Place) (t : Notes) (xs : List Finding) (aside : Option Diagnostic) (old : Notes)
    → aside ≡ t.first → old ≡ found_in p (record t { first = None }) xs → record old { first = sooner aside old.first } ≡ found_in p t xs
put_back p t xs aside old a e =
    ap (λ (o : Notes). record o { first = sooner aside o.first }) e
    ∙ ap (λ f. record (found_in p (record t { first = None }) xs) { first = sooner f (found_in p (record t { first = None }) xs).first }) a
    ∙ sym (apart t t.first (flat_map (placed_by p) xs))
