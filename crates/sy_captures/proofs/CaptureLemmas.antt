-- Lists of captures the other way round, and declarations that are taken once.
use Rattle.std.proofs.Common.{◌≡◌, refl, ℕ, Bool, true, false, ◌||◌, ◌&&◌, not, nat_eq, cond, List, [], ◌∷◌, ◌++◌, map, reverse, ap, sym, ◌∙◌, append_assoc, Some, None}
use Rattle.std.specs.List.{list_any}
use Rattle.std.proofs.lemmas.List.{reverse-append}
use Rattle.std.proofs.lemmas.List.Folds.{list_any-append}
use Rattle.std.proofs.lemmas.Bool.{false≢true}
use Rattle.sy_note.specs.declared.Diagnostic.{Diagnostic}
use Rattle.sy_note.specs.declared.Spot.{Spot}
use Rattle.sy_tree.specs.declared.parts.LambdaParameter.{LambdaParameter}
use Rattle.sy_rules.specs.declared.library.Role.{Role}
use Rattle.sy_findings.specs.Told.{told}
use Rattle.sy_constructs.proofs.SoundLemmas.{none_is_empty}
use Rattle.sy_tree.specs.declared.parts.Capture.{Capture}
use Rattle.sy_tree.specs.declared.parts.Capture.TheVariants as capture
use Rattle.sy_rules.specs.declared.names.Named.{Named}
use Rattle.sy_rules.specs.Lambdas.{is_repeated, names_it, is_reference_default, is_copy_default, is_listed_well, bad_lambda, first_dimensions, each_once}
use Rattle.sy_rules.specs.Walk.{seen_lambda}
use Rattle.sy_typed.specs.declared.tree.TypedCapture.{TypedCapture}
use Rattle.sy_captures.specs.Taken.{taken_by}
use Rattle.sy_constructs.proofs.ThreadLemmas.{any_reverse}

both : (a b c d : Bool) → a ≡ b → c ≡ d → (a || c) ≡ (b || d)
both a b c d e f = ap (λ x. x || c) e ∙ ap (λ x. b || x) f

-- behind something a default is repeated
reference_behind : (ys : List Capture) (x : Capture) (s : Spot) → is_repeated (ys ++ x ∷ []) (capture.DefaultReference s) ≡ true
reference_behind [] x s = refl
reference_behind (y ∷ ys) x s = refl

copy_behind : (ys : List Capture) (x : Capture) (s : Spot) → is_repeated (ys ++ x ∷ []) (capture.DefaultCopy s) ≡ true
copy_behind [] x s = refl
copy_behind (y ∷ ys) x s = refl

pub repeated_reverse : (xs : List Capture) (c : Capture) → is_repeated (reverse xs) c ≡ is_repeated xs c
repeated_reverse xs (capture.Reference s y) = both _ _ _ _ (any_reverse is_reference_default xs) (any_reverse (names_it y.text) xs)
repeated_reverse xs (capture.Copy y) = both _ _ _ _ (any_reverse is_copy_default xs) (any_reverse (names_it y.text) xs)
repeated_reverse [] (capture.DefaultReference s) = refl
repeated_reverse [] (capture.DefaultCopy s) = refl
repeated_reverse (x ∷ xs) (capture.DefaultReference s) = ap (λ l. is_repeated l (capture.DefaultReference s)) (reverse-append (x ∷ []) xs) ∙ reference_behind (reverse xs) x s
repeated_reverse (x ∷ xs) (capture.DefaultCopy s) = ap (λ l. is_repeated l (capture.DefaultCopy s)) (reverse-append (x ∷ []) xs) ∙ copy_behind (reverse xs) x s

-- one that isn't repeated leaves it to the others
pub listed_on : (before rest : List Capture) (c : Capture) → is_repeated before c ≡ false
    → is_listed_well (reverse (before ++ c ∷ [])) rest ≡ is_listed_well (reverse before) (c ∷ rest)
listed_on before rest c e =
    ap (λ l. is_listed_well l rest) (reverse-append before (c ∷ []))
    ∙ ap (λ b. not b && is_listed_well (c ∷ reverse before) rest) (sym e ∙ sym (repeated_reverse before c))

pub listed_twice : (before rest : List Capture) (c : Capture) → is_repeated before c ≡ true
    → is_listed_well (reverse before) (c ∷ rest) ≡ false
listed_twice before rest c e = ap (λ b. not b && is_listed_well (c ∷ reverse before) rest) (repeated_reverse before c ∙ e)

-- ---- numbers that were seen

pub same_once : (a b : List ℕ) (vs : List Named) → ((n : ℕ) → list_any (nat_eq n) a ≡ list_any (nat_eq n) b) → each_once a vs ≡ each_once b vs
same_once a b [] e = refl
same_once a b (v ∷ vs) e =
    ap (λ x. cond x (each_once a vs) (v ∷ each_once (v.number ∷ a) vs)) (e v.number)
    ∙ ap (λ l. cond (list_any (nat_eq v.number) b) l (v ∷ each_once (v.number ∷ a) vs)) (same_once a b vs e)
    ∙ ap (λ l. cond (list_any (nat_eq v.number) b) (each_once b vs) (v ∷ l)) (same_once (v.number ∷ a) (v.number ∷ b) vs (λ n. ap (λ x. nat_eq n v.number || x) (e n)))

or_swap : (a b : Bool) → (a || (b || false)) ≡ (b || a)
or_swap true true = refl
or_swap true false = refl
or_swap false true = refl
or_swap false false = refl

pub any_last : (n m : ℕ) (xs : List ℕ) → list_any (nat_eq n) (xs ++ m ∷ []) ≡ (nat_eq n m || list_any (nat_eq n) xs)
any_last n m xs = list_any-append (nat_eq n) xs (m ∷ []) ∙ or_swap (list_any (nat_eq n) xs) (nat_eq n m)

-- one that is new
pub once_more : (ks : List ℕ) (v : Named) (rest : List Named) → list_any (nat_eq v.number) ks ≡ false
    → v ∷ each_once (ks ++ v.number ∷ []) rest ≡ each_once ks (v ∷ rest)
once_more ks v rest e =
    ap (λ l. v ∷ l) (same_once (ks ++ v.number ∷ []) (v.number ∷ ks) rest (λ n. any_last n v.number ks))
    ∙ ap (λ x. cond x (each_once ks rest) (v ∷ each_once (v.number ∷ ks) rest)) (sym e)

-- one that was seen
pub once_seen : (ks : List ℕ) (v : Named) (rest : List Named) → list_any (nat_eq v.number) ks ≡ true
    → each_once ks rest ≡ each_once ks (v ∷ rest)
once_seen ks v rest e = ap (λ x. cond x (each_once ks rest) (v ∷ each_once (v.number ∷ ks) rest)) (sym e)

-- ---- a lambda in which nothing is broken

pub bad_in_sound : (r : Role) (s : Spot) (cs : List Capture) (ps : List LambdaParameter) (ds : List Diagnostic) → None ≡ told None ds
    → bad_lambda r s cs ps [] ≡ bad_lambda r s cs ps ds
bad_in_sound r s cs ps [] e = refl
bad_in_sound r s cs ps (d ∷ ds) e = absurd (false≢true (none_is_empty (d ∷ ds) e))

pub bad_in_broken : (r : Role) (s : Spot) (cs : List Capture) (ps : List LambdaParameter) (d : Diagnostic) (ds : List Diagnostic) → Some d ≡ told None ds
    → [] ≡ bad_lambda r s cs ps ds
bad_in_broken r s cs ps d [] e = cc
bad_in_broken r s cs ps d (x ∷ ds) e = refl

pub seen_in_sound : (ps : List LambdaParameter) (ds : List Diagnostic) → None ≡ told None ds
    → record { is_sound = true; dimensions = first_dimensions ps } ≡ seen_lambda ps ds
seen_in_sound ps [] e = refl
seen_in_sound ps (d ∷ ds) e = absurd (false≢true (none_is_empty (d ∷ ds) e))

pub seen_in_broken : (ps : List LambdaParameter) (d : Diagnostic) (ds : List Diagnostic) → Some d ≡ told None ds
    → record { is_sound = false; dimensions = None } ≡ seen_lambda ps ds
seen_in_broken ps d [] e = cc
seen_in_broken ps d (x ∷ ds) e = refl

-- ---- one declaration more

not_seen : (b : Bool) → true ≡ not b → b ≡ false
not_seen true e = e
not_seen false e = refl

pub pushed_once : (r : Bool) (ks new : List ℕ) (v : Named) (xs ys : List TypedCapture) (rest : List Named) → true ≡ not (list_any (nat_eq v.number) ks)
    → new ≡ cond (list_any (nat_eq v.number) ks) ks (ks ++ v.number ∷ [])
    → ys ≡ xs ++ taken_by r v ∷ []
    → ys ++ map (taken_by r) (each_once new rest) ≡ xs ++ map (taken_by r) (each_once ks (v ∷ rest))
pushed_once r ks new v xs ys rest e k h =
    let none : list_any (nat_eq v.number) ks ≡ false = not_seen _ e in
    let longer : new ≡ ks ++ v.number ∷ [] = k ∙ ap (λ b. cond b ks (ks ++ v.number ∷ [])) none in
    ap (λ l. l ++ map (taken_by r) (each_once new rest)) h
    ∙ append_assoc xs (taken_by r v ∷ []) (map (taken_by r) (each_once new rest))
    ∙ ap (λ l. xs ++ map (taken_by r) (v ∷ each_once l rest)) longer
    ∙ ap (λ l. xs ++ map (taken_by r) l) (once_more ks v rest none)
