-- What is told of a whole source.
use Rattle.std.proofs.Common.{◌≡◌, refl, sym, ap, ◌∙◌, true, ℕ, List, [], ◌∷◌, ◌++◌, Option, Some, None}
use Rattle.std.specs.Prelude.{Err}
use Rattle.std.specs.Result.{IsErrOf}
use Rattle.sy_constructs.proofs.SoundLemmas.{none_is_empty}
use Rattle.sy_findings.proofs.ToldLemmas.{told-append, told_first}
use Rattle.sy_findings.specs.Told.{told}
use Rattle.sy_note.specs.declared.Diagnostic.{Diagnostic}
use Rattle.sy_rules.specs.ExprTypes.{is_empty}
use Rattle.sy_rules.specs.Faults.{first_broken}
use Rattle.sy_rules.specs.Units.{constants_of, function_items, functions_of, looked_at, place_of_main, program_of}
use Rattle.sy_tree.specs.declared.tree.Unit.{Unit as SourceUnit}
use Rattle.sy_typed.specs.declared.tree.Program.{Program}
use Rattle.sy_typed.specs.declared.tree.TypedConstant.{TypedConstant}
use Rattle.sy_typed.specs.declared.tree.TypedFunction.{TypedFunction}

-- the rules of a source in four parts
pub told_in_four : (a b c d : Option Diagnostic) (ws xs ys zs : List Diagnostic) →
    a ≡ told None ws → b ≡ told a xs → c ≡ told b ys → d ≡ told c zs → d ≡ told None (ws ++ (xs ++ (ys ++ zs)))
told_in_four a b c d ws xs ys zs ea eb ec ed =
    ed
    ∙ ap (λ f. told f zs) (ec ∙ ap (λ f. told f ys) (eb ∙ ap (λ f. told f xs) ea))
    ∙ sym (told-append (told (told None ws) xs) ys zs)
    ∙ sym (told-append (told None ws) xs (ys ++ zs))
    ∙ sym (told-append None ws (xs ++ (ys ++ zs)))

is_nil : {A : Type 0} (xs : List A) → is_empty xs ≡ true → xs ≡ []
is_nil [] e = refl
is_nil (x ∷ xs) e = cc

pub nothing_broken : (ds : List Diagnostic) (f : Option Diagnostic) → f ≡ told None ds → f ≡ None → ds ≡ []
nothing_broken ds f e n = is_nil ds (none_is_empty ds (sym n ∙ e))

pub broken_first : (ds : List Diagnostic) (f : Option Diagnostic) (d : Diagnostic) → f ≡ told None ds → f ≡ Some d → first_broken ds ≡ Some d
broken_first ds f d e s = sym (told_first None ds) ∙ sym e ∙ s

-- ---- the typed program

abbrev program_with : List TypedConstant → List TypedFunction → ℕ → Program
program_with cs fs m = record { constants = cs; functions = fs; main = m }

pub program_known : (u : SourceUnit) (p : Program) (cs : List TypedConstant) (fs : List TypedFunction) →
    p ≡ program_with cs fs (place_of_main (function_items u.items)) →
    cs ≡ constants_of (looked_at u).what → fs ≡ functions_of (looked_at u).what → p ≡ program_of u
unfolding program_of
program_known u p cs fs ep ec ef =
    let m = place_of_main (function_items u.items) in
    ep
    ∙ ap (λ l. program_with l fs m) ec
    ∙ ap (λ l. program_with (constants_of (looked_at u).what) l m) ef

-- an error is the same whatever the call would have answered
pub another : {T U E : Type 0} (e d : E) → IsErrOf {T = T} (Err e) d → IsErrOf {T = U} (Err e) d
another e d h = let same : e ≡ d = cc in ap (λ x. Err x) same
