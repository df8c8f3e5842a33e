-- A list of captures one by one.
use Rattle.std.proofs.Common.{◌≡◌, refl, ℕ, List, [], ◌∷◌, ◌++◌, map, Option, ◌<◌, length, get_or, ap, sym, ◌∙◌, append_assoc}
use Rattle.std.proofs.lemmas.List.{get_or-map}
use Rattle.sy_tree.specs.declared.parts.Capture.{Capture}
use Rattle.sy_tree.specs.declared.parts.Capture.TheVariants as capture
use Rattle.sy_typed.specs.declared.tree.TypedCapture.{TypedCapture}
use Rattle.sy_found.specs.Noted.{Notes, found_in}
use Rattle.sy_found.specs.declared.parts.Place.{Place}
use Rattle.sy_found.proofs.FoundLemmas.{in_parts}
use Rattle.sy_rules.specs.declared.names.Named.{Named}
use Rattle.sy_rules.specs.declared.names.Names.{Names}
use Rattle.sy_captures.specs.Taken.{name_found}
use Rattle.sy_rules.specs.declared.names.ThreadScope.{ThreadScope}
use Rattle.sy_rules.specs.Outcome.{Finding}
use Rattle.sy_rules.specs.Walk.{one_capture, all_captures}

-- ---- what is found and taken doesn't depend on the names inside

one_found : (o : Names) (t : Option ThreadScope) (c : Capture) (n m : Names) → (one_capture o t c n).found ≡ (one_capture o t c m).found
one_found o t (capture.Reference s x) n m = refl
one_found o t (capture.Copy x) n m = refl
one_found o t (capture.DefaultReference s) n m = refl
one_found o t (capture.DefaultCopy s) n m = refl

one_taken : (o : Names) (t : Option ThreadScope) (c : Capture) (n m : Names) → (one_capture o t c n).what ≡ (one_capture o t c m).what
one_taken o t (capture.Reference s x) n m = refl
one_taken o t (capture.Copy x) n m = refl
one_taken o t (capture.DefaultReference s) n m = refl
one_taken o t (capture.DefaultCopy s) n m = refl

all_found : (o : Names) (t : Option ThreadScope) (cs : List Capture) (n m : Names) → (all_captures o t cs n).found ≡ (all_captures o t cs m).found
all_found o t [] n m = refl
all_found o t (c ∷ cs) n m =
    ap (λ l. l ++ (all_captures o t cs (one_capture o t c n).names).found) (one_found o t c n m)
    ∙ ap (λ l. (one_capture o t c m).found ++ l) (all_found o t cs (one_capture o t c n).names (one_capture o t c m).names)

all_taken : (o : Names) (t : Option ThreadScope) (cs : List Capture) (n m : Names) → (all_captures o t cs n).what ≡ (all_captures o t cs m).what
all_taken o t [] n m = refl
all_taken o t (c ∷ cs) n m =
    ap (λ l. l ++ (all_captures o t cs (one_capture o t c n).names).what) (one_taken o t c n m)
    ∙ ap (λ l. (one_capture o t c m).what ++ l) (all_taken o t cs (one_capture o t c n).names (one_capture o t c m).names)

-- ---- one more

pub found_on : (p : Option Place) (o : Names) (t : Option ThreadScope) (c : Capture) (rest left : List Capture) (f g : Notes) (n : Names)
    → left ≡ c ∷ rest → g ≡ found_in p f (one_capture o t c n).found
    → found_in p g (all_captures o t rest n).found ≡ found_in p f (all_captures o t left n).found
found_on p o t c rest left f g n e h =
    ap (λ x. found_in p x (all_captures o t rest n).found) h
    ∙ ap (λ (l : List Finding). found_in p (found_in p f (one_capture o t c n).found) l) (all_found o t rest n (one_capture o t c n).names)
    ∙ sym (in_parts p f (one_capture o t c n).found (all_captures o t rest (one_capture o t c n).names).found)
    ∙ ap (λ l. found_in p f (all_captures o t l n).found) (sym e)

pub taken_on : (o : Names) (t : Option ThreadScope) (c : Capture) (rest left : List Capture) (f g : List TypedCapture) (n : Names)
    → left ≡ c ∷ rest → g ≡ f ++ (one_capture o t c n).what
    → g ++ (all_captures o t rest n).what ≡ f ++ (all_captures o t left n).what
taken_on o t c rest left f g n e h =
    ap (λ x. x ++ (all_captures o t rest n).what) h
    ∙ append_assoc f (one_capture o t c n).what (all_captures o t rest n).what
    ∙ ap (λ (l : List TypedCapture). f ++ ((one_capture o t c n).what ++ l)) (all_taken o t rest n (one_capture o t c n).names)
    ∙ ap (λ l. f ++ (all_captures o t l n).what) (sym e)

-- ---- findings in two or three parts

pub two_found : (p : Option Place) (f g h : Notes) (xs ys : List Finding) → g ≡ found_in p f xs → h ≡ found_in p g ys → h ≡ found_in p f (xs ++ ys)
two_found p f g h xs ys a b = b ∙ ap (λ t. found_in p t ys) a ∙ sym (in_parts p f xs ys)

pub three_found : (p : Option Place) (f g h k : Notes) (xs ys zs : List Finding) → g ≡ found_in p f xs → h ≡ found_in p g ys → k ≡ found_in p h zs
    → k ≡ found_in p f (xs ++ (ys ++ zs))
three_found p f g h k xs ys zs a b c = two_found p f g k xs (ys ++ zs) a (two_found p g h k ys zs b c)

-- what is known outside of one of them
pub found_at : (n : Names) (cs : List Capture) (outside : List (Option Named)) (i : ℕ) (d : Option Named) (x : Capture)
    → outside ≡ map (name_found n) cs → i < length cs → x ≡ get_or cs i x → get_or outside i d ≡ name_found n x
found_at n cs outside i d x e h s =
    ap (λ l. get_or l i d) e ∙ get_or-map (name_found n) cs i x d h ∙ ap (name_found n) (sym s)
