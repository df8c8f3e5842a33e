-- What is told in one step after another.
use Rattle.std.proofs.Common.{◌≡◌, List, [], ◌∷◌, ◌++◌, Option, ap, subst, sym, ◌∙◌}
use Rattle.sy_note.specs.declared.Code.{Code}
use Rattle.sy_note.specs.declared.Diagnostic.{Diagnostic}
use Rattle.sy_note.specs.declared.Spot.{Spot}
use Rattle.sy_note.specs.declared.Code.TheVariants as code
use Rattle.sy_rules.specs.declared.seen.SeenArgument.{SeenArgument}
use Rattle.sy_rules.specs.ExprRules.{unread_argument, unread_arguments}
use Rattle.sy_rules.specs.Faults.{at}
use Rattle.sy_findings.specs.Told.{told}
use Rattle.sy_findings.proofs.ToldLemmas.{told-append, told_at, told-nothing}

-- two rules
pub then_told : (f g h : Option Diagnostic) (xs ys : List Diagnostic) → g ≡ told f xs → h ≡ told g ys → h ≡ told f (xs ++ ys)
then_told f g h xs ys a b = b ∙ (ap (λ w. told w ys) a ∙ sym (told-append f xs ys))

-- two places of one rule
pub then_at : (c : Code) (f g h : Option Diagnostic) (xs ys : List Spot) → g ≡ told f (at c xs) → h ≡ told g (at c ys) → h ≡ told f (at c (xs ++ ys))
then_at c f g h xs ys a b = b ∙ (ap (λ w. told w (at c ys)) a ∙ sym (told_at f c xs ys))

-- a rule that can't be broken behind the last one
pub and_no_more : (f h : Option Diagnostic) (xs : List Diagnostic) → h ≡ told f xs → h ≡ told f (xs ++ [])
and_no_more f h xs a = a ∙ sym (told-nothing f xs)

-- one argument of several
pub one_argument_more : (f g : Option Diagnostic) (xs rest : List SeenArgument) (y x : SeenArgument) → xs ≡ y ∷ rest → x ≡ y
    → g ≡ told f (at code.ModeBroken (unread_argument x))
    → told g (at code.ModeBroken (unread_arguments rest)) ≡ told f (at code.ModeBroken (unread_arguments xs))
one_argument_more f g xs rest y x e s a =
    ap (λ w. told w (at code.ModeBroken (unread_arguments rest))) (subst (λ v. g ≡ told f (at code.ModeBroken (unread_argument v))) s a)
    ∙ (sym (told_at f code.ModeBroken (unread_argument y) (unread_arguments rest))
    ∙ ap (λ zs. told f (at code.ModeBroken (unread_arguments zs))) (sym e))
