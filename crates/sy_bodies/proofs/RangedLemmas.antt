-- A range-for, from its head to its body.
use Rattle.std.proofs.Common.{◌≡◌, Bool, ◌&&◌, ◌||◌, ap, ◌∙◌, Option}
use Rattle.sy_bodies.proofs.StepLemmas.{after_step, declared_step}
use Rattle.sy_found.specs.Noted.{Notes, found_in}
use Rattle.sy_looks.specs.Looked.{looked}
use Rattle.sy_looks.specs.declared.walk.Walk.{Walk}
use Rattle.sy_note.specs.declared.Spot.{Spot}
use Rattle.sy_rules.specs.declared.names.Named.{Named}
use Rattle.sy_rules.specs.declared.names.Names.{Names}
use Rattle.sy_rules.specs.declared.statements.Standing.TheVariants as standing
use Rattle.sy_rules.specs.ExprTypes.{variable}
use Rattle.sy_rules.specs.Names.{look_up}
use Rattle.sy_rules.specs.Outcome.{known_as}
use Rattle.sy_rules.specs.StmtRules.{element_given}
use Rattle.sy_rules.specs.Walk.{St, looped, ranged_type, ranged_fixed, ranged_variable, range_found, ranged_name, range_for, range_for_over}
use Rattle.sy_tree.specs.declared.parts.Lexeme.{Lexeme}
use Rattle.sy_tree.specs.declared.parts.TypeSpecifier.{TypeSpecifier}
use Rattle.sy_typed.specs.declared.tree.TypedStmt.{TypedStmt}
use Rattle.sy_typed.specs.declared.tree.TypedStmt.TheVariants as typed
use Rattle.sy_typed.specs.declared.tree.Variable.{Variable}

pub ranged_looked : (s : Spot) (c : Bool) (t : TypeSpecifier) (r : Bool) (x v : Lexeme) (a : St) (w : Walk) (named : Option Named) (f : Notes) (n : Names) (element whole : Variable) (m : Walk) (y : TypedStmt) →
    named ≡ look_up w.names.entries v.text →
    f ≡ found_in w.place w.found (range_found w.names c t r x v named) →
    n ≡ ranged_name r x (element_given t (ranged_type named)) (c || (r && ranged_fixed named)) w.names →
    element ≡ variable w.names.next (element_given t (ranged_type named)) x.spot →
    whole ≡ ranged_variable named v.spot →
    (y, m) ≡ looked (looped (a standing.AsBody)) (record w { found = f; names = n }) →
    (typed.RangeFor s element r whole y, m) ≡ looked (range_for s c t r x v a) w
ranged_looked s c t r x v a w named f n element whole m y ek ef en ee eo h =
    let given = element_given t (ranged_type named) in
    let g : Names → TypedStmt → TypedStmt = λ n y. typed.RangeFor s (variable n.next given x.spot) r (ranged_variable named v.spot) y in
    let d : Names → Names = ranged_name r x given (c || (r && ranged_fixed named)) in
    ap (λ z. (typed.RangeFor s z r whole y, m)) ee
    ∙ ap (λ z. (typed.RangeFor s (variable w.names.next given x.spot) r z y, m)) eo
    ∙ after_step (λ n. range_found n c t r x v named) (λ n. known_as (g n) (looped (a standing.AsBody) (d n))) w f m (g w.names y) ef
    (declared_step g d (looped (a standing.AsBody)) (record w { found = f }) n m y en h)
    ∙ ap (λ z. looked (range_for_over s c t r x v z a) w) ek
