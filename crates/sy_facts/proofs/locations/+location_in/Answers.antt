use Rattle.std.proofs.Common.{◌∙◌, ap, refl}
use Rattle.sy_facts.proofs.FormLemmas.{field_is, node_Parenthesized, subscript_location}
use Rattle.sy_meaning.specs.Expressions.{Exp}
use Rattle.sy_meaning.specs.Locations.{element_of}
use Rattle.sy_meaning.specs.Turns.{expression}
use Rattle.sy_typed.specs.declared.tree.Typed.{Typed}
use Rattle.sy_facts.proofs.locations.+location_in.Goals as goal

pub returns-in_ok-location-in-Subscript : goal.returns-in_ok-location-in-Subscript
returns-in_ok-location-in-Subscript t c = λ calls limit.
    c.element_of.ensures
    ∙ ap (λ w. element_of w c.in_ok-location-in-Subscript.location) (c.in_ok-what-in-Subscript.ensures calls limit ∙ ap (λ (x : Typed). (expression calls limit x).what) c.get.ensures)
    ∙ ap (λ l. element_of (expression calls limit c.in-Subscript.a).what l) (c.in_ok-location-in-Subscript.ensures calls limit ∙ ap (λ (x : Typed). (expression calls limit x).location) c.get-in-Subscript.ensures)
    ∙ subscript_location calls limit c.args.e.now _ _ _ c.in-Subscript.is

pub returns-in-Parenthesized : goal.returns-in-Parenthesized
returns-in-Parenthesized t c = λ calls limit.
    field_is calls limit (λ (x : Exp). x.location) c.args.e.now _ c.get-in-Parenthesized.result.now _ _ c.location_in-in-Parenthesized.result c.in-Parenthesized.is (node_Parenthesized calls limit _ _) refl c.get-in-Parenthesized.ensures (c.location_in-in-Parenthesized.ensures calls limit)
