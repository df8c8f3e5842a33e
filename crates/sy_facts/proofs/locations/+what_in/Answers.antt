use Rattle.std.proofs.Common.{refl}
use Rattle.sy_facts.proofs.FormLemmas.{field_is, node_Parenthesized, own_what}
use Rattle.sy_meaning.specs.Expressions.{Exp}
use Rattle.sy_facts.proofs.locations.+what_in.Goals as goal

pub returns-in-Parenthesized : goal.returns-in-Parenthesized
returns-in-Parenthesized t c = λ calls limit.
    field_is calls limit (λ (x : Exp). x.what) c.args.e.now _ c.get.result.now _ _ c.what_in.result c.in-Parenthesized.is (node_Parenthesized calls limit _ _) refl c.get.ensures (c.what_in.ensures calls limit)

pub returns-in_default : goal.returns-in_default
returns-in_default t c = λ calls limit. own_what calls limit c.args.e.now c.in_default.not-Parenthesized
