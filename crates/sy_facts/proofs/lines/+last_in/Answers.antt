use Rattle.std.proofs.Common.{refl}
use Rattle.sy_facts.proofs.FormLemmas.{field_is, node_Binary, node_Cast, node_Conditional, node_Prefix, node_Unary}
use Rattle.sy_meaning.specs.Expressions.{Exp}
use Rattle.sy_facts.proofs.lines.+last_in.Goals as goal

pub returns-in-Prefix : goal.returns-in-Prefix
returns-in-Prefix t c = λ calls limit.
    field_is calls limit (λ (x : Exp). x.last) c.args.e.now _ c.get.result.now _ _ c.last_in.result c.in-Prefix.is (node_Prefix calls limit _ _) refl c.get.ensures (c.last_in.ensures calls limit)

pub returns-in-Unary : goal.returns-in-Unary
returns-in-Unary t c = λ calls limit.
    field_is calls limit (λ (x : Exp). x.last) c.args.e.now _ c.get-in-Unary.result.now _ _ c.last_in-in-Unary.result c.in-Unary.is (node_Unary calls limit _ _) refl c.get-in-Unary.ensures (c.last_in-in-Unary.ensures calls limit)

pub returns-in-Cast : goal.returns-in-Cast
returns-in-Cast t c = λ calls limit.
    field_is calls limit (λ (x : Exp). x.last) c.args.e.now _ c.get-in-Cast.result.now _ _ c.last_in-in-Cast.result c.in-Cast.is (node_Cast calls limit _) refl c.get-in-Cast.ensures (c.last_in-in-Cast.ensures calls limit)

pub returns-in-Binary : goal.returns-in-Binary
returns-in-Binary t c = λ calls limit.
    field_is calls limit (λ (x : Exp). x.last) c.args.e.now _ c.get-in-Binary.result.now _ _ c.last_in-in-Binary.result c.in-Binary.is (node_Binary calls limit _ _ _) refl c.get-in-Binary.ensures (c.last_in-in-Binary.ensures calls limit)

pub returns-in-Conditional : goal.returns-in-Conditional
returns-in-Conditional t c = λ calls limit.
    field_is calls limit (λ (x : Exp). x.last) c.args.e.now _ c.get-in-Conditional.result.now _ _ c.last_in-in-Conditional.result c.in-Conditional.is (node_Conditional calls limit _ _ _) refl c.get-in-Conditional.ensures (c.last_in-in-Conditional.ensures calls limit)
