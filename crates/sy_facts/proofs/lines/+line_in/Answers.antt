use Rattle.std.proofs.Common.{refl}
use Rattle.sy_facts.proofs.FormLemmas.{field_is, node_Parenthesized}
use Rattle.sy_meaning.specs.Expressions.{Exp}
use Rattle.sy_facts.proofs.lines.+line_in.Goals as goal

pub returns-in-Parenthesized : goal.returns-in-Parenthesized
returns-in-Parenthesized t c = λ calls limit.
    field_is calls limit (λ (x : Exp). x.line) c.args.e.now _ c.get.result.now _ _ c.line_in.result c.in-Parenthesized.is (node_Parenthesized calls limit _ _) refl c.get.ensures (c.line_in.ensures calls limit)
