use Rattle.std.proofs.Common.{◌∙◌, ap, ℤ}
use Rattle.std.specs.Int.{w128}
use Rattle.std.proofs.lemmas.Int.{to_z-of_z}
use Rattle.sy_num.specs.Operators.{applied}
use Rattle.sy_num.specs.Scalars.{Scalar, scalar, converted_num}
use Rattle.sy_num.specs.declared.Kind.{Kind}
use Rattle.sy_words.specs.Operands.{left_kind}
use Rattle.sy_words.proofs.OperandLemmas.{operands_converted}
use Rattle.sy_words.proofs.operators.apply_to.Goals as goal

pub returns : goal.returns
returns c =
    let op = c.args.op in
    let j = c.args.j in
    let k = c.args.k in
    let x = c.args.left in
    let y = c.args.right in
    let turned : ℤ → Kind → Scalar = λ z k. scalar k (converted_num k z) in
    c.worded.ensures
    ∙ c.apply.ensures
    ∙ ap (λ a. applied op a c.operand-y.result) (c.operand-x.ensures ∙ ap (λ z. turned z c.left_kind.result) (to_z-of_z w128 x c.ranges.left) ∙ ap (turned x) c.left_kind.ensures)
    ∙ ap (applied op (turned x (left_kind op j k))) (c.operand-y.ensures ∙ ap (λ z. turned z c.right_kind.result) (to_z-of_z w128 y c.ranges.right) ∙ ap (turned y) c.right_kind.ensures)
    ∙ operands_converted op (scalar j x) (scalar k y)
