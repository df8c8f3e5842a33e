use Rattle.std.proofs.Common.{◌∙◌, ap}
use Rattle.std.specs.Int.{w128}
use Rattle.std.proofs.lemmas.Int.{to_z-of_z}
use Rattle.sy_num.specs.Operators.{applied_one}
use Rattle.sy_num.specs.Scalars.{scalar, converted_num}
use Rattle.sy_words.proofs.OperandLemmas.{operand_converted}
use Rattle.sy_words.proofs.operators.apply_one_to.Goals as goal

pub returns : goal.returns
returns c =
    let op = c.args.op in
    let z = c.args.num in
    c.worded.ensures
    ∙ c.apply_one.ensures
    ∙ ap (applied_one op) (c.operand-x.ensures ∙ ap (λ z. scalar c.operand_kind.result (converted_num c.operand_kind.result z)) (to_z-of_z w128 z c.ranges.num) ∙ ap (λ k. scalar k (converted_num k z)) c.operand_kind.ensures)
    ∙ operand_converted op (scalar c.args.kind z)
