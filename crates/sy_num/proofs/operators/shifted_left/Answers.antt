use Rattle.std.proofs.Common.{◌≡◌, sym, ap, ◌∙◌, arith, pos, ◌≤ℤ◌, false, Ok}
use Rattle.std.specs.Prelude.{int_lt}
use Rattle.std.specs.Int.{w128}
use Rattle.std.proofs.lemmas.Int.{ints, to_z-of_z}
use Rattle.sy_num.specs.Scalars.{scalar}
use Rattle.sy_num.specs.Operators.{is_count}
use Rattle.sy_num.proofs.Computed.{shl_is, shifted_left_counted}
use Rattle.sy_num.proofs.operators.shifted_left.Goals as goal

pub returns-else-x-lt0 : goal.returns-else-x-lt0
returns-else-x-lt0 c =
    let k = c.args.kind in
    let x = c.args.x in
    let n = c.args.count in
    let not_negative : pos 0 ≤ℤ x = omega (arith, ints) in
    let tested : int_lt x (pos 0) ≡ false =
    ap (λ z. int_lt z (pos 0)) (sym (to_z-of_z w128 x c.ranges.x)) ∙ c.if-x-lt0.false in
    ap Ok (c.wrapped.ensures ∙ ap (scalar k) (shl_is k x n not_negative c.ranges.count))
    ∙ shifted_left_counted k x n
    (ap (is_count k) (sym (to_z-of_z w128 n c.ranges.count)) ∙ sym c.is_count.ensures ∙ c.if-not-is_count.false) tested
