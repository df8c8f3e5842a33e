use Rattle.std.proofs.Common.{sym, ap, subst, ◌∙◌, ◌^◌, unsigned_abs, Ok}
use Rattle.std.specs.Int.{w128}
use Rattle.std.proofs.lemmas.Int.{to_z-of_z}
use Rattle.sy_num.specs.Kinds.{InRange}
use Rattle.sy_num.specs.Scalars.{scalar}
use Rattle.sy_num.specs.Operators.{is_count}
use Rattle.sy_num.proofs.Computed.{shr_is, floor_in_range, shifted_right_counted}
use Rattle.sy_num.proofs.operators.shifted_right.Goals as goal

pub invariant_of-result : goal.invariant_of-result
invariant_of-result c =
    let k = c.args.kind in
    let x = c.args.x in
    let n = c.args.count in
    subst (InRange k) (sym (shr_is k x n c.requires c.ranges.count)) (floor_in_range k x (2 ^ unsigned_abs n) c.requires)

pub returns-then-is_count : goal.returns-then-is_count
returns-then-is_count c =
    let k = c.args.kind in
    let x = c.args.x in
    let n = c.args.count in
    ap (λ z. Ok (scalar k z)) (shr_is k x n c.requires c.ranges.count)
    ∙ shifted_right_counted k x n
    (ap (is_count k) (sym (to_z-of_z w128 n c.ranges.count)) ∙ sym c.is_count.ensures ∙ c.if-is_count.true)
