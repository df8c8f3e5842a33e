use Rattle.std.proofs.Common.{sym, ap, subst, ◌∙◌, to_z, of_z, Ok, FitsSigned}
use Rattle.std.specs.Prelude.{int_rem}
use Rattle.std.specs.Int.{w128}
use Rattle.sy_num.specs.Kinds.{InRange, is_in_range}
use Rattle.sy_num.specs.Scalars.{scalar}
use Rattle.sy_num.proofs.Residues.{InRange-fits, kept}
use Rattle.sy_num.proofs.Computed.{quotient_is, multiple_fits, remainder_is, remainder_in_range, remainder_represented, remainder_overflows}
use Rattle.sy_num.proofs.operators.remainder.Goals as goal

pub overflow_mul-result : goal.overflow_mul-result
overflow_mul-result c =
    multiple_fits c.args.kind c.args.x c.args.y c.requires.x_in_range c.requires.y_in_range

pub overflow_sub-result : goal.overflow_sub-result
overflow_sub-result c =
    let k = c.args.kind in
    let x = c.args.x in
    let y = c.args.y in
    let p : InRange k x = c.requires.x_in_range in
    subst (FitsSigned w128) (sym (remainder_is k x y p c.requires.y_in_range))
    (InRange-fits k (int_rem x y) (remainder_in_range k x y p))

pub invariant_of-result : goal.invariant_of-result
invariant_of-result c =
    let k = c.args.kind in
    let x = c.args.x in
    let y = c.args.y in
    let p : InRange k x = c.requires.x_in_range in
    let r : InRange k (int_rem x y) = remainder_in_range k x y p in
    subst (InRange k)
    (sym (ap (λ n. to_z w128 (of_z w128 n)) (remainder_is k x y p c.requires.y_in_range) ∙ kept k (int_rem x y) r)) r

pub returns-then-holds : goal.returns-then-holds
returns-then-holds c =
    let k = c.args.kind in
    let x = c.args.x in
    let y = c.args.y in
    let p : InRange k x = c.requires.x_in_range in
    let q : InRange k y = c.requires.y_in_range in
    let r : InRange k (int_rem x y) = remainder_in_range k x y p in
    ap (λ n. Ok (scalar k n)) (ap (λ n. to_z w128 (of_z w128 n)) (remainder_is k x y p q) ∙ kept k (int_rem x y) r)
    ∙ remainder_represented k x y c.if-y-eq0.false
    (ap (is_in_range k) (sym (quotient_is k x y p q)) ∙ sym c.holds.ensures.value ∙ c.if-holds.true)

pub returns-else-holds : goal.returns-else-holds
returns-else-holds c =
    let k = c.args.kind in
    let x = c.args.x in
    let y = c.args.y in
    remainder_overflows k x y c.if-y-eq0.false
    (ap (is_in_range k) (sym (quotient_is k x y c.requires.x_in_range c.requires.y_in_range)) ∙ sym c.holds.ensures.value
    ∙ c.if-holds.false)
