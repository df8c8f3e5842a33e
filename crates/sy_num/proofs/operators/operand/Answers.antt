use Rattle.std.proofs.Common.{rules, ◌≡◌, sym, ap, ◌∙◌, to_z, of_z}
use Rattle.std.specs.Int.{w128}
use Rattle.sy_num.specs.Kinds.{InRange}
use Rattle.sy_num.specs.Scalars.{converted_num}
use Rattle.sy_num.proofs.Residues.{kept}
use Rattle.sy_num.proofs.Theorems.{converted_identity}
use Rattle.sy_num.proofs.operators.operand.Goals as goal

pub returns-then-eq-clause-value : goal.returns-then-eq-clause-value
returns-then-eq-clause-value c =
    let k = c.args.kind in
    let n = c.value.inside.num in
    let e : n ≡ c.args.value.num = ap (λ v. v.num) c.value.view_is in
    let r : InRange k (to_z w128 (of_z w128 n)) = search rules in
    let back : to_z w128 (of_z w128 n) ≡ n = kept c.value.inside.kind n c.value.invariant in
    sym (converted_identity k (to_z w128 (of_z w128 n)) r) ∙ ap (converted_num k) (back ∙ e)
