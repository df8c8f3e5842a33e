use Rattle.std.proofs.Common.{◌≡◌, sym, ap, ◌∙◌, subst, arith, ℤ, ◌-ℤ◌, ◌<ℤ◌, ◌≤ℤ◌, to_z, of_z}
use Rattle.std.specs.Int.{w128, int_rem_euclid}
use Rattle.std.proofs.lemmas.Int.{ints, to_z-of_z}
use Rattle.sy_num.specs.Kinds.{InRange}
use Rattle.sy_num.specs.Scalars.{modulus, reduced}
use Rattle.sy_num.proofs.Residues.{reduced_to_residue, reduced_below_residue, InRange-fits}
use Rattle.sy_words.proofs.numbers.reduced.Goals as goal

pub returns-then-low_bits-greatest-clause-value : goal.returns-then-low_bits-greatest-clause-value
returns-then-low_bits-greatest-clause-value c =
    let k = c.args.kind in
    let z = c.args.num in
    let r = c.low_bits-low_bits.result in
    let rs : to_z w128 (of_z w128 r) ≡ r = to_z-of_z w128 r (record { sfits = c.low_bits-low_bits.type_inv }) in
    let zs : to_z w128 (of_z w128 z) ≡ z = to_z-of_z w128 z c.ranges.num in
    let e : r ≡ int_rem_euclid z (modulus k) = c.low_bits-low_bits.ensures ∙ ap (λ n. int_rem_euclid n (modulus k)) zs in
    let g : r ≤ℤ c.greatest.result = omega (arith, ints) in
    let P : ℤ → Type 0 = λ n. r ≤ℤ n in
    rs ∙ sym (reduced_to_residue k z r e (subst P c.greatest.ensures g)).1

below : (c : goal.After-modulus) → (c.low_bits-low_bits.result -ℤ modulus c.args.kind ≡ to_z w128 (of_z w128 (to_z w128 (of_z w128 c.low_bits-low_bits.result) -ℤ to_z w128 (of_z w128 c.modulus.result)))) × (InRange c.args.kind (c.low_bits-low_bits.result -ℤ modulus c.args.kind) × (reduced c.args.kind c.args.num ≡ c.low_bits-low_bits.result -ℤ modulus c.args.kind))
below c =
    let k = c.args.kind in
    let z = c.args.num in
    let r = c.low_bits-low_bits.result in
    let m = c.modulus.result in
    let rs : to_z w128 (of_z w128 r) ≡ r = to_z-of_z w128 r (record { sfits = c.low_bits-low_bits.type_inv }) in
    let zs : to_z w128 (of_z w128 z) ≡ z = to_z-of_z w128 z c.ranges.num in
    let ms : to_z w128 (of_z w128 m) ≡ m = to_z-of_z w128 m (record { sfits = c.modulus.type_inv }) in
    let e : r ≡ int_rem_euclid z (modulus k) = c.low_bits-low_bits.ensures ∙ ap (λ n. int_rem_euclid n (modulus k)) zs in
    let g : c.greatest.result <ℤ r = omega (arith, ints) in
    let P : ℤ → Type 0 = λ n. n <ℤ r in
    let b : InRange k (r -ℤ modulus k) × (reduced k z ≡ r -ℤ modulus k) = reduced_below_residue k z r e (subst P c.greatest.ensures g) in
    let back : to_z w128 (of_z w128 (r -ℤ modulus k)) ≡ r -ℤ modulus k = to_z-of_z w128 (r -ℤ modulus k) (InRange-fits k (r -ℤ modulus k) b.0) in
    (sym (ap (λ n. to_z w128 (of_z w128 (n -ℤ to_z w128 (of_z w128 m)))) rs ∙ ap (λ n. to_z w128 (of_z w128 (r -ℤ n))) (ms ∙ c.modulus.ensures) ∙ back), b)

pub returns-else-low_bits-greatest-clause-value : goal.returns-else-low_bits-greatest-clause-value
returns-else-low_bits-greatest-clause-value c = sym (below c).0 ∙ sym (below c).1.1

pub returns-else-low_bits-greatest-clause-in_range :
    goal.returns-else-low_bits-greatest-clause-in_range
returns-else-low_bits-greatest-clause-in_range c = subst (InRange c.args.kind) (below c).0 (below c).1.0
