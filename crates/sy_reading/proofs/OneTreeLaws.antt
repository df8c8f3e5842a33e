-- There is one tree at most, since what is in the grammar is read.
use Rattle.std.proofs.Common.{◌≡◌, ℕ, ◌-◌, ◌≤◌, List, length, drop, Option, Some, refl, sym, ap, ◌∙◌, arith}
use Rattle.std.proofs.lemmas.List.{length-drop}
use Rattle.sy_lex.specs.declared.Token.{Token}
use Rattle.sy_reading.specs.Input.{WithHeight}
use Rattle.sy_reading.specs.Laws.{OneExpr, OneBlock}
use Rattle.sy_reading.proofs.RunLaws.{runs_are_read, blocks_are_read}

single : {A : Type 0} (p q : A) → Some p ≡ Some q → p ≡ q
single p q h = cc

-- what is left tells where it begins
same_end : (tokens : List Token) (m n : ℕ) → m ≤ length tokens → n ≤ length tokens → drop m tokens ≡ drop n tokens → m ≡ n
same_end tokens m n a b h =
    let p : length (drop m tokens) ≡ length tokens - m = length-drop m tokens in
    let q : length (drop n tokens) ≡ length tokens - n = length-drop n tokens in
    let same : length (drop m tokens) ≡ length (drop n tokens) = ap length h in
    omega (arith, a, b, p, q, same)

one_of : {T : Type 0} (o : Option (WithHeight T × List Token)) (tokens : List Token) (end other : ℕ) (p q : WithHeight T × List Token) →
    o ≡ Some p → o ≡ Some q → p.1 ≡ drop end tokens → q.1 ≡ drop other tokens → end ≤ length tokens → other ≤ length tokens → (p.0.0 ≡ q.0.0) × (end ≡ other)
one_of o tokens end other p q e f a b within also =
    let same : p ≡ q = single p q (sym e ∙ f) in
    (ap (λ z. z.0.0) same, same_end tokens end other within also (sym a ∙ ap (λ z. z.1) same ∙ b))

pub one_expr : OneExpr
one_expr tokens at x y end other first second =
    let p = runs_are_read tokens at x end first in
    let q = runs_are_read tokens at y other second in
    one_of _ tokens end other _ _ p.1 q.1 refl refl first.within second.within

pub one_block : OneBlock
one_block tokens at x y end other first second =
    let p = blocks_are_read tokens at x end first in
    let q = blocks_are_read tokens at y other second in
    one_of _ tokens end other _ _ p.1 q.1 refl refl first.within second.within
