-- What an answer of a reader says of the runs of tokens from a place on.
use Rattle.std.proofs.Common.{◌≡◌, ℕ, ◌-◌, ◌<◌, ◌≤◌, Bool, true, false, List, [], length, drop, Option, Some, None, sym, ap, ◌∙◌, subst, arith, length-drop}
use Rattle.sy_lex.specs.declared.Token.{Token}
use Rattle.sy_tree.specs.declared.tree.Block.{Block}
use Rattle.sy_tree.specs.declared.tree.Expr.{Expr}
use Rattle.sy_tree.specs.Expressions.{Node, an_expr, a_block}
use Rattle.sy_tree.specs.Grammar.{Derives}
use Rattle.sy_tree.specs.Units.{IsExpression, IsBlock, ends}
use Rattle.sy_tree.proofs.Theorems.{Derives-takes}
use Rattle.sy_reading.specs.Input.{WithHeight}
use Rattle.sy_reading.specs.Reading.{read_expr, read_block}
use Rattle.sy_reading.proofs.AnswerLaws.{expr_found, block_found}
use Rattle.sy_reading.proofs.OneTreeLaws.{one_expr, one_block}
use Rattle.sy_reading.proofs.RunLaws.{runs_are_read, blocks_are_read}
use Rattle.sy_pexpr.specs.Runs.{IsOnlyExpression, IsOnlyBlock, HasNoExpression, HasNoBlock}

one : {Y : Type 0} (p q : Y) → Some p ≡ Some q → p ≡ q
one p q h = cc

same_answer : {A : Type 0} (o : Option (A × List Token)) (x y : A) (us vs : List Token) → o ≡ Some (x, us) → o ≡ Some (y, vs) → (x ≡ y) × (us ≡ vs)
same_answer {A} o x y us vs a b =
    let e = one {Y = A × List Token} (x, us) (y, vs) (sym a ∙ b) in
    (ap (λ p. p.0) e, ap (λ p. p.1) e)

-- a node takes a token, and behind the last there is none
none_left : (toks : List Token) (at n : ℕ) (x : Node) (rest : List Token) → length toks ≤ at → Derives n x (drop at toks) rest → ⊥
none_left toks at n x rest past d =
    let p = Derives-takes n x (drop at toks) rest d in
    omega (arith, p.enough, p.within, length-drop at toks)

module _ (toks : List Token) (at : ℕ) where
  -- ---- expressions

  pub only_run : (x : Expr) (end : ℕ) → IsExpression toks at x end → IsOnlyExpression toks at x end
  only_run x end run = λ y other also. one_expr toks at y x other end also run

  pub past_runs : length toks ≤ at → HasNoExpression toks at
  past_runs past = λ x end run. none_left toks at 64 (an_expr 1 x) (drop end toks) past run.derived

  pub no_answer : read_expr 64 1 (drop at toks) ≡ None → HasNoExpression toks at
  no_answer none = λ x end run. let again = runs_are_read toks at x end run in
      let clash : None ≡ Some ((x, again.0), drop end toks) = sym none ∙ again.1 in
      absurd (cc clash)

  pub not_ended : (t : WithHeight Expr) (rest : List Token) → read_expr 64 1 (drop at toks) ≡ Some (t, rest) → ends rest ≡ false → HasNoExpression toks at
  not_ended t rest answer unended = λ x end run. let again = runs_are_read toks at x end run in
      let same = same_answer {A = WithHeight Expr} (read_expr 64 1 (drop at toks)) t (x, again.0) rest (drop end toks) answer again.1 in
      let clash : false ≡ true = sym unended ∙ ap ends same.1 ∙ run.ended in
      absurd (cc clash)

  -- ---- blocks

  pub only_block : (b : Block) (end : ℕ) → IsBlock toks at b end → IsOnlyBlock toks at b end
  only_block b end block = λ c other also. one_block toks at c b other end also block

  pub past_blocks : length toks ≤ at → HasNoBlock toks at
  past_blocks past = λ b end block. none_left toks at 64 (a_block b) (drop end toks) past block.derived

  pub no_block : read_block 64 (drop at toks) ≡ None → HasNoBlock toks at
  no_block none = λ b end block. let again = blocks_are_read toks at b end block in
      let clash : None ≡ Some ((b, again.0), drop end toks) = sym none ∙ again.1 in
      absurd (cc clash)

  -- ---- the same of a list that is the rest

  module _ (ts : List Token) (is : ts ≡ drop at toks) where
    pub found_from : (t : WithHeight Expr) (rest : List Token) (end : ℕ) → at ≤ length toks → read_expr 64 1 ts ≡ Some (t, rest) → ends rest ≡ true → end ≡ length toks - length rest →
        IsExpression toks at t.0 end
    found_from t rest end within answer ended e =
        subst (λ k. IsExpression toks at t.0 k) (sym e) (expr_found toks at t rest within (subst (λ us. read_expr 64 1 us ≡ Some (t, rest)) is answer) ended)

    pub none_from : read_expr 64 1 ts ≡ None → HasNoExpression toks at
    none_from answer = no_answer (subst (λ us. read_expr 64 1 us ≡ None) is answer)

    pub unended_from : (t : WithHeight Expr) (rest : List Token) → read_expr 64 1 ts ≡ Some (t, rest) → ends rest ≡ false → HasNoExpression toks at
    unended_from t rest answer unended = not_ended t rest (subst (λ us. read_expr 64 1 us ≡ Some (t, rest)) is answer) unended

    pub block_from : (b : WithHeight Block) (rest : List Token) (end : ℕ) → at ≤ length toks → read_block 64 ts ≡ Some (b, rest) → end ≡ length toks - length rest → IsBlock toks at b.0 end
    block_from b rest end within answer e =
        subst (λ k. IsBlock toks at b.0 k) (sym e) (block_found toks at b rest within (subst (λ us. read_block 64 us ≡ Some (b, rest)) is answer))

    pub no_block_from : read_block 64 ts ≡ None → HasNoBlock toks at
    no_block_from answer = no_block (subst (λ us. read_block 64 us ≡ None) is answer)
