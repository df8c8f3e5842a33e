-- What the answer of a reader says of the tokens from a place on.
use Rattle.std.proofs.Common.{◌≡◌, ℕ, ◌+◌, ◌-◌, ◌≤◌, true, List, length, drop, Some, ap, ◌∙◌, subst, arith, length-drop, drop-drop}
use Rattle.sy_lex.specs.declared.Token.{Token}
use Rattle.sy_tree.specs.declared.tree.Block.{Block}
use Rattle.sy_tree.specs.declared.tree.Expr.{Expr}
use Rattle.sy_tree.specs.Expressions.{an_expr, a_block}
use Rattle.sy_tree.specs.Grammar.{Derives, Passes}
use Rattle.sy_tree.specs.Units.{IsExpression, IsBlock, ends}
use Rattle.sy_tree.proofs.Theorems.{Derives-taller, Derives-takes}
use Rattle.sy_reading.specs.Input.{WithHeight}
use Rattle.sy_reading.specs.Reading.{readers, read_expr, read_block}
use Rattle.sy_reading.proofs.SoundLaws.{reads_sound}
use Rattle.sy_reading.proofs.StmtSoundLemmas.{one_block_is}

module _ (toks : List Token) (at : ℕ) where
  -- where the rest begins
  rest_is : (rest : List Token) → at ≤ length toks → Passes 1 (drop at toks) rest → rest ≡ drop (length toks - length rest) toks
  rest_is rest within p =
      let there : rest ≡ drop (at + p.taken) toks = p.is ∙ drop-drop p.taken at toks in
      let count : at + p.taken ≡ length toks - length rest = omega (arith, p.within, length-drop at toks, ap length there, length-drop (at + p.taken) toks) in
      there ∙ ap (λ k. drop k toks) count

  pub expr_found : (t : WithHeight Expr) (rest : List Token) → at ≤ length toks → read_expr 64 1 (drop at toks) ≡ Some (t, rest) → ends rest ≡ true →
      IsExpression toks at t.0 (length toks - length rest)
  expr_found t rest within answer ended =
      let s = (reads_sound 64).0 1 (drop at toks) rest t (omega arith) (omega arith) answer in
      let d = Derives-taller t.1 64 s.0.1 (an_expr 1 t.0) (drop at toks) rest s.0.0 in
      let e = rest_is rest within (Derives-takes 64 (an_expr 1 t.0) (drop at toks) rest d) in
      record {
        within = omega arith;
        derived = subst (λ r. Derives 64 (an_expr 1 t.0) (drop at toks) r) e d;
        ended = subst (λ r. ends r ≡ true) e ended;
      }

  pub block_found : (b : WithHeight Block) (rest : List Token) → at ≤ length toks → read_block 64 (drop at toks) ≡ Some (b, rest) →
      IsBlock toks at b.0 (length toks - length rest)
  block_found b rest within answer =
      let s = one_block_is (readers 64).0 (readers 64).1 (reads_sound 64).1 (drop at toks) rest b answer in
      let d = Derives-taller b.1 64 s.1 (a_block b.0) (drop at toks) rest s.0 in
      let e = rest_is rest within (Derives-takes 64 (a_block b.0) (drop at toks) rest d) in
      record {
        within = omega arith;
        derived = subst (λ r. Derives 64 (a_block b.0) (drop at toks) r) e d;
      }
