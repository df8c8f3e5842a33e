-- Trees of small sources.
use Rattle.std.proofs.Common.{ℕ, suc, [], ◌∷◌, refl, sym, subst, inl}
use Rattle.sy_note.specs.declared.Spot.{Spot}
use Rattle.sy_tree.specs.declared.tree.Block.{out-roll-Block}
use Rattle.sy_tree.specs.declared.tree.Expr.TheVariants as expr
use Rattle.sy_tree.specs.declared.tree.Stmt.TheVariants as stmt
use Rattle.sy_tree.specs.Examples.{here, empty_block, main_tokens, main_unit, return_tokens, return_stmt}
use Rattle.sy_tree.specs.Expressions.{a_block, a_stmt}
use Rattle.sy_tree.specs.Grammar.{Derives}
use Rattle.sy_tree.specs.Layers.{BlockLayer}
use Rattle.sy_tree.specs.Statements.{BlockRule}
use Rattle.sy_tree.specs.Units.{IsUnit}
use Rattle.sy_tree.specs.Words.{mark, keyword, identifier}

pub return_derives : (s : Spot) → Derives 2 (a_stmt (return_stmt s)) (return_tokens s) []
unfolding Derives
return_derives s = rw (stmt.outs-Return s _ s, expr.outs-Integer _) (_, _, (0, 0, refl), (0, 0, refl), (0, 0, refl))

block_derives : (n : ℕ) (s : Spot) → Derives (suc n) (a_block (empty_block s)) (here s (mark "{") ∷ here s (mark "}") ∷ []) []
unfolding Derives
block_derives n s =
    let layer : BlockLayer = record { spot = s; statements = []; close = s } in
    let braces : BlockRule (Derives n) layer (here s (mark "{") ∷ here s (mark "}") ∷ []) [] = (_, _, (0, 0, refl), refl, (0, 0, refl)) in
    subst (λ l. BlockRule (Derives n) l (here s (mark "{") ∷ here s (mark "}") ∷ []) []) (sym (out-roll-Block layer)) braces

pub main_is_unit : (s : Spot) → IsUnit (main_tokens s) (main_unit s)
unfolding mark keyword identifier
main_is_unit s = (_, _, refl, refl, (_, (_, _, _, _, _, inl (0, 0, refl), (0, 0, refl), (s, (0, 0, refl)), refl, (s, (0, 0, refl)), block_derives 63 s), refl))
