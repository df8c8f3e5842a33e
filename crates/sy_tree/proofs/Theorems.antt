-- The laws of the grammar, by induction on the height.
use Rattle.std.proofs.Common.{◌≡◌, ℕ, zero, suc, ◌≤◌, true, List, arith}
use Rattle.sy_lex.specs.declared.Token.{Token}
use Rattle.sy_tree.specs.declared.tree.Expr.{Expr, out-Expr}
use Rattle.sy_tree.specs.Beginnings.{opens, first}
use Rattle.sy_tree.specs.Expressions.{Node, an_expr}
use Rattle.sy_tree.specs.Grammar.{Derives, Passes}
use Rattle.sy_tree.proofs.Begins.{NodeRule-begins}
use Rattle.sy_tree.proofs.Fronts.{NodeRule-takes}
use Rattle.sy_tree.proofs.Maps.{NodeRule-map, ExprRule-looser}

pub Derives-taller : (n m : ℕ) → n ≤ m → (x : Node) (from rest : List Token) → Derives n x from rest → Derives m x from rest
unfolding Derives
Derives-taller zero m le x from rest h = absurd h
Derives-taller (suc n) zero le x from rest h = absurd (omega arith)
Derives-taller (suc n) (suc m) le x from rest h =
    let smaller : n ≤ m = omega arith in
    NodeRule-map (Derives n) (Derives m) (Derives-taller n m smaller) x from rest h

pub Derives-looser : (n tight loose : ℕ) → loose ≤ tight → (x : Expr) (from rest : List Token) →
    Derives n (an_expr tight x) from rest → Derives n (an_expr loose x) from rest
unfolding Derives
Derives-looser zero tight loose le x from rest h = h
Derives-looser (suc n) tight loose le x from rest h = ExprRule-looser (Derives n) tight loose le (out-Expr x) from rest h

pub Derives-takes : (n : ℕ) (x : Node) (from rest : List Token) → Derives n x from rest → Passes 1 from rest
unfolding Derives
Derives-takes zero x from rest h = absurd h
Derives-takes (suc n) x from rest h = NodeRule-takes (Derives n) (Derives-takes n) x from rest h

pub Derives-begins : (n : ℕ) (x : Node) (from rest : List Token) → Derives n x from rest → first (opens x) from ≡ true
unfolding Derives
Derives-begins zero x from rest h = absurd h
Derives-begins (suc n) x from rest h = NodeRule-begins (Derives n) (Derives-begins n) x from rest h
