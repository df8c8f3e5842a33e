-- Writes to successive elements name no cell twice, and grow at their end.
use Rattle.std.proofs.Common.{◌≡◌, ℕ, ℤ, ◌+◌, ◌<◌, Bool, true, false, not, ◌&&◌, ◌||◌, ◌==◌, List, [], ◌∷◌, ◌++◌, length, get_or, take, refl, sym, ap, ◌∙◌, subst, arith}
use Rattle.std.specs.Prelude.{IsTrue}
use Rattle.std.proofs.lemmas.Bool.{and_from, ne_eqb}
use Rattle.std.proofs.lemmas.List.{take_more, length-take-le}
use Rattle.sy_access.specs.declared.cells.Cell.{Cell}
use Rattle.sy_access.specs.declared.cells.Cell.TheVariants.{Buffer}
use Rattle.sy_access.specs.Logs.{same_cell, is_logged, differ}
use Rattle.sy_work.specs.Moves.{writes_from}

and_false : (b : Bool) → (b && false) ≡ false
and_false true = refl
and_false false = refl

-- the elements of one root are told apart by their numbers
other_cell : (root e i : ℕ) → i < e → same_cell (Buffer root e) (Buffer root i) ≡ false
unfolding same_cell
other_cell root e i h = ap (λ b. (root == root) && b) (ne_eqb e i (λ same. omega arith)) ∙ and_false (root == root)

or_false : (x y : Bool) → x ≡ false → y ≡ false → (x || y) ≡ false
or_false x y first second = cc

not_before : (root e i : ℕ) (values : List ℤ) → i < e → is_logged (writes_from root e values) (Buffer root i) ≡ false
not_before root e i [] h = refl
not_before root e i (v ∷ values) h = or_false _ _ (other_cell root e i h) (not_before root (e + 1) i values (omega arith))

pub differ-writes_from : (root e : ℕ) (values : List ℤ) → IsTrue (differ (writes_from root e values))
differ-writes_from root e [] = refl
differ-writes_from root e (v ∷ values) = and_from _ _ (ap not (not_before root (e + 1) e values (omega arith))) (differ-writes_from root (e + 1) values)

pub writes_from-push : (root e i : ℕ) (values : List ℤ) (v : ℤ) → e + length values ≡ i → writes_from root e (values ++ v ∷ []) ≡ writes_from root e values ++ (Buffer root i, v) ∷ []
writes_from-push root e i [] v h = let at : e ≡ i = omega arith in ap (λ (n : ℕ). let w : Cell × ℤ = (Buffer root n, v) in w ∷ []) at
writes_from-push root e i (w ∷ values) v h = ap (λ (ws : List (Cell × ℤ)). let first : Cell × ℤ = (Buffer root e, w) in first ∷ ws) (writes_from-push root (e + 1) i values v (omega arith))

pub writes_from-more : (root e k : ℕ) (values : List ℤ) (d : ℤ) (ws : List (Cell × ℤ)) → k < length values → ws ≡ writes_from root e (take k values) → writes_from root e (take (k + 1) values) ≡ ws ++ (Buffer root (e + k), get_or values k d) ∷ []
writes_from-more root e k values d ws short so_far =
    let taken : length (take k values) ≡ k = length-take-le k values (omega arith) in
    let one : Cell × ℤ = (Buffer root (e + k), get_or values k d) in
    let pushed : writes_from root e (take k values ++ get_or values k d ∷ []) ≡ writes_from root e (take k values) ++ one ∷ [] = writes_from-push root e (e + k) (take k values) (get_or values k d) (omega arith) in
    ap (writes_from root e) (take_more values k d short) ∙ (pushed ∙ ap (λ (xs : List (Cell × ℤ)). xs ++ one ∷ []) (sym so_far))

pub differ-same : (root e : ℕ) (values : List ℤ) (ws : List (Cell × ℤ)) → ws ≡ writes_from root e values → IsTrue (differ ws)
differ-same root e values ws same = let P : List (Cell × ℤ) → Type 0 = λ xs. IsTrue (differ xs) in subst P (sym same) (differ-writes_from root e values)
