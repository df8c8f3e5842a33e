-- A node is ready exactly where it is pending and no pending earlier node comes before it.
use Rattle.std.proofs.Common.{◌≡◌, ℕ, zero, suc, ◌+◌, ◌<◌, List, [], ◌∷◌, length, take, Bool, true, false, not, ◌||◌, Option, Some, None, refl, sym, ap, ◌∙◌, subst, arith, add-zero}
use Rattle.std.specs.Prelude.{slice_get}
use Rattle.std.specs.List.{list_any, enumerate_from}
use Rattle.std.proofs.lemmas.Option.{slice_get_within}
use Rattle.sy_graph.specs.declared.node.Node.{Node}
use Rattle.sy_graph.specs.Before.{before, holds, is_held, is_free, is_ready, IsReady}

pub slice_get-take : {A : Type 0} (n m : ℕ) (xs : List A) → m < n → slice_get (take n xs) m ≡ slice_get xs m
slice_get-take zero m xs lt = absurd (omega arith)
slice_get-take (suc n) m [] lt = refl
slice_get-take (suc n) zero (x ∷ xs) lt = refl
slice_get-take (suc n) (suc m) (x ∷ xs) lt = slice_get-take n m xs (omega arith)

slice_get-take_past : {A : Type 0} (n m : ℕ) (xs : List A) (x : A) → slice_get (take n xs) m ≡ Some x → m < n
slice_get-take_past zero m xs x e = cc
slice_get-take_past (suc n) m [] x e = cc
slice_get-take_past (suc n) zero (y ∷ xs) x e = omega arith
slice_get-take_past (suc n) (suc m) (y ∷ xs) x e = let h = slice_get-take_past n m xs x e in omega arith

or_first : (a b : Bool) → (a || b) ≡ false → a ≡ false
or_first false b e = refl
or_first true b e = e

or_rest : (a b : Bool) → (a || b) ≡ false → b ≡ false
or_rest false b e = e
or_rest true b e = absurd cc

held : ℕ → List (Option Node) → Node → Bool
held k xs y = list_any (λ e. holds y e.0 e.1) (enumerate_from k xs)

none_held : (k : ℕ) (xs : List (Option Node)) (y : Node) → held k xs y ≡ false → (m : ℕ) (x : Node) → slice_get xs m ≡ Some (Some x) → before x (k + m) y ≡ false
unfolding held
none_held k [] y h m x e = cc
none_held k (o ∷ xs) y h zero x e =
    let same : o ≡ Some x = cc in
    let first = or_first (holds y k o) (held (k + 1) xs y) h in
    rw (add-zero) (subst (λ (v : Option Node). holds y k v ≡ false) same first)
none_held k (o ∷ xs) y h (suc m) x e =
    let at : k + 1 + m ≡ k + suc m = omega arith in
    subst (λ (v : ℕ). before x v y ≡ false) at (none_held (k + 1) xs y (or_rest (holds y k o) _ h) m x e)

held_none : (k : ℕ) (xs : List (Option Node)) (y : Node) → ((m : ℕ) (x : Node) → slice_get xs m ≡ Some (Some x) → before x (k + m) y ≡ false) → held k xs y ≡ false
unfolding held
held_none k [] y none = refl
held_none k (None ∷ xs) y none =
    held_none (k + 1) xs y (λ m x e. let at : k + suc m ≡ k + 1 + m = omega arith in subst (λ (v : ℕ). before x v y ≡ false) at (none (suc m) x e))
held_none k (Some z ∷ xs) y none =
    let first : before z k y ≡ false = (let at : k + 0 ≡ k = omega arith in subst (λ (v : ℕ). before z v y ≡ false) at (none 0 z refl)) in
    rw first (held_none (k + 1) xs y (λ m x e. let at : k + suc m ≡ k + 1 + m = omega arith in subst (λ (v : ℕ). before x v y ≡ false) at (none (suc m) x e)))

not_true : (b : Bool) → not b ≡ true → b ≡ false
not_true false e = refl
not_true true e = sym e

free_tells : (nodes : List (Option Node)) (n : ℕ) (o : Option (Option Node)) → slice_get nodes n ≡ o → is_free (take n nodes) o ≡ true → IsReady nodes n
unfolding is_held held
free_tells nodes n None e h = absurd cc
free_tells nodes n (Some None) e h = absurd cc
free_tells nodes n (Some (Some y)) e h =
    let none = none_held 0 (take n nodes) y (not_true _ h) in
    (y, e, λ m x lt at. let zero_m : 0 + m ≡ m = omega arith in subst (λ (v : ℕ). before x v y ≡ false) zero_m (none m x (slice_get-take n m nodes lt ∙ at)))

pub ready_tells : (nodes : List (Option Node)) (n : ℕ) → is_ready nodes n ≡ true → IsReady nodes n
unfolding is_ready
ready_tells nodes n h = free_tells nodes n (slice_get nodes n) refl h

not_false : (b : Bool) → b ≡ false → not b ≡ true
not_false b e = ap not e

pub ready_from : (nodes : List (Option Node)) (n : ℕ) → IsReady nodes n → is_ready nodes n ≡ true
unfolding is_ready is_held held
ready_from nodes n (y, e, none) =
    let free : held 0 (take n nodes) y ≡ false =
    held_none 0 (take n nodes) y (λ m x at.
    let lt = slice_get-take_past n m nodes (Some x) at in
    let zero_m : m ≡ 0 + m = omega arith in
    subst (λ (v : ℕ). before x v y ≡ false) zero_m (none m x lt (sym (slice_get-take n m nodes lt) ∙ at))) in
    rw e (not_false _ free)

pub ready_within : (nodes : List (Option Node)) (n : ℕ) → is_ready nodes n ≡ true → n < length nodes
ready_within nodes n h = slice_get_within nodes n (Some (ready_tells nodes n h).0) (ready_tells nodes n h).1
