-- Ready nodes and entries that may take effect.
use Rattle.std.proofs.Common.{◌≡◌, ℕ, zero, suc, ◌+◌, ◌<◌, List, [], ◌∷◌, length, take, Bool, true, false, Option, Some, refl, sym, ap, ◌∙◌, subst, arith}
use Rattle.std.specs.Prelude.{slice_get, not, ◌&&◌, ◌||◌, ◌==◌}
use Rattle.std.specs.List.{list_any, enumerate_from}
use Rattle.sy_graph.specs.declared.node.Node.{Node}
use Rattle.sy_graph.specs.Before.{is_ready, is_free as may_go, holds, before as comes_before, meet as nodes_meet, names, is_held as holds_back}
use Rattle.sy_needs.specs.Order.{needs_meet, is_before}
use Rattle.sy_onecopy.specs.declared.Entry.{Entry}
use Rattle.sy_onecopy.specs.Before.{is_done, is_pending, is_named, meet, before, blocks, is_held, is_free}
use Rattle.sy_settling.proofs.ListLemmas.{some_is}
use Rattle.sy_settling.proofs.FreeLemmas.{pending-open}
use Rattle.sy_links.specs.Links.{IsNode, IsGraph}

meet_is : (x y : Entry) (m n : Node) → m.needs ≡ x.needs → m.place ≡ x.place → n.needs ≡ y.needs → n.place ≡ y.place → nodes_meet m n ≡ meet x y
unfolding nodes_meet meet
meet_is x y m n a b c d =
    ap (λ l. needs_meet l m.place n.needs n.place) a
    ∙ ap (λ i. needs_meet x.needs i n.needs n.place) b
    ∙ ap (λ l. needs_meet x.needs x.place l n.place) c
    ∙ ap (needs_meet x.needs x.place y.needs) d

-- an earlier entry that isn't done is before the entry where its node is
before_is : (entries : List Entry) (j k : ℕ) (x y : Entry) (m n : Node) → j < k → slice_get entries j ≡ Some x → is_done x.stage ≡ false → IsNode entries j x m → IsNode entries k y n → comes_before m j n ≡ before x y
unfolding comes_before names before
before_is entries j k x y m n lt g d a b =
    ap (λ v. is_before v (list_any (λ i. i == j) n.after) m.in_order n.in_order) (meet_is x y m n a.needs a.place b.needs b.place)
    ∙ ap (λ v. is_before (meet x y) v m.in_order n.in_order) (b.after j x lt g d)
    ∙ ap (λ o. is_before (meet x y) (is_named x.work y.after) o n.in_order) a.in_order
    ∙ ap (is_before (meet x y) (is_named x.work y.after) x.in_order) b.in_order

done_or : (entries : List Entry) (nodes : List (Option Node)) (j k : ℕ) (x y : Entry) (n : Node) (o : Option Node) (v : Bool) → IsGraph entries nodes → j < k → slice_get entries j ≡ Some x → slice_get nodes j ≡ Some o → IsNode entries k y n → is_done x.stage ≡ v → holds n j o ≡ (not v && before x y)
done_or entries nodes j k x y n o true g lt e f b d =
    ap (holds n j) (some_is (sym f ∙ g.done j x e d))
done_or entries nodes j k x y n o false g lt e f b d =
    let h = g.node j x e d in
    ap (holds n j) (some_is (sym f ∙ h.1)) ∙ before_is entries j k x y h.0 n lt e d h.2 b

-- the first members of two lists, which are as many, tell the same
holds_all : (n : Node) (y : Entry) (at : ℕ) (xs : List Entry) (os : List (Option Node)) → length os ≡ length xs → ((j : ℕ) (x : Entry) (o : Option Node) → slice_get xs j ≡ Some x → slice_get os j ≡ Some o → holds n (at + j) o ≡ blocks y x) → list_any (λ e. holds n e.0 e.1) (enumerate_from at os) ≡ list_any (blocks y) xs
holds_all n y at [] [] c h = refl
holds_all n y at [] (o ∷ os) c h = absurd (omega (arith, c))
holds_all n y at (x ∷ xs) [] c h = absurd (omega (arith, c))
holds_all n y at (x ∷ xs) (o ∷ os) c h =
    ap (λ v. v || list_any (λ e. holds n e.0 e.1) (enumerate_from (at + 1) os)) (subst (λ i. holds n i o ≡ blocks y x) (let e : at + 0 ≡ at = omega arith in e) (h 0 x o refl refl))
    ∙ ap (λ v. blocks y x || v) (holds_all n y (at + 1) xs os (let k : length os ≡ length xs = omega (arith, c) in k) (λ j z p e f. subst (λ i. holds n i p ≡ blocks y z) (let e : at + suc j ≡ (at + 1) + j = omega arith in e) (h (suc j) z p e f)))

of_take : {A : Type 0} (xs : List A) (n k : ℕ) (x : A) → slice_get (take n xs) k ≡ Some x → (slice_get xs k ≡ Some x) × (k < n)
of_take xs zero k x g = absurd cc
of_take [] (suc n) k x g = absurd cc
of_take (y ∷ ys) (suc n) zero x g = (g, omega arith)
of_take (y ∷ ys) (suc n) (suc k) x g = let r = of_take ys n k x g in (r.0, (let lt = r.1 in omega (arith, lt)))

same_take : {A B : Type 0} (xs : List A) (ys : List B) (n : ℕ) → length xs ≡ length ys → length (take n xs) ≡ length (take n ys)
same_take xs ys zero h = refl
same_take [] [] (suc n) h = refl
same_take [] (y ∷ ys) (suc n) h = absurd (omega (arith, h))
same_take (x ∷ xs) [] (suc n) h = absurd (omega (arith, h))
same_take (x ∷ xs) (y ∷ ys) (suc n) h = ap suc (same_take xs ys n (let k : length xs ≡ length ys = omega (arith, h) in k))

held_is : (entries : List Entry) (nodes : List (Option Node)) (k : ℕ) (y : Entry) (n : Node) → IsGraph entries nodes → IsNode entries k y n → holds_back (take k nodes) n ≡ is_held (take k entries) y
unfolding holds_back is_held blocks
held_is entries nodes k y n g b =
    holds_all n y 0 (take k entries) (take k nodes) (same_take nodes entries k g.count)
    (λ j x o e f.
    (let r = of_take entries k j x e in
    let s = of_take nodes k j o f in
    let at : j ≡ 0 + j = omega arith in
    subst (λ i. holds n i o ≡ (not (is_done x.stage) && before x y)) at (done_or entries nodes j k x y n o (is_done x.stage) g r.1 r.0 s.0 b refl)))

pub ready_is : (entries : List Entry) (nodes : List (Option Node)) (k : ℕ) (e : Entry) → IsGraph entries nodes → slice_get entries k ≡ Some e → is_pending e.stage ≡ true → is_free entries k e ≡ is_ready nodes k
unfolding is_free is_ready
ready_is entries nodes k e g at p =
    let h = g.node k e at (pending-open e.stage p) in
    ap (λ v. v && not (is_held (take k entries) e)) p
    ∙ ap not (sym (held_is entries nodes k e h.0 g h.2))
    ∙ ap (may_go (take k nodes)) (sym h.1)
