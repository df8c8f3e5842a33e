-- Publishing the roots that the needs write one after another publishes each of them once.
use Rattle.std.proofs.Common.{◌≡◌, ℕ, ◌+◌, ◌<◌, ◌≤◌, ℤ, Bool, true, false, List, [], ◌∷◌, ◌++◌, length, set, get_or, refl, sym, ap, ◌∙◌, arith, Option, option_map, ◌⊎◌, inl, inr, ⊎_elim, eq-eqb}
use Rattle.std.specs.Prelude.{if◌then◌else◌, ◌==◌, ◌&&◌, ◌||◌}
use Rattle.std.proofs.lemmas.Bool.{ne_eqb, eqb-true}
use Rattle.sy_access.specs.declared.access.Need.{Need}
use Rattle.sy_access.specs.declared.cells.Cell.{Cell}
use Rattle.sy_access.specs.Needs.{writes}
use Rattle.sy_copies.specs.declared.buffer.Buffer.{Buffer}
use Rattle.sy_needs.specs.Each.{each_from}
use Rattle.sy_needs.specs.Versions.{renews}
use Rattle.sy_copies.specs.Places.{published}
use Rattle.sy_copies.specs.Current.{publish_one, publish_at}
use Rattle.sy_copies.proofs.ListLemmas.{each_from-agree, each_from-kept, each_from-one, each_from-twice}

-- one root that is there
pub root_there : (place : ℕ) (needs : List Need) (log : List (Cell × ℤ)) (root : ℕ) (xs : List (Option Buffer)) (was is : Option Buffer) → root < length xs → was ≡ get_or xs root was → is ≡ option_map (published place needs log root) was → set xs root is ≡ each_from (publish_one place needs log root) 0 xs
unfolding publish_one
root_there place needs log root xs was is h read e =
    let here : 0 + root ≡ root = omega arith in
    each_from-one (publish_one place needs log root) 0 root xs was is h read
    (e ∙ (rw (here, eq-eqb root root refl) refl))
    (λ i x n. rw (ne_eqb root i (λ t. n (sym t ∙ sym here))) refl)

-- one that is not
pub root_past : (place : ℕ) (needs : List Need) (log : List (Cell × ℤ)) (root : ℕ) (xs : List (Option Buffer)) → length xs ≤ root → xs ≡ each_from (publish_one place needs log root) 0 xs
unfolding publish_one
root_past place needs log root xs h =
    sym (each_from-kept (publish_one place needs log root) 0 xs (λ i x a b. rw (ne_eqb root i (λ t. omega arith)) refl))

or_assoc : (a b c : Bool) → ((a || b) || c) ≡ (a || (b || c))
or_assoc true b c = refl
or_assoc false b c = refl

or_false : (a : Bool) → (a || false) ≡ a
or_false true = refl
or_false false = refl

renews-push : (xs : List Need) (n : Need) (i : ℕ) → renews (xs ++ n ∷ []) i ≡ (renews xs i || (n.buffer == i && writes n.mode))
unfolding renews
renews-push [] n i = or_false (n.buffer == i && writes n.mode)
renews-push (x ∷ xs) n i =
    ap (λ c. (x.buffer == i && writes x.mode) || c) (renews-push xs n i) ∙ sym (or_assoc (x.buffer == i && writes x.mode) (renews xs i) (n.buffer == i && writes n.mode))

-- no needs yet
pub roots_none : (place : ℕ) (needs : List Need) (log : List (Cell × ℤ)) (xs : List (Option Buffer)) → xs ≡ each_from (publish_at place needs log []) 0 xs
unfolding publish_at renews
roots_none place needs log xs = sym (each_from-kept (publish_at place needs log []) 0 xs (λ i x a b. refl))

and_parts : (a b : Bool) → (a && b) ≡ true → (a ≡ true) × (b ≡ true)
and_parts true b h = (refl, h)
and_parts false b h = absurd (let z : false ≡ true = h in cc)

first_time : {A : Type 0} (f : A → A) (new c w : Bool) (x : A) → w ≡ true → (new ≡ true → c ≡ false) → (if new then f (if c then f x else x) else (if c then f x else x)) ≡ (if c || (new && w) then f x else x)
first_time f true c true x e h = rw (h refl) refl
first_time f false true true x e h = refl
first_time f false false true x e h = refl
first_time f new c false x e h = absurd (let z : false ≡ true = e in cc)

again : (c d : Bool) → (d ≡ true → c ≡ true) → c ≡ (c || d)
again true d h = refl
again false true h = h refl
again false false h = refl

-- a need that is the first to write on its root
pub root_first : (place : ℕ) (needs : List Need) (log : List (Cell × ℤ)) (ws : List Need) (n : Need) (xs : List (Option Buffer)) → writes n.mode ≡ true → renews ws n.buffer ≡ false → each_from (publish_one place needs log n.buffer) 0 (each_from (publish_at place needs log ws) 0 xs) ≡ each_from (publish_at place needs log (ws ++ n ∷ [])) 0 xs
unfolding publish_one publish_at
root_first place needs log ws n xs w new =
    each_from-twice (publish_at place needs log ws) (publish_one place needs log n.buffer) (publish_at place needs log (ws ++ n ∷ []))
    (λ i x. rw (renews-push ws n i)
    (first_time (option_map (published place needs log i)) (n.buffer == i) (renews ws i) (writes n.mode) x w
    (λ t. ap (renews ws) (sym (eqb-true n.buffer i t)) ∙ new)))
    0 xs

-- a need that does not write, or writes on a root on which one before it does
pub root_again : (place : ℕ) (needs : List Need) (log : List (Cell × ℤ)) (ws : List Need) (n : Need) (xs : List (Option Buffer)) → (writes n.mode ≡ true → renews ws n.buffer ≡ true) → each_from (publish_at place needs log ws) 0 xs ≡ each_from (publish_at place needs log (ws ++ n ∷ [])) 0 xs
unfolding publish_at
root_again place needs log ws n xs old =
    each_from-agree (publish_at place needs log ws) (publish_at place needs log (ws ++ n ∷ [])) 0 xs
    (λ i x a b. ap (λ c. if c then option_map (published place needs log i) x else x)
    (again (renews ws i) (n.buffer == i && writes n.mode)
    (λ t. let parts = and_parts (n.buffer == i) (writes n.mode) t in ap (renews ws) (sym (eqb-true n.buffer i parts.0)) ∙ old parts.1)
    ∙ sym (renews-push ws n i)))

or_parts : (a b : Bool) → (a || b) ≡ true → (a ≡ true) ⊎ (b ≡ true)
or_parts true b h = inl refl
or_parts false b h = inr h

-- a root on which one of the first needs writes, or the next one
pub renews_more : (ws : List Need) (n : Need) (b : ℕ) → renews (ws ++ n ∷ []) b ≡ true → (renews ws b ≡ true) ⊎ ((n.buffer ≡ b) × (writes n.mode ≡ true))
renews_more ws n b h =
    ⊎_elim inl
    (λ t. let parts = and_parts (n.buffer == b) (writes n.mode) t in inr (eqb-true n.buffer b parts.0, parts.1))
    (or_parts (renews ws b) (n.buffer == b && writes n.mode) (sym (renews-push ws n b) ∙ h))

-- on no root does one of no needs write
pub renews_none : (b : ℕ) → renews [] b ≡ false
unfolding renews
renews_none b = refl
