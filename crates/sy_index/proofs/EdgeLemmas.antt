-- How the slots, and the counts of the edges between them, change.
use Rattle.std.proofs.Common.{◌≡◌, ◌≢◌, ◌⊎◌, inl, inr, ℕ, zero, suc, ◌+◌, ◌-◌, ◌<◌, ◌≤◌, List, [], ◌∷◌, ◌++◌, length, Bool, true, false, Option, Some, None, refl, sym, ap, ◌∙◌, subst, arith, set}
use Rattle.std.specs.Prelude.{option_map, ◌==◌}
use Rattle.std.proofs.lemmas.Bool.{eqb-true}
use Rattle.sy_index.specs.declared.slot.Slot.{Slot}
use Rattle.sy_index.specs.Lists.{one_if, count, Has}
use Rattle.sy_index.specs.Slots.{changed, with_successor, with_fewer, linked, told, edges, At}
use Rattle.sy_index.proofs.SlotLemmas.{length-changed}
use Rattle.sy_index.proofs.CountLemmas.{count-append, one_at, one_off, has_pushed, has_kept}

pub at_changed_from : (f : Slot → Slot) (xs : List (Option Slot)) (j m : ℕ) (x : Slot) → At xs m x → ((j ≢ m) × At (changed f xs j) m x) ⊎ ((j ≡ m) × At (changed f xs j) m (f x))
unfolding changed
at_changed_from f [] j m x e = absurd cc
at_changed_from f (o ∷ xs) zero zero x e = let same : o ≡ Some x = cc in inr (refl, ap (λ (v : Option Slot). let r : Option (Option Slot) = Some (option_map f v) in r) same)
at_changed_from f (o ∷ xs) zero (suc m) x e = inl (λ h. omega arith, e)
at_changed_from f (o ∷ xs) (suc j) zero x e = inl (λ h. omega arith, e)
at_changed_from f (o ∷ xs) (suc j) (suc m) x e =
    elim (at_changed_from f xs j m x e) [ inl both ↦ inl (λ h. both.0 (omega arith), both.1) | inr both ↦ inr (ap suc both.0, both.1) ]

pub at_changed_back : (f : Slot → Slot) (xs : List (Option Slot)) (j m : ℕ) (x : Slot) → At (changed f xs j) m x → ((j ≢ m) × At xs m x) ⊎ ((j ≡ m) × ((y : Slot) × At xs m y × (x ≡ f y)))
unfolding changed
at_changed_back f [] j m x e = absurd cc
at_changed_back f (None ∷ xs) zero zero x e = absurd cc
at_changed_back f (Some y ∷ xs) zero zero x e = inr (refl, (y, refl, cc))
at_changed_back f (o ∷ xs) zero (suc m) x e = inl (λ h. omega arith, e)
at_changed_back f (o ∷ xs) (suc j) zero x e = inl (λ h. omega arith, e)
at_changed_back f (o ∷ xs) (suc j) (suc m) x e =
    elim (at_changed_back f xs j m x e) [ inl both ↦ inl (λ h. both.0 (omega arith), both.1) | inr both ↦ inr (ap suc both.0, both.1) ]

pub length-linked : (xs : List (Option Slot)) (n : ℕ) (ms : List ℕ) → length (linked xs n ms) ≡ length xs
unfolding linked
length-linked xs n [] = refl
length-linked xs n (m ∷ ms) = length-linked (changed (with_successor n) xs m) n ms ∙ length-changed (with_successor n) xs m

has_one : (m n : ℕ) → m ≡ n → one_if (m == n) ≡ 1
has_one m n e = rw e (one_at n)

pub has_rest : (m n : ℕ) (ms : List ℕ) → m ≢ n → Has (m ∷ ms) n → Has ms n
has_rest m n ms apart h = let off = one_off m n apart in omega arith

pub pushed_cases : (xs : List ℕ) (m n : ℕ) → Has (xs ++ m ∷ []) n → Has xs n ⊎ (n ≡ m)
pushed_cases xs m n h = go (m == n) refl
  where
    go : (b : Bool) → (m == n) ≡ b → Has xs n ⊎ (n ≡ m)
    go true e = inr (sym (eqb-true m n e))
    go false e =
        let all : count (xs ++ m ∷ []) n ≡ count xs n + (one_if (m == n) + 0) = count-append xs (m ∷ []) n in
        let off : one_if (m == n) ≡ 0 = ap one_if e in
        inl (omega arith)

-- the slot y has what x has, and n as a successor where m is one of ms
pub record Grew (x y : Slot) (n : ℕ) (ms : List ℕ) (m : ℕ) : Type 0 where
  pub node : y.node ≡ x.node
  pub waits : y.waits ≡ x.waits
  pub kept : (q : ℕ) → Has x.next q → Has y.next q
  pub named : Has ms m → Has y.next n
  pub only : (q : ℕ) → Has y.next q → Has x.next q ⊎ ((q ≡ n) × Has ms m)

pub linked_from : (xs : List (Option Slot)) (n : ℕ) (ms : List ℕ) (m : ℕ) (x : Slot) → At xs m x → (y : Slot) × At (linked xs n ms) m y × Grew x y n ms m
unfolding linked
linked_from xs n [] m x at = (x, at, record { node = refl; waits = refl; kept = λ q h. h; named = λ h. absurd (omega arith); only = λ q h. inl h })
linked_from xs n (j ∷ ms) m x at =
    elim (at_changed_from (with_successor n) xs j m x at) [
      | inl both ↦ (let r = linked_from (changed (with_successor n) xs j) n ms m x both.1 in (
        r.0,
        r.1,
        record {
          node = r.2.node;
          waits = r.2.waits;
          kept = r.2.kept;
          named = λ h. r.2.named (has_rest j m ms both.0 h);
          only = λ q h. elim (r.2.only q h) [ inl k ↦ inl k | inr k ↦ inr (k.0, let l = k.1 in omega arith) ];
        },
      ))
      | inr both ↦ (let r = linked_from (changed (with_successor n) xs j) n ms m (with_successor n x) both.1 in (
        r.0,
        r.1,
        record {
          node = r.2.node;
          waits = r.2.waits;
          kept = λ q h. r.2.kept q (has_kept x.next n q h);
          named = λ h. r.2.kept n (has_pushed x.next n);
          only = λ q h. elim (r.2.only q h) [
            | inl k ↦ elim (pushed_cases x.next n q k) [ inl l ↦ inl l | inr l ↦ inr (l, let one = has_one j m both.0 in omega arith) ]
            | inr k ↦ inr (k.0, let l = k.1 in omega arith)
          ];
        },
      ))
    ]

pub linked_back : (xs : List (Option Slot)) (n : ℕ) (ms : List ℕ) (m : ℕ) (y : Slot) → At (linked xs n ms) m y → (x : Slot) × At xs m x × (y.node ≡ x.node)
unfolding linked
linked_back xs n [] m y at = (y, at, refl)
linked_back xs n (j ∷ ms) m y at =
    let r = linked_back (changed (with_successor n) xs j) n ms m y at in
    elim (at_changed_back (with_successor n) xs j m r.0 r.1) [
      | inl both ↦ (r.0, both.1, r.2)
      | inr both ↦ (both.1.0, both.1.1, r.2 ∙ ap (λ (s : Slot). s.node) both.1.2)
    ]

same_at : (xs : List (Option Slot)) (m : ℕ) (x y : Slot) → At xs m x → At xs m y → x ≡ y
same_at xs m x y e h = cc

-- a slot after the links, with what it was
pub linked_both : (xs : List (Option Slot)) (n : ℕ) (ms : List ℕ) (m : ℕ) (y : Slot) → At (linked xs n ms) m y → (x : Slot) × At xs m x × Grew x y n ms m
linked_both xs n ms m y at =
    let b = linked_back xs n ms m y at in
    let f = linked_from xs n ms m b.0 b.1 in
    (b.0, b.1, subst (λ (s : Slot). Grew b.0 s n ms m) (same_at (linked xs n ms) m f.0 y f.1 at) f.2)

edges-changed : (n : ℕ) (xs : List (Option Slot)) (m : ℕ) (x : Slot) (q : ℕ) → At xs m x → edges (changed (with_successor n) xs m) q ≡ edges xs q + one_if (n == q)
unfolding changed edges
edges-changed n [] m x q at = absurd cc
edges-changed n (None ∷ xs) zero x q at = absurd cc
edges-changed n (Some s ∷ xs) zero x q at = omega (arith, count-append s.next (n ∷ []) q)
edges-changed n (None ∷ xs) (suc m) x q at = edges-changed n xs m x q at
edges-changed n (Some s ∷ xs) (suc m) x q at = omega (arith, edges-changed n xs m x q at)

pub edges_other : (xs : List (Option Slot)) (n : ℕ) (ms : List ℕ) (q : ℕ) → n ≢ q → ((m : ℕ) → Has ms m → (x : Slot) × At xs m x) → edges (linked xs n ms) q ≡ edges xs q
unfolding linked
edges_other xs n [] q apart all = refl
edges_other xs n (m ∷ ms) q apart all =
    let here = all m (let one = one_at m in omega arith) in
    let rest = edges_other (changed (with_successor n) xs m) n ms q apart (λ k h.
    let old = all k (omega arith) in
    elim (at_changed_from (with_successor n) xs m k old.0 old.1) [ inl both ↦ (old.0, both.1) | inr both ↦ (with_successor n old.0, both.1) ]) in
    let off = one_off n q apart in
    omega (arith, edges-changed n xs m here.0 q here.1, rest)

pub edges_new : (xs : List (Option Slot)) (n : ℕ) (ms : List ℕ) → ((m : ℕ) → Has ms m → (x : Slot) × At xs m x) → edges (linked xs n ms) n ≡ edges xs n + length ms
unfolding linked
edges_new xs n [] all = omega arith
edges_new xs n (m ∷ ms) all =
    let here = all m (let one = one_at m in omega arith) in
    let rest = edges_new (changed (with_successor n) xs m) n ms (λ k h.
    let old = all k (omega arith) in
    elim (at_changed_from (with_successor n) xs m k old.0 old.1) [ inl both ↦ (old.0, both.1) | inr both ↦ (with_successor n old.0, both.1) ]) in
    let one = one_at n in
    omega (arith, edges-changed n xs m here.0 n here.1, rest)

pub edges-push : (xs : List (Option Slot)) (s : Slot) (q : ℕ) → s.next ≡ [] → edges (xs ++ Some s ∷ []) q ≡ edges xs q
unfolding edges
edges-push [] s q none = rw none refl
edges-push (None ∷ xs) s q none = edges-push xs s q none
edges-push (Some t ∷ xs) s q none = ap (λ (k : ℕ). count t.next q + k) (edges-push xs s q none)

some_of : (s : Slot) (xs : List (Option Slot)) (q : ℕ) → (0 < edges xs q → (m : ℕ) × (x : Slot) × At xs m x × Has x.next q) → (k : ℕ) → count s.next q ≡ k → 0 < count s.next q + edges xs q → (m : ℕ) × (x : Slot) × At (Some s ∷ xs) m x × Has x.next q
some_of s xs q rest zero e h = let r = rest (omega arith) in (suc r.0, r.1, r.2, r.3)
some_of s xs q rest (suc k) e h = (zero, s, refl, omega arith)

pub edges_some : (xs : List (Option Slot)) (q : ℕ) → 0 < edges xs q → (m : ℕ) × (x : Slot) × At xs m x × Has x.next q
unfolding edges
edges_some [] q h = absurd (omega arith)
edges_some (None ∷ xs) q h = let r = edges_some xs q h in (suc r.0, r.1, r.2, r.3)
edges_some (Some s ∷ xs) q h = some_of s xs q (edges_some xs q) (count s.next q) refl h

pub edges-at : (xs : List (Option Slot)) (q m : ℕ) (x : Slot) → At xs m x → count x.next q ≤ edges xs q
unfolding edges
edges-at [] q m x at = absurd cc
edges-at (None ∷ xs) q zero x at = absurd cc
edges-at (Some s ∷ xs) q zero x at = let same : s ≡ x = cc in let e : count s.next q ≡ count x.next q = ap (λ (v : Slot). count v.next q) same in omega arith
edges-at (None ∷ xs) q (suc m) x at = edges-at xs q m x at
edges-at (Some s ∷ xs) q (suc m) x at = let r = edges-at xs q m x at in omega arith

pub edges-taken : (xs : List (Option Slot)) (q m : ℕ) (x : Slot) → At xs m x → edges (set xs m None) q + count x.next q ≡ edges xs q
unfolding edges
edges-taken [] q m x at = absurd cc
edges-taken (None ∷ xs) q zero x at = absurd cc
edges-taken (Some s ∷ xs) q zero x at = let same : s ≡ x = cc in let e : count s.next q ≡ count x.next q = ap (λ (v : Slot). count v.next q) same in omega arith
edges-taken (None ∷ xs) q (suc m) x at = edges-taken xs q m x at
edges-taken (Some s ∷ xs) q (suc m) x at = let r = edges-taken xs q m x at in omega arith

pub at_taken : (xs : List (Option Slot)) (n m : ℕ) (x : Slot) → At (set xs n None) m x → (n ≢ m) × At xs m x
at_taken [] n m x at = absurd cc
at_taken (o ∷ xs) zero zero x at = absurd cc
at_taken (o ∷ xs) zero (suc m) x at = (λ h. omega arith, at)
at_taken (o ∷ xs) (suc n) zero x at = (λ h. omega arith, at)
at_taken (o ∷ xs) (suc n) (suc m) x at = let r = at_taken xs n m x at in (λ h. r.0 (omega arith), r.1)

pub taken_at : (xs : List (Option Slot)) (n m : ℕ) (x : Slot) → n ≢ m → At xs m x → At (set xs n None) m x
taken_at [] n m x apart at = absurd cc
taken_at (o ∷ xs) zero zero x apart at = absurd (apart refl)
taken_at (o ∷ xs) zero (suc m) x apart at = at
taken_at (o ∷ xs) (suc n) zero x apart at = at
taken_at (o ∷ xs) (suc n) (suc m) x apart at = taken_at xs n m x (λ h. apart (ap suc h)) at

pub edges-fewer : (xs : List (Option Slot)) (m q : ℕ) → edges (changed with_fewer xs m) q ≡ edges xs q
unfolding changed edges
edges-fewer [] m q = refl
edges-fewer (None ∷ xs) zero q = refl
edges-fewer (Some s ∷ xs) zero q = refl
edges-fewer (None ∷ xs) (suc m) q = edges-fewer xs m q
edges-fewer (Some s ∷ xs) (suc m) q = ap (λ (k : ℕ). count s.next q + k) (edges-fewer xs m q)

pub edges-told : (xs : List (Option Slot)) (ms : List ℕ) (q : ℕ) → edges (told xs ms) q ≡ edges xs q
unfolding told
edges-told xs [] q = refl
edges-told xs (m ∷ ms) q = edges-told (changed with_fewer xs m) ms q ∙ edges-fewer xs m q

pub record Fewer (x y : Slot) (ms : List ℕ) (m : ℕ) : Type 0 where
  pub node : y.node ≡ x.node
  pub next : y.next ≡ x.next
  pub waits : y.waits ≡ x.waits - count ms m

pub told_from : (xs : List (Option Slot)) (ms : List ℕ) (m : ℕ) (x : Slot) → At xs m x → (y : Slot) × At (told xs ms) m y × Fewer x y ms m
unfolding told
told_from xs [] m x at = (x, at, record { node = refl; next = refl; waits = omega arith })
told_from xs (j ∷ ms) m x at =
    elim (at_changed_from with_fewer xs j m x at) [
      | inl both ↦ (let r = told_from (changed with_fewer xs j) ms m x both.1 in
          (r.0, r.1, record { node = r.2.node; next = r.2.next; waits = let off = one_off j m both.0 in omega (arith, r.2.waits) }))
      | inr both ↦ (let r = told_from (changed with_fewer xs j) ms m (with_fewer x) both.1 in
          (r.0, r.1, record { node = r.2.node; next = r.2.next; waits = let one = has_one j m both.0 in omega (arith, r.2.waits) }))
    ]

told_back : (xs : List (Option Slot)) (ms : List ℕ) (m : ℕ) (y : Slot) → At (told xs ms) m y → (x : Slot) × At xs m x
unfolding told
told_back xs [] m y at = (y, at)
told_back xs (j ∷ ms) m y at =
    let r = told_back (changed with_fewer xs j) ms m y at in
    elim (at_changed_back with_fewer xs j m r.0 r.1) [ inl both ↦ (r.0, both.1) | inr both ↦ (both.1.0, both.1.1) ]

pub told_both : (xs : List (Option Slot)) (ms : List ℕ) (m : ℕ) (y : Slot) → At (told xs ms) m y → (x : Slot) × At xs m x × Fewer x y ms m
told_both xs ms m y at =
    let b = told_back xs ms m y at in
    let f = told_from xs ms m b.0 b.1 in
    (b.0, b.1, subst (λ (s : Slot). Fewer b.0 s ms m) (same_at (told xs ms) m f.0 y f.1 at) f.2)

pub at_pushed : (xs : List (Option Slot)) (s : Slot) (m : ℕ) (x : Slot) → At (xs ++ Some s ∷ []) m x → At xs m x ⊎ ((m ≡ length xs) × (x ≡ s))
at_pushed [] s zero x at = inr (refl, cc)
at_pushed [] s (suc m) x at = absurd cc
at_pushed (o ∷ xs) s zero x at = inl at
at_pushed (o ∷ xs) s (suc m) x at = elim (at_pushed xs s m x at) [ inl h ↦ inl h | inr h ↦ inr (ap suc h.0, h.1) ]

pub pushed_at : (xs : List (Option Slot)) (s : Slot) (m : ℕ) (x : Slot) → At xs m x → At (xs ++ Some s ∷ []) m x
pushed_at [] s m x at = absurd cc
pushed_at (o ∷ xs) s zero x at = at
pushed_at (o ∷ xs) s (suc m) x at = pushed_at xs s m x at

pub pushed_last : (xs : List (Option Slot)) (s : Slot) (n : ℕ) → length xs ≡ n → At (xs ++ Some s ∷ []) n s
pushed_last [] s zero e = refl
pushed_last [] s (suc n) e = absurd (omega arith)
pushed_last (o ∷ xs) s zero e = absurd (omega arith)
pushed_last (o ∷ xs) s (suc n) e = pushed_last xs s n (omega arith)
