-- The successors of a node that is done are all that can be ready then and were not before.
use Rattle.std.proofs.Common.{◌≡◌, ◌≢◌, ℕ, zero, suc, ◌<◌, List, [], ◌∷◌, length, Bool, true, Option, Some, None, ◌⊎◌, refl, sym, ap, ◌∙◌, inl, inr, arith, set}
use Rattle.std.specs.Prelude.{slice_get, unwrap_or}
use Rattle.std.specs.List.{Contains}
use Rattle.std.proofs.lemmas.Bool.{cases_eq}
use Rattle.sy_graph.specs.declared.node.Node.{Node}
use Rattle.sy_graph.specs.Before.{is_ready}
use Rattle.sy_index.specs.declared.slot.Slot.{Slot}
use Rattle.sy_index.specs.Slots.{changed, with_fewer, told, pending, idle, node_of, nodes_of, IsIndex}
use Rattle.sy_index.proofs.IndexLemmas.{idle_is}

pending-changed_other : (f : Slot → Slot) (xs : List (Option Slot)) (j m : ℕ) → j ≢ m → pending (changed f xs j) m ≡ pending xs m
unfolding changed
pending-changed_other f [] j m ne = refl
pending-changed_other f (o ∷ xs) zero zero ne = absurd (ne refl)
pending-changed_other f (o ∷ xs) zero (suc m) ne = refl
pending-changed_other f (o ∷ xs) (suc j) zero ne = refl
pending-changed_other f (o ∷ xs) (suc j) (suc m) ne = pending-changed_other f xs j m (λ e. ne (ap suc e))

-- a node that is idle once these are told was so, or is one of them
told_idle : (S : List (Option Slot)) (ms : List ℕ) (m : ℕ) → idle (pending (told S ms) m) ≡ true → (idle (pending S m) ≡ true) ⊎ Contains ms m
unfolding told
told_idle S [] m h = inl h
told_idle S (x ∷ ms) m h = elim (cases_eq x m) [
  | inl e ↦ inr (0, omega arith, e)
  | inr ne ↦ elim (told_idle (changed with_fewer S x) ms m h) [
    | inl i ↦ inl (ap idle (sym (pending-changed_other with_fewer S x m ne)) ∙ i)
    | inr c ↦ inr (suc c.0, (let lt = c.1 in omega (arith, lt)), c.2)
  ]
]

set_idle : (S : List (Option Slot)) (n m : ℕ) → idle (pending (set S n None) m) ≡ true → idle (pending S m) ≡ true
set_idle [] n m h = h
set_idle (o ∷ S) zero zero h = absurd cc
set_idle (o ∷ S) zero (suc m) h = h
set_idle (o ∷ S) (suc n) zero h = h
set_idle (o ∷ S) (suc n) (suc m) h = set_idle S n m h

pub freed : (S : List (Option Slot)) (R P : Bool → ℕ → List ℕ) (Q O : ℕ → List ℕ) (next : List ℕ) (n m : ℕ) → IsIndex S R Q → IsIndex (told (set S n None) next) P O → is_ready (nodes_of (told (set S n None) next)) m ≡ true → (is_ready (nodes_of S) m ≡ true) ⊎ Contains next m
freed S R P Q O next n m was now h = elim (told_idle (set S n None) next m (idle_is (told (set S n None) next) P O m now ∙ h)) [
  | inl i ↦ inl (sym (idle_is S R Q m was) ∙ set_idle S n m i)
  | inr c ↦ inr c
]

pub pending-node : (S : List (Option Slot)) (n : ℕ) → node_of (pending S n) ≡ unwrap_or (slice_get (nodes_of S) n) None
unfolding nodes_of
pending-node [] n = refl
pending-node (None ∷ S) zero = refl
pending-node (Some s ∷ S) zero = refl
pending-node (o ∷ S) (suc n) = pending-node S n
