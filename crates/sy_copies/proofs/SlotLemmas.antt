-- The slot of a place in a list of slots, found, written and added.
use Rattle.std.proofs.Common.{◌≡◌, ℕ, zero, suc, ◌+◌, ◌<◌, Bool, true, false, List, [], ◌∷◌, ◌++◌, length, get_or, set, take, refl, sym, ap, ◌∙◌, arith, Option, Some, None, eq-eqb}
use Rattle.std.specs.Prelude.{if◌then◌else◌, ◌==◌}
use Rattle.std.proofs.lemmas.Bool.{ne_eqb}
use Rattle.std.proofs.lemmas.List.{take_more}
use Rattle.sy_copies.specs.declared.slots.Slot.{Slot}
use Rattle.std.proofs.Common.{ℤ, Bor, MatchOption}
use Rattle.std.specs.Option.{option_copied}
use Rattle.sy_access.specs.declared.access.Need.{Need}
use Rattle.sy_access.specs.declared.cells.Cell.{Cell}
use Rattle.sy_copies.specs.Slots.{slot_at, with_slot, renewed_slot, slot_after}

-- a choice that is none
pub none_parts : {A : Type 0} (b : Bool) (x : A) (o : Option A) → (if b then Some x else o) ≡ None → (b ≡ false) × (o ≡ None)
none_parts true x o h = absurd (let z : Some x ≡ None = h in cc)
none_parts false x o h = (refl, h)

slot_at-push : (xs : List Slot) (s : Slot) (p : ℕ) → slot_at xs p ≡ None → slot_at (xs ++ s ∷ []) p ≡ (if s.place == p then Some s else None)
slot_at-push [] s p h = refl
slot_at-push (x ∷ xs) s p h =
    let parts = none_parts (x.place == p) x (slot_at xs p) h in
    rw parts.0 (slot_at-push xs s p parts.1)

-- the place has no slot among the first ones, nor one more
pub no_slot_more : (ss : List Slot) (i p : ℕ) (x : Slot) → i < length ss → slot_at (take i ss) p ≡ None → x ≡ get_or ss i x → (x.place ≡ p → ⊥) → slot_at (take (i + 1) ss) p ≡ None
no_slot_more ss i p x h none is other =
    rw (take_more ss i x h, ← is) (slot_at-push (take i ss) x p none ∙ (rw (ne_eqb x.place p other) refl))

-- the first slot of the place is its slot
pub slot_read : (ss : List Slot) (k p : ℕ) (x : Slot) → k < length ss → slot_at (take k ss) p ≡ None → x ≡ get_or ss k x → x.place ≡ p → slot_at ss p ≡ Some x
slot_read [] k p x h none is e = absurd (omega arith)
slot_read (s ∷ ss) zero p x h none is e = rw (← is) (rw (eq-eqb x.place p e) refl)
slot_read (s ∷ ss) (suc k) p x h none is e =
    let parts = none_parts (s.place == p) s (slot_at (take k ss) p) none in
    rw parts.0 (slot_read ss k p x (omega arith) parts.1 is e)

-- a write at the first slot of the place
pub slot_written : (ss : List Slot) (k p : ℕ) (x : Slot) → k < length ss → slot_at (take k ss) p ≡ None → x ≡ get_or ss k x → x.place ≡ p → (y : Slot) → set ss k y ≡ with_slot p y ss
slot_written [] k p x h none is e y = absurd (omega arith)
slot_written (s ∷ ss) zero p x h none is e y = rw (← is) (rw (eq-eqb x.place p e) refl)
slot_written (s ∷ ss) (suc k) p x h none is e y =
    let parts = none_parts (s.place == p) s (slot_at (take k ss) p) none in
    rw parts.0 (ap (λ l. s ∷ l) (slot_written ss k p x (omega arith) parts.1 is e y))

-- a slot for a place that had none
pub slot_added : (ss : List Slot) (p : ℕ) (y : Slot) → slot_at ss p ≡ None → ss ++ y ∷ [] ≡ with_slot p y ss
slot_added [] p y none = refl
slot_added (s ∷ ss) p y none =
    let parts = none_parts (s.place == p) s (slot_at ss p) none in
    rw parts.0 (ap (λ l. s ∷ l) (slot_added ss p y parts.1))

-- the slot of the place itself
pub after_here : (p : ℕ) (replaced : Bool) (needs : List Need) (log : List (Cell × ℤ)) (b : ℕ) (s : Slot) → s.place ≡ p → renewed_slot replaced needs log b s ≡ slot_after p replaced needs log b s
unfolding slot_after
after_here p replaced needs log b s e = rw (eq-eqb s.place p e) refl

-- a slot of another place
pub after_elsewhere : (p : ℕ) (replaced : Bool) (needs : List Need) (log : List (Cell × ℤ)) (b : ℕ) (s : Slot) → (s.place ≡ p → ⊥) → record s { current = false } ≡ slot_after p replaced needs log b s
unfolding slot_after
after_elsewhere p replaced needs log b s e = rw (ne_eqb s.place p e) refl

-- what a reference to a value shows
pub shown : (o : Option (Bor (List ℤ))) (y : Option (List ℤ)) → y ≡ option_copied o → MatchOption o (y ≡ None) (λ v. y ≡ Some v.now)
shown None y e = e
shown (Some v) y e = e

-- what is shown of one value is shown of an equal one
pub same_shown : (o : Option (Bor (List ℤ))) {x y : Option (List ℤ)} → MatchOption o (x ≡ None) (λ v. x ≡ Some v.now) → x ≡ y → MatchOption o (y ≡ None) (λ v. y ≡ Some v.now)
same_shown None h e = sym e ∙ h
same_shown (Some v) h e = sym e ∙ h
