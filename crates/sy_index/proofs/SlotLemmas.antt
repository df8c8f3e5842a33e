-- What a change of one slot, and of several in a row, leaves.
use Rattle.std.proofs.Common.{◌≡◌, ℕ, zero, suc, ◌-◌, ◌<◌, ◌≤◌, List, [], ◌∷◌, ◌++◌, length, take, reverse, Option, Some, None, refl, ap, ◌∙◌, arith, set, get_or}
use Rattle.std.specs.Prelude.{option_map}
use Rattle.std.proofs.lemmas.List.{take_at, length_push, reverse-append}
use Rattle.sy_index.specs.declared.slot.Slot.{Slot}
use Rattle.sy_index.specs.Slots.{changed, with_successor, without_last, with_fewer, linked, unlinked, told}

pub changed_here : (f : Slot → Slot) (xs : List (Option Slot)) (m : ℕ) (o v : Option Slot) → m < length xs → o ≡ get_or xs m o → v ≡ option_map f o → set xs m v ≡ changed f xs m
unfolding changed
changed_here f [] m o v lt e w = absurd (omega arith)
changed_here f (x ∷ xs) zero o v lt e w = ap (λ (u : Option Slot). u ∷ xs) (w ∙ ap (option_map f) e)
changed_here f (x ∷ xs) (suc m) o v lt e w = ap (λ (u : List (Option Slot)). x ∷ u) (changed_here f xs m o v (omega arith) e w)

pub changed_beyond : (f : Slot → Slot) (xs : List (Option Slot)) (m : ℕ) → length xs ≤ m → changed f xs m ≡ xs
unfolding changed
changed_beyond f [] m le = refl
changed_beyond f (x ∷ xs) zero le = absurd (omega arith)
changed_beyond f (x ∷ xs) (suc m) le = ap (λ (u : List (Option Slot)). x ∷ u) (changed_beyond f xs m (omega arith))

pub length-changed : (f : Slot → Slot) (xs : List (Option Slot)) (j : ℕ) → length (changed f xs j) ≡ length xs
unfolding changed
length-changed f [] j = refl
length-changed f (o ∷ xs) zero = refl
length-changed f (o ∷ xs) (suc j) = ap suc (length-changed f xs j)

pub linked-nil : (slots : List (Option Slot)) (n : ℕ) → linked slots n [] ≡ slots
unfolding linked
linked-nil slots n = refl

pub linked_more : (slots : List (Option Slot)) (n : ℕ) (ms : List ℕ) (m : ℕ) → linked slots n (ms ++ m ∷ []) ≡ changed (with_successor n) (linked slots n ms) m
unfolding linked
linked_more slots n [] m = refl
linked_more slots n (k ∷ ms) m = linked_more (changed (with_successor n) slots k) n ms m

pub unlinked-nil : (slots : List (Option Slot)) → unlinked slots [] ≡ slots
unfolding unlinked
unlinked-nil slots = refl

pub unlinked_more : (slots : List (Option Slot)) (ms : List ℕ) (m : ℕ) → unlinked slots (ms ++ m ∷ []) ≡ changed without_last (unlinked slots ms) m
unfolding unlinked
unlinked_more slots [] m = refl
unlinked_more slots (k ∷ ms) m = unlinked_more (changed without_last slots k) ms m

pub told-nil : (slots : List (Option Slot)) → told slots [] ≡ slots
unfolding told
told-nil slots = refl

pub told_more : (slots : List (Option Slot)) (ms : List ℕ) (m : ℕ) → told slots (ms ++ m ∷ []) ≡ changed with_fewer (told slots ms) m
unfolding told
told_more slots [] m = refl
told_more slots (k ∷ ms) m = told_more (changed with_fewer slots k) ms m

slot_back : (n : ℕ) (s : Slot) → without_last (with_successor n s) ≡ s
slot_back n s =
    let len : length s.next ≡ length (s.next ++ n ∷ []) - 1 = omega (arith, length_push s.next n) in
    let e : take (length (s.next ++ n ∷ []) - 1) (s.next ++ n ∷ []) ≡ s.next = take_at s.next (n ∷ []) (length (s.next ++ n ∷ []) - 1) len in
    ap (λ (l : List ℕ). let r : Slot = record s { next = l } in r) e

changed_back : (n : ℕ) (xs : List (Option Slot)) (m : ℕ) → changed without_last (changed (with_successor n) xs m) m ≡ xs
unfolding changed
changed_back n [] m = refl
changed_back n (Some s ∷ xs) zero = ap (λ (v : Slot). Some v ∷ xs) (slot_back n s)
changed_back n (None ∷ xs) zero = refl
changed_back n (o ∷ xs) (suc m) = ap (λ (v : List (Option Slot)). o ∷ v) (changed_back n xs m)

pub unlinked-linked : (slots : List (Option Slot)) (n : ℕ) (ms : List ℕ) → unlinked (linked slots n ms) (reverse ms) ≡ slots
unfolding linked unlinked
unlinked-linked slots n [] = refl
unlinked-linked slots n (m ∷ ms) =
    let turned : reverse (m ∷ ms) ≡ reverse ms ++ m ∷ [] = reverse-append (m ∷ []) ms in
    rw turned (unlinked_more (linked (changed (with_successor n) slots m) n ms) (reverse ms) m
    ∙ ap (λ (v : List (Option Slot)). changed without_last v m) (unlinked-linked (changed (with_successor n) slots m) n ms)
    ∙ changed_back n slots m)

pub ruleset change_steps = (changed_here, changed_beyond)

pub ruleset link_steps = (linked_more, linked-nil, unlinked-linked)

pub ruleset unlink_steps = (unlinked_more, unlinked-nil)

pub ruleset tell_steps = (told_more, told-nil)
