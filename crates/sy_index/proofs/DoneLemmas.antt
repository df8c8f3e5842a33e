-- What is read and written behind nodes that are done.
use Rattle.std.proofs.Common.{◌≡◌, ℕ, zero, suc, ◌+◌, ◌<◌, List, ◌∷◌, ◌++◌, length, Option, Some, None, refl, sym, ap, ◌∙◌, arith, set}
use Rattle.std.specs.Prelude.{slice_get}
use Rattle.sy_index.specs.declared.slot.Slot.{Slot}
use Rattle.std.proofs.lemmas.Option.{unwrap_or-slice_get}
use Rattle.sy_index.specs.Slots.{behind, changed}
use Rattle.sy_index.proofs.SlotLemmas.{length-changed}

pub behind-zero : (xs : List (Option Slot)) → behind 0 xs ≡ xs
unfolding behind
behind-zero xs = refl

pub length-behind : (k : ℕ) (xs : List (Option Slot)) → length (behind k xs) ≡ k + length xs
unfolding behind
length-behind zero xs = omega arith
length-behind (suc k) xs = omega (arith, length-behind k xs)

pub behind-append : (k : ℕ) (xs ys : List (Option Slot)) → behind k xs ++ ys ≡ behind k (xs ++ ys)
unfolding behind
behind-append zero xs ys = refl
behind-append (suc k) xs ys = ap (λ (v : List (Option Slot)). None ∷ v) (behind-append k xs ys)

pub get-gone : (k : ℕ) (xs : List (Option Slot)) (n : ℕ) → n < k → slice_get (behind k xs) n ≡ Some None
unfolding behind
get-gone zero xs n lt = absurd (omega arith)
get-gone (suc k) xs zero lt = refl
get-gone (suc k) xs (suc n) lt = get-gone k xs n (omega arith)

pub get-behind : (k : ℕ) (xs : List (Option Slot)) (i n : ℕ) → n ≡ k + i → slice_get (behind k xs) n ≡ slice_get xs i
unfolding behind
get-behind zero xs i n e = let same : n ≡ i = omega arith in ap (slice_get xs) same
get-behind (suc k) xs i zero e = absurd (omega arith)
get-behind (suc k) xs i (suc n) e = get-behind k xs i n (omega arith)

pub changed-gone : (f : Slot → Slot) (k : ℕ) (xs : List (Option Slot)) (m : ℕ) → m < k → changed f (behind k xs) m ≡ behind k xs
unfolding behind changed
changed-gone f zero xs m lt = absurd (omega arith)
changed-gone f (suc k) xs zero lt = refl
changed-gone f (suc k) xs (suc m) lt = ap (λ (v : List (Option Slot)). None ∷ v) (changed-gone f k xs m (omega arith))

behind_none : (f : Slot → Slot) (k : ℕ) (xs ys : List (Option Slot)) (m : ℕ) → changed f (behind k xs) m ≡ behind k ys → changed f (None ∷ behind k xs) (suc m) ≡ None ∷ behind k ys
unfolding changed
behind_none f k xs ys m e = ap (λ (v : List (Option Slot)). None ∷ v) e

pub changed-behind : (f : Slot → Slot) (k : ℕ) (xs : List (Option Slot)) (i m : ℕ) → m ≡ k + i → changed f (behind k xs) m ≡ behind k (changed f xs i)
unfolding behind
changed-behind f zero xs i m e = let same : m ≡ i = omega arith in ap (changed f xs) same
changed-behind f (suc k) xs i zero e = absurd (omega arith)
changed-behind f (suc k) xs i (suc m) e = behind_none f k xs (changed f xs i) m (changed-behind f k xs i m (omega arith))

pub set-gone : (k : ℕ) (xs : List (Option Slot)) (n : ℕ) → n < k → set (behind k xs) n None ≡ behind k xs
unfolding behind
set-gone zero xs n lt = absurd (omega arith)
set-gone (suc k) xs zero lt = refl
set-gone (suc k) xs (suc n) lt = ap (λ (v : List (Option Slot)). None ∷ v) (set-gone k xs n (omega arith))

pub set-behind : (k : ℕ) (xs : List (Option Slot)) (i n : ℕ) → n ≡ k + i → set (behind k xs) n None ≡ behind k (set xs i None)
unfolding behind
set-behind zero xs i n e = let same : n ≡ i = omega arith in ap (λ (v : ℕ). set xs v None) same
set-behind (suc k) xs i zero e = absurd (omega arith)
set-behind (suc k) xs i (suc n) e = ap (λ (v : List (Option Slot)). None ∷ v) (set-behind k xs i n (omega arith))

behind_more : (k : ℕ) (xs : List (Option Slot)) → behind (suc k) xs ≡ behind k (None ∷ xs)
unfolding behind
behind_more zero xs = refl
behind_more (suc k) xs = ap (λ (v : List (Option Slot)). None ∷ v) (behind_more k xs)

pub behind-behind : (j k : ℕ) (xs : List (Option Slot)) → behind (j + k) xs ≡ behind j (behind k xs)
unfolding behind
behind-behind zero k xs = let same : 0 + k ≡ k = omega arith in ap (λ (v : ℕ). behind v xs) same
behind-behind (suc j) k xs = let same : suc j + k ≡ suc (j + k) = omega arith in ap (λ (v : ℕ). behind v xs) same ∙ ap (λ (v : List (Option Slot)). None ∷ v) (behind-behind j k xs)

-- one more of the first nodes is dropped
pub dropped : (k : ℕ) (xs ys all : List (Option Slot)) → behind k xs ≡ all → xs ≡ None ∷ ys → behind (k + 1) ys ≡ all
dropped k xs ys all e first =
    let one : k + 1 ≡ suc k = omega arith in
    ap (λ (v : ℕ). behind v ys) one ∙ behind_more k ys ∙ ap (behind k) (sym first) ∙ e

pub ruleset behind_steps = (behind-zero, length-behind, behind-append, get-gone, get-behind, changed-gone, changed-behind, set-gone, set-behind, length-changed)

pub ruleset slot_steps = (unwrap_or-slice_get)
