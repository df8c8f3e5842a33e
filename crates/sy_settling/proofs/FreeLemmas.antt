-- Entries that may take effect, while others change their stage.
use Rattle.std.proofs.Common.{◌≡◌, ◌≢◌, ℕ, zero, suc, ◌<◌, List, [], ◌∷◌, take, true, false, refl, sym, ap, ◌∙◌, subst, inl, inr}
use Rattle.std.specs.Prelude.{not, ◌&&◌, ◌||◌}
use Rattle.std.specs.List.{list_any}
use Rattle.std.proofs.lemmas.Bool.{cases_order}
use Rattle.sy_onecopy.specs.declared.Entry.{Entry}
use Rattle.sy_onecopy.specs.declared.Stage.{Stage}
use Rattle.sy_onecopy.specs.declared.Stage.TheVariants as stage
use Rattle.sy_onecopy.specs.Each.{changed_at}
use Rattle.sy_onecopy.specs.Before.{meet, before, blocks, is_named, is_pending, is_done, is_held, is_free}
use Rattle.sy_needs.specs.Order.{both_on}
use Rattle.sy_onecopy.specs.Settle.{with_stage}
use Rattle.sy_needs.specs.Order.{needs_meet}
use Rattle.sy_settling.specs.Orderly.{IsAt}
use Rattle.sy_settling.proofs.ListLemmas.{get-take, get-of_take, take-changed, or_left, or_right, or_false, and_left, and_right, and_true, not_true, some_is, any-at, no_right}
use Rattle.sy_settling.proofs.ElementLemmas.{meet_comm}

pub free-pending : (xs : List Entry) (k : ℕ) (e : Entry) → is_free xs k e ≡ true → is_pending e.stage ≡ true
unfolding is_free
free-pending xs k e h = and_left (is_pending e.stage) (not (is_held (take k xs) e)) h

pub free-unheld : (xs : List Entry) (k : ℕ) (e : Entry) → is_free xs k e ≡ true → is_held (take k xs) e ≡ false
unfolding is_free
free-unheld xs k e h = not_true (is_held (take k xs) e) (and_right (is_pending e.stage) (not (is_held (take k xs) e)) h)

pub free-from : (xs : List Entry) (k : ℕ) (e : Entry) → is_pending e.stage ≡ true → is_held (take k xs) e ≡ false → is_free xs k e ≡ true
unfolding is_free
free-from xs k e p h = and_true (is_pending e.stage) (not (is_held (take k xs) e)) p (ap not h)

pub pending-open : (s : Stage) → is_pending s ≡ true → is_done s ≡ false
pending-open stage.Pending p = refl
pending-open stage.Granted p = refl
pending-open stage.Done p = absurd cc
pending-open (stage.Failed f) p = absurd cc

not_before : (x y : Entry) → is_done x.stage ≡ false → blocks y x ≡ false → before x y ≡ false
unfolding blocks
not_before x y d h = ap (λ t. not t && before x y) (sym d) ∙ h

not_met : (x y : Entry) → is_done x.stage ≡ false → blocks y x ≡ false → needs_meet x.needs x.place y.needs y.place ≡ false
unfolding before meet
not_met x y d h = or_left (meet x y) (is_named x.work y.after || both_on x.in_order y.in_order) (not_before x y d h)

earlier_apart : (xs : List Entry) (j k : ℕ) (x y : Entry) → j < k → IsAt xs j x → is_done x.stage ≡ false → is_held (take k xs) y ≡ false → needs_meet x.needs x.place y.needs y.place ≡ false
unfolding is_held
earlier_apart xs j k x y lt g d h = not_met x y d (any-at (blocks y) (take k xs) j x h (get-take xs k j lt ∙ g))

-- two entries of which neither is done and neither is held don't meet
pub strangers : (xs : List Entry) (j k : ℕ) (x y : Entry) → j ≢ k → IsAt xs j x → IsAt xs k y → is_done x.stage ≡ false → is_done y.stage ≡ false → is_held (take j xs) x ≡ false → is_held (take k xs) y ≡ false → needs_meet x.needs x.place y.needs y.place ≡ false
strangers xs j k x y ne gx gy dx dy hx hy =
    elim (cases_order j k) [
      | inl e ↦ absurd (ne e)
      | inr o ↦ elim o [
        | inl lt ↦ earlier_apart xs j k x y lt gx dx hy
        | inr lt ↦ meet_comm y.needs x.needs y.place x.place (earlier_apart xs k j y x lt gy dy hx)
      ]
    ]

restaged : (s : Stage) (x y : Entry) → is_done x.stage ≡ false → blocks y x ≡ false → blocks y (with_stage s x) ≡ false
unfolding blocks before meet
restaged s x y d h = no_right (not (is_done s)) (before x y) (not_before x y d h)

pub held-changed : (s : Stage) (j : ℕ) (xs : List Entry) (y : Entry) → ((x : Entry) → IsAt xs j x → is_done x.stage ≡ false) → is_held xs y ≡ false → is_held (changed_at (with_stage s) j xs) y ≡ false
unfolding is_held
held-changed s j [] y d h = refl
held-changed s zero (x ∷ xs) y d h =
    or_false (blocks y (with_stage s x)) (list_any (blocks y) xs) (restaged s x y (d x refl) (or_left (blocks y x) (list_any (blocks y) xs) h)) (or_right (blocks y x) (list_any (blocks y) xs) h)
held-changed s (suc j) (x ∷ xs) y d h =
    or_false (blocks y x) (list_any (blocks y) (changed_at (with_stage s) j xs)) (or_left (blocks y x) (list_any (blocks y) xs) h)
    (held-changed s j xs y d (or_right (blocks y x) (list_any (blocks y) xs) h))

-- an entry that isn't done changes its stage: what was not held is not held
pub unheld-changed : (s : Stage) (j k : ℕ) (xs : List Entry) (x y : Entry) → IsAt xs j x → is_done x.stage ≡ false → is_held (take k xs) y ≡ false → is_held (take k (changed_at (with_stage s) j xs)) y ≡ false
unheld-changed s j k xs x y g d h =
    ap (λ l. is_held l y) (take-changed (with_stage s) k j xs)
    ∙ held-changed s j (take k xs) y (λ z i. subst (λ u. is_done u.stage ≡ false) (some_is (sym g ∙ get-of_take xs k j z i)) d) h

pub free-changed : (s : Stage) (j k : ℕ) (xs : List Entry) (x y : Entry) → IsAt xs j x → is_done x.stage ≡ false → is_free xs k y ≡ true → is_free (changed_at (with_stage s) j xs) k y ≡ true
free-changed s j k xs x y g d f =
    free-from (changed_at (with_stage s) j xs) k y (free-pending xs k y f) (unheld-changed s j k xs x y g d (free-unheld xs k y f))

pub held-restaged : (s : Stage) (xs : List Entry) (y : Entry) → is_held xs (with_stage s y) ≡ is_held xs y
unfolding is_held blocks before meet
held-restaged s xs y = refl

pub staged-at : (s : Stage) (k : ℕ) (xs : List Entry) (x : Entry) → IsAt (changed_at (with_stage s) k xs) k x → x.stage ≡ s
staged-at s k [] x g = absurd cc
staged-at s zero (y ∷ ys) x g = ap (λ z. z.stage) (sym (some_is g))
staged-at s (suc k) (y ∷ ys) x g = staged-at s k ys x g
