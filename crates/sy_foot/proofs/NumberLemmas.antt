-- The runs of a command: which elements they have, that they are apart, and that each need is within one.
use Rattle.std.proofs.Common.{◌≡◌, ◌≢◌, refl, ap, subst, ◌∙◌, ℕ, zero, suc, ◌+◌, ◌<◌, ◌≤◌, Bool, true, false, ◌||◌, List, [], ◌∷◌, length, get_or, Some, None, arith}
use Rattle.std.specs.List.{list_any}
use Rattle.std.specs.Prelude.{slice_get, nat_lt}
use Rattle.std.proofs.lemmas.Bool.{or_left, or_right, and_from, and_left, or_from, eq-eqb, ne_eqb, le-leb}
use Rattle.sy_access.specs.Needs.{has_cell}
use Rattle.sy_access.specs.declared.access.Need.{Need}
use Rattle.sy_foot.specs.declared.runs.Run.{Run}
use Rattle.sy_foot.specs.Numbered.{is_below}
use Rattle.sy_foot.specs.Runs.{has_element, inserted, is_in, local_runs, run_of, runs_with, total}
use Rattle.sy_foot.proofs.RunLemmas.{Apart, In, apart-inserted, contains, held-new, held-old, in-has, in-inserted, is_held}

has_need : (n : Need) (root i : ℕ) → has_element (run_of n) root i ≡ has_cell n root i
unfolding has_cell
has_need n root i = refl

pub need-in : (n : Need) (root i : ℕ) → has_cell n root i ≡ true → In (run_of n) root i
need-in n root i h = in-has (run_of n) root i (has_need n root i ∙ h)

shifted : (a b c : Bool) → ((a || b) || c) ≡ (b || (a || c))
shifted true true c = refl
shifted true false c = refl
shifted false b c = refl

or_none : (a : Bool) → a ≡ (a || false)
or_none true = refl
or_none false = refl

-- the elements of needs
pub in-runs_with : (ns : List Need) (xs : List Run) (root i : ℕ) → is_in (runs_with xs ns) root i ≡ (is_in xs root i || list_any (λ n. has_cell n root i) ns)
in-runs_with [] xs root i = or_none (is_in xs root i)
in-runs_with (n ∷ ns) xs root i =
    in-runs_with ns (inserted (run_of n) xs) root i ∙ (ap (λ b. b || list_any (λ m. has_cell m root i) ns) (in-inserted xs (run_of n) root i ∙ ap (λ b. b || is_in xs root i) (has_need n root i)) ∙ shifted (has_cell n root i) (is_in xs root i) (list_any (λ m. has_cell m root i) ns))

pub apart-runs_with : (ns : List Need) (xs : List Run) → Apart xs → Apart (runs_with xs ns)
apart-runs_with [] xs a = a
apart-runs_with (n ∷ ns) xs a = apart-runs_with ns (inserted (run_of n) xs) (apart-inserted xs (run_of n) a)

held_kept : (ns : List Need) (xs : List Run) (r : Run) → is_held xs r ≡ true → is_held (runs_with xs ns) r ≡ true
held_kept [] xs r h = h
held_kept (n ∷ ns) xs r h = held_kept ns (inserted (run_of n) xs) r (held-old xs (run_of n) r h)

contains_itself : (r : Run) → contains r r ≡ true
contains_itself r = and_from _ _ (eq-eqb _ _ refl) (and_from _ _ (le-leb r.from r.from (omega arith)) (le-leb r.to r.to (omega arith)))

pub need-held : (ns : List Need) (xs : List Run) (k : ℕ) (n : Need) → slice_get ns k ≡ Some n → is_held (runs_with xs ns) (run_of n) ≡ true
need-held [] xs k n e = absurd (let z : None ≡ Some n = e in cc)
need-held (m ∷ ns) xs zero n e =
    let same : m ≡ n = cc in
    held_kept ns (inserted (run_of m) xs) (run_of n) (held-new xs (run_of m) (run_of n) (let P : Need → Type 0 = λ x. contains (run_of m) (run_of x) ≡ true in subst P same (contains_itself (run_of m))))
need-held (m ∷ ns) xs (suc k) n e = need-held ns (inserted (run_of m) xs) k n e

-- ---- local lists

other_slot : (k slot i n : ℕ) → k ≢ slot → has_element (record { list = k; from = 0; to = n }) slot i ≡ false
other_slot k slot i n ne = and_left _ _ (ne_eqb k slot ne)

own_slot : (k i n : ℕ) → has_element (record { list = k; from = 0; to = n }) k i ≡ nat_lt i n
own_slot k i n = rw (eq-eqb k k refl, le-leb 0 i (omega arith)) refl

-- a slot before the first one has no element
before : (ls : List ℕ) (k slot i : ℕ) → slot < k → is_in (local_runs k ls) slot i ≡ false
before [] k slot i h = refl
before (n ∷ ls) k slot i h = or_from _ _ (other_slot k slot i n (λ e. absurd (omega (arith, e, h)))) (before ls (k + 1) slot i (omega (arith, h)))

or_false : (a b : Bool) → b ≡ false → (a || b) ≡ a
or_false true b h = refl
or_false false b h = h

pub in-local_runs : (ls : List ℕ) (k j i : ℕ) → is_in (local_runs k ls) (k + j) i ≡ is_below i (slice_get ls j)
in-local_runs [] k j i = refl
in-local_runs (n ∷ ls) k zero i =
    let at : k + 0 ≡ k = omega arith in
    ap (λ s. is_in (local_runs k (n ∷ ls)) s i) at ∙ (or_false _ _ (before ls (k + 1) k i (omega arith)) ∙ own_slot k i n)
in-local_runs (n ∷ ls) k (suc j) i =
    let at : k + suc j ≡ (k + 1) + j = omega arith in
    ap (λ b. b || is_in (local_runs (k + 1) ls) (k + suc j) i) (other_slot k (k + suc j) i n (λ e. absurd (omega (arith, e)))) ∙ (ap (λ s. is_in (local_runs (k + 1) ls) s i) at ∙ in-local_runs ls (k + 1) j i)

pub apart-local_runs : (ls : List ℕ) (k : ℕ) → Apart (local_runs k ls)
apart-local_runs [] k = tt
apart-local_runs (n ∷ ls) k =
    (λ l i h. let q = in-has (record { list = k; from = 0; to = n }) l i h in before ls (k + 1) l i (let e = q.0 in omega (arith, e)), apart-local_runs ls (k + 1))

pub slot-held : (ls : List ℕ) (k j n : ℕ) → slice_get ls j ≡ Some n → is_held (local_runs k ls) (record { list = k + j; from = 0; to = n }) ≡ true
slot-held [] k j n e = absurd (let z : None ≡ Some n = e in cc)
slot-held (l ∷ ls) k zero n e =
    let same : l ≡ n = cc in
    or_left _ _ (and_from _ _ (eq-eqb k (k + 0) (omega arith)) (and_from _ _ (le-leb 0 0 (omega arith)) (le-leb n l (omega (arith, same)))))
slot-held (l ∷ ls) k (suc j) n e =
    let at : (k + 1) + j ≡ k + suc j = omega arith in
    or_right _ _ (subst (λ s. is_held (local_runs (k + 1) ls) (record { list = s; from = 0; to = n }) ≡ true) at (slot-held ls (k + 1) j n e))

-- one list isn't longer than all
pub slot-total : (ls : List ℕ) (k j : ℕ) → j < length ls → get_or ls j 0 ≤ total (local_runs k ls)
slot-total [] k j h = absurd (omega (arith, h))
slot-total (n ∷ ls) k zero h = omega arith
slot-total (n ∷ ls) k (suc j) h = let r = slot-total ls (k + 1) j (omega (arith, h)) in omega (arith, r)
