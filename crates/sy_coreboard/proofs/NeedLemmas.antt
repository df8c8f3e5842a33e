-- What the needs of two entries tell of their places and of the roots that they write.
use Rattle.std.proofs.Common.{◌≡◌, ℕ, zero, suc, ◌≤◌, List, [], ◌∷◌, length, Bool, true, false, Some, refl, sym, ap, ◌∙◌, subst, inl, inr, arith}
use Rattle.std.specs.Prelude.{slice_get, not, ◌&&◌, ◌||◌, ◌==◌, nat_le, nat_lt}
use Rattle.std.specs.List.{list_any, list_all}
use Rattle.std.proofs.lemmas.Bool.{cases_Bool}
use Rattle.std.proofs.lemmas.Bool.Decides.{nat_tests}
use Rattle.sy_access.specs.declared.access.Need.{Need}
use Rattle.sy_access.specs.Needs.{writes, has_cell, conflict, is_apart}
use Rattle.sy_onecopy.specs.declared.Buffer.{Buffer}
use Rattle.sy_onecopy.specs.declared.Entry.{Entry}
use Rattle.sy_needs.specs.Order.{meets_one, needs_meet}
use Rattle.sy_onecopy.specs.Copies.{makes, names, uses}
use Rattle.sy_needs.specs.Versions.{renews, replaces}
use Rattle.sy_needs.specs.Elements.{is_written, writes_at}
use Rattle.sy_onecopy.specs.Outcome.{values_at, values_of}
use Rattle.sy_onecopy.specs.Step.{writes_if_fresh}
use Rattle.sy_settling.proofs.ListLemmas.{some_is, or_left, or_right, or_false, and_left, and_right, any-at}
use Rattle.sy_sound.specs.Sound.{IsHeld}

pub and_off : (a x w : Bool) → (a && w) ≡ false → ((a && x) && w) ≡ false
and_off false x w h = refl
and_off true false w h = refl
and_off true true w h = h

pub unmade : (r i : ℕ) (needs : List Need) → list_any (λ n. n.buffer == r && writes n.mode) needs ≡ false → list_any (writes_at r i) needs ≡ false
unfolding has_cell
unmade r i [] h = refl
unmade r i (n ∷ ns) h =
    let made = λ (m : Need). m.buffer == r && writes m.mode in
    or_false (writes_at r i n) (list_any (writes_at r i) ns)
    (and_off (n.buffer == r) (nat_le n.from i && nat_lt i n.to) (writes n.mode) (or_left (made n) (list_any made ns) h))
    (unmade r i ns (or_right (made n) (list_any made ns) h))

-- an entry that makes no version of a root writes none of its elements
pub unmade-unwritten : (e : Entry) (r i : ℕ) → makes e r ≡ false → is_written e.needs r i ≡ false
unfolding makes renews is_written
unmade-unwritten e r i h = unmade r i e.needs h

-- a need that some entry has
pub record Among (f : Need → Bool) (needs : List Need) : Type 0 where
  pub need : Need
  pub place : ℕ
  pub at : slice_get needs place ≡ Some need
  pub passes : f need ≡ true

pub among : (f : Need → Bool) (needs : List Need) → list_any f needs ≡ true → Among f needs
among f [] h = absurd cc
among f (n ∷ ns) h = elim (cases_Bool (f n)) [
  | inl v ↦ record { need = n; place = 0; at = refl; passes = v }
  | inr v ↦
      let a = among f ns (ap (λ t. t || list_any f ns) (sym v) ∙ h) in
      record { need = a.need; place = suc a.place; at = a.at; passes = a.passes }
]

pub all-at : {A : Type 0} (g : A → Bool) (xs : List A) (k : ℕ) (x : A) → list_all g xs ≡ true → slice_get xs k ≡ Some x → g x ≡ true
all-at g [] k x h e = absurd cc
all-at g (y ∷ ys) zero x h e = subst (λ z. g z ≡ true) (some_is e) (and_left (g y) (list_all g ys) h)
all-at g (y ∷ ys) (suc k) x h e = all-at g ys k x (and_right (g y) (list_all g ys) h) e

pub unmet : (f g : Need → Bool) (xs ys : List Need) (p q : ℕ) → needs_meet xs p ys q ≡ false → (a : Among f xs) → (b : Among g ys) → meets_one a.need p q b.need ≡ false
unmet f g xs ys p q m a b =
    any-at (meets_one a.need p q) ys b.place b.need (any-at (λ n. list_any (meets_one n p q) ys) xs a.place a.need m a.at) b.at

pub same_place : (a b : Need) (p q r : ℕ) → (a.buffer == r && writes a.mode) ≡ true → (b.buffer == r) ≡ true → meets_one a p q b ≡ false → p ≡ q
unfolding conflict is_apart
same_place a b p q r ha hb m = grind (arith, nat_tests)

pub names_it : (r count : ℕ) (e : Entry) → uses e r count ≡ true → list_any (λ (n : Need). n.buffer == r) e.needs ≡ true
unfolding uses
names_it r count e h = and_left (names e r) (not (replaces e.needs r count)) h

-- an entry that makes a version of a root and one that names it stand at one place, where they don't meet
pub one_place : (x y : Entry) (r count : ℕ) → makes x r ≡ true → uses y r count ≡ true → needs_meet x.needs x.place y.needs y.place ≡ false → x.place ≡ y.place
unfolding makes renews
one_place x y r count m u s =
    let a = among (λ n. n.buffer == r && writes n.mode) x.needs m in
    let b = among (λ n. n.buffer == r) y.needs (names_it r count y u) in
    same_place a.need b.need x.place y.place r a.passes b.passes (unmet (λ n. n.buffer == r && writes n.mode) (λ n. n.buffer == r) x.needs y.needs x.place y.place s a b)

-- ---- an entry whose needed root isn't current

pub covering : (r count : ℕ) (n : Need) → (n.buffer == r && n.from == 0 && nat_le count n.to) ≡ true → (n.buffer ≡ r) × (n.from ≡ 0) × (count ≤ n.to)
covering r count n h = (grind (arith, nat_tests), grind (arith, nat_tests), grind (arith, nat_tests))

pub replaced : (e : Entry) (r count : ℕ) → uses e r count ≡ false → names e r ≡ true → replaces e.needs r count ≡ true
unfolding uses
replaced e r count u n = elim (cases_Bool (replaces e.needs r count)) [
  | inl v ↦ v
  | inr v ↦ absurd (let z : true ≡ false = sym (ap (λ t. t && not (replaces e.needs r count)) n ∙ ap not v) ∙ u in cc)
]

pub made_named : (r : ℕ) (needs : List Need) → list_any (λ n. n.buffer == r && writes n.mode) needs ≡ true → list_any (λ (n : Need). n.buffer == r) needs ≡ true
made_named r [] h = h
made_named r (n ∷ ns) h = elim (cases_Bool (n.buffer == r)) [
  | inl v ↦ ap (λ t. t || list_any (λ (m : Need). m.buffer == r) ns) v
  | inr v ↦ ap (λ t. t || list_any (λ (m : Need). m.buffer == r) ns) v ∙ made_named r ns (sym (ap (λ t. (t && writes n.mode) || list_any (λ (m : Need). m.buffer == r && writes m.mode) ns) v) ∙ h)
]

pub conflicts_with_all : (a b : Need) (r count : ℕ) → a.buffer ≡ r → a.from ≡ 0 → count ≤ a.to → writes a.mode ≡ true → b.buffer ≡ r → b.from ≤ b.to → b.to ≤ count → conflict a b ≡ true
unfolding conflict
conflicts_with_all a b r count ea fa ca wa eb ub tb = grind (arith, nat_tests)

pub writes_all : (a : Need) (r : ℕ) → a.buffer ≡ r → (not (a.buffer == r) || a.no_init) ≡ true → writes_if_fresh a ≡ true → writes a.mode ≡ true
writes_all a r e h w = grind (arith, nat_tests)

pub not_both : (a b : Bool) → (a || b) ≡ false → a ≡ true → {A : Type 0} → A
not_both a b h v = absurd (let z : false ≡ true = sym (or_left a b h) ∙ v in cc)

pub held_within : (buffers : List Buffer) (n : Need) (r : ℕ) → n.buffer ≡ r → IsHeld buffers n → (n.from ≤ n.to) × (n.to ≤ length (values_at buffers r))
held_within buffers n r e h =
    let is : length (values_at buffers r) ≡ length h.root.values = ap (λ i. length (values_at buffers i)) (sym e) ∙ ap (λ o. length (values_of o)) h.there in
    (h.up, (let w = h.within in omega (arith, is)))

pub named_here : (n : Need) (r : ℕ) → (n.buffer == r) ≡ true → n.buffer ≡ r
named_here n r h = grind (arith, nat_tests)
