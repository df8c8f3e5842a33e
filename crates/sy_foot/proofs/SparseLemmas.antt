-- Lists that are written and added to, and what a sparse set has of a cell afterwards.
use Rattle.std.proofs.Common.{◌≡◌, ◌≢◌, refl, sym, ap, subst, ◌∙◌, ℕ, zero, suc, ◌<◌, List, [], ◌∷◌, ◌++◌, length, set, Option, Some, None, arith, eq-eqb, ◌⊎◌, inl, inr}
use Rattle.std.proofs.lemmas.Bool.{ne_eqb}
use Rattle.std.proofs.lemmas.Bool.Decides.{eqb_tells}
use Rattle.std.specs.Prelude.{slice_get}
use Rattle.sy_foot.specs.declared.entry.Entry.{Entry}
use Rattle.sy_foot.specs.Sparse.{IsPlaced, Puts, at_index, own, seen}

pub looked_at : (index : List ℕ) (es : List Entry) (c : ℕ) (o : Option ℕ) → o ≡ slice_get index c → at_index es c o ≡ seen index es c
looked_at index es c o e = ap (at_index es c) e

pub get-set_here : {A : Type 0} (xs : List A) (k : ℕ) (y : A) → k < length xs → slice_get (set xs k y) k ≡ Some y
get-set_here [] k y h = absurd (omega arith)
get-set_here (x ∷ xs) zero y h = refl
get-set_here (x ∷ xs) (suc k) y h = get-set_here xs k y (omega arith)

pub get-set_other : {A : Type 0} (xs : List A) (k j : ℕ) (y : A) → j ≢ k → slice_get (set xs k y) j ≡ slice_get xs j
get-set_other [] k j y ne = refl
get-set_other (x ∷ xs) zero zero y ne = absurd (ne refl)
get-set_other (x ∷ xs) zero (suc j) y ne = refl
get-set_other (x ∷ xs) (suc k) zero y ne = refl
get-set_other (x ∷ xs) (suc k) (suc j) y ne = get-set_other xs k j y (λ e. ne (ap (λ n. suc n) e))

-- an element after a write is the new one or a former one
pub set_cases : {A : Type 0} (xs : List A) (k j : ℕ) (y e : A) → slice_get (set xs k y) j ≡ Some e → ((j ≡ k) × (y ≡ e)) ⊎ (slice_get xs j ≡ Some e)
set_cases [] k j y e h = inr h
set_cases (x ∷ xs) zero zero y e h = inl (refl, cc)
set_cases (x ∷ xs) zero (suc j) y e h = inr h
set_cases (x ∷ xs) (suc k) zero y e h = inr h
set_cases (x ∷ xs) (suc k) (suc j) y e h =
    elim (set_cases xs k j y e h) [ inl p ↦ inl (ap (λ n. suc n) p.0, p.1) | inr q ↦ inr q ]

-- an element of a longer list is the last one or a former one
pub append_cases : {A : Type 0} (xs : List A) (j : ℕ) (y e : A) → slice_get (xs ++ y ∷ []) j ≡ Some e → ((j ≡ length xs) × (y ≡ e)) ⊎ (slice_get xs j ≡ Some e)
append_cases [] zero y e h = inl (refl, cc)
append_cases [] (suc j) y e h = inr h
append_cases (x ∷ xs) zero y e h = inr h
append_cases (x ∷ xs) (suc j) y e h =
    elim (append_cases xs j y e h) [ inl p ↦ inl (omega (arith, p.0), p.1) | inr q ↦ inr q ]

-- an entry at the index of its cell is the one that is seen
pub seen-listed : (index : List ℕ) (es : List Entry) (k : ℕ) (x : Entry) → slice_get index x.cell ≡ Some k → slice_get es k ≡ Some x → seen index es x.cell ≡ Some x
seen-listed index es k x at here = rw (at, here, eq-eqb x.cell x.cell refl) refl

pub placed-set : (index : List ℕ) (es : List Entry) (k : ℕ) (e : Entry) → IsPlaced index es → slice_get index e.cell ≡ Some k → IsPlaced index (set es k e)
placed-set index es k e placed at j x is =
    elim (set_cases es k j e x is) [ inl p ↦ rw (p.0, ← p.1) at | inr q ↦ placed j x q ]

pub placed-added : (index : List ℕ) (es new_es : List Entry) (n : ℕ) (e : Entry) → IsPlaced index es → seen index es e.cell ≡ None → e.cell < length index → n ≡ length es → new_es ≡ es ++ e ∷ [] → IsPlaced (set index e.cell n) new_es
placed-added index es new_es n e placed new within is_end longer j x is =
    elim (append_cases es j e x (subst (λ l. slice_get l j ≡ Some x) longer is)) [
      | inl p ↦ rw (← p.1, p.0, ← is_end) (get-set_here index e.cell n within)
      | inr q ↦
          let at = placed j x q in
          let here = seen-listed index es j x at q in
          let other : x.cell ≢ e.cell = λ same. let z : seen index es e.cell ≡ Some x = subst (λ c. seen index es c ≡ Some x) same here in absurd (let n : None ≡ Some x = sym new ∙ z in cc) in
          get-set_other index e.cell x.cell n other ∙ at
    ]

-- an entry of another cell is none of this one
own-none : (d : ℕ) (o : Option Entry) → ((x : Entry) → o ≡ Some x → x.cell ≢ d) → own d o ≡ None
own-none d None other = refl
own-none d (Some x) other = rw (ne_eqb x.cell d (other x refl)) refl

own_same : (c : ℕ) (x : Entry) → own c (Some x) ≢ None → x.cell ≡ c
own_same c x some = elim (eqb_tells x.cell c) [ inl q ↦ q.1 | inr q ↦ absurd (some (rw q.0 refl)) ]

set_other : (es : List Entry) (k : ℕ) (e : Entry) (d : ℕ) → e.cell ≢ d → ((x : Entry) → slice_get es k ≡ Some x → x.cell ≢ d) → (o : Option ℕ) → at_index (set es k e) d o ≡ at_index es d o
set_other es k e d ne former None = refl
set_other es k e d ne former (Some j) =
    elim (eqb_tells j k) [
      | inl q ↦
          let was : (x : Entry) → slice_get es j ≡ Some x → x.cell ≢ d = λ x is. former x (subst (λ i. slice_get es i ≡ Some x) q.1 is) in
          let now : (x : Entry) → slice_get (set es k e) j ≡ Some x → x.cell ≢ d = λ x is. elim (set_cases es k j e x is) [ inl p ↦ subst (λ y. y.cell ≢ d) p.1 ne | inr r ↦ was x r ] in
          own-none d (slice_get (set es k e) j) now ∙ sym (own-none d (slice_get es j) was)
      | inr q ↦ ap (own d) (get-set_other es k j e q.1)
    ]

pub puts-set : (index : List ℕ) (es : List Entry) (k : ℕ) (e : Entry) → slice_get index e.cell ≡ Some k → k < length es → seen index es e.cell ≢ None → Puts (seen index es) (seen index (set es k e)) e
puts-set index es k e at within some =
    let own_some : own e.cell (slice_get es k) ≢ None = subst (λ o. at_index es e.cell o ≢ None) at some in
    let former : (x : Entry) → slice_get es k ≡ Some x → x.cell ≡ e.cell = λ x is. own_same e.cell x (subst (λ o. own e.cell o ≢ None) is own_some) in
    record {
      here = seen-listed index (set es k e) k e at (get-set_here es k e within);
      others = λ d ne. set_other es k e d (λ same. ne (sym same)) (λ x is same. ne (sym same ∙ former x is)) (slice_get index d);
    }

append-end : (es : List Entry) (e : Entry) (n : ℕ) → n ≡ length es → slice_get (es ++ e ∷ []) n ≡ Some e
append-end [] e zero h = refl
append-end [] e (suc n) h = absurd (omega (arith, h))
append-end (x ∷ es) e zero h = absurd (omega (arith, h))
append-end (x ∷ es) e (suc n) h = append-end es e n (omega (arith, h))

append_own : (es : List Entry) (e : Entry) (d : ℕ) → e.cell ≢ d → (j : ℕ) → own d (slice_get (es ++ e ∷ []) j) ≡ own d (slice_get es j)
append_own [] e d ne zero = rw (ne_eqb e.cell d ne) refl
append_own [] e d ne (suc j) = refl
append_own (x ∷ es) e d ne zero = refl
append_own (x ∷ es) e d ne (suc j) = append_own es e d ne j

append_other : (es : List Entry) (e : Entry) (d : ℕ) → e.cell ≢ d → (o : Option ℕ) → at_index (es ++ e ∷ []) d o ≡ at_index es d o
append_other es e d ne None = refl
append_other es e d ne (Some j) = append_own es e d ne j

pub puts-added : (index : List ℕ) (es new_es : List Entry) (n : ℕ) (e : Entry) → e.cell < length index → n ≡ length es → new_es ≡ es ++ e ∷ [] → Puts (seen index es) (seen (set index e.cell n) new_es) e
puts-added index es new_es n e within is_end longer =
    subst (λ l. Puts (seen index es) (seen (set index e.cell n) l) e) (sym longer) (record {
      here = seen-listed (set index e.cell n) (es ++ e ∷ []) n e (get-set_here index e.cell n within) (append-end es e n is_end);
      others = λ d ne. ap (at_index (es ++ e ∷ []) d) (get-set_other index e.cell d n ne) ∙ append_other es e d (λ same. ne (sym same)) (slice_get index d);
    })
