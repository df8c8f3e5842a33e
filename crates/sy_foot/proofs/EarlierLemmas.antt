-- The states that groups leave, cell by cell.
use Rattle.std.proofs.Common.{◌≡◌, ◌≢◌, refl, sym, ap, subst, ◌∙◌, ℕ, zero, suc, ◌+◌, ◌<◌, Bool, true, false, List, [], ◌∷◌, length, drop, set, get_or, Option, Some, None, ◌⊎◌, inl, inr, eq-eqb}
use Rattle.std.specs.List.{list_any}
use Rattle.std.specs.Prelude.{slice_get, nat_eq}
use Rattle.std.proofs.lemmas.Bool.{cases_Bool, eqb-true}
use Rattle.std.proofs.lemmas.Bool.Decides.{eqb_tells}
use Rattle.std.proofs.lemmas.List.{drop_more}
use Rattle.std.proofs.lemmas.List.Folds.{Any-from_list_any, list_any_at}
use Rattle.std.proofs.lemmas.Option.{cond_some, get_or_from_slice_get, slice_get_read, slice_get_within}
use Rattle.sy_foot.specs.declared.entry.Entry.{Entry}
use Rattle.sy_foot.specs.declared.earlier.State.{State}
use Rattle.sy_foot.specs.Earlier.{joined, state_after, state_meets, state_of}
use Rattle.sy_foot.specs.Sparse.{IsPlaced, at_index, own, seen}
use Rattle.sy_foot.proofs.SparseLemmas.{get-set_other, seen-listed}

-- one entry further
pub joined_here : (states : List State) (es : List Entry) (i : ℕ) (e : Entry) → i < length es → e ≡ get_or es i e → joined states (drop i es) ≡ joined (set states e.cell (state_of e.wrote)) (drop (i + 1) es)
joined_here states es i e h eq = ap (joined states) (drop_more es i e h ∙ ap (λ x. x ∷ drop (i + 1) es) (sym eq))

pub option_cases : {A : Type 0} (o : Option A) → (o ≡ None) ⊎ ((x : A) × (o ≡ Some x))
option_cases None = inl refl
option_cases (Some x) = inr (x, refl)

-- what is taken for a cell is of that cell
own_parts : (c : ℕ) (o : Option Entry) (e : Entry) → own c o ≡ Some e → (o ≡ Some e) × (e.cell ≡ c)
own_parts c None e h = absurd (let z : None ≡ Some e = h in cc)
own_parts c (Some x) e h =
    let parts = cond_some (nat_eq x.cell c) x e h in
    (ap (λ y. Some y) parts.1, ap (λ y. y.cell) (sym parts.1) ∙ eqb-true x.cell c parts.0)

index_parts : (es : List Entry) (c : ℕ) (o : Option ℕ) (e : Entry) → at_index es c o ≡ Some e → (k : ℕ) × (slice_get es k ≡ Some e) × (e.cell ≡ c)
index_parts es c None e h = absurd (let z : None ≡ Some e = h in cc)
index_parts es c (Some k) e h = let parts = own_parts c (slice_get es k) e h in (k, parts.0, parts.1)

-- what is seen of a cell is listed
pub seen-parts : (index : List ℕ) (es : List Entry) (c : ℕ) (e : Entry) → seen index es c ≡ Some e → (k : ℕ) × (slice_get es k ≡ Some e) × (e.cell ≡ c)
seen-parts index es c e h = index_parts es c (slice_get index c) e h

-- what passes is seen of its cell
pub any-seen : (p : Entry → Bool) (index : List ℕ) (es : List Entry) → IsPlaced index es → list_any p es ≡ true → (c : ℕ) × (e : Entry) × (seen index es c ≡ Some e) × (c ≡ e.cell) × (p e ≡ true)
any-seen p index es placed h =
    let a = Any-from_list_any p es h in
    let at = slice_get_read es (length es) a.0 a.1 refl a.2 (sym a.3) in
    (a.1.cell, a.1, seen-listed index es a.0 a.1 (placed a.0 a.1 at) at, refl, a.4)

-- where nothing passes, nothing that is seen does
pub none-seen : (p : Entry → Bool) (index : List ℕ) (es : List Entry) → list_any p es ≡ false → (c : ℕ) (e : Entry) → seen index es c ≡ Some e → (p e ≡ false) × (e.cell ≡ c)
none-seen p index es none c e h =
    let parts = seen-parts index es c e h in
    elim (cases_Bool (p e)) [
      | inl yes_p ↦
          let passes : p (get_or es parts.0 e) ≡ true = rw (get_or_from_slice_get es parts.0 e e parts.1) yes_p in
          let any = list_any_at p es parts.0 e (slice_get_within es parts.0 e parts.1) passes in
          absurd cc
      | inr no_p ↦ (no_p, parts.2)
    ]

-- the entry meets what earlier groups did to its cell
abbrev pub meets_entry : List State → Entry → Bool
meets_entry states e = state_meets e.wrote (slice_get states e.cell)

-- an answer on lists is one on equal lists
pub told : (r b : Bool) (states now : List State) (es listed : List Entry) → r ≡ list_any (meets_entry now) listed → now ≡ states → listed ≡ es → r ≡ b → list_any (meets_entry states) es ≡ b
told r b states now es listed is same_states same_entries answer =
    subst (λ l. list_any (meets_entry l) es ≡ b) same_states (subst (λ l. list_any (meets_entry now) l ≡ b) same_entries (sym is ∙ answer))

pub clean-seen : (states : List State) (index : List ℕ) (es : List Entry) → list_any (meets_entry states) es ≡ false → (c : ℕ) (e : Entry) → seen index es c ≡ Some e → state_meets e.wrote (slice_get states c) ≡ false
clean-seen states index es none c e is =
    let x = none-seen (meets_entry states) index es none c e is in
    subst (λ d. state_meets e.wrote (slice_get states d) ≡ false) x.1 x.0

-- ---- the states cell by cell

abbrev pub or_later : Option Entry → Option Entry → Option Entry
or_later None o = o
or_later (Some e) o = Some e

-- the last entry of the cell
abbrev pub found : List Entry → ℕ → Option Entry
found [] c = None
found (e ∷ es) c = or_later (found es c) (own c (Some e))

found_parts : (es : List Entry) (c : ℕ) (x : Entry) → found es c ≡ Some x → (k : ℕ) × (slice_get es k ≡ Some x) × (x.cell ≡ c)
found_parts [] c x h = absurd (let z : None ≡ Some x = h in cc)
found_parts (e ∷ es) c x h =
    elim (option_cases (found es c)) [
      | inl none ↦
          let here : own c (Some e) ≡ Some x = subst (λ o. or_later o (own c (Some e)) ≡ Some x) none h in
          let parts = own_parts c (Some e) x here in
          (zero, parts.0, parts.1)
      | inr y ↦
          let same : Some y.0 ≡ Some x = subst (λ o. or_later o (own c (Some e)) ≡ Some x) y.1 h in
          let parts = found_parts es c x (y.1 ∙ same) in
          (suc parts.0, parts.1, parts.2)
    ]

later_none : (a b : Option Entry) → or_later a b ≡ None → (a ≡ None) × (b ≡ None)
later_none None b h = (refl, h)
later_none (Some e) b h = absurd (let z : Some e ≡ None = h in cc)

own-here : (c : ℕ) (x : Entry) → x.cell ≡ c → own c (Some x) ≡ Some x
own-here c x same = rw (eq-eqb x.cell c same) refl

-- where none is found, none is listed
found_none : (es : List Entry) (c : ℕ) → found es c ≡ None → (k : ℕ) (x : Entry) → slice_get es k ≡ Some x → x.cell ≢ c
found_none [] c h k x is same = absurd (let z : None ≡ Some x = is in cc)
found_none (e ∷ es) c h zero x is same =
    let none = (later_none (found es c) (own c (Some e)) h).1 in
    let some : own c (Some e) ≡ Some x = subst (λ o. own c o ≡ Some x) (sym is) (own-here c x same) in
    absurd (let z : None ≡ Some x = sym none ∙ some in cc)
found_none (e ∷ es) c h (suc k) x is same = found_none es c (later_none (found es c) (own c (Some e)) h).0 k x is same

-- what is found is what is seen
found-seen : (index : List ℕ) (es : List Entry) (c : ℕ) → IsPlaced index es → found es c ≡ seen index es c
found-seen index es c placed =
    elim (option_cases (found es c)) [
      | inl none ↦
          elim (option_cases (seen index es c)) [
            | inl unseen ↦ none ∙ sym unseen
            | inr y ↦
                let parts = seen-parts index es c y.0 y.1 in
                absurd (found_none es c none parts.0 y.0 parts.1 parts.2)
          ]
      | inr x ↦
          let parts = found_parts es c x.0 x.1 in
          let here = seen-listed index es parts.0 x.0 (placed parts.0 x.0 parts.1) parts.1 in
          x.1 ∙ sym (subst (λ d. seen index es d ≡ Some x.0) parts.2 here)
    ]

-- a state that is there becomes another
abbrev renewed : State → Option State → Option State
renewed t None = None
renewed t (Some s) = Some t

get-set_renewed : (states : List State) (k : ℕ) (t : State) → slice_get (set states k t) k ≡ renewed t (slice_get states k)
get-set_renewed [] k t = refl
get-set_renewed (s ∷ states) zero t = refl
get-set_renewed (s ∷ states) (suc k) t = get-set_renewed states k t

after_renewed : (e : Entry) (s : Option State) (o : Option Entry) → state_after (renewed (state_of e.wrote) s) o ≡ state_after s (or_later o (Some e))
after_renewed e None o = refl
after_renewed e (Some s) None = refl
after_renewed e (Some s) (Some x) = refl

after_same : (s : Option State) (o : Option Entry) → state_after s o ≡ state_after s (or_later o None)
after_same s None = refl
after_same s (Some x) = refl

set_length : (states : List State) (k : ℕ) (t : State) → length (set states k t) ≡ length states
set_length [] k t = refl
set_length (s ∷ states) zero t = refl
set_length (s ∷ states) (suc k) t = ap (λ n. suc n) (set_length states k t)

put_step : (states : List State) (e : Entry) (c : ℕ) (o : Option Entry) → state_after (slice_get (set states e.cell (state_of e.wrote)) c) o ≡ state_after (slice_get states c) (or_later o (own c (Some e)))
put_step states e c o =
    elim (eqb_tells e.cell c) [
      | inl q ↦
          let here = ap (λ s. state_after s o) (get-set_renewed states e.cell (state_of e.wrote)) ∙ after_renewed e (slice_get states e.cell) o in
          let there = subst (λ d. state_after (slice_get (set states e.cell (state_of e.wrote)) d) o ≡ state_after (slice_get states d) (or_later o (Some e))) q.1 here in
          there ∙ ap (λ b. state_after (slice_get states c) (or_later o b)) (sym (own-here c e q.1))
      | inr q ↦
          let other : c ≢ e.cell = λ same. q.1 (sym same) in
          rw (get-set_other states e.cell c (state_of e.wrote) other, q.0) (after_same (slice_get states c) o)
    ]

after_none : (s : Option State) → s ≡ state_after s None
after_none None = refl
after_none (Some s) = refl

joined-found : (states : List State) (es : List Entry) (c : ℕ) → slice_get (joined states es) c ≡ state_after (slice_get states c) (found es c)
joined-found states [] c = after_none (slice_get states c)
joined-found states (e ∷ es) c = joined-found (set states e.cell (state_of e.wrote)) es c ∙ put_step states e c (found es c)

pub joined-length : (states : List State) (es : List Entry) → length (joined states es) ≡ length states
joined-length states [] = refl
joined-length states (e ∷ es) = joined-length (set states e.cell (state_of e.wrote)) es ∙ set_length states e.cell (state_of e.wrote)

-- what is joined is a change cell by cell
pub joined-at : (states : List State) (index : List ℕ) (es : List Entry) (c : ℕ) → IsPlaced index es → slice_get (joined states es) c ≡ state_after (slice_get states c) (seen index es c)
joined-at states index es c placed = joined-found states es c ∙ ap (state_after (slice_get states c)) (found-seen index es c placed)
