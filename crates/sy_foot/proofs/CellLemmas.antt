-- Cells and their numbers are told by one another.
use Rattle.std.proofs.Common.{◌≡◌, refl, sym, ap, subst, ◌∙◌, ℕ, ◌+◌, ◌-◌, ◌<◌, ◌≤◌, ◌^◌, true, List, [], Option, Some, None, ◌⊎◌, ◌↔◌, inl, inr, arith}
use Rattle.std.specs.Prelude.{option_map, is_some, nat_lt, slice_get}
use Rattle.std.proofs.lemmas.Bool.{cond-true, cond-false, lt-ltb, le-ltb, cases_lt}
use Rattle.sy_access.specs.Needs.{has_cell}
use Rattle.sy_access.specs.declared.access.Need.{Need}
use Rattle.sy_access.specs.declared.cells.Cell.{Cell}
use Rattle.sy_access.specs.declared.cells.Cell.TheVariants.{Buffer, Local}
use Rattle.sy_foot.specs.declared.numbering.CellNumbers.{CellNumbers}
use Rattle.sy_foot.specs.declared.runs.Run.{Run}
use Rattle.sy_foot.specs.Numbered.{IsNumbering, buffer_cell, is_named, local_cell}
use Rattle.sy_foot.specs.Numbering.{cell_at, number_at}
use Rattle.sy_foot.specs.Runs.{element_at, is_in, local_runs, number_in, run_of, runs_with, total}
use Rattle.sy_foot.proofs.NumberLemmas.{apart-local_runs, apart-runs_with, in-local_runs, in-runs_with, need-held, need-in, slot-held}
use Rattle.sy_foot.proofs.RunLemmas.{Apart, apart-by_index, apart-from_index, beyond, dense, element-number, from_first, number-at, number-in, one_run, pair_parts}

pub buffer-below : (m : CellNumbers) (root i n : ℕ) → number_at m (Buffer root i) ≡ Some n → n < m.shared
buffer-below m root i n e = let r = number-at m.buffers.items 0 root i n e in let b = r.1 in let s = m.numbered.shared_is in omega (arith, b, s)

pub local-above : (m : CellNumbers) (slot i n : ℕ) → number_at m (Local slot i) ≡ Some n → (m.shared ≤ n) × (n < m.count)
local-above m slot i n e =
    let r = number-at m.locals.items m.shared slot i n e in
    let a = r.0 in
    let b = r.1 in
    let s = m.numbered.count_is in
    (a, omega (arith, b, s))

pub shared-within : (m : CellNumbers) → m.shared ≤ m.count
shared-within m = let s = m.numbered.count_is in omega (arith, s)

pub number-below : (m : CellNumbers) (c : Cell) (n : ℕ) → number_at m c ≡ Some n → n < m.count
number-below m (Buffer root i) n e = let b = buffer-below m root i n e in let s = shared-within m in omega (arith, b, s)
number-below m (Local slot i) n e = (local-above m slot i n e).1

same_place : (f : ℕ → ℕ → Cell) (xs : List Run) (k l i r j : ℕ) → element_at xs k ≡ Some (l, i) → element_at xs k ≡ Some (r, j) → f r j ≡ f l i
same_place f xs k l i r j p q = let e = pair_parts r j l i (sym q ∙ p) in let a = e.0 in let b = e.1 in cc

pub number-one : (m : CellNumbers) (c d : Cell) (n : ℕ) → number_at m c ≡ Some n → number_at m d ≡ Some n → d ≡ c
number-one m (Buffer l i) (Buffer r j) n p q = same_place Buffer m.buffers.items (n - 0) l i r j (number-at m.buffers.items 0 l i n p).2 (number-at m.buffers.items 0 r j n q).2
number-one m (Local l i) (Local r j) n p q = same_place Local m.locals.items (n - m.shared) l i r j (number-at m.locals.items m.shared l i n p).2 (number-at m.locals.items m.shared r j n q).2
number-one m (Buffer l i) (Local r j) n p q = let a = buffer-below m l i n p in let b = (local-above m r j n q).0 in absurd (omega (arith, a, b))
number-one m (Local l i) (Buffer r j) n p q = let a = buffer-below m r j n q in let b = (local-above m l i n p).0 in absurd (omega (arith, a, b))

pub low-cell : (m : CellNumbers) (n : ℕ) → n < m.shared → cell_at m n ≡ buffer_cell (element_at m.buffers.items n)
low-cell m n h = cond-true (nat_lt n m.shared) _ _ (lt-ltb n m.shared h)

pub high-cell : (m : CellNumbers) (n : ℕ) → m.shared ≤ n → cell_at m n ≡ local_cell (element_at m.locals.items (n - m.shared))
high-cell m n h = cond-false (nat_lt n m.shared) _ _ (le-ltb n m.shared h)

pub number-cell : (m : CellNumbers) (c : Cell) (n : ℕ) → number_at m c ≡ Some n → cell_at m n ≡ Some c
number-cell m (Buffer l i) n e =
    let r = number-at m.buffers.items 0 l i n e in
    let at : n - 0 ≡ n = omega arith in
    low-cell m n (buffer-below m l i n e) ∙ ap buffer_cell (ap (element_at m.buffers.items) (sym at) ∙ r.2)
number-cell m (Local l i) n e =
    let r = number-at m.locals.items m.shared l i n e in
    high-cell m n (local-above m l i n e).0 ∙ ap local_cell r.2

place_cases : (o : Option (ℕ × ℕ)) → (o ≡ None) ⊎ ((l : ℕ) × (i : ℕ) × (o ≡ Some (l, i)))
place_cases None = inl refl
place_cases (Some p) = inr (p.0, p.1, refl)

none_some : (c : Cell) → None ≡ Some c → ⊥
none_some c e = cc

buffer-number : (m : CellNumbers) (c : Cell) (n : ℕ) → buffer_cell (element_at m.buffers.items n) ≡ Some c → number_at m c ≡ Some n
buffer-number m c n e =
    elim (place_cases (element_at m.buffers.items n)) [
      | inl none ↦ absurd (none_some c (sym (ap buffer_cell none) ∙ e))
      | inr p ↦
          let same : Some (Buffer p.0 p.1) ≡ Some c = sym (ap buffer_cell p.2) ∙ e in
          let cell : Buffer p.0 p.1 ≡ c = cc in
          let sum : 0 + n ≡ n = omega arith in
          subst (λ (d : Cell). number_at m d ≡ Some n) cell (element-number m.buffers.items 0 n p.0 p.1 (apart-from_index m.buffers.items m.numbered.buffers_apart) p.2 ∙ ap (λ k. Some k) sum)
    ]

local-number : (m : CellNumbers) (c : Cell) (n : ℕ) → m.shared ≤ n → local_cell (element_at m.locals.items (n - m.shared)) ≡ Some c → number_at m c ≡ Some n
local-number m c n h e =
    elim (place_cases (element_at m.locals.items (n - m.shared))) [
      | inl none ↦ absurd (none_some c (sym (ap local_cell none) ∙ e))
      | inr p ↦
          let same : Some (Local p.0 p.1) ≡ Some c = sym (ap local_cell p.2) ∙ e in
          let cell : Local p.0 p.1 ≡ c = cc in
          let sum : m.shared + (n - m.shared) ≡ n = omega (arith, h) in
          subst (λ (d : Cell). number_at m d ≡ Some n) cell (element-number m.locals.items m.shared (n - m.shared) p.0 p.1 (apart-from_index m.locals.items m.numbered.locals_apart) p.2 ∙ ap (λ k. Some k) sum)
    ]

pub cell-number : (m : CellNumbers) (c : Cell) (n : ℕ) → cell_at m n ≡ Some c → number_at m c ≡ Some n
cell-number m c n e =
    elim (cases_lt n m.shared) [
      | inl h ↦ buffer-number m c n (sym (low-cell m n h) ∙ e)
      | inr h ↦ local-number m c n h (sym (high-cell m n h) ∙ e)
    ]

some_buffer : (o : Option (ℕ × ℕ)) → is_some (buffer_cell o) ≡ is_some o
some_buffer None = refl
some_buffer (Some p) = refl

some_local : (o : Option (ℕ × ℕ)) → is_some (local_cell o) ≡ is_some o
some_local None = refl
some_local (Some p) = refl

pub cell-dense : (m : CellNumbers) (n : ℕ) → is_some (cell_at m n) ≡ nat_lt n m.count
cell-dense m n =
    let s = m.numbered.shared_is in
    let t = m.numbered.count_is in
    elim (cases_lt n m.shared) [
      | inl h ↦ ap (λ (o : Option Cell). is_some o) (low-cell m n h) ∙ (some_buffer (element_at m.buffers.items n) ∙ (dense m.buffers.items n (omega (arith, h, s)) ∙ sym (lt-ltb n m.count (omega (arith, h, t)))))
      | inr h ↦
          let at = ap (λ (o : Option Cell). is_some o) (high-cell m n h) ∙ some_local (element_at m.locals.items (n - m.shared)) in
          elim (cases_lt n m.count) [
            | inl k ↦ at ∙ (dense m.locals.items (n - m.shared) (omega (arith, h, k, t)) ∙ sym (lt-ltb n m.count k))
            | inr k ↦ at ∙ (ap (λ (o : Option (ℕ × ℕ)). is_some o) (beyond m.locals.items (n - m.shared) (omega (arith, h, k, t))) ∙ sym (le-ltb n m.count k))
          ]
    ]

pub low-told : (m : CellNumbers) (xs : List Run) (n : ℕ) (o : Option Cell) → xs ≡ m.buffers.items → n < m.shared → o ≡ buffer_cell (element_at xs n) → o ≡ cell_at m n
low-told m xs n o e h is = is ∙ (ap (λ (ys : List Run). buffer_cell (element_at ys n)) e ∙ sym (low-cell m n h))

pub high-told : (m : CellNumbers) (xs : List Run) (n : ℕ) (o : Option Cell) → xs ≡ m.locals.items → m.shared ≤ n → o ≡ local_cell (element_at xs (n - m.shared)) → o ≡ cell_at m n
high-told m xs n o e h is = is ∙ (ap (λ (ys : List Run). local_cell (element_at ys (n - m.shared))) e ∙ sym (high-cell m n h))

pub cell-told : (m : CellNumbers) (n : ℕ) (o : Option Cell) → o ≡ cell_at m n → (d : Cell) → (o ≡ Some d) ↔ (number_at m d ≡ Some n)
cell-told m n o e d = (λ h. cell-number m d n (sym e ∙ h), λ h. e ∙ number-cell m d n h)

pub dense-told : (m : CellNumbers) (n : ℕ) (o : Option Cell) → o ≡ cell_at m n → is_some o ≡ nat_lt n m.count
dense-told m n o e = ap (λ (p : Option Cell). is_some p) e ∙ cell-dense m n

pub buffers-fit : (m : CellNumbers) (xs : List Run) → xs ≡ m.buffers.items → 0 + total xs < 2 ^ 32
buffers-fit m xs e =
    let same : total xs ≡ total m.buffers.items = ap total e in
    let s = m.numbered.shared_is in
    let t = m.numbered.count_is in
    let f = m.numbered.fits in
    omega (arith, same, s, t, f)

pub locals-fit : (m : CellNumbers) (xs : List Run) → xs ≡ m.locals.items → m.shared + total xs < 2 ^ 32
locals-fit m xs e =
    let same : total xs ≡ total m.locals.items = ap total e in
    let t = m.numbered.count_is in
    let f = m.numbered.fits in
    omega (arith, same, t, f)

-- ---- the numbers of needs and local lists

pub named : (needs : List Need) (lengths : List ℕ) (buffers locals : List Run) (shared : ℕ) (number : Cell → Option ℕ) → ((root i : ℕ) → number (Buffer root i) ≡ number_in 0 buffers root i) → ((slot i : ℕ) → number (Local slot i) ≡ number_in shared locals slot i) → buffers ≡ runs_with [] needs → locals ≡ local_runs 0 lengths → (c : Cell) → is_some (number c) ≡ is_named needs lengths c
named needs lengths buffers locals shared number at_buffers at_locals b l (Buffer root i) =
    ap (λ (o : Option ℕ). is_some o) (at_buffers root i) ∙ (number-in buffers 0 root i ∙ (ap (λ (xs : List Run). is_in xs root i) b ∙ in-runs_with needs [] root i))
named needs lengths buffers locals shared number at_buffers at_locals b l (Local slot i) =
    let at : slot ≡ 0 + slot = omega arith in
    ap (λ (o : Option ℕ). is_some o) (at_locals slot i) ∙ (number-in locals shared slot i ∙ (ap (λ (xs : List Run). is_in xs slot i) l ∙ (ap (λ s. is_in (local_runs 0 lengths) s i) at ∙ in-local_runs lengths 0 slot i)))

pub one-run : (buffers : List Run) (needs : List Need) → buffers ≡ runs_with [] needs → (k : ℕ) (n : Need) → slice_get needs k ≡ Some n → (i : ℕ) → has_cell n n.buffer i ≡ true → number_in 0 buffers n.buffer i ≡ from_first (run_of n) i (number_in 0 buffers n.buffer n.from)
one-run buffers needs b k n at i h =
    let held = need-held needs [] k n at in
    let it = one_run (runs_with [] needs) 0 (run_of n) n.buffer i (apart-runs_with needs [] tt) held (need-in n n.buffer i h) in
    let P : List Run → Type 0 = λ xs. number_in 0 xs n.buffer i ≡ from_first (run_of n) i (number_in 0 xs n.buffer n.from) in
    subst P (sym b) it

pub local-run : (locals : List Run) (shared : ℕ) (lengths : List ℕ) → locals ≡ local_runs 0 lengths → (slot n i : ℕ) → slice_get lengths slot ≡ Some n → i < n → number_in shared locals slot i ≡ option_map (λ b. b + i) (number_in shared locals slot 0)
local-run locals shared lengths l slot n i at low =
    let r : Run = record { list = 0 + slot; from = 0; to = n } in
    let slot_is : 0 + slot ≡ slot = omega arith in
    let offset : i - 0 ≡ i = omega arith in
    let it = one_run (local_runs 0 lengths) shared r slot i (apart-local_runs lengths 0) (slot-held lengths 0 slot n at) (slot_is, omega arith, low) in
    let P : List Run → Type 0 = λ xs. number_in shared xs slot i ≡ option_map (λ b. b + i) (number_in shared xs slot 0) in
    subst P (sym l) (it ∙ ap (λ j. option_map (λ b. b + j) (number_in shared (local_runs 0 lengths) slot 0)) offset)

pub numbering : (needs : List Need) (lengths : List ℕ) (buffers locals : List Run) (shared count : ℕ) → buffers ≡ runs_with [] needs → locals ≡ local_runs 0 lengths → shared ≡ 0 + total buffers → count ≡ shared + total locals → count < 2 ^ 32 → IsNumbering buffers locals shared count
numbering needs lengths buffers locals shared count b l s t f =
    record {
      buffers_apart = apart-by_index buffers (subst Apart (sym b) (apart-runs_with needs [] tt));
      locals_apart = apart-by_index locals (subst Apart (sym l) (apart-local_runs lengths 0));
      shared_is = omega (arith, s);
      count_is = t;
      fits = f;
    }
