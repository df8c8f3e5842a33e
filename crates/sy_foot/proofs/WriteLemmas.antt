-- Lists of written cells: each cell is there once, and those of groups that don't meet go together.
use Rattle.std.proofs.Common.{◌≡◌, refl, sym, ap, subst, ◌∙◌, ℕ, ℤ, zero, suc, ◌+◌, ◌<◌, ◌≤◌, Bool, true, false, not, ◌||◌, List, [], ◌∷◌, ◌++◌, length, drop, get_or, Option, Some, None, ◌⊎◌, inl, inr, arith, append_assoc, append-nil}
use Rattle.std.specs.Prelude.{slice_get, nat_eq, nat_lt}
use Rattle.std.proofs.lemmas.Bool.{and_parts, and_from, or_cases, or_left, or_right, or_parts, or_from, not-true, not_from_false, eqb-true, eq-eqb, ne_eqb, ltb-true, cases_Bool, both_ways, cond-true, cond-false, false_from_ne_true}
use Rattle.std.proofs.lemmas.List.{drop_more}
use Rattle.sy_access.specs.declared.cells.Cell.{Cell}
use Rattle.sy_access.specs.Logs.{differ, is_logged, same_cell}
use Rattle.sy_access.proofs.Written.{equal_from_same}
use Rattle.sy_foot.specs.declared.earlier.State.{State}
use Rattle.sy_foot.specs.declared.earlier.State.TheVariants.{Written}
use Rattle.sy_foot.specs.declared.entry.Entry.{Entry}
use Rattle.sy_foot.specs.declared.numbering.CellNumbers.{CellNumbers}
use Rattle.sy_foot.specs.Earlier.{state_after, state_meets}
use Rattle.sy_foot.specs.GroupLogs.{IsGroupLog, cell_log, cells_in, with_cell}
use Rattle.sy_foot.specs.Numbering.{cell_at, number_at}
use Rattle.sy_foot.specs.Sparse.{Puts}
use Rattle.sy_foot.specs.Writes.{AreFirstWrites, are_distinct, first_written, is_listed, is_written, shared_writes}
use Rattle.sy_foot.proofs.CellLemmas.{cell-number}

-- ---- lists of cells

or_none : (a : Bool) → a ≡ (a || false)
or_none true = refl
or_none false = refl

or_assoc : (a b c : Bool) → (a || (b || c)) ≡ ((a || b) || c)
or_assoc true b c = refl
or_assoc false b c = refl

pub listed-append : (cs : List ℕ) (c d : ℕ) → is_listed d (cs ++ c ∷ []) ≡ (is_listed d cs || nat_eq d c)
listed-append [] c d = sym (or_none (nat_eq d c))
listed-append (b ∷ cs) c d = ap (λ x. nat_eq d b || x) (listed-append cs c d) ∙ or_assoc (nat_eq d b) (is_listed d cs) (nat_eq d c)

pub distinct-append : (cs : List ℕ) (c : ℕ) → are_distinct cs ≡ true → is_listed c cs ≡ false → are_distinct (cs ++ c ∷ []) ≡ true
distinct-append [] c h k = refl
distinct-append (b ∷ cs) c h k =
    let p = and_parts (not (is_listed b cs)) (are_distinct cs) h in
    let q = or_parts (nat_eq c b) (is_listed c cs) k in
    let other : nat_eq b c ≡ false = ne_eqb b c (λ e. both_ways (nat_eq c b) q.0 (eq-eqb c b (sym e))) in
    and_from _ _ (not_from_false (is_listed b (cs ++ c ∷ [])) (listed-append cs c b ∙ or_from (is_listed b cs) (nat_eq b c) (not-true _ p.0) other)) (distinct-append cs c p.1 q.1)

listed_joined : (xs ys : List ℕ) (d : ℕ) → is_listed d (xs ++ ys) ≡ (is_listed d xs || is_listed d ys)
listed_joined [] ys d = refl
listed_joined (a ∷ xs) ys d = ap (λ x. nat_eq d a || x) (listed_joined xs ys d) ∙ or_assoc (nat_eq d a) (is_listed d xs) (is_listed d ys)

distinct_joined : (xs ys : List ℕ) → are_distinct xs ≡ true → are_distinct ys ≡ true → ((d : ℕ) → is_listed d xs ≡ true → is_listed d ys ≡ false) → are_distinct (xs ++ ys) ≡ true
distinct_joined [] ys h k apart = k
distinct_joined (a ∷ xs) ys h k apart =
    let p = and_parts (not (is_listed a xs)) (are_distinct xs) h in
    and_from _ _ (not_from_false (is_listed a (xs ++ ys)) (listed_joined xs ys a ∙ or_from (is_listed a xs) (is_listed a ys) (not-true _ p.0) (apart a (or_left _ _ (eq-eqb a a refl))))) (distinct_joined xs ys p.1 k (λ d e. apart d (or_right (nat_eq d a) _ e)))

-- ---- first writes

pub none-first : (entries : ℕ → Option Entry) → ((c : ℕ) → entries c ≡ None) → AreFirstWrites [] entries
none-first entries none = record { once = refl; told = λ c. ap is_written (none c) }

pub same-first : (cells : List ℕ) (old new : ℕ → Option Entry) → AreFirstWrites cells old → ((c : ℕ) → new c ≡ old c) → AreFirstWrites cells new
same-first cells old new h same = record { once = h.once; told = λ c. ap is_written (same c) ∙ h.told c }

-- an entry that says what was said of its cell
pub kept-first : (cells : List ℕ) (old new : ℕ → Option Entry) (e : Entry) → AreFirstWrites cells old → Puts old new e → e.wrote ≡ is_written (old e.cell) → AreFirstWrites cells new
kept-first cells old new e h puts same =
    record {
      once = h.once;
      told = λ c. elim (cases_Bool (nat_eq c e.cell)) [
        | inl q ↦
            let at : c ≡ e.cell = eqb-true c e.cell q in
            subst (λ d. is_written (new d) ≡ is_listed d cells) (sym at) (ap is_written puts.here ∙ (same ∙ h.told e.cell))
        | inr q ↦ ap is_written (puts.others c (λ at. both_ways (nat_eq c e.cell) q (eq-eqb c e.cell at))) ∙ h.told c
      ];
    }

-- a first write
pub more-first : (cells : List ℕ) (old new : ℕ → Option Entry) (e : Entry) → AreFirstWrites cells old → Puts old new e → e.wrote ≡ true → is_written (old e.cell) ≡ false → AreFirstWrites (cells ++ e.cell ∷ []) new
more-first cells old new e h puts wrote first =
    record {
      once = distinct-append cells e.cell h.once (sym (h.told e.cell) ∙ first);
      told = λ c. elim (cases_Bool (nat_eq c e.cell)) [
        | inl q ↦
            let at : c ≡ e.cell = eqb-true c e.cell q in
            let here : is_written (new e.cell) ≡ true = ap is_written puts.here ∙ wrote in
            subst (λ d. is_written (new d) ≡ is_listed d (cells ++ e.cell ∷ [])) (sym at) (here ∙ sym (listed-append cells e.cell e.cell ∙ or_right (is_listed e.cell cells) _ (eq-eqb e.cell e.cell refl)))
        | inr q ↦
            ap is_written (puts.others c (λ at. both_ways (nat_eq c e.cell) q (eq-eqb c e.cell at))) ∙ (h.told c ∙ (or_none (is_listed c cells) ∙ sym (listed-append cells e.cell c ∙ ap (λ b. is_listed c cells || b) q)))
      ];
    }

pub unlisted-first : (cells now : List ℕ) (old new : ℕ → Option Entry) (e : Entry) → AreFirstWrites cells old → Puts old new e → e.wrote ≡ true → old e.cell ≡ None → now ≡ cells ++ e.cell ∷ [] → AreFirstWrites now new
unlisted-first cells now old new e h puts wrote none is =
    subst (λ (l : List ℕ). AreFirstWrites l new) (sym is) (more-first cells old new e h puts wrote (ap is_written none))

-- a write, be it the first of the cell or not
pub write-first : (cells now : List ℕ) (old new : ℕ → Option Entry) (e former : Entry) → AreFirstWrites cells old → Puts old new e → e.wrote ≡ true → old e.cell ≡ Some former → now ≡ first_written former.wrote cells e.cell → AreFirstWrites now new
write-first cells now old new e former h puts wrote was is =
    elim (cases_Bool former.wrote) [
      | inl q ↦ subst (λ (l : List ℕ). AreFirstWrites l new) (sym (is ∙ cond-true former.wrote cells _ q)) (kept-first cells old new e h puts (wrote ∙ sym (ap is_written was ∙ q)))
      | inr q ↦ subst (λ (l : List ℕ). AreFirstWrites l new) (sym (is ∙ cond-false former.wrote cells _ q)) (more-first cells old new e h puts wrote (ap is_written was ∙ q))
    ]

-- ---- the log of groups

-- what is listed there was written, and is shared
pub shared_listed : (shared : ℕ) (entries : ℕ → Option Entry) (cs : List ℕ) (c : ℕ) → is_listed c (cells_in (shared_writes shared entries cs)) ≡ true → (is_listed c cs ≡ true) × (c < shared)
shared_listed shared entries [] c h = absurd cc
shared_listed shared entries (b ∷ cs) c h =
    elim (cases_Bool (nat_lt b shared)) [
      | inl q ↦
          let at = subst (λ (l : List (ℕ × ℤ)). is_listed c (cells_in l) ≡ true) (cond-true (nat_lt b shared) _ _ q) h in
          elim (or_cases (nat_eq c b) _ at) [
            | inl e ↦ (or_left _ _ e, let same = eqb-true c b e in let low = ltb-true b shared q in omega (arith, same, low))
            | inr e ↦ let r = shared_listed shared entries cs c e in (or_right (nat_eq c b) _ r.0, r.1)
          ]
      | inr q ↦
          let r = shared_listed shared entries cs c (subst (λ (l : List (ℕ × ℤ)). is_listed c (cells_in l) ≡ true) (cond-false (nat_lt b shared) _ _ q) h) in
          (or_right (nat_eq c b) _ r.0, r.1)
    ]

pub shared_distinct : (shared : ℕ) (entries : ℕ → Option Entry) (cs : List ℕ) → are_distinct cs ≡ true → are_distinct (cells_in (shared_writes shared entries cs)) ≡ true
shared_distinct shared entries [] h = refl
shared_distinct shared entries (b ∷ cs) h =
    let p = and_parts (not (is_listed b cs)) (are_distinct cs) h in
    let rest = shared_distinct shared entries cs p.1 in
    elim (cases_Bool (nat_lt b shared)) [
      | inl q ↦
          let new : is_listed b (cells_in (shared_writes shared entries cs)) ≡ false = false_from_ne_true _ (λ e. both_ways (is_listed b cs) (not-true _ p.0) (shared_listed shared entries cs b e).0) in
          subst (λ (l : List (ℕ × ℤ)). are_distinct (cells_in l) ≡ true) (sym (cond-true (nat_lt b shared) _ _ q)) (and_from _ _ (not_from_false _ new) rest)
      | inr q ↦ subst (λ (l : List (ℕ × ℤ)). are_distinct (cells_in l) ≡ true) (sym (cond-false (nat_lt b shared) _ _ q)) rest
    ]

pub cells_joined : (a b : List (ℕ × ℤ)) → cells_in (a ++ b) ≡ cells_in a ++ cells_in b
cells_joined [] b = refl
cells_joined (w ∷ a) b = ap (λ l. w.0 ∷ l) (cells_joined a b)

-- an entry beside the state of its cell
pub meets_written : (w : Bool) (s : Option State) → s ≡ Some Written → state_meets w s ≡ true
meets_written w s e = rw e refl

wrote_entry : (o : Option Entry) → is_written o ≡ true → (e : Entry) × (o ≡ Some e) × (e.wrote ≡ true)
wrote_entry None h = absurd cc
wrote_entry (Some e) h = (e, refl, h)

still_written : (s : Option State) (o : Option Entry) → s ≡ Some Written → ((e : Entry) → o ≡ Some e → state_meets e.wrote s ≡ false) → state_after s o ≡ Some Written
still_written s None e clean = rw e refl
still_written s (Some x) e clean = absurd (both_ways (state_meets x.wrote s) (clean x refl) (meets_written x.wrote s e))

state_there : (states : List State) (c : ℕ) → c < length states → (s : State) × (slice_get states c ≡ Some s)
state_there [] c h = absurd (omega (arith, h))
state_there (s ∷ states) zero h = (s, refl)
state_there (s ∷ states) (suc c) h = state_there states c (omega (arith, h))

now_written : (s : Option State) (t : State) (o : Option Entry) (e : Entry) → s ≡ Some t → o ≡ Some e → e.wrote ≡ true → state_after s o ≡ Some Written
now_written s t o e at is wrote = rw (at, is, wrote) refl

-- a group that doesn't meet the earlier ones adds its writes
pub group-logged : (states new : List State) (log now : List (ℕ × ℤ)) (entries : ℕ → Option Entry) (cs : List ℕ) → IsGroupLog states log → AreFirstWrites cs entries → ((c : ℕ) (e : Entry) → entries c ≡ Some e → state_meets e.wrote (slice_get states c) ≡ false) → ((c : ℕ) → slice_get new c ≡ state_after (slice_get states c) (entries c)) → now ≡ log ++ shared_writes (length states) entries cs → IsGroupLog new now
group-logged states new log now entries cs h first clean joined is =
    let more = shared_writes (length states) entries cs in
    let cells : cells_in now ≡ cells_in log ++ cells_in more = ap cells_in is ∙ cells_joined log more in
    let apart : (d : ℕ) → is_listed d (cells_in log) ≡ true → is_listed d (cells_in more) ≡ false = λ d there. false_from_ne_true _ (λ here.
    let x = wrote_entry (entries d) (first.told d ∙ (shared_listed (length states) entries cs d here).0) in
    both_ways (state_meets x.0.wrote (slice_get states d)) (clean d x.0 x.1) (meets_written x.0.wrote (slice_get states d) (h.wrote d there))) in
    record {
      once = ap are_distinct cells ∙ distinct_joined (cells_in log) (cells_in more) h.once (shared_distinct (length states) entries cs first.once) apart;
      wrote = λ c there. elim (or_cases (is_listed c (cells_in log)) (is_listed c (cells_in more)) (sym (ap (is_listed c) cells ∙ listed_joined (cells_in log) (cells_in more) c) ∙ there)) [
        | inl e ↦ joined c ∙ still_written (slice_get states c) (entries c) (h.wrote c e) (clean c)
        | inr e ↦
            let q = shared_listed (length states) entries cs c e in
            let x = wrote_entry (entries c) (first.told c ∙ q.0) in
            let s = state_there states c q.1 in
            joined c ∙ now_written (slice_get states c) s.0 (entries c) x.0 s.1 x.1 x.2
      ];
    }

-- ---- the log with its cells

with_joined : (o : Option Cell) (z : ℤ) (items rest : List (Cell × ℤ)) → (items ++ with_cell o z []) ++ rest ≡ items ++ with_cell o z rest
with_joined None z items rest = append_assoc items [] rest
with_joined (Some c) z items rest = append_assoc items ((c, z) ∷ []) rest

pub log-step : (m : CellNumbers) (ws : List (ℕ × ℤ)) (i : ℕ) (w : ℕ × ℤ) (items new : List (Cell × ℤ)) → i < length ws → w ≡ get_or ws i w → new ≡ items ++ with_cell (cell_at m w.0) w.1 [] → new ++ cell_log m (drop (i + 1) ws) ≡ items ++ cell_log m (drop i ws)
log-step m ws i w items new h is grown =
    let rest = drop_more ws i w h ∙ ap (λ x. x ∷ drop (i + 1) ws) (sym is) in
    ap (λ (l : List (Cell × ℤ)). l ++ cell_log m (drop (i + 1) ws)) grown ∙ (with_joined (cell_at m w.0) w.1 items (cell_log m (drop (i + 1) ws)) ∙ ap (λ l. items ++ l) (sym (ap (cell_log m) rest)))

drop_past : (ws : List (ℕ × ℤ)) (i : ℕ) → length ws ≤ i → drop i ws ≡ []
drop_past [] zero h = refl
drop_past [] (suc i) h = refl
drop_past (w ∷ ws) zero h = absurd (omega (arith, h))
drop_past (w ∷ ws) (suc i) h = drop_past ws i (omega (arith, h))

pub log-whole : (m : CellNumbers) (ws : List (ℕ × ℤ)) (i : ℕ) (items whole : List (Cell × ℤ)) → length ws ≤ i → items ++ cell_log m (drop i ws) ≡ whole → items ≡ whole
log-whole m ws i items whole h is = sym (append-nil items) ∙ (ap (λ l. items ++ cell_log m l) (sym (drop_past ws i h)) ∙ is)

option_cell : (o : Option Cell) → (o ≡ None) ⊎ ((c : Cell) × (o ≡ Some c))
option_cell None = inl refl
option_cell (Some c) = inr (c, refl)

same_number : (a b : ℕ) → Some a ≡ Some b → a ≡ b
same_number a b e = cc

-- a cell that is logged has a number that is listed
pub logged_number : (m : CellNumbers) (ws : List (ℕ × ℤ)) (n : ℕ) (c : Cell) → cell_at m n ≡ Some c → is_logged (cell_log m ws) c ≡ true → is_listed n (cells_in ws) ≡ true
logged_number m [] n c at h = absurd cc
logged_number m (w ∷ ws) n c at h =
    elim (option_cell (cell_at m w.0)) [
      | inl none ↦ or_right (nat_eq n w.0) _ (logged_number m ws n c at (subst (λ (o : Option Cell). is_logged (with_cell o w.1 (cell_log m ws)) c ≡ true) none h))
      | inr d ↦
          elim (or_cases (same_cell d.0 c) (is_logged (cell_log m ws) c) (subst (λ (o : Option Cell). is_logged (with_cell o w.1 (cell_log m ws)) c ≡ true) d.1 h)) [
            | inl e ↦
                let same : d.0 ≡ c = equal_from_same d.0 c e in
                let one = cell-number m c n at in
                let two : number_at m c ≡ Some w.0 = subst (λ (x : Cell). number_at m x ≡ Some w.0) same (cell-number m d.0 w.0 d.1) in
                or_left _ _ (eq-eqb n w.0 (same_number n w.0 (sym one ∙ two)))
            | inr e ↦ or_right (nat_eq n w.0) _ (logged_number m ws n c at e)
          ]
    ]

pub cells-differ : (m : CellNumbers) (ws : List (ℕ × ℤ)) → are_distinct (cells_in ws) ≡ true → differ (cell_log m ws) ≡ true
cells-differ m [] h = refl
cells-differ m (w ∷ ws) h =
    let p = and_parts (not (is_listed w.0 (cells_in ws))) (are_distinct (cells_in ws)) h in
    let rest = cells-differ m ws p.1 in
    elim (option_cell (cell_at m w.0)) [
      | inl none ↦ subst (λ (o : Option Cell). differ (with_cell o w.1 (cell_log m ws)) ≡ true) (sym none) rest
      | inr d ↦
          let new : is_logged (cell_log m ws) d.0 ≡ false = false_from_ne_true _ (λ e. both_ways (is_listed w.0 (cells_in ws)) (not-true _ p.0) (logged_number m ws w.0 d.0 d.1 e)) in
          subst (λ (o : Option Cell). differ (with_cell o w.1 (cell_log m ws)) ≡ true) (sym d.1) (and_from _ _ (not_from_false _ new) rest)
    ]
