-- The log of a group's writes, at each touch.
use Rattle.std.proofs.Common.{refl, sym, ap, ◌∙◌, subst, inl, inr, arith, ◌⊎◌, ◌<◌, ◌≢◌, append-nil}
use Rattle.std.specs.Prelude.{Bool, List, [], None, Option, Some, false, true, filter, if◌then◌else◌, not, nat_lt, nat_eq, pos, ℕ, ℤ, ◌&&◌, ◌++◌, ◌∷◌, ◌≡◌, ◌≤◌}
use Rattle.std.proofs.lemmas.Bool.{and_from, and_parts, or_parts, or_left, or_right, or_cases, cond-true, cond-false, cases_Bool, cases_eq, both_ways, false_from_ne_true, lt-ltb, le-ltb, ltb-true, eq-eqb, eqb-true, not-true}
use Rattle.sy_access.specs.Logs.{is_logged, same_cell}
use Rattle.sy_access.specs.declared.cells.Cell.{Cell}
use Rattle.sy_access.specs.declared.cells.Cell.TheVariants.{Buffer, Local}
use Rattle.sy_access.proofs.Written.{equal_from_same, same_itself}
use Rattle.sy_meaning.specs.declared.runs.Step.{Step}
use Rattle.sy_meaning.specs.declared.runs.Step.TheVariants as steps
use Rattle.sy_meaning.specs.Kernels.{is_buffer_cell, log_of, noted, noted_all}
use Rattle.sy_foot.specs.GroupLogs.{cell_log, with_cell}
use Rattle.sy_foot.specs.Numbering.{cell_at, number_at}
use Rattle.sy_foot.specs.Writes.{are_distinct, first_written, is_listed, number_of, shared_writes}
use Rattle.sy_foot.specs.declared.entry.Entry.{Entry}
use Rattle.sy_foot.specs.declared.numbering.CellNumbers.{CellNumbers}
use Rattle.sy_foot.proofs.CellLemmas.{cell-number, number-cell}
use Rattle.sy_foot.proofs.WriteLemmas.{logged_number, shared_listed}
use Rattle.sy_footlaws.specs.Courses.{wrote}
use Rattle.sy_footlaws.specs.Groups.{writes_made}

abbrev pub Writes : Type 0
Writes = List (Cell × ℤ)

-- ---- logs side by side

pub noted_beside : (w : Cell × ℤ) (log vs : Writes) → is_logged log w.0 ≡ false → noted w (log ++ vs) ≡ log ++ noted w vs
noted_beside w [] vs h = refl
noted_beside w (v ∷ log) vs h =
    let p = or_parts (same_cell v.0 w.0) (is_logged log w.0) h in
    cond-false (same_cell v.0 w.0) _ _ p.0 ∙ ap (λ l. v ∷ l) (noted_beside w log vs p.1)

noted_all_beside : (ws log vs : Writes) → ((c : Cell) → is_logged ws c ≡ true → is_logged log c ≡ false) → noted_all (log ++ vs) ws ≡ log ++ noted_all vs ws
noted_all_beside [] log vs apart = refl
noted_all_beside (w ∷ ws) log vs apart =
    ap (λ l. noted_all l ws) (noted_beside w log vs (apart w.0 (or_left _ _ (same_itself w.0)))) ∙ noted_all_beside ws log (noted w vs) (λ c h. apart c (or_right (same_cell w.0 c) _ h))

noted_all_append : (xs ys log : Writes) → noted_all log (xs ++ ys) ≡ noted_all (noted_all log xs) ys
noted_all_append [] ys log = refl
noted_all_append (x ∷ xs) ys log = noted_all_append xs ys (noted x log)

abbrev pub buffer_part : Writes → Writes
buffer_part ws = filter (λ w. is_buffer_cell w.0) ws

either_cons : (b : Bool) (w : Cell × ℤ) (xs ys : Writes) → (if b then w ∷ (xs ++ ys) else xs ++ ys) ≡ (if b then w ∷ xs else xs) ++ ys
either_cons true w xs ys = refl
either_cons false w xs ys = refl

buffer_append : (xs ys : Writes) → buffer_part (xs ++ ys) ≡ buffer_part xs ++ buffer_part ys
buffer_append [] ys = refl
buffer_append (x ∷ xs) ys =
    ap (λ l. if is_buffer_cell x.0 then x ∷ l else l) (buffer_append xs ys) ∙ either_cons (is_buffer_cell x.0) x (buffer_part xs) (buffer_part ys)

pub made_append : (ss ts : List Step) → writes_made (ss ++ ts) ≡ writes_made ss ++ writes_made ts
made_append [] ts = refl
made_append (steps.Read c line ∷ ss) ts = made_append ss ts
made_append (steps.Wrote c z line ∷ ss) ts = ap (λ l. (c, z) ∷ l) (made_append ss ts)

-- what is listed in a log was written
logged_noted : (w : Cell × ℤ) (log : Writes) (c : Cell) → is_logged (noted w log) c ≡ true → (same_cell w.0 c ≡ true) ⊎ (is_logged log c ≡ true)
logged_noted w [] c h = or_cases (same_cell w.0 c) false h
logged_noted w (v ∷ log) c h =
    elim (cases_Bool (same_cell v.0 w.0)) [
      | inl q ↦
          elim (or_cases (same_cell w.0 c) (is_logged log c) (subst (λ (l : Writes). is_logged l c ≡ true) (cond-true (same_cell v.0 w.0) _ _ q) h)) [
            | inl e ↦ inl e
            | inr e ↦ inr (or_right (same_cell v.0 c) _ e)
          ]
      | inr q ↦
          elim (or_cases (same_cell v.0 c) (is_logged (noted w log) c) (subst (λ (l : Writes). is_logged l c ≡ true) (cond-false (same_cell v.0 w.0) _ _ q) h)) [
            | inl e ↦ inr (or_left _ _ e)
            | inr e ↦ elim (logged_noted w log c e) [ inl k ↦ inl k | inr k ↦ inr (or_right (same_cell v.0 c) _ k) ]
          ]
    ]

logged_all : (ws log : Writes) (c : Cell) → is_logged (noted_all log ws) c ≡ true → (is_logged ws c ≡ true) ⊎ (is_logged log c ≡ true)
logged_all [] log c h = inr h
logged_all (w ∷ ws) log c h =
    elim (logged_all ws (noted w log) c h) [
      | inl e ↦ inl (or_right (same_cell w.0 c) _ e)
      | inr e ↦ elim (logged_noted w log c e) [ inl k ↦ inl (or_left _ _ k) | inr k ↦ inr k ]
    ]

logged_part : (ws : Writes) (c : Cell) → is_logged (buffer_part ws) c ≡ true → (is_logged ws c ≡ true) × (is_buffer_cell c ≡ true)
logged_part [] c h = absurd cc
logged_part (w ∷ ws) c h =
    elim (cases_Bool (is_buffer_cell w.0)) [
      | inl q ↦
          elim (or_cases (same_cell w.0 c) (is_logged (buffer_part ws) c) (subst (λ (l : Writes). is_logged l c ≡ true) (cond-true (is_buffer_cell w.0) _ _ q) h)) [
            | inl e ↦ (or_left _ _ e, subst (λ (d : Cell). is_buffer_cell d ≡ true) (equal_from_same w.0 c e) q)
            | inr e ↦ let r = logged_part ws c e in (or_right (same_cell w.0 c) _ r.0, r.1)
          ]
      | inr q ↦
          let r = logged_part ws c (subst (λ (l : Writes). is_logged l c ≡ true) (cond-false (is_buffer_cell w.0) _ _ q) h) in
          (or_right (same_cell w.0 c) _ r.0, r.1)
    ]

logged_made : (ss : List Step) (c : Cell) → is_logged (writes_made ss) c ≡ true → wrote c ss ≡ true
logged_made [] c h = absurd cc
logged_made (steps.Read d line ∷ ss) c h = or_right (same_cell c d && false) _ (logged_made ss c h)
logged_made (steps.Wrote d z line ∷ ss) c h =
    elim (or_cases (same_cell d c) (is_logged (writes_made ss) c) h) [
      | inl e ↦
          let same : d ≡ c = equal_from_same d c e in
          or_left _ _ (and_from _ _ (subst (λ (x : Cell). same_cell c x ≡ true) (sym same) (same_itself c)) refl)
      | inr e ↦ or_right (same_cell c d && true) _ (logged_made ss c e)
    ]

pub logged-wrote : (ss : List Step) (c : Cell) → is_logged (log_of (writes_made ss)) c ≡ true → (wrote c ss ≡ true) × (is_buffer_cell c ≡ true)
logged-wrote ss c h =
    elim (logged_all (buffer_part (writes_made ss)) [] c h) [
      | inl e ↦ let r = logged_part (writes_made ss) c e in (logged_made ss c r.0, r.1)
      | inr e ↦ absurd (let z : false ≡ true = e in cc)
    ]

-- the logs of steps that write no cell of a buffer together
pub logs-joined : (ss ts : List Step) → ((c : Cell) → is_buffer_cell c ≡ true → wrote c ts ≡ true → wrote c ss ≡ false) → log_of (writes_made (ss ++ ts)) ≡ log_of (writes_made ss) ++ log_of (writes_made ts)
logs-joined ss ts apart =
    let first = log_of (writes_made ss) in
    let more = buffer_part (writes_made ts) in
    let others : (c : Cell) → is_logged more c ≡ true → is_logged first c ≡ false = λ c h.
    let r = logged_part (writes_made ts) c h in
    false_from_ne_true (is_logged first c) (λ e. both_ways (wrote c ss) (apart c r.1 (logged_made ts c r.0)) (logged-wrote ss c e).0) in
    ap log_of (made_append ss ts) ∙ (ap (noted_all []) (buffer_append (writes_made ss) (writes_made ts)) ∙ (noted_all_append (buffer_part (writes_made ss)) more [] ∙ (ap (λ l. noted_all l more) (sym (append-nil first)) ∙ noted_all_beside more first [] others)))

-- ---- one write more

pub log-read : (ss : List Step) (c : Cell) (line : ℕ) → log_of (writes_made (ss ++ steps.Read c line ∷ [])) ≡ log_of (writes_made ss)
log-read ss c line = ap log_of (made_append ss (steps.Read c line ∷ []) ∙ append-nil (writes_made ss))

log_more : (ss : List Step) (c : Cell) (z : ℤ) (line : ℕ) → log_of (writes_made (ss ++ steps.Wrote c z line ∷ [])) ≡ noted_all (log_of (writes_made ss)) (buffer_part ((c, z) ∷ []))
log_more ss c z line =
    ap log_of (made_append ss (steps.Wrote c z line ∷ [])) ∙ (ap (noted_all []) (buffer_append (writes_made ss) ((c, z) ∷ [])) ∙ noted_all_append (buffer_part (writes_made ss)) (buffer_part ((c, z) ∷ [])) [])

pub log-buffer : (ss : List Step) (root i : ℕ) (z : ℤ) (line : ℕ) → log_of (writes_made (ss ++ steps.Wrote (Buffer root i) z line ∷ [])) ≡ noted (Buffer root i, z) (log_of (writes_made ss))
log-buffer ss root i z line = log_more ss (Buffer root i) z line

pub log-local : (ss : List Step) (slot i : ℕ) (z : ℤ) (line : ℕ) → log_of (writes_made (ss ++ steps.Wrote (Local slot i) z line ∷ [])) ≡ log_of (writes_made ss)
log-local ss slot i z line = log_more ss (Local slot i) z line

-- ---- the same by numbers

abbrev pub Kept : Type 0
Kept = ℕ → Option Entry

pub shared-same : (shared : ℕ) (k l : Kept) (cs : List ℕ) → ((d : ℕ) → is_listed d cs ≡ true → d < shared → number_of (pos 0) (l d) ≡ number_of (pos 0) (k d)) → shared_writes shared l cs ≡ shared_writes shared k cs
shared-same shared k l [] same = refl
shared-same shared k l (d ∷ cs) same =
    let rest = shared-same shared k l cs (λ e h. same e (or_right (nat_eq e d) _ h)) in
    elim (cases_Bool (nat_lt d shared)) [
      | inl q ↦
          let here : number_of (pos 0) (l d) ≡ number_of (pos 0) (k d) = same d (or_left _ _ (eq-eqb d d refl)) (ltb-true d shared q) in
          cond-true (nat_lt d shared) _ _ q ∙ (ap (λ (z : ℤ). let w : ℕ × ℤ = (d, z) in w ∷ shared_writes shared l cs) here ∙ (ap (λ r. let w : ℕ × ℤ = (d, number_of (pos 0) (k d)) in w ∷ r) rest ∙ sym (cond-true (nat_lt d shared) _ _ q)))
      | inr q ↦ cond-false (nat_lt d shared) _ _ q ∙ (rest ∙ sym (cond-false (nat_lt d shared) _ _ q))
    ]

shared_append : (shared : ℕ) (k : Kept) (cs : List ℕ) (n : ℕ) → shared_writes shared k (cs ++ n ∷ []) ≡ shared_writes shared k cs ++ shared_writes shared k (n ∷ [])
shared_append shared k [] n = refl
shared_append shared k (d ∷ cs) n =
    elim (cases_Bool (nat_lt d shared)) [
      | inl q ↦
          cond-true (nat_lt d shared) _ _ q ∙ (ap (λ r. let w : ℕ × ℤ = (d, number_of (pos 0) (k d)) in w ∷ r) (shared_append shared k cs n) ∙ ap (λ (r : List (ℕ × ℤ)). r ++ shared_writes shared k (n ∷ [])) (sym (cond-true (nat_lt d shared) _ _ q)))
      | inr q ↦
          cond-false (nat_lt d shared) _ _ q ∙ (shared_append shared k cs n ∙ ap (λ (r : List (ℕ × ℤ)). r ++ shared_writes shared k (n ∷ [])) (sym (cond-false (nat_lt d shared) _ _ q)))
    ]

with_before : (o : Option Cell) (z : ℤ) (xs ys : Writes) → with_cell o z (xs ++ ys) ≡ with_cell o z xs ++ ys
with_before None z xs ys = refl
with_before (Some c) z xs ys = refl

pub cells-append : (m : CellNumbers) (xs ys : List (ℕ × ℤ)) → cell_log m (xs ++ ys) ≡ cell_log m xs ++ cell_log m ys
cells-append m [] ys = refl
cells-append m (w ∷ xs) ys = ap (with_cell (cell_at m w.0) w.1) (cells-append m xs ys) ∙ with_before (cell_at m w.0) w.1 (cell_log m xs) (cell_log m ys)

one_cell : (m : CellNumbers) (c : Cell) (n : ℕ) (z : ℤ) (rest : Writes) → number_at m c ≡ Some n → with_cell (cell_at m n) z rest ≡ (c, z) ∷ rest
one_cell m c n z rest at = ap (λ (o : Option Cell). with_cell o z rest) (number-cell m c n at)

-- a cell with another number is another cell
noted_past : (m : CellNumbers) (c : Cell) (n d : ℕ) (z y : ℤ) (o : Option Cell) (rest : Writes) → o ≡ cell_at m d → number_at m c ≡ Some n → d ≢ n → noted (c, z) (with_cell o y rest) ≡ with_cell o y (noted (c, z) rest)
noted_past m c n d z y None rest is at ne = refl
noted_past m c n d z y (Some b) rest is at ne =
    let other : same_cell b c ≡ false = false_from_ne_true (same_cell b c) (λ h.
    let same : b ≡ c = equal_from_same b c h in
    let two : number_at m c ≡ Some d = subst (λ (x : Cell). number_at m x ≡ Some d) same (cell-number m b d (sym is)) in
    ne (let e : Some d ≡ Some n = sym two ∙ at in cc)) in
    cond-false (same_cell b c) _ _ other

-- a write again
pub noted-again : (m : CellNumbers) (shared : ℕ) (k l : Kept) (c : Cell) (n : ℕ) (z : ℤ) (cs : List ℕ) → number_at m c ≡ Some n → n < shared → number_of (pos 0) (l n) ≡ z → ((d : ℕ) → d ≢ n → l d ≡ k d) → are_distinct cs ≡ true → is_listed n cs ≡ true → cell_log m (shared_writes shared l cs) ≡ noted (c, z) (cell_log m (shared_writes shared k cs))
noted-again m shared k l c n z [] at low now others once listed = absurd cc
noted-again m shared k l c n z (d ∷ cs) at low now others once listed =
    let p = and_parts (not (is_listed d cs)) (are_distinct cs) once in
    elim (cases_eq d n) [
      | inl here ↦
          let low_d : nat_lt d shared ≡ true = lt-ltb d shared (omega (arith, here, low)) in
          let at_d : number_at m c ≡ Some d = at ∙ ap (λ j. Some j) (sym here) in
          let fresh = shared-same shared k l cs (λ e h below. ap (number_of (pos 0)) (others e (λ same. both_ways (is_listed d cs) (not-true _ p.0) (subst (λ j. is_listed j cs ≡ true) (same ∙ sym here) h)))) in
          let now_d : number_of (pos 0) (l d) ≡ z = ap (λ j. number_of (pos 0) (l j)) here ∙ now in
          let left : cell_log m (shared_writes shared l (d ∷ cs)) ≡ (c, z) ∷ cell_log m (shared_writes shared k cs) =
          ap (cell_log m) (cond-true (nat_lt d shared) _ _ low_d) ∙ (one_cell m c d (number_of (pos 0) (l d)) (cell_log m (shared_writes shared l cs)) at_d ∙ (ap (λ (y : ℤ). let w : Cell × ℤ = (c, y) in w ∷ cell_log m (shared_writes shared l cs)) now_d ∙ ap (λ r. let w : Cell × ℤ = (c, z) in w ∷ cell_log m r) fresh)) in
          let right : cell_log m (shared_writes shared k (d ∷ cs)) ≡ (c, number_of (pos 0) (k d)) ∷ cell_log m (shared_writes shared k cs) =
          ap (cell_log m) (cond-true (nat_lt d shared) _ _ low_d) ∙ one_cell m c d (number_of (pos 0) (k d)) (cell_log m (shared_writes shared k cs)) at_d in
          left ∙ sym (ap (noted (c, z)) right ∙ cond-true (same_cell c c) _ _ (same_itself c))
      | inr other ↦
          let there : is_listed n cs ≡ true = elim (or_cases (nat_eq n d) (is_listed n cs) listed) [ inl e ↦ absurd (other (sym (eqb-true n d e))) | inr e ↦ e ] in
          let rest = noted-again m shared k l c n z cs at low now others p.1 there in
          elim (cases_Bool (nat_lt d shared)) [
            | inl q ↦
                let same : number_of (pos 0) (l d) ≡ number_of (pos 0) (k d) = ap (number_of (pos 0)) (others d other) in
                ap (cell_log m) (cond-true (nat_lt d shared) _ _ q) ∙ (ap (λ (y : ℤ). with_cell (cell_at m d) y (cell_log m (shared_writes shared l cs))) same ∙ (ap (with_cell (cell_at m d) (number_of (pos 0) (k d))) rest ∙ sym (ap (λ (r : List (ℕ × ℤ)). noted (c, z) (cell_log m r)) (cond-true (nat_lt d shared) _ _ q) ∙ noted_past m c n d z (number_of (pos 0) (k d)) (cell_at m d) (cell_log m (shared_writes shared k cs)) refl at other)))
            | inr q ↦
                ap (cell_log m) (cond-false (nat_lt d shared) _ _ q) ∙ (rest ∙ sym (ap (λ (r : List (ℕ × ℤ)). noted (c, z) (cell_log m r)) (cond-false (nat_lt d shared) _ _ q)))
          ]
    ]

-- a first write
pub noted-first : (m : CellNumbers) (shared : ℕ) (k l : Kept) (c : Cell) (n : ℕ) (z : ℤ) (cs : List ℕ) → number_at m c ≡ Some n → n < shared → number_of (pos 0) (l n) ≡ z → ((d : ℕ) → d ≢ n → l d ≡ k d) → is_listed n cs ≡ false → cell_log m (shared_writes shared l (cs ++ n ∷ [])) ≡ noted (c, z) (cell_log m (shared_writes shared k cs))
noted-first m shared k l c n z cs at low now others listed =
    let same = shared-same shared k l cs (λ e h below. ap (number_of (pos 0)) (others e (λ is. both_ways (is_listed n cs) listed (subst (λ j. is_listed j cs ≡ true) is h)))) in
    let last : cell_log m (shared_writes shared l (n ∷ [])) ≡ (c, z) ∷ [] =
    ap (cell_log m) (cond-true (nat_lt n shared) _ _ (lt-ltb n shared low)) ∙ (one_cell m c n (number_of (pos 0) (l n)) [] at ∙ ap (λ (y : ℤ). let w : Cell × ℤ = (c, y) in w ∷ []) now) in
    let old = cell_log m (shared_writes shared k cs) in
    let new : is_logged old c ≡ false = false_from_ne_true (is_logged old c) (λ h. both_ways (is_listed n cs) listed (shared_listed shared k cs n (logged_number m (shared_writes shared k cs) n c (number-cell m c n at) h)).0) in
    ap (cell_log m) (shared_append shared l cs n) ∙ (cells-append m (shared_writes shared l cs) (shared_writes shared l (n ∷ [])) ∙ (ap (λ (r : List (ℕ × ℤ)). cell_log m r ++ cell_log m (shared_writes shared l (n ∷ []))) same ∙ (ap (λ r. old ++ r) last ∙ sym (ap (noted (c, z)) (sym (append-nil old)) ∙ noted_beside (c, z) old [] new))))

-- a write of a cell that groups don't share
pub local-again : (shared : ℕ) (k l : Kept) (n : ℕ) (wrote_it : Bool) (cs : List ℕ) → shared ≤ n → ((d : ℕ) → d ≢ n → l d ≡ k d) → shared_writes shared l (first_written wrote_it cs n) ≡ shared_writes shared k cs
local-again shared k l n true cs high others =
    shared-same shared k l cs (λ e h below. ap (number_of (pos 0)) (others e (λ is. absurd (omega (arith, is, below, high)))))
local-again shared k l n false cs high others =
    shared_append shared l cs n ∙ (ap (λ r. shared_writes shared l cs ++ r) (cond-false (nat_lt n shared) _ _ (le-ltb n shared high)) ∙ (append-nil (shared_writes shared l cs) ∙ shared-same shared k l cs (λ e h below. ap (number_of (pos 0)) (others e (λ is. absurd (omega (arith, is, below, high)))))))
