-- Where nothing clashes, what a kernel's groups leave is the same in whatever order they are taken.
use Rattle.std.proofs.Common.{refl}
use Rattle.std.specs.Prelude.{Bool, List, None, Option, Some, [], false, filter, if◌then◌else◌, not, reverse, true, ℤ, ◌++◌, ◌∷◌, ◌≡◌}
use Rattle.sy_access.specs.Logs.{logged, same_cell}
use Rattle.sy_access.specs.declared.cells.Cell.{Cell}
use Rattle.sy_meaning.specs.Kernels.{is_buffer_cell, log_of, noted, noted_all}
use Rattle.sy_meaning.proofs.ItemOrderLemmas.{logged_behind}
use mathlib.Core.List.{append-nil, reverse-cons}
use Rattle.std.proofs.Common.{sym, ap, ◌∙◌, subst, inl, inr, append_assoc}
use Rattle.std.proofs.lemmas.Bool.{cases_Bool, cond-true, cond-false, both_ways}
use Rattle.sy_access.proofs.Written.{equal_from_same}

-- ---- logs

abbrev pub first_some : Option ℤ → Option ℤ → Option ℤ
first_some (Some z) other = Some z
first_some None other = other

either_first : (b : Bool) (z : ℤ) (x y : Option ℤ) → first_some (if b then Some z else x) y ≡ (if b then Some z else first_some x y)
either_first true z x y = refl
either_first false z x y = refl

pub logged_split : (a x : List (Cell × ℤ)) (c : Cell) → logged (a ++ x) c ≡ first_some (logged a c) (logged x c)
logged_split [] x c = refl
logged_split (w ∷ a) x c =
    ap (λ r. if same_cell w.0 c then Some w.1 else r) (logged_split a x c) ∙ sym (either_first (same_cell w.0 c) w.1 (logged a c) (logged x c))

same_true : (a b c : Cell) → same_cell a b ≡ true → same_cell a c ≡ true → same_cell b c ≡ true
same_true a b c p q =
    let e : a ≡ b = equal_from_same a b p in let P = λ (x : Cell). same_cell x c ≡ true in subst P e q

same_back : (a b c : Cell) → same_cell a b ≡ true → same_cell b c ≡ false → same_cell a c ≡ false
same_back a b c p q =
    elim (cases_Bool (same_cell a c)) [
      | inl e ↦ absurd (both_ways (same_cell b c) q (same_true a b c p e))
      | inr e ↦ e
    ]

other_cell : (v w c : Cell) → same_cell v w ≡ false → same_cell w c ≡ true → same_cell v c ≡ false
other_cell v w c p q =
    elim (cases_Bool (same_cell v c)) [
      | inl e ↦ absurd (both_ways (same_cell v w) p (let d : w ≡ c = equal_from_same w c q in let P = λ (x : Cell). same_cell v x ≡ true in subst P (sym d) e))
      | inr e ↦ e
    ]

noted_here : (w v : Cell × ℤ) (vs : List (Cell × ℤ)) (c : Cell) → same_cell v.0 w.0 ≡ true → logged (w ∷ vs) c ≡ logged (w ∷ v ∷ vs) c
noted_here w v vs c e =
    elim (cases_Bool (same_cell w.0 c)) [
      | inl d ↦ cond-true (same_cell w.0 c) (Some w.1) (logged vs c) d ∙ sym (cond-true (same_cell w.0 c) (Some w.1) (logged (v ∷ vs) c) d)
      | inr d ↦ ap (λ r. if same_cell w.0 c then Some w.1 else r) (sym (cond-false (same_cell v.0 c) (Some v.1) (logged vs c) (same_back v.0 w.0 c e d)))
    ]

either_swap : (b d : Bool) (x y z : Option ℤ) → (d ≡ true → b ≡ false) → (if b then x else (if d then y else z)) ≡ (if d then y else (if b then x else z))
either_swap true true x y z h = absurd (both_ways true (h refl) refl)
either_swap true false x y z h = refl
either_swap false true x y z h = refl
either_swap false false x y z h = refl

pub noted_is : (w : Cell × ℤ) (log : List (Cell × ℤ)) (c : Cell) → logged (noted w log) c ≡ logged (w ∷ log) c
noted_is w [] c = refl
noted_is w (v ∷ vs) c =
    elim (cases_Bool (same_cell v.0 w.0)) [
      | inl e ↦ ap (λ l. logged l c) (cond-true (same_cell v.0 w.0) (w ∷ vs) (v ∷ noted w vs) e) ∙ noted_here w v vs c e
      | inr e ↦ ap (λ l. logged l c) (cond-false (same_cell v.0 w.0) (w ∷ vs) (v ∷ noted w vs) e) ∙ (ap (λ r. if same_cell v.0 c then Some v.1 else r) (noted_is w vs c) ∙ either_swap (same_cell v.0 c) (same_cell w.0 c) (Some v.1) (Some w.1) (logged vs c) (λ q. other_cell v.0 w.0 c e q))
    ]

pub noted_all_is : (log ws : List (Cell × ℤ)) (c : Cell) → logged (noted_all log ws) c ≡ logged (reverse ws ++ log) c
noted_all_is log [] c = refl
noted_all_is log (w ∷ ws) c =
    noted_all_is (noted w log) ws c ∙ (logged_behind (reverse ws) (noted w log) (w ∷ log) c (noted_is w log c) ∙ ap (λ l. logged l c) (sym (append_assoc (reverse ws) (w ∷ []) log) ∙ ap (λ l. l ++ log) (sym (reverse-cons w ws))))

abbrev pub buffer_writes : List (Cell × ℤ) → List (Cell × ℤ)
buffer_writes ws = filter (λ w. is_buffer_cell w.0) ws

pub last_logged : (w : Cell × ℤ) (ws : List (Cell × ℤ)) (c : Cell) → logged (reverse (w ∷ ws)) c ≡ first_some (logged (reverse ws) c) (logged (w ∷ []) c)
last_logged w ws c = ap (λ l. logged l c) (reverse-cons w ws) ∙ logged_split (reverse ws) (w ∷ []) c

none_after : (x : Option ℤ) → first_some x None ≡ x
none_after None = refl
none_after (Some z) = refl

two_ways : (b : Bool) → b ≡ not b → ⊥
two_ways true h = cc
two_ways false h = cc

pub not_same : (a c : Cell) (b : Bool) → is_buffer_cell a ≡ not b → is_buffer_cell c ≡ b → same_cell a c ≡ false
not_same a c b p q =
    elim (cases_Bool (same_cell a c)) [
      | inr e ↦ e
      | inl e ↦ absurd (two_ways b (sym q ∙ (sym (ap is_buffer_cell (equal_from_same a c e)) ∙ p)))
    ]

drop_or_keep : (b : Bool) (w : Cell × ℤ) (ws : List (Cell × ℤ)) (c : Cell) (x : Option ℤ) → (b ≡ true → logged (reverse (w ∷ ws)) c ≡ x) → (b ≡ false → logged (reverse ws) c ≡ x) → logged (reverse (if b then w ∷ ws else ws)) c ≡ x
drop_or_keep true w ws c x p q = p refl
drop_or_keep false w ws c x p q = q refl

-- a buffer's cell has the number of its last write
pub buffer_logged : (ws : List (Cell × ℤ)) (c : Cell) → is_buffer_cell c ≡ true → logged (reverse (buffer_writes ws)) c ≡ logged (reverse ws) c
buffer_logged [] c h = refl
buffer_logged (w ∷ ws) c h =
    drop_or_keep (is_buffer_cell w.0) w (buffer_writes ws) c (logged (reverse (w ∷ ws)) c) (λ e. last_logged w (buffer_writes ws) c ∙ (ap (λ x. first_some x (logged (w ∷ []) c)) (buffer_logged ws c h) ∙ sym (last_logged w ws c))) (λ e. buffer_logged ws c h ∙ (sym (none_after (logged (reverse ws) c)) ∙ (ap (λ x. first_some (logged (reverse ws) c) x) (sym (cond-false (same_cell w.0 c) (Some w.1) None (not_same w.0 c true e h))) ∙ sym (last_logged w ws c))))

-- any other cell has none
pub other_logged : (ws : List (Cell × ℤ)) (c : Cell) → is_buffer_cell c ≡ false → logged (reverse (buffer_writes ws)) c ≡ None
other_logged [] c h = refl
other_logged (w ∷ ws) c h =
    drop_or_keep (is_buffer_cell w.0) w (buffer_writes ws) c None (λ e. last_logged w (buffer_writes ws) c ∙ (ap (λ x. first_some x (logged (w ∷ []) c)) (other_logged ws c h) ∙ cond-false (same_cell w.0 c) (Some w.1) None (not_same w.0 c false e h))) (λ e. other_logged ws c h)

pub log_is : (ws : List (Cell × ℤ)) (c : Cell) → logged (log_of ws) c ≡ logged (reverse (buffer_writes ws)) c
log_is ws c = noted_all_is [] (buffer_writes ws) c ∙ ap (λ l. logged l c) (append-nil (reverse (buffer_writes ws)))
