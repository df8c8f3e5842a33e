-- The longest stretches of an order.
use Rattle.std.proofs.Common.{◌≡◌, ℕ, suc, ◌+◌, ◌<◌, ◌≤◌, get_or, Bool, true, false, eqb, cond, List, [], ◌∷◌, ◌++◌, drop, replicate, length, refl, sym, ap, ◌∙◌, add-one, arith}
use Rattle.std.specs.List.{prefix_len}
use Rattle.std.proofs.lemmas.Bool.{eqb-true, eqb-false, eq-eqb, cond-true, cond-false}
use Rattle.sy_top.specs.Trace.{Stretch, before_stretches, stretches_of, stretch_line, stretch_lines, spelled, HaveSteps, AreLongest}

abbrev pub stretch : ℕ → ℕ → Stretch
stretch t n = record { thread = t; steps = n }

-- how many steps of the thread follow its first
abbrev follow : ℕ → List ℕ → ℕ
follow t ts = prefix_len (eqb t) ts

-- the first stretch, and those of what is left after it
abbrev split_at_first : ℕ → List ℕ → List Stretch
split_at_first t ts = stretch t (suc (follow t ts)) ∷ stretches_of (drop (follow t ts) ts)

one_more : (n : ℕ) → suc n ≡ 1 + n
one_more n = omega arith

-- the next step is of this thread, or of another
front_more : (t u : ℕ) (us : List ℕ) (v : Bool) → eqb t u ≡ v → stretches_of (u ∷ us) ≡ split_at_first u us → before_stretches t (split_at_first u us) ≡ split_at_first t (u ∷ us)
front_more t u us true e h =
    let same : t ≡ u = eqb-true t u e in
    cond-true (eqb t u) _ _ e
    ∙ ap (λ n. stretch t n ∷ stretches_of (drop (follow u us) us)) (add-one (suc (follow u us)))
    ∙ ap (λ w. stretch t (suc (suc (follow w us))) ∷ stretches_of (drop (follow w us) us)) (sym same)
    ∙ ap (λ n. stretch t (suc n) ∷ stretches_of (drop n (u ∷ us))) (one_more (follow t us) ∙ sym (cond-true (eqb t u) (1 + follow t us) 0 e))
front_more t u us false e h =
    cond-false (eqb t u) _ _ e
    ∙ ap (λ ss. stretch t 1 ∷ ss) (sym h)
    ∙ ap (λ n. stretch t (suc n) ∷ stretches_of (drop n (u ∷ us))) (sym (cond-false (eqb t u) (1 + follow t us) 0 e))

pub front : (t : ℕ) (ts : List ℕ) → stretches_of (t ∷ ts) ≡ split_at_first t ts
unfolding stretches_of
front t [] = refl
front t (u ∷ us) = ap (before_stretches t) (front u us) ∙ front_more t u us (eqb t u) refl (front u us)

-- the line of the first stretch, and the lines of what is left
pub front_line : (t : ℕ) (ts : List ℕ) (n : ℕ) → n ≡ prefix_len (eqb t) (t ∷ ts) → stretch_lines (stretches_of (t ∷ ts)) ≡ stretch_line (stretch t n) ++ stretch_lines (stretches_of (drop n (t ∷ ts)))
front_line t ts n e =
    let whole : n ≡ suc (follow t ts) = e ∙ cond-true (eqb t t) (1 + follow t ts) 0 (eq-eqb t t refl) ∙ sym (one_more (follow t ts)) in
    ap stretch_lines (front t ts) ∙ ap (λ k. stretch_line (stretch t k) ++ stretch_lines (stretches_of (drop k (t ∷ ts)))) (sym whole)

-- ---- what the stretches are

spelled_more : (t : ℕ) (s : Stretch) (ss : List Stretch) (v : Bool) → eqb t s.thread ≡ v → spelled (cond v (stretch t (s.steps + 1) ∷ ss) (stretch t 1 ∷ s ∷ ss)) ≡ t ∷ spelled (s ∷ ss)
spelled_more t s ss true e =
    ap (λ n. replicate n t ++ spelled ss) (add-one s.steps) ∙ ap (λ u. t ∷ replicate s.steps u ++ spelled ss) (eqb-true t s.thread e)
spelled_more t s ss false e = refl

spelled_before : (t : ℕ) (ss : List Stretch) → spelled (before_stretches t ss) ≡ t ∷ spelled ss
spelled_before t [] = refl
spelled_before t (s ∷ ss) = spelled_more t s ss (eqb t s.thread) refl

pub spells : (order : List ℕ) → spelled (stretches_of order) ≡ order
unfolding stretches_of
spells [] = refl
spells (t ∷ ts) = spelled_before t (stretches_of ts) ∙ ap (λ l. t ∷ l) (spells ts)

positive : (n : ℕ) → 0 < n + 1
positive n = omega arith

steps_more : (t : ℕ) (s : Stretch) (ss : List Stretch) (v : Bool) → HaveSteps (s ∷ ss) → HaveSteps (cond v (stretch t (s.steps + 1) ∷ ss) (stretch t 1 ∷ s ∷ ss))
steps_more t s ss true h = (positive s.steps, h.1)
steps_more t s ss false h = (positive 0, h)

steps_before : (t : ℕ) (ss : List Stretch) → HaveSteps ss → HaveSteps (before_stretches t ss)
steps_before t [] h = (positive 0, tt)
steps_before t (s ∷ ss) h = steps_more t s ss (eqb t s.thread) h

pub have_steps : (order : List ℕ) → HaveSteps (stretches_of order)
unfolding stretches_of
have_steps [] = tt
have_steps (t ∷ ts) = steps_before t (stretches_of ts) (have_steps ts)

longest_same : (t : ℕ) (s : Stretch) (ss : List Stretch) → t ≡ s.thread → AreLongest (s ∷ ss) → AreLongest (stretch t (s.steps + 1) ∷ ss)
longest_same t s [] e h = tt
longest_same t s (b ∷ ss) e h = (λ same. h.0 (sym e ∙ same), h.1)

longest_more : (t : ℕ) (s : Stretch) (ss : List Stretch) (v : Bool) → eqb t s.thread ≡ v → AreLongest (s ∷ ss) → AreLongest (cond v (stretch t (s.steps + 1) ∷ ss) (stretch t 1 ∷ s ∷ ss))
longest_more t s ss true e h = longest_same t s ss (eqb-true t s.thread e) h
longest_more t s ss false e h = (eqb-false t s.thread e, h)

longest_before : (t : ℕ) (ss : List Stretch) → AreLongest ss → AreLongest (before_stretches t ss)
longest_before t [] h = tt
longest_before t (s ∷ ss) h = longest_more t s ss (eqb t s.thread) refl h

pub are_longest : (order : List ℕ) → AreLongest (stretches_of order)
unfolding stretches_of
are_longest [] = tt
are_longest (t ∷ ts) = longest_before t (stretches_of ts) (are_longest ts)

pub no_line : (rest : List ℕ) → length rest < 1 → [] ≡ stretch_lines (stretches_of rest)
unfolding stretches_of
no_line [] h = refl
no_line (t ∷ ts) h = absurd (omega (arith, h))

pub next_line : (rest : List ℕ) (n : ℕ) → 1 ≤ length rest → n ≡ prefix_len (eqb (get_or rest 0 0)) rest → stretch_lines (stretches_of rest) ≡ stretch_line (stretch (get_or rest 0 0) n) ++ stretch_lines (stretches_of (drop n rest))
next_line [] n h e = absurd (omega (arith, h))
next_line (t ∷ ts) n h e = front_line t ts n e
