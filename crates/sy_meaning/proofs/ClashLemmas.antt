-- When steps clash, and what a phase without a clash knows of its items.
use Rattle.std.proofs.Common.{refl}
use Rattle.std.specs.List.{list_any}
use Rattle.std.specs.Prelude.{Bool, List, None, Option, Some, [], false, if◌then◌else◌, suc, true, zero, ℕ, ⊤, ◌&&◌, ◌++◌, ◌||◌, ◌∷◌, ◌≡◌}
use Rattle.sy_access.specs.Logs.{same_cell}
use Rattle.sy_access.specs.declared.cells.Cell.{Cell}
use Rattle.sy_range.specs.declared.nd_ranges.Position.{Position}
use Rattle.sy_work.specs.declared.asks.Ask.{Ask}
use Rattle.sy_work.specs.declared.endings.Cause.TheVariants as cause
use Rattle.sy_work.specs.declared.endings.Fault.{Fault}
use Rattle.sy_meaning.specs.declared.runs.Step.{Step}
use Rattle.sy_meaning.specs.Items.{Failure, Footprint, cell_of, clashes, fault_or, first_clash, first_fault, is_write, line_of, or_trap, trap_of}
use Rattle.sy_meaning.specs.Orders.{exchanged, meets}
use Rattle.std.proofs.Common.{sym, ap, ◌∙◌, subst, inl, inr}
use Rattle.std.proofs.lemmas.Bool.{cases_Bool, or_parts, or_from, and_left, and_right, cond-false, both_ways}
use Rattle.std.proofs.lemmas.List.Folds.{list_any-append}
use Rattle.sy_access.proofs.Written.{equal_from_same, same_itself}

pub same_cell_sym_false : (a b : Cell) → same_cell a b ≡ false → same_cell b a ≡ false
same_cell_sym_false a b h =
    elim (cases_Bool (same_cell b a)) [
      | inl e ↦ absurd (both_ways (same_cell a b) h (let P : Cell → Type 0 = λ x. same_cell a x ≡ true in subst P (sym (equal_from_same b a e)) (same_itself a)))
      | inr e ↦ e
    ]

-- of two booleans, in either order
or_swap : (x y : Bool) → (x || y) ≡ false → (y || x) ≡ false
or_swap x y h = let p = or_parts x y h in or_from y x p.1 p.0

and_false : (x y z : Bool) → (x ≡ false → z ≡ false) → (x && y) ≡ false → (y ≡ false → (z && y) ≡ false) → (z && y) ≡ false
and_false false y z go h k = and_left z y (go refl)
and_false true y z go h k = k h

pub clashes_sym_false : (s t : Step) → clashes s t ≡ false → clashes t s ≡ false
clashes_sym_false s t h =
    elim (cases_Bool (same_cell (cell_of s) (cell_of t))) [
      | inr e ↦ and_left _ _ (same_cell_sym_false (cell_of s) (cell_of t) e)
      | inl e ↦ and_right _ _ (or_swap (is_write s) (is_write t) (sym (ap (λ b. b && (is_write s || is_write t)) e) ∙ h))
    ]

-- ---- lists of steps

or_four : (a b c d : Bool) → ((a || b) || (c || d)) ≡ ((a || c) || (b || d))
or_four true b c d = refl
or_four false true true d = refl
or_four false true false d = refl
or_four false false c d = refl

pub meets_append : (ss a b : List Step) → meets ss (a ++ b) ≡ (meets ss a || meets ss b)
meets_append [] a b = refl
meets_append (s ∷ ss) a b =
    ap (λ x. x || meets ss (a ++ b)) (list_any-append (clashes s) a b) ∙ (ap (λ x. (list_any (clashes s) a || list_any (clashes s) b) || x) (meets_append ss a b) ∙ or_four (list_any (clashes s) a) (list_any (clashes s) b) (meets ss a) (meets ss b))

pub meets_parts : (ss a b : List Step) → meets ss (a ++ b) ≡ false → (meets ss a ≡ false) × (meets ss b ≡ false)
meets_parts ss a b h = or_parts (meets ss a) (meets ss b) (sym (meets_append ss a b) ∙ h)

pub meets_from : (ss a b : List Step) → meets ss a ≡ false → meets ss b ≡ false → meets ss (a ++ b) ≡ false
meets_from ss a b h k = meets_append ss a b ∙ or_from (meets ss a) (meets ss b) h k

-- one step against a list
one_against : (ss : List Step) (t : Step) → meets ss (t ∷ []) ≡ false → list_any (clashes t) ss ≡ false
one_against [] t h = refl
one_against (s ∷ ss) t h =
    let p = or_parts (list_any (clashes s) (t ∷ [])) (meets ss (t ∷ [])) h in
    let q = or_parts (clashes s t) false p.0 in
    or_from (clashes t s) (list_any (clashes t) ss) (clashes_sym_false s t q.0) (one_against ss t p.1)

pub meets_sym : (ss ts : List Step) → meets ss ts ≡ false → meets ts ss ≡ false
meets_sym ss [] h = refl
meets_sym ss (t ∷ ts) h =
    let p = meets_parts ss (t ∷ []) ts h in or_from (list_any (clashes t) ss) (meets ts ss) (one_against ss t p.0) (meets_sym ss ts p.1)

-- ---- an item without a failure

step_quiet : (b : Bool) (x : Failure) (rest : Option Failure) → (if b then Some x else rest) ≡ None → (b ≡ false) × (rest ≡ None)
step_quiet true x rest h = absurd cc
step_quiet false x rest h = (refl, h)

pub steps_quiet : (earlier ss : List Step) → first_clash earlier ss ≡ None → meets ss earlier ≡ false
steps_quiet earlier [] h = refl
steps_quiet earlier (s ∷ ss) h =
    let p = step_quiet (list_any (clashes s) earlier) (cause.Clash (cell_of s), line_of s) (first_clash earlier ss) h in
    or_from (list_any (clashes s) earlier) (meets ss earlier) p.0 (steps_quiet earlier ss p.1)

pub quiet_steps : (earlier ss : List Step) → meets ss earlier ≡ false → first_clash earlier ss ≡ None
quiet_steps earlier [] h = refl
quiet_steps earlier (s ∷ ss) h =
    let p = or_parts (list_any (clashes s) earlier) (meets ss earlier) h in
    cond-false (list_any (clashes s) earlier) _ (first_clash earlier ss) p.0 ∙ quiet_steps earlier ss p.1

trap_quiet : (x : Option Failure) (stop : Ask) → or_trap x stop ≡ None → (x ≡ None) × (trap_of stop ≡ None)
trap_quiet None stop h = (refl, h)
trap_quiet (Some x) stop h = absurd cc

-- ---- a phase without a failure of an item

-- no item traps or clashes with the steps before it
abbrev pub Quiet : List Step → List Footprint → Type 0
Quiet e [] = ⊤
Quiet e (f ∷ fs) = (trap_of f.stop ≡ None) × (meets f.steps e ≡ false) × Quiet (e ++ f.steps) fs

pub item_quiet : (p : Position) (x : Option Failure) (later : Option Fault) → fault_or p x later ≡ None → (x ≡ None) × (later ≡ None)
item_quiet p None later h = (refl, h)
item_quiet p (Some x) later h = absurd cc

pub quiet_from : (e : List Step) (fs : List Footprint) → first_fault e fs ≡ None → Quiet e fs
quiet_from e [] h = tt
quiet_from e (f ∷ fs) h =
    let p = item_quiet f.position (or_trap (first_clash e f.steps) f.stop) (first_fault (e ++ f.steps) fs) h in
    let q = trap_quiet (first_clash e f.steps) f.stop p.0 in
    (q.1, steps_quiet e f.steps q.0, quiet_from (e ++ f.steps) fs p.1)

pub fault_from : (e : List Step) (fs : List Footprint) → Quiet e fs → first_fault e fs ≡ None
fault_from e [] q = refl
fault_from e (f ∷ fs) (trap, apart, rest) =
    ap (λ x. fault_or f.position (or_trap x f.stop) (first_fault (e ++ f.steps) fs)) (quiet_steps e f.steps apart) ∙ (ap (λ x. fault_or f.position x (first_fault (e ++ f.steps) fs)) trap ∙ fault_from (e ++ f.steps) fs rest)

-- the steps before matter only by what clashes with them
pub quiet_less : (e d : List Step) (fs : List Footprint) → ((ss : List Step) → meets ss e ≡ false → meets ss d ≡ false) → Quiet e fs → Quiet d fs
quiet_less e d [] less q = tt
quiet_less e d (f ∷ fs) less (trap, apart, rest) =
    (trap, less f.steps apart, quiet_less (e ++ f.steps) (d ++ f.steps) fs (λ ss h. let p = meets_parts ss e f.steps h in meets_from ss d f.steps (less ss p.0) p.1) rest)

last_two : (ss e a b : List Step) → meets ss ((e ++ a) ++ b) ≡ false → meets ss ((e ++ b) ++ a) ≡ false
last_two ss e a b h =
    let p = meets_parts ss (e ++ a) b h in
    let q = meets_parts ss e a p.0 in
    meets_from ss (e ++ b) a (meets_from ss e b q.0 p.1) q.1

quiet_swap : (e : List Step) (f g : Footprint) (fs : List Footprint) → Quiet e (f ∷ g ∷ fs) → Quiet e (g ∷ f ∷ fs)
quiet_swap e f g fs (trap_f, apart_f, others) =
    let trap_g = others.0 in
    let apart_g = others.1 in
    let rest = others.2 in
    let p = meets_parts g.steps e f.steps apart_g in
    (trap_g, p.0, (trap_f, meets_from f.steps e g.steps apart_f (meets_sym g.steps f.steps p.1), quiet_less ((e ++ f.steps) ++ g.steps) ((e ++ g.steps) ++ f.steps) fs (λ ss h. last_two ss e f.steps g.steps h) rest))

pub quiet_exchanged : (k : ℕ) (e : List Step) (fs : List Footprint) → Quiet e fs → Quiet e (exchanged k fs)
quiet_exchanged k e [] q = q
quiet_exchanged k e (f ∷ []) q = q
quiet_exchanged zero e (f ∷ g ∷ fs) q = quiet_swap e f g fs q
quiet_exchanged (suc k) e (f ∷ g ∷ fs) (trap, apart, rest) = (trap, apart, quiet_exchanged k (e ++ f.steps) (g ∷ fs) rest)
