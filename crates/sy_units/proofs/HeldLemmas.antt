-- What is kept of the findings of functions tells what kernels and groups call, and what is broken by it.
use Rattle.std.proofs.Common.{◌≡◌, refl, ℕ, zero, suc, ◌+◌, ◌<◌, Bool, true, false, ◌||◌, nat_eq, List, [], ◌∷◌, ◌++◌, length, reverse, take, get_or, Option, Some, None, ap, subst, sym, ◌∙◌, arith}
use Rattle.std.specs.Prelude.{flat_map}
use Rattle.std.specs.List.{list_any}
use Rattle.std.proofs.lemmas.List.{reverse-append, take_all}
use Rattle.std.proofs.lemmas.List.Folds.{list_any-append}
use Rattle.sy_note.specs.declared.Diagnostic.{Diagnostic}
use Rattle.sy_found.specs.Noted.{Notes, nothing_noted, note, noted, placed_by}
use Rattle.sy_found.specs.declared.parts.Call.{Call}
use Rattle.sy_findings.specs.Told.{told}
use Rattle.sy_findings.proofs.ToldLemmas.{told-append}
use Rattle.sy_constructs.proofs.SoundLemmas.{nothing_told, one_told}
use Rattle.sy_rules.specs.declared.names.Within.{Within}
use Rattle.sy_rules.specs.declared.names.Within.TheVariants as within
use Rattle.sy_rules.specs.Faults.{sooner}
use Rattle.sy_rules.specs.Outcome.{Finding, broken, foreign, held, calls, uses}
use Rattle.sy_rules.specs.Units.{Piece, a_constant, a_function, called_in, held_in, held_if, held_back, is_among, found_in_functions}
use Rattle.sy_units.specs.Calls.{within_of, first_held, makes_to, noted_of, notes_of, Agrees}

unplaced : (xs : List Finding) → flat_map (placed_by None) xs ≡ xs
unplaced [] = refl
unplaced (x ∷ xs) = ap (λ l. x ∷ l) (unplaced xs)

-- ---- calls

called_one : (a p r : Bool) → ((a || (p || false)) || r) ≡ (a || (p || r))
called_one true p r = refl
called_one false true r = refl
called_one false false r = refl

called_none : (a r : Bool) → ((a || (false || false)) || r) ≡ (a || r)
called_none true r = refl
called_none false r = refl

-- one call more
call_noted : (k b : Bool) (i j : ℕ) (w : Within) (a : Bool) (rest : List ℕ)
    → ((a || (makes_to k b i (record { from = w; to = j }) || false)) || is_among i rest) ≡ (a || is_among i (called_in (within_of k) b (calls w j) ++ rest))
call_noted true true i j within.Host a rest = called_one a (nat_eq i j) (is_among i rest)
call_noted false true i j within.Host a rest = called_one a (nat_eq i j) (is_among i rest)
call_noted true false i j within.Host a rest = called_none a (is_among i rest)
call_noted false false i j within.Host a rest = called_none a (is_among i rest)
call_noted true b i j within.Kernel a rest = called_one a (nat_eq i j) (is_among i rest)
call_noted false b i j within.Kernel a rest = called_none a (is_among i rest)
call_noted true b i j within.Group a rest = called_none a (is_among i rest)
call_noted false b i j within.Group a rest = called_one a (nat_eq i j) (is_among i rest)

calls_noted : (k b : Bool) (i : ℕ) (t : Notes) (xs : List Finding)
    → list_any (makes_to k b i) (noted t xs).calls ≡ (list_any (makes_to k b i) t.calls || is_among i (flat_map (called_in (within_of k) b) xs))
calls_noted k b i t [] = or_false (list_any (makes_to k b i) t.calls)
  where
    or_false : (a : Bool) → a ≡ (a || false)
    or_false true = refl
    or_false false = refl
calls_noted k b i t (broken d ∷ xs) = calls_noted k b i (note t (broken d)) xs
calls_noted k b i t (foreign u ∷ xs) = calls_noted k b i t xs
calls_noted k b i t (held within.Host s ∷ xs) = calls_noted k b i t xs
calls_noted k b i t (held within.Kernel s ∷ xs) = calls_noted k b i (note t (held within.Kernel s)) xs
calls_noted k b i t (held within.Group s ∷ xs) = calls_noted k b i (note t (held within.Group s)) xs
calls_noted k b i t (uses v ∷ xs) = calls_noted k b i (note t (uses v)) xs
calls_noted k b i t (calls w j ∷ xs) =
    calls_noted k b i (note t (calls w j)) xs
    ∙ ap (λ a. a || is_among i (flat_map (called_in (within_of k) b) xs)) (list_any-append (makes_to k b i) t.calls (record { from = w; to = j } ∷ []))
    ∙ call_noted k b i j w (list_any (makes_to k b i) t.calls) (flat_map (called_in (within_of k) b) xs)

pub calls_of : (k b : Bool) (i : ℕ) (xs : List Finding)
    → list_any (makes_to k b i) (noted_of xs).calls ≡ is_among i (flat_map (called_in (within_of k) b) xs)
calls_of k b i xs = ap (λ l. list_any (makes_to k b i) (noted nothing_noted l).calls) (unplaced xs) ∙ calls_noted k b i nothing_noted xs

pub among_append : (i : ℕ) (xs ys : List ℕ) → is_among i (xs ++ ys) ≡ (is_among i xs || is_among i ys)
among_append i xs ys = list_any-append (nat_eq i) xs ys

-- the flags after the calls of a function are marked
pub agrees_on : (k b : Bool) (old new : List Bool) (cs : List Call) (is : List ℕ) (xs : List Finding)
    → cs ≡ (noted_of xs).calls → length new ≡ length old
    → ((i : ℕ) → i < length old → get_or new i false ≡ (list_any (makes_to k b i) cs || get_or old i false))
    → Agrees old is → Agrees new (flat_map (called_in (within_of k) b) xs ++ is)
agrees_on k b old new cs is xs e n marks agrees = λ i h.
    let within : i < length old = subst (λ l. i < l) n h in
    marks i within
    ∙ ap (λ l. list_any (makes_to k b i) l || get_or old i false) e
    ∙ ap (λ a. a || get_or old i false) (calls_of k b i xs)
    ∙ ap (λ a. is_among i (flat_map (called_in (within_of k) b) xs) || a) (agrees i within)
    ∙ sym (among_append i (flat_map (called_in (within_of k) b) xs) is)

-- ---- what is held

held_noted : (k : Bool) (t : Notes) (xs : List Finding) → first_held k (noted t xs) ≡ told (first_held k t) (flat_map (held_in (within_of k)) xs)
held_noted k t [] = refl
held_noted true t (broken d ∷ xs) = held_noted true (note t (broken d)) xs
held_noted false t (broken d ∷ xs) = held_noted false (note t (broken d)) xs
held_noted true t (foreign u ∷ xs) = held_noted true t xs
held_noted false t (foreign u ∷ xs) = held_noted false t xs
held_noted true t (held within.Host s ∷ xs) = held_noted true t xs
held_noted false t (held within.Host s ∷ xs) = held_noted false t xs
held_noted true t (held within.Kernel s ∷ xs) = held_noted true (note t (held within.Kernel s)) xs
held_noted false t (held within.Kernel s ∷ xs) = held_noted false (note t (held within.Kernel s)) xs
held_noted true t (held within.Group s ∷ xs) = held_noted true (note t (held within.Group s)) xs
held_noted false t (held within.Group s ∷ xs) = held_noted false (note t (held within.Group s)) xs
held_noted true t (uses v ∷ xs) = held_noted true (note t (uses v)) xs
held_noted false t (uses v ∷ xs) = held_noted false (note t (uses v)) xs
held_noted true t (calls w j ∷ xs) = held_noted true (note t (calls w j)) xs
held_noted false t (calls w j ∷ xs) = held_noted false (note t (calls w j)) xs

held_of : (k : Bool) (xs : List Finding) → first_held k (noted_of xs) ≡ told None (flat_map (held_in (within_of k)) xs)
held_of true xs = ap (λ l. first_held true (noted nothing_noted l)) (unplaced xs) ∙ held_noted true nothing_noted xs
held_of false xs = ap (λ l. first_held false (noted nothing_noted l)) (unplaced xs) ∙ held_noted false nothing_noted xs

pub nothing_held : (k : Bool) (f : Option Diagnostic) (t : Notes) (xs : List Finding) → None ≡ first_held k t → t ≡ noted_of xs
    → f ≡ told f (held_if true (within_of k) xs)
nothing_held k f t xs e h = nothing_told f (flat_map (held_in (within_of k)) xs) (e ∙ ap (first_held k) h ∙ held_of k xs)

pub one_held : (k : Bool) (f : Option Diagnostic) (d : Diagnostic) (t : Notes) (xs : List Finding) → Some d ≡ first_held k t → t ≡ noted_of xs
    → sooner f (Some d) ≡ told f (held_if true (within_of k) xs)
one_held k f d t xs e h = one_told f d (flat_map (held_in (within_of k)) xs) (e ∙ ap (first_held k) h ∙ held_of k xs)

-- ---- functions, the last first

pub length_found : (i : ℕ) (ps : List Piece) → length (found_in_functions i ps) ≡ length (notes_of ps)
length_found i [] = refl
length_found i (a_constant c ∷ ps) = length_found i ps
length_found i (a_function f found ∷ ps) = ap suc (length_found (i + 1) ps)

-- the first k functions and the next
pub record Next (i k : ℕ) (ps : List Piece) (t : Notes) : Type 0 where
  pub found : List Finding
  pub is : t ≡ noted_of found
  pub taken : take (suc k) (found_in_functions i ps) ≡ take k (found_in_functions i ps) ++ (i + k, found) ∷ []

below_none : (k : ℕ) → k < 0 → ⊥
below_none k h = omega (arith, h)

pub next_one : (i k : ℕ) (ps : List Piece) (t : Notes) → t ≡ get_or (notes_of ps) k t → k < length (notes_of ps) → Next i k ps t
next_one i k [] t e h = absurd (below_none k h)
next_one i k (a_constant c ∷ ps) t e h =
    let n = next_one i k ps t e h in record { found = n.found; is = n.is; taken = n.taken }
next_one i zero (a_function f found ∷ ps) t e h =
    let same : i ≡ i + 0 = omega arith in
    record { found = found; is = e; taken = ap (λ j. (j, found) ∷ []) same }
next_one i (suc k) (a_function f found ∷ ps) t e h =
    let n = next_one (i + 1) k ps t e (omega (arith, h)) in
    let same : (i + 1) + k ≡ i + suc k = omega arith in
    record { found = n.found; is = n.is; taken = ap (λ l. (i, found) ∷ l) (n.taken ∙ ap (λ j. take k (found_in_functions (i + 1) ps) ++ (j, n.found) ∷ []) same) }

pub all_taken : (n : ℕ) (ps : List Piece) → n ≡ length (notes_of ps) → take n (found_in_functions 0 ps) ≡ found_in_functions 0 ps
all_taken n ps e = take_all n (found_in_functions 0 ps) (let same : length (found_in_functions 0 ps) ≡ length (notes_of ps) = length_found 0 ps in omega (arith, same, e))

-- one function after the later ones
pub held_on : (w : Within) (is : List ℕ) (f g : Option Diagnostic) (k : ℕ) (xs : List Finding) (before all : List (ℕ × List Finding))
    → all ≡ before ++ (k, xs) ∷ [] → g ≡ told f (held_if (is_among k is) w xs)
    → told g (held_back w (flat_map (called_in w (is_among k is)) xs ++ is) (reverse before)) ≡ told f (held_back w is (reverse all))
held_on w is f g k xs before all e h =
    ap (λ o. told o (held_back w (flat_map (called_in w (is_among k is)) xs ++ is) (reverse before))) h
    ∙ sym (told-append f (held_if (is_among k is) w xs) (held_back w (flat_map (called_in w (is_among k is)) xs ++ is) (reverse before)))
    ∙ ap (λ l. told f (held_back w is l)) (sym (ap reverse e ∙ reverse-append before ((k, xs) ∷ [])))
