-- Waits that are answered one thread after another are answered all at once.
use Rattle.std.proofs.Common.{◌≡◌, ℕ, zero, suc, ◌<◌, ◌≤◌, List, [], ◌∷◌, length, map, Bool, true, false, Some, refl, ap, ◌∙◌, sym, get_or}
use Rattle.std.specs.Prelude.{slice_get, slice_set, if◌then◌else◌}
use Rattle.std.proofs.lemmas.Option.{slice_get-get_or}
use Rattle.sy_onecopy.specs.Settle.{await}
use Rattle.sy_work.specs.declared.asks.Answer.TheVariants.{Done}
use Rattle.sy_onecopy.specs.declared.Waits.{Waits}
use Rattle.sy_onecopy.specs.declared.Waits.TheVariants.{Ready, Due, OnEntry, OnNode, OnQueue, OnThread, Never, Finished}
use Rattle.sy_onecopy.specs.Each.{changed_at}
use Rattle.sy_onecopy.specs.State.{Board}
use Rattle.sy_onecopy.specs.Step.{given, is_due, has_finished, give_all}
use Rattle.sy_board.specs.Turns.{give_one, give_upto}
use Rattle.sy_board.proofs.ListLemmas.{changed_at-set, changed_at-past, changed_at-same}

-- ---- the first k members of a list changed

-- the function at the first k members
abbrev pub first_changed : {A : Type 0} → (A → A) → ℕ → List A → List A
first_changed f zero xs = xs
first_changed f (suc k) [] = []
first_changed f (suc k) (x ∷ xs) = f x ∷ first_changed f k xs

pub first_changed-more : {A : Type 0} (f : A → A) (k : ℕ) (xs : List A) → changed_at f k (first_changed f k xs) ≡ first_changed f (suc k) xs
first_changed-more f zero [] = refl
first_changed-more f zero (x ∷ xs) = refl
first_changed-more f (suc k) [] = refl
first_changed-more f (suc k) (x ∷ xs) = ap (λ l. f x ∷ l) (first_changed-more f k xs)

pub first_changed-all : {A : Type 0} (f : A → A) (xs : List A) → first_changed f (length xs) xs ≡ map f xs
first_changed-all f [] = refl
first_changed-all f (x ∷ xs) = ap (λ l. f x ∷ l) (first_changed-all f xs)

pub changed_at-eq : {A : Type 0} (f g : A → A) (k : ℕ) (xs : List A) → ((x : A) → f x ≡ g x) → changed_at f k xs ≡ changed_at g k xs
changed_at-eq f g k [] e = refl
changed_at-eq f g zero (x ∷ xs) e = ap (λ y. y ∷ xs) (e x)
changed_at-eq f g (suc k) (x ∷ xs) e = ap (λ l. x ∷ l) (changed_at-eq f g k xs e)

-- ---- a wait that is answered tells of no thread that it has finished, and takes that from none

given_finished : (v : Bool) (w : Waits) → (v ≡ true → has_finished (Some w) ≡ false) → has_finished (Some (if v then Due Done else w)) ≡ has_finished (Some w)
given_finished true w e = sym (e refl)
given_finished false w e = refl

not_due : (b : Board) (w : Waits) → is_due b w ≡ true → has_finished (Some w) ≡ false
not_due b Ready e = refl
not_due b (Due a) e = refl
not_due b OnEntry e = refl
not_due b (OnNode n) e = refl
not_due b (OnQueue q n) e = refl
not_due b (OnThread u) e = refl
not_due b Never e = refl
not_due b (Finished v) e = sym e

finished_kept : (b : Board) (k u : ℕ) (ws : List Waits) → has_finished (slice_get (first_changed (given b) k ws) u) ≡ has_finished (slice_get ws u)
finished_kept b zero u ws = refl
finished_kept b (suc k) u [] = refl
finished_kept b (suc k) zero (w ∷ ws) = given_finished (is_due b w) w (not_due b w)
finished_kept b (suc k) (suc u) (w ∷ ws) = finished_kept b k u ws

-- the board whose first k waits are answered
abbrev first_given : Board → ℕ → Board
first_given b k = record b { waits = first_changed (given b) k b.waits }

due_kept : (b : Board) (k : ℕ) (w : Waits) → is_due (first_given b k) w ≡ is_due b w
due_kept b k Ready = refl
due_kept b k (Due a) = refl
due_kept b k OnEntry = refl
due_kept b k (OnNode n) = refl
due_kept b k (OnQueue q n) = refl
due_kept b k (OnThread u) = finished_kept b k u b.waits
due_kept b k Never = refl
due_kept b k (Finished v) = refl

upto-first : (b : Board) (k : ℕ) → give_upto b k ≡ first_given b k
upto-first b zero = refl
upto-first b (suc k) =
    ap (give_one k) (upto-first b k)
    ∙ ap (λ ws. record b { waits = ws })
    (changed_at-eq (given (first_given b k)) (given b) k (first_changed (given b) k b.waits) (λ w. ap (λ v. if v then Due Done else w) (due_kept b k w))
    ∙ first_changed-more (given b) k b.waits)

pub give_upto-all : (b : Board) → give_upto b (length b.waits) ≡ give_all b
unfolding give_all
give_upto-all b = upto-first b (length b.waits) ∙ ap (λ ws. record b { waits = ws }) (first_changed-all (given b) b.waits)

-- ---- one wait

pub give_due : (b : Board) (k : ℕ) → k < length b.waits → ((w : Waits) → slice_get b.waits k ≡ Some w → true ≡ is_due b w) → await b k (Due Done) ≡ give_one k b
give_due b k lt due =
    let w = get_or b.waits k Ready in
    let e : given b w ≡ Due Done = ap (λ v. if v then Due Done else w) (sym (due w (slice_get-get_or b.waits k Ready lt))) in
    ap (λ ws. record b { waits = ws }) (ap (slice_set b.waits k) (sym e) ∙ changed_at-set (given b) k b.waits Ready lt)

pub give_not : (b : Board) (k : ℕ) → k < length b.waits → ((w : Waits) → slice_get b.waits k ≡ Some w → false ≡ is_due b w) → b ≡ give_one k b
give_not b k lt due =
    let w = get_or b.waits k Ready in
    let e : given b w ≡ w = ap (λ v. if v then Due Done else w) (sym (due w (slice_get-get_or b.waits k Ready lt))) in
    ap (λ ws. record b { waits = ws }) (changed_at-same (given b) k b.waits Ready e)

pub give_past : (b : Board) (k : ℕ) → length b.waits ≤ k → b ≡ give_one k b
give_past b k le = ap (λ ws. record b { waits = ws }) (changed_at-past (given b) k b.waits le)
