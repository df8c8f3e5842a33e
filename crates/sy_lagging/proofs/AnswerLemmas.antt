-- What a thread is told fits what it asked.
use Rattle.std.proofs.Common.{◌≡◌, ◌≢◌, ℕ, zero, suc, ◌<◌, ◌≤◌, ℤ, List, [], ◌∷◌, ◌++◌, length, Bool, true, false, Option, Some, None, refl, sym, ap, ◌∙◌, subst, inl, inr, arith}
use Rattle.std.specs.Prelude.{slice_get, option_map, nat_lt, if◌then◌else◌}
use Rattle.std.proofs.lemmas.Bool.{cases_Bool}
use Rattle.std.proofs.lemmas.Bool.Decides.{nat_tests}
use Rattle.std.proofs.lemmas.Option.{slice_get_within, slice_get_cases}
use Rattle.sy_work.specs.Programs.{Program}
use Rattle.sy_work.specs.Answers.{Fits}
use Rattle.sy_work.specs.declared.asks.Ask.{Ask}
use Rattle.sy_work.specs.declared.asks.Ask.TheVariants.{Spawn}
use Rattle.sy_work.specs.declared.asks.Answer.{Answer}
use Rattle.sy_onecopy.specs.declared.Waits.{Waits}
use Rattle.sy_onecopy.specs.declared.Waits.TheVariants.{Ready as NoWait, Due, OnEntry, OnNode, OnQueue, OnThread, Never, Finished}
use Rattle.sy_onecopy.specs.State.{State, Thread, start, new_thread, ask_of, next_ask}
use Rattle.sy_onecopy.specs.Step.{given, once_heard, hear, step}
use Rattle.sy_onecopy.specs.Sequence.{is_legal, seq_from, seq}
use Rattle.sy_answers.specs.Fitting.{StepFits, board_after, count_after, due_at}
use Rattle.sy_answers.proofs.RunLemmas.{step_fits, all_told, all_started, all_counted}
use Rattle.sy_settling.specs.Orderly.{IsOrderly, is_idle}
use Rattle.sy_settling.proofs.ListLemmas.{some_is, get-changed, get-set}
use Rattle.sy_lagging.specs.Lagging.{catch_up, after_hear}
use Rattle.sy_lagging.specs.LastAnswers.{LastFits}
use Rattle.sy_settling.proofs.DeferredLemmas.{over_idle, orderly-told}
use Rattle.sy_lagging.proofs.HearLemmas.{catch_up-hear}
use Rattle.sy_lagging.proofs.StepLemmas.{next_is, seq_from-more, catch_up-thread}

-- ---- lists that end alike

heads : {A : Type 0} {x y : A} {xs ys : List A} → x ∷ xs ≡ y ∷ ys → x ≡ y
heads h = cc

tails : {A : Type 0} {x y : A} {xs ys : List A} → x ∷ xs ≡ y ∷ ys → xs ≡ ys
tails h = cc

snoc_is : {A : Type 0} (xs ys : List A) (a b : A) → xs ++ a ∷ [] ≡ ys ++ b ∷ [] → (xs ≡ ys) × (a ≡ b)
snoc_is [] [] a b h = (refl, heads h)
snoc_is [] (y ∷ []) a b h = absurd (let z = tails h in cc)
snoc_is [] (y ∷ z ∷ ys) a b h = absurd (let z = tails h in cc)
snoc_is (x ∷ []) [] a b h = absurd (let z = tails h in cc)
snoc_is (x ∷ z ∷ xs) [] a b h = absurd (let z = tails h in cc)
snoc_is (x ∷ xs) (y ∷ ys) a b h =
    let r = snoc_is xs ys a b (tails h) in
    (ap (λ z. z ∷ xs) (heads h) ∙ ap (λ l. y ∷ l) r.0, r.1)

no_snoc : {A B : Type 0} (ys : List A) (a : A) → [] ≡ ys ++ a ∷ [] → B
no_snoc [] a h = absurd cc
no_snoc (y ∷ ys) a h = absurd cc

and_nil : {A : Type 0} (xs : List A) → xs ++ [] ≡ xs
and_nil [] = refl
and_nil (x ∷ xs) = ap (λ l. x ∷ l) (and_nil xs)

-- ---- one step

untold_fits : (p : Program) (s : State) (u : ℕ) (x : Thread) (v : Waits) (ys : List Answer) (a : Answer) → ((b : Answer) → v ≢ Due b) → LastFits p s → slice_get s.threads u ≡ Some x → x.answers ++ due_at (Some v) ≡ ys ++ a ∷ [] → Fits (p.next x.body x.captures ys) a
untold_fits p s u x NoWait ys a n l g h = l u x ys a g (sym (and_nil x.answers) ∙ h)
untold_fits p s u x (Due b) ys a n l g h = absurd (n b refl)
untold_fits p s u x OnEntry ys a n l g h = l u x ys a g (sym (and_nil x.answers) ∙ h)
untold_fits p s u x (OnNode m) ys a n l g h = l u x ys a g (sym (and_nil x.answers) ∙ h)
untold_fits p s u x (OnQueue q m) ys a n l g h = l u x ys a g (sym (and_nil x.answers) ∙ h)
untold_fits p s u x (OnThread m) ys a n l g h = l u x ys a g (sym (and_nil x.answers) ∙ h)
untold_fits p s u x Never ys a n l g h = l u x ys a g (sym (and_nil x.answers) ∙ h)
untold_fits p s u x (Finished m) ys a n l g h = l u x ys a g (sym (and_nil x.answers) ∙ h)

-- the answer that is due, if one is, is the last
told_fits : (p : Program) (s : State) (t u : ℕ) (x : Thread) (o : Option Waits) (ys : List Answer) (a : Answer) → StepFits p s t → LastFits p s → slice_get s.threads u ≡ Some x → slice_get (board_after p s t).waits u ≡ o → x.answers ++ due_at o ≡ ys ++ a ∷ [] → Fits (p.next x.body x.captures ys) a
told_fits p s t u x (Some (Due b)) ys a f l g w h =
    let r = snoc_is x.answers ys b a h in
    subst (λ z. Fits (p.next x.body x.captures z) a) r.0 (subst (Fits (ask_of p.next x)) r.1 (subst (λ q. Fits q b) (next_is p s u x g) (f.fits u b w)))
told_fits p s t u x None ys a f l g w h = l u x ys a g (sym (and_nil x.answers) ∙ h)
told_fits p s t u x (Some NoWait) ys a f l g w h = untold_fits p s u x NoWait ys a (λ b z. absurd cc) l g h
told_fits p s t u x (Some OnEntry) ys a f l g w h = untold_fits p s u x OnEntry ys a (λ b z. absurd cc) l g h
told_fits p s t u x (Some (OnNode m)) ys a f l g w h = untold_fits p s u x (OnNode m) ys a (λ b z. absurd cc) l g h
told_fits p s t u x (Some (OnQueue q m)) ys a f l g w h = untold_fits p s u x (OnQueue q m) ys a (λ b z. absurd cc) l g h
told_fits p s t u x (Some (OnThread m)) ys a f l g w h = untold_fits p s u x (OnThread m) ys a (λ b z. absurd cc) l g h
told_fits p s t u x (Some Never) ys a f l g w h = untold_fits p s u x Never ys a (λ b z. absurd cc) l g h
told_fits p s t u x (Some (Finished m)) ys a f l g w h = untold_fits p s u x (Finished m) ys a (λ b z. absurd cc) l g h

-- a thread that the step starts has no answer
beyond : {A B : Type 0} (xs : List A) (u : ℕ) (y : A) → slice_get xs u ≡ Some y → length xs ≤ u → B
beyond xs u y g le = absurd (let lt = slice_get_within xs u y g in omega (arith, lt, le))

started_fits : (p : Program) (s : State) (t u : ℕ) (y : Thread) (ys : List Answer) (a : Answer) (body : ℕ) (captures : List ℤ) (v : Bool) → nat_lt (length s.threads) 64 ≡ v → length (step p s t).threads ≡ (if v then suc (length s.threads) else length s.threads) → (length s.threads < 64 → slice_get (step p s t).threads (length s.threads) ≡ Some (new_thread body captures)) → length s.threads ≤ u → slice_get (step p s t).threads u ≡ Some y → y.answers ≡ ys ++ a ∷ [] → Fits (p.next y.body y.captures ys) a
started_fits p s t u y ys a body captures false e c st le g h = beyond (step p s t).threads u y g (omega (arith, c, le))
started_fits p s t u y ys a body captures true e c st le g h =
    let lt : length s.threads < 64 = grind (arith, nat_tests) in
    let within = slice_get_within (step p s t).threads u y g in
    let at : u ≡ length s.threads = omega (arith, c, le, within) in
    let is : y ≡ new_thread body captures = some_is (sym g ∙ ap (slice_get (step p s t).threads) at ∙ st lt) in
    no_snoc ys a (ap (λ (z : Thread). z.answers) (sym is) ∙ h)

new_fits : (p : Program) (order : List ℕ) (s : State) (t u : ℕ) (y : Thread) (ys : List Answer) (a : Answer) (q : Ask) → next_ask p s t ≡ q → seq p order ≡ Some s → is_legal p s t ≡ true → length s.threads ≤ u → slice_get (step p s t).threads u ≡ Some y → y.answers ≡ ys ++ a ∷ [] → Fits (p.next y.body y.captures ys) a
new_fits p order s t u y ys a (Spawn body captures) n h legal le g e =
    started_fits p s t u y ys a body captures (nat_lt (length s.threads) 64) refl (all_counted p order s t h legal ∙ ap (λ q. count_after q (length s.threads)) n) (λ lt. all_started p order s t body captures h legal n lt) le g e
new_fits p order s t u y ys a q n h legal le g e = beyond (step p s t).threads u y g (let c : length (step p s t).threads ≡ length s.threads = all_counted p order s t h legal ∙ ap (λ z. count_after z (length s.threads)) n in omega (arith, c, le))

step_keeps : (p : Program) (order : List ℕ) (s : State) (t : ℕ) → seq p order ≡ Some s → is_legal p s t ≡ true → LastFits p s → LastFits p (step p s t)
step_keeps p order s t h legal l u y ys a g e = elim (slice_get_cases s.threads u).1 [
  | inl c ↦
      let is : y ≡ record c.0 { answers = c.0.answers ++ due_at (slice_get (board_after p s t).waits u) } = some_is (sym g ∙ all_told p order s t u c.0 h legal c.2) in
      subst (λ (z : Thread). Fits (p.next z.body z.captures ys) a) (sym is)
      (told_fits p s t u c.0 (slice_get (board_after p s t).waits u) ys a (step_fits p order s t h legal) l c.2 refl (ap (λ (z : Thread). z.answers) (sym is) ∙ e))
  | inr c ↦ new_fits p order s t u y ys a (next_ask p s t) refl h legal c.0 g e
]

runs_keep : (p : Program) (before : List ℕ) (s : State) (ts : List ℕ) (u : State) → seq p before ≡ Some s → LastFits p s → seq_from p s ts ≡ Some u → LastFits p u
runs_keep p before s [] u h l e = subst (LastFits p) (some_is e) l
runs_keep p before s (t ∷ ts) u h l e = elim (cases_Bool (is_legal p s t)) [
  | inl v ↦ runs_keep p (before ++ t ∷ []) (step p s t) ts u (seq_from-more p (start p) s before t h v) (step_keeps p before s t h v l) (sym (ap (λ b. if b then seq_from p (step p s t) ts else None) v) ∙ e)
  | inr v ↦ absurd (let z : None ≡ Some u = sym (ap (λ b. if b then seq_from p (step p s t) ts else None) v) ∙ e in cc)
]

starts_fit : (p : Program) → LastFits p (start p)
starts_fit p zero x ys a g e = no_snoc ys a (ap (λ (z : Thread). z.answers) (some_is g) ∙ e)
starts_fit p (suc u) x ys a g e = absurd cc

-- in each state of a legal order the last answer of each thread fits the ask that it answers
pub last_fits : (p : Program) (order : List ℕ) (s : State) → seq p order ≡ Some s → LastFits p s
last_fits p order s h = runs_keep p [] (start p) order s refl (starts_fit p) h

-- ---- on a state that lags behind

-- what a thread is told before the board settles fits its ask
pub told-fits : (p : Program) (order : List ℕ) (s : State) (t : ℕ) (w : Waits) (x : Thread) (a : Answer) → seq p order ≡ Some (catch_up p.outcome s) → IsOrderly s.board → slice_get s.board.waits t ≡ Some w → given s.board w ≡ Due a → slice_get s.threads t ≡ Some x → Fits (ask_of p.next x) a
told-fits p order s t w x a h o g due at =
    let over : once_heard (given s.board w) ≡ NoWait = ap once_heard due in
    let u = after_hear s t w in
    let same = catch_up-hear p.outcome s t w o g over in
    let idle_now = ap is_idle g ∙ over_idle s.board w over in
    let orderly : IsOrderly u.board = orderly-told s.board t o idle_now in
    let ready : slice_get u.board.waits t ≡ Some NoWait = get-set s.board.waits t NoWait (slice_get_within s.board.waits t w g) in
    let here : slice_get u.threads t ≡ Some (hear (given s.board w) x) = get-changed (hear (given s.board w)) t s.threads ∙ ap (option_map (hear (given s.board w))) at in
    let thread : slice_get (catch_up p.outcome s).threads t ≡ Some (record x { answers = x.answers ++ a ∷ [] }) =
    ap (λ (z : State). slice_get z.threads t) (sym same) ∙ catch_up-thread p.outcome u t orderly ready ∙ here ∙ ap (λ v. Some (hear v x)) due in
    last_fits p order (catch_up p.outcome s) h t (record x { answers = x.answers ++ a ∷ [] }) x.answers a thread refl
