-- The boards of legal orders are in order.
use Rattle.std.proofs.Common.{◌≡◌, ◌≤◌, ℕ, zero, suc, List, [], ◌∷◌, length, map, true, Option, Some, None, refl, sym, ap, ◌∙◌, subst, inl, inr, arith}
use Rattle.std.specs.Prelude.{slice_get, option_map, ◌^◌, nat_lt, ◌&&◌, if◌then◌else◌}
use Rattle.std.proofs.lemmas.Bool.{cases_Bool}
use Rattle.std.proofs.lemmas.List.{length-map}
use Rattle.std.proofs.lemmas.Option.{slice_get-map}
use Rattle.sy_work.specs.Programs.{Program, OutcomeOf}
use Rattle.sy_work.specs.declared.asks.Ask.{Ask}
use Rattle.sy_work.specs.declared.asks.Ask.TheVariants.{ThrowQueue}
use Rattle.sy_work.specs.declared.asks.Answer.TheVariants.{Done as Answered}
use Rattle.sy_onecopy.specs.declared.Waits.{Waits}
use Rattle.sy_onecopy.specs.declared.Waits.TheVariants.{Ready, Due, OnEntry, OnNode, OnQueue, OnThread, Never, Finished}
use Rattle.sy_onecopy.specs.State.{Board, State, opening, start, next_ask}
use Rattle.sy_onecopy.specs.Settle.{settle}
use Rattle.sy_onecopy.specs.Step.{apply, begin_ask, is_due, given, give_all, turn, once_heard, step}
use Rattle.sy_onecopy.specs.Sequence.{goes_on, ready_at, is_clear, may_step, is_legal, seq_from, seq}
use Rattle.sy_settling.specs.Orderly.{is_idle, IsOrderly, MayAsk}
use Rattle.sy_settling.proofs.ListLemmas.{get-set, and_left, and_right, some_is}
use Rattle.sy_settling.proofs.SettleLemmas.{orderly-settle}
use Rattle.sy_settling.proofs.OrderlyAskLemmas.{WaitsGo, buffers-stay, waits-set, idle_within, orderly-same, apply-follows}
use Rattle.sy_settling.proofs.SettledAskLemmas.{ask-settle}

map_queued : (f : Waits → Waits) → ((w : Waits) (q n : ℕ) → f w ≡ OnQueue q n → w ≡ OnQueue q n) → (xs : List Waits) (u q n : ℕ) → slice_get (map f xs) u ≡ Some (OnQueue q n) → slice_get xs u ≡ Some (OnQueue q n)
map_queued f h [] u q n g = g
map_queued f h (x ∷ xs) zero q n g = ap Some (h x q n (some_is g))
map_queued f h (x ∷ xs) (suc u) q n g = map_queued f h xs u q n g

waits-map : (b c : Board) (f : Waits → Waits) → c.waits ≡ map f b.waits → b.nodes ≤ c.nodes → f OnEntry ≡ OnEntry → ((w : Waits) (q n : ℕ) → f w ≡ OnQueue q n → w ≡ OnQueue q n) → WaitsGo b c
waits-map b c f e m h k = record {
  still = λ u g. ap (λ l. slice_get l u) e ∙ slice_get-map f b.waits u ∙ ap (option_map f) g ∙ ap Some h;
  queued = λ o u q n g. (let z : n ≤ b.nodes = o u q n (map_queued f k b.waits u q n (ap (λ l. slice_get l u) (sym e) ∙ g)) in omega arith);
  threads = omega (arith, ap length e, length-map b.waits f);
  nodes = m;
}

given_queued : (b : Board) (w : Waits) (q n : ℕ) → given b w ≡ OnQueue q n → w ≡ OnQueue q n
given_queued b w q n h = elim (cases_Bool (is_due b w)) [
  | inl v ↦ absurd (let z : Due Answered ≡ OnQueue q n = sym (ap (λ u. if u then Due Answered else w) v) ∙ h in cc)
  | inr v ↦ sym (ap (λ u. if u then Due Answered else w) v) ∙ h
]

heard_queued : (w : Waits) (q n : ℕ) → once_heard w ≡ OnQueue q n → w ≡ OnQueue q n
heard_queued (Due a) q n h = absurd cc
heard_queued w q n h = h

pub orderly-give : (b : Board) → IsOrderly b → IsOrderly (give_all b)
unfolding give_all
orderly-give b o = orderly-same b (give_all b) refl (buffers-stay b.buffers) (waits-map b (give_all b) (given b) refl (omega arith) refl (given_queued b)) o

pub orderly-heard : (b : Board) → IsOrderly b → IsOrderly (record b { waits = map once_heard b.waits })
orderly-heard b o =
    let c : Board = record b { waits = map once_heard b.waits } in
    orderly-same b c refl (buffers-stay b.buffers) (waits-map b c once_heard refl (omega arith) refl heard_queued) o

pub orderly-begin_ask : (b : Board) (t : ℕ) → IsOrderly b → is_idle (slice_get b.waits t) ≡ true → IsOrderly (begin_ask b t)
orderly-begin_ask b t o i = orderly-same b (begin_ask b t) refl (buffers-stay b.buffers) (waits-set b (begin_ask b t) t Never refl (omega arith) i refl) o

pub orderly-apply : (b : Board) (t : ℕ) (q : Ask) → IsOrderly b → MayAsk b t q → IsOrderly (apply b t q)
orderly-apply b t q o m = (apply-follows b t q m.idle).orderly o

only_ready : (t q n : ℕ) → slice_get opening.waits t ≡ Some (OnQueue q n) → {A : Type 0} → A
only_ready zero q n g = absurd cc
only_ready (suc t) q n g = absurd cc

pub orderly-opening : IsOrderly opening
orderly-opening = record {
  awaited = λ k t e p w. absurd (let z = p.0 in cc);
  alone = λ j k t x y p q u v. absurd (let z = p.0 in cc);
  there = λ k e p. absurd (let z = p.0 in cc);
  whole = λ k t r e p w. absurd (let z = p.0 in cc);
  open_first = λ k e p s. absurd cc;
  queued = λ t q n g. only_ready t q n g;
}

-- ---- a legal step

ready_idle : (o : Option Waits) → ready_at o ≡ true → is_idle o ≡ true
ready_idle None h = h
ready_idle (Some Ready) h = refl
ready_idle (Some (Due a)) h = refl
ready_idle (Some OnEntry) h = h
ready_idle (Some (OnNode n)) h = refl
ready_idle (Some (OnQueue q n)) h = refl
ready_idle (Some (OnThread u)) h = refl
ready_idle (Some Never) h = refl
ready_idle (Some (Finished v)) h = refl

legal_idle : (p : Program) (s : State) (t : ℕ) → is_legal p s t ≡ true → is_idle (slice_get s.board.waits t) ≡ true
unfolding may_step
legal_idle p s t h =
    let m = and_left (may_step p s t) (nat_lt s.board.steps (2 ^ 24)) h in
    ready_idle (slice_get s.board.waits t) (and_left (ready_at (slice_get s.board.waits t)) (is_clear s.board (next_ask p s t)) (and_right (goes_on s.board) (ready_at (slice_get s.board.waits t) && is_clear s.board (next_ask p s t)) m))

legal_clear : (p : Program) (s : State) (t : ℕ) → is_legal p s t ≡ true → is_clear s.board (next_ask p s t) ≡ true
unfolding may_step
legal_clear p s t h =
    let m = and_left (may_step p s t) (nat_lt s.board.steps (2 ^ 24)) h in
    and_right (ready_at (slice_get s.board.waits t)) (is_clear s.board (next_ask p s t)) (and_right (goes_on s.board) (ready_at (slice_get s.board.waits t) && is_clear s.board (next_ask p s t)) m)

pub clear_begun : (b : Board) (t : ℕ) (q : Ask) → is_clear b q ≡ true → is_clear (begin_ask b t) q ≡ true
clear_begun b t (ThrowQueue q) h = h
clear_begun b t q h = refl

pub idle_begun : (b : Board) (t : ℕ) → is_idle (slice_get b.waits t) ≡ true → is_idle (slice_get (begin_ask b t).waits t) ≡ true
idle_begun b t i = ap is_idle (get-set b.waits t Never (idle_within b.waits t i))

pub legal_may_ask : (p : Program) (s : State) (t : ℕ) → is_legal p s t ≡ true → MayAsk (begin_ask s.board t) t (next_ask p s t)
legal_may_ask p s t h = record {
  idle = idle_begun s.board t (legal_idle p s t h);
  clear = clear_begun s.board t (next_ask p s t) (legal_clear p s t h);
}

orderly-step : (p : Program) (s : State) (t : ℕ) → is_legal p s t ≡ true → IsOrderly s.board → IsOrderly (step p s t).board
unfolding step turn
orderly-step p s t h o =
    let b = begin_ask s.board t in
    let ob = orderly-begin_ask s.board t o (legal_idle p s t h) in
    let oc = orderly-apply b t (next_ask p s t) ob (legal_may_ask p s t h) in
    let c = settle p.outcome (apply b t (next_ask p s t)) in
    orderly-heard (give_all c) (orderly-give c (orderly-settle p.outcome (apply b t (next_ask p s t)) oc))

not_none : {s : State} → None ≡ Some s → {A : Type 0} → A
not_none p = absurd cc

seq_orderly : (p : Program) (s : State) (order : List ℕ) (u : State) → IsOrderly s.board → seq_from p s order ≡ Some u → IsOrderly u.board
seq_orderly p s [] u o h = subst (λ v. IsOrderly v.board) (some_is h) o
seq_orderly p s (t ∷ ts) u o h = elim (cases_Bool (is_legal p s t)) [
  | inl l ↦ seq_orderly p (step p s t) ts u (orderly-step p s t l o) (sym (ap (λ v. if v then seq_from p (step p s t) ts else None) l) ∙ h)
  | inr l ↦ not_none {s = u} (sym (ap (λ v. if v then seq_from p (step p s t) ts else None) l) ∙ h)
]

pub legal_orderly : (p : Program) (order : List ℕ) (s : State) → seq p order ≡ Some s → IsOrderly s.board
legal_orderly p order s h = seq_orderly p (start p) order s orderly-opening h

pub legal_settle : (p : Program) (order : List ℕ) (s : State) (t : ℕ) (out : OutcomeOf) → seq p order ≡ Some s → is_legal p s t ≡ true → settle out (apply (settle out (begin_ask s.board t)) t (next_ask p s t)) ≡ settle out (apply (begin_ask s.board t) t (next_ask p s t))
legal_settle p order s t out h l =
    ask-settle out (begin_ask s.board t) t (next_ask p s t) (orderly-begin_ask s.board t (legal_orderly p order s h) (legal_idle p s t l)) (legal_may_ask p s t l)
