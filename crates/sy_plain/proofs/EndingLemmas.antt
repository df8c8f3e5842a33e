-- The least thread that may step, how a run ends, and one step more of an order.
use Rattle.std.proofs.Common.{◌≡◌, ℕ, zero, suc, ◌+◌, ◌^◌, ℤ, List, [], ◌∷◌, ◌++◌, length, Option, Some, None, Bool, true, false, refl, sym, ap, ◌∙◌, subst, arith}
use Rattle.std.specs.Prelude.{slice_get, ◌&&◌, if◌then◌else◌, nat_lt}
use Rattle.sy_work.specs.Programs.{Program, NextAsk}
use Rattle.sy_work.specs.declared.asks.Ask.{Ask}
use Rattle.sy_work.specs.declared.asks.Answer.{Answer}
use Rattle.sy_work.specs.declared.endings.Ending.{Ending}
use Rattle.sy_work.specs.declared.endings.Ending.TheVariants.{HistoryFull}
use Rattle.sy_onecopy.specs.declared.Waits.{Waits}
use Rattle.sy_onecopy.specs.declared.Waits.TheVariants.{Ready}
use Rattle.sy_onecopy.specs.State.{Board, Thread, State, opening, start, new_thread, next_ask}
use Rattle.sy_onecopy.specs.Step.{step}
use Rattle.sy_onecopy.specs.Sequence.{goes_on, ready_at, is_clear, may_step, is_legal, seq_from, first_from, first_thread, ending_of_threads, ending_by_main, ending_by_step, ending_at, ending, value_of_main, IsSerial}
use Rattle.sy_onecopy.proofs.RunLemmas.{first_may, legal_first, one_more_step}
use Rattle.sy_board.specs.Turns.{may_go}
use Rattle.sy_plain.specs.Hosts.{Seats}
use Rattle.sy_plain.specs.Runs.{StandsAt, Hold, Reached, least}
use Rattle.sy_plain.proofs.ListLemmas.{some_is}

-- ---- the least thread of a state

false_true : {A : Type 0} → false ≡ true → A
false_true e = absurd (let z : ⊥ = cc in z)

and_false : (a : Bool) → (a && false) ≡ false
and_false true = refl
and_false false = refl

-- a thread that is not ready may not step, whatever its ask is
not_ready : (b : Board) (u : ℕ) (o : Option Ask) → ready_at (slice_get b.waits u) ≡ false → may_go b u o ≡ false
not_ready b u None e = refl
not_ready b u (Some q) e = ap (λ v. goes_on b && (v && is_clear b q)) e ∙ and_false (goes_on b)

step_not_ready : (p : Program) (s : State) (u : ℕ) → ready_at (slice_get s.board.waits u) ≡ false → may_step p s u ≡ false
unfolding may_step
step_not_ready p s u e = ap (λ v. goes_on s.board && (v && is_clear s.board (next_ask p s u))) e ∙ and_false (goes_on s.board)

step_ready : (p : Program) (s : State) (u : ℕ) → may_go s.board u (Some (next_ask p s u)) ≡ may_step p s u
unfolding may_step
step_ready p s u = refl

by_ready : (v : Bool) (P : Type 0) → (v ≡ true → P) → (v ≡ false → P) → P
by_ready true P f g = f refl
by_ready false P f g = g refl

first_same : (test : ℕ → Bool) (b : Board) (k : ℕ) (os : List (Option Ask)) (ws : List Waits) → length os ≡ length ws → ((i : ℕ) (o : Option Ask) → slice_get os i ≡ Some o → may_go b (k + i) o ≡ test (k + i)) → least b k os ≡ first_from test k ws
first_same test b k [] [] n same = refl
first_same test b k [] (w ∷ ws) n same = absurd (omega (arith, n))
first_same test b k (o ∷ os) [] n same = absurd (omega (arith, n))
first_same test b k (o ∷ os) (w ∷ ws) n same =
    let z : k + 0 ≡ k = omega arith in
    let here : may_go b k o ≡ test k = ap (λ m. may_go b m o) (sym z) ∙ same 0 o refl ∙ ap test z in
    let rest = first_same test b (suc k) os ws (omega (arith, n)) (λ i x at. let e : suc k + i ≡ k + suc i = omega arith in ap (λ m. may_go b m x) e ∙ same (suc i) x at ∙ ap test (sym e)) in
    ap (λ v. if v then Some k else least b (suc k) os) here ∙ ap (λ r. if test k then Some k else r) rest

module _ {H : Type 0} (pending : H → Option Ask) (stands : H → NextAsk → ℕ → List ℤ → List Answer → Type 0) where
  pub first_is : (p : Program) (b : Board) (hosts : List H) (asks : List (Option Ask)) (s : State) → Hold pending stands p b hosts asks s → least b 0 asks ≡ first_thread p s
  unfolding first_thread
  first_is p b hosts asks s hold =
      first_same (may_step p s) b 0 asks s.board.waits (hold.asks_count ∙ ap (λ (k : Board). length k.waits) hold.board) (λ i o at. let z : 0 + i ≡ i = omega arith in ap (λ m. may_go b m o) z ∙ one i o at ∙ ap (may_step p s) (sym z))
    where
      one : (u : ℕ) (o : Option Ask) → slice_get asks u ≡ Some o → may_go b u o ≡ may_step p s u
      one u o at = by_ready (ready_at (slice_get b.waits u)) (may_go b u o ≡ may_step p s u) ready unready
        where
          ready : ready_at (slice_get b.waits u) ≡ true → may_go b u o ≡ may_step p s u
          ready e =
              let eo : o ≡ Some (next_ask p s u) = some_is (sym at ∙ hold.kept u e) in
              ap (may_go b u) eo ∙ ap (λ (k : Board). may_go k u (Some (next_ask p s u))) hold.board ∙ step_ready p s u

          unready : ready_at (slice_get b.waits u) ≡ false → may_go b u o ≡ may_step p s u
          unready e = not_ready b u o e ∙ sym (step_not_ready p s u (ap (λ (k : Board). ready_at (slice_get k.waits u)) (sym hold.board) ∙ e))

-- ---- endings

pub ending_is : (p : Program) (s : State) (b : Board) (first : Option ℕ) → b ≡ s.board → first ≡ first_thread p s → ending_at b first ≡ ending p s
unfolding ending
ending_is p s b first eb ef = ap (λ (k : Board). ending_at k first) eb ∙ ap (ending_at s.board) ef

some_none : {A B : Type 0} {x : A} → Some x ≡ None → B
some_none e = absurd (let z : ⊥ = cc in z)

by_threads : (b : Board) (first : Option ℕ) (v : Option ℤ) → ending_by_main b first v ≡ None → ending_of_threads b.steps first ≡ None
by_threads b first None h = h
by_threads b first (Some v) h = some_none h

by_steps : (b : Board) (first : Option ℕ) (o : Option Ending) → ending_by_step b first o ≡ None → ending_of_threads b.steps first ≡ None
by_steps b first None h = by_threads b first (value_of_main b.waits) h
by_steps b first (Some e) h = some_none h

in_time : (v : Bool) → (if v then None else Some HistoryFull) ≡ None → v ≡ true
in_time true h = refl
in_time false h = some_none h

-- a run that has no ending has steps left
has_time : (b : Board) (t : ℕ) → ending_at b (Some t) ≡ None → nat_lt b.steps (2 ^ 24) ≡ true
has_time b t h = in_time (nat_lt b.steps (2 ^ 24)) (by_steps b (Some t) b.ended h)

both : (a b : Bool) → a ≡ true → b ≡ true → (a && b) ≡ true
both a b p q = ap (λ x. x && b) p ∙ q

pub legal_of : (p : Program) (s : State) (b : Board) (t : ℕ) → b ≡ s.board → ending_at b (Some t) ≡ None → first_thread p s ≡ Some t → is_legal p s t ≡ true
legal_of p s b t eb h first =
    both (may_step p s t) (nat_lt s.board.steps (2 ^ 24)) (first_may p s t first)
    (ap (λ (k : Board). nat_lt k.steps (2 ^ 24)) (sym eb) ∙ has_time b t h)

-- ---- one step more

serial-more : (p : Program) (s m : State) (ts : List ℕ) (t : ℕ) → seq_from p s ts ≡ Some m → IsSerial p s ts → first_thread p m ≡ Some t → IsSerial p s (ts ++ t ∷ [])
serial-more p s m [] t h serial first = (ap (first_thread p) (some_is h) ∙ first, tt)
serial-more p s m (u ∷ us) t h serial first =
    let r = legal_first (is_legal p s u) (seq_from p (step p s u) us) m h in
    (serial.0, serial-more p (step p s u) m us t r.1 serial.1 first)

module _ {H : Type 0} (pending : H → Option Ask) (stands : H → NextAsk → ℕ → List ℤ → List Answer → Type 0) where
  pub reached_more : (p : Program) (b c : Board) (hosts last : List H) (asks last_asks : List (Option Ask)) (order : List ℕ) (t : ℕ) → (r : Reached pending stands p b hosts asks order) → is_legal p r.state t ≡ true → first_thread p r.state ≡ Some t → Hold pending stands p c last last_asks (step p r.state t) → Reached pending stands p c last last_asks (order ++ t ∷ [])
  reached_more p b c hosts last asks last_asks order t r legal first hold = record {
    state = step p r.state t;
    legal = one_more_step p (start p) r.state order t r.legal legal;
    holds = hold;
    serial = serial-more p (start p) r.state order t r.legal r.serial first;
  }

  one : {A : Type 0} (x y : A) (t : ℕ) → slice_get (x ∷ []) t ≡ Some y → (t ≡ 0) × (x ≡ y)
  one x y zero e = (refl, some_is e)
  one x y (suc t) e = some_none (sym e)

  -- the beginning
  pub reached_start : (p : Program) (main : H) (b : Board) (hosts : List H) (asks : List (Option Ask)) → b ≡ opening → stands main p.next p.main [] [] → Seats pending stands main [] [] hosts asks → Reached pending stands p b hosts asks []
  reached_start p main b hosts asks eb at seats = record {
    state = start p;
    legal = refl;
    holds = record {
      board = eb;
      hosts_count = ap length seats.hosts_after ∙ sym (ap (λ (k : Board). length k.waits) eb);
      asks_count = ap length seats.asks_after ∙ sym (ap (λ (k : Board). length k.waits) eb);
      stand = λ u x here. stand_main u x (one (new_thread p.main []) x u here);
      kept = λ u ready. kept_main u (ap (λ (k : Board). ready_at (slice_get k.waits u)) (sym eb) ∙ ready);
    };
    serial = tt;
  }
    where
      asked : (stands seats.host p.next p.main [] []) × (seats.ask ≡ p.next p.main [] [])
      asked = seats.asked.next p.next p.main [] [] at

      stand_main : (u : ℕ) (x : Thread) → (u ≡ 0) × (new_thread p.main [] ≡ x) → StandsAt pending stands p.next hosts u x
      stand_main u x e =
          let first : StandsAt pending stands p.next hosts 0 (new_thread p.main []) = record { host = seats.host; here = ap (λ l. slice_get l 0) seats.hosts_after; at = asked.0; open_ask = seats.asked.open_ask ∙ ap Some asked.1 } in
          let P : ℕ → Type 0 = λ v. StandsAt pending stands p.next hosts v x in
          subst P (sym e.0) (subst (λ y. StandsAt pending stands p.next hosts 0 y) e.1 first)

      kept_main : (u : ℕ) → ready_at (slice_get (Ready ∷ []) u) ≡ true → slice_get asks u ≡ Some (Some (next_ask p (start p) u))
      kept_main zero h = ap (λ l. slice_get l 0) seats.asks_after ∙ ap (λ q. Some (Some q)) asked.1
      kept_main (suc u) h = false_true h
