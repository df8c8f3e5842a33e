-- What a run knows at each turn of its loop.
use Rattle.std.proofs.Common.{◌≡◌, ℕ, ◌≤◌, ◌^◌, ℤ, List, [], ◌∷◌, ◌++◌, length, Option, Some, None, true, sym, ap, ◌∙◌, subst, arith}
use Rattle.std.specs.Prelude.{slice_get}
use Rattle.sy_work.specs.Programs.{Program, NextAsk, OutcomeOf}
use Rattle.sy_work.specs.declared.asks.Ask.{Ask}
use Rattle.sy_work.specs.declared.asks.Answer.{Answer}
use Rattle.sy_work.specs.declared.commands.Command.{Command}
use Rattle.sy_work.specs.declared.endings.Ending.{Ending}
use Rattle.sy_onecopy.specs.State.{Board, opening}
use Rattle.sy_onecopy.specs.Copies.{copies}
use Rattle.sy_onecopy.specs.Step.{step}
use Rattle.sy_onecopy.specs.Sequence.{first_thread, is_legal, ending_at, IsRun}
use Rattle.sy_sound.specs.Sound.{IsSound}
use Rattle.sy_sound.proofs.SoundLemmas.{seq-sound}
use Rattle.sy_sound.specs.Known.{AllKnown, Knows}
use Rattle.sy_sound.specs.Agree.{AgreeOn}
use Rattle.sy_plain.specs.Runs.{Hold, Reached, CanStep, least}
use Rattle.sy_plain.proofs.EndingLemmas.{first_is, ending_is, legal_of, reached_more}

module _ {H : Type 0} (pending : H → Option Ask) (stands : H → NextAsk → ℕ → List ℤ → List Answer → Type 0) (p : Program) (b : Board) (hosts : List H) (asks : List (Option Ask)) (order : List ℕ) (r : Reached pending stands p b hosts asks order) where
  pub sound_board : IsSound b
  sound_board = subst (λ (k : Board). IsSound k) (sym r.holds.board) (seq-sound p order r.state r.legal)

  -- the asks are few
  pub few : (xs : List (Option Ask)) → xs ≡ asks → length xs ≤ 2 ^ 32
  few xs e = omega (arith, ap length e, r.holds.asks_count, sound_board.counts.threads)

  first : (o : Option ℕ) (xs : List (Option Ask)) → xs ≡ asks → o ≡ least b 0 xs → o ≡ first_thread p r.state
  first o xs ex eo = eo ∙ ap (least b 0) ex ∙ first_is pending stands p b hosts asks r.state r.holds

  -- the run of an ending
  pub run_is : (o : Option ℕ) (xs : List (Option Ask)) (e : Ending) (output : List ℕ) (n : ℕ) → xs ≡ asks → o ≡ least b 0 xs → Some e ≡ ending_at b o → output ≡ b.output → n ≡ copies b.entries b.buffers → IsRun p order e output n
  run_is o xs e output n ex eo end eout en = record {
    state = r.state;
    legal = r.legal;
    ends = sym (end ∙ ending_is p r.state b o r.holds.board (first o xs ex eo));
    written = eout ∙ ap (λ (k : Board). k.output) r.holds.board;
    counted = en ∙ ap (λ (k : Board). copies k.entries k.buffers) r.holds.board;
  }

  -- the least thread may step where there is no ending
  pub legal_first : (t : ℕ) (xs : List (Option Ask)) → xs ≡ asks → Some t ≡ least b 0 xs → None ≡ ending_at b (Some t) → is_legal p r.state t ≡ true
  legal_first t xs ex et none = legal_of p r.state b t r.holds.board (sym none) (sym (first (Some t) xs ex et))

  pub can_step : (out : OutcomeOf) (knows : Command → Type 0) (t : ℕ) (xs : List (Option Ask)) → AgreeOn knows p.outcome out → Knows knows p → xs ≡ asks → Some t ≡ least b 0 xs → None ≡ ending_at b (Some t) → CanStep pending stands out knows b hosts asks t
  can_step out knows t xs eo all ex et none = record { program = p; outcome = eo; known = all; order = order; state = r.state; reached = r.legal; legal = legal_first t xs ex et none; holds = r.holds }

  pub more : (c : Board) (last : List H) (last_asks : List (Option Ask)) (new : List ℕ) (t : ℕ) (xs : List (Option Ask)) → xs ≡ asks → Some t ≡ least b 0 xs → None ≡ ending_at b (Some t) → new ≡ order ++ t ∷ [] → Hold pending stands p c last last_asks (step p r.state t) → Reached pending stands p c last last_asks new
  more c last last_asks new t xs ex et none en hold =
      subst (λ l. Reached pending stands p c last last_asks l) (sym en)
      (reached_more pending stands p b c hosts last asks last_asks order t r (legal_first t xs ex et none) (sym (first (Some t) xs ex et)) hold)

-- where nothing is submitted, every command is known
pub known_opening : (knows : Command → Type 0) (b : Board) → b ≡ opening → AllKnown knows b.entries
known_opening knows b eb k n q e c here is =
    let z : None ≡ Some e = ap (λ (x : Board). slice_get x.entries k) (sym eb) ∙ here in
    absurd (let w : ⊥ = cc in w)
