-- Programs whose outcomes agree on what they are given make the same steps.
use Rattle.std.proofs.Common.{◌≡◌, ℕ, zero, suc, ◌<◌, ◌^◌, List, [], ◌∷◌, length, Bool, true, false, Option, Some, None, refl, ap, ◌∙◌, subst}
use Rattle.std.specs.Prelude.{slice_get, if◌then◌else◌, ◌&&◌, nat_lt}
use Rattle.std.proofs.lemmas.Bool.{and_parts, ltb-true}
use Rattle.sy_work.specs.Programs.{Program, OutcomeOf}
use Rattle.sy_work.specs.declared.asks.Ask.{Ask}
use Rattle.sy_work.specs.declared.commands.Command.{Command}
use Rattle.sy_onecopy.specs.declared.Entry.{Entry}
use Rattle.sy_onecopy.specs.declared.Work.{Work}
use Rattle.sy_onecopy.specs.declared.Work.TheVariants.{Node, Access, End}
use Rattle.sy_onecopy.specs.State.{Board, State, opening, start, new_thread, next_ask}
use Rattle.sy_onecopy.specs.Before.{is_free}
use Rattle.sy_onecopy.specs.Outcome.{inputs}
use Rattle.sy_onecopy.specs.Settle.{took, effect, settle_entry, settle_one, settle_upto}
use Rattle.sy_onecopy.specs.Step.{apply, begin_ask, give_all, turn, after_turn, step}
use Rattle.std.proofs.lemmas.Option.{same_Some}
use Rattle.std.specs.Prelude.{◌++◌}
use Rattle.sy_onecopy.proofs.RunLemmas.{legal_first, one_more_step}
use Rattle.sy_onecopy.specs.Sequence.{goes_on, ready_at, is_clear, may_step, is_legal, seq_from, seq}
use Rattle.sy_sound.specs.Sound.{IsSound}
use Rattle.sy_sound.specs.Known.{AllKnown, IsKnown, Knows}
use Rattle.sy_sound.specs.Agree.{AgreeOn, AskAlike}
use Rattle.sy_sound.proofs.InputLemmas.{node_fits}
use Rattle.sy_sound.proofs.SoundLemmas.{settle_upto-sound, asked-sound, step-sound, opening-sound}
use Rattle.sy_sound.proofs.KnownLemmas.{known_upto, known_asked, known_turn}

chosen : (v : Bool) (b c d : Board) → b ≡ c → (if v then b else d) ≡ (if v then c else d)
chosen true b c d e = e
chosen false b c d e = refl

module _ (K : Command → Type 0) (f g : OutcomeOf) (agree : AgreeOn K f g) where
  effect_alike : (b : Board) (k : ℕ) (e : Entry) (w : Work) → IsSound b → AllKnown K b.entries → slice_get b.entries k ≡ Some e → e.work ≡ w → effect f b k e w ≡ effect g b k e w
  unfolding effect
  effect_alike b k e (Node n q c) s known here is = ap (took b k e.needs) (agree c (inputs b.buffers e.needs) (known k n q e c here is) (node_fits b k n q e c s here is))
  effect_alike b k e (Access t i) s known here is = refl
  effect_alike b k e (End t r) s known here is = refl

  entry_alike : (b : Board) (k : ℕ) (o : Option Entry) → IsSound b → AllKnown K b.entries → slice_get b.entries k ≡ o → settle_entry f b k o ≡ settle_entry g b k o
  unfolding settle_entry
  entry_alike b k None s known here = refl
  entry_alike b k (Some e) s known here = chosen (is_free b.entries k e) (effect f b k e e.work) (effect g b k e e.work) b (effect_alike b k e e.work s known here refl)

  upto_alike : (b : Board) (n : ℕ) → IsSound b → AllKnown K b.entries → settle_upto f b n ≡ settle_upto g b n
  upto_alike b zero s known = refl
  upto_alike b (suc n) s known =
      let c = settle_upto f b n in
      entry_alike c n (slice_get c.entries n) (settle_upto-sound f b n s) (known_upto K f b n known) refl
      ∙ ap (settle_one g n) (upto_alike b n s known)

  -- a turn does the same with either
  pub turn_alike : (b : Board) (t : ℕ) (q : Ask) → IsSound b → b.steps < 2 ^ 24 → AllKnown K b.entries → IsKnown K q → turn f b t q ≡ turn g b t q
  unfolding turn
  turn_alike b t q s lt known asked =
      let a = apply (begin_ask b t) t q in
      ap give_all (upto_alike a (length a.entries) (asked-sound b t q s lt) (known_asked K b t q asked known))

in_time : (p : Program) (s : State) (t : ℕ) → is_legal p s t ≡ true → s.board.steps < 2 ^ 24
in_time p s t l = ltb-true s.board.steps (2 ^ 24) (and_parts (may_step p s t) (nat_lt s.board.steps (2 ^ 24)) l).1

module _ (K : Command → Type 0) (p q : Program) (agree : AgreeOn K q.outcome p.outcome) where
  legal_alike : (s : State) (t : ℕ) → next_ask q s t ≡ next_ask p s t → is_legal q s t ≡ is_legal p s t
  unfolding may_step
  legal_alike s t e = ap (λ a. (goes_on s.board && (ready_at (slice_get s.board.waits t) && is_clear s.board a)) && nat_lt s.board.steps (2 ^ 24)) e

  step_alike : (s : State) (t : ℕ) → IsSound s.board → s.board.steps < 2 ^ 24 → AllKnown K s.board.entries → next_ask q s t ≡ next_ask p s t → IsKnown K (next_ask p s t) → step q s t ≡ step p s t
  unfolding step
  step_alike s t sound lt known e k =
      ap (λ a. after_turn s.threads a (turn q.outcome s.board t a)) e
      ∙ ap (after_turn s.threads (next_ask p s t)) (turn_alike K q.outcome p.outcome agree s.board t (next_ask p s t) sound lt known k)

  known_step : (s : State) (t : ℕ) → AllKnown K s.board.entries → IsKnown K (next_ask p s t) → AllKnown K (step p s t).board.entries
  unfolding step
  known_step s t known k = known_turn K p.outcome s.board t (next_ask p s t) k known

  chosen_alike : (s : State) (t : ℕ) (ts : List ℕ) (v : Bool) → is_legal p s t ≡ v → IsSound s.board → AllKnown K s.board.entries → next_ask q s t ≡ next_ask p s t → IsKnown K (next_ask p s t) → (IsSound (step p s t).board → AllKnown K (step p s t).board.entries → seq_from q (step p s t) ts ≡ seq_from p (step p s t) ts) → (if v then seq_from q (step q s t) ts else None) ≡ (if v then seq_from p (step p s t) ts else None)
  chosen_alike s t ts true l sound known e k more =
      let lt = in_time p s t l in
      ap (λ r. seq_from q r ts) (step_alike s t sound lt known e k) ∙ more (step-sound p s t sound lt) (known_step s t known k)
  chosen_alike s t ts false l sound known e k more = refl

  from_alike : (s : State) (order : List ℕ) → IsSound s.board → AllKnown K s.board.entries → AskAlike K p q s order → seq_from q s order ≡ seq_from p s order
  from_alike s [] sound known asks = refl
  from_alike s (t ∷ ts) sound known asks =
      ap (λ v. if v then seq_from q (step q s t) ts else None) (legal_alike s t asks.0)
      ∙ chosen_alike s t ts (is_legal p s t) refl sound known asks.0 asks.1 (λ i j. from_alike (step p s t) ts i j asks.2)

  none_known : AllKnown K []
  none_known k n m e c here is = absurd (let z : ⊥ = cc in z)

  pub seq_alike : (order : List ℕ) → q.main ≡ p.main → AskAlike K p q (start p) order → seq q order ≡ seq p order
  seq_alike order e asks =
      ap (λ m. seq_from q (record { board = opening; threads = new_thread m [] ∷ [] }) order) e
      ∙ from_alike (start p) order opening-sound none_known asks

-- ---- what a run submits is known

module _ (K : Command → Type 0) (p : Program) (all : Knows K p) where
  known_from : (done : List ℕ) (s r : State) (ts : List ℕ) → seq p done ≡ Some s → AllKnown K s.board.entries → seq_from p s ts ≡ Some r → AllKnown K r.board.entries
  known_from done s r [] reached known h = subst (λ (x : State). AllKnown K x.board.entries) (same_Some s r h) known
  known_from done s r (t ∷ ts) reached known h =
      let l = legal_first (is_legal p s t) (seq_from p (step p s t) ts) r h in
      known_from (done ++ t ∷ []) (step p s t) r ts (one_more_step p (start p) s done t reached l.0)
      (known_step K p p (λ c inputs k fit. refl) s t known (λ m is. all done s t m reached l.0 is)) l.1

  pub known_run : (order : List ℕ) (s : State) → seq p order ≡ Some s → AllKnown K s.board.entries
  known_run order s h = known_from [] (start p) s order refl (λ k n m e c here is. absurd (let z : ⊥ = cc in z)) h
