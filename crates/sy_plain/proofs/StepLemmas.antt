-- What the parts of a step need of a board and hosts that stand for a state, and what they leave.
use Rattle.std.proofs.Common.{◌≡◌, ℕ, ◌+◌, ◌<◌, ◌^◌, ℤ, List, length, map, Option, Some, None, Bool, true, false, sym, ap, ◌∙◌, subst, arith, ◌⊎◌, inl, inr, add-one}
use Rattle.std.specs.Prelude.{slice_get, slice_set, ◌&&◌, nat_lt}
use Rattle.sy_work.specs.Programs.{Program, NextAsk, OutcomeOf}
use Rattle.sy_work.specs.declared.asks.Ask.{Ask}
use Rattle.sy_work.specs.declared.asks.Answer.{Answer}
use Rattle.sy_work.specs.declared.commands.Command.{Command}
use Rattle.sy_onecopy.specs.declared.Waits.TheVariants.{Due}
use Rattle.sy_onecopy.specs.State.{Board, State, next_ask}
use Rattle.sy_onecopy.specs.Step.{turn, step, once_heard}
use Rattle.sy_onecopy.specs.Sequence.{ready_at, may_step, is_legal, seq}
use Rattle.sy_onecopy.proofs.StepLemmas.{turn-steps}
use Rattle.sy_sound.specs.Sound.{IsSound}
use Rattle.sy_sound.proofs.SoundLemmas.{seq-sound}
use Rattle.sy_answers.specs.Fitting.{board_after, count_after}
use Rattle.sy_answers.proofs.RunLemmas.{counted, step_fits}
use Rattle.sy_answers.proofs.TurnLemmas.{legal_ready}
use Rattle.sy_sound.specs.Known.{AllKnown, IsKnown, Knows}
use Rattle.sy_sound.specs.Agree.{AgreeOn}
use Rattle.sy_sound.proofs.AgreeLemmas.{turn_alike}
use Rattle.sy_board.specs.Turns.{due_of}
use Rattle.sy_plain.specs.Hosts.{CanHear, AfterDue, Born, Alone}
use Rattle.sy_plain.specs.Runs.{StandsAt, Hold}
use Rattle.sy_plain.proofs.ListLemmas.{some_is, member}
use Rattle.sy_plain.proofs.HoldLemmas.{Between, alone_between, born_between, can_hear, hold_step, ask_at, ready_within}

and_right : (a b : Bool) → (a && b) ≡ true → b ≡ true
and_right true b h = h
and_right false b h = absurd (let z : ⊥ = cc in z)

nat_lt-true : (a b : ℕ) → nat_lt a b ≡ true → a < b
nat_lt-true a b e = grind arith

module _ {H : Type 0} (pending : H → Option Ask) (stands : H → NextAsk → ℕ → List ℤ → List Answer → Type 0) (p : Program) (order : List ℕ) (s : State) (t : ℕ) (b : Board) (hosts : List H) (asks : List (Option Ask)) (reached : seq p order ≡ Some s) (legal : is_legal p s t ≡ true) (hold : Hold pending stands p b hosts asks s) where
  ready : ready_at (slice_get s.board.waits t) ≡ true
  ready = legal_ready p s t legal

  -- the ask of thread t is noted
  pub noted : slice_get asks t ≡ Some (Some (next_ask p s t))
  noted = hold.kept t (ap (λ (k : Board). ready_at (slice_get k.waits t)) hold.board ∙ ready)

  pub ask_is : (q : Ask) → slice_get asks t ≡ Some (Some q) → q ≡ next_ask p s t
  ask_is q here = some_is (some_is (sym here ∙ noted))

  within : (k : ℕ) → k < length s.board.waits → k < length s.threads
  within k lt = omega (arith, lt, (counted p order s reached).members)

  waits_within : t < length s.board.waits
  waits_within = ready_within s.board.waits t ready

  -- its host has the ask open
  pub parent : (q : Ask) → slice_get asks t ≡ Some (Some q) → (h : H) × (slice_get hosts t ≡ Some h) × (pending h ≡ Some q)
  parent q here =
      let m = member s.threads t (within t waits_within) in
      let st : StandsAt pending stands p.next hosts t m.0 = hold.stand t m.0 m.1 in
      (st.host, st.here, st.open_ask ∙ ap Some (sym (ask_is q here ∙ ask_at p s t m.0 m.1)))

  pub sound : IsSound b
  sound = subst (λ (k : Board). IsSound k) (sym hold.board) (seq-sound p order s reached)

  pub time : b.steps < 2 ^ 24
  time = let e : nat_lt s.board.steps (2 ^ 24) ≡ true = and_right (may_step p s t) (nat_lt s.board.steps (2 ^ 24)) legal in
      nat_lt-true b.steps (2 ^ 24) (ap (λ (k : Board). nat_lt k.steps (2 ^ 24)) hold.board ∙ e)

  pub known : (knows : Command → Type 0) (q : Ask) → Knows knows p → slice_get asks t ≡ Some (Some q) → IsKnown knows q
  known knows q all here sub e = all order s t sub reached legal (sym (ask_is q here) ∙ e)

  between : (q : Ask) (h : H) (mid : List H) (mid_asks : List (Option Ask)) → slice_get asks t ≡ Some (Some q) → slice_get hosts t ≡ Some h → Born pending stands h q (length b.waits) hosts (slice_set asks t None) mid mid_asks ⊎ Alone q (length b.waits) hosts (slice_set asks t None) mid mid_asks → Between pending stands p s t hosts mid asks mid_asks
  between q h mid mid_asks here there (inl born) = born_between pending stands p s t b hosts asks hold (counted p order s reached) ready q h mid mid_asks (ask_is q here) there born
  between q h mid mid_asks here there (inr alone) = alone_between pending stands p s t b hosts asks hold (counted p order s reached) ready q mid mid_asks (ask_is q here) alone

  -- the same, where the number of threads and the asks after thread t's was taken are given
  pub between_of : (q : Ask) (h : H) (mid : List H) (taken mid_asks : List (Option Ask)) (count : ℕ) → taken ≡ slice_set asks t None → count ≡ length b.waits → slice_get asks t ≡ Some (Some q) → slice_get hosts t ≡ Some h → Born pending stands h q count hosts taken mid mid_asks ⊎ Alone q count hosts taken mid mid_asks → Between pending stands p s t hosts mid asks mid_asks
  between_of q h mid taken mid_asks count et en here there after =
      let P : ℕ → Type 0 = λ n. Born pending stands h q n hosts taken mid mid_asks ⊎ Alone q n hosts taken mid mid_asks in
      let Q : List (Option Ask) → Type 0 = λ l. Born pending stands h q (length b.waits) hosts l mid mid_asks ⊎ Alone q (length b.waits) hosts l mid mid_asks in
      between q h mid mid_asks here there (subst Q et (subst P en after))

  pub turned : (knows : Command → Type 0) (out : OutcomeOf) (q : Ask) (d : Board) → AgreeOn knows p.outcome out → AllKnown knows b.entries → IsKnown knows q → slice_get asks t ≡ Some (Some q) → d ≡ turn out b t q → d ≡ board_after p s t
  turned knows out q d agree all_known ask_known here ed =
      ed ∙ sym (turn_alike knows p.outcome out agree b t q sound time all_known ask_known) ∙ ap (turn p.outcome b t) (ask_is q here) ∙ ap (λ (k : Board). turn p.outcome k t (next_ask p s t)) hold.board

  module _ (mid : List H) (mid_asks : List (Option Ask)) (d : Board) (mids : Between pending stands p s t hosts mid asks mid_asks) (ed : d ≡ board_after p s t) where
    count_d : length d.waits ≡ count_after (next_ask p s t) (length s.threads)
    count_d = ap (λ (k : Board). length k.waits) ed ∙ (step_fits p order s t reached legal).count ∙ ap (count_after (next_ask p s t)) (sym (counted p order s reached).members)

    pub hosts_count : length mid ≡ length d.waits
    hosts_count = mids.hosts_count ∙ sym count_d

    pub asks_count : length mid_asks ≡ length d.waits
    asks_count = mids.asks_count ∙ sym count_d

    pub can : (u : ℕ) (a : Answer) → slice_get d.waits u ≡ Some (Due a) → CanHear pending mid u a
    can u a due = can_hear pending stands p s t b d hosts mid asks mid_asks hold (counted p order s reached) (step_fits p order s t reached legal) mids ed u a due

    pub held : (c : Board) (last : List H) (last_asks : List (Option Ask)) → c ≡ record d { waits = map once_heard d.waits } → length last ≡ length mid → length last_asks ≡ length mid_asks → ((u : ℕ) → AfterDue pending stands (due_of (slice_get d.waits u)) (slice_get mid u) (slice_get last u) (slice_get mid_asks u) (slice_get last_asks u)) → Hold pending stands p c last last_asks (step p s t)
    held c last last_asks ec same_hosts same_asks told = hold_step pending stands p order s t b d c hosts mid last asks mid_asks last_asks reached legal hold mids ed ec same_hosts same_asks told

-- a turn counts one step
pub turn_counts : (out : OutcomeOf) (b : Board) (t : ℕ) (q : Ask) → (turn out b t q).steps ≡ b.steps + 1
turn_counts out b t q = turn-steps out b t q ∙ sym (add-one b.steps)
