-- A step of the run keeps what hosts and board stand for.
use Rattle.std.proofs.Common.{◌≡◌, ◌≢◌, ℕ, zero, suc, ◌<◌, ◌≤◌, ℤ, List, [], ◌∷◌, ◌++◌, length, map, Option, Some, None, Bool, true, false, refl, sym, ap, ◌∙◌, subst, arith, ◌⊎◌, inl, inr}
use Rattle.std.specs.Prelude.{slice_get, slice_set, option_map, if◌then◌else◌, nat_lt}
use Rattle.std.proofs.lemmas.List.{append-nil, length-map}
use Rattle.std.proofs.lemmas.Option.{slice_get_within, slice_get-map}
use Rattle.sy_work.specs.Programs.{Program, NextAsk}
use Rattle.sy_work.specs.declared.asks.Ask.{Ask}
use Rattle.sy_work.specs.declared.asks.Ask.TheVariants.{Spawn}
use Rattle.sy_work.specs.declared.asks.Answer.{Answer}
use Rattle.sy_onecopy.specs.declared.Waits.{Waits}
use Rattle.sy_onecopy.specs.declared.Waits.TheVariants.{Ready, Due, OnEntry, OnNode, OnQueue, OnThread, Never, Finished}
use Rattle.sy_onecopy.specs.State.{Board, Thread, State, new_thread, next_ask, ask_of, ask_by}
use Rattle.sy_onecopy.specs.Step.{step, once_heard}
use Rattle.sy_onecopy.specs.Sequence.{ready_at, is_legal, seq}
use Rattle.sy_answers.specs.Fitting.{StepFits, Counted, board_after, count_after, due_at}
use Rattle.sy_answers.proofs.RunLemmas.{counted, step_fits, all_told, all_started, all_counted}
use Rattle.sy_board.specs.Turns.{due_of}
use Rattle.sy_plain.specs.Hosts.{CanHear, Told, AfterDue, Born, Alone}
use Rattle.sy_plain.specs.Runs.{StandsAt, Hold}
use Rattle.sy_plain.proofs.ListLemmas.{set_other, length-set, push_before, push_last, length-push, some_is, member}

-- ---- what a wait tells

-- no answer is due, or one is
due_or_not : (w : Option Waits) → ((due_of w ≡ None) × (due_at w ≡ [])) ⊎ ((a : Answer) × (due_of w ≡ Some a) × (due_at w ≡ a ∷ []))
due_or_not None = inl (refl, refl)
due_or_not (Some Ready) = inl (refl, refl)
due_or_not (Some (Due a)) = inr (a, refl, refl)
due_or_not (Some OnEntry) = inl (refl, refl)
due_or_not (Some (OnNode n)) = inl (refl, refl)
due_or_not (Some (OnQueue q n)) = inl (refl, refl)
due_or_not (Some (OnThread u)) = inl (refl, refl)
due_or_not (Some Never) = inl (refl, refl)
due_or_not (Some (Finished v)) = inl (refl, refl)

false_true : {A : Type 0} → false ≡ true → A
false_true e = absurd (let z : ⊥ = cc in z)

ready_undue : (w : Option Waits) → ready_at w ≡ true → (due_of w ≡ None) × (due_at w ≡ [])
ready_undue None h = false_true h
ready_undue (Some Ready) h = (refl, refl)
ready_undue (Some (Due a)) h = false_true h
ready_undue (Some OnEntry) h = false_true h
ready_undue (Some (OnNode n)) h = false_true h
ready_undue (Some (OnQueue q n)) h = false_true h
ready_undue (Some (OnThread u)) h = false_true h
ready_undue (Some Never) h = false_true h
ready_undue (Some (Finished v)) h = false_true h

-- a thread that is ready in the end was so, or has heard its answer
ready_or_due : (w : Option Waits) → ready_at (option_map once_heard w) ≡ true → (ready_at w ≡ true) ⊎ ((a : Answer) × (w ≡ Some (Due a)))
ready_or_due None h = false_true h
ready_or_due (Some Ready) h = inl refl
ready_or_due (Some (Due a)) h = inr (a, refl)
ready_or_due (Some OnEntry) h = false_true h
ready_or_due (Some (OnNode n)) h = false_true h
ready_or_due (Some (OnQueue q n)) h = false_true h
ready_or_due (Some (OnThread u)) h = false_true h
ready_or_due (Some Never) h = false_true h
ready_or_due (Some (Finished v)) h = false_true h

not_ready_due : (w : Option Waits) (a : Answer) → w ≡ Some (Due a) → ready_at w ≡ true → ⊥
not_ready_due w a e h = false_true (sym (ap ready_at e) ∙ h)

pub ready_within : (ws : List Waits) (u : ℕ) → ready_at (slice_get ws u) ≡ true → u < length ws
ready_within [] u h = false_true h
ready_within (w ∷ ws) zero h = omega arith
ready_within (w ∷ ws) (suc u) h = omega (arith, ready_within ws u h)

below_or_not : (a b : ℕ) → (a < b) ⊎ (b ≤ a)
below_or_not a b = grind arith

-- ---- the thread that a spawn adds

-- the ask starts a thread where there are n
pub record Spawns (ask : Ask) (n : ℕ) : Type 0 where
  pub body : ℕ
  pub captures : List ℤ
  pub is : ask ≡ Spawn body captures
  pub room : n < 64
  pub more : count_after ask n ≡ suc n

nat_lt-true : (a b : ℕ) → nat_lt a b ≡ true → a < b
nat_lt-true a b e = grind arith

spawns_if : (v : Bool) (n : ℕ) → n < (if v then suc n else n) → v ≡ true
spawns_if true n lt = refl
spawns_if false n lt = absurd (omega (arith, lt))

grows_by_spawn : (ask : Ask) (n : ℕ) → n < count_after ask n → Spawns ask n
grows_by_spawn (Spawn body captures) n lt =
    let v : nat_lt n 64 ≡ true = spawns_if (nat_lt n 64) n lt in
    record { body = body; captures = captures; is = refl; room = nat_lt-true n 64 v; more = ap (λ x. if x then suc n else n) v }
grows_by_spawn ask n lt = absurd (omega (arith, lt))

-- ---- the board after a step

step-board : (p : Program) (s : State) (t : ℕ) (d : Board) → d ≡ board_after p s t → record d { waits = map once_heard d.waits } ≡ (step p s t).board
unfolding step
step-board p s t d e = ap (λ (k : Board). record k { waits = map once_heard k.waits }) e

-- what a thread asks next, where the thread is known
pub ask_at : (p : Program) (s : State) (u : ℕ) (x : Thread) → slice_get s.threads u ≡ Some x → next_ask p s u ≡ ask_of p.next x
ask_at p s u x here = ap (ask_by p.next) here

module _ {H : Type 0} (pending : H → Option Ask) (stands : H → NextAsk → ℕ → List ℤ → List Answer → Type 0) where
  -- hosts and asks once thread t's ask is taken and the host that it starts is added
  pub record Between (p : Program) (s : State) (t : ℕ) (hosts mid : List H) (asks mid_asks : List (Option Ask)) : Type 0 where
    pub hosts_count : length mid ≡ count_after (next_ask p s t) (length s.threads)
    pub asks_count : length mid_asks ≡ count_after (next_ask p s t) (length s.threads)
    pub kept_hosts : (u : ℕ) → u < length s.threads → slice_get mid u ≡ slice_get hosts u
    pub kept_asks : (u : ℕ) → u < length s.threads → u ≢ t → slice_get mid_asks u ≡ slice_get asks u
    pub child : (w : Spawns (next_ask p s t) (length s.threads)) → StandsAt pending stands p.next mid (length s.threads) (new_thread w.body w.captures) × (slice_get mid_asks (length s.threads) ≡ Some (Some (p.next w.body w.captures [])))

  module _ (p : Program) (s : State) (t : ℕ) (b : Board) (hosts : List H) (asks : List (Option Ask)) (hold : Hold pending stands p b hosts asks s) (sized : Counted s) (legal : ready_at (slice_get s.board.waits t) ≡ true) where
    count_waits : length b.waits ≡ length s.threads
    count_waits = ap (λ (k : Board). length k.waits) hold.board ∙ sym sized.members

    -- the host of a thread that is there
    pub stands_here : (u : ℕ) → u < length s.threads → (x : Thread) × (slice_get s.threads u ≡ Some x) × StandsAt pending stands p.next hosts u x
    stands_here u lt = let m = member s.threads u lt in (m.0, m.1, hold.stand u m.0 m.1)

    pub alone_between : (q : Ask) (mid : List H) (mid_asks : List (Option Ask)) → q ≡ next_ask p s t → Alone q (length b.waits) hosts (slice_set asks t None) mid mid_asks → Between p s t hosts mid asks mid_asks
    alone_between q mid mid_asks eq a = record {
      hosts_count = ap length a.same_hosts ∙ hold.hosts_count ∙ count_waits ∙ same_count;
      asks_count = ap length a.same_asks ∙ length-set asks t None ∙ hold.asks_count ∙ count_waits ∙ same_count;
      kept_hosts = λ u lt. ap (λ l. slice_get l u) a.same_hosts;
      kept_asks = λ u lt ne. ap (λ l. slice_get l u) a.same_asks ∙ set_other asks t u None ne;
      child = λ w. absurd (omega (arith, w.more, same_count));
    }
      where
        same_count : length s.threads ≡ count_after (next_ask p s t) (length s.threads)
        same_count = sym (ap (λ k. count_after k (length s.threads)) (sym eq) ∙ ap (count_after q) (sym count_waits) ∙ a.none ∙ count_waits)

    pub born_between : (q : Ask) (parent : H) (mid : List H) (mid_asks : List (Option Ask)) → q ≡ next_ask p s t → slice_get hosts t ≡ Some parent → Born pending stands parent q (length b.waits) hosts (slice_set asks t None) mid mid_asks → Between p s t hosts mid asks mid_asks
    born_between q parent mid mid_asks eq here a = record {
      hosts_count = ap length a.seats.hosts_after ∙ length-push hosts a.seats.host ∙ ap suc (hold.hosts_count ∙ count_waits) ∙ more_count;
      asks_count = ap length a.seats.asks_after ∙ length-push (slice_set asks t None) (Some a.seats.ask) ∙ ap suc (length-set asks t None ∙ hold.asks_count ∙ count_waits) ∙ more_count;
      kept_hosts = λ u lt. ap (λ l. slice_get l u) a.seats.hosts_after ∙ push_before hosts a.seats.host u (omega (arith, lt, hold.hosts_count, count_waits));
      kept_asks = λ u lt ne. ap (λ l. slice_get l u) a.seats.asks_after ∙ push_before (slice_set asks t None) (Some a.seats.ask) u (omega (arith, lt, length-set asks t None, hold.asks_count, count_waits)) ∙ set_other asks t u None ne;
      child = λ w. (stand w, noted w);
    }
      where
        more_count : suc (length s.threads) ≡ count_after (next_ask p s t) (length s.threads)
        more_count = sym (ap (λ k. count_after k (length s.threads)) (sym eq) ∙ ap (count_after q) (sym count_waits) ∙ a.child.grows ∙ ap suc count_waits)

        lt : t < length s.threads
        lt = omega (arith, ready_within s.board.waits t legal, sized.members)

        at_parent : (x : Thread) → slice_get s.threads t ≡ Some x → StandsAt pending stands p.next hosts t x → stands parent p.next x.body x.captures x.answers
        at_parent x ex st = let same : st.host ≡ parent = some_is (sym st.here ∙ here) in subst (λ h. stands h p.next x.body x.captures x.answers) same st.at

        begun_child : stands a.start p.next a.child.body a.child.captures []
        begun_child = let m = stands_here t lt in a.child.begins p.next m.0.body m.0.captures m.0.answers (at_parent m.0 m.1 m.2)

        same_ask : (w : Spawns (next_ask p s t) (length s.threads)) → Spawn a.child.body a.child.captures ≡ Spawn w.body w.captures
        same_ask w = sym a.child.asked ∙ eq ∙ w.is

        same_body : (w : Spawns (next_ask p s t) (length s.threads)) → a.child.body ≡ w.body
        same_body w = let e = same_ask w in cc

        same_captures : (w : Spawns (next_ask p s t) (length s.threads)) → a.child.captures ≡ w.captures
        same_captures w = let e = same_ask w in cc

        at_child : (w : Spawns (next_ask p s t) (length s.threads)) → (stands a.seats.host p.next w.body w.captures []) × (a.seats.ask ≡ p.next w.body w.captures [])
        at_child w =
            let P : ℕ → Type 0 = λ body. (stands a.seats.host p.next body w.captures []) × (a.seats.ask ≡ p.next body w.captures []) in
            let Q : List ℤ → Type 0 = λ cs. (stands a.seats.host p.next a.child.body cs []) × (a.seats.ask ≡ p.next a.child.body cs []) in
            subst P (same_body w) (subst Q (same_captures w) (a.seats.asked.next p.next a.child.body a.child.captures [] begun_child))

        stand : (w : Spawns (next_ask p s t) (length s.threads)) → StandsAt pending stands p.next mid (length s.threads) (new_thread w.body w.captures)
        stand w = record {
          host = a.seats.host;
          here = ap (λ l. slice_get l (length s.threads)) a.seats.hosts_after ∙ push_last hosts a.seats.host (length s.threads) (sym (hold.hosts_count ∙ count_waits));
          at = (at_child w).0;
          open_ask = a.seats.asked.open_ask ∙ ap Some (at_child w).1;
        }

        noted : (w : Spawns (next_ask p s t) (length s.threads)) → slice_get mid_asks (length s.threads) ≡ Some (Some (p.next w.body w.captures []))
        noted w =
            ap (λ l. slice_get l (length s.threads)) a.seats.asks_after
            ∙ push_last (slice_set asks t None) (Some a.seats.ask) (length s.threads) (sym (length-set asks t None ∙ hold.asks_count ∙ count_waits))
            ∙ ap (λ q. Some (Some q)) (at_child w).1

  -- the answers of the step fit the open asks of their hosts
  pub can_hear : (p : Program) (s : State) (t : ℕ) (b d : Board) (hosts mid : List H) (asks mid_asks : List (Option Ask)) → Hold pending stands p b hosts asks s → Counted s → StepFits p s t → Between p s t hosts mid asks mid_asks → d ≡ board_after p s t → (u : ℕ) (a : Answer) → slice_get d.waits u ≡ Some (Due a) → CanHear pending mid u a
  can_hear p s t b d hosts mid asks mid_asks hold sized fit mids ed u a due = record {
    host = st.host;
    here = mids.kept_hosts u within ∙ st.here;
    ask = next_ask p s u;
    open_ask = st.open_ask ∙ ap Some (sym (ask_at p s u m.0 m.1));
    fits = fit.fits u a here;
  }
    where
      here : slice_get (board_after p s t).waits u ≡ Some (Due a)
      here = ap (λ (k : Board). slice_get k.waits u) (sym ed) ∙ due

      not_new : length s.board.waits ≤ u → ⊥
      not_new le = not_ready_due _ a here (fit.fresh u le (slice_get_within _ u (Due a) here))

      within : u < length s.threads
      within = elim (below_or_not u (length s.threads)) [ inl lt ↦ lt | inr le ↦ absurd (not_new (omega (arith, le, sized.members))) ]

      m : (x : Thread) × (slice_get s.threads u ≡ Some x)
      m = member s.threads u within

      st : StandsAt pending stands p.next hosts u m.0
      st = hold.stand u m.0 m.1

  -- a thread that may have heard an answer
  heard_stand : (next : NextAsk) (w : Option Waits) (mid last : List H) (mid_asks last_asks : List (Option Ask)) (u : ℕ) (x : Thread) → StandsAt pending stands next mid u x → AfterDue pending stands (due_of w) (slice_get mid u) (slice_get last u) (slice_get mid_asks u) (slice_get last_asks u) → StandsAt pending stands next last u (record x { answers = x.answers ++ due_at w })
  heard_stand next w mid last mid_asks last_asks u x st after = elim (due_or_not w) [ inl none ↦ as_was none.0 none.1 | inr one ↦ heard one.0 one.1 one.2 ]
    where
      as_was : due_of w ≡ None → due_at w ≡ [] → StandsAt pending stands next last u (record x { answers = x.answers ++ due_at w })
      as_was e f =
          let P : Option Answer → Type 0 = λ o. AfterDue pending stands o (slice_get mid u) (slice_get last u) (slice_get mid_asks u) (slice_get last_asks u) in
          let same : (slice_get last u ≡ slice_get mid u) × (slice_get last_asks u ≡ slice_get mid_asks u) = subst P e after in
          let still : StandsAt pending stands next last u x = record { host = st.host; here = same.0 ∙ st.here; at = st.at; open_ask = st.open_ask } in
          let Q : List Answer → Type 0 = λ l. StandsAt pending stands next last u (record x { answers = l }) in
          subst Q (sym (ap (λ l. x.answers ++ l) f ∙ append-nil x.answers)) still

      heard : (a : Answer) → due_of w ≡ Some a → due_at w ≡ a ∷ [] → StandsAt pending stands next last u (record x { answers = x.answers ++ due_at w })
      heard a e f =
          let P : Option Answer → Type 0 = λ o. AfterDue pending stands o (slice_get mid u) (slice_get last u) (slice_get mid_asks u) (slice_get last_asks u) in
          let told : Told pending stands (slice_get mid u) (slice_get last u) a (slice_get last_asks u) = subst P e after in
          let same : st.host ≡ told.before = some_is (sym st.here ∙ told.was) in
          let both = told.heard.next next x.body x.captures x.answers (subst (λ h. stands h next x.body x.captures x.answers) same st.at) in
          let Q : List Answer → Type 0 = λ l. StandsAt pending stands next last u (record x { answers = l }) in
          subst Q (sym (ap (λ l. x.answers ++ l) f)) (record { host = told.after; here = told.is; at = both.0; open_ask = told.heard.open_ask ∙ ap Some both.1 })

  -- the ask that is noted of a thread that heard an answer
  heard_ask : (next : NextAsk) (a : Answer) (mid last : List H) (asked : Option (Option Ask)) (u : ℕ) (x : Thread) → StandsAt pending stands next mid u x → Told pending stands (slice_get mid u) (slice_get last u) a asked → asked ≡ Some (Some (next x.body x.captures (x.answers ++ a ∷ [])))
  heard_ask next a mid last asked u x st told =
      let same : st.host ≡ told.before = some_is (sym st.here ∙ told.was) in
      let both = told.heard.next next x.body x.captures x.answers (subst (λ h. stands h next x.body x.captures x.answers) same st.at) in
      told.noted ∙ ap (λ q. Some (Some q)) both.1

  -- the host, the asks, the board and the state after a step
  module _ (p : Program) (order : List ℕ) (s : State) (t : ℕ) (b d c : Board) (hosts mid last : List H) (asks mid_asks last_asks : List (Option Ask)) (reached : seq p order ≡ Some s) (legal : is_legal p s t ≡ true) (hold : Hold pending stands p b hosts asks s) (mids : Between p s t hosts mid asks mid_asks) (ed : d ≡ board_after p s t) (ec : c ≡ record d { waits = map once_heard d.waits }) (same_hosts : length last ≡ length mid) (same_asks : length last_asks ≡ length mid_asks) (told : (u : ℕ) → AfterDue pending stands (due_of (slice_get d.waits u)) (slice_get mid u) (slice_get last u) (slice_get mid_asks u) (slice_get last_asks u)) where
    sized : Counted s
    sized = counted p order s reached

    fit : StepFits p s t
    fit = step_fits p order s t reached legal

    told_after : (u : ℕ) → AfterDue pending stands (due_of (slice_get (board_after p s t).waits u)) (slice_get mid u) (slice_get last u) (slice_get mid_asks u) (slice_get last_asks u)
    told_after u = subst (λ (k : Board). AfterDue pending stands (due_of (slice_get k.waits u)) (slice_get mid u) (slice_get last u) (slice_get mid_asks u) (slice_get last_asks u)) ed (told u)

    -- what is noted of a thread to which no answer is due
    unheard : (u : ℕ) → due_of (slice_get (board_after p s t).waits u) ≡ None → (slice_get last u ≡ slice_get mid u) × (slice_get last_asks u ≡ slice_get mid_asks u)
    unheard u e = let P : Option Answer → Type 0 = λ o. AfterDue pending stands o (slice_get mid u) (slice_get last u) (slice_get mid_asks u) (slice_get last_asks u) in subst P e (told_after u)

    count_after_waits : length (board_after p s t).waits ≡ count_after (next_ask p s t) (length s.threads)
    count_after_waits = fit.count ∙ ap (count_after (next_ask p s t)) (sym sized.members)

    -- a thread that was there
    mid_stands : (u : ℕ) (x : Thread) → slice_get s.threads u ≡ Some x → StandsAt pending stands p.next mid u x
    mid_stands u x here = let st = hold.stand u x here in record { host = st.host; here = mids.kept_hosts u (slice_get_within s.threads u x here) ∙ st.here; at = st.at; open_ask = st.open_ask }

    old_stands : (u : ℕ) (x y : Thread) → slice_get s.threads u ≡ Some x → slice_get (step p s t).threads u ≡ Some y → StandsAt pending stands p.next last u y
    old_stands u x y here there =
        let same : record x { answers = x.answers ++ due_at (slice_get (board_after p s t).waits u) } ≡ y = some_is (sym (all_told p order s t u x reached legal here) ∙ there) in
        subst (λ z. StandsAt pending stands p.next last u z) same (heard_stand p.next (slice_get (board_after p s t).waits u) mid last mid_asks last_asks u x (mid_stands u x here) (told_after u))

    -- the thread that the step starts
    fresh_undue : (u : ℕ) → length s.threads ≤ u → u < count_after (next_ask p s t) (length s.threads) → due_of (slice_get (board_after p s t).waits u) ≡ None
    fresh_undue u le lt = (ready_undue _ (fit.fresh u (omega (arith, le, sized.members)) (omega (arith, lt, count_after_waits)))).0

    new_stands : (u : ℕ) (y : Thread) → length s.threads ≤ u → slice_get (step p s t).threads u ≡ Some y → StandsAt pending stands p.next last u y
    new_stands u y le there =
        let lt : u < count_after (next_ask p s t) (length s.threads) = omega (arith, slice_get_within (step p s t).threads u y there, all_counted p order s t reached legal) in
        let w = grows_by_spawn (next_ask p s t) (length s.threads) (omega (arith, le, lt)) in
        let eu : u ≡ length s.threads = omega (arith, le, lt, w.more) in
        let started : slice_get (step p s t).threads (length s.threads) ≡ Some (new_thread w.body w.captures) = all_started p order s t w.body w.captures reached legal w.is w.room in
        let same : new_thread w.body w.captures ≡ y = some_is (sym started ∙ ap (slice_get (step p s t).threads) (sym eu) ∙ there) in
        let st = (mids.child w).0 in
        let none = unheard (length s.threads) (fresh_undue (length s.threads) (omega arith) (omega (arith, w.more))) in
        let P : ℕ → Type 0 = λ v. StandsAt pending stands p.next last v y in
        subst P (sym eu) (subst (λ z. StandsAt pending stands p.next last (length s.threads) z) same (record { host = st.host; here = none.0 ∙ st.here; at = st.at; open_ask = st.open_ask }))

    stands_after : (u : ℕ) (y : Thread) → slice_get (step p s t).threads u ≡ Some y → StandsAt pending stands p.next last u y
    stands_after u y there = elim (below_or_not u (length s.threads)) [ inl lt ↦ (let m = member s.threads u lt in old_stands u m.0 y m.1 there) | inr le ↦ new_stands u y le there ]

    -- the next ask of a thread after the step
    next_after : (u : ℕ) (x : Thread) → slice_get s.threads u ≡ Some x → next_ask p (step p s t) u ≡ p.next x.body x.captures (x.answers ++ due_at (slice_get (board_after p s t).waits u))
    next_after u x here = ask_at p (step p s t) u _ (all_told p order s t u x reached legal here)

    old_ready : (u : ℕ) → u ≢ t → ready_at (slice_get s.board.waits u) ≡ true → ready_at (slice_get (board_after p s t).waits u) ≡ true → slice_get last_asks u ≡ Some (Some (next_ask p (step p s t) u))
    old_ready u ne was now =
        let lt : u < length s.threads = omega (arith, ready_within s.board.waits u was, sized.members) in
        let m = member s.threads u lt in
        let quiet = ready_undue (slice_get (board_after p s t).waits u) now in
        let same : next_ask p (step p s t) u ≡ next_ask p s u = next_after u m.0 m.1 ∙ ap (λ l. p.next m.0.body m.0.captures (m.0.answers ++ l)) quiet.1 ∙ ap (p.next m.0.body m.0.captures) (append-nil m.0.answers) ∙ sym (ask_at p s u m.0 m.1) in
        (unheard u quiet.0).1 ∙ mids.kept_asks u lt ne ∙ hold.kept u (ap (λ (k : Board). ready_at (slice_get k.waits u)) hold.board ∙ was) ∙ ap (λ q. Some (Some q)) (sym same)

    new_ready : (u : ℕ) → u ≡ length s.board.waits → ready_at (slice_get (board_after p s t).waits u) ≡ true → slice_get last_asks u ≡ Some (Some (next_ask p (step p s t) u))
    new_ready u eu now =
        let lt : u < count_after (next_ask p s t) (length s.threads) = omega (arith, ready_within (board_after p s t).waits u now, count_after_waits) in
        let en : u ≡ length s.threads = eu ∙ sym sized.members in
        let w = grows_by_spawn (next_ask p s t) (length s.threads) (omega (arith, lt, en)) in
        let started : slice_get (step p s t).threads u ≡ Some (new_thread w.body w.captures) = ap (slice_get (step p s t).threads) en ∙ all_started p order s t w.body w.captures reached legal w.is w.room in
        (unheard u (ready_undue _ now).0).1 ∙ ap (slice_get mid_asks) en ∙ (mids.child w).1 ∙ ap (λ q. Some (Some q)) (sym (ask_at p (step p s t) u _ started))

    due_ready : (u : ℕ) (a : Answer) → slice_get (board_after p s t).waits u ≡ Some (Due a) → slice_get last_asks u ≡ Some (Some (next_ask p (step p s t) u))
    due_ready u a due = elim (below_or_not u (length s.threads)) [ inl lt ↦ here lt | inr le ↦ absurd (not_ready_due _ a due (fit.fresh u (omega (arith, le, sized.members)) (slice_get_within _ u (Due a) due))) ]
      where
        here : u < length s.threads → slice_get last_asks u ≡ Some (Some (next_ask p (step p s t) u))
        here lt =
            let m = member s.threads u lt in
            let P : Option Waits → Type 0 = λ w. AfterDue pending stands (due_of w) (slice_get mid u) (slice_get last u) (slice_get mid_asks u) (slice_get last_asks u) in
            let heard : Told pending stands (slice_get mid u) (slice_get last u) a (slice_get last_asks u) = subst P due (told_after u) in
            heard_ask p.next a mid last (slice_get last_asks u) u m.0 (mid_stands u m.0 m.1) heard
            ∙ ap (λ q. Some (Some q)) (sym (next_after u m.0 m.1 ∙ ap (λ w. p.next m.0.body m.0.captures (m.0.answers ++ due_at w)) due))

    ready_after : (u : ℕ) → ready_at (slice_get c.waits u) ≡ true → slice_get last_asks u ≡ Some (Some (next_ask p (step p s t) u))
    ready_after u h =
        let e : slice_get c.waits u ≡ option_map once_heard (slice_get (board_after p s t).waits u) = ap (λ (k : Board). slice_get k.waits u) ec ∙ slice_get-map once_heard d.waits u ∙ ap (λ (k : Board). option_map once_heard (slice_get k.waits u)) ed in
        elim (ready_or_due (slice_get (board_after p s t).waits u) (sym (ap ready_at e) ∙ h)) [ inl now ↦ at_rest now | inr due ↦ due_ready u due.0 due.1 ]
      where
        at_rest : ready_at (slice_get (board_after p s t).waits u) ≡ true → slice_get last_asks u ≡ Some (Some (next_ask p (step p s t) u))
        at_rest now = elim (fit.begins u now) [ inl old ↦ old_ready u old.0 old.1 now | inr new ↦ new_ready u new.0 now ]

    count_c : length c.waits ≡ count_after (next_ask p s t) (length s.threads)
    count_c = ap (λ (k : Board). length k.waits) ec ∙ length-map d.waits once_heard ∙ ap (λ (k : Board). length k.waits) ed ∙ count_after_waits

    pub hold_step : Hold pending stands p c last last_asks (step p s t)
    hold_step = record {
      board = ec ∙ step-board p s t d ed;
      hosts_count = same_hosts ∙ mids.hosts_count ∙ sym count_c;
      asks_count = same_asks ∙ mids.asks_count ∙ sym count_c;
      stand = stands_after;
      kept = ready_after;
    }
