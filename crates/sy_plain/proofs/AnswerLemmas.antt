-- Answers that reach their hosts one after another.
use Rattle.std.proofs.Common.{◌≡◌, ◌≢◌, ℕ, zero, suc, ◌+◌, ◌<◌, ◌≤◌, ℤ, List, [], ◌∷◌, length, map, Option, Some, None, refl, sym, ap, ◌∙◌, subst, arith, ◌⊎◌, inl, inr}
use Rattle.std.specs.Prelude.{slice_get}
use Rattle.std.proofs.lemmas.Bool.{cases_eq}
use Rattle.std.proofs.lemmas.Option.{slice_get_within, slice_get_past}
use Rattle.sy_onecopy.specs.declared.Waits.{Waits}
use Rattle.sy_onecopy.specs.declared.Waits.TheVariants.{Ready, Due, OnEntry, OnNode, OnQueue, OnThread, Never, Finished}
use Rattle.sy_onecopy.specs.State.{Board}
use Rattle.sy_onecopy.specs.Step.{once_heard}
use Rattle.sy_board.specs.Turns.{due_of, hear_one}
use Rattle.sy_work.specs.Programs.{NextAsk}
use Rattle.sy_work.specs.declared.asks.Ask.{Ask}
use Rattle.sy_work.specs.declared.asks.Answer.{Answer}
use Rattle.sy_board.proofs.AnswerLemmas.{first_changed, first_changed-more, first_changed-all}
use Rattle.sy_plain.specs.Hosts.{CanHear, HeardAt, HearsAt, Told, AfterDue}
use Rattle.sy_plain.proofs.ListLemmas.{set_same, set_other, length-set}

-- the members from k on are as they were
pub first_changed-rest : {A : Type 0} (f : A → A) (k : ℕ) (xs : List A) (u : ℕ) → k ≤ u → slice_get (first_changed f k xs) u ≡ slice_get xs u
first_changed-rest f zero xs u le = refl
first_changed-rest f (suc k) [] u le = refl
first_changed-rest f (suc k) (x ∷ xs) zero le = absurd (omega (arith, le))
first_changed-rest f (suc k) (x ∷ xs) (suc u) le = first_changed-rest f k xs u (omega (arith, le))

below_or_not : (a b : ℕ) → (a < b) ⊎ (b ≤ a)
below_or_not a b = grind arith

module _ {H : Type 0} (pending : H → Option Ask) (stands : H → NextAsk → ℕ → List ℤ → List Answer → Type 0) where
  -- hosts and asks after the answers that are due to the first k threads
  pub record Hearing (due : ℕ → Option Answer) (hosts : List H) (asks : List (Option Ask)) (k : ℕ) (now : List H) (now_asks : List (Option Ask)) : Type 0 where
    pub hosts_count : length now ≡ length hosts
    pub asks_count : length now_asks ≡ length asks
    pub told : (u : ℕ) → u < k → AfterDue pending stands (due u) (slice_get hosts u) (slice_get now u) (slice_get asks u) (slice_get now_asks u)
    pub same_hosts : (u : ℕ) → k ≤ u → slice_get now u ≡ slice_get hosts u
    pub same_asks : (u : ℕ) → k ≤ u → slice_get now_asks u ≡ slice_get asks u

  -- an answer reaches its host
  pub hearing_more : (due : ℕ → Option Answer) (hosts now new : List H) (asks now_asks new_asks : List (Option Ask)) (k : ℕ) (a : Answer) → k < length asks → due k ≡ Some a → Hearing due hosts asks k now now_asks → HeardAt pending stands now now_asks k a new new_asks → Hearing due hosts asks (k + 1) new new_asks
  hearing_more due hosts now new asks now_asks new_asks k a lt e h at = record {
    hosts_count = ap length at.hosts_after ∙ length-set now k at.new ∙ h.hosts_count;
    asks_count = ap length at.asks_after ∙ length-set now_asks k (Some at.ask) ∙ h.asks_count;
    told = λ u less. elim (cases_eq u k) [ inl same ↦ here u same | inr ne ↦ before u ne (omega (arith, less, ne)) ];
    same_hosts = λ u le. let ne : u ≢ k = omega (arith, le) in other_host u ne ∙ h.same_hosts u (omega (arith, le));
    same_asks = λ u le. let ne : u ≢ k = omega (arith, le) in other_ask u ne ∙ h.same_asks u (omega (arith, le));
  }
    where
      other_host : (u : ℕ) → u ≢ k → slice_get new u ≡ slice_get now u
      other_host u ne = ap (λ l. slice_get l u) at.hosts_after ∙ set_other now k u at.new ne

      other_ask : (u : ℕ) → u ≢ k → slice_get new_asks u ≡ slice_get now_asks u
      other_ask u ne = ap (λ l. slice_get l u) at.asks_after ∙ set_other now_asks k u (Some at.ask) ne

      before : (u : ℕ) → u ≢ k → u < k → AfterDue pending stands (due u) (slice_get hosts u) (slice_get new u) (slice_get asks u) (slice_get new_asks u)
      before u ne less =
          let P : Option H → Type 0 = λ o. AfterDue pending stands (due u) (slice_get hosts u) o (slice_get asks u) (slice_get new_asks u) in
          let Q : Option (Option Ask) → Type 0 = λ o. AfterDue pending stands (due u) (slice_get hosts u) (slice_get now u) (slice_get asks u) o in
          subst P (sym (other_host u ne)) (subst Q (sym (other_ask u ne)) (h.told u less))

      within : k < length now
      within = slice_get_within now k at.old at.here

      told_here : Told pending stands (slice_get hosts k) (slice_get new k) a (slice_get new_asks k)
      told_here = record {
        before = at.old;
        was = sym (h.same_hosts k (omega arith)) ∙ at.here;
        after = at.new;
        is = ap (λ l. slice_get l k) at.hosts_after ∙ set_same now k at.new within;
        ask = at.ask;
        noted = ap (λ l. slice_get l k) at.asks_after ∙ set_same now_asks k (Some at.ask) (omega (arith, lt, h.asks_count));
        heard = at.heard;
      }

      here : (u : ℕ) → u ≡ k → AfterDue pending stands (due u) (slice_get hosts u) (slice_get new u) (slice_get asks u) (slice_get new_asks u)
      here u same =
          let P : ℕ → Type 0 = λ v. AfterDue pending stands (due v) (slice_get hosts v) (slice_get new v) (slice_get asks v) (slice_get new_asks v) in
          let Q : Option Answer → Type 0 = λ o. AfterDue pending stands o (slice_get hosts k) (slice_get new k) (slice_get asks k) (slice_get new_asks k) in
          subst P (sym same) (subst Q (sym e) told_here)

  -- no answer is due to the thread
  pub hearing_on : (due : ℕ → Option Answer) (hosts now : List H) (asks now_asks : List (Option Ask)) (k : ℕ) → due k ≡ None → Hearing due hosts asks k now now_asks → Hearing due hosts asks (k + 1) now now_asks
  hearing_on due hosts now asks now_asks k e h = record {
    hosts_count = h.hosts_count;
    asks_count = h.asks_count;
    told = λ u less. elim (cases_eq u k) [ inl same ↦ here u same | inr ne ↦ h.told u (omega (arith, less, ne)) ];
    same_hosts = λ u le. h.same_hosts u (omega (arith, le));
    same_asks = λ u le. h.same_asks u (omega (arith, le));
  }
    where
      here : (u : ℕ) → u ≡ k → AfterDue pending stands (due u) (slice_get hosts u) (slice_get now u) (slice_get asks u) (slice_get now_asks u)
      here u same =
          let P : ℕ → Type 0 = λ v. AfterDue pending stands (due v) (slice_get hosts v) (slice_get now v) (slice_get asks v) (slice_get now_asks v) in
          let Q : Option Answer → Type 0 = λ o. AfterDue pending stands o (slice_get hosts k) (slice_get now k) (slice_get asks k) (slice_get now_asks k) in
          let le : k ≤ k = omega arith in
          subst P (sym same) (subst Q (sym e) (h.same_hosts k le, h.same_asks k le))

  pub hearing_none : (due : ℕ → Option Answer) (hosts : List H) (asks : List (Option Ask)) → Hearing due hosts asks 0 hosts asks
  hearing_none due hosts asks = record { hosts_count = refl; asks_count = refl; told = λ u less. absurd (omega (arith, less)); same_hosts = λ u le. refl; same_asks = λ u le. refl }

  -- the host that is to hear an answer is still as it was
  pub can_still : (due : ℕ → Option Answer) (hosts now : List H) (asks now_asks : List (Option Ask)) (k : ℕ) (a : Answer) → Hearing due hosts asks k now now_asks → CanHear pending hosts k a → CanHear pending now k a
  can_still due hosts now asks now_asks k a h can = record { host = can.host; here = h.same_hosts k (omega arith) ∙ can.here; ask = can.ask; open_ask = can.open_ask; fits = can.fits }

  pub hearing_step : (due : ℕ → Option Answer) (hosts now new : List H) (asks now_asks new_asks : List (Option Ask)) (k : ℕ) (o : Option Answer) → k < length asks → due k ≡ o → Hearing due hosts asks k now now_asks → HearsAt pending stands o now now_asks k new new_asks → Hearing due hosts asks (k + 1) new new_asks
  hearing_step due hosts now new asks now_asks new_asks k (Some a) lt e h at = hearing_more due hosts now new asks now_asks new_asks k a lt e h at
  hearing_step due hosts now new asks now_asks new_asks k None lt e h at =
      let P : List H → Type 0 = λ l. Hearing due hosts asks (k + 1) l new_asks in
      let Q : List (Option Ask) → Type 0 = λ l. Hearing due hosts asks (k + 1) now l in
      subst P (sym at.0) (subst Q (sym at.1) (hearing_on due hosts now asks now_asks k e h))

-- the answer that is due to the thread is due as before
pub due_still : (b c : Board) (k : ℕ) → c ≡ record b { waits = first_changed once_heard k b.waits } → due_of (slice_get c.waits k) ≡ due_of (slice_get b.waits k)
due_still b c k e = ap (λ (x : Board). due_of (slice_get x.waits k)) e ∙ ap due_of (first_changed-rest once_heard k b.waits k (omega arith))

due_was : (w : Option Waits) (a : Answer) → Some a ≡ due_of w → w ≡ Some (Due a)
due_was None a e = absurd (let z : ⊥ = cc in z)
due_was (Some Ready) a e = absurd (let z : ⊥ = cc in z)
due_was (Some (Due x)) a e = let z : a ≡ x = cc in ap (λ y. Some (Due y)) (sym z)
due_was (Some OnEntry) a e = absurd (let z : ⊥ = cc in z)
due_was (Some (OnNode n)) a e = absurd (let z : ⊥ = cc in z)
due_was (Some (OnQueue q n)) a e = absurd (let z : ⊥ = cc in z)
due_was (Some (OnThread u)) a e = absurd (let z : ⊥ = cc in z)
due_was (Some Never) a e = absurd (let z : ⊥ = cc in z)
due_was (Some (Finished v)) a e = absurd (let z : ⊥ = cc in z)

pub due_there : (b c : Board) (k : ℕ) (a : Answer) → c ≡ record b { waits = first_changed once_heard k b.waits } → Some a ≡ due_of (slice_get c.waits k) → slice_get b.waits k ≡ Some (Due a)
due_there b c k a e h = due_was (slice_get b.waits k) a (h ∙ due_still b c k e)

-- one more thread has heard
pub heard_more : (b c d : Board) (k : ℕ) → c ≡ record b { waits = first_changed once_heard k b.waits } → d ≡ hear_one k c → d ≡ record b { waits = first_changed once_heard (k + 1) b.waits }
heard_more b c d k ec ed =
    let n : k + 1 ≡ suc k = omega arith in
    ed ∙ ap (hear_one k) ec ∙ ap (λ ws. record b { waits = ws }) (first_changed-more once_heard k b.waits ∙ ap (λ m. first_changed once_heard m b.waits) (sym n))

-- all have heard
pub heard_all : (b c : Board) (k : ℕ) → k ≡ length b.waits → c ≡ record b { waits = first_changed once_heard k b.waits } → c ≡ record b { waits = map once_heard b.waits }
heard_all b c k n e = e ∙ ap (λ ws. record b { waits = ws }) (ap (λ m. first_changed once_heard m b.waits) n ∙ first_changed-all once_heard b.waits)

-- a thread that is not there hears nothing
pub told_past : {H : Type 0} (pending : H → Option Ask) (stands : H → NextAsk → ℕ → List ℤ → List Answer → Type 0) (ws : List Waits) (hosts now : List H) (asks now_asks : List (Option Ask)) (k : ℕ) → length ws ≤ k → Hearing pending stands (λ u. due_of (slice_get ws u)) hosts asks k now now_asks → (u : ℕ) → AfterDue pending stands (due_of (slice_get ws u)) (slice_get hosts u) (slice_get now u) (slice_get asks u) (slice_get now_asks u)
told_past {H} pending stands ws hosts now asks now_asks k le h u = elim (below_or_not u k) [ inl lt ↦ h.told u lt | inr past ↦ rest past ]
  where
    rest : k ≤ u → AfterDue pending stands (due_of (slice_get ws u)) (slice_get hosts u) (slice_get now u) (slice_get asks u) (slice_get now_asks u)
    rest past =
        let e : due_of (slice_get ws u) ≡ None = ap due_of (slice_get_past ws u (omega (arith, le, past))) in
        let P : Option Answer → Type 0 = λ o. AfterDue pending stands o (slice_get hosts u) (slice_get now u) (slice_get asks u) (slice_get now_asks u) in
        subst P (sym e) (h.same_hosts u past, h.same_asks u past)
