-- A turn keeps the fitting, and what it answers fits.
use Rattle.std.proofs.Common.{◌≡◌, ◌≢◌, ◌⊎◌, ℕ, suc, ◌≤◌, ◌<◌, List, length, Bool, true, false, Option, Some, refl, sym, ap, ◌∙◌, subst, inl, inr, arith, length-set}
use Rattle.std.specs.Prelude.{slice_get, slice_set, if◌then◌else◌, ◌&&◌, nat_lt, ◌^◌}
use Rattle.std.proofs.lemmas.Option.{slice_get_within}
use Rattle.sy_work.specs.Programs.{Program, OutcomeOf}
use Rattle.sy_work.specs.declared.asks.Ask.{Ask}
use Rattle.sy_work.specs.declared.asks.Ask.TheVariants.{Spawn}
use Rattle.sy_work.specs.declared.asks.Answer.{Answer}
use Rattle.sy_onecopy.specs.declared.Buffer.{Buffer}
use Rattle.sy_onecopy.specs.declared.Entry.{Entry}
use Rattle.sy_onecopy.specs.declared.Waits.{Waits}
use Rattle.sy_onecopy.specs.declared.Waits.TheVariants.{Ready, Due, Never}
use Rattle.sy_onecopy.specs.State.{Board, State, next_ask}
use Rattle.sy_onecopy.specs.Settle.{settle}
use Rattle.sy_onecopy.specs.Step.{apply, begin_ask, give_all, turn}
use Rattle.sy_onecopy.specs.Sequence.{ready_at, goes_on, is_clear, may_step, is_legal}
use Rattle.sy_answers.specs.Fitting.{FitsOver, StepFits, Counted, IsSpawn, board_after, count_after}
use Rattle.sy_answers.proofs.ListLemmas.{same_or_not, below_or_not, set_other, set_there}
use Rattle.sy_answers.proofs.WaitLemmas.{told, over_fits}
use Rattle.sy_answers.proofs.SettleLemmas.{FitsBoard, settle_moves, give_moves}
use Rattle.sy_answers.proofs.AskLemmas.{Asks, Turned, TurnedTo, moves_on, apply_turns}

-- the waits of a state suit what its threads ask next
pub record Keeps (p : Program) (s : State) : Type 0 where
  pub fit : FitsBoard (next_ask p s) s.board
  pub counted : Counted s

ready_is : (o : Option Waits) → ready_at o ≡ true → o ≡ Some Ready
ready_is (Some Ready) h = refl
ready_is o h = cc

begun_asks : (ask : ℕ → Ask) (b : Board) (t : ℕ) → FitsBoard ask b → ready_at (slice_get b.waits t) ≡ true → Asks ask (begin_ask b t) t (ask t)
begun_asks ask b t f r = record {
  fit = told ask b.buffers b.entries b.waits t Never f (λ k e x. let z : true ≡ false = sym r ∙ ap ready_at (f.waiting k e t x) in cc) tt;
  never = set_there b.waits t Never Ready (ready_is (slice_get b.waits t) r);
  own = refl;
}

turn_turns : (ask : ℕ → Ask) (out : OutcomeOf) (b : Board) (t : ℕ) → FitsBoard ask b → ready_at (slice_get b.waits t) ≡ true → TurnedTo ask (slice_set b.waits t Never) (ask t) (turn out b t (ask t))
unfolding turn
turn_turns ask out b t f r =
    let old = slice_set b.waits t Never in
    let c = apply (begin_ask b t) t (ask t) in
    let d = settle out c in
    let m = apply_turns ask (begin_ask b t) t (ask t) (begun_asks ask b t f r) in
    let n = settle_moves ask out c m.fit in
    moves_on ask old (ask t) d (give_all d) (moves_on ask old (ask t) c d m n) (give_moves ask d n.fit)

and_first : (a b : Bool) → (a && b) ≡ true → a ≡ true
and_first true b h = refl
and_first false b h = h

and_second : (a b : Bool) → (a && b) ≡ true → b ≡ true
and_second true b h = h
and_second false b h = cc

pub legal_ready : (p : Program) (s : State) (t : ℕ) → is_legal p s t ≡ true → ready_at (slice_get s.board.waits t) ≡ true
unfolding may_step
legal_ready p s t h =
    let m = and_first (may_step p s t) (nat_lt s.board.steps (2 ^ 24)) h in
    and_first (ready_at (slice_get s.board.waits t)) (is_clear s.board (next_ask p s t)) (and_second (goes_on s.board) (ready_at (slice_get s.board.waits t) && is_clear s.board (next_ask p s t)) m)

pub ready_within : (ws : List Waits) (u : ℕ) → ready_at (slice_get ws u) ≡ true → u < length ws
ready_within ws u h = slice_get_within ws u Ready (ready_is (slice_get ws u) h)

one_more : (n u : ℕ) (v : Bool) → n ≤ u → u < (if v then suc n else n) → u ≡ n
one_more n u true l h = omega arith
one_more n u false l h = absurd (omega arith)

grows : (q : Ask) (n u : ℕ) → n ≤ u → u < count_after q n → (u ≡ n) × IsSpawn q
grows (Spawn body captures) n u l h = (one_more n u (nat_lt n 64) l h, (body, captures, refl))
grows q n u l h = absurd (omega (arith, l, h))

module _ (ask : ℕ → Ask) (ws : List Waits) (t : ℕ) (q : Ask) (bs : List Buffer) (es : List Entry) (new : List Waits) (m : Turned ask (slice_set ws t Never) q bs es new) (r : ready_at (slice_get ws t) ≡ true) where
  same : (u : ℕ) → u < length ws → u ≢ t → ready_at (slice_get new u) ≡ ready_at (slice_get ws u)
  same u l n = m.ready u (let e = length-set ws t Never in omega arith) ∙ ap ready_at (set_other ws t u Never n)

  fresh : (u : ℕ) → length ws ≤ u → u < length new → ready_at (slice_get new u) ≡ true
  fresh u l h = m.fresh u (let e = length-set ws t Never in omega arith) h

  count : length new ≡ count_after q (length ws)
  count = m.count ∙ ap (count_after q) (length-set ws t Never)

  asked : (u : ℕ) (a : Answer) → slice_get new u ≡ Some (Due a) → u ≢ t → ready_at (slice_get ws u) ≡ false
  asked u a h n =
      elim (below_or_not u (length ws)) [
        | inl l ↦ sym (same u l n) ∙ ap ready_at h
        | inr l ↦ let z : true ≡ false = sym (fresh u l (slice_get_within new u (Due a) h)) ∙ ap ready_at h in cc
      ]

  still : (u : ℕ) → u ≢ t → ready_at (slice_get ws u) ≡ true → ready_at (slice_get new u) ≡ true
  still u n h = same u (ready_within ws u h) n ∙ h

  mine : ready_at (slice_get new t) ≡ false
  mine =
      m.ready t (let e = length-set ws t Never in let l = ready_within ws t r in omega arith)
      ∙ ap ready_at (set_there ws t Never Ready (ready_is (slice_get ws t) r))

  begins : (u : ℕ) → ready_at (slice_get new u) ≡ true → ((u ≢ t) × (ready_at (slice_get ws u) ≡ true)) ⊎ ((u ≡ length ws) × IsSpawn q)
  begins u h =
      elim (below_or_not u (length ws)) [
        | inl l ↦ elim (same_or_not u t) [
          | inl p ↦ let z : false ≡ true = sym mine ∙ ap (λ v. ready_at (slice_get new v)) (sym p) ∙ h in cc
          | inr n ↦ inl (n, sym (same u l n) ∙ h)
        ]
        | inr l ↦ inr (grows q (length ws) u l (let c = count in let w = ready_within new u h in omega arith))
      ]

pub turned : (p : Program) (s : State) (t : ℕ) → Keeps p s → is_legal p s t ≡ true → TurnedTo (next_ask p s) (slice_set s.board.waits t Never) (next_ask p s t) (board_after p s t)
turned p s t k l = turn_turns (next_ask p s) p.outcome s.board t k.fit (legal_ready p s t l)

pub kept_fits : (p : Program) (s : State) (t : ℕ) → Keeps p s → is_legal p s t ≡ true → StepFits p s t
kept_fits p s t k l =
    let ask = next_ask p s in
    let ws = s.board.waits in
    let b = board_after p s t in
    let m = turned p s t k l in
    let r = legal_ready p s t l in
    record {
      fits = λ u a h. over_fits b.buffers (ask u) a (m.fit.suits u (Due a) h);
      ends = λ u r a h e. subst (λ q. FitsOver b.buffers q a) e (m.fit.suits u (Due a) h);
      asked = asked ask ws t (ask t) b.buffers b.entries b.waits m r;
      still = still ask ws t (ask t) b.buffers b.entries b.waits m r;
      begins = begins ask ws t (ask t) b.buffers b.entries b.waits m r;
      fresh = fresh ask ws t (ask t) b.buffers b.entries b.waits m r;
      count = count ask ws t (ask t) b.buffers b.entries b.waits m r;
    }
