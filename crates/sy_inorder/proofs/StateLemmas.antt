-- What holds in each state of a sequence of steps, and on each board of a pass.
use Rattle.std.proofs.Common.{◌≡◌, ℕ, zero, suc, List, [], ◌∷◌, length, take, Bool, true, false, Option, Some, None, refl, sym, ap, ◌∙◌, subst}
use Rattle.std.specs.Prelude.{slice_get, not, ◌&&◌, if◌then◌else◌}
use Rattle.std.specs.List.{list_any}
use Rattle.std.proofs.lemmas.Option.{same_Some, none-some}
use Rattle.sy_work.specs.Programs.{OutcomeOf, Program}
use Rattle.sy_work.specs.declared.commands.Outcome.{Outcome}
use Rattle.sy_work.specs.declared.commands.Outcome.TheVariants.{Wrote, Failed as CommandFailed}
use Rattle.sy_onecopy.specs.declared.Entry.{Entry}
use Rattle.sy_onecopy.specs.declared.Work.{Work}
use Rattle.sy_onecopy.specs.declared.Work.TheVariants.{Node, Access, End}
use Rattle.sy_onecopy.specs.declared.Stage.TheVariants.{Done, Failed}
use Rattle.sy_onecopy.specs.State.{Board, State, start, next_ask}
use Rattle.sy_onecopy.specs.Before.{before, is_free, is_held, blocks, is_done, is_pending}
use Rattle.sy_onecopy.specs.Outcome.{inputs, buffers_after}
use Rattle.sy_onecopy.specs.Settle.{took, effect, settle_entry, settle_upto}
use Rattle.sy_onecopy.specs.Step.{begin_ask, give_all, turn, step}
use Rattle.sy_onecopy.specs.Sequence.{is_legal, seq, seq_from}
use Rattle.sy_inorder.specs.Sequential.{after_work, log_of}
use Rattle.sy_inorder.specs.Ledger.{Ledger, closed_with, asked, noted, empty, ledger_from, ledger_of}
use Rattle.sy_inorder.proofs.BoolLemmas.{and_first, and_second, not_true}
use Rattle.sy_inorder.proofs.ListLemmas.{none_at}
use Rattle.sy_inorder.proofs.ListLemmas as places
use Rattle.sy_inorder.proofs.AskLemmas.{apply-change}
use Rattle.sy_inorder.proofs.InvariantLemmas.{Holds, NothingBefore, pending_open, granted_holds, done_holds, change_holds}

not_before : (x y : Entry) → is_done x.stage ≡ false → blocks y x ≡ false → before x y ≡ false
unfolding blocks
not_before x y d h = ap (λ v. not v && before x y) (sym d) ∙ h

pub free_pending : (es : List Entry) (k : ℕ) (e : Entry) → is_free es k e ≡ true → is_pending e.stage ≡ true
unfolding is_free
free_pending es k e h = and_first (is_pending e.stage) (not (is_held (take k es) e)) h

pub free_before : (es : List Entry) (k : ℕ) (e : Entry) → is_free es k e ≡ true → NothingBefore es k e
unfolding is_free is_held
free_before es k e h i x lt g d =
    not_before x e d (none_at (blocks e) (take k es) i x (not_true (list_any (blocks e) (take k es)) (and_second (is_pending e.stage) (not (list_any (blocks e) (take k es))) h)) (places.take_has k es i x lt g))

-- a board on which it holds
abbrev pub BoardHolds : OutcomeOf → Ledger → Board → Type 0
BoardHolds out l b = Holds out l b.entries b.buffers

took_holds : (out : OutcomeOf) (l : Ledger) (b : Board) (k n q : ℕ) (e : Entry) (o : Outcome) (c : _) → slice_get b.entries k ≡ Some e → is_free b.entries k e ≡ true → e.work ≡ Node n q c → out c (inputs b.buffers e.needs) ≡ o → BoardHolds out l b → BoardHolds out l (took b k e.needs o)
unfolding took after_work
took_holds out l b k n q e (Wrote log) c at free w o h =
    done_holds out l l b.entries b.buffers (buffers_after e.needs log b.buffers) k e Done at (pending_open e (free_pending b.entries k e free)) (free_before b.entries k e free) refl refl (λ j d. refl)
    (ap (λ x. buffers_after e.needs (log_of x) b.buffers) (sym o) ∙ ap (λ x. after_work out (closed_with l.closings k) e.needs x b.buffers) (sym w)) h
took_holds out l b k n q e (CommandFailed f) c at free w o h =
    done_holds out l l b.entries b.buffers (buffers_after e.needs [] b.buffers) k e (Failed f) at (pending_open e (free_pending b.entries k e free)) (free_before b.entries k e free) refl refl (λ j d. refl)
    (ap (λ x. buffers_after e.needs (log_of x) b.buffers) (sym o) ∙ ap (λ x. after_work out (closed_with l.closings k) e.needs x b.buffers) (sym w)) h

effect_holds : (out : OutcomeOf) (l : Ledger) (b : Board) (k : ℕ) (e : Entry) (w : Work) → slice_get b.entries k ≡ Some e → is_free b.entries k e ≡ true → e.work ≡ w → BoardHolds out l b → BoardHolds out l (effect out b k e w)
unfolding effect after_work
effect_holds out l b k e (Node n q c) at free w h = took_holds out l b k n q e (out c (inputs b.buffers e.needs)) c at free w refl h
effect_holds out l b k e (Access t i) at free w h =
    granted_holds out l b.entries b.buffers k e at (pending_open e (free_pending b.entries k e free)) (free_before b.entries k e free) h
effect_holds out l b k e (End t r) at free w h =
    done_holds out l l b.entries b.buffers b.buffers k e Done at (pending_open e (free_pending b.entries k e free)) (free_before b.entries k e free) refl refl (λ j d. refl)
    (ap (λ x. after_work out (closed_with l.closings k) e.needs x b.buffers) (sym w)) h

chosen_holds : (v : Bool) (out : OutcomeOf) (l : Ledger) (b : Board) (k : ℕ) (e : Entry) → is_free b.entries k e ≡ v → slice_get b.entries k ≡ Some e → BoardHolds out l b → BoardHolds out l (if v then effect out b k e e.work else b)
chosen_holds true out l b k e free at h = effect_holds out l b k e e.work at free refl h
chosen_holds false out l b k e free at h = h

entry_holds : (out : OutcomeOf) (l : Ledger) (b : Board) (k : ℕ) (o : Option Entry) → slice_get b.entries k ≡ o → BoardHolds out l b → BoardHolds out l (settle_entry out b k o)
unfolding settle_entry
entry_holds out l b k None at h = h
entry_holds out l b k (Some e) at h = chosen_holds (is_free b.entries k e) out l b k e refl at h

pub upto_holds : (out : OutcomeOf) (l : Ledger) (b : Board) (n : ℕ) → BoardHolds out l b → BoardHolds out l (settle_upto out b n)
upto_holds out l b zero h = h
upto_holds out l b (suc n) h = entry_holds out l (settle_upto out b n) n (slice_get (settle_upto out b n).entries n) refl (upto_holds out l b n h)

pub asked_holds : (out : OutcomeOf) (l : Ledger) (b : Board) (t : ℕ) (q : _) → BoardHolds out l b → BoardHolds out (noted l b t q) (asked b t q)
unfolding noted
asked_holds out l b t q h = change_holds out l b.entries (asked b t q).entries b.buffers (asked b t q).buffers _ (apply-change (begin_ask b t) t q) h

step_holds : (p : Program) (l : Ledger) (s : State) (t : ℕ) → BoardHolds p.outcome l s.board → BoardHolds p.outcome (noted l s.board t (next_ask p s t)) (step p s t).board
unfolding step turn give_all
step_holds p l s t h =
    let q = next_ask p s t in
    upto_holds p.outcome (noted l s.board t q) (asked s.board t q) (length (asked s.board t q).entries) (asked_holds p.outcome l s.board t q h)

pub one_legal : {A : Type 0} (v : Bool) (o : Option A) (x : A) → (if v then o else None) ≡ Some x → (v ≡ true) × (o ≡ Some x)
one_legal true o x h = (refl, h)
one_legal false o x h = absurd (none-some x h)

from_holds : (p : Program) (l : Ledger) (s : State) (order : List ℕ) (u : State) → seq_from p s order ≡ Some u → BoardHolds p.outcome l s.board → BoardHolds p.outcome (ledger_from p s l order) u.board
from_holds p l s [] u e h = subst (λ (x : State). BoardHolds p.outcome l x.board) (same_Some s u e) h
from_holds p l s (t ∷ ts) u e h =
    let q = one_legal (is_legal p s t) (seq_from p (step p s t) ts) u e in
    from_holds p (noted l s.board t (next_ask p s t)) (step p s t) ts u q.1 (step_holds p l s t h)

pub start_holds : (out : OutcomeOf) → Holds out empty [] []
start_holds out = record { numbers = refl; count = refl; none_overtakes = λ i j x y lt a b c d. absurd (none-some x a); sound = λ k e g. absurd (none-some e g) }

pub seq_holds : (p : Program) (order : List ℕ) (s : State) → seq p order ≡ Some s → BoardHolds p.outcome (ledger_of p order) s.board
seq_holds p order s e = from_holds p empty (start p) order s e (start_holds p.outcome)
