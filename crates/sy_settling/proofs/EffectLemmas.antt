-- An effect as one change of elements, one stage and one answer.
use Rattle.std.proofs.Common.{◌≡◌, ◌≢◌, ℕ, ℤ, List, [], set, false, Option, Some, None, refl, sym, ap, ◌∙◌, subst, inl, inr}
use Rattle.std.specs.Prelude.{slice_get}
use Rattle.std.proofs.lemmas.Bool.{cases_eq}
use Rattle.sy_access.specs.declared.access.Need.{Need}
use Rattle.sy_work.specs.Programs.{OutcomeOf, Input}
use Rattle.sy_work.specs.declared.commands.Outcome.{Outcome}
use Rattle.sy_work.specs.declared.commands.Outcome.TheVariants as outcome
use Rattle.sy_work.specs.declared.asks.Answer.{Answer}
use Rattle.sy_work.specs.declared.asks.Answer.TheVariants.{Contents}
use Rattle.sy_onecopy.specs.declared.Buffer.{Buffer}
use Rattle.sy_onecopy.specs.declared.Entry.{Entry}
use Rattle.sy_onecopy.specs.declared.Work.{Work}
use Rattle.sy_onecopy.specs.declared.Work.TheVariants.{Node, Access, End}
use Rattle.sy_onecopy.specs.declared.Stage.{Stage}
use Rattle.sy_onecopy.specs.declared.Stage.TheVariants.{Granted, Done, Failed}
use Rattle.sy_onecopy.specs.declared.Waits.{Waits}
use Rattle.sy_onecopy.specs.declared.Waits.TheVariants.{Due, OnQueue}
use Rattle.sy_onecopy.specs.Each.{changed_at}
use Rattle.sy_onecopy.specs.State.{Board}
use Rattle.sy_onecopy.specs.Before.{is_pending}
use Rattle.sy_onecopy.specs.Outcome.{buffer_after, buffers_after, values_at, inputs}
use Rattle.sy_needs.specs.Elements.{cell_after}
use Rattle.sy_onecopy.specs.Settle.{with_stage, took, effect, first_of}
use Rattle.sy_needs.specs.Order.{needs_meet}
use Rattle.sy_settling.specs.Orderly.{waiter, NeedsWhole}
use Rattle.sy_settling.proofs.ListLemmas.{set-swap, get-set_other, set_is, some_is}
use Rattle.sy_settling.proofs.ElementLemmas.{Cells, kept_cells, mapped, KeepsBut, kept_keep, after_keeps, mapped-kept, inputs-kept, whole-kept}

-- the elements that change, the stage that the entry comes to, and who is told what
pub record Act : Type 0 where
  pub cells : Cells
  pub stage : Stage
  pub due : Option (ℕ × Waits)

abbrev pub told : Option (ℕ × Waits) → List Waits → List Waits
told None ws = ws
told (Some d) ws = set ws d.0 d.1

abbrev pub after : Act → ℕ → Board → Board
after a k b = record b { buffers = mapped a.cells b.buffers; entries = changed_at (with_stage a.stage) k b.entries; waits = told a.due b.waits }

-- what an effect reads
abbrev pub Seen : Type 0
Seen = List Input × List ℤ

abbrev pub seen : List Buffer → List Need → Work → Seen
seen buffers needs (Node n q c) = (inputs buffers needs, [])
seen buffers needs (Access t i) = (inputs buffers needs, [])
seen buffers needs (End t r) = ([], values_at buffers r)

abbrev pub node_act : List Need → Outcome → Act
node_act needs (outcome.Wrote log) = record { cells = cell_after needs log; stage = Done; due = None }
node_act needs (outcome.Failed fault) = record { cells = cell_after needs []; stage = Failed fault; due = None }

abbrev pub act : OutcomeOf → List Need → Work → Seen → Act
act out needs (Node n q c) s = node_act needs (out c s.0)
act out needs (Access t i) s = record { cells = kept_cells; stage = Granted; due = Some (t, Due (Contents (first_of s.0))) }
act out needs (End t r) s = record { cells = kept_cells; stage = Done; due = Some (t, Due (Contents s.1)) }

took-is : (b : Board) (k : ℕ) (needs : List Need) (o : Outcome) → took b k needs o ≡ after (node_act needs o) k b
unfolding took buffers_after buffer_after
took-is b k needs (outcome.Wrote log) = refl
took-is b k needs (outcome.Failed fault) = refl

with_buffers : Board → List Buffer → Board
with_buffers b l = record b { buffers = l }

pub effect-is : (out : OutcomeOf) (b : Board) (k : ℕ) (e : Entry) (w : Work) → effect out b k e w ≡ after (act out e.needs w (seen b.buffers e.needs w)) k b
unfolding effect with_buffers
effect-is out b k e (Node n q c) = took-is b k e.needs (out c (inputs b.buffers e.needs))
effect-is out b k e (Access t i) = ap (with_buffers (effect out b k e (Access t i))) (sym (mapped-kept b.buffers))
effect-is out b k e (End t r) = ap (with_buffers (effect out b k e (End t r))) (sym (mapped-kept b.buffers))

-- the act is one of the entry
pub record ActOf (a : Act) (e : Entry) : Type 0 where
  pub keeps : KeepsBut a.cells e.needs
  pub moves : is_pending a.stage ≡ false
  pub tells : (d : ℕ × Waits) → a.due ≡ Some d → waiter e.work ≡ Some d.0
  pub answers : (d : ℕ × Waits) → a.due ≡ Some d → (x : Answer) × (d.1 ≡ Due x)

node_act-of : (e : Entry) (o : Outcome) → ActOf (node_act e.needs o) e
node_act-of e (outcome.Wrote log) = record { keeps = after_keeps e.needs log; moves = refl; tells = λ d p. absurd cc; answers = λ d p. absurd cc }
node_act-of e (outcome.Failed fault) = record { keeps = after_keeps e.needs []; moves = refl; tells = λ d p. absurd cc; answers = λ d p. absurd cc }

pub act-of : (out : OutcomeOf) (e : Entry) (w : Work) (s : Seen) → e.work ≡ w → ActOf (act out e.needs w s) e
act-of out e (Node n q c) s h = node_act-of e (out c s.0)
act-of out e (Access t i) s h = record {
  keeps = kept_keep e.needs;
  moves = refl;
  tells = λ d p. ap waiter h ∙ ap (λ (x : ℕ × Waits). Some x.0) (some_is p);
  answers = λ d p. (Contents (first_of s.0), ap (λ (x : ℕ × Waits). x.1) (sym (some_is p)));
}
act-of out e (End t r) s h = record {
  keeps = kept_keep e.needs;
  moves = refl;
  tells = λ d p. ap waiter h ∙ ap (λ (x : ℕ × Waits). Some x.0) (some_is p);
  answers = λ d p. (Contents s.1, ap (λ (x : ℕ × Waits). x.1) (sym (some_is p)));
}

pub told-swap : (c d : Option (ℕ × Waits)) (ws : List Waits) → ((x y : ℕ × Waits) → c ≡ Some x → d ≡ Some y → x.0 ≢ y.0) → told c (told d ws) ≡ told d (told c ws)
told-swap None d ws h = refl
told-swap (Some x) None ws h = refl
told-swap (Some x) (Some y) ws h = sym (set-swap ws x.0 y.0 x.1 y.1 (h x y refl refl))

pub told-other : (d : Option (ℕ × Waits)) (ws : List Waits) (t : ℕ) → ((x : ℕ × Waits) → d ≡ Some x → t ≢ x.0) → slice_get (told d ws) t ≡ slice_get ws t
told-other None ws t h = refl
told-other (Some x) ws t h = get-set_other ws x.0 t x.1 (h x refl)

pub told-set : (d : Option (ℕ × Waits)) (ws : List Waits) (t : ℕ) (w : Waits) → ((x : ℕ × Waits) → d ≡ Some x → t ≢ x.0) → told d (set ws t w) ≡ set (told d ws) t w
told-set None ws t w h = refl
told-set (Some x) ws t w h = set-swap ws t x.0 w x.1 (h x refl)

abbrev pub build : Board → List Buffer → List Entry → List Waits → Board
build b x y z = record b { buffers = x; entries = y; waits = z }

pub build-same : (b : Board) {x x' : List Buffer} {y y' : List Entry} {z z' : List Waits} → x ≡ x' → y ≡ y' → z ≡ z' → build b x y z ≡ build b x' y' z'
build-same b {x = x} {x' = x'} {y = y} {y' = y'} {z = z} {z' = z'} p q r = ap (λ l. build b l y z) p ∙ ap (λ l. build b x' l z) q ∙ ap (λ l. build b x' y' l) r

pub seen-kept : (h : Cells) (ys : List Need) (q : ℕ) (buffers : List Buffer) (needs : List Need) (w : Work) (p : ℕ) → KeepsBut h ys → needs_meet needs p ys q ≡ false → ((t r : ℕ) → w ≡ End t r → NeedsWhole buffers r needs) → seen (mapped h buffers) needs w ≡ seen buffers needs w
seen-kept h ys q buffers needs (Node n o c) p k m n_whole = ap (λ l. (l, [])) (inputs-kept needs h ys p q buffers k m)
seen-kept h ys q buffers needs (Access t i) p k m n_whole = ap (λ l. (l, [])) (inputs-kept needs h ys p q buffers k m)
seen-kept h ys q buffers needs (End t r) p k m n_whole =
    let n = n_whole t r refl in
    ap (λ l. ([], l)) (whole-kept h ys p q r n.buffer buffers k n.found (subst (λ l. needs_meet l p ys q ≡ false) n.all m))

-- no thread that is told something waits for a queue
pub told-queued : (d : Option (ℕ × Waits)) (ws : List Waits) (t q n : ℕ) → ((x : ℕ × Waits) → d ≡ Some x → (a : Answer) × (x.1 ≡ Due a)) → slice_get (told d ws) t ≡ Some (OnQueue q n) → slice_get ws t ≡ Some (OnQueue q n)
told-queued None ws t q n h g = g
told-queued (Some x) ws t q n h g = elim (cases_eq t x.0) [
  | inl e ↦
      let here : slice_get (set ws x.0 x.1) x.0 ≡ Some (OnQueue q n) = subst (λ i. slice_get (set ws x.0 x.1) i ≡ Some (OnQueue q n)) e g in
      let is : x.1 ≡ OnQueue q n = set_is ws x.0 x.1 (OnQueue q n) here in
      absurd (let z : Due (h x refl).0 ≡ OnQueue q n = sym (h x refl).1 ∙ is in cc)
  | inr ne ↦ sym (get-set_other ws x.0 t x.1 ne) ∙ g
]
