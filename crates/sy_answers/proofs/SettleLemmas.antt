-- What keeps the fitting, and who is ready.
use Rattle.std.proofs.Common.{◌≡◌, ℕ, zero, suc, List, [], ◌∷◌, length, map, Bool, true, false, Option, Some, None, refl, sym, ap, ◌∙◌, subst, length-set}
use Rattle.std.specs.Prelude.{slice_get, slice_set, option_map, if◌then◌else◌, ◌&&◌, not, take}
use Rattle.std.proofs.lemmas.Option.{slice_get-map}
use Rattle.std.proofs.lemmas.List.{length-map}
use Rattle.sy_access.specs.declared.access.Need.{Need}
use Rattle.sy_work.specs.Programs.{OutcomeOf}
use Rattle.sy_work.specs.declared.commands.Outcome.{Outcome}
use Rattle.sy_work.specs.declared.commands.Outcome.TheVariants.{Wrote, Failed}
use Rattle.sy_work.specs.declared.asks.Ask.{Ask}
use Rattle.sy_work.specs.declared.asks.Answer.{Answer}
use Rattle.sy_work.specs.declared.asks.Answer.TheVariants.{Done as Answered, Contents}
use Rattle.sy_answers.specs.Fitting.{FitsOver}
use Rattle.sy_onecopy.specs.declared.Buffer.{Buffer}
use Rattle.sy_onecopy.specs.declared.Entry.{Entry}
use Rattle.sy_onecopy.specs.declared.Work.{Work}
use Rattle.sy_onecopy.specs.declared.Work.TheVariants.{Node, Access, End}
use Rattle.sy_onecopy.specs.declared.Stage.{Stage}
use Rattle.sy_onecopy.specs.declared.Stage.TheVariants as stage
use Rattle.sy_onecopy.specs.declared.Waits.{Waits}
use Rattle.sy_onecopy.specs.declared.Waits.TheVariants.{Ready, Due, OnEntry, OnNode, OnQueue, OnThread, Never, Finished}
use Rattle.sy_onecopy.specs.State.{Board}
use Rattle.sy_onecopy.specs.Before.{is_free, is_held, is_pending}
use Rattle.sy_onecopy.specs.Outcome.{inputs, values_at}
use Rattle.sy_onecopy.specs.Settle.{reply, to_stage, took, first_of, effect, settle_entry, settle_upto, settle}
use Rattle.sy_onecopy.specs.Step.{node_done, queue_done, has_finished, given, give_all}
use Rattle.sy_onecopy.specs.Sequence.{is_ready, ready_at}
use Rattle.sy_answers.proofs.ListLemmas.{map_at}
use Rattle.sy_answers.proofs.WaitLemmas.{Fit, Waited, Suits, IsAsked, owner, less, told, idle_after, stage_none_new, contents_fit}
use Rattle.sy_answers.proofs.BufferLemmas.{all_kept, after_kept, opening_fits}

-- these parts fit, as many threads wait as before, and the same are ready
pub record Moves (ask : ℕ → Ask) (old : List Waits) (bs : List Buffer) (es : List Entry) (ws : List Waits) : Type 0 where
  pub fit : Fit ask bs es ws
  pub ready : (u : ℕ) → ready_at (slice_get ws u) ≡ ready_at (slice_get old u)
  pub count : length ws ≡ length old

abbrev pub MovesTo : (ℕ → Ask) → List Waits → Board → Type 0
MovesTo ask old b = Moves ask old b.buffers b.entries b.waits

abbrev pub FitsBoard : (ℕ → Ask) → Board → Type 0
FitsBoard ask b = Fit ask b.buffers b.entries b.waits

-- who was not ready is set to wait for what is not ready
pub ready_set : (ws : List Waits) (t : ℕ) (w : Waits) → ready_at (slice_get ws t) ≡ false → is_ready w ≡ false → (u : ℕ) → ready_at (slice_get (slice_set ws t w) u) ≡ ready_at (slice_get ws u)
ready_set [] t w h n u = refl
ready_set (v ∷ ws) zero w h n zero = n ∙ sym h
ready_set (v ∷ ws) zero w h n (suc u) = refl
ready_set (v ∷ ws) (suc t) w h n zero = refl
ready_set (v ∷ ws) (suc t) w h n (suc u) = ready_set ws t w h n u

given_ready : (v : Bool) (w : Waits) → is_ready w ≡ false → is_ready (if v then Due Answered else w) ≡ is_ready w
given_ready true w n = sym n
given_ready false w n = refl

same_ready : (b : Board) (o : Option Waits) → ready_at (option_map (given b) o) ≡ ready_at o
same_ready b None = refl
same_ready b (Some Ready) = refl
same_ready b (Some (Due a)) = refl
same_ready b (Some OnEntry) = refl
same_ready b (Some (OnNode n)) = given_ready (node_done b.entries n) (OnNode n) refl
same_ready b (Some (OnQueue q n)) = given_ready (queue_done b.entries q n) (OnQueue q n) refl
same_ready b (Some (OnThread u)) = given_ready (has_finished (slice_get b.waits u)) (OnThread u) refl
same_ready b (Some Never) = refl
same_ready b (Some (Finished v)) = refl

given_suits : (bs : List Buffer) (q : Ask) (v : Bool) (w : Waits) → Suits bs q w → FitsOver bs q Answered → Suits bs q (if v then Due Answered else w)
given_suits bs q true w s f = f
given_suits bs q false w s f = s

due_suits : (q : Ask) (b : Board) (w : Waits) → Suits b.buffers q w → Suits b.buffers q (given b w)
due_suits q b Ready s = s
due_suits q b (Due a) s = s
due_suits q b OnEntry s = s
due_suits q b (OnNode n) s = given_suits b.buffers q (node_done b.entries n) (OnNode n) s (subst (λ y. FitsOver b.buffers y Answered) (sym s) tt)
due_suits q b (OnQueue r n) s = given_suits b.buffers q (queue_done b.entries r n) (OnQueue r n) s (subst (λ y. FitsOver b.buffers y Answered) (sym s) tt)
due_suits q b (OnThread u) s = given_suits b.buffers q (has_finished (slice_get b.waits u)) (OnThread u) s (subst (λ y. FitsOver b.buffers y Answered) (sym s) tt)
due_suits q b Never s = s
due_suits q b (Finished v) s = s

module _ (ask : ℕ → Ask) where
  pub unmoved : (b : Board) → FitsBoard ask b → MovesTo ask b.waits b
  unmoved b f = record { fit = f; ready = λ u. refl; count = refl }

  pub onward : (old : List Waits) (b c : Board) → MovesTo ask old b → MovesTo ask b.waits c → MovesTo ask old c
  onward old b c m n = record { fit = n.fit; ready = λ u. n.ready u ∙ m.ready u; count = n.count ∙ m.count }

  pub either : (old : List Waits) (v : Bool) (b c : Board) → MovesTo ask old b → MovesTo ask old c → MovesTo ask old (if v then b else c)
  either old true b c m n = m
  either old false b c m n = n

  took_moves : (b : Board) (k : ℕ) (needs : List Need) (o : Outcome) → FitsBoard ask b → MovesTo ask b.waits (took b k needs o)
  unfolding took
  took_moves b k needs (Wrote log) f = record {
    fit = less ask b.buffers _ b.entries _ b.waits f (after_kept needs log b.buffers) (stage_none_new stage.Done refl k b.entries);
    ready = λ u. refl;
    count = refl;
  }
  took_moves b k needs (Failed fault) f = record {
    fit = less ask b.buffers _ b.entries _ b.waits f (after_kept needs [] b.buffers) (stage_none_new (stage.Failed fault) refl k b.entries);
    ready = λ u. refl;
    count = refl;
  }

  -- the thread that waits for an entry is answered as the entry takes effect
  heard_moves : (b : Board) (k : ℕ) (e : Entry) (u : ℕ) (s : Stage) (a : Answer) → FitsBoard ask b → Waited b.entries k e u → is_pending s ≡ false → FitsOver b.buffers (ask u) a → MovesTo ask b.waits (reply (to_stage b k s) u a)
  heard_moves b k e u s a f x n h = record {
    fit = told ask b.buffers (to_stage b k s).entries b.waits u (Due a)
        (less ask b.buffers b.buffers b.entries (to_stage b k s).entries b.waits f (all_kept b.buffers) (stage_none_new s n k b.entries))
        (idle_after ask b.buffers b.entries b.waits s k e u n f x) h;
    ready = ready_set b.waits u (Due a) (ap ready_at (f.waiting k e u x)) refl;
    count = length-set b.waits u (Due a);
  }

  effect_moves : (out : OutcomeOf) (b : Board) (k : ℕ) (e : Entry) (w : Work) → FitsBoard ask b → slice_get b.entries k ≡ Some e → is_pending e.stage ≡ true → e.work ≡ w → MovesTo ask b.waits (effect out b k e w)
  unfolding effect
  effect_moves out b k e (Node n q c) f g p i = took_moves b k e.needs (out c (inputs b.buffers e.needs)) f
  effect_moves out b k e (Access u j) f g p i =
      let x : Waited b.entries k e u = record { at = g; pending = p; owned = ap owner i } in
      heard_moves b k e u stage.Granted (Contents (first_of (inputs b.buffers e.needs))) f x refl
      (opening_fits (ask u) b.buffers e.needs (subst (λ y. IsAsked (ask u) b.buffers e.needs y) i (f.asked k e u x)))
  effect_moves out b k e (End u r) f g p i =
      let x : Waited b.entries k e u = record { at = g; pending = p; owned = ap owner i } in
      heard_moves b k e u stage.Done (Contents (values_at b.buffers r)) f x refl
      (contents_fit (ask u) b.buffers r (subst (λ y. IsAsked (ask u) b.buffers e.needs y) i (f.asked k e u x)))

  and_first : (a b : Bool) → (a && b) ≡ true → a ≡ true
  and_first true b h = refl
  and_first false b h = h

  free_pending : (es : List Entry) (k : ℕ) (e : Entry) → is_free es k e ≡ true → is_pending e.stage ≡ true
  unfolding is_free
  free_pending es k e h = and_first (is_pending e.stage) (not (is_held (take k es) e)) h

  chosen_moves : (out : OutcomeOf) (b : Board) (k : ℕ) (e : Entry) (v : Bool) → FitsBoard ask b → slice_get b.entries k ≡ Some e → is_free b.entries k e ≡ v → MovesTo ask b.waits (if v then effect out b k e e.work else b)
  chosen_moves out b k e true f g h = effect_moves out b k e e.work f g (free_pending b.entries k e h) refl
  chosen_moves out b k e false f g h = unmoved b f

  entry_moves : (out : OutcomeOf) (b : Board) (k : ℕ) (o : Option Entry) → FitsBoard ask b → slice_get b.entries k ≡ o → MovesTo ask b.waits (settle_entry out b k o)
  unfolding settle_entry
  entry_moves out b k None f g = unmoved b f
  entry_moves out b k (Some e) f g = chosen_moves out b k e (is_free b.entries k e) f g refl

  upto_moves : (out : OutcomeOf) (b : Board) (n : ℕ) → FitsBoard ask b → MovesTo ask b.waits (settle_upto out b n)
  upto_moves out b zero f = unmoved b f
  upto_moves out b (suc n) f =
      let m = upto_moves out b n f in
      let c = settle_upto out b n in
      onward b.waits c (settle_upto out b (suc n)) m (entry_moves out c n (slice_get c.entries n) m.fit refl)

  pub settle_moves : (out : OutcomeOf) (b : Board) → FitsBoard ask b → MovesTo ask b.waits (settle out b)
  settle_moves out b f = upto_moves out b (length b.entries) f

  suits_given : (b : Board) → FitsBoard ask b → (u : ℕ) (w : Waits) → slice_get (map (given b) b.waits) u ≡ Some w → Suits b.buffers (ask u) w
  suits_given b f u w h =
      let m = map_at (given b) b.waits u w h in
      subst (λ y. Suits b.buffers (ask u) y) m.made (due_suits (ask u) b m.from (f.suits u m.from m.at))

  given_moves : (b : Board) → FitsBoard ask b → Moves ask b.waits b.buffers b.entries (map (given b) b.waits)
  given_moves b f = record {
    fit = record {
      suits = suits_given b f;
      waiting = λ k e u x. slice_get-map (given b) b.waits u ∙ ap (option_map (given b)) (f.waiting k e u x);
      asked = f.asked;
      once = f.once;
    };
    ready = λ u. ap ready_at (slice_get-map (given b) b.waits u) ∙ same_ready b (slice_get b.waits u);
    count = length-map b.waits (given b);
  }

  pub give_moves : (b : Board) → FitsBoard ask b → MovesTo ask b.waits (give_all b)
  unfolding give_all
  give_moves b f = given_moves b f
