-- What settling changes nothing of.
use Rattle.std.proofs.Common.{◌≡◌, ℕ, zero, suc, List, [], ◌∷◌, length, map, Bool, true, false, Option, Some, None, refl, sym, ap, ◌∙◌, subst, inl, inr}
use Rattle.std.specs.Prelude.{slice_get}
use Rattle.std.proofs.lemmas.Bool.{cases_Bool}
use Rattle.sy_work.specs.Programs.{OutcomeOf}
use Rattle.sy_work.specs.declared.asks.Ask.{Ask}
use Rattle.sy_onecopy.specs.declared.Buffer.{Buffer}
use Rattle.sy_onecopy.specs.declared.Origin.{Origin}
use Rattle.sy_onecopy.specs.declared.Entry.{Entry}
use Rattle.sy_onecopy.specs.declared.Stage.{Stage}
use Rattle.sy_onecopy.specs.declared.Stage.TheVariants.{Pending}
use Rattle.sy_onecopy.specs.Each.{changed_at}
use Rattle.sy_needs.specs.Each.{each_from}
use Rattle.sy_onecopy.specs.State.{Board}
use Rattle.sy_onecopy.specs.Before.{is_free}
use Rattle.sy_onecopy.specs.Settle.{with_stage, effect, settle_entry, settle_upto, settle}
use Rattle.sy_onecopy.specs.Step.{apply}
use Rattle.sy_settling.specs.Orderly.{IsOrderly, MayAsk, IsAlike, shape}
use Rattle.sy_settling.proofs.ListLemmas.{length-each}
use Rattle.sy_settling.proofs.ElementLemmas.{Cells, buffer_by}
use Rattle.sy_settling.proofs.EffectLemmas.{Act, told-other, after}
use Rattle.sy_settling.proofs.OrderlyEffectLemmas.{act_at, effect-act, Ready}
use Rattle.sy_settling.proofs.SettleLemmas.{entry-none, entry-free, settle-keeps}
use Rattle.sy_settling.proofs.AskLemmas.{untold, told-length}
use Rattle.sy_settling.proofs.SettledAskLemmas.{scene, may_ask-effect, apply-effect}

alike-itself : (b : Board) → IsAlike b b
alike-itself b = record { buffers = refl; queues = refl; places = refl; entries = refl; nodes = refl; threads = refl; output = refl; ended = refl; steps = refl }

alike-trans : (b c d : Board) → IsAlike b c → IsAlike c d → IsAlike b d
alike-trans b c d f g = record {
  buffers = f.buffers ∙ g.buffers;
  queues = f.queues ∙ g.queues;
  places = f.places ∙ g.places;
  entries = f.entries ∙ g.entries;
  nodes = f.nodes ∙ g.nodes;
  threads = f.threads ∙ g.threads;
  output = f.output ∙ g.output;
  ended = f.ended ∙ g.ended;
  steps = f.steps ∙ g.steps;
}

shapes-mapped : (h : Cells) (m : ℕ) (xs : List Buffer) → map shape xs ≡ map shape (each_from (buffer_by h) m xs)
shapes-mapped h m [] = refl
shapes-mapped h m (x ∷ xs) =
    ap (λ n. (let y : ℕ × Origin × Bool = (n, x.origin, x.ended) in y) ∷ map shape xs) (sym (length-each (h m) 0 x.values))
    ∙ ap (λ l. shape (buffer_by h m x) ∷ l) (shapes-mapped h (suc m) xs)

staged-map : (s : Stage) (k : ℕ) (xs : List Entry) → map (with_stage Pending) xs ≡ map (with_stage Pending) (changed_at (with_stage s) k xs)
staged-map s k [] = refl
staged-map s zero (x ∷ xs) = refl
staged-map s (suc k) (x ∷ xs) = ap (λ l. with_stage Pending x ∷ l) (staged-map s k xs)

alike-after : (b : Board) (a : Act) (k : ℕ) → IsAlike b (after a k b)
alike-after b a k = record {
  buffers = shapes-mapped a.cells 0 b.buffers;
  queues = refl;
  places = refl;
  entries = staged-map a.stage k b.entries;
  nodes = refl;
  threads = sym (told-length a.due b.waits);
  output = refl;
  ended = refl;
  steps = refl;
}

alike-effect : (out : OutcomeOf) (b : Board) (k : ℕ) (e : Entry) → IsAlike b (effect out b k e e.work)
alike-effect out b k e = subst (IsAlike b) (sym (effect-act out b k e)) (alike-after b (act_at out b e) k)

alike-entry : (out : OutcomeOf) (b : Board) (k : ℕ) (o : Option Entry) → IsAlike b (settle_entry out b k o)
alike-entry out b k None = subst (IsAlike b) (sym (entry-none out b k)) (alike-itself b)
alike-entry out b k (Some e) = elim (cases_Bool (is_free b.entries k e)) [
  | inl f ↦ subst (IsAlike b) (sym (entry-free out b k e true f)) (alike-effect out b k e)
  | inr f ↦ subst (IsAlike b) (sym (entry-free out b k e false f)) (alike-itself b)
]

alike-upto : (out : OutcomeOf) (b : Board) (n : ℕ) → IsAlike b (settle_upto out b n)
alike-upto out b zero = alike-itself b
alike-upto out b (suc n) =
    let c = settle_upto out b n in
    alike-trans b c (settle_upto out b (suc n)) (alike-upto out b n) (alike-entry out c n (slice_get c.entries n))

pub alike-settle : (out : OutcomeOf) (b : Board) → IsAlike b (settle out b)
alike-settle out b = alike-upto out b (length b.entries)

-- ---- what an ask gives

record SameAsk (b c : Board) (t : ℕ) (q : Ask) : Type 0 where
  may : MayAsk c t q
  alike : IsAlike (apply b t q) (apply c t q)
  answer : slice_get (apply c t q).waits t ≡ slice_get (apply b t q).waits t

same-effect : (out : OutcomeOf) (b c : Board) (k : ℕ) (e : Entry) (t : ℕ) (q : Ask) → SameAsk b c t q → Ready c k e → SameAsk b (effect out c k e e.work) t q
same-effect out b c k e t q s r =
    let a = act_at out c e in
    let d = apply c t q in
    let is = apply-effect out c k e t q s.may r in
    record {
      may = may_ask-effect out c k e t q s.may r;
      alike = subst (IsAlike (apply b t q)) (sym is) (alike-trans (apply b t q) d (after a k d) s.alike (alike-after d a k));
      answer = ap (λ z. slice_get z.waits t) is ∙ told-other a.due d.waits t (untold c a k e t (scene out c k e t s.may.idle r)) ∙ s.answer;
    }

same-ask : (out : OutcomeOf) (b : Board) (t : ℕ) (q : Ask) → IsOrderly b → MayAsk b t q → SameAsk b (settle out b) t q
same-ask out b t q o m =
    settle-keeps (λ c. SameAsk b c t q) out (λ c k e s r. same-effect out b c k e t q s r) b o (record { may = m; alike = alike-itself (apply b t q); answer = refl })

pub alike-ask : (out : OutcomeOf) (b : Board) (t : ℕ) (q : Ask) → IsOrderly b → MayAsk b t q → IsAlike (apply b t q) (apply (settle out b) t q)
alike-ask out b t q o m = (same-ask out b t q o m).alike

pub same-answer : (out : OutcomeOf) (b : Board) (t : ℕ) (q : Ask) → IsOrderly b → MayAsk b t q → slice_get (apply (settle out b) t q).waits t ≡ slice_get (apply b t q).waits t
same-answer out b t q o m = (same-ask out b t q o m).answer
