-- An ask before settling and after it.
use Rattle.std.proofs.Common.{◌≡◌, ℕ, zero, suc, List, [], ◌∷◌, length, true, false, Option, Some, None, refl, sym, ap, ◌∙◌, subst, inl, inr}
use Rattle.std.specs.Prelude.{slice_get, not, ◌&&◌}
use Rattle.std.specs.List.{list_any}
use Rattle.std.proofs.lemmas.Bool.{cases_Bool}
use Rattle.sy_work.specs.Programs.{OutcomeOf}
use Rattle.sy_work.specs.declared.asks.Ask.{Ask}
use Rattle.sy_work.specs.declared.asks.Ask.TheVariants.{ThrowQueue}
use Rattle.sy_onecopy.specs.declared.Entry.{Entry}
use Rattle.sy_onecopy.specs.declared.Stage.{Stage}
use Rattle.sy_onecopy.specs.declared.Waits.{Waits}
use Rattle.sy_onecopy.specs.declared.Waits.TheVariants.{Never}
use Rattle.sy_onecopy.specs.Each.{changed_at}
use Rattle.sy_onecopy.specs.State.{Board}
use Rattle.sy_onecopy.specs.Before.{is_done, is_free}
use Rattle.sy_onecopy.specs.Settle.{await, with_stage, effect, settle_entry, settle_one, settle_upto, settle}
use Rattle.sy_onecopy.specs.Step.{apply, begin_ask, is_node_on}
use Rattle.sy_onecopy.specs.Sequence.{is_clear, has_open_node_on}
use Rattle.sy_settling.specs.Orderly.{IsAt, is_idle, IsOrderly, MayAsk}
use Rattle.sy_settling.proofs.ListLemmas.{or_left, or_right, or_false, some_is, not_true, no_left}
use Rattle.sy_settling.proofs.EffectLemmas.{Act, told-other, after}
use Rattle.sy_settling.proofs.FreeLemmas.{free-pending}
use Rattle.sy_settling.proofs.OrderlyEffectLemmas.{act_at, act_at-acts, act_at-seen, effect-act, Ready}
use Rattle.sy_settling.proofs.SettleLemmas.{entry-none, entry-free, upto-keeps, Passes, passes-settle}
use Rattle.sy_settling.proofs.AskLemmas.{Scene, untold, await-after, apply-after, off_queue}
use Rattle.sy_settling.proofs.OrderlyAskLemmas.{ready-go, apply-follows}

pub scene : (out : OutcomeOf) (b : Board) (k : ℕ) (e : Entry) (t : ℕ) → is_idle (slice_get b.waits t) ≡ true → Ready b k e → Scene b (act_at out b e) k e t
scene out b k e t i r = record { orderly = r.orderly; acts = act_at-acts out b k e r.at r.free; pending = free-pending b.entries k e r.free; idle = i }

-- ---- the thread still may ask

idle-effect : (out : OutcomeOf) (b : Board) (k : ℕ) (e : Entry) (t : ℕ) → is_idle (slice_get b.waits t) ≡ true → Ready b k e → is_idle (slice_get (effect out b k e e.work).waits t) ≡ true
idle-effect out b k e t i r =
    let a = act_at out b e in
    ap (λ z. is_idle (slice_get z.waits t)) (effect-act out b k e)
    ∙ ap is_idle (told-other a.due b.waits t (untold b a k e t (scene out b k e t i r)))
    ∙ i

clear-changed : (q : ℕ) (s : Stage) (k : ℕ) (xs : List Entry) (e : Entry) → IsAt xs k e → is_node_on q e.work ≡ false → has_open_node_on xs q ≡ false → has_open_node_on (changed_at (with_stage s) k xs) q ≡ false
unfolding has_open_node_on
clear-changed q s k [] e g n h = refl
clear-changed q s zero (x ∷ xs) e g n h =
    let at : is_node_on q x.work ≡ false = ap (λ (y : Entry). is_node_on q y.work) (some_is g) ∙ n in
    or_false (is_node_on q x.work && not (is_done s)) (list_any (λ y. is_node_on q y.work && not (is_done y.stage)) xs) (no_left (is_node_on q x.work) (not (is_done s)) at)
    (or_right (is_node_on q x.work && not (is_done x.stage)) (list_any (λ y. is_node_on q y.work && not (is_done y.stage)) xs) h)
clear-changed q s (suc k) (x ∷ xs) e g n h =
    let rest = list_any (λ y. is_node_on q y.work && not (is_done y.stage)) xs in
    let first = is_node_on q x.work && not (is_done x.stage) in
    or_false first (list_any (λ y. is_node_on q y.work && not (is_done y.stage)) (changed_at (with_stage s) k xs)) (or_left first rest h) (clear-changed q s k xs e g n (or_right first rest h))

clear-after : (b : Board) (a : Act) (k : ℕ) (e : Entry) (t : ℕ) (q : Ask) → Scene b a k e t → is_clear b q ≡ true → is_clear (after a k b) q ≡ true
clear-after b a k e t (ThrowQueue q) s h =
    let c = not_true (has_open_node_on b.entries q) h in
    ap not (clear-changed q a.stage k b.entries e s.acts.at (off_queue q k b.entries e s.acts.at s.acts.undone c) c)
clear-after b a k e t q s h = refl

pub may_ask-effect : (out : OutcomeOf) (b : Board) (k : ℕ) (e : Entry) (t : ℕ) (q : Ask) → MayAsk b t q → Ready b k e → MayAsk (effect out b k e e.work) t q
may_ask-effect out b k e t q m r = record {
  idle = idle-effect out b k e t m.idle r;
  clear = subst (λ z. is_clear z q ≡ true) (sym (effect-act out b k e)) (clear-after b (act_at out b e) k e t q (scene out b k e t m.idle r) m.clear);
}

-- ---- the ask and an effect

pub apply-effect : (out : OutcomeOf) (b : Board) (k : ℕ) (e : Entry) (t : ℕ) (q : Ask) → MayAsk b t q → Ready b k e → apply (effect out b k e e.work) t q ≡ after (act_at out b e) k (apply b t q)
apply-effect out b k e t q m r =
    ap (λ z. apply z t q) (effect-act out b k e) ∙ sym (apply-after b (act_at out b e) k e t q (scene out b k e t m.idle r) m.clear)

pub commutes : (out : OutcomeOf) (b : Board) (k : ℕ) (e : Entry) (t : ℕ) (q : Ask) → MayAsk b t q → Ready b k e → effect out (apply b t q) k e e.work ≡ apply (effect out b k e e.work) t q
commutes out b k e t q m r =
    effect-act out (apply b t q) k e
    ∙ ap (λ a. after a k (apply b t q)) (act_at-seen out b (apply b t q) e ((apply-follows b t q m.idle).sees k e r))
    ∙ sym (apply-effect out b k e t q m r)

pub asks-pass : (out : OutcomeOf) (t : ℕ) (q : Ask) → Passes out (λ b. MayAsk b t q) (λ b. apply b t q)
asks-pass out t q = record {
  keeps = λ b k e m r. may_ask-effect out b k e t q m r;
  readies = λ b k e m r. ready-go b (apply b t q) k e (apply-follows b t q m.idle) r;
  commutes = λ b k e m r. commutes out b k e t q m r;
}

pub ask-settle : (out : OutcomeOf) (b : Board) (t : ℕ) (q : Ask) → IsOrderly b → MayAsk b t q → settle out (apply (settle out b) t q) ≡ settle out (apply b t q)
ask-settle out b t q o m = passes-settle out (λ c. MayAsk c t q) (λ c. apply c t q) (asks-pass out t q) b o m

-- ---- a thread that waits for something else

abbrev pub marked : (ℕ → ℕ) → Board → ℕ → Waits → Board
marked f b t w = await (record b { steps = f b.steps }) t w

marked-effect : (out : OutcomeOf) (f : ℕ → ℕ) (b : Board) (k : ℕ) (e : Entry) (t : ℕ) (w : Waits) → is_idle (slice_get b.waits t) ≡ true → Ready b k e → effect out (marked f b t w) k e e.work ≡ marked f (effect out b k e e.work) t w
marked-effect out f b k e t w i r =
    let a = act_at out b e in
    effect-act out (marked f b t w) k e
    ∙ ap (λ z. after z k (marked f b t w)) (act_at-seen out b (marked f b t w) e refl)
    ∙ await-after (record b { steps = f b.steps }) a k t w (untold b a k e t (scene out b k e t i r))
    ∙ ap (λ z. marked f z t w) (sym (effect-act out b k e))

marked_found : (out : OutcomeOf) (f : ℕ → ℕ) (b : Board) (n t : ℕ) (w : Waits) (v : Option Entry) → slice_get b.entries n ≡ v → IsOrderly b → is_idle (slice_get b.waits t) ≡ true → settle_entry out (marked f b t w) n v ≡ marked f (settle_entry out b n v) t w
marked_found out f b n t w None g o i = entry-none out (marked f b t w) n ∙ ap (λ z. marked f z t w) (sym (entry-none out b n))
marked_found out f b n t w (Some x) g o i = elim (cases_Bool (is_free b.entries n x)) [
  | inl v ↦
      entry-free out (marked f b t w) n x true v ∙ marked-effect out f b n x t w i (record { orderly = o; at = g; free = v })
      ∙ ap (λ z. marked f z t w) (sym (entry-free out b n x true v))
  | inr v ↦ entry-free out (marked f b t w) n x false v ∙ ap (λ z. marked f z t w) (sym (entry-free out b n x false v))
]

marked-upto : (out : OutcomeOf) (f : ℕ → ℕ) (b : Board) (n t : ℕ) (w : Waits) → IsOrderly b → is_idle (slice_get b.waits t) ≡ true → settle_upto out (marked f b t w) n ≡ marked f (settle_upto out b n) t w
marked-upto out f b zero t w o i = refl
marked-upto out f b (suc n) t w o i =
    let c = settle_upto out b n in
    let k = upto-keeps (λ z. is_idle (slice_get z.waits t) ≡ true) out (λ z m x p r. idle-effect out z m x t p r) b n o i in
    ap (settle_one out n) (marked-upto out f b n t w o i) ∙ marked_found out f c n t w (slice_get c.entries n) refl k.0 k.1

pub begin_ask-settle : (out : OutcomeOf) (b : Board) (t : ℕ) → IsOrderly b → is_idle (slice_get b.waits t) ≡ true → settle out (begin_ask b t) ≡ begin_ask (settle out b) t
begin_ask-settle out b t o i = marked-upto out suc b (length b.entries) t Never o i

pub await-settle : (out : OutcomeOf) (b : Board) (t : ℕ) (w : Waits) → IsOrderly b → is_idle (slice_get b.waits t) ≡ true → settle out (await b t w) ≡ await (settle out b) t w
await-settle out b t w o i = marked-upto out (λ n. n) b (length b.entries) t w o i
