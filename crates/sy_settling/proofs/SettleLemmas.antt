-- Effects before a pass, and changes that commute with them.
use Rattle.std.proofs.Common.{◌≡◌, ◌≢◌, ℕ, zero, suc, ◌+◌, ◌-◌, ◌<◌, ◌≤◌, List, length, take, Bool, true, false, Option, Some, None, refl, sym, ap, ◌∙◌, subst, inl, inr, arith}
use Rattle.std.specs.Prelude.{⊤, slice_get, option_map, if◌then◌else◌, not, ◌&&◌}
use Rattle.std.proofs.lemmas.Bool.{cases_Bool}
use Rattle.std.proofs.lemmas.Option.{slice_get_within}
use Rattle.sy_work.specs.Programs.{OutcomeOf}
use Rattle.sy_onecopy.specs.declared.Entry.{Entry}
use Rattle.sy_onecopy.specs.Each.{changed_at}
use Rattle.sy_onecopy.specs.State.{Board}
use Rattle.sy_onecopy.specs.Before.{is_pending, is_held, is_free}
use Rattle.sy_onecopy.specs.Settle.{with_stage, effect, settle_entry, settle_one, settle_upto, settle}
use Rattle.sy_settling.specs.Orderly.{IsOrderly}
use Rattle.sy_settling.proofs.ListLemmas.{get-changed, get-changed_other, length-changed, take-changed_past}
use Rattle.sy_settling.proofs.FreeLemmas.{free-pending, pending-open, free-changed}
use Rattle.sy_settling.proofs.OrderlyEffectLemmas.{act_at, act_at-of, effect-act, Ready, orderly-effect, effects-swap}

pub effect-entries : (out : OutcomeOf) (b : Board) (k : ℕ) (e : Entry) → (effect out b k e e.work).entries ≡ changed_at (with_stage (act_at out b e).stage) k b.entries
effect-entries out b k e = ap (λ z. z.entries) (effect-act out b k e)

pub is_free-front : (xs ys : List Entry) (k : ℕ) (e : Entry) → take k xs ≡ take k ys → is_free xs k e ≡ is_free ys k e
unfolding is_free
is_free-front xs ys k e p = ap (λ l. is_pending e.stage && not (is_held l e)) p

-- an effect leaves another entry as it was, and free
pub ready-other : (out : OutcomeOf) (b : Board) (j k : ℕ) (x y : Entry) → j ≢ k → Ready b j x → Ready b k y → Ready (effect out b j x x.work) k y
ready-other out b j k x y ne rx ry =
    let s = (act_at out b x).stage in
    record {
      orderly = orderly-effect out b j x rx;
      at = ap (λ l. slice_get l k) (effect-entries out b j x) ∙ get-changed_other (with_stage s) j k b.entries (λ e. ne (sym e)) ∙ ry.at;
      free = ap (λ l. is_free l k y) (effect-entries out b j x) ∙ free-changed s j k b.entries x y rx.at (pending-open x.stage (free-pending b.entries j x rx.free)) ry.free;
    }

-- ---- one place of a pass

pub entry-free : (out : OutcomeOf) (b : Board) (k : ℕ) (e : Entry) (v : Bool) → is_free b.entries k e ≡ v → settle_entry out b k (Some e) ≡ (if v then effect out b k e e.work else b)
unfolding settle_entry
entry-free out b k e v h = ap (λ t. if t then effect out b k e e.work else b) h

pub entry-none : (out : OutcomeOf) (b : Board) (k : ℕ) → settle_entry out b k None ≡ b
unfolding settle_entry
entry-none out b k = refl

step_found : (P : Board → Type 0) (out : OutcomeOf) (b : Board) (n : ℕ) (v : Option Entry) → slice_get b.entries n ≡ v → IsOrderly b → P b → ((x : Entry) → Ready b n x → P (effect out b n x x.work)) → P (settle_entry out b n v)
step_found P out b n None g o here there = subst P (sym (entry-none out b n)) here
step_found P out b n (Some x) g o here there = elim (cases_Bool (is_free b.entries n x)) [
  | inl f ↦ subst P (sym (entry-free out b n x true f)) (there x (record { orderly = o; at = g; free = f }))
  | inr f ↦ subst P (sym (entry-free out b n x false f)) here
]

-- one place of a pass changes nothing or makes an effect
step-one : (P : Board → Type 0) (out : OutcomeOf) (b : Board) (n : ℕ) → IsOrderly b → P b → ((x : Entry) → Ready b n x → P (effect out b n x x.work)) → P (settle_one out n b)
step-one P out b n o here there = step_found P out b n (slice_get b.entries n) refl o here there

-- what each effect keeps a pass keeps
pub upto-keeps : (P : Board → Type 0) (out : OutcomeOf) → ((c : Board) (n : ℕ) (x : Entry) → P c → Ready c n x → P (effect out c n x x.work)) → (b : Board) (n : ℕ) → IsOrderly b → P b → IsOrderly (settle_upto out b n) × P (settle_upto out b n)
upto-keeps P out h b zero o p = (o, p)
upto-keeps P out h b (suc n) o p =
    let before = upto-keeps P out h b n o p in
    step-one (λ c. IsOrderly c × P c) out (settle_upto out b n) n before.0 before
    (λ x r. (orderly-effect out (settle_upto out b n) n x r, h (settle_upto out b n) n x before.1 r))

pub settle-keeps : (P : Board → Type 0) (out : OutcomeOf) → ((c : Board) (n : ℕ) (x : Entry) → P c → Ready c n x → P (effect out c n x x.work)) → (b : Board) → IsOrderly b → P b → P (settle out b)
settle-keeps P out h b o p = (upto-keeps P out h b (length b.entries) o p).1

pub orderly-settle : (out : OutcomeOf) (b : Board) → IsOrderly b → IsOrderly (settle out b)
orderly-settle out b o = (upto-keeps (λ c. ⊤) out (λ c n x p r. tt) b (length b.entries) o tt).0

-- ---- an effect before a pass

ready-one : (out : OutcomeOf) (b : Board) (n k : ℕ) (e : Entry) → n ≢ k → Ready b k e → Ready (settle_one out n b) k e
ready-one out b n k e ne r = step-one (λ c. Ready c k e) out b n r.orderly r (λ x rx. ready-other out b n k x e ne rx r)

ready-upto : (out : OutcomeOf) (b : Board) (n k : ℕ) (e : Entry) → n ≤ k → Ready b k e → Ready (settle_upto out b n) k e
ready-upto out b zero k e le r = r
ready-upto out b (suc n) k e le r = ready-one out (settle_upto out b n) n k e (λ q. absurd (omega arith)) (ready-upto out b n k e (omega arith) r)

other_found : (out : OutcomeOf) (b : Board) (n k : ℕ) (e : Entry) (v : Option Entry) → slice_get b.entries n ≡ v → n < k → Ready b k e → settle_entry out (effect out b k e e.work) n v ≡ effect out (settle_entry out b n v) k e e.work
other_found out b n k e None g lt r = entry-none out (effect out b k e e.work) n ∙ ap (λ c. effect out c k e e.work) (sym (entry-none out b n))
other_found out b n k e (Some x) g lt r = elim (cases_Bool (is_free b.entries n x)) [
  | inl f ↦
      let ne : k ≢ n = λ q. absurd (omega arith) in
      let rx : Ready b n x = record { orderly = r.orderly; at = g; free = f } in
      entry-free out (effect out b k e e.work) n x true (ready-other out b k n e x ne r rx).free
      ∙ effects-swap out b k n e x ne r rx
      ∙ ap (λ c. effect out c k e e.work) (sym (entry-free out b n x true f))
  | inr f ↦
      let front : take n (effect out b k e e.work).entries ≡ take n b.entries = ap (take n) (effect-entries out b k e) ∙ take-changed_past (with_stage (act_at out b e).stage) n k b.entries (omega arith) in
      entry-free out (effect out b k e e.work) n x false (is_free-front (effect out b k e e.work).entries b.entries n x front ∙ f)
      ∙ ap (λ c. effect out c k e e.work) (sym (entry-free out b n x false f))
]

other_one : (out : OutcomeOf) (b : Board) (n k : ℕ) (e : Entry) → n < k → Ready b k e → settle_one out n (effect out b k e e.work) ≡ effect out (settle_one out n b) k e e.work
other_one out b n k e lt r =
    let ne : n ≢ k = λ q. absurd (omega arith) in
    ap (settle_entry out (effect out b k e e.work) n) (ap (λ l. slice_get l n) (effect-entries out b k e) ∙ get-changed_other (with_stage (act_at out b e).stage) k n b.entries ne)
    ∙ other_found out b n k e (slice_get b.entries n) refl lt r

upto-effect : (out : OutcomeOf) (b : Board) (n k : ℕ) (e : Entry) → n ≤ k → Ready b k e → settle_upto out (effect out b k e e.work) n ≡ effect out (settle_upto out b n) k e e.work
upto-effect out b zero k e le r = refl
upto-effect out b (suc n) k e le r =
    ap (settle_one out n) (upto-effect out b n k e (omega arith) r)
    ∙ other_one out (settle_upto out b n) n k e (omega arith) (ready-upto out b n k e (omega arith) r)

-- at its own place the effect is made, and once
now : (out : OutcomeOf) (b : Board) (k : ℕ) (e : Entry) → Ready b k e → settle_one out k b ≡ effect out b k e e.work
now out b k e r = ap (settle_entry out b k) r.at ∙ entry-free out b k e true r.free

no_longer : (s : List Entry) (k : ℕ) (e : Entry) → is_pending e.stage ≡ false → is_free s k e ≡ false
unfolding is_free
no_longer s k e p = ap (λ t. t && not (is_held (take k s) e)) p

once : (out : OutcomeOf) (b : Board) (k : ℕ) (e : Entry) → Ready b k e → settle_one out k (effect out b k e e.work) ≡ effect out b k e e.work
once out b k e r =
    let s = (act_at out b e).stage in
    let c = effect out b k e e.work in
    ap (settle_entry out c k) (ap (λ l. slice_get l k) (effect-entries out b k e) ∙ get-changed (with_stage s) k b.entries ∙ ap (option_map (with_stage s)) r.at)
    ∙ entry-free out c k (with_stage s e) false (no_longer c.entries k (with_stage s e) (act_at-of out b e).moves)

here_same : (out : OutcomeOf) (b : Board) (k : ℕ) (e : Entry) → Ready b k e → settle_upto out (effect out b k e e.work) (suc k) ≡ settle_upto out b (suc k)
here_same out b k e r =
    let c = settle_upto out b k in
    let rc = ready-upto out b k k e (omega arith) r in
    ap (settle_one out k) (upto-effect out b k k e (omega arith) r) ∙ once out c k e rc ∙ sym (now out c k e rc)

same-on : (out : OutcomeOf) (b c : Board) (n m : ℕ) → settle_upto out b n ≡ settle_upto out c n → settle_upto out b (n + m) ≡ settle_upto out c (n + m)
same-on out b c n zero h = subst (λ i. settle_upto out b i ≡ settle_upto out c i) (let e : n ≡ n + 0 = omega arith in e) h
same-on out b c n (suc m) h =
    subst (λ i. settle_upto out b i ≡ settle_upto out c i) (let e : suc (n + m) ≡ n + suc m = omega arith in e) (ap (settle_one out (n + m)) (same-on out b c n m h))

-- an entry that may takes effect, and the board settles: that is settling
pub effect-settle : (out : OutcomeOf) (b : Board) (k : ℕ) (e : Entry) → Ready b k e → settle out (effect out b k e e.work) ≡ settle out b
effect-settle out b k e r =
    let n = length b.entries in
    let lt : k < n = slice_get_within b.entries k e r.at in
    let as_long : length (effect out b k e e.work).entries ≡ n = ap length (effect-entries out b k e) ∙ length-changed (with_stage (act_at out b e).stage) k b.entries in
    ap (settle_upto out (effect out b k e e.work)) as_long
    ∙ subst (λ i. settle_upto out (effect out b k e e.work) i ≡ settle_upto out b i) (let q : suc k + (n - suc k) ≡ n = omega arith in q)
    (same-on out (effect out b k e e.work) b (suc k) (n - suc k) (here_same out b k e r))

-- ---- a change that each effect commutes with

pub record Passes (out : OutcomeOf) (P : Board → Type 0) (g : Board → Board) : Type 0 where
  pub keeps : (b : Board) (k : ℕ) (e : Entry) → P b → Ready b k e → P (effect out b k e e.work)
  pub readies : (b : Board) (k : ℕ) (e : Entry) → P b → Ready b k e → Ready (g b) k e
  pub commutes : (b : Board) (k : ℕ) (e : Entry) → P b → Ready b k e → effect out (g b) k e e.work ≡ g (effect out b k e e.work)

pub passes-settle : (out : OutcomeOf) (P : Board → Type 0) (g : Board → Board) → Passes out P g → (b : Board) → IsOrderly b → P b → settle out (g (settle out b)) ≡ settle out (g b)
passes-settle out P g h b o p =
    (settle-keeps (λ c. P c × (settle out (g c) ≡ settle out (g b))) out
    (λ c n x q r. (h.keeps c n x q.0 r, ap (settle out) (sym (h.commutes c n x q.0 r)) ∙ effect-settle out (g c) n x (h.readies c n x q.0 r) ∙ q.1)) b o (p, refl)).1
