-- A step on a board with deferred effects.
use Rattle.std.proofs.Common.{◌≡◌, ◌≢◌, ℕ, zero, suc, ◌<◌, ℤ, List, [], ◌∷◌, length, map, set, Bool, true, false, Option, Some, None, ◌⊎◌, refl, sym, ap, ◌∙◌, subst, inl, inr, arith}
use Rattle.std.specs.Prelude.{slice_get, if◌then◌else◌}
use Rattle.std.proofs.lemmas.List.{length-set}
use Rattle.std.proofs.lemmas.Bool.{cases_eq}
use Rattle.std.proofs.lemmas.Option.{slice_get_within}
use Rattle.sy_work.specs.Programs.{OutcomeOf}
use Rattle.sy_work.specs.declared.asks.Ask.{Ask}
use Rattle.sy_work.specs.declared.asks.Ask.TheVariants.{ThrowQueue}
use Rattle.sy_work.specs.declared.asks.Answer.TheVariants.{Done as Answered}
use Rattle.sy_onecopy.specs.declared.Waits.{Waits}
use Rattle.sy_onecopy.specs.declared.Waits.TheVariants.{Due, Ready as NoWait, OnEntry, OnNode, OnQueue, OnThread, Never, Finished}
use Rattle.sy_onecopy.specs.State.{Board}
use Rattle.sy_onecopy.specs.Settle.{await, effect, settle}
use Rattle.sy_onecopy.specs.Step.{apply, begin_ask, is_due, has_finished, given, give_all, once_heard, turn, node_done, queue_done}
use Rattle.sy_onecopy.specs.Sequence.{is_clear}
use Rattle.sy_settling.specs.Orderly.{is_idle, IsOrderly, MayAsk, heard, quiesce}
use Rattle.sy_settling.proofs.ListLemmas.{set_is, set-same, get-set, get-set_other, some_is}
use Rattle.sy_settling.proofs.EffectLemmas.{told-other}
use Rattle.sy_settling.proofs.FreeLemmas.{free-pending, pending-open}
use Rattle.sy_settling.proofs.OrderlyEffectLemmas.{act_at, effect-act}
use Rattle.sy_settling.proofs.SettleLemmas.{settle-keeps, orderly-settle}
use Rattle.sy_settling.proofs.AskLemmas.{untold}
use Rattle.sy_settling.proofs.OrderlyAskLemmas.{Lasts, lasts-trans, lasts-same, lasts-after, buffers-stay, waits-set, orderly-same, apply-follows}
use Rattle.sy_settling.proofs.SettledAskLemmas.{scene, may_ask-effect, ask-settle, begin_ask-settle, await-settle}
use Rattle.sy_settling.proofs.LegalOrderLemmas.{orderly-begin_ask, orderly-apply, clear_begun, idle_begun}
use Rattle.sy_settling.proofs.WaitLemmas.{awaits-swap, apply-told}

-- ---- waits that are over

unfoldable pub told_all : Board → Board
told_all d = heard (give_all d)

unfinished : (xs : List Waits) (u : ℕ) → has_finished (slice_get (set xs u NoWait) u) ≡ false
unfinished [] u = refl
unfinished (x ∷ xs) zero = refl
unfinished (x ∷ xs) (suc u) = unfinished xs u

finished_told : (xs : List Waits) (u v : ℕ) → has_finished (slice_get xs u) ≡ false → has_finished (slice_get (set xs u NoWait) v) ≡ has_finished (slice_get xs v)
finished_told xs u v h = elim (cases_eq v u) [
  | inl e ↦ subst (λ i. has_finished (slice_get (set xs u NoWait) i) ≡ has_finished (slice_get xs i)) (sym e) (unfinished xs u ∙ sym h)
  | inr ne ↦ ap has_finished (get-set_other xs u v NoWait ne)
]

due_told : (d : Board) (u : ℕ) (x : Waits) → has_finished (slice_get d.waits u) ≡ false → is_due (await d u NoWait) x ≡ is_due d x
due_told d u (OnNode n) h = refl
due_told d u (OnQueue q n) h = refl
due_told d u (OnThread v) h = finished_told d.waits u v h
due_told d u NoWait h = refl
due_told d u (Due a) h = refl
due_told d u OnEntry h = refl
due_told d u Never h = refl
due_told d u (Finished v) h = refl

pub given_told : (d : Board) (u : ℕ) (x : Waits) → has_finished (slice_get d.waits u) ≡ false → given (await d u NoWait) x ≡ given d x
given_told d u x h = ap (λ v. if v then Due Answered else x) (due_told d u x h)

-- a thread whose wait is over has not finished, and waits for no entry
pub over_unfinished : (d : Board) (w : Waits) → once_heard (given d w) ≡ NoWait → has_finished (Some w) ≡ false
over_unfinished d (OnNode n) h = refl
over_unfinished d (OnQueue q n) h = refl
over_unfinished d (OnThread v) h = refl
over_unfinished d NoWait h = refl
over_unfinished d (Due a) h = refl
over_unfinished d OnEntry h = refl
over_unfinished d Never h = refl
over_unfinished d (Finished v) h = absurd cc

pub over_idle : (d : Board) (w : Waits) → once_heard (given d w) ≡ NoWait → is_idle (Some w) ≡ true
over_idle d OnEntry h = absurd cc
over_idle d (OnNode n) h = refl
over_idle d (OnQueue q n) h = refl
over_idle d (OnThread v) h = refl
over_idle d NoWait h = refl
over_idle d (Due a) h = refl
over_idle d Never h = refl
over_idle d (Finished v) h = refl

maps_same : (f g : Waits → Waits) → ((x : Waits) → f x ≡ g x) → (xs : List Waits) → map once_heard (map f xs) ≡ map once_heard (map g xs)
maps_same f g h [] = refl
maps_same f g h (x ∷ xs) = ap (λ y. once_heard y ∷ map once_heard (map f xs)) (h x) ∙ ap (λ l. once_heard (g x) ∷ l) (maps_same f g h xs)

maps_told : (f g : Waits → Waits) → ((x : Waits) → f x ≡ g x) → (xs : List Waits) (u : ℕ) (w : Waits) → slice_get xs u ≡ Some w → once_heard (g w) ≡ NoWait → once_heard (f NoWait) ≡ NoWait → map once_heard (map f (set xs u NoWait)) ≡ map once_heard (map g xs)
maps_told f g h [] u w e k m = refl
maps_told f g h (x ∷ xs) zero w e k m =
    ap (λ y. y ∷ map once_heard (map f xs)) (m ∙ sym k ∙ ap (λ y. once_heard (g y)) (sym (some_is e))) ∙ ap (λ l. once_heard (g x) ∷ l) (maps_same f g h xs)
maps_told f g h (x ∷ xs) (suc u) w e k m =
    ap (λ y. once_heard y ∷ map once_heard (map f (set xs u NoWait))) (h x) ∙ ap (λ l. once_heard (g x) ∷ l) (maps_told f g h xs u w e k m)

pub told_all-one : (d : Board) (u : ℕ) (w : Waits) → slice_get d.waits u ≡ Some w → once_heard (given d w) ≡ NoWait → told_all (await d u NoWait) ≡ told_all d
unfolding told_all give_all
told_all-one d u w g k =
    let h : has_finished (slice_get d.waits u) ≡ false = ap has_finished g ∙ over_unfinished d w k in
    ap (λ l. let c : Board = record d { waits = l } in c) (maps_told (given (await d u NoWait)) (given d) (λ x. given_told d u x h) d.waits u w g k refl)

-- ---- what has come stays

due_is : (v : Bool) (w : Waits) → (once_heard w ≡ NoWait → v ≡ true) → once_heard (if v then Due Answered else w) ≡ NoWait → v ≡ true
due_is true w n h = refl
due_is false w n h = n h

is_over : (v : Bool) (w : Waits) → v ≡ true → once_heard (if v then Due Answered else w) ≡ NoWait
is_over v w h = ap (λ u. once_heard (if u then Due Answered else w)) h

pub over_lasts : (d c : Board) (u : ℕ) (w : Waits) → IsOrderly d → Lasts d c → ((v : ℕ) → has_finished (slice_get d.waits v) ≡ true → has_finished (slice_get c.waits v) ≡ true) → slice_get d.waits u ≡ Some w → once_heard (given d w) ≡ NoWait → once_heard (given c w) ≡ NoWait
over_lasts d c u (OnNode n) o l f g h = is_over _ (OnNode n) (l.node n (due_is (node_done d.entries n) (OnNode n) (λ p. absurd cc) h))
over_lasts d c u (OnQueue q n) o l f g h = is_over _ (OnQueue q n) (l.queue q n (o.queued u q n g) (due_is (queue_done d.entries q n) (OnQueue q n) (λ p. absurd cc) h))
over_lasts d c u (OnThread v) o l f g h = is_over _ (OnThread v) (f v (due_is (has_finished (slice_get d.waits v)) (OnThread v) (λ p. absurd cc) h))
over_lasts d c u NoWait o l f g h = refl
over_lasts d c u (Due a) o l f g h = refl
over_lasts d c u OnEntry o l f g h = absurd cc
over_lasts d c u Never o l f g h = absurd cc
over_lasts d c u (Finished v) o l f g h = absurd cc

pub settle-still : (out : OutcomeOf) (b : Board) (u : ℕ) (w : Waits) → IsOrderly b → is_idle (Some w) ≡ true → slice_get b.waits u ≡ Some w → slice_get (settle out b).waits u ≡ Some w
settle-still out b u w o i g =
    settle-keeps (λ d. slice_get d.waits u ≡ Some w) out
    (λ d n x p r. ap (λ z. slice_get z.waits u) (effect-act out d n x) ∙ told-other (act_at out d x).due d.waits u (untold d (act_at out d x) n x u (scene out d n x u (ap is_idle p ∙ i) r)) ∙ p)
    b o g

pub settle-lasts : (out : OutcomeOf) (b : Board) → IsOrderly b → Lasts b (settle out b)
settle-lasts out b o =
    settle-keeps (Lasts b) out
    (λ d n x p r. lasts-trans b d (effect out d n x x.work) p
    (subst (Lasts d) (sym (effect-act out d n x)) (lasts-after d (act_at out d x) n x r.at (pending-open x.stage (free-pending d.entries n x r.free)))))
    b o (lasts-same b b refl (omega arith) (omega arith))

finished_is : (o : Option Waits) → has_finished o ≡ true → (x : ℤ) × (o ≡ Some (Finished x))
finished_is (Some (Finished x)) h = (x, refl)
finished_is (Some NoWait) h = absurd cc
finished_is (Some (Due a)) h = absurd cc
finished_is (Some OnEntry) h = absurd cc
finished_is (Some (OnNode n)) h = absurd cc
finished_is (Some (OnQueue q n)) h = absurd cc
finished_is (Some (OnThread v)) h = absurd cc
finished_is (Some Never) h = absurd cc
finished_is None h = absurd cc

pub settle-finished : (out : OutcomeOf) (b : Board) (v : ℕ) → IsOrderly b → has_finished (slice_get b.waits v) ≡ true → has_finished (slice_get (settle out b).waits v) ≡ true
settle-finished out b v o h =
    let f = finished_is (slice_get b.waits v) h in
    ap has_finished (settle-still out b v (Finished f.0) o refl f.1)

-- a thread whose wait is over may hear of it before the board settles
pub over-told : (out : OutcomeOf) (b : Board) (u : ℕ) (w : Waits) → IsOrderly b → slice_get b.waits u ≡ Some w → once_heard (given b w) ≡ NoWait → quiesce out (await b u NoWait) ≡ quiesce out b
unfolding told_all
over-told out b u w o g h =
    let i = over_idle b w h in
    ap told_all (await-settle out b u NoWait o (ap is_idle g ∙ i))
    ∙ told_all-one (settle out b) u w (settle-still out b u w o i g) (over_lasts b (settle out b) u w o (settle-lasts out b o) (λ v f. settle-finished out b v o f) g h)

-- ---- a step

-- the thread may make the ask on the board
pub record Asking (d : Board) (t : ℕ) (q : Ask) : Type 0 where
  pub orderly : IsOrderly d
  pub ready : slice_get d.waits t ≡ Some NoWait
  pub clear : is_clear d q ≡ true

-- the board after the ask, before answers are given
unfoldable pub went : OutcomeOf → ℕ → Ask → Board → Board
went out t q d = settle out (apply (begin_ask d t) t q)

pub asking_idle : (d : Board) (t : ℕ) (q : Ask) → Asking d t q → is_idle (slice_get d.waits t) ≡ true
asking_idle d t q a = ap is_idle a.ready

pub asking_may : (d : Board) (t : ℕ) (q : Ask) → Asking d t q → MayAsk (begin_ask d t) t q
asking_may d t q a = record { idle = idle_begun d t (asking_idle d t q a); clear = clear_begun d t q a.clear }

apply-still : (b : Board) (u t : ℕ) (w : Waits) (q : Ask) → u ≢ t → is_idle (slice_get b.waits t) ≡ true → slice_get b.waits u ≡ Some w → slice_get (apply b t q).waits u ≡ Some w
apply-still b u t w q ne i g =
    let lt : u < length b.waits = slice_get_within b.waits u w g in
    let same : await b u w ≡ b = ap (λ l. let c : Board = record b { waits = l } in c) (set-same b.waits u w g) in
    let n = (apply-follows b t q i).lasts.threads in
    ap (λ z. slice_get z.waits u) (ap (λ z. apply z t q) (sym same) ∙ apply-told b u t w q ne lt)
    ∙ get-set (apply b t q).waits u w (omega arith)

begin_ask-lasts : (d : Board) (t : ℕ) → Lasts d (begin_ask d t)
begin_ask-lasts d t = lasts-same d (begin_ask d t) refl (omega arith) (omega (arith, length-set d.waits t Never))

orderly_asked : (d : Board) (t : ℕ) (q : Ask) → Asking d t q → IsOrderly (apply (begin_ask d t) t q)
orderly_asked d t q a = orderly-apply (begin_ask d t) t q (orderly-begin_ask d t a.orderly (asking_idle d t q a)) (asking_may d t q a)

asked-still : (d : Board) (u t : ℕ) (w : Waits) (q : Ask) → Asking d t q → u ≢ t → slice_get d.waits u ≡ Some w → slice_get (apply (begin_ask d t) t q).waits u ≡ Some w
asked-still d u t w q a ne g = apply-still (begin_ask d t) u t w q ne (asking_may d t q a).idle (get-set_other d.waits t u Never ne ∙ g)

pub went-still : (out : OutcomeOf) (d : Board) (u t : ℕ) (w : Waits) (q : Ask) → Asking d t q → u ≢ t → is_idle (Some w) ≡ true → slice_get d.waits u ≡ Some w → slice_get (went out t q d).waits u ≡ Some w
unfolding went
went-still out d u t w q a ne i g = settle-still out (apply (begin_ask d t) t q) u w (orderly_asked d t q a) i (asked-still d u t w q a ne g)

pub went-lasts : (out : OutcomeOf) (d : Board) (t : ℕ) (q : Ask) → Asking d t q → Lasts d (went out t q d)
unfolding went
went-lasts out d t q a =
    let c = apply (begin_ask d t) t q in
    lasts-trans d (begin_ask d t) (settle out c) (begin_ask-lasts d t) (lasts-trans (begin_ask d t) c (settle out c) (apply-follows (begin_ask d t) t q (asking_may d t q a).idle).lasts (settle-lasts out c (orderly_asked d t q a)))

pub went-finished : (out : OutcomeOf) (d : Board) (t : ℕ) (q : Ask) (v : ℕ) → Asking d t q → has_finished (slice_get d.waits v) ≡ true → has_finished (slice_get (went out t q d).waits v) ≡ true
went-finished out d t q v a h =
    let f = finished_is (slice_get d.waits v) h in
    let ne : v ≢ t = λ e. (let z : Some (Finished f.0) ≡ Some NoWait = sym f.1 ∙ ap (slice_get d.waits) e ∙ a.ready in absurd (let y : Finished f.0 ≡ NoWait = some_is z in cc)) in
    ap has_finished (went-still out d v t (Finished f.0) q a ne refl f.1)

pub went-told : (out : OutcomeOf) (d : Board) (u t : ℕ) (w r : Waits) (q : Ask) → Asking d t q → u ≢ t → is_idle (Some w) ≡ true → slice_get d.waits u ≡ Some w → went out t q (await d u r) ≡ await (went out t q d) u r
unfolding went
went-told out d u t w r q a ne i g =
    let c = apply (begin_ask d t) t q in
    let at = get-set_other d.waits t u Never ne ∙ g in
    ap (λ z. settle out (apply z t q)) (awaits-swap (record d { steps = suc d.steps }) u t r Never ne)
    ∙ ap (settle out) (apply-told (begin_ask d t) u t r q ne (slice_get_within (begin_ask d t).waits u w at))
    ∙ await-settle out c u r (orderly_asked d t q a) (ap is_idle (asked-still d u t w q a ne g) ∙ i)

pub same_told : (d : Board) (u : ℕ) (w : Waits) → slice_get d.waits u ≡ Some w → await d u w ≡ d
same_told d u w g = ap (λ l. let c : Board = record d { waits = l } in c) (set-same d.waits u w g)

one_told : (out : OutcomeOf) (d : Board) (u t : ℕ) (w : Waits) (q : Ask) → Asking d t q → slice_get d.waits u ≡ Some w → once_heard (given d w) ≡ NoWait → told_all (went out t q (await d u NoWait)) ≡ told_all (went out t q d)
one_told out d u t w q a g h = elim (cases_eq u t) [
  | inl e ↦ ap (λ z. told_all (went out t q z)) (same_told d u NoWait (ap (slice_get d.waits) e ∙ a.ready))
  | inr ne ↦
      let i = over_idle d w h in
      let c = went out t q d in
      ap told_all (went-told out d u t w NoWait q a ne i g)
      ∙ told_all-one c u w (went-still out d u t w q a ne i g) (over_lasts d c u w a.orderly (went-lasts out d t q a) (λ v f. went-finished out d t q v a f) g h)
]

clear_told : (d : Board) (u : ℕ) (w : Waits) (q : Ask) → is_clear d q ≡ true → is_clear (await d u w) q ≡ true
clear_told d u w (ThrowQueue q) h = h
clear_told d u w q h = refl

ready_told : (xs : List Waits) (u t : ℕ) → slice_get xs t ≡ Some NoWait → slice_get (set xs u NoWait) t ≡ Some NoWait
ready_told xs u t g = elim (cases_eq t u) [
  | inl e ↦ subst (λ i. slice_get (set xs i NoWait) t ≡ Some NoWait) e (get-set xs t NoWait (slice_get_within xs t NoWait g))
  | inr ne ↦ get-set_other xs u t NoWait ne ∙ g
]

pub orderly-told : (b : Board) (t : ℕ) → IsOrderly b → is_idle (slice_get b.waits t) ≡ true → IsOrderly (await b t NoWait)
orderly-told b t o i = orderly-same b (await b t NoWait) refl (buffers-stay b.buffers) (waits-set b (await b t NoWait) t NoWait refl (omega arith) i refl) o

asking_told : (d : Board) (u t : ℕ) (w : Waits) (q : Ask) → Asking d t q → slice_get d.waits u ≡ Some w → is_idle (Some w) ≡ true → Asking (await d u NoWait) t q
asking_told d u t w q a g i = record {
  orderly = orderly-told d u a.orderly (ap is_idle g ∙ i);
  ready = ready_told d.waits u t a.ready;
  clear = clear_told d u NoWait q a.clear;
}

-- ---- each thread in turn

unfoldable pub hear_one : Board → ℕ → Option Waits → Board
hear_one d k None = d
hear_one d k (Some w) = await d k (once_heard (given d w))

unfoldable pub hear_upto : Board → ℕ → Board
hear_upto c zero = c
hear_upto c (suc k) = hear_one (hear_upto c k) k (slice_get (hear_upto c k).waits k)

-- the threads below k have heard what c has for them, and the ask comes to the same
pub record Chain (out : OutcomeOf) (t : ℕ) (q : Ask) (c d : Board) (k : ℕ) : Type 0 where
  pub asking : Asking d t q
  pub threads : length d.waits ≡ length c.waits
  pub alike : told_all d ≡ told_all c
  pub goes : told_all (went out t q d) ≡ told_all (went out t q c)
  pub past : (j : ℕ) (w : Waits) → j < k → slice_get d.waits j ≡ Some w → once_heard (given d w) ≡ w

over_or : (v : Bool) (w : Waits) → once_heard w ≡ w → (once_heard (if v then Due Answered else w) ≡ w) ⊎ (once_heard (if v then Due Answered else w) ≡ NoWait)
over_or true w h = inr refl
over_or false w h = inl h

below : (j k : ℕ) → j ≢ k → j < suc k → j < k
below j k ne lt = omega arith

pub stays_or_over : (d : Board) (w : Waits) → (once_heard (given d w) ≡ w) ⊎ (once_heard (given d w) ≡ NoWait)
stays_or_over d NoWait = inl refl
stays_or_over d (Due a) = inr refl
stays_or_over d OnEntry = inl refl
stays_or_over d Never = inl refl
stays_or_over d (Finished v) = inl refl
stays_or_over d (OnNode n) = over_or (is_due d (OnNode n)) (OnNode n) refl
stays_or_over d (OnQueue q n) = over_or (is_due d (OnQueue q n)) (OnQueue q n) refl
stays_or_over d (OnThread v) = over_or (is_due d (OnThread v)) (OnThread v) refl

pub chain_stays : (out : OutcomeOf) (t : ℕ) (q : Ask) (c d : Board) (k : ℕ) → ((w : Waits) → slice_get d.waits k ≡ Some w → once_heard (given d w) ≡ w) → Chain out t q c d k → Chain out t q c d (suc k)
chain_stays out t q c d k h f = record {
  asking = f.asking;
  threads = f.threads;
  alike = f.alike;
  goes = f.goes;
  past = λ j w lt g. elim (cases_eq j k) [
    | inl e ↦ h w (ap (slice_get d.waits) (sym e) ∙ g)
    | inr ne ↦ f.past j w (below j k ne lt) g
  ];
}

pub chain_told : (out : OutcomeOf) (t : ℕ) (q : Ask) (c d : Board) (k : ℕ) (w : Waits) → slice_get d.waits k ≡ Some w → once_heard (given d w) ≡ NoWait → Chain out t q c d k → Chain out t q c (await d k NoWait) (suc k)
chain_told out t q c d k w g h f =
    let u : has_finished (slice_get d.waits k) ≡ false = ap has_finished g ∙ over_unfinished d w h in
    record {
      asking = asking_told d k t w q f.asking g (over_idle d w h);
      threads = length-set d.waits k NoWait ∙ f.threads;
      alike = told_all-one d k w g h ∙ f.alike;
      goes = one_told out d k t w q f.asking g h ∙ f.goes;
      past = λ j x lt i. elim (cases_eq j k) [
        | inl e ↦
            let is : NoWait ≡ x = set_is d.waits k NoWait x (ap (slice_get (set d.waits k NoWait)) (sym e) ∙ i) in
            subst (λ y. once_heard (given (await d k NoWait) y) ≡ y) is refl
        | inr ne ↦ ap once_heard (given_told d k x u) ∙ f.past j x (below j k ne lt) (sym (get-set_other d.waits k j NoWait ne) ∙ i)
      ];
    }

chain_one : (out : OutcomeOf) (t : ℕ) (q : Ask) (c d : Board) (k : ℕ) (o : Option Waits) → slice_get d.waits k ≡ o → Chain out t q c d k → Chain out t q c (hear_one d k o) (suc k)
unfolding hear_one
chain_one out t q c d k None g f = chain_stays out t q c d k (λ w h. absurd (let z : None ≡ Some w = sym g ∙ h in cc)) f
chain_one out t q c d k (Some w) g f = elim (stays_or_over d w) [
  | inl e ↦ subst (λ z. Chain out t q c z (suc k)) (sym (ap (await d k) e ∙ same_told d k w g))
      (chain_stays out t q c d k (λ x h. subst (λ y. once_heard (given d y) ≡ y) (some_is (sym g ∙ h)) e) f)
  | inr e ↦ subst (λ z. Chain out t q c (await d k z) (suc k)) (sym e) (chain_told out t q c d k w g e f)
]

chain_upto : (out : OutcomeOf) (t : ℕ) (q : Ask) (c : Board) (k : ℕ) → Asking c t q → Chain out t q c (hear_upto c k) k
unfolding hear_upto
chain_upto out t q c zero a = record { asking = a; threads = refl; alike = refl; goes = refl; past = λ j w lt g. absurd (omega arith) }
chain_upto out t q c (suc k) a = chain_one out t q c (hear_upto c k) k (slice_get (hear_upto c k).waits k) refl (chain_upto out t q c k a)

map_fixed : (f : Waits → Waits) (xs : List Waits) → ((j : ℕ) (w : Waits) → slice_get xs j ≡ Some w → once_heard (f w) ≡ w) → map once_heard (map f xs) ≡ xs
map_fixed f [] h = refl
map_fixed f (x ∷ xs) h = ap (λ y. y ∷ map once_heard (map f xs)) (h 0 x refl) ∙ ap (λ l. x ∷ l) (map_fixed f xs (λ j w g. h (suc j) w g))

pub told_all-fixed : (d : Board) → ((j : ℕ) (w : Waits) → slice_get d.waits j ≡ Some w → once_heard (given d w) ≡ w) → told_all d ≡ d
unfolding told_all give_all
told_all-fixed d h = ap (λ l. let c : Board = record d { waits = l } in c) (map_fixed (given d) d.waits h)

-- where all have heard at once the ask comes to the same
all_told : (out : OutcomeOf) (t : ℕ) (q : Ask) (c : Board) → Asking c t q → told_all (went out t q (told_all c)) ≡ told_all (went out t q c)
all_told out t q c a =
    let n = length c.waits in
    let d = hear_upto c n in
    let f = chain_upto out t q c n a in
    let fixed : told_all d ≡ d = told_all-fixed d (λ j w g. f.past j w (let lt = slice_get_within d.waits j w g in let e = f.threads in omega arith) g) in
    ap (λ z. told_all (went out t q z)) (sym f.alike ∙ fixed) ∙ f.goes

pub went-settle : (out : OutcomeOf) (b : Board) (t : ℕ) (q : Ask) → Asking b t q → went out t q (settle out b) ≡ went out t q b
unfolding went
went-settle out b t q a =
    let i = asking_idle b t q a in
    ap (λ z. settle out (apply z t q)) (sym (begin_ask-settle out b t a.orderly i))
    ∙ ask-settle out (begin_ask b t) t q (orderly-begin_ask b t a.orderly i) (asking_may b t q a)

pub settle-asking : (out : OutcomeOf) (b : Board) (t : ℕ) (q : Ask) → Asking b t q → Asking (settle out b) t q
settle-asking out b t q a = record {
  orderly = orderly-settle out b a.orderly;
  ready = settle-still out b t NoWait a.orderly refl a.ready;
  clear = (settle-keeps (λ d. MayAsk d t q) out (λ d n x p r. may_ask-effect out d n x t q p r) b a.orderly (record { idle = asking_idle b t q a; clear = a.clear })).clear;
}

pub step-deferred : (out : OutcomeOf) (b : Board) (t : ℕ) (q : Ask) → IsOrderly b → slice_get b.waits t ≡ Some NoWait → is_clear b q ≡ true → heard (turn out (quiesce out b) t q) ≡ heard (turn out b t q)
unfolding turn told_all went
step-deferred out b t q o r k =
    let a : Asking b t q = record { orderly = o; ready = r; clear = k } in
    all_told out t q (settle out b) (settle-asking out b t q a) ∙ ap told_all (went-settle out b t q a)
