-- What an effect keeps of a board, and effects in another order.
use Rattle.std.proofs.Common.{◌≡◌, ◌≢◌, ℕ, List, [], ◌∷◌, take, true, false, Some, refl, sym, ap, ◌∙◌, subst, inl, inr, arith}
use Rattle.std.specs.Prelude.{option_map}
use Rattle.std.proofs.lemmas.Bool.{cases_eq}
use Rattle.sy_access.specs.declared.access.Need.{Need}
use Rattle.sy_access.specs.declared.access.Mode.TheVariants.{ReadWrite}
use Rattle.sy_work.specs.Programs.{OutcomeOf}
use Rattle.sy_onecopy.specs.declared.Buffer.{Buffer}
use Rattle.sy_onecopy.specs.declared.Entry.{Entry}
use Rattle.sy_onecopy.specs.declared.Work.TheVariants.{End}
use Rattle.sy_onecopy.specs.declared.Stage.{Stage}
use Rattle.sy_onecopy.specs.declared.Stage.TheVariants.{Granted}
use Rattle.sy_onecopy.specs.declared.Waits.{Waits}
use Rattle.sy_onecopy.specs.Each.{changed_at}
use Rattle.sy_onecopy.specs.State.{Board}
use Rattle.sy_onecopy.specs.Before.{is_pending, is_done, is_held, is_free}
use Rattle.sy_onecopy.specs.Settle.{with_stage, effect}
use Rattle.sy_needs.specs.Order.{needs_meet}
use Rattle.sy_settling.specs.Orderly.{IsAt, IsPendingAt, waiter, are_there, NeedsWhole, IsOrderly}
use Rattle.sy_settling.proofs.ListLemmas.{get-changed, get-changed_other, changed-swap, length-each, take-changed_past, some_is}
use Rattle.sy_settling.proofs.ElementLemmas.{Cells, buffer_by, mapped, get-mapped, apart-swap, meet_comm}
use Rattle.sy_settling.proofs.EffectLemmas.{Act, ActOf, act-of, act, seen, seen-kept, told-swap, told-other, told-queued, after, build-same, effect-is}
use Rattle.sy_settling.proofs.FreeLemmas.{free-pending, free-unheld, pending-open, strangers, unheld-changed, held-restaged, staged-at}

-- ---- pending entries while one comes to a stage

pub other-pending : (s : Stage) (k j : ℕ) (xs : List Entry) (x : Entry) → is_pending s ≡ false → IsPendingAt (changed_at (with_stage s) k xs) j x → j ≢ k
other-pending s k j xs x m p e =
    let here = subst (λ i. IsAt (changed_at (with_stage s) k xs) i x) e p.0 in
    let same : is_pending x.stage ≡ is_pending s = ap is_pending (staged-at s k xs x here) in
    absurd (let c : true ≡ false = sym p.1 ∙ same ∙ m in cc)

pub was-pending : (s : Stage) (k j : ℕ) (xs : List Entry) (x : Entry) → is_pending s ≡ false → IsPendingAt (changed_at (with_stage s) k xs) j x → IsPendingAt xs j x
was-pending s k j xs x m p = (sym (get-changed_other (with_stage s) k j xs (other-pending s k j xs x m p)) ∙ p.0, p.1)

-- ---- a board while an entry acts

abbrev pub need_of : ℕ → ℕ → Need
need_of r n = record { buffer = r; mode = ReadWrite; no_init = false; from = 0; to = n }

pub whole-mapped : (h : Cells) (buffers : List Buffer) (r : ℕ) (needs : List Need) → NeedsWhole buffers r needs → NeedsWhole (mapped h buffers) r needs
whole-mapped h buffers r needs n = record {
  buffer = buffer_by h r n.buffer;
  found = get-mapped h buffers r ∙ ap (option_map (buffer_by h r)) n.found;
  all = n.all ∙ ap (λ c. need_of r c ∷ []) (sym (length-each (h r) 0 n.buffer.values));
}

-- the entry at k may act so: it is not done, nothing holds it, and it tells a thread only while it is pending
pub record Acts (b : Board) (a : Act) (k : ℕ) (e : Entry) : Type 0 where
  pub at : IsAt b.entries k e
  pub undone : is_done e.stage ≡ false
  pub unheld : is_held (take k b.entries) e ≡ false
  pub pends : (d : ℕ × Waits) → a.due ≡ Some d → is_pending e.stage ≡ true
  pub of : ActOf a e

pub free-acts : (b : Board) (a : Act) (k : ℕ) (e : Entry) → IsAt b.entries k e → is_free b.entries k e ≡ true → ActOf a e → Acts b a k e
free-acts b a k e g f of =
    let p = free-pending b.entries k e f in
    record { at = g; undone = pending-open e.stage p; unheld = free-unheld b.entries k e f; pends = λ d q. p; of = of }

-- a thread that waits for another entry is told nothing
others_untold : (b : Board) (a : Act) (k j t : ℕ) (e x : Entry) → IsOrderly b → Acts b a k e → IsPendingAt b.entries j x → waiter x.work ≡ Some t → j ≢ k → (d : ℕ × Waits) → a.due ≡ Some d → t ≢ d.0
others_untold b a k j t e x o c px w ne d p q = ne (o.alone j k t x e px (c.at, c.pends d p) w (c.of.tells d p ∙ ap Some (sym q)))

open_after : (b : Board) (a : Act) (k j : ℕ) (e x : Entry) → IsOrderly b → Acts b a k e → IsAt (changed_at (with_stage a.stage) k b.entries) j x → x.stage ≡ Granted → is_held (take j (changed_at (with_stage a.stage) k b.entries)) x ≡ false
open_after b a k j e x o c h st = elim (cases_eq j k) [
  | inl q ↦
      let s = a.stage in
      let here : IsAt (changed_at (with_stage s) k b.entries) k x = subst (λ i. IsAt (changed_at (with_stage s) k b.entries) i x) q h in
      let is : with_stage s e ≡ x = some_is (sym (get-changed (with_stage s) k b.entries ∙ ap (option_map (with_stage s)) c.at) ∙ here) in
      let at : is_held (take k b.entries) (with_stage s e) ≡ false = held-restaged s (take k b.entries) e ∙ c.unheld in
      subst (λ i. is_held (take i (changed_at (with_stage s) k b.entries)) x ≡ false) (sym q)
      (ap (λ l. is_held l x) (take-changed_past (with_stage s) k k b.entries (omega arith)) ∙ subst (λ z. is_held (take k b.entries) z ≡ false) is at)
  | inr ne ↦
      let was : IsAt b.entries j x = sym (get-changed_other (with_stage a.stage) k j b.entries ne) ∙ h in
      unheld-changed a.stage k j b.entries e x c.at c.undone (o.open_first j x was st)
]

pub orderly-after : (b : Board) (a : Act) (k : ℕ) (e : Entry) → IsOrderly b → Acts b a k e → IsOrderly (after a k b)
orderly-after b a k e o c =
    let m = c.of.moves in
    record {
      awaited = λ j t x p w.
          told-other a.due b.waits t (others_untold b a k j t e x o c (was-pending a.stage k j b.entries x m p) w (other-pending a.stage k j b.entries x m p))
          ∙ o.awaited j t x (was-pending a.stage k j b.entries x m p) w;
      alone = λ i j t x y p q v w. o.alone i j t x y (was-pending a.stage k i b.entries x m p) (was-pending a.stage k j b.entries y m q) v w;
      there = λ j x p. ap (λ n. are_there n x.needs) (length-each (buffer_by a.cells) 0 b.buffers) ∙ o.there j x (was-pending a.stage k j b.entries x m p);
      whole = λ j t r x p w. whole-mapped a.cells b.buffers r x.needs (o.whole j t r x (was-pending a.stage k j b.entries x m p) w);
      open_first = λ j x h st. open_after b a k j e x o c h st;
      queued = λ t q n g. o.queued t q n (told-queued a.due b.waits t q n c.of.answers g);
    }

-- two entries that may act don't meet
pub acts-apart : (b : Board) (u v : Act) (j k : ℕ) (x y : Entry) → j ≢ k → Acts b u j x → Acts b v k y → needs_meet x.needs x.place y.needs y.place ≡ false
acts-apart b u v j k x y ne c d = strangers b.entries j k x y ne c.at d.at c.undone d.undone c.unheld d.unheld

pub after-swap : (b : Board) (u v : Act) (j k : ℕ) (x y : Entry) → IsOrderly b → j ≢ k → Acts b u j x → Acts b v k y → after u j (after v k b) ≡ after v k (after u j b)
after-swap b u v j k x y o ne c d = build-same b
    (apart-swap u.cells v.cells x.needs y.needs x.place y.place c.of.keeps d.of.keeps (acts-apart b u v j k x y ne c d) b.buffers)
    (changed-swap (with_stage u.stage) (with_stage v.stage) j k b.entries ne)
    (told-swap u.due v.due b.waits (λ f g p q e. ne (o.alone j k f.0 x y (c.at, c.pends f p) (d.at, d.pends g q) (c.of.tells f p) (d.of.tells g q ∙ ap Some (sym e)))))

pub act_at : OutcomeOf → Board → Entry → Act
act_at out b e = act out e.needs e.work (seen b.buffers e.needs e.work)

pub act_at-seen : (out : OutcomeOf) (b c : Board) (e : Entry) → seen c.buffers e.needs e.work ≡ seen b.buffers e.needs e.work → act_at out c e ≡ act_at out b e
unfolding act_at
act_at-seen out b c e h = ap (act out e.needs e.work) h

pub act_at-of : (out : OutcomeOf) (b : Board) (e : Entry) → ActOf (act_at out b e) e
unfolding act_at
act_at-of out b e = act-of out e e.work (seen b.buffers e.needs e.work) refl

pub effect-act : (out : OutcomeOf) (b : Board) (k : ℕ) (e : Entry) → effect out b k e e.work ≡ after (act_at out b e) k b
unfolding act_at
effect-act out b k e = effect-is out b k e e.work

pub act_at-acts : (out : OutcomeOf) (b : Board) (k : ℕ) (e : Entry) → IsAt b.entries k e → is_free b.entries k e ≡ true → Acts b (act_at out b e) k e
act_at-acts out b k e g f = free-acts b (act_at out b e) k e g f (act_at-of out b e)

-- the act of an entry is the same after the act of another that it doesn't meet
pub act_at-after : (out : OutcomeOf) (b : Board) (a : Act) (k : ℕ) (e x : Entry) → ActOf a e → needs_meet x.needs x.place e.needs e.place ≡ false → ((t r : ℕ) → x.work ≡ End t r → NeedsWhole b.buffers r x.needs) → act_at out (after a k b) x ≡ act_at out b x
unfolding act_at
act_at-after out b a k e x f m w = ap (act out x.needs x.work) (seen-kept a.cells e.needs e.place b.buffers x.needs x.work x.place f.keeps m w)

-- ---- an entry that may take effect

pub record Ready (b : Board) (k : ℕ) (e : Entry) : Type 0 where
  pub orderly : IsOrderly b
  pub at : IsAt b.entries k e
  pub free : is_free b.entries k e ≡ true

pub orderly-effect : (out : OutcomeOf) (b : Board) (k : ℕ) (e : Entry) → Ready b k e → IsOrderly (effect out b k e e.work)
orderly-effect out b k e r = subst IsOrderly (sym (effect-act out b k e)) (orderly-after b (act_at out b e) k e r.orderly (act_at-acts out b k e r.at r.free))

-- another act that may be commutes with the effect
pub effect-after : (out : OutcomeOf) (b : Board) (a : Act) (j k : ℕ) (x y : Entry) → j ≢ k → Acts b a j x → Ready b k y → effect out (after a j b) k y y.work ≡ after a j (effect out b k y y.work)
effect-after out b a j k x y ne c r =
    let v = act_at out b y in
    let d = act_at-acts out b k y r.at r.free in
    let m = meet_comm x.needs y.needs x.place y.place (acts-apart b a v j k x y ne c d) in
    effect-act out (after a j b) k y
    ∙ ap (λ z. after z k (after a j b)) (act_at-after out b a j x y c.of m (λ t i w. r.orderly.whole k t i y (r.at, free-pending b.entries k y r.free) w))
    ∙ sym (after-swap b a v j k x y r.orderly ne c d)
    ∙ ap (after a j) (sym (effect-act out b k y))

pub effects-swap : (out : OutcomeOf) (b : Board) (j k : ℕ) (x y : Entry) → j ≢ k → Ready b j x → Ready b k y → effect out (effect out b j x x.work) k y y.work ≡ effect out (effect out b k y y.work) j x x.work
effects-swap out b j k x y ne rx ry =
    let a = act_at out b x in
    let d = act_at-acts out b k y ry.at ry.free in
    let m = acts-apart b a (act_at out b y) j k x y ne (act_at-acts out b j x rx.at rx.free) d in
    ap (λ z. effect out z k y y.work) (effect-act out b j x)
    ∙ effect-after out b a j k x y ne (act_at-acts out b j x rx.at rx.free) ry
    ∙ ap (after a j) (effect-act out b k y)
    ∙ ap (λ z. after z j (after (act_at out b y) k b)) (sym (act_at-after out b (act_at out b y) k y x d.of m (λ t i w. rx.orderly.whole j t i x (rx.at, free-pending b.entries j x rx.free) w)))
    ∙ sym (effect-act out (after (act_at out b y) k b) j x)
    ∙ ap (λ z. effect out z j x x.work) (sym (effect-act out b k y))
