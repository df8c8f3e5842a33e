-- What the waits and the pending entries of a board say of the asks.
use Rattle.std.proofs.Common.{◌≡◌, ◌≢◌, ℕ, zero, suc, ◌≤◌, List, [], ◌∷◌, ◌++◌, length, true, false, Option, Some, None, refl, sym, ap, ◌∙◌, subst, inl, inr, arith}
use Rattle.std.specs.Prelude.{slice_get, slice_set, ⊤}
use Rattle.sy_access.specs.declared.access.Need.{Need}
use Rattle.sy_work.specs.declared.asks.Ask.{Ask}
use Rattle.sy_work.specs.declared.asks.Ask.TheVariants.{EndBuffer, OpenHost, WaitNode, WaitQueue, Join}
use Rattle.sy_work.specs.declared.asks.Answer.{Answer}
use Rattle.sy_work.specs.declared.asks.Answer.TheVariants.{Done, Contents}
use Rattle.sy_work.specs.Answers.{Fits}
use Rattle.sy_answers.specs.Fitting.{FitsEnd, FitsOver}
use Rattle.sy_onecopy.specs.declared.Buffer.{Buffer}
use Rattle.sy_onecopy.specs.declared.Entry.{Entry}
use Rattle.sy_onecopy.specs.declared.Work.{Work}
use Rattle.sy_onecopy.specs.declared.Work.TheVariants.{Node, Access, End}
use Rattle.sy_onecopy.specs.declared.Stage.{Stage}
use Rattle.sy_onecopy.specs.declared.Waits.{Waits}
use Rattle.sy_onecopy.specs.declared.Waits.TheVariants.{Ready, Due, OnEntry, OnNode, OnQueue, OnThread, Never, Finished}
use Rattle.sy_onecopy.specs.Each.{changed_at}
use Rattle.sy_onecopy.specs.Before.{is_pending}
use Rattle.sy_onecopy.specs.declared.Origin.TheVariants.{Vector}
use Rattle.sy_onecopy.specs.Outcome.{values_at, values_of}
use Rattle.sy_onecopy.specs.Settle.{with_stage}
use Rattle.sy_answers.proofs.ListLemmas.{same_or_not, set_same, set_other, more_at}

-- the thread that waits for the entry
abbrev pub owner : Work → Option ℕ
owner (Node n q c) = None
owner (Access u i) = Some u
owner (End u r) = Some u

-- the entry at k is pending, and is waited for by thread u
pub record Waited (es : List Entry) (k : ℕ) (e : Entry) (u : ℕ) : Type 0 where
  pub at : slice_get es k ≡ Some e
  pub pending : is_pending e.stage ≡ true
  pub owned : owner e.work ≡ Some u

-- the wait is one of such an ask, or the answer that is due fits it
abbrev pub Suits : List Buffer → Ask → Waits → Type 0
Suits bs q Ready = ⊤
Suits bs q (Due a) = FitsOver bs q a
Suits bs q OnEntry = ⊤
Suits bs q (OnNode n) = q ≡ WaitNode n
Suits bs q (OnQueue r n) = q ≡ WaitQueue r
Suits bs q (OnThread u) = q ≡ Join u
Suits bs q Never = ⊤
Suits bs q (Finished v) = ⊤

-- how many numbers the buffer has
abbrev pub count_at : List Buffer → ℕ → ℕ
count_at bs r = length (values_at bs r)

-- the ask opens a host access of the one need, whose run lies within its buffer
pub record IsOpening (q : Ask) (bs : List Buffer) (needs : List Need) : Type 0 where
  pub need : Need
  pub alone : needs ≡ need ∷ []
  pub ask : q ≡ OpenHost need
  pub within : need.to ≤ count_at bs need.buffer

-- the ask ends this buffer, which is over a vector
pub record IsEnding (q : Ask) (bs : List Buffer) (r : ℕ) : Type 0 where
  pub ask : q ≡ EndBuffer r
  pub buffer : Buffer
  pub there : slice_get bs r ≡ Some buffer
  pub vector : buffer.origin ≡ Vector

-- the entry is what the ask asks for
abbrev pub IsAsked : Ask → List Buffer → List Need → Work → Type 0
IsAsked q bs needs (Node n p c) = ⊤
IsAsked q bs needs (Access u i) = IsOpening q bs needs
IsAsked q bs needs (End u r) = IsEnding q bs r

-- each wait suits the ask of its thread, and each pending entry is what the thread asked for that waits for it, and for it alone
pub record Fit (ask : ℕ → Ask) (bs : List Buffer) (es : List Entry) (ws : List Waits) : Type 0 where
  pub suits : (u : ℕ) (w : Waits) → slice_get ws u ≡ Some w → Suits bs (ask u) w
  pub waiting : (k : ℕ) (e : Entry) (u : ℕ) → Waited es k e u → slice_get ws u ≡ Some OnEntry
  pub asked : (k : ℕ) (e : Entry) (u : ℕ) → Waited es k e u → IsAsked (ask u) bs e.needs e.work
  pub once : (j k : ℕ) (d e : Entry) (u : ℕ) → Waited es j d u → Waited es k e u → j ≡ k

-- the buffer r is there, over what it was over, and with as many numbers
pub record Stays (x : Buffer) (cs : List Buffer) (r : ℕ) : Type 0 where
  pub now : Buffer
  pub there : slice_get cs r ≡ Some now
  pub origin : now.origin ≡ x.origin
  pub count : length now.values ≡ length x.values

-- every buffer does
abbrev pub AllStay : List Buffer → List Buffer → Type 0
AllStay bs cs = (r : ℕ) (x : Buffer) → slice_get bs r ≡ Some x → Stays x cs r

-- each entry of the second list that a thread waits for stands in the first
abbrev pub NoneNew : List Entry → List Entry → Type 0
NoneNew es fs = (k : ℕ) (e : Entry) (u : ℕ) → Waited fs k e u → Waited es k e u

-- no pending entry is waited for by thread u
abbrev pub Idle : List Entry → ℕ → Type 0
Idle es u = (k : ℕ) (e : Entry) → Waited es k e u → ⊥

count_of : (bs : List Buffer) (r : ℕ) (x : Buffer) → slice_get bs r ≡ Some x → count_at bs r ≡ length x.values
count_of bs r x e = ap (λ o. length (values_of o)) e

count_more_by : (bs cs : List Buffer) (r n : ℕ) (o : Option Buffer) → AllStay bs cs → slice_get bs r ≡ o → n ≤ length (values_of o) → n ≤ count_at cs r
count_more_by bs cs r n None h e le = omega (arith, le)
count_more_by bs cs r n (Some x) h e le = let y = h r x e in let c = count_of cs r y.now y.there in let d = y.count in omega (arith, le, c, d)

asked_more : (q : Ask) (bs cs : List Buffer) (needs : List Need) (w : Work) → AllStay bs cs → IsAsked q bs needs w → IsAsked q cs needs w
asked_more q bs cs needs (Node n p c) h a = tt
asked_more q bs cs needs (Access u i) h a = record { need = a.need; alone = a.alone; ask = a.ask; within = count_more_by bs cs a.need.buffer a.need.to (slice_get bs a.need.buffer) h refl a.within }
asked_more q bs cs needs (End u r) h a = let y = h r a.buffer a.there in record { ask = a.ask; buffer = y.now; there = y.there; vector = y.origin ∙ a.vector }

end_same : (x y : Buffer) (a : Answer) → y.origin ≡ x.origin → length y.values ≡ length x.values → FitsEnd (Some x) a → FitsEnd (Some y) a
end_same x y (Contents values) o c f = (o ∙ f.0, f.1 ∙ sym c)
end_same x y Done o c f = λ h. f (sym o ∙ h)
end_same x y a o c f = f

end_more : (bs cs : List Buffer) (r : ℕ) (o : Option Buffer) (a : Answer) → AllStay bs cs → slice_get bs r ≡ o → FitsEnd o a → FitsEnd (slice_get cs r) a
end_more bs cs r None a h e f = absurd f
end_more bs cs r (Some x) a h e f = let y = h r x e in subst (λ o. FitsEnd o a) (sym y.there) (end_same x y.now a y.origin y.count f)

over_more : (bs cs : List Buffer) (q : Ask) (a : Answer) → AllStay bs cs → FitsOver bs q a → FitsOver cs q a
over_more bs cs (EndBuffer r) a h f = end_more bs cs r (slice_get bs r) a h refl f
over_more bs cs q a h f = f

suits_more : (bs cs : List Buffer) (q : Ask) (w : Waits) → AllStay bs cs → Suits bs q w → Suits cs q w
suits_more bs cs q (Due a) h s = over_more bs cs q a h s
suits_more bs cs q w h s = s

end_fits : (r : ℕ) (o : Option Buffer) (a : Answer) → FitsEnd o a → Fits (EndBuffer r) a
end_fits r (Some x) (Contents values) f = tt
end_fits r (Some x) Done f = tt
end_fits r o a f = absurd f

-- what fits over the buffers fits
pub over_fits : (bs : List Buffer) (q : Ask) (a : Answer) → FitsOver bs q a → Fits q a
over_fits bs (EndBuffer r) a f = end_fits r (slice_get bs r) a f
over_fits bs q a f = f

-- the contents of a buffer that is over a vector fit its end
pub contents_fit : (q : Ask) (bs : List Buffer) (r : ℕ) → IsEnding q bs r → FitsOver bs q (Contents (values_at bs r))
contents_fit q bs r e =
    let f : FitsEnd (slice_get bs r) (Contents (values_at bs r)) = subst (λ o. FitsEnd o (Contents (values_of o))) (sym e.there) (e.vector, refl) in
    subst (λ y. FitsOver bs y (Contents (values_at bs r))) (sym e.ask) f

-- entries of no thread: a node, and an entry that is no longer pending
pub node_none_new : (es : List Entry) (e : Entry) → owner e.work ≡ None → NoneNew es (es ++ e ∷ [])
node_none_new es e n k d u x =
    elim (more_at es e d k x.at) [
      | inl p ↦ record { at = p; pending = x.pending; owned = x.owned }
      | inr p ↦ let z : None ≡ Some u = sym n ∙ ap (λ y. owner y.work) (sym p.1) ∙ x.owned in cc
    ]

-- a pending entry is none of which the stage was changed
staged : (s : Stage) → is_pending s ≡ false → (k j : ℕ) (es : List Entry) (e : Entry) → slice_get (changed_at (with_stage s) k es) j ≡ Some e → is_pending e.stage ≡ true → (slice_get es j ≡ Some e) × (j ≢ k)
staged s n k j [] e h p = cc
staged s n zero zero (x ∷ es) e h p = cc
staged s n zero (suc j) (x ∷ es) e h p = (h, λ q. omega (arith, q))
staged s n (suc k) zero (x ∷ es) e h p = (h, λ q. omega (arith, q))
staged s n (suc k) (suc j) (x ∷ es) e h p =
    let r = staged s n k j es e h p in
    (r.0, λ q. r.1 (omega (arith, q)))

pub stage_none_new : (s : Stage) → is_pending s ≡ false → (k : ℕ) (es : List Entry) → NoneNew es (changed_at (with_stage s) k es)
stage_none_new s n k es j e u x = record { at = (staged s n k j es e x.at x.pending).0; pending = x.pending; owned = x.owned }

module _ (ask : ℕ → Ask) where
  pub less : (bs cs : List Buffer) (es fs : List Entry) (ws : List Waits) → Fit ask bs es ws → AllStay bs cs → NoneNew es fs → Fit ask cs fs ws
  less bs cs es fs ws f h n = record {
    suits = λ u w g. suits_more bs cs (ask u) w h (f.suits u w g);
    waiting = λ k e u x. f.waiting k e u (n k e u x);
    asked = λ k e u x. asked_more (ask u) bs cs e.needs e.work h (f.asked k e u (n k e u x));
    once = λ j k d e u x y. f.once j k d e u (n j d u x) (n k e u y);
  }

  -- once the entry has taken effect its thread waits for no other
  pub idle_after : (bs : List Buffer) (es : List Entry) (ws : List Waits) (s : Stage) (k : ℕ) (e : Entry) (u : ℕ) → is_pending s ≡ false → Fit ask bs es ws → Waited es k e u → Idle (changed_at (with_stage s) k es) u
  idle_after bs es ws s k e u n f x j d y =
      (staged s n k j es d y.at y.pending).1 (f.once j k d e u (stage_none_new s n k es j d u y) x)

  suits_set : (bs : List Buffer) (es : List Entry) (ws : List Waits) (t : ℕ) (w : Waits) → Fit ask bs es ws → Suits bs (ask t) w → (u : ℕ) (v : Waits) → slice_get (slice_set ws t w) u ≡ Some v → Suits bs (ask u) v
  suits_set bs es ws t w f s u v h =
      elim (same_or_not u t) [
        | inl p ↦
            let q : slice_get (slice_set ws t w) t ≡ Some v = subst (λ y. slice_get (slice_set ws t w) y ≡ Some v) p h in
            subst (λ y. Suits bs (ask y) v) (sym p) (subst (λ y. Suits bs (ask t) y) (sym (set_same ws t w v q)) s)
        | inr n ↦ f.suits u v (sym (set_other ws t u w n) ∙ h)
      ]

  -- a thread that no entry is waited for by waits for something else
  pub told : (bs : List Buffer) (es : List Entry) (ws : List Waits) (t : ℕ) (w : Waits) → Fit ask bs es ws → Idle es t → Suits bs (ask t) w → Fit ask bs es (slice_set ws t w)
  told bs es ws t w f idle s = record {
    suits = suits_set bs es ws t w f s;
    waiting = λ k e u x. set_other ws t u w (λ p. idle k e (subst (λ y. Waited es k e y) p x)) ∙ f.waiting k e u x;
    asked = f.asked;
    once = f.once;
  }
