-- Stops that are one, and items that stand together in any order.
use Rattle.std.proofs.Common.{refl, sym}
use Rattle.std.specs.Prelude.{Bool, List, None, Option, Some, [], false, if◌then◌else◌, suc, true, zero, ℕ, ℤ, ⊤, ◌&&◌, ◌==◌, ◌∷◌, ◌≡◌, ◌⊎◌}
use Rattle.sy_work.specs.Collective.{same_stop, stop_line}
use Rattle.sy_work.specs.declared.asks.Ask.{Ask}
use Rattle.sy_work.specs.declared.asks.Ask.TheVariants as asks
use Rattle.sy_work.specs.declared.commands.Collect.{Collect}
use Rattle.sy_work.specs.declared.commands.Form.{Form}
use Rattle.sy_work.specs.declared.commands.Form.TheVariants as forms
use Rattle.sy_work.specs.declared.commands.RedOp.{RedOp}
use Rattle.sy_work.specs.declared.commands.RedOp.TheVariants as red
use Rattle.sy_work.specs.declared.endings.Cause.TheVariants as cause
use Rattle.sy_work.specs.declared.endings.Fault.{Fault}
use Rattle.sy_meaning.specs.Expressions.{one}
use Rattle.sy_meaning.specs.Items.{Footprint, divergence, failed, fault_at, first_fault, or_agreed, or_line, or_stops, phase}
use Rattle.sy_meaning.specs.Orders.{Fails, Holds, diverges, exchanged, reordered}
use Rattle.sy_meaning.proofs.ItemOrderLemmas.{calm}
use Rattle.std.proofs.Common.{ap, ◌∙◌, subst, inl, inr}
use Rattle.std.proofs.lemmas.Bool.{and_parts, and_from, eqb-true, eq-eqb, cond-true}
use Rattle.sy_work.specs.Collective.{kind_number, same_form, same_operator, same_call}

same_form_is : (f g : Form) → same_form f g ≡ true → f ≡ g
same_form_is forms.Reduce forms.Reduce h = refl
same_form_is forms.Inclusive forms.Inclusive h = refl
same_form_is forms.Exclusive forms.Exclusive h = refl
same_form_is (forms.Broadcast n) (forms.Broadcast m) h = ap forms.Broadcast (eqb-true n m h)
same_form_is f g h = absurd cc

same_form_itself : (f : Form) → same_form f f ≡ true
same_form_itself forms.Reduce = refl
same_form_itself forms.Inclusive = refl
same_form_itself forms.Exclusive = refl
same_form_itself (forms.Broadcast n) = eq-eqb n n refl

same_operator_is : (o p : RedOp) → same_operator o p ≡ true → o ≡ p
same_operator_is red.Plus red.Plus h = refl
same_operator_is red.Times red.Times h = refl
same_operator_is red.Min red.Min h = refl
same_operator_is red.Max red.Max h = refl
same_operator_is red.And red.And h = refl
same_operator_is red.Or red.Or h = refl
same_operator_is red.Xor red.Xor h = refl
same_operator_is o p h = absurd cc

same_operator_itself : (o : RedOp) → same_operator o o ≡ true
same_operator_itself red.Plus = refl
same_operator_itself red.Times = refl
same_operator_itself red.Min = refl
same_operator_itself red.Max = refl
same_operator_itself red.And = refl
same_operator_itself red.Or = refl
same_operator_itself red.Xor = refl

same_number : (a b c : ℕ) → (a == b) ≡ true → (a == c) ≡ true → (b == c) ≡ true
same_number a b c p q = eq-eqb b c (sym (eqb-true a b p) ∙ eqb-true a c q)

-- where x and y are calls alike, so are y and what is alike to x
call_chain : (x y z : Collect) → same_call x y ≡ true → same_call x z ≡ true → same_call y z ≡ true
call_chain x y z p q =
    let a = and_parts (same_form x.form y.form) (same_operator x.op y.op && kind_number x.kind == kind_number y.kind) p in
    let b = and_parts (same_form x.form z.form) (same_operator x.op z.op && kind_number x.kind == kind_number z.kind) q in
    let c = and_parts (same_operator x.op y.op) (kind_number x.kind == kind_number y.kind) a.1 in
    let d = and_parts (same_operator x.op z.op) (kind_number x.kind == kind_number z.kind) b.1 in
    let F = λ (f : Form). same_form f z.form ≡ true in
    let O = λ (o : RedOp). same_operator o z.op ≡ true in
    and_from (same_form y.form z.form) (same_operator y.op z.op && kind_number y.kind == kind_number z.kind) (subst F (same_form_is x.form y.form a.0) b.0) (and_from (same_operator y.op z.op) (kind_number y.kind == kind_number z.kind) (subst O (same_operator_is x.op y.op c.0) d.0) (same_number (kind_number x.kind) (kind_number y.kind) (kind_number z.kind) c.1 d.1))

call_itself : (x : Collect) → same_call x x ≡ true
call_itself x =
    and_from (same_form x.form x.form) (same_operator x.op x.op && kind_number x.kind == kind_number x.kind) (same_form_itself x.form) (and_from (same_operator x.op x.op) (kind_number x.kind == kind_number x.kind) (same_operator_itself x.op) (eq-eqb (kind_number x.kind) (kind_number x.kind) refl))

-- ---- the ask that is one stop with another

finish_is : (v : ℤ) (b : Ask) → same_stop (asks.Finish v) b ≡ true → (w : ℤ) × (b ≡ asks.Finish w)
finish_is v (asks.Finish w) h = (w, refl)
finish_is v b h = absurd cc

barrier_is : (c l : ℕ) (b : Ask) → same_stop (asks.Barrier c l) b ≡ true → b ≡ asks.Barrier c l
barrier_is c l (asks.Barrier d m) h =
    let p = and_parts (c == d) (l == m) h in
    let e : c ≡ d = eqb-true c d p.0 in
    let g : l ≡ m = eqb-true l m p.1 in
    cc
barrier_is c l b h = absurd cc

collect_is : (c l : ℕ) (x : Collect) (b : Ask) → same_stop (asks.Collect c l x) b ≡ true → (y : Collect) × (b ≡ asks.Collect c l y) × (same_call x y ≡ true)
collect_is c l x (asks.Collect d m y) h =
    let p = and_parts (c == d) (l == m && same_call x y) h in
    let q = and_parts (l == m) (same_call x y) p.1 in
    let e : c ≡ d = eqb-true c d p.0 in
    let g : l ≡ m = eqb-true l m q.0 in
    let same : asks.Collect d m y ≡ asks.Collect c l y = cc in
    (y, same, q.1)
collect_is c l x b h = absurd cc

same_barrier : (c l : ℕ) → same_stop (asks.Barrier c l) (asks.Barrier c l) ≡ true
same_barrier c l = and_from (c == c) (l == l) (eq-eqb c c refl) (eq-eqb l l refl)

same_collect : (c l : ℕ) (x y : Collect) → same_call x y ≡ true → same_stop (asks.Collect c l x) (asks.Collect c l y) ≡ true
same_collect c l x y h =
    and_from (c == c) (l == l && same_call x y) (eq-eqb c c refl) (and_from (l == l) (same_call x y) (eq-eqb l l refl) h)

-- where a and b are one stop, so are b and what is one with a
pub stop_chain : (a b c : Ask) → same_stop a b ≡ true → same_stop a c ≡ true → same_stop b c ≡ true
stop_chain (asks.Finish v) b c p q =
    let s = finish_is v b p in
    let t = finish_is v c q in
    ap (λ x. same_stop x c) s.1 ∙ ap (λ x. same_stop (asks.Finish s.0) x) t.1
stop_chain (asks.Barrier k l) b c p q =
    ap (λ x. same_stop x c) (barrier_is k l b p) ∙ (ap (λ x. same_stop (asks.Barrier k l) x) (barrier_is k l c q) ∙ same_barrier k l)
stop_chain (asks.Collect k l x) b c p q =
    let s = collect_is k l x b p in
    let t = collect_is k l x c q in
    ap (λ y. same_stop y c) s.1 ∙ (ap (λ y. same_stop (asks.Collect k l s.0) y) t.1 ∙ same_collect k l s.0 t.0 (call_chain x s.0 t.0 s.2 t.2))
stop_chain a b c p q = absurd cc

-- a stop that is one with another is one with itself
pub stop_itself : (a b : Ask) → same_stop a b ≡ true → same_stop a a ≡ true
stop_itself (asks.Finish v) b p = refl
stop_itself (asks.Barrier k l) b p = same_barrier k l
stop_itself (asks.Collect k l x) b p = same_collect k l x x (call_itself x)
stop_itself a b p = absurd cc

pub stop_back : (a b : Ask) → same_stop a b ≡ true → same_stop b a ≡ true
stop_back a b p = stop_chain a b a p (stop_itself a b p)

-- ---- items that stand together

abbrev Together : Ask → List Footprint → Type 0
Together a [] = ⊤
Together a (f ∷ fs) = (same_stop a f.stop ≡ true) × Together a fs

agree_step : (b : Bool) (x : Option Fault) (y : Fault) → (if b then x else Some y) ≡ None → (b ≡ true) × (x ≡ None)
agree_step true x y h = (refl, h)
agree_step false x y h = absurd cc

together_from : (a : Ask) (fs : List Footprint) → divergence a fs ≡ None → Together a fs
together_from a [] h = tt
together_from a (f ∷ fs) h =
    let p = agree_step (same_stop a f.stop) (divergence a fs) (fault_at f.position (cause.Divergence, or_line (stop_line a) (stop_line f.stop))) h in
    (p.0, together_from a fs p.1)

none_together : (a : Ask) (fs : List Footprint) → Together a fs → divergence a fs ≡ None
none_together a [] t = refl
none_together a (f ∷ fs) (same, rest) =
    cond-true (same_stop a f.stop) (divergence a fs) (Some (fault_at f.position (cause.Divergence, or_line (stop_line a) (stop_line f.stop)))) same ∙ none_together a fs rest

together_with : (a b : Ask) (fs : List Footprint) → same_stop a b ≡ true → Together a fs → Together b fs
together_with a b [] same t = tt
together_with a b (f ∷ fs) same (one, rest) = (stop_chain a b f.stop same one, together_with a b fs same rest)

together_exchanged : (k : ℕ) (a : Ask) (fs : List Footprint) → Together a fs → Together a (exchanged k fs)
together_exchanged k a [] t = t
together_exchanged k a (f ∷ []) t = t
together_exchanged zero a (f ∷ g ∷ fs) t = (t.1.0, (t.0, t.1.1))
together_exchanged (suc k) a (f ∷ g ∷ fs) (one, rest) = (one, together_exchanged k a (g ∷ fs) rest)

agree_exchanged : (k : ℕ) (fs : List Footprint) → diverges fs ≡ None → diverges (exchanged k fs) ≡ None
agree_exchanged k [] h = h
agree_exchanged k (f ∷ []) h = h
agree_exchanged zero (f ∷ g ∷ fs) h =
    let t = together_from f.stop (g ∷ fs) h in
    none_together g.stop (f ∷ fs) (stop_back f.stop g.stop t.0, together_with f.stop g.stop fs t.0 t.1)
agree_exchanged (suc k) (f ∷ g ∷ fs) h =
    none_together f.stop (exchanged k (g ∷ fs)) (together_exchanged k f.stop (g ∷ fs) (together_from f.stop (g ∷ fs) h))

pub agree_reordered : (order : List ℕ) (fs : List Footprint) → diverges fs ≡ None → diverges (reordered order fs) ≡ None
agree_reordered [] fs h = h
agree_reordered (k ∷ order) fs h = agree_reordered order (exchanged k fs) (agree_exchanged k fs h)

-- ---- a phase that doesn't fail

agreed_failed : (fs : List Footprint) (a : Ask) (x : Fault) → or_agreed fs a (Some x) ≡ failed x
agreed_failed fs a x = refl

phase_or_agree : (f : Footprint) (fs : List Footprint) (x : Option Fault) → first_fault [] (f ∷ fs) ≡ None → divergence f.stop fs ≡ x → Fails (phase (f ∷ fs)) ⊎ (divergence f.stop fs ≡ None)
phase_or_agree f fs None calm e = inr e
phase_or_agree f fs (Some x) calm e = inl (x, ap (or_stops (f ∷ fs)) calm ∙ ap (λ y. or_agreed (f ∷ fs) f.stop y) e)

pub together : (fs : List Footprint) → Holds (phase fs) → diverges fs ≡ None
together [] h = refl
together (f ∷ fs) h =
    elim (phase_or_agree f fs (divergence f.stop fs) (calm (f ∷ fs) h) refl) [
      | inl bad ↦ absurd (h bad.0 bad.1)
      | inr good ↦ good
    ]
