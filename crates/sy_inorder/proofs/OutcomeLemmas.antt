-- A command that is done had the outcome that the execution of all entries before it gives it.
use Rattle.std.proofs.Common.{◌≡◌, ℕ, zero, suc, ◌+◌, ◌<◌, ◌≤◌, ℤ, ◌⊎◌, inl, inr, List, [], ◌∷◌, ◌++◌, length, take, Bool, true, false, Option, Some, None, refl, sym, ap, ◌∙◌, subst, arith}
use Rattle.std.specs.Prelude.{slice_get, if◌then◌else◌}
use Rattle.std.proofs.lemmas.List.{append-nil}
use Rattle.std.proofs.lemmas.Option.{same_Some, none-some, slice_get_within}
use Rattle.sy_work.specs.Programs.{OutcomeOf, Program}
use Rattle.sy_work.specs.declared.asks.Ask.{Ask}
use Rattle.sy_work.specs.declared.commands.Command.{Command}
use Rattle.sy_work.specs.declared.commands.Outcome.{Outcome}
use Rattle.sy_work.specs.declared.commands.Outcome.TheVariants.{Wrote, Failed as CommandFailed}
use Rattle.sy_onecopy.specs.declared.Buffer.{Buffer}
use Rattle.sy_onecopy.specs.declared.Entry.{Entry}
use Rattle.sy_onecopy.specs.declared.Work.{Work}
use Rattle.sy_onecopy.specs.declared.Work.TheVariants.{Node, Access, End}
use Rattle.sy_onecopy.specs.declared.Stage.{Stage}
use Rattle.sy_onecopy.specs.declared.Stage.TheVariants as stage
use Rattle.sy_onecopy.specs.Each.{changed_at}
use Rattle.sy_onecopy.specs.State.{Board, State, start, next_ask}
use Rattle.sy_onecopy.specs.Before.{is_done, is_free}
use Rattle.sy_onecopy.specs.Outcome.{inputs}
use Rattle.sy_onecopy.specs.Settle.{with_stage, took, effect, settle_entry, settle_upto}
use Rattle.sy_onecopy.specs.Step.{begin_ask, give_all, turn, step}
use Rattle.sy_onecopy.specs.Sequence.{is_legal, seq, seq_from}
use Rattle.sy_inorder.specs.Sequential.{after_work, stage_by, execute_one, execute, Execution, is_any, is_over}
use Rattle.sy_inorder.specs.Ledger.{Ledger, closed_with, asked, noted, empty, ledger_from, ledger_of, execute_all, execute_done}
use Rattle.sy_inorder.proofs.ListLemmas as places
use Rattle.sy_inorder.proofs.ListLemmas.WasAt.{kept, changed}
use Rattle.sy_inorder.proofs.AskLemmas.{AreNamed, IsNoNode, Change, apply-change}
use Rattle.sy_inorder.proofs.AskLemmas.Change.{quiet, wider, added, shut}
use Rattle.sy_inorder.proofs.ElementLemmas.{after-left, earlier_spares}
use Rattle.sy_inorder.proofs.ExecutionLemmas.{tale, now_done, length_by, length_after, wider_inputs, wider_execute}
use Rattle.sy_inorder.proofs.InvariantLemmas.{Holds, ordered, done_not_pending, pending_open, with_made, nothing_noted, same_length, drop_all, wider_noted, after_change, change_holds, other_place}
use Rattle.sy_inorder.proofs.StateLemmas.{BoardHolds, free_pending, free_before, upto_holds, asked_holds, one_legal, start_holds}
use Rattle.sy_inorder.proofs.InputLemmas.{seen, seen_front, inputs_view, take_ordered, not_met}

-- each node that is done has the stage of its outcome on what the entries before it leave
abbrev pub OutcomesHold : OutcomeOf → Ledger → List Entry → Type 0
OutcomesHold out l es = (k n q : ℕ) (e : Entry) (c : Command) → slice_get es k ≡ Some e → e.work ≡ Node n q c → is_done e.stage ≡ true → e.stage ≡ stage_by (out c (inputs (execute_all out l (take k es)) e.needs))

-- ---- executions that come to the same

take_changed : {A : Type 0} (f : A → A) (j k : ℕ) (xs : List A) → take k (changed_at f j xs) ≡ changed_at f j (take k xs)
take_changed f j zero xs = refl
take_changed f j (suc k) [] = refl
take_changed f zero (suc k) (x ∷ xs) = refl
take_changed f (suc j) (suc k) (x ∷ xs) = ap (λ l. x ∷ l) (take_changed f j k xs)

-- the execution of all does not ask for stages
any_stage : (out : OutcomeOf) (g : ℕ → List ℤ) (b j : ℕ) (es : List Entry) (s : Stage) (bs : List Buffer) → execute (tale out g is_any) b (changed_at (with_stage s) j es) bs ≡ execute (tale out g is_any) b es bs
any_stage out g b j [] s bs = refl
any_stage out g b zero (x ∷ es) s bs = refl
any_stage out g b (suc j) (x ∷ es) s bs = any_stage out g (suc b) j es s (after_work out (g b) x.needs x.work bs)

-- nor for what later entries were given
same_front : (out : OutcomeOf) (g h : ℕ → List ℤ) (b : ℕ) (es : List Entry) (bs : List Buffer) → ((j : ℕ) → j < b + length es → h j ≡ g j) → execute (tale out h is_any) b es bs ≡ execute (tale out g is_any) b es bs
same_front out g h b [] bs e = refl
same_front out g h b (x ∷ es) bs e =
    ap (λ v. execute (tale out h is_any) (suc b) es (after_work out v x.needs x.work bs)) (e b (omega arith))
    ∙ same_front out g h (suc b) es (after_work out (g b) x.needs x.work bs) (λ j l. e j (omega (arith, l)))

length_take : {A : Type 0} (k : ℕ) (xs : List A) → length (take k xs) ≤ k
length_take zero xs = omega arith
length_take (suc k) [] = omega arith
length_take (suc k) (x ∷ xs) = let h = length_take k xs in omega (arith, h)

length_execute : (s : Execution) (k : ℕ) (es : List Entry) (bs : List Buffer) → length (execute s k es bs) ≡ length bs
length_execute s k [] bs = refl
length_execute s k (e ∷ es) bs = length_execute s (suc k) es (execute_one s k e bs) ∙ length_by (s.includes e) s k e bs

staged : (out : OutcomeOf) (l : Ledger) (es : List Entry) (j k : ℕ) (s : Stage) → execute_all out l (take k (changed_at (with_stage s) j es)) ≡ execute_all out l (take k es)
staged out l es j k s =
    ap (λ x. execute (tale out (closed_with l.closings) is_any) 0 x l.made) (take_changed (with_stage s) j k es) ∙ any_stage out (closed_with l.closings) 0 j (take k es) s l.made

-- ---- a change of one stage

-- what the entry at j, which gets stage s, must have where it is a node
abbrev pub FitsStage : OutcomeOf → Ledger → List Entry → ℕ → Entry → Stage → Type 0
FitsStage out l es j e s = (n q : ℕ) (c : Command) → e.work ≡ Node n q c → is_done s ≡ true → s ≡ stage_by (out c (inputs (execute_all out l (take j es)) e.needs))

changed_outcomes : (out : OutcomeOf) (l : Ledger) (es : List Entry) (j : ℕ) (e : Entry) (s : Stage) → slice_get es j ≡ Some e → FitsStage out l es j e s → OutcomesHold out l es → OutcomesHold out l (changed_at (with_stage s) j es)
changed_outcomes out l es j e s at fits h k n q x c g w d = elim (places.changed_or (with_stage s) j es k x g) [
  | kept old m ↦ h k n q x c old w d ∙ ap (λ b. stage_by (out c (inputs b x.needs))) (sym (staged out l es j k s))
  | changed z kj gj fz ↦
      let z_is : z ≡ e = same_Some z e (sym gj ∙ at) in
      let work : e.work ≡ Node n q c = ap (λ y. y.work) (sym z_is) ∙ ap (λ y. y.work) fz ∙ w in
      let done : is_done s ≡ true = ap (λ y. is_done y.stage) fz ∙ d in
      let needs : e.needs ≡ x.needs = ap (λ y. y.needs) (sym z_is) ∙ ap (λ y. y.needs) fz in
      ap (λ y. y.stage) (sym fz) ∙ fits n q c work done
      ∙ ap (λ ns. stage_by (out c (inputs (execute_all out l (take j es)) ns))) needs
      ∙ ap (λ m. stage_by (out c (inputs (execute_all out l (take m es)) x.needs))) (sym kj)
      ∙ ap (λ b. stage_by (out c (inputs b x.needs))) (sym (staged out l es j k s))
]

-- ---- an access is closed

-- the inputs of an entry that is done stay when an open one before it is closed
closed_before : (out : OutcomeOf) (l m : Ledger) (es : List Entry) (bs cs : List Buffer) (j k : ℕ) (e x : Entry) → slice_get es j ≡ Some e → is_done e.stage ≡ false → j < k → slice_get es k ≡ Some x → is_done x.stage ≡ true → slice_get (changed_at (with_stage stage.Done) j es) k ≡ Some x → m.made ≡ l.made → ((i : ℕ) → (i ≡ j → ⊥) → closed_with m.closings i ≡ closed_with l.closings i) → Holds out l es bs → Holds out m (changed_at (with_stage stage.Done) j es) cs → inputs (execute_all out m (take k (changed_at (with_stage stage.Done) j es))) x.needs ≡ inputs (execute_all out l (take k es)) x.needs
closed_before out l m es bs cs j k e x at d lt old dx new made same h i =
    let fs = changed_at (with_stage stage.Done) j es in
    let view = λ (b : List Buffer). inputs b x.needs in
    let not_waiting = done_not_pending x.stage dx in
    let given = closed_with m.closings in
    let apart = not_met e x (h.none_overtakes j k e x lt at old d not_waiting) in
    seen_front view out m fs k x (inputs_view x.needs) (ordered fs i.none_overtakes) (λ a y l1 g o. i.none_overtakes a k y x l1 g new o not_waiting)
    ∙ ap (λ b. view (execute (tale out given is_over) 0 (take k fs) b)) made
    ∙ ap (λ z. view (execute (tale out given is_over) 0 z l.made)) (take_changed (with_stage stage.Done) j k es)
    ∙ ap view (now_done out (closed_with l.closings) given 0 j (take k es) e stage.Done l.made (places.take_has k es j e lt at) d refl (λ a n. same a (λ z. n (omega (arith, z))))
    (λ a y l1 g o. take_ordered es k (ordered es h.none_overtakes) j a e y l1 (places.take_has k es j e lt at) g d o))
    ∙ after-left out (given (0 + j)) e x.needs (execute_done out l (take k es)) (λ b a has. earlier_spares e x b a apart has)
    ∙ sym (seen_front view out l es k x (inputs_view x.needs) (ordered es h.none_overtakes) (λ a y l1 g o. h.none_overtakes a k y x l1 g old o not_waiting))

by_order : (j k : ℕ) → (k ≡ j → ⊥) → (j < k) ⊎ (k < j)
by_order zero zero n = absurd (n refl)
by_order zero (suc k) n = inl (omega arith)
by_order (suc j) zero n = inr (omega arith)
by_order (suc j) (suc k) n = elim (by_order j k (λ e. n (ap suc e))) [ inl a ↦ inl (omega (arith, a)) | inr b ↦ inr (omega (arith, b)) ]

closed_outcomes : (out : OutcomeOf) (l m : Ledger) (es : List Entry) (bs cs : List Buffer) (j : ℕ) (e : Entry) → slice_get es j ≡ Some e → is_done e.stage ≡ false → IsNoNode e.work → m.made ≡ l.made → ((i : ℕ) → (i ≡ j → ⊥) → closed_with m.closings i ≡ closed_with l.closings i) → Holds out l es bs → Holds out m (changed_at (with_stage stage.Done) j es) cs → OutcomesHold out l es → OutcomesHold out m (changed_at (with_stage stage.Done) j es)
closed_outcomes out l m es bs cs j e at d none made same h i o k n q x c g w dx = elim (places.changed_or (with_stage stage.Done) j es k x g) [
  | kept old away ↦ elim (by_order j k away) [
    | inl lt ↦ o k n q x c old w dx ∙ ap (λ b. stage_by (out c b)) (sym (closed_before out l m es bs cs j k e x at d lt old dx g made same h i))
    | inr gt ↦
        let short = length_take k es in
        o k n q x c old w dx
        ∙ ap (λ b. stage_by (out c (inputs b x.needs)))
        (sym (staged out m es j k stage.Done
        ∙ ap (λ b. execute (tale out (closed_with m.closings) is_any) 0 (take k es) b) made
        ∙ same_front out (closed_with l.closings) (closed_with m.closings) 0 (take k es) l.made (λ a l1. same a (λ z. omega (arith, l1, z, short, gt)))))
  ]
  | changed z kj gj fz ↦ absurd (none n q c (ap (λ y. y.work) (same_Some e z (sym at ∙ gj)) ∙ ap (λ y. y.work) fz ∙ w))
]

-- ---- an ask

moved_outcomes : (out : OutcomeOf) (l m : Ledger) (es fs : List Entry) → l ≡ m → es ≡ fs → OutcomesHold out l es → OutcomesHold out m fs
moved_outcomes out l m es fs p q h = subst (λ x. OutcomesHold out x fs) p (subst (OutcomesHold out l) q h)

wider_outcomes : (out : OutcomeOf) (l : Ledger) (es : List Entry) (bs : List Buffer) (x : Buffer) → Holds out l es bs → OutcomesHold out l es → OutcomesHold out (with_made l (l.made ++ x ∷ [])) es
wider_outcomes out l es bs x h o k n q e c at w d =
    let s = tale out (closed_with l.closings) is_any in
    let named = λ (j : ℕ) (y : Entry) (g : slice_get es j ≡ Some y). subst (λ m. AreNamed m y.needs) (sym h.count) (h.sound j y g).named in
    let long = length_execute s 0 (take k es) l.made in
    o k n q e c at w d
    ∙ ap (λ b. stage_by (out c b))
    (sym (ap (λ b. inputs b e.needs) (wider_execute s 0 (take k es) l.made x (λ j y g. named j y (places.in_take k es j y g).1))
    ∙ wider_inputs (execute_all out l (take k es)) x e.needs (subst (λ m. AreNamed m e.needs) (sym long) (named k e at))))

added_outcomes : (out : OutcomeOf) (l : Ledger) (es : List Entry) (e : Entry) → is_done e.stage ≡ false → OutcomesHold out l es → OutcomesHold out l (es ++ e ∷ [])
added_outcomes out l es e live o k n q x c g w d = elim (places.last_or es e k x g) [
  | inl old ↦
      let lt = slice_get_within es k x old in
      o k n q x c old w d ∙ ap (λ z. stage_by (out c (inputs (execute_all out l z) x.needs))) (sym (places.take_front es e k (omega (arith, lt))))
  | inr last ↦ let z : true ≡ false = sym d ∙ ap (λ y. is_done y.stage) (sym last.1) ∙ live in absurd cc
]

change_outcomes : (out : OutcomeOf) (l : Ledger) (es fs : List Entry) (bs cs : List Buffer) (closes : List (ℕ × List ℤ)) → Change es fs bs cs closes → Holds out l es bs → OutcomesHold out l es → OutcomesHold out (after_change l bs cs closes) fs
change_outcomes out l es fs bs cs closes (quiet p q r) h o =
    moved_outcomes out l (after_change l bs cs closes) es fs (nothing_noted l bs cs closes (same_length bs cs q) r) (sym p) o
change_outcomes out l es fs bs cs closes (wider x p q r) h o =
    moved_outcomes out (with_made l (l.made ++ x ∷ [])) (after_change l bs cs closes) es fs (wider_noted l bs cs closes x q r) (sym p) (wider_outcomes out l es bs x h o)
change_outcomes out l es fs bs cs closes (added e t s p q r) h o =
    moved_outcomes out l (after_change l bs cs closes) (es ++ e ∷ []) fs (nothing_noted l bs cs closes (same_length bs cs q) r) (sym p) (added_outcomes out l es e (ap is_done t) o)
change_outcomes out l es fs bs cs closes (shut k e values at t w p q r) h o =
    let m = after_change l bs cs closes in
    let s = shut k e values at t w p q r in
    let made : m.made ≡ l.made = ap (λ d. l.made ++ d) (drop_all cs (length bs) (ap length (q out) ∙ length_after out values e.needs e.work bs)) ∙ append-nil l.made in
    let same = λ (j : ℕ) (n : j ≡ k → ⊥). ap (λ x. closed_with (x ++ l.closings) j) r ∙ ap (λ v. if v then values else closed_with l.closings j) (other_place k j n) in
    moved_outcomes out m m (changed_at (with_stage stage.Done) k es) fs refl (sym p)
    (closed_outcomes out l m es bs cs k e at (ap is_done t) w made same h (subst (λ x. Holds out m x cs) p (change_holds out l es fs bs cs closes s h)) o)

-- ---- a pass

one_command : (n q : ℕ) (c : Command) (m p : ℕ) (d : Command) → Node n q c ≡ Node m p d → c ≡ d
one_command n q c m p d h = cc

-- a board on which both hold
record Tells (out : OutcomeOf) (l : Ledger) (b : Board) : Type 0 where
  holds : BoardHolds out l b
  outcomes : OutcomesHold out l b.entries

-- the stage that a node gets is that of its outcome in the execution
fits_node : (out : OutcomeOf) (l : Ledger) (b : Board) (k n q : ℕ) (e : Entry) (c : Command) (r : Outcome) → slice_get b.entries k ≡ Some e → is_free b.entries k e ≡ true → e.work ≡ Node n q c → out c (inputs b.buffers e.needs) ≡ r → Tells out l b → FitsStage out l b.entries k e (stage_by r)
fits_node out l b k n q e c r at free w is h m p d x over =
    let view = λ (bs : List Buffer). inputs bs e.needs in
    let sees = seen view out l b.entries b.buffers k e (inputs_view e.needs) h.holds at (pending_open e (free_pending b.entries k e free)) (free_before b.entries k e free) in
    let same : c ≡ d = one_command n q c m p d (sym w ∙ x) in
    ap stage_by (sym is) ∙ ap (λ i. stage_by (out c i)) sees ∙ ap (λ a. stage_by (out a (view (execute_all out l (take k b.entries))))) same

took_outcomes : (out : OutcomeOf) (l : Ledger) (b : Board) (k n q : ℕ) (e : Entry) (c : Command) (r : Outcome) → slice_get b.entries k ≡ Some e → is_free b.entries k e ≡ true → e.work ≡ Node n q c → out c (inputs b.buffers e.needs) ≡ r → Tells out l b → OutcomesHold out l (took b k e.needs r).entries
unfolding took
took_outcomes out l b k n q e c (Wrote log) at free w r h = changed_outcomes out l b.entries k e stage.Done at (fits_node out l b k n q e c (Wrote log) at free w r h) h.outcomes
took_outcomes out l b k n q e c (CommandFailed f) at free w r h = changed_outcomes out l b.entries k e (stage.Failed f) at (fits_node out l b k n q e c (CommandFailed f) at free w r h) h.outcomes

effect_outcomes : (out : OutcomeOf) (l : Ledger) (b : Board) (k : ℕ) (e : Entry) (w : Work) → slice_get b.entries k ≡ Some e → is_free b.entries k e ≡ true → e.work ≡ w → Tells out l b → OutcomesHold out l (effect out b k e w).entries
unfolding effect
effect_outcomes out l b k e (Node n q c) at free w h = took_outcomes out l b k n q e c (out c (inputs b.buffers e.needs)) at free w refl h
effect_outcomes out l b k e (Access t i) at free w h =
    changed_outcomes out l b.entries k e stage.Granted at (λ n q c x d. let z : false ≡ true = d in absurd cc) h.outcomes
effect_outcomes out l b k e (End t r) at free w h =
    changed_outcomes out l b.entries k e stage.Done at (λ n q c x d. let z : Node n q c ≡ End t r = sym x ∙ w in absurd cc) h.outcomes

chosen_outcomes : (v : Bool) (out : OutcomeOf) (l : Ledger) (b : Board) (k : ℕ) (e : Entry) → is_free b.entries k e ≡ v → slice_get b.entries k ≡ Some e → Tells out l b → OutcomesHold out l (if v then effect out b k e e.work else b).entries
chosen_outcomes true out l b k e free at h = effect_outcomes out l b k e e.work at free refl h
chosen_outcomes false out l b k e free at h = h.outcomes

entry_outcomes : (out : OutcomeOf) (l : Ledger) (b : Board) (k : ℕ) (o : Option Entry) → slice_get b.entries k ≡ o → Tells out l b → OutcomesHold out l (settle_entry out b k o).entries
unfolding settle_entry
entry_outcomes out l b k None at h = h.outcomes
entry_outcomes out l b k (Some e) at h = chosen_outcomes (is_free b.entries k e) out l b k e refl at h

upto_outcomes : (out : OutcomeOf) (l : Ledger) (b : Board) (n : ℕ) → Tells out l b → OutcomesHold out l (settle_upto out b n).entries
upto_outcomes out l b zero h = h.outcomes
upto_outcomes out l b (suc n) h =
    entry_outcomes out l (settle_upto out b n) n (slice_get (settle_upto out b n).entries n) refl (record { holds = upto_holds out l b n h.holds; outcomes = upto_outcomes out l b n h })

-- ---- a sequence

asked_outcomes : (out : OutcomeOf) (l : Ledger) (b : Board) (t : ℕ) (q : Ask) → Tells out l b → OutcomesHold out (noted l b t q) (asked b t q).entries
unfolding noted
asked_outcomes out l b t q h = change_outcomes out l b.entries (asked b t q).entries b.buffers (asked b t q).buffers _ (apply-change (begin_ask b t) t q) h.holds h.outcomes

step_tells : (p : Program) (l : Ledger) (s : State) (t : ℕ) → Tells p.outcome l s.board → Tells p.outcome (noted l s.board t (next_ask p s t)) (step p s t).board
unfolding step turn give_all
step_tells p l s t h =
    let q = next_ask p s t in
    let m = noted l s.board t q in
    let c = asked s.board t q in
    let start_it = asked_holds p.outcome l s.board t q h.holds in
    record { holds = upto_holds p.outcome m c (length c.entries) start_it; outcomes = upto_outcomes p.outcome m c (length c.entries) (record { holds = start_it; outcomes = asked_outcomes p.outcome l s.board t q h }) }

from_tells : (p : Program) (l : Ledger) (s : State) (order : List ℕ) (u : State) → seq_from p s order ≡ Some u → Tells p.outcome l s.board → Tells p.outcome (ledger_from p s l order) u.board
from_tells p l s [] u e h = subst (λ (x : State). Tells p.outcome l x.board) (same_Some s u e) h
from_tells p l s (t ∷ ts) u e h =
    from_tells p (noted l s.board t (next_ask p s t)) (step p s t) ts u (one_legal (is_legal p s t) (seq_from p (step p s t) ts) u e).1 (step_tells p l s t h)

pub seq_outcomes : (p : Program) (order : List ℕ) (s : State) → seq p order ≡ Some s → OutcomesHold p.outcome (ledger_of p order) s.board.entries
seq_outcomes p order s e =
    (from_tells p empty (start p) order s e (record { holds = start_holds p.outcome; outcomes = λ k n q x c g w d. absurd (none-some x g) })).outcomes
