-- The end of a buffer over a vector gets what the execution leaves.
use Rattle.std.proofs.Common.{◌≡◌, ◌≤◌, ℕ, zero, suc, ◌+◌, ◌-◌, ◌<◌, ℤ, List, [], ◌∷◌, ◌++◌, length, take, Bool, true, false, Option, Some, None, refl, sym, ap, ◌∙◌, subst, arith}
use Rattle.std.specs.Prelude.{slice_get, slice_set, ◌||◌, if◌then◌else◌}
use Rattle.std.specs.List.{list_any}
use Rattle.std.proofs.lemmas.Bool.Decides.{nat_tests}
use Rattle.std.proofs.lemmas.Option.{none-some, same_Some, slice_get_within}
use Rattle.sy_access.specs.declared.access.Need.{Need}
use Rattle.sy_access.specs.Needs.{has_cell}
use Rattle.sy_work.specs.Programs.{OutcomeOf, Program}
use Rattle.sy_work.specs.declared.asks.Ask.{Ask}
use Rattle.sy_work.specs.declared.asks.Answer.{Answer}
use Rattle.sy_work.specs.declared.asks.Answer.TheVariants.{Contents, Done as Answered}
use Rattle.sy_onecopy.specs.declared.Buffer.{Buffer}
use Rattle.sy_onecopy.specs.declared.Entry.{Entry}
use Rattle.sy_onecopy.specs.declared.Work.{Work}
use Rattle.sy_onecopy.specs.declared.Work.TheVariants.{Node, Access, End}
use Rattle.sy_onecopy.specs.declared.Waits.{Waits}
use Rattle.sy_onecopy.specs.declared.Waits.TheVariants.{Due, OnEntry}
use Rattle.sy_onecopy.specs.State.{Board, State, next_ask}
use Rattle.sy_onecopy.specs.Before.{is_free, is_pending}
use Rattle.sy_onecopy.specs.Outcome.{inputs, values_at}
use Rattle.sy_onecopy.specs.Settle.{first_of, with_stage, effect, settle_entry, settle_upto, settle, settle_one}
use Rattle.sy_onecopy.specs.Sequence.{is_legal, seq}
use Rattle.sy_onecopy.specs.Step.{turn, give_all}
use Rattle.sy_inorder.specs.Sequential.{some_has, element, is_over, is_any}
use Rattle.sy_inorder.specs.Ledger.{closed_with, asked, ledger_of, execute_all, execute_done}
use Rattle.sy_inorder.specs.Effects.{TakesEffect, turned}
use Rattle.sy_inorder.proofs.ListLemmas as places
use Rattle.sy_inorder.proofs.AskLemmas.{Fits, all_of}
use Rattle.sy_inorder.proofs.ExecutionLemmas.{tale, same_rows}
use Rattle.sy_inorder.proofs.StateLemmas.{free_pending}
use Rattle.sy_inorder.proofs.InputLemmas.{given_inputs, execute-rows, effect_board, effect_sees, element_view}
use Rattle.sy_inorder.proofs.GrantLemmas.{due_stays, legal_ready, legal_there}
use Rattle.sy_inorder.proofs.WaitLemmas.{owner, node_owner, access_owner, end_owner, BoardWaited, effect_moves, effect_spares, asked_waited, upto_waited, seq_waited}

-- ---- the numbers

same_items : (xs ys : List ℤ) → length xs ≡ length ys → ((i : ℕ) → i < length xs → slice_get xs i ≡ slice_get ys i) → xs ≡ ys
same_items [] [] n h = refl
same_items [] (y ∷ ys) n h = absurd (omega (arith, n))
same_items (x ∷ xs) [] n h = absurd (omega (arith, n))
same_items (x ∷ xs) (y ∷ ys) n h =
    ap (λ z. z ∷ xs) (same_Some x y (h 0 (omega arith))) ∙ ap (λ l. y ∷ l) (same_items xs ys (omega (arith, n)) (λ i lt. h (suc i) (omega (arith, lt))))

has_all : (r n i : ℕ) → i < n → has_cell (all_of r n) r i ≡ true
unfolding has_cell
has_all r n i h = grind (arith, nat_tests)

or_nothing : (v : Bool) → v ≡ true → (v || false) ≡ true
or_nothing true h = refl
or_nothing false h = h

whole_has : (needs : List Need) (r n i : ℕ) → needs ≡ all_of r n ∷ [] → i < n → some_has needs r i ≡ true
unfolding some_has
whole_has needs r n i e h = ap (λ l. list_any (λ m. has_cell m r i) l) e ∙ or_nothing (has_cell (all_of r n) r i) (has_all r n i h)

end_fits : (bs : List Buffer) (w : Work) (needs : List Need) (u r : ℕ) → w ≡ End u r → Fits bs w needs → needs ≡ all_of r (length (values_at bs r)) ∷ []
unfolding Fits
end_fits bs w needs u r e h = let p = subst (λ x. Fits bs x needs) e h in p

pub end_sees : (p : Program) (order : List ℕ) (s : State) (t k u r : ℕ) (e : Entry) (m : Board) → TakesEffect p order s t k e m → e.work ≡ End u r → values_at m.buffers r ≡ values_at (execute_all p.outcome (ledger_of p (order ++ t ∷ [])) (take k m.entries)) r
end_sees p order s t k u r e m h work =
    let l = ledger_of p (order ++ t ∷ []) in
    let holds = effect_board p order s t k e m h in
    let needs : e.needs ≡ all_of r (length (values_at m.buffers r)) ∷ [] = end_fits m.buffers e.work e.needs u r work (holds.sound k e h.there).fits in
    let long : length (values_at m.buffers r) ≡ length (values_at (execute_all p.outcome l (take k m.entries)) r) =
    ap length (same_rows m.buffers (execute_done p.outcome l m.entries) holds.numbers r)
    ∙ execute-rows (tale p.outcome (closed_with l.closings) is_over) 0 m.entries l.made r
    ∙ sym (execute-rows (tale p.outcome (closed_with l.closings) is_any) 0 (take k m.entries) l.made r) in
    same_items (values_at m.buffers r) (values_at (execute_all p.outcome l (take k m.entries)) r) long
    (λ i lt. effect_sees (λ bs. element bs r i) p order s t k e m (element_view e.needs r i (whole_has e.needs r (length (values_at m.buffers r)) i needs lt)) h)

-- ---- the answer

not_due : (ws : List Waits) (u : ℕ) (a : Answer) → slice_get ws u ≡ Some (Due a) → slice_get ws u ≡ Some OnEntry → ⊥
not_due ws u a h g = due_is_not a (same_Some (Due a) OnEntry (sym h ∙ g))
  where
    due_is_not : (a : Answer) → Due a ≡ OnEntry → ⊥
    due_is_not a e = cc

-- an answer that is due stays so to the end of the pass
chosen_due : (v : Bool) (out : OutcomeOf) (b : Board) (k u : ℕ) (e : Entry) (a : Answer) → is_free b.entries k e ≡ v → slice_get b.entries k ≡ Some e → BoardWaited b → slice_get b.waits u ≡ Some (Due a) → slice_get (if v then effect out b k e e.work else b).waits u ≡ Some (Due a)
chosen_due true out b k u e a free at h due =
    effect_spares out b k e e.work u (λ o. not_due b.waits u a due (h.waits k u e (record { there = at; pending = free_pending b.entries k e free; owned = o }))) ∙ due
chosen_due false out b k u e a free at h due = due

entry_due : (out : OutcomeOf) (b : Board) (k u : ℕ) (o : Option Entry) (a : Answer) → slice_get b.entries k ≡ o → BoardWaited b → slice_get b.waits u ≡ Some (Due a) → slice_get (settle_entry out b k o).waits u ≡ Some (Due a)
unfolding settle_entry
entry_due out b k u None a at h due = due
entry_due out b k u (Some e) a at h due = chosen_due (is_free b.entries k e) out b k u e a refl at h due

upto_due : (out : OutcomeOf) (b : Board) (n d u : ℕ) (a : Answer) → BoardWaited b → slice_get (settle_upto out b n).waits u ≡ Some (Due a) → slice_get (settle_upto out b (n + d)).waits u ≡ Some (Due a)
upto_due out b n zero u a h due = ap (λ j. slice_get (settle_upto out b j).waits u) (let z : n + 0 ≡ n = omega arith in z) ∙ due
upto_due out b n (suc d) u a h due =
    ap (λ j. slice_get (settle_upto out b j).waits u) (let z : n + suc d ≡ suc (n + d) = omega arith in z)
    ∙ entry_due out (settle_upto out b (n + d)) (n + d) u (slice_get (settle_upto out b (n + d)).entries (n + d)) a refl (upto_waited out b (n + d) h) (upto_due out b n d u a h due)

chosen_length : (v : Bool) (out : OutcomeOf) (b : Board) (k : ℕ) (e : Entry) → length (if v then effect out b k e e.work else b).entries ≡ length b.entries
chosen_length true out b k e = let m = effect_moves out b k e e.work in ap length m.same_but ∙ places.length_changed (with_stage m.new_stage) k b.entries
chosen_length false out b k e = refl

entry_length : (out : OutcomeOf) (b : Board) (k : ℕ) (o : Option Entry) → length (settle_entry out b k o).entries ≡ length b.entries
unfolding settle_entry
entry_length out b k None = refl
entry_length out b k (Some e) = chosen_length (is_free b.entries k e) out b k e

upto_length : (out : OutcomeOf) (b : Board) (n : ℕ) → length (settle_upto out b n).entries ≡ length b.entries
upto_length out b zero = refl
upto_length out b (suc n) = entry_length out (settle_upto out b n) n (slice_get (settle_upto out b n).entries n) ∙ upto_length out b n

-- what a host access or the end of a buffer answers
answer_of : Board → Entry → Work → Answer
answer_of b e (Node n q c) = Answered
answer_of b e (Access t i) = Contents (first_of (inputs b.buffers e.needs))
answer_of b e (End t r) = Contents (values_at b.buffers r)

effect_due : (out : OutcomeOf) (b : Board) (k u : ℕ) (e : Entry) (w : Work) → u < length b.waits → owner w ≡ Some u → slice_get (effect out b k e w).waits u ≡ Some (Due (answer_of b e w))
unfolding effect answer_of
effect_due out b k u e (Node n q c) lt o = absurd (none-some u (sym (node_owner n q c) ∙ o))
effect_due out b k u e (Access t i) lt o =
    let same : t ≡ u = same_Some t u (sym (access_owner t i) ∙ o) in
    let a = Due (Contents (first_of (inputs b.buffers e.needs))) in
    ap (λ v. slice_get (slice_set b.waits v a) u) same ∙ places.set_same b.waits u a lt
effect_due out b k u e (End t r) lt o =
    let same : t ≡ u = same_Some t u (sym (end_owner t r) ∙ o) in
    let a = Due (Contents (values_at b.buffers r)) in
    ap (λ v. slice_get (slice_set b.waits v a) u) same ∙ places.set_same b.waits u a lt

here_due : (out : OutcomeOf) (b : Board) (k u : ℕ) (e : Entry) → slice_get b.entries k ≡ Some e → is_free b.entries k e ≡ true → u < length b.waits → owner e.work ≡ Some u → slice_get (settle_one out k b).waits u ≡ Some (Due (answer_of b e e.work))
unfolding settle_entry
here_due out b k u e at free lt o =
    ap (λ v. slice_get (settle_entry out b k v).waits u) at ∙ ap (λ v. slice_get (if v then effect out b k e e.work else b).waits u) free ∙ effect_due out b k u e e.work lt o

turn_gives : (out : OutcomeOf) (b : Board) (t u : ℕ) (q : Ask) (a : Answer) → slice_get (settle out (asked b t q)).waits u ≡ Some (Due a) → slice_get (turn out b t q).waits u ≡ Some (Due a)
unfolding turn give_all
turn_gives out b t u q a h = due_stays (settle out (asked b t q)) (settle out (asked b t q)).waits u a h

-- after the turn the answer is due to the entry's thread
gives : (p : Program) (order : List ℕ) (s : State) (t k u : ℕ) (e : Entry) (m : Board) → TakesEffect p order s t k e m → owner e.work ≡ Some u → slice_get (turned p s t).waits u ≡ Some (Due (answer_of m e e.work))
gives p order s t k u e m h o =
    let q = next_ask p s t in
    let c = asked s.board t q in
    let out = p.outcome in
    let x = settle_upto out c k in
    let waited : BoardWaited c = asked_waited s.board t q (legal_there p s t h.may) (legal_ready p s t h.may) (seq_waited p order s h.legal) in
    let at : slice_get x.entries k ≡ Some e = subst (λ (y : Board). slice_get y.entries k ≡ Some e) h.pass h.there in
    let free : is_free x.entries k e ≡ true = subst (λ (y : Board). is_free y.entries k e ≡ true) h.pass h.free in
    let waits : slice_get x.waits u ≡ Some OnEntry = (upto_waited out c k waited).waits k u e (record { there = at; pending = free_pending x.entries k e free; owned = o }) in
    let a = answer_of x e e.work in
    let here : slice_get (settle_upto out c (suc k)).waits u ≡ Some (Due a) = here_due out x k u e at free (slice_get_within x.waits u OnEntry waits) o in
    let lt : k < length c.entries = let n = upto_length out c k in let i = slice_get_within x.entries k e at in omega (arith, n, i) in
    let d = length c.entries - suc k in
    let all : suc k + d ≡ length c.entries = omega (arith, lt) in
    let last : slice_get (settle out c).waits u ≡ Some (Due a) = ap (λ j. slice_get (settle_upto out c j).waits u) (sym all) ∙ upto_due out c (suc k) d u a waited here in
    turn_gives out s.board t u q a last ∙ ap (λ y. Some (Due (answer_of y e e.work))) (sym h.pass)

pub end_gives : (p : Program) (order : List ℕ) (s : State) (t k u r : ℕ) (e : Entry) (m : Board) → TakesEffect p order s t k e m → e.work ≡ End u r → slice_get (turned p s t).waits u ≡ Some (Due (Contents (values_at (execute_all p.outcome (ledger_of p (order ++ t ∷ [])) (take k m.entries)) r)))
unfolding answer_of
end_gives p order s t k u r e m h work =
    gives p order s t k u e m h (ap owner work ∙ end_owner u r)
    ∙ ap (λ w. Some (Due (answer_of m e w))) work
    ∙ ap (λ l. Some (Due (Contents l))) (end_sees p order s t k u r e m h work)

pub access_gives : (p : Program) (order : List ℕ) (s : State) (t k u i : ℕ) (e : Entry) (m : Board) → TakesEffect p order s t k e m → e.work ≡ Access u i → slice_get (turned p s t).waits u ≡ Some (Due (Contents (first_of (inputs (execute_all p.outcome (ledger_of p (order ++ t ∷ [])) (take k m.entries)) e.needs))))
unfolding answer_of
access_gives p order s t k u i e m h work =
    gives p order s t k u e m h (ap owner work ∙ access_owner u i)
    ∙ ap (λ w. Some (Due (answer_of m e w))) work
    ∙ ap (λ l. Some (Due (Contents (first_of l)))) (given_inputs p order s t k e m h)

-- ---- what has left the pending ones in a step took effect in it

elsewhere : (out : OutcomeOf) (b : Board) (j k : ℕ) (e : Entry) (v : Bool) → (k ≡ j → ⊥) → slice_get (if v then effect out b j e e.work else b).entries k ≡ slice_get b.entries k
elsewhere out b j k e true n = let m = effect_moves out b j e e.work in ap (λ l. slice_get l k) m.same_but ∙ places.changed_other (with_stage m.new_stage) j b.entries k n
elsewhere out b j k e false n = refl

entry_elsewhere : (out : OutcomeOf) (b : Board) (j k : ℕ) (o : Option Entry) → (k ≡ j → ⊥) → slice_get (settle_entry out b j o).entries k ≡ slice_get b.entries k
unfolding settle_entry
entry_elsewhere out b j k None n = refl
entry_elsewhere out b j k (Some e) n = elsewhere out b j k e (is_free b.entries j e) n

before_place : (out : OutcomeOf) (b : Board) (n k : ℕ) → n ≤ k → slice_get (settle_upto out b n).entries k ≡ slice_get b.entries k
before_place out b zero k le = refl
before_place out b (suc n) k le =
    entry_elsewhere out (settle_upto out b n) n k (slice_get (settle_upto out b n).entries n) (λ e. omega (arith, e, le)) ∙ before_place out b n k (omega (arith, le))

after_place : (out : OutcomeOf) (b : Board) (k d : ℕ) → slice_get (settle_upto out b (suc k + d)).entries k ≡ slice_get (settle_upto out b (suc k)).entries k
after_place out b k zero = ap (λ j. slice_get (settle_upto out b j).entries k) (let z : suc k + 0 ≡ suc k = omega arith in z)
after_place out b k (suc d) =
    let x = settle_upto out b (suc k + d) in
    ap (λ j. slice_get (settle_upto out b j).entries k) (let z : suc k + suc d ≡ suc (suc k + d) = omega arith in z)
    ∙ entry_elsewhere out x (suc k + d) k (slice_get x.entries (suc k + d)) (λ e. omega (arith, e))
    ∙ after_place out b k d

not_free : (out : OutcomeOf) (b : Board) (k : ℕ) (e : Entry) → slice_get b.entries k ≡ Some e → is_free b.entries k e ≡ false → slice_get (settle_one out k b).entries k ≡ Some e
unfolding settle_entry
not_free out b k e at held =
    ap (λ o. slice_get (settle_entry out b k o).entries k) at ∙ ap (λ v. slice_get (if v then effect out b k e e.work else b).entries k) held ∙ at

turn_entries : (out : OutcomeOf) (b : Board) (t : ℕ) (q : Ask) → (turn out b t q).entries ≡ (settle out (asked b t q)).entries
unfolding turn give_all
turn_entries out b t q = refl

was_free : (out : OutcomeOf) (c : Board) (k : ℕ) (e x : Entry) (v : Bool) → slice_get (settle_upto out c k).entries k ≡ Some e → is_free (settle_upto out c k).entries k e ≡ v → k < length c.entries → is_pending e.stage ≡ true → slice_get (settle out c).entries k ≡ Some x → is_pending x.stage ≡ false → is_free (settle_upto out c k).entries k e ≡ true
was_free out c k e x true at free lt p g n = free
was_free out c k e x false at free lt p g n =
    let d = length c.entries - suc k in
    let all : suc k + d ≡ length c.entries = omega (arith, lt) in
    let last : slice_get (settle out c).entries k ≡ Some e = ap (λ j. slice_get (settle_upto out c j).entries k) (sym all) ∙ after_place out c k d ∙ not_free out (settle_upto out c k) k e at free in
    let z : true ≡ false = sym p ∙ ap (λ y. is_pending y.stage) (same_Some e x (sym last ∙ g)) ∙ n in absurd cc

pub took_effect : (p : Program) (order : List ℕ) (s : State) (t k : ℕ) (e x : Entry) → seq p order ≡ Some s → is_legal p s t ≡ true → slice_get (asked s.board t (next_ask p s t)).entries k ≡ Some e → is_pending e.stage ≡ true → slice_get (turned p s t).entries k ≡ Some x → is_pending x.stage ≡ false → TakesEffect p order s t k e (settle_upto p.outcome (asked s.board t (next_ask p s t)) k)
took_effect p order s t k e x legal may at pending after moved_on =
    let q = next_ask p s t in
    let c = asked s.board t q in
    let there : slice_get (settle_upto p.outcome c k).entries k ≡ Some e = before_place p.outcome c k k (omega arith) ∙ at in
    let last : slice_get (settle p.outcome c).entries k ≡ Some x = ap (λ l. slice_get l k) (sym (turn_entries p.outcome s.board t q)) ∙ after in
    record {
      legal = legal;
      may = may;
      pass = refl;
      there = there;
      free = was_free p.outcome c k e x (is_free (settle_upto p.outcome c k).entries k e) there refl (slice_get_within c.entries k e at) pending last moved_on;
    }
