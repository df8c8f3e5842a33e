-- What an entry is given is what the execution of all entries before it leaves.
use Rattle.std.proofs.Common.{◌≡◌, ℕ, zero, suc, ◌+◌, ◌<◌, ℤ, List, [], ◌∷◌, ◌++◌, length, take, drop, Bool, true, false, Some, refl, sym, ap, ◌∙◌, subst, arith}
use Rattle.std.specs.Prelude.{slice_get, not, ◌||◌, if◌then◌else◌, option_map, unwrap_or, slice_index_or, ◌-◌}
use Rattle.std.proofs.lemmas.Option.{same_Some, none-some, slice_get_within, get_or_from_slice_get}
use Rattle.sy_access.specs.declared.access.Need.{Need}
use Rattle.sy_access.specs.declared.cells.Cell.{Cell}
use Rattle.sy_access.specs.declared.cells.Cell.TheVariants as cell
use Rattle.sy_access.specs.Logs.{logged}
use Rattle.sy_access.specs.Needs.{has_cell, writes}
use Rattle.sy_work.specs.Programs.{OutcomeOf, Program}
use Rattle.sy_work.specs.declared.commands.Command.{Command}
use Rattle.sy_work.specs.declared.commands.Outcome.TheVariants.{Wrote}
use Rattle.sy_onecopy.specs.declared.Buffer.{Buffer}
use Rattle.sy_onecopy.specs.declared.Entry.{Entry}
use Rattle.sy_onecopy.specs.declared.Work.TheVariants.{Node, Access}
use Rattle.sy_onecopy.specs.State.{Board, State, start, next_ask}
use Rattle.sy_onecopy.specs.Before.{before, meet, is_named, is_done}
use Rattle.sy_needs.specs.Order.{both_on}
use Rattle.sy_onecopy.specs.Outcome.{inputs, buffer_after, buffers_after, values_at}
use Rattle.sy_needs.specs.Elements.{is_written, at_start, cell_after}
use Rattle.sy_needs.specs.Each.{each_from}
use Rattle.sy_onecopy.specs.Step.{buffer_put, cell_put, step}
use Rattle.sy_onecopy.specs.Sequence.{is_legal, seq_from}
use Rattle.sy_inorder.specs.Sequential.{put, after_work, log_of, numbers_of, some_has, some_writes, element, Execution, execute_one, execute, is_over, is_any}
use Rattle.sy_inorder.specs.Ledger.{Ledger, closed_with, asked, noted, empty, ledger_from, ledger_of, execute_all, execute_done}
use Rattle.sy_inorder.specs.Effects.{TakesEffect}
use Rattle.sy_inorder.proofs.BoolLemmas.{or_left}
use Rattle.sy_inorder.proofs.ListLemmas as places
use Rattle.sy_inorder.proofs.ElementLemmas.{later_spares, earlier_spares}
use Rattle.sy_inorder.proofs.ExecutionLemmas.{tale, EachIncluded, Ordered, is_open, parted, execute-element, execute-inputs, element-over, cut, one_more, same_needs, same_rows, row_after}
use Rattle.sy_inorder.proofs.InvariantLemmas.{Holds, NothingBefore, ordered, pending_open}
use Rattle.sy_inorder.proofs.StateLemmas.{BoardHolds, free_pending, free_before, upto_holds, asked_holds, one_legal, seq_holds}

-- ---- the last writer

unwritten_one : (s : Execution) (es : List Entry) (b i : ℕ) → some_writes es b i ≡ false → EachIncluded s es (λ y. is_written y.needs b i ≡ false)
unfolding some_writes
unwritten_one s es b i h j y g t = places.none_at (λ e. is_written e.needs b i) es j y h g

pub first_number : (s : Execution) (k : ℕ) (entries : List Entry) (buffers : List Buffer) (b i : ℕ) → some_writes entries b i ≡ false → element (execute s k entries buffers) b i ≡ element buffers b i
first_number s k entries buffers b i h = execute-element s k entries buffers b i (unwritten_one s entries b i h)

pub last_writer : (out : OutcomeOf) (l : Ledger) (entries : List Entry) (j b i : ℕ) → some_writes (drop (suc j) entries) b i ≡ false → element (execute_all out l entries) b i ≡ element (execute_all out l (take (suc j) entries)) b i
last_writer out l entries j b i h =
    let s = tale out (closed_with l.closings) is_any in
    ap (λ x. element x b i) (cut s 0 (suc j) entries l.made) ∙ first_number s (0 + suc j) (drop (suc j) entries) (execute s 0 (take (suc j) entries) l.made) b i h

rows_by : (v : Bool) (s : Execution) (k : ℕ) (e : Entry) (bs : List Buffer) (r : ℕ) → length (values_at (if v then after_work s.out (s.given k) e.needs e.work bs else bs) r) ≡ length (values_at bs r)
rows_by true s k e bs r = row_after s.out (s.given k) e.needs e.work bs r
rows_by false s k e bs r = refl

-- a execution leaves the lengths of the buffers
pub execute-rows : (s : Execution) (k : ℕ) (es : List Entry) (bs : List Buffer) (r : ℕ) → length (values_at (execute s k es bs) r) ≡ length (values_at bs r)
execute-rows s k [] bs r = refl
execute-rows s k (e ∷ es) bs r = execute-rows s (suc k) es (execute_one s k e bs) r ∙ rows_by (s.includes e) s k e bs r

length_take : (es : List Entry) (j : ℕ) → j < length es → 0 + length (take j es) ≡ j
length_take es zero h = refl
length_take [] (suc j) h = absurd (omega (arith, h))
length_take (x ∷ es) (suc j) h = let n = length_take es j (omega (arith, h)) in omega (arith, n)

take_one : (j : ℕ) (es : List Entry) (e : Entry) → slice_get es j ≡ Some e → take (suc j) es ≡ take j es ++ e ∷ []
take_one j [] e h = absurd (none-some e h)
take_one zero (x ∷ es) e h = ap (λ y. y ∷ []) (same_Some x e h)
take_one (suc j) (x ∷ es) e h = ap (λ l. x ∷ l) (take_one j es e h)

something : (xs : List ℤ) (i : ℕ) → i < length xs → (v : ℤ) × (slice_get xs i ≡ Some v)
something [] i h = absurd (omega (arith, h))
something (x ∷ xs) zero h = (x, refl)
something (x ∷ xs) (suc i) h = something xs i (omega (arith, h))

written_cell : (needs : List Need) (log : List (Cell × ℤ)) (b i : ℕ) (v x : ℤ) → is_written needs b i ≡ true → logged log (cell.Buffer b i) ≡ Some v → cell_after needs log b i x ≡ v
unfolding cell_after
written_cell needs log b i v x h g =
    ap (λ t. if t then unwrap_or (logged log (cell.Buffer b i)) (at_start needs b i x) else x) h ∙ ap (λ o. unwrap_or o (at_start needs b i x)) g

written_element : (needs : List Need) (log : List (Cell × ℤ)) (bs : List Buffer) (b i : ℕ) (v : ℤ) → is_written needs b i ≡ true → logged log (cell.Buffer b i) ≡ Some v → i < length (values_at bs b) → element (buffers_after needs log bs) b i ≡ Some v
unfolding buffers_after buffer_after
written_element needs log bs b i v h g lt =
    let x = something (values_at bs b) i lt in
    element-over (cell_after needs log) bs b i ∙ ap (option_map (cell_after needs log b i)) x.1 ∙ ap Some (written_cell needs log b i v x.0 h g)

pub what_it_wrote : (out : OutcomeOf) (l : Ledger) (entries : List Entry) (j b i n q : ℕ) (e : Entry) (c : Command) (log : List (Cell × ℤ)) (v : ℤ) → slice_get entries j ≡ Some e → e.work ≡ Node n q c → out c (inputs (execute_all out l (take j entries)) e.needs) ≡ Wrote log → is_written e.needs b i ≡ true → logged log (cell.Buffer b i) ≡ Some v → i < length (values_at l.made b) → element (execute_all out l (take (suc j) entries)) b i ≡ Some v
unfolding after_work
what_it_wrote out l entries j b i n q e c log v at work wrote h g lt =
    let s = tale out (closed_with l.closings) is_any in
    let bs = execute_all out l (take j entries) in
    let rows = execute-rows s 0 (take j entries) l.made b in
    ap (λ es. element (execute_all out l es) b i) (take_one j entries e at)
    ∙ ap (λ x. element x b i) (one_more s 0 (take j entries) e l.made)
    ∙ ap (λ w. element (after_work out (closed_with l.closings (0 + length (take j entries))) e.needs w bs) b i) work
    ∙ ap (λ o. element (buffers_after e.needs (log_of o) bs) b i) wrote
    ∙ written_element e.needs log bs b i v h g (omega (arith, lt, rows))

put_cell : (n : Need) (values : List ℤ) (b i : ℕ) (v x : ℤ) → has_cell n b i ≡ true → slice_get values (i - n.from) ≡ Some v → cell_put n values b i x ≡ v
unfolding cell_put
put_cell n values b i v x h g = ap (λ t. if t then slice_index_or values (i - n.from) x else x) h ∙ get_or_from_slice_get values (i - n.from) v x g

put_element : (w : Bool) (n : Need) (values : List ℤ) (bs : List Buffer) (b i : ℕ) (v : ℤ) → w ≡ true → has_cell n b i ≡ true → slice_get values (i - n.from) ≡ Some v → i < length (values_at bs b) → element (if w then each_from (buffer_put n values) 0 bs else bs) b i ≡ Some v
unfolding buffer_put
put_element false n values bs b i v w h g lt = let z : false ≡ true = w in absurd cc
put_element true n values bs b i v w h g lt =
    let x = something (values_at bs b) i lt in
    element-over (cell_put n values) bs b i ∙ ap (option_map (cell_put n values b i)) x.1 ∙ ap Some (put_cell n values b i v x.0 h g)

pub what_was_put : (out : OutcomeOf) (l : Ledger) (entries : List Entry) (j b i t a : ℕ) (e : Entry) (n : Need) (v : ℤ) → slice_get entries j ≡ Some e → e.work ≡ Access t a → e.needs ≡ n ∷ [] → writes n.mode ≡ true → has_cell n b i ≡ true → slice_get (closed_with l.closings j) (i - n.from) ≡ Some v → i < length (values_at l.made b) → element (execute_all out l (take (suc j) entries)) b i ≡ Some v
unfolding after_work put
what_was_put out l entries j b i t a e n v at work needs w h g lt =
    let s = tale out (closed_with l.closings) is_any in
    let bs = execute_all out l (take j entries) in
    let rows = execute-rows s 0 (take j entries) l.made b in
    let place : 0 + length (take j entries) ≡ j = length_take entries j (slice_get_within entries j e at) in
    ap (λ es. element (execute_all out l es) b i) (take_one j entries e at)
    ∙ ap (λ x. element x b i) (one_more s 0 (take j entries) e l.made)
    ∙ ap (λ k. element (after_work out (closed_with l.closings k) e.needs e.work bs) b i) place
    ∙ ap (λ z. element (after_work out (closed_with l.closings j) e.needs z bs) b i) work
    ∙ ap (λ ns. element (put ns (closed_with l.closings j) bs) b i) needs
    ∙ put_element (writes n.mode) n (closed_with l.closings j) bs b i v w h g (omega (arith, lt, rows))

-- ---- what an entry is given

-- entries that leave alone what these needs have
abbrev pub Apart : List Need → Entry → Type 0
Apart ns y = (b i : ℕ) → some_has ns b i ≡ true → is_written y.needs b i ≡ false

-- a view of the buffers that sees numbers alone, and of those only what these needs have
pub record IsView {A : Type 0} (view : List Buffer → A) (ns : List Need) : Type 0 where
  pub by_numbers : (bs cs : List Buffer) → numbers_of bs ≡ numbers_of cs → view bs ≡ view cs
  pub left : (s : Execution) (k : ℕ) (es : List Entry) (bs : List Buffer) → EachIncluded s es (Apart ns) → view (execute s k es bs) ≡ view bs

later_apart : (es : List Entry) (k : ℕ) (e : Entry) (j : ℕ) (y : Entry) → slice_get es k ≡ Some e → is_done e.stage ≡ false → Ordered es → slice_get es (k + j) ≡ Some y → is_done y.stage ≡ true → Apart e.needs y
later_apart es k e zero y at d h g t =
    let same : y ≡ e = same_Some y e (sym g ∙ ap (slice_get es) (let z : k + 0 ≡ k = omega arith in z) ∙ at) in
    let z : true ≡ false = sym t ∙ ap (λ x. is_done x.stage) same ∙ d in absurd cc
later_apart es k e (suc j) y at d h g t = λ b i has. later_spares e y b i (h k (k + suc j) e y (omega arith) at g d t) has

pub not_met : (x y : Entry) → before x y ≡ false → meet x y ≡ false
unfolding before
not_met x y h = or_left (meet x y) (is_named x.work y.after || both_on x.in_order y.in_order) h

pub take_ordered : (es : List Entry) (k : ℕ) → Ordered es → Ordered (take k es)
take_ordered es k h i j x y lt a b c d = h i j x y lt (places.in_take k es i x a).1 (places.in_take k es j y b).1 c d

open_apart : (v : Bool) (x e : Entry) → is_done x.stage ≡ v → not v ≡ true → (is_done x.stage ≡ false → before x e ≡ false) → Apart e.needs x
open_apart true x e d t h = let z : false ≡ true = t in absurd cc
open_apart false x e d t h = λ b i has. earlier_spares x e b i (not_met x e (h d)) has

-- the open ones before an entry do not matter to it
pub seen_front : {A : Type 0} (view : List Buffer → A) (out : OutcomeOf) (l : Ledger) (es : List Entry) (k : ℕ) (e : Entry) → IsView view e.needs → Ordered es → NothingBefore es k e → view (execute_all out l (take k es)) ≡ view (execute_done out l (take k es))
seen_front view out l es k e v order free =
    let given = closed_with l.closings in
    ap view (parted out given 0 (take k es) l.made (take_ordered es k order))
    ∙ v.left (tale out given is_open) 0 (take k es) (execute_done out l (take k es)) (λ j x g t. let p = places.in_take k es j x g in open_apart (is_done x.stage) x e refl t (free j x p.0 p.1))

pub seen : {A : Type 0} (view : List Buffer → A) (out : OutcomeOf) (l : Ledger) (es : List Entry) (bs : List Buffer) (k : ℕ) (e : Entry) → IsView view e.needs → Holds out l es bs → slice_get es k ≡ Some e → is_done e.stage ≡ false → NothingBefore es k e → view bs ≡ view (execute_all out l (take k es))
seen view out l es bs k e v h at d free =
    let over_ones = tale out (closed_with l.closings) is_over in
    v.by_numbers bs (execute_done out l es) h.numbers
    ∙ ap view (cut over_ones 0 k es l.made)
    ∙ v.left over_ones (0 + k) (drop k es) (execute_done out l (take k es)) (λ j y g t. later_apart es k e j y at d (ordered es h.none_overtakes) (sym (places.in_drop k es j) ∙ g) t)
    ∙ sym (seen_front view out l es k e v (ordered es h.none_overtakes) free)

-- ---- along a sequence

ledger_more : (p : Program) (l : Ledger) (s : State) (order : List ℕ) (t : ℕ) (u : State) → seq_from p s order ≡ Some u → ledger_from p s l (order ++ t ∷ []) ≡ noted (ledger_from p s l order) u.board t (next_ask p u t)
ledger_more p l s [] t u e = ap (λ (x : State). noted l x.board t (next_ask p x t)) (same_Some s u e)
ledger_more p l s (v ∷ vs) t u e =
    let q = one_legal (is_legal p s v) (seq_from p (step p s v) vs) u e in
    ledger_more p (noted l s.board v (next_ask p s v)) (step p s v) vs t u q.1

pub effect_board : (p : Program) (order : List ℕ) (s : State) (t k : ℕ) (e : Entry) (m : Board) → TakesEffect p order s t k e m → BoardHolds p.outcome (ledger_of p (order ++ t ∷ [])) m
effect_board p order s t k e m h =
    let q = next_ask p s t in
    let l = ledger_of p order in
    let before_it = asked_holds p.outcome l s.board t q (seq_holds p order s h.legal) in
    subst (λ x. BoardHolds p.outcome x m) (sym (ledger_more p empty (start p) order t s h.legal))
    (subst (BoardHolds p.outcome (noted l s.board t q)) (sym h.pass) (upto_holds p.outcome (noted l s.board t q) (asked s.board t q) k before_it))

pub effect_sees : {A : Type 0} (view : List Buffer → A) (p : Program) (order : List ℕ) (s : State) (t k : ℕ) (e : Entry) (m : Board) → IsView view e.needs → TakesEffect p order s t k e m → view m.buffers ≡ view (execute_all p.outcome (ledger_of p (order ++ t ∷ [])) (take k m.entries))
effect_sees view p order s t k e m v h =
    seen view p.outcome (ledger_of p (order ++ t ∷ [])) m.entries m.buffers k e v (effect_board p order s t k e m h) h.there (pending_open e (free_pending m.entries k e h.free)) (free_before m.entries k e h.free)

pub inputs_view : (ns : List Need) → IsView (λ bs. inputs bs ns) ns
inputs_view ns = record { by_numbers = λ bs cs h. same_needs bs cs ns h; left = λ s k es bs h. execute-inputs s k es bs ns h }

pub element_view : (ns : List Need) (b i : ℕ) → some_has ns b i ≡ true → IsView (λ bs. element bs b i) ns
element_view ns b i has = record {
  by_numbers = λ bs cs h. ap (λ l. slice_get l i) (same_rows bs cs h b);
  left = λ s k es bs h. execute-element s k es bs b i (λ j y g t. h j y g t b i has);
}

pub given_inputs : (p : Program) (order : List ℕ) (s : State) (t k : ℕ) (e : Entry) (m : Board) → TakesEffect p order s t k e m → inputs m.buffers e.needs ≡ inputs (execute_all p.outcome (ledger_of p (order ++ t ∷ [])) (take k m.entries)) e.needs
given_inputs p order s t k e m h = effect_sees (λ bs. inputs bs e.needs) p order s t k e m (inputs_view e.needs) h

pub sees_first : (p : Program) (order : List ℕ) (s : State) (t k b i : ℕ) (e : Entry) (m : Board) → TakesEffect p order s t k e m → some_has e.needs b i ≡ true → some_writes (take k m.entries) b i ≡ false → element m.buffers b i ≡ element (ledger_of p (order ++ t ∷ [])).made b i
sees_first p order s t k b i e m h has none =
    let l = ledger_of p (order ++ t ∷ []) in
    effect_sees (λ bs. element bs b i) p order s t k e m (element_view e.needs b i has) h ∙ first_number (tale p.outcome (closed_with l.closings) is_any) 0 (take k m.entries) l.made b i none

pub sees_last : (p : Program) (order : List ℕ) (s : State) (t k j b i : ℕ) (e : Entry) (m : Board) → TakesEffect p order s t k e m → some_has e.needs b i ≡ true → some_writes (drop (suc j) (take k m.entries)) b i ≡ false → element m.buffers b i ≡ element (execute_all p.outcome (ledger_of p (order ++ t ∷ [])) (take (suc j) (take k m.entries))) b i
sees_last p order s t k j b i e m h has none =
    effect_sees (λ bs. element bs b i) p order s t k e m (element_view e.needs b i has) h ∙ last_writer p.outcome (ledger_of p (order ++ t ∷ [])) (take k m.entries) j b i none
