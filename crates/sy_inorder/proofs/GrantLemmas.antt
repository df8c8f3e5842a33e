-- Accesses that only read are granted at once.
use Rattle.std.proofs.Common.{◌≡◌, ℕ, zero, suc, ◌<◌, ◌≤◌, List, [], ◌∷◌, ◌++◌, length, take, map, Bool, true, false, Option, Some, None, refl, sym, ap, ◌∙◌, subst, arith}
use Rattle.std.specs.Prelude.{slice_get, slice_set, not, ◌&&◌, if◌then◌else◌, option_map}
use Rattle.std.proofs.lemmas.Option.{same_Some, none-some, slice_get-map}
use Rattle.sy_access.specs.declared.access.Need.{Need}
use Rattle.sy_work.specs.Programs.{OutcomeOf, Program}
use Rattle.sy_work.specs.declared.asks.Ask.TheVariants.{OpenHost}
use Rattle.sy_work.specs.declared.asks.Answer.{Answer}
use Rattle.sy_work.specs.declared.asks.Answer.TheVariants.{Contents}
use Rattle.sy_onecopy.specs.declared.Entry.{Entry}
use Rattle.sy_onecopy.specs.declared.Work.{Work}
use Rattle.sy_onecopy.specs.declared.Work.TheVariants.{Access}
use Rattle.sy_onecopy.specs.declared.Waits.{Waits}
use Rattle.sy_onecopy.specs.declared.Waits.TheVariants.{Due, Never, OnEntry}
use Rattle.sy_onecopy.specs.State.{Board, State, start, next_ask}
use Rattle.sy_onecopy.specs.Before.{is_free, is_held, is_pending}
use Rattle.sy_onecopy.specs.Laws.{IsSettled}
use Rattle.sy_onecopy.specs.Outcome.{inputs}
use Rattle.sy_onecopy.specs.Settle.{await, effect, settle_entry, settle_upto, settle, settle_one, first_of}
use Rattle.sy_onecopy.specs.Step.{add_entry, access_entry, accesses, is_root_need, opened_host, apply, begin_ask, given, give_all, turn, step}
use Rattle.sy_onecopy.specs.Sequence.{ready_at, is_legal, may_step, goes_on, is_clear, seq, seq_from}
use Rattle.sy_onecopy.proofs.SettleLemmas.{settled}
use Rattle.sy_inorder.specs.Effects.{turned}
use Rattle.sy_inorder.specs.Ledger.{asked}
use Rattle.sy_inorder.specs.Reading.{all_keep_off, all_let_read, follows_none, only_reads}
use Rattle.sy_inorder.proofs.BoolLemmas.{and_first, and_second}
use Rattle.sy_inorder.proofs.ListLemmas as places
use Rattle.sy_inorder.proofs.AskLemmas.{StandsAlone}
use Rattle.sy_inorder.proofs.ReaderLemmas.{not_held, keep_off, follows_nothing}
use Rattle.sy_inorder.proofs.StateLemmas.{one_legal, seq_holds}

-- ---- each state of a sequence is settled

step_settled : (p : Program) (s : State) (t : ℕ) → IsSettled (step p s t).board
unfolding step turn give_all
step_settled p s t k e g = settled p.outcome (asked s.board t (next_ask p s t)) k e g

from_settled : (p : Program) (s : State) (order : List ℕ) (u : State) → seq_from p s order ≡ Some u → IsSettled s.board → IsSettled u.board
from_settled p s [] u e h = subst (λ (x : State). IsSettled x.board) (same_Some s u e) h
from_settled p s (t ∷ ts) u e h = from_settled p (step p s t) ts u (one_legal (is_legal p s t) (seq_from p (step p s t) ts) u e).1 (step_settled p s t)

pub seq_settled : (p : Program) (order : List ℕ) (s : State) → seq p order ≡ Some s → IsSettled s.board
seq_settled p order s e = from_settled p (start p) order s e (λ k x g. absurd (none-some x g))

stands_alone : (w : Work) (after : List ℕ) (in_order : Option ℕ) (t i : ℕ) → w ≡ Access t i → StandsAlone w after in_order → (after ≡ []) × (in_order ≡ None)
unfolding StandsAlone
stands_alone w after in_order t i e h = let p = subst (λ x. StandsAlone x after in_order) e h in p

both_hold : (a b : Bool) → (a && not b) ≡ false → b ≡ false → a ≡ false
both_hold false b h g = refl
both_hold true false h g = let z : true ≡ false = h in absurd cc
both_hold true true h g = let z : true ≡ false = g in absurd cc

not_pending : (es : List Entry) (k : ℕ) (e : Entry) → is_free es k e ≡ false → is_held (take k es) e ≡ false → is_pending e.stage ≡ false
unfolding is_free
not_pending es k e h g = both_hold (is_pending e.stage) (is_held (take k es) e) h g

pub free_moves : (p : Program) (order : List ℕ) (s : State) (k : ℕ) (e : Entry) → seq p order ≡ Some s → slice_get s.board.entries k ≡ Some e → all_keep_off e (take k s.board.entries) ≡ true → follows_none e (take k s.board.entries) ≡ true → is_pending e.stage ≡ false
free_moves p order s k e legal at off none = not_pending s.board.entries k e (seq_settled p order s legal k e at) (not_held (take k s.board.entries) e off none)

pub reader_granted : (p : Program) (order : List ℕ) (s : State) (k t i : ℕ) (e : Entry) → seq p order ≡ Some s → slice_get s.board.entries k ≡ Some e → e.work ≡ Access t i → only_reads e.needs ≡ true → all_let_read (take k s.board.entries) ≡ true → is_pending e.stage ≡ false
reader_granted p order s k t i e legal at work reads let_read =
    let alone = stands_alone e.work e.after e.in_order t i work ((seq_holds p order s legal).sound k e at).alone in
    free_moves p order s k e legal at (keep_off (take k s.board.entries) e reads let_read) (follows_nothing (take k s.board.entries) e alone.0 alone.1)

-- ---- the step that opens it

is_free-front : (xs ys : List Entry) (k : ℕ) (e : Entry) → take k xs ≡ take k ys → is_free xs k e ≡ is_free ys k e
unfolding is_free
is_free-front xs ys k e p = ap (λ l. is_pending e.stage && not (is_held l e)) p

-- one more entry frees none of those before it
still_by : (out : OutcomeOf) (b : Board) (es : List Entry) (e : Entry) (k : ℕ) (o : Option Entry) → b.entries ≡ es ++ e ∷ [] → ((j : ℕ) (x : Entry) → slice_get es j ≡ Some x → is_free es j x ≡ false) → k < length es → slice_get b.entries k ≡ o → settle_entry out b k o ≡ b
unfolding settle_entry
still_by out b es e k None p h lt at = refl
still_by out b es e k (Some x) p h lt at =
    let old : slice_get es k ≡ Some x = sym (places.get_front es e k lt) ∙ ap (λ l. slice_get l k) (sym p) ∙ at in
    let front : take k b.entries ≡ take k es = ap (take k) p ∙ places.take_front es e k (omega (arith, lt)) in
    ap (λ v. if v then effect out b k x x.work else b) (is_free-front b.entries es k x front ∙ h k x old)

still_upto : (out : OutcomeOf) (b : Board) (es : List Entry) (e : Entry) (n : ℕ) → b.entries ≡ es ++ e ∷ [] → ((j : ℕ) (x : Entry) → slice_get es j ≡ Some x → is_free es j x ≡ false) → n ≤ length es → settle_upto out b n ≡ b
still_upto out b es e zero p h le = refl
still_upto out b es e (suc n) p h le =
    ap (settle_one out n) (still_upto out b es e n p h (omega (arith, le))) ∙ still_by out b es e n (slice_get b.entries n) p h (omega (arith, le)) refl

-- so a pass is the effect of the new one, if it is free
pass_last : (out : OutcomeOf) (b : Board) (es : List Entry) (e : Entry) → b.entries ≡ es ++ e ∷ [] → ((j : ℕ) (x : Entry) → slice_get es j ≡ Some x → is_free es j x ≡ false) → is_free b.entries (length es) e ≡ true → settle out b ≡ effect out b (length es) e e.work
unfolding settle_entry
pass_last out b es e p h free =
    ap (settle_upto out b) (ap length p ∙ places.length_more es e)
    ∙ ap (settle_one out (length es)) (still_upto out b es e (length es) p h (omega arith))
    ∙ ap (settle_entry out b (length es)) (ap (λ l. slice_get l (length es)) p ∙ places.at_last es e)
    ∙ ap (λ v. if v then effect out b (length es) e e.work else b) free

newly_free : (es : List Entry) (e : Entry) (fs : List Entry) → fs ≡ es ++ e ∷ [] → is_pending e.stage ≡ true → is_held es e ≡ false → is_free fs (length es) e ≡ true
unfolding is_free
newly_free es e fs p pending held =
    ap (λ v. v && not (is_held (take (length es) fs) e)) pending
    ∙ ap (λ l. not (is_held l e)) (ap (take (length es)) p ∙ places.take_front es e (length es) (omega arith) ∙ places.take_all es)
    ∙ ap not held

opened_by : (v : Bool) (b c : Board) → v ≡ true → (if v then c else b) ≡ c
opened_by true b c h = refl
opened_by false b c h = let z : false ≡ true = h in absurd cc

-- the board after an access was opened
abbrev with_access : Board → ℕ → Need → Board
with_access b t n = await (add_entry b (access_entry t (accesses b.entries t) n)) t OnEntry

opened_is : (b : Board) (t : ℕ) (n : Need) → is_root_need b.buffers n ≡ true → apply (begin_ask b t) t (OpenHost n) ≡ with_access (begin_ask b t) t n
unfolding apply opened_host
opened_is b t n h = opened_by (is_root_need b.buffers n) (begin_ask b t) (with_access (begin_ask b t) t n) h

pub due_stays : (b : Board) (ws : List Waits) (t : ℕ) (a : Answer) → slice_get ws t ≡ Some (Due a) → slice_get (map (given b) ws) t ≡ Some (Due a)
due_stays b ws t a h = slice_get-map (given b) ws t ∙ ap (option_map (given b)) h

effect_due : (out : OutcomeOf) (b : Board) (k t i : ℕ) (e : Entry) → t < length b.waits → slice_get (effect out b k e (Access t i)).waits t ≡ Some (Due (Contents (first_of (inputs b.buffers e.needs))))
unfolding effect
effect_due out b k t i e h = places.set_same b.waits t _ h

ready_there : (ws : List Waits) (t : ℕ) → ready_at (slice_get ws t) ≡ true → t < length ws
ready_there [] t h = let z : false ≡ true = h in absurd cc
ready_there (w ∷ ws) zero h = omega arith
ready_there (w ∷ ws) (suc t) h = let i : t < length ws = ready_there ws t h in omega arith

pub legal_ready : (p : Program) (s : State) (t : ℕ) → is_legal p s t ≡ true → ready_at (slice_get s.board.waits t) ≡ true
unfolding may_step
legal_ready p s t h =
    let clear = is_clear s.board (next_ask p s t) in
    let ready = ready_at (slice_get s.board.waits t) in
    and_first ready clear (and_second (goes_on s.board) (ready && clear) (and_first (goes_on s.board && (ready && clear)) _ h))

pub legal_there : (p : Program) (s : State) (t : ℕ) → is_legal p s t ≡ true → t < length s.board.waits
legal_there p s t h = ready_there s.board.waits t (legal_ready p s t h)

turn_due : (out : OutcomeOf) (b : Board) (t : ℕ) (n : Need) → IsSettled b → t < length b.waits → is_root_need b.buffers n ≡ true → only_reads (n ∷ []) ≡ true → all_let_read b.entries ≡ true → slice_get (turn out b t (OpenHost n)).waits t ≡ Some (Due (Contents (first_of (inputs b.buffers (n ∷ [])))))
unfolding turn give_all
turn_due out b t n still there root reads let_read =
    let e = access_entry t (accesses b.entries t) n in
    let c = with_access (begin_ask b t) t n in
    let held : is_held b.entries e ≡ false = not_held b.entries e (keep_off b.entries e reads let_read) (follows_nothing b.entries e refl refl) in
    let pass : settle out c ≡ effect out c (length b.entries) e e.work = pass_last out c b.entries e refl (λ j x g. still j x g) (newly_free b.entries e c.entries refl refl held) in
    let long : t < length c.waits =
    let x = places.length_slice_set (slice_set b.waits t Never) t OnEntry in
    let y = places.length_slice_set b.waits t Never in omega (arith, there, x, y) in
    let due : slice_get (settle out c).waits t ≡ Some (Due (Contents (first_of (inputs b.buffers (n ∷ []))))) =
    ap (λ (d : Board). slice_get d.waits t) pass ∙ effect_due out c (length b.entries) t (accesses b.entries t) e long in
    ap (λ d. slice_get (map (given (settle out d)) (settle out d).waits) t) (opened_is b t n root)
    ∙ due_stays (settle out c) (settle out c).waits t _ due

pub opened_due : (p : Program) (order : List ℕ) (s : State) (t : ℕ) (n : Need) → seq p order ≡ Some s → is_legal p s t ≡ true → next_ask p s t ≡ OpenHost n → is_root_need s.board.buffers n ≡ true → only_reads (n ∷ []) ≡ true → all_let_read s.board.entries ≡ true → slice_get (turned p s t).waits t ≡ Some (Due (Contents (first_of (inputs s.board.buffers (n ∷ [])))))
opened_due p order s t n legal may ask root reads let_read =
    ap (λ q. slice_get (turn p.outcome s.board t q).waits t) ask ∙ turn_due p.outcome s.board t n (seq_settled p order s legal) (legal_there p s t may) root reads let_read
