-- How an ask changes the entries and the buffers.
use Rattle.std.proofs.Common.{◌≡◌, ℕ, zero, suc, ◌+◌, ◌-◌, ◌<◌, ◌≤◌, ℤ, List, [], ◌∷◌, ◌++◌, length, Bool, true, false, Option, Some, None, refl, sym, ap, ◌∙◌, arith}
use Rattle.std.specs.Prelude.{slice_get, not, ◌&&◌, ◌==◌, ◌^◌, nat_lt, nat_le, if◌then◌else◌}
use Rattle.std.specs.List.{list_all}
use Rattle.std.proofs.lemmas.Option.{same_Some, none-some, slice_get_within}
use Rattle.sy_access.specs.declared.access.Need.{Need}
use Rattle.sy_access.specs.declared.access.Mode.TheVariants.{ReadWrite}
use Rattle.sy_access.specs.Needs.{writes}
use Rattle.sy_range.specs.LinearIds.{product}
use Rattle.sy_work.specs.Programs.{OutcomeOf}
use Rattle.sy_work.specs.declared.asks.Ask.{Ask}
use Rattle.sy_work.specs.declared.asks.Ask.TheVariants.{Print, MakeBuffer, MakeSub, EndBuffer, OpenHost, CloseHost, MakeContext, MakeQueue, Submit, WaitNode, WaitQueue, ThrowQueue, Spawn, Join, Finish, Halt, Barrier, Collect}
use Rattle.sy_work.specs.declared.asks.NewBuffer.{NewBuffer}
use Rattle.sy_work.specs.declared.asks.NewQueue.{NewQueue}
use Rattle.sy_work.specs.declared.asks.Submission.{Submission}
use Rattle.sy_work.specs.declared.commands.Command.{Command}
use Rattle.sy_work.specs.declared.endings.KernelError.{KernelError}
use Rattle.sy_onecopy.specs.declared.Buffer.{Buffer}
use Rattle.sy_onecopy.specs.declared.Origin.{Origin}
use Rattle.sy_onecopy.specs.declared.Origin.TheVariants.{Vector, Range, Part}
use Rattle.sy_onecopy.specs.declared.Queue.{Queue}
use Rattle.sy_onecopy.specs.declared.Entry.{Entry}
use Rattle.sy_onecopy.specs.declared.Work.{Work}
use Rattle.sy_onecopy.specs.declared.Work.TheVariants.{Node, Access, End}
use Rattle.sy_onecopy.specs.declared.Stage.{Stage}
use Rattle.sy_onecopy.specs.declared.Stage.TheVariants as stage
use Rattle.sy_onecopy.specs.declared.Waits.{Waits}
use Rattle.sy_onecopy.specs.Each.{changed_at}
use Rattle.sy_onecopy.specs.State.{Board}
use Rattle.sy_onecopy.specs.Before.{is_done}
use Rattle.sy_onecopy.specs.Outcome.{values_at, values_of}
use Rattle.sy_onecopy.specs.Settle.{with_stage}
use Rattle.sy_onecopy.specs.Step.{after_print, made_buffer, made_part, end_root, end_buffer, opened_host, put_back, after_close, close_entry, close_at, close_found, made_context, made_queue, after_submit, wait_if, after_throw, throw_queue, after_spawn, apply, access_from, is_access, error_on, is_root, count_of, is_root_need, are_root_needs, are_different, has_count, live_elements, holds_together, with_end}
use Rattle.sy_inorder.specs.Sequential.{put, after_work, numbers_of}
use Rattle.sy_inorder.specs.Ledger.{closing, closing_at, over_at}
use Rattle.sy_inorder.proofs.BoolLemmas.{and_first, and_second}
use Rattle.sy_inorder.proofs.ListLemmas.{changed_get}

-- each need names one of so many buffers
unfoldable pub AreNamed : ℕ → List Need → Type 0
AreNamed count [] = Unit {0}
AreNamed count (n ∷ ns) = (n.buffer < count) × AreNamed count ns

abbrev pub all_of : ℕ → ℕ → Need
all_of r n = record { buffer = r; mode = ReadWrite; no_init = false; from = 0; to = n }

-- the end of a buffer has one need, of all its elements
unfoldable pub Fits : List Buffer → Work → List Need → Type 0
Fits bs (End t r) needs = needs ≡ all_of r (length (values_at bs r)) ∷ []
Fits bs (Node n q c) needs = Unit {0}
Fits bs (Access t i) needs = Unit {0}

-- a host access names no node, and is in no queue
unfoldable pub StandsAlone : Work → List ℕ → Option ℕ → Type 0
StandsAlone (Access t i) after in_order = (after ≡ []) × (in_order ≡ None)
StandsAlone (Node n q c) after in_order = Unit {0}
StandsAlone (End t r) after in_order = Unit {0}

pub record IsSound (bs : List Buffer) (needs : List Need) (work : Work) (after : List ℕ) (in_order : Option ℕ) : Type 0 where
  pub named : AreNamed (length bs) needs
  pub fits : Fits bs work needs
  pub alone : StandsAlone work after in_order

abbrev pub IsNoNode : Work → Type 0
IsNoNode w = (n q : ℕ) (c : Command) → w ≡ Node n q c → ⊥

-- the change of the entries and the buffers, with the access that it closes
pub data Change (es fs : List Entry) (bs cs : List Buffer) (closes : List (ℕ × List ℤ)) : Type 0 where
  quiet : fs ≡ es → numbers_of cs ≡ numbers_of bs → closes ≡ [] → Change es fs bs cs closes
  wider : (x : Buffer) → fs ≡ es → cs ≡ bs ++ x ∷ [] → closes ≡ [] → Change es fs bs cs closes
  added : (e : Entry) → e.stage ≡ stage.Pending → IsSound bs e.needs e.work e.after e.in_order → fs ≡ es ++ e ∷ [] → numbers_of cs ≡ numbers_of bs → closes ≡ [] → Change es fs bs cs closes
  shut : (k : ℕ) (e : Entry) (values : List ℤ) → slice_get es k ≡ Some e → e.stage ≡ stage.Granted → IsNoNode e.work → fs ≡ changed_at (with_stage stage.Done) k es → ((out : OutcomeOf) → cs ≡ after_work out values e.needs e.work bs) → closes ≡ (k, values) ∷ [] → Change es fs bs cs closes

abbrev Became : Board → Board → Type 0
Became b c = Change b.entries c.entries b.buffers c.buffers []

unchanged : (b : Board) → Became b b
unchanged b = quiet refl refl refl

chosen : (v : Bool) (b c d : Board) → (v ≡ true → Became b c) → Became b d → Became b (if v then c else d)
chosen true b c d h i = h refl
chosen false b c d h i = i

after_print-change : (b : Board) (t : ℕ) (bytes : List ℕ) → Became b (after_print b t bytes)
unfolding after_print
after_print-change b t bytes = chosen (nat_le (length b.output + length bytes) (2 ^ 24)) b _ _ (λ h. quiet refl refl refl) (quiet refl refl refl)

made_buffer-change : (b : Board) (t : ℕ) (m : NewBuffer) → Became b (made_buffer b t m)
unfolding made_buffer
made_buffer-change b t m =
    chosen (has_count (product m.range) m.init) b _ b (λ h. chosen (nat_le (live_elements b.buffers + product m.range) (2 ^ 22)) b _ _ (λ i. wider _ refl refl refl) (quiet refl refl refl)) (unchanged b)

made_part-change : (b : Board) (t r base n : ℕ) → Became b (made_part b t r base n)
unfolding made_part
made_part-change b t r base n =
    chosen (is_root (slice_get b.buffers r) && nat_le (base + n) (count_of (slice_get b.buffers r))) b _ b (λ h. wider _ refl refl refl) (unchanged b)

ended-numbers : (r : ℕ) (bs : List Buffer) → numbers_of (changed_at with_end r bs) ≡ numbers_of bs
ended-numbers r [] = refl
ended-numbers zero (x ∷ bs) = refl
ended-numbers (suc r) (x ∷ bs) = ap (λ l. x.values ∷ l) (ended-numbers r bs)

end_root-change : (b : Board) (t r : ℕ) (x : Buffer) (o : Origin) → slice_get b.buffers r ≡ Some x → Became b (end_root b t r x o)
unfolding end_root AreNamed Fits StandsAlone
end_root-change b t r x Vector h =
    added _ refl (record { named = (slice_get_within b.buffers r x h, tt); fits = ap (λ o. all_of r (length (values_of o)) ∷ []) (sym h); alone = tt }) refl (ended-numbers r b.buffers) refl
end_root-change b t r x Range h = quiet refl (ended-numbers r b.buffers) refl
end_root-change b t r x Part h = quiet refl (ended-numbers r b.buffers) refl

end_buffer-change : (b : Board) (t r : ℕ) (o : Option Buffer) → slice_get b.buffers r ≡ o → Became b (end_buffer b t r o)
unfolding end_buffer
end_buffer-change b t r None h = unchanged b
end_buffer-change b t r (Some x) h = chosen x.ended b b _ (λ i. unchanged b) (end_root-change b t r x x.origin h)

root_there : (bs : List Buffer) (r : ℕ) → is_root (slice_get bs r) ≡ true → r < length bs
root_there [] r h = let z : false ≡ true = h in absurd cc
root_there (x ∷ bs) zero h = omega arith
root_there (x ∷ bs) (suc r) h = let i : r < length bs = root_there bs r h in omega arith

need_there : (bs : List Buffer) (n : Need) → is_root_need bs n ≡ true → n.buffer < length bs
unfolding is_root_need
need_there bs n h = root_there bs n.buffer (and_first (is_root (slice_get bs n.buffer)) _ h)

needs_there : (bs : List Buffer) (ns : List Need) → list_all (is_root_need bs) ns ≡ true → AreNamed (length bs) ns
unfolding AreNamed
needs_there bs [] h = tt
needs_there bs (n ∷ ns) h = (need_there bs n (and_first (is_root_need bs n) (list_all (is_root_need bs) ns) h), needs_there bs ns (and_second (is_root_need bs n) (list_all (is_root_need bs) ns) h))

opened_host-change : (b : Board) (t : ℕ) (n : Need) → Became b (opened_host b t n)
unfolding opened_host AreNamed Fits StandsAlone
opened_host-change b t n =
    chosen (is_root_need b.buffers n) b _ b (λ h. added _ refl (record { named = (need_there b.buffers n h, tt); fits = tt; alone = (refl, refl) }) refl refl refl) (unchanged b)

together : (b : Board) (s : Submission) → holds_together b s ≡ true → list_all (is_root_need b.buffers) s.needs ≡ true
unfolding holds_together are_root_needs
together b s h = and_first (list_all (is_root_need b.buffers) s.needs) (are_different s.needs) (and_first (list_all (is_root_need b.buffers) s.needs && are_different s.needs) _ h)

after_submit-change : (b : Board) (t : ℕ) (s : Submission) (o : Option Queue) → Became b (after_submit b t s o)
unfolding after_submit Fits StandsAlone
after_submit-change b t s None = unchanged b
after_submit-change b t s (Some x) =
    chosen (holds_together b s) b _ b (λ h. added _ refl (record { named = needs_there b.buffers s.needs (together b s h); fits = tt; alone = tt }) refl refl refl) (unchanged b)

made_context-change : (b : Board) (t : ℕ) → Became b (made_context b t)
unfolding made_context
made_context-change b t = chosen (nat_lt b.places 17) b _ _ (λ h. quiet refl refl refl) (quiet refl refl refl)

made_queue-change : (b : Board) (t : ℕ) (m : NewQueue) → Became b (made_queue b t m)
unfolding made_queue
made_queue-change b t m = chosen (nat_lt 0 m.context && nat_lt m.context b.places) b _ b (λ h. quiet refl refl refl) (unchanged b)

wait_if-change : (v : Bool) (b : Board) (t : ℕ) (w : Waits) → Became b (wait_if v b t w)
wait_if-change true b t w = quiet refl refl refl
wait_if-change false b t w = unchanged b

after_throw-change : (b : Board) (t : ℕ) (o : Option KernelError) → Became b (after_throw b t o)
after_throw-change b t None = quiet refl refl refl
after_throw-change b t (Some e) = quiet refl refl refl

throw_queue-change : (b : Board) (t q : ℕ) → Became b (throw_queue b t q)
unfolding throw_queue
throw_queue-change b t q = chosen (nat_lt q (length b.queues)) b _ b (λ h. after_throw-change b t (error_on q b.entries)) (unchanged b)

after_spawn-change : (b : Board) (t : ℕ) → Became b (after_spawn b t)
unfolding after_spawn
after_spawn-change b t = chosen (nat_lt (length b.waits) 64) b _ _ (λ h. quiet refl refl refl) (quiet refl refl refl)

-- ---- a close

Closing : Board → List ℤ → Option ℕ → Board → Type 0
Closing b values o c = Change b.entries c.entries b.buffers c.buffers (closing_at b.entries c.entries values o)

not_both : (v : Bool) → (not v && v) ≡ false
not_both true = refl
not_both false = refl

nothing_closed : (b : Board) (values : List ℤ) (k : ℕ) → Closing b values (Some k) b
unfolding Closing
nothing_closed b values k = quiet refl refl (ap (λ v. if v then (k, values) ∷ [] else []) (not_both (over_at (slice_get b.entries k))))

-- a part of the board that is the same on both sides of a choice
pub same_part : {A : Type 0} (part : Board → A) (v : Bool) (b c : Board) → part c ≡ part b → part (if v then c else b) ≡ part b
same_part part true b c h = h
same_part part false b c h = refl

chosen_buffers : (v : Bool) (b c : Board) → (if v then c else b).buffers ≡ (if v then c.buffers else b.buffers)
chosen_buffers true b c = refl
chosen_buffers false b c = refl

put_back-entries : (b : Board) (n : Need) (values : List ℤ) → (put_back b n values).entries ≡ b.entries
unfolding put_back
put_back-entries b n values = same_part (λ (c : Board). c.entries) (writes n.mode) b _ refl

put_back-buffers : (b : Board) (n : Need) (ns : List Need) (values : List ℤ) → (put_back b n values).buffers ≡ put (n ∷ ns) values b.buffers
unfolding put_back put
put_back-buffers b n ns values = chosen_buffers (writes n.mode) b _

access_puts : (out : OutcomeOf) (values : List ℤ) (needs : List Need) (w : Work) (t i : ℕ) (bs : List Buffer) → is_access w t i ≡ true → put needs values bs ≡ after_work out values needs w bs
unfolding after_work
access_puts out values needs (Node n q c) t i bs h = let z : false ≡ true = h in absurd cc
access_puts out values needs (Access u j) t i bs h = refl
access_puts out values needs (End u r) t i bs h = let z : false ≡ true = h in absurd cc

access_no_node : (w : Work) (t i : ℕ) → is_access w t i ≡ true → IsNoNode w
access_no_node w t i h n q c e = let z : true ≡ false = sym h ∙ ap (λ x. is_access x t i) e in cc

-- the stages before and after, at the entry that is closed
just_closed : (b : Board) (c : Board) (values : List ℤ) (k : ℕ) → over_at (slice_get b.entries k) ≡ false → over_at (slice_get c.entries k) ≡ true → closing_at b.entries c.entries values (Some k) ≡ (k, values) ∷ []
just_closed b c values k h i =
    ap (λ v. if not v && over_at (slice_get c.entries k) then (k, values) ∷ [] else []) h ∙ ap (λ v. if v then (k, values) ∷ [] else []) i

after_close-change : (v : Bool) (b : Board) (t i : ℕ) (values : List ℤ) (k : ℕ) (e : Entry) (n : Need) (ns : List Need) (c : Board) → c.entries ≡ changed_at (with_stage stage.Done) k (put_back b n values).entries → c.buffers ≡ (put_back b n values).buffers → slice_get b.entries k ≡ Some e → e.stage ≡ stage.Granted → e.needs ≡ n ∷ ns → is_access e.work t i ≡ true → Closing b values (Some k) (if v then c else b)
unfolding Closing
after_close-change true b t i values k e n ns c fs cs at s needs w =
    let es : c.entries ≡ changed_at (with_stage stage.Done) k b.entries = fs ∙ ap (changed_at (with_stage stage.Done) k) (put_back-entries b n values) in
    let was : over_at (slice_get b.entries k) ≡ false = ap over_at at ∙ ap is_done s in
    let is : over_at (slice_get c.entries k) ≡ true = ap (λ l. over_at (slice_get l k)) es ∙ ap over_at (changed_get (with_stage stage.Done) k b.entries e at) in
    shut k e values at s (access_no_node e.work t i w) es (λ out. cs ∙ put_back-buffers b n ns values ∙ ap (λ l. put l values b.buffers) (sym needs) ∙ access_puts out values e.needs e.work t i b.buffers w) (just_closed b c values k was is)
after_close-change false b t i values k e n ns c fs cs at s needs w = nothing_closed b values k

close_entry-change : (b : Board) (t i : ℕ) (values : List ℤ) (k : ℕ) (e : Entry) (s : Stage) (ns : List Need) → slice_get b.entries k ≡ Some e → e.stage ≡ s → e.needs ≡ ns → is_access e.work t i ≡ true → Closing b values (Some k) (close_entry b t values k s ns)
unfolding close_entry after_close
close_entry-change b t i values k e stage.Granted (n ∷ ns) at s needs w = after_close-change (length values == n.to - n.from) b t i values k e n ns _ refl refl at s needs w
close_entry-change b t i values k e stage.Granted [] at s needs w = nothing_closed b values k
close_entry-change b t i values k e stage.Pending ns at s needs w = nothing_closed b values k
close_entry-change b t i values k e stage.Done ns at s needs w = nothing_closed b values k
close_entry-change b t i values k e (stage.Failed f) ns at s needs w = nothing_closed b values k

close_at-change : (b : Board) (t i : ℕ) (values : List ℤ) (k : ℕ) (o : Option Entry) → slice_get b.entries k ≡ o → ((e : Entry) → slice_get b.entries k ≡ Some e → is_access e.work t i ≡ true) → Closing b values (Some k) (close_at b t values k o)
unfolding close_at
close_at-change b t i values k None at w = nothing_closed b values k
close_at-change b t i values k (Some e) at w = close_entry-change b t i values k e e.stage e.needs at refl refl (w e at)

no_less_by : (v : Bool) (at k : ℕ) (o : Option ℕ) → (if v then Some at else o) ≡ Some k → (o ≡ Some k → suc at ≤ k) → at ≤ k
no_less_by true at k o h g = let e : at ≡ k = same_Some at k h in omega arith
no_less_by false at k o h g = let l : suc at ≤ k = g h in omega arith

no_less : (at : ℕ) (es : List Entry) (t i k : ℕ) → access_from at es t i ≡ Some k → at ≤ k
no_less at [] t i k h = absurd (none-some k h)
no_less at (e ∷ es) t i k h = no_less_by (is_access e.work t i) at k (access_from (suc at) es t i) h (λ g. no_less (suc at) es t i k g)

found_by : (v : Bool) (at : ℕ) (x : Entry) (es : List Entry) (t i k j : ℕ) (e : Entry) → is_access x.work t i ≡ v → (if v then Some at else access_from (suc at) es t i) ≡ Some k → k ≡ at + j → slice_get (x ∷ es) j ≡ Some e → ((m : ℕ) → access_from (suc at) es t i ≡ Some k → k ≡ suc at + m → slice_get es m ≡ Some e → is_access e.work t i ≡ true) → is_access e.work t i ≡ true
found_by true at x es t i k zero e w h p g more = ap (λ y. is_access y.work t i) (sym (same_Some x e g)) ∙ w
found_by true at x es t i k (suc j) e w h p g more = let q : at ≡ k = same_Some at k h in absurd (omega arith)
found_by false at x es t i k zero e w h p g more = let l : suc at ≤ k = no_less (suc at) es t i k h in absurd (omega arith)
found_by false at x es t i k (suc j) e w h p g more = more j h (omega arith) g

-- what was found is the thread's access of that number
found_at : (at : ℕ) (es : List Entry) (t i k j : ℕ) (e : Entry) → access_from at es t i ≡ Some k → k ≡ at + j → slice_get es j ≡ Some e → is_access e.work t i ≡ true
found_at at [] t i k j e h p g = absurd (none-some e g)
found_at at (x ∷ es) t i k j e h p g = found_by (is_access x.work t i) at x es t i k j e refl h p g (λ m a b c. found_at (suc at) es t i k m e a b c)

close_found-change : (b : Board) (t i : ℕ) (values : List ℤ) (o : Option ℕ) → access_from 0 b.entries t i ≡ o → Closing b values o (close_found b t values o)
unfolding close_found Closing
close_found-change b t i values None h = quiet refl refl refl
close_found-change b t i values (Some k) h = close_at-change b t i values k (slice_get b.entries k) refl (λ e g. found_at 0 b.entries t i k k e h (omega arith) g)

pub apply-change : (b : Board) (t : ℕ) (q : Ask) → Change b.entries (apply b t q).entries b.buffers (apply b t q).buffers (closing b.entries (apply b t q).entries t q)
unfolding apply closing Closing
apply-change b t (Print bytes) = after_print-change b t bytes
apply-change b t (MakeBuffer m) = made_buffer-change b t m
apply-change b t (MakeSub parent base range) = made_part-change b t parent base (product range)
apply-change b t (EndBuffer r) = end_buffer-change b t r (slice_get b.buffers r) refl
apply-change b t (OpenHost n) = opened_host-change b t n
apply-change b t (CloseHost k values) = close_found-change b t k values (access_from 0 b.entries t k) refl
apply-change b t (MakeContext device) = made_context-change b t
apply-change b t (MakeQueue m) = made_queue-change b t m
apply-change b t (Submit s) = after_submit-change b t s (slice_get b.queues s.queue)
apply-change b t (WaitNode n) = wait_if-change _ b t _
apply-change b t (WaitQueue q) = wait_if-change _ b t _
apply-change b t (ThrowQueue q) = throw_queue-change b t q
apply-change b t (Spawn body captures) = after_spawn-change b t
apply-change b t (Join u) = wait_if-change _ b t _
apply-change b t (Finish v) = quiet refl refl refl
apply-change b t (Halt h) = quiet refl refl refl
apply-change b t (Barrier place line) = unchanged b
apply-change b t (Collect place line call) = unchanged b
