-- Each form of expression and statement leads on, where its parts do.
use Rattle.std.proofs.Common.{refl, sym, subst}
use Rattle.std.specs.Prelude.{Bool, List, None, Option, Some, [], false, if◌then◌else◌, map, true, ℕ, ℤ, ◌-◌, ◌==◌, ◌∷◌, ◌≡◌, ⊤}
use Rattle.sy_num.specs.Scalars.{Scalar}
use Rattle.sy_num.specs.declared.BinOp.{BinOp}
use Rattle.sy_num.specs.declared.UnOp.{UnOp}
use Rattle.sy_num.specs.declared.Kind.{Kind}
use Rattle.sy_tree.specs.declared.operators.AssignmentOperator.{AssignmentOperator}
use Rattle.sy_tree.specs.declared.operators.Operator.{Operator}
use Rattle.sy_tree.specs.declared.operators.Operator.TheVariants as operator
use Rattle.sy_tree.specs.declared.parts.FunctionObject.{FunctionObject}
use Rattle.sy_tree.specs.declared.parts.Step.{Step as TreeStep}
use Rattle.sy_typed.specs.declared.things.Thing.{Thing}
use Rattle.sy_typed.specs.declared.things.Thing.TheVariants as thing
use Rattle.sy_typed.specs.declared.tree.TypedCapture.{TypedCapture}
use Rattle.sy_typed.specs.declared.tree.TypedCapture.TheVariants as capture
use Rattle.sy_meaning.specs.declared.outcomes.Evaluated.{Evaluated}
use Rattle.sy_meaning.specs.declared.outcomes.Evaluated.TheVariants.{Gives, Stopped, Threw}
use Rattle.sy_meaning.specs.declared.outcomes.Flow.{Flow}
use Rattle.sy_meaning.specs.declared.outcomes.Flow.TheVariants as flow
use Rattle.sy_meaning.specs.declared.outcomes.Reply.TheVariants as reply
use Rattle.sy_meaning.specs.declared.runs.Live.{Live}
use Rattle.sy_meaning.specs.declared.runs.Live.TheVariants as live
use Rattle.sy_meaning.specs.declared.runs.Location.{Location}
use Rattle.sy_meaning.specs.declared.runs.Location.TheVariants as location
use Rattle.sy_meaning.specs.declared.runs.Run.{Run}
use Rattle.sy_meaning.specs.declared.runs.World.{World}
use Rattle.sy_meaning.specs.Words.{Object, nothing, queue_number}
use Rattle.sy_meaning.specs.Frame.{group_of, local, no_longer, with_living}
use Rattle.sy_meaning.specs.Outcomes.{Ex, Flowed, Replied, St, Valued, each, gives, on_turn, turn}
use Rattle.sy_meaning.specs.Ends.{Ended, after_end, close_flow, close_value, end_each, end_one, end_scope, ended_flow, ended_value, in_full, in_new, in_scope, then_end}
use Rattle.sy_meaning.specs.Locations.{load, store}
use Rattle.sy_meaning.specs.Combining.{combines}
use Rattle.sy_meaning.specs.Expressions.{Calls, Exp, Lambda, assigned, assignment, binary, call, cast, conditional, full, indexed, located, logical_and, logical_or, postfix_step, prefix_step, reduction_assigned, reference, run_of, strict, subscript, unary}
use Rattle.sy_meaning.specs.Lambdas.{captured, captures_of, emplace_back, in_group, spawn, submit, submitted}
use Rattle.sy_meaning.specs.Turns.{ExLeads, ExpLeads, Fed, Leads, StLeads, Taken, feed_of, flow_stop, list_stop, reply_stop, stop_of}
use Rattle.sy_meaning.proofs.OutcomeLemmas.{AllLead, after, asking, at_last, chosen_run, computing, each_leads, goes, halted, listed, same, spending}
use Rattle.sy_meaning.proofs.MakingLemmas.{index_leads, read_area_leads, read_element_leads, sent_leads, spawned_leads, write_area_leads, write_element_leads}

-- ---- ends

then_end_leads : {xs : Fed} {n : ℕ} (a : Ended) (go : World → Ended) → Taken xs n a.0 (feed_of a.1) a.1.turns → ((w : World) → Taken (feed_of w) w.turns (go w).0 (feed_of (go w).1) (go w).1.turns) → Taken xs n (then_end a go).0 (feed_of (then_end a go).1) (then_end a go).1.turns
then_end_leads {xs} {n} (None, w) go p q = after p (q w)
then_end_leads {xs} {n} (Some a, w) go p q = p

after_end_leads : {xs : Fed} {n : ℕ} (a : Replied) (go : List ℤ → World → World) → Taken xs n (reply_stop a.0) (feed_of a.1) a.1.turns → ((zs : List ℤ) (w : World) → Leads w (go zs w)) → Taken xs n (after_end a go).0 (feed_of (after_end a go).1) (after_end a go).1.turns
after_end_leads {xs} {n} (reply.Answered a, w) go p q = after p (q _ w)
after_end_leads {xs} {n} (reply.Stopped a, w) go p q = p

chosen_end : {xs : Fed} {n : ℕ} (c : Bool) (a b : Ended) → Taken xs n a.0 (feed_of a.1) a.1.turns → Taken xs n b.0 (feed_of b.1) b.1.turns → Taken xs n (if c then a else b).0 (feed_of (if c then a else b).1) (if c then a else b).1.turns
chosen_end {xs} {n} true a b p q = p
chosen_end {xs} {n} false a b p q = q

end_one_leads : (line : ℕ) (x : Live) (w : World) → Taken (feed_of w) w.turns (end_one line x w).0 (feed_of (end_one line x w).1) (end_one line x w).1.turns
end_one_leads line (live.Row v) w = same
end_one_leads line (live.Team v) w = search (chosen_end, same, halted)
end_one_leads line (live.Thread t) w = search (chosen_end, same, halted)
end_one_leads line (live.Buffer b) w = search (after_end_leads, asking, same)
end_one_leads line (live.Access k) w = search (after_end_leads, asking, same)

end_each_leads : (line : ℕ) (xs : List Live) (w : World) → Taken (feed_of w) w.turns (end_each line xs w).0 (feed_of (end_each line xs w).1) (end_each line xs w).1.turns
end_each_leads line [] w = same
end_each_leads line (x ∷ xs) w =
    then_end_leads (end_one line x (with_living xs w)) (end_each line xs) (end_one_leads line x (with_living xs w)) (end_each_leads line xs)

end_scope_leads : (line : ℕ) (w : World) → Taken (feed_of w) w.turns (end_scope line w).0 (feed_of (end_scope line w).1) (end_scope line w).1.turns
end_scope_leads line w = search end_each_leads

ended_value_leads : {xs : Fed} {n : ℕ} (v : Evaluated) (r : Run) (e : Ended) → stop_of v ≡ None → Taken xs n e.0 (feed_of e.1) e.1.turns → Taken xs n (stop_of (ended_value v r e).0) (feed_of (ended_value v r e).1.world) (ended_value v r e).1.world.turns
ended_value_leads {xs} {n} v r (None, w) z p = subst (λ s. Taken xs n s (feed_of w) w.turns) (sym z) p
ended_value_leads {xs} {n} v r (Some a, w) z p = p

ended_flow_leads : {xs : Fed} {n : ℕ} (f : Flow) (r : Run) (e : Ended) → flow_stop f ≡ None → Taken xs n e.0 (feed_of e.1) e.1.turns → Taken xs n (flow_stop (ended_flow f r e).0) (feed_of (ended_flow f r e).1.world) (ended_flow f r e).1.world.turns
ended_flow_leads {xs} {n} v r (None, w) z p = subst (λ s. Taken xs n s (feed_of w) w.turns) (sym z) p
ended_flow_leads {xs} {n} v r (Some a, w) z p = p

close_value_leads : {xs : Fed} {n : ℕ} (line : ℕ) (a : Valued) → Taken xs n (stop_of a.0) (feed_of a.1.world) a.1.world.turns → Taken xs n (stop_of (close_value line a).0) (feed_of (close_value line a).1.world) (close_value line a).1.world.turns
close_value_leads {xs} {n} line (Gives o, r) p = after p (ended_value_leads (Gives o) r (end_scope line r.world) refl (end_scope_leads line r.world))
close_value_leads {xs} {n} line (Threw e l, r) p = after p (ended_value_leads (Threw e l) r (end_scope l r.world) refl (end_scope_leads l r.world))
close_value_leads {xs} {n} line (Stopped a, r) p = p

close_flow_leads : {xs : Fed} {n : ℕ} (line : ℕ) (a : Flowed) → Taken xs n (flow_stop a.0) (feed_of a.1.world) a.1.world.turns → Taken xs n (flow_stop (close_flow line a).0) (feed_of (close_flow line a).1.world) (close_flow line a).1.world.turns
close_flow_leads {xs} {n} line (flow.Normal, r) p = after p (ended_flow_leads flow.Normal r (end_scope line r.world) refl (end_scope_leads line r.world))
close_flow_leads {xs} {n} line (flow.Broke l, r) p = after p (ended_flow_leads (flow.Broke l) r (end_scope l r.world) refl (end_scope_leads l r.world))
close_flow_leads {xs} {n} line (flow.Continued l, r) p = after p (ended_flow_leads (flow.Continued l) r (end_scope l r.world) refl (end_scope_leads l r.world))
close_flow_leads {xs} {n} line (flow.Returned o l, r) p = after p (ended_flow_leads (flow.Returned o l) r (end_scope l r.world) refl (end_scope_leads l r.world))
close_flow_leads {xs} {n} line (flow.Threw e l, r) p = after p (ended_flow_leads (flow.Threw e l) r (end_scope l r.world) refl (end_scope_leads l r.world))
close_flow_leads {xs} {n} line (flow.Stopped a, r) p = p

pub in_scope_leads : (line : ℕ) (s : St) → StLeads s → StLeads (in_scope line s)
in_scope_leads line s h r = close_flow_leads line (s (in_new r)) (h (in_new r))

pub in_full_leads : (makes : Bool) (line : ℕ) (e : Ex) → ExLeads e → ExLeads (in_full makes line e)
in_full_leads true line e h r = close_value_leads line (e (in_new r)) (h (in_new r))
in_full_leads false line e h r = h r

-- ---- lvalues

load_leads : (line : ℕ) (k : Kind) (l : Location) (o : Object) → ExLeads (load line k l o)
load_leads line k location.Nowhere o r = same
load_leads line k (location.Local n) o r = same
load_leads line k location.Element o r = search read_element_leads
load_leads line k (location.Cell a) o r = search read_area_leads

store_leads : (line : ℕ) (l : Location) (o : Object) (s : Scalar) → ExLeads (store line l o s)
store_leads line location.Nowhere o s r = same
store_leads line (location.Local n) o s r = same
store_leads line location.Element o s r = search write_element_leads
store_leads line (location.Cell a) o s r = search write_area_leads

ruleset parts = (goes, listed, same, computing, load_leads, store_leads, chosen_run)

pub combines_leads : (f : FunctionObject) (k : Kind) (line : ℕ) (a : Location) (p : Object) (x : Scalar) → ExLeads (combines f k line a p x)
combines_leads f k line a p x r = search parts

-- ---- expressions

abbrev pub AllExps : List Exp → Type 0
AllExps [] = ⊤
AllExps (e ∷ es) = ExpLeads e × AllExps es

pub runs_lead : (es : List Exp) → AllExps es → AllLead (map run_of es)
runs_lead [] h = h
runs_lead (e ∷ es) h = (h.0.1, runs_lead es h.1)

pub full_leads : (e : Exp) → ExpLeads e → ExLeads (full e)
full_leads e h = in_full_leads e.makes e.last e.run h.1

located_run : (t : Thing) (line last : ℕ) (makes : Bool) (l : Location) (locate : Ex) → ExLeads locate → ExLeads (located t line last makes l locate).run
located_run t line last makes l locate h r = search (parts, h)

pub located_exp : (t : Thing) (line last : ℕ) (makes : Bool) (l : Location) (locate : Ex) → ExLeads locate → ExpLeads (located t line last makes l locate)
located_exp t line last makes l locate h = (h, located_run t line last makes l locate h)

pub indexed_exp : (t : Thing) (line last : ℕ) (makes : Bool) (l : Location) (locate : Ex) → ExLeads locate → ExpLeads (indexed t line last makes l locate)
indexed_exp (thing.Integer k) line last makes l locate h = located_exp (thing.Integer k) line last makes l locate h
indexed_exp t line last makes l locate h = (h, h)

pub reference_exp : (t : Thing) (line n : ℕ) → ExpLeads (reference t line n)
reference_exp (thing.Integer k) line n = located_exp (thing.Integer k) line line false location.Element (λ r. gives (local n r) r) (λ r. same)
reference_exp t line n = located_exp t line line false (location.Local n) (gives nothing) (λ r. same)

strict_leads : (op : BinOp) (line : ℕ) (a b : Exp) → ExLeads a.run → ExLeads b.run → ExLeads (strict op line a b)
strict_leads op line a b p q r = search (parts, p, q)

and_leads : (a b : Exp) → ExLeads a.run → ExLeads b.run → ExLeads (logical_and a b)
and_leads a b p q r = search (parts, p, q)

or_leads : (a b : Exp) → ExLeads a.run → ExLeads b.run → ExLeads (logical_or a b)
or_leads a b p q r = search (parts, p, q)

pub binary_leads : (op : Operator) (line : ℕ) (a b : Exp) → ExpLeads a → ExpLeads b → ExLeads (binary op line a b)
binary_leads (operator.Strict op) line a b p q = strict_leads op line a b p.1 q.1
binary_leads operator.LogicalAnd line a b p q = and_leads a b p.1 q.1
binary_leads operator.LogicalOr line a b p q = or_leads a b p.1 q.1

pub unary_leads : (op : UnOp) (line : ℕ) (a : Exp) → ExpLeads a → ExLeads (unary op line a)
unary_leads op line a p r = let q = p.1 in search (parts, q)

pub conditional_leads : (t : Thing) (c a b : Exp) → ExpLeads c → ExpLeads a → ExpLeads b → ExLeads (conditional t c a b)
conditional_leads t c a b h p q r = let x = h.1 in let y = p.1 in let z = q.1 in search (parts, x, y, z)

pub cast_leads : (t : Thing) (a : Exp) → ExpLeads a → ExLeads (cast t a)
cast_leads t a p r = let q = p.1 in search (parts, q)

assigned_leads : (o : Option BinOp) (line : ℕ) (a b : Exp) → ExpLeads a → ExpLeads b → ExLeads (assigned o line a b)
assigned_leads None line a b p q r = let x = p.0 in let y = q.1 in search (parts, x, y)
assigned_leads (Some op) line a b p q r = let x = p.0 in let y = q.1 in search (parts, x, y)

reduction_assigned_leads : (f : FunctionObject) (line : ℕ) (a b : Exp) → ExpLeads a → ExpLeads b → ExLeads (reduction_assigned f line a b)
reduction_assigned_leads f line a b p q r = let x = p.0 in let y = q.1 in search (parts, combines_leads, x, y)

pub assignment_leads : (t : Thing) (op : AssignmentOperator) (line : ℕ) (a b : Exp) → ExpLeads a → ExpLeads b → ExLeads (assignment t op line a b)
assignment_leads (thing.Reducer k f) op line a b p q r = reduction_assigned_leads f line a b p q r
assignment_leads t op line a b p q r = search (assigned_leads, p, q)

pub prefix_leads : (s : TreeStep) (line : ℕ) (a : Exp) → ExpLeads a → ExLeads (prefix_step s line a)
prefix_leads s line a p r = let q = p.0 in search (parts, q)

pub postfix_leads : (s : TreeStep) (line : ℕ) (a : Exp) → ExpLeads a → ExLeads (postfix_step s line a)
postfix_leads s line a p r = let q = p.0 in search (parts, q)

pub subscript_leads : (line : ℕ) (a i : Exp) → ExpLeads a → ExpLeads i → ExLeads (subscript line a i)
subscript_leads line a i p q r = let x = p.1 in let y = q.1 in search (parts, index_leads, x, y)

-- what functions do with their arguments
abbrev pub CallsLead : Calls → Type 0
CallsLead calls = (f : ℕ) (os : List Object) → ExLeads (calls f os)

entered_by_turn : (line : ℕ) (go : Ex) → ExLeads go → (r : Run) (b : Bool) → Taken (feed_of r.world) r.world.turns (stop_of (on_turn line r (if b then (false, r.world) else (true, record (r.world) { turns = r.world.turns - 1 })) go).0) (feed_of (on_turn line r (if b then (false, r.world) else (true, record (r.world) { turns = r.world.turns - 1 })) go).1.world) (on_turn line r (if b then (false, r.world) else (true, record (r.world) { turns = r.world.turns - 1 })) go).1.world.turns
entered_by_turn line go h r true = at_last line r.world
entered_by_turn line go h r false = after (spending r.world.turns) (h (record r { world = record (r.world) { turns = r.world.turns - 1 } }))

pub on_turn_leads : (line : ℕ) (go : Ex) → ExLeads go → (r : Run) → Taken (feed_of r.world) r.world.turns (stop_of (on_turn line r (turn r.world) go).0) (feed_of (on_turn line r (turn r.world) go).1.world) (on_turn line r (turn r.world) go).1.world.turns
on_turn_leads line go h r = entered_by_turn line go h r (r.world.turns == 0)

pub call_leads : (calls : Calls) → CallsLead calls → (line f : ℕ) (es : List Exp) → AllExps es → ExLeads (call calls line f es)
call_leads calls h line f es p r =
    listed (each (map run_of es) r) (λ os r. on_turn line r (turn r.world) (calls f os)) (each_leads (map run_of es) (runs_lead es p) r) (λ os s. on_turn_leads line (calls f os) (h f os) s)

-- ---- lambdas

captured_leads : (line : ℕ) (c : TypedCapture) → ExLeads (captured line c)
captured_leads line (capture.Reference x) r = same
captured_leads line (capture.Copy x) r = same
captured_leads line (capture.Element x) r = search load_leads

all_captured : (line : ℕ) (cs : List TypedCapture) → AllLead (map (captured line) cs)
all_captured line [] = tt
all_captured line (c ∷ cs) = (captured_leads line c, all_captured line cs)

pub captures_lead : (l : Lambda) (r : Run) → Taken (feed_of r.world) r.world.turns (list_stop (captures_of l r).0) (feed_of (captures_of l r).2.world) (captures_of l r).2.world.turns
captures_lead l r = each_leads (map (captured l.spot.line) l.captures) (all_captured l.spot.line l.captures) r

pub spawn_leads : (line : ℕ) (l : Lambda) → ExLeads (spawn line l)
spawn_leads line l r = search (parts, captures_lead, spawned_leads)

pub emplace_leads : (line : ℕ) (l : Lambda) (o : Object) → ExLeads (emplace_back line l o)
emplace_leads line l o r = search (parts, spawn_leads)

submitted_leads : {xs : Fed} {n : ℕ} (line q : ℕ) (a : Flowed) → Taken xs n (flow_stop a.0) (feed_of a.1.world) a.1.world.turns → Taken xs n (stop_of (submitted line q a).0) (feed_of (submitted line q a).1.world) (submitted line q a).1.world.turns
submitted_leads {xs} {n} line q (flow.Threw e l, r) p = p
submitted_leads {xs} {n} line q (flow.Stopped a, r) p = p
submitted_leads {xs} {n} line q (f, r) p = after p (sent_leads line q (group_of r.world) (group_of r.world).command (no_longer r.world))

pub submit_leads : (line : ℕ) (l : Lambda) (o : Object) → StLeads l.body.run → ExLeads (submit line l o)
submit_leads line l o h r = submitted_leads line (queue_number o) (l.body.run (in_group r)) (h (in_group r))
