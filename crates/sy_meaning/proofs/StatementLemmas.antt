-- Each form of statement leads on, where its parts do.
use Rattle.std.specs.Prelude.{Bool, List, None, Option, Some, [], false, if◌then◌else◌, map, true, zero, suc, ℕ, ◌+◌, ◌-◌, ◌==◌, ◌∷◌, ⊤}
use Rattle.std.specs.List.{range_with_len}
use Rattle.sy_typed.specs.declared.things.Thing.{Thing}
use Rattle.sy_typed.specs.declared.things.Thing.TheVariants as thing
use Rattle.sy_typed.specs.declared.tree.Variable.{Variable}
use Rattle.sy_tree.specs.declared.parts.Brackets.{Brackets}
use Rattle.sy_tree.specs.declared.parts.Brackets.TheVariants as brackets
use Rattle.sy_meaning.specs.declared.outcomes.Evaluated.TheVariants.{Gives, Stopped, Threw}
use Rattle.sy_meaning.specs.declared.outcomes.Flow.TheVariants as flow
use Rattle.sy_meaning.specs.declared.runs.Run.{Run}
use Rattle.sy_meaning.specs.Words.{Object, is_zero}
use Rattle.sy_meaning.specs.Frame.{local, put}
use Rattle.sy_meaning.specs.Outcomes.{Ex, Flowed, St, Valued, each, then_do}
use Rattle.sy_meaning.specs.Ends.{in_scope}
use Rattle.sy_meaning.specs.Expressions.{Argument, Exp, Lambda, braced, full, lambda, run_of, value}
use Rattle.sy_meaning.specs.Library.{size_of}
use Rattle.sy_meaning.specs.Making.{Given, live_of}
use Rattle.sy_meaning.specs.Statements.{Again, End, Initializer, Printing, Statement, absorbed, after_body, again, any_makes, argument_run, arguments_last, bound, caught, choose, copied, declare_object, declare_team, declare_thread, declare_value, declare_vector, declare_zero, declared, direct, discarded, do_loop, do_once, each_element, element, error_object, for_element, for_loop, for_once, given, loop, lowered, made_object, made_of, made_vector, no_end, on_round, print_all, print_operand, printing_run, raised, range_for, returned, round, rounds, row_end, scoped, scoped_or_nothing, step_of, test_of, tested, try_block, turned, vector_of, while_loop, while_once, with_all, with_arguments}
use Rattle.sy_meaning.specs.Turns.{ExLeads, ExpLeads, Fed, MaybeExp, MaybeStatement, StLeads, Taken, feed_of, flow_stop, round_stop, stop_of}
use Rattle.sy_meaning.proofs.OutcomeLemmas.{AllLead, AllLeadOn, after, at_last, does, each_leads, in_turn_leads, listed, same, spending, valued}
use Rattle.sy_meaning.proofs.MakingLemmas.{kept_leads, make_leads, prints_leads, read_element_leads, vector_leads}
use Rattle.sy_meaning.proofs.RunLemmas.{AllExps, full_leads, in_full_leads, in_scope_leads, runs_lead, spawn_leads}

chosen_flow : {xs : Fed} {n : ℕ} (c : Bool) (a b : St) (r : Run) → Taken xs n (flow_stop (a r).0) (feed_of (a r).1.world) (a r).1.world.turns → Taken xs n (flow_stop (b r).0) (feed_of (b r).1.world) (b r).1.world.turns → Taken xs n (flow_stop ((if c then a else b) r).0) (feed_of ((if c then a else b) r).1.world) ((if c then a else b) r).1.world.turns
chosen_flow {xs} {n} true a b r p q = p
chosen_flow {xs} {n} false a b r p q = q

chosen_round : {xs : Fed} {n : ℕ} (c : Bool) (a b : Again) → Taken xs n (round_stop a.0) (feed_of a.1.world) a.1.world.turns → Taken xs n (round_stop b.0) (feed_of b.1.world) b.1.world.turns → Taken xs n (round_stop (if c then a else b).0) (feed_of (if c then a else b).1.world) (if c then a else b).1.world.turns
chosen_round {xs} {n} true a b p q = p
chosen_round {xs} {n} false a b p q = q

pub scoped_leads : (s : Statement) → StLeads s.run → StLeads (scoped s)
scoped_leads s h = in_scope_leads s.last s.run h

scoped_or_nothing_leads : (s : Option Statement) → MaybeStatement s → StLeads (scoped_or_nothing s)
scoped_or_nothing_leads None h r = same
scoped_or_nothing_leads (Some s) h r = scoped_leads s h r

pub discarded_leads : (e : Ex) → ExLeads e → StLeads (discarded e)
discarded_leads e h r = search (valued, same, h)

pub returned_leads : (line : ℕ) (e : Option Exp) → MaybeExp e → StLeads (returned line e)
returned_leads line None h r = same
returned_leads line (Some e) h r = let p = full_leads e h in search (valued, same, p)

pub choose_leads : (c : Exp) (a : Statement) (b : Option Statement) → ExpLeads c → StLeads a.run → MaybeStatement b → StLeads (choose c (scoped a) (scoped_or_nothing b))
choose_leads c a b h p q r =
    let x = full_leads c h in
    let y = scoped_leads a p in
    let z = scoped_or_nothing_leads b q in
    valued (full c r) (λ v. if is_zero v then scoped_or_nothing b else scoped a) (x r) (λ v s. chosen_flow (is_zero v) (scoped_or_nothing b) (scoped a) s (z s) (y s))

-- ---- loops

-- what a round comes to leads on from what was there before it
abbrev pub RoundLeads : (Run → Again) → Type 0
RoundLeads once = (r : Run) → Taken (feed_of r.world) r.world.turns (round_stop (once r).0) (feed_of (once r).1.world) (once r).1.world.turns

again_leads : {xs : Fed} {n : ℕ} (a : Again) (go : St) → Taken xs n (round_stop a.0) (feed_of a.1.world) a.1.world.turns → StLeads go → Taken xs n (flow_stop (again a go).0) (feed_of (again a go).1.world) (again a go).1.world.turns
again_leads {xs} {n} (None, r) go p q = after p (q r)
again_leads {xs} {n} (Some f, r) go p q = p

pub tested_leads : {xs : Fed} {n : ℕ} (a : Valued) (go : Run → Again) → Taken xs n (stop_of a.0) (feed_of a.1.world) a.1.world.turns → RoundLeads go → Taken xs n (round_stop (tested a go).0) (feed_of (tested a go).1.world) (tested a go).1.world.turns
tested_leads {xs} {n} (Gives v, r) go p q = chosen_round (is_zero v) (Some flow.Normal, r) (go r) p (after p (q r))
tested_leads {xs} {n} (Threw e l, r) go p q = p
tested_leads {xs} {n} (Stopped a, r) go p q = p

pub after_body_leads : {xs : Fed} {n : ℕ} (a : Flowed) → Taken xs n (flow_stop a.0) (feed_of a.1.world) a.1.world.turns → Taken xs n (round_stop (after_body a).0) (feed_of (after_body a).1.world) (after_body a).1.world.turns
after_body_leads {xs} {n} (flow.Normal, r) p = p
after_body_leads {xs} {n} (flow.Continued l, r) p = p
after_body_leads {xs} {n} (f, r) p = p

on_round_leads : {xs : Fed} {n : ℕ} (a : Again) (go : Run → Again) → Taken xs n (round_stop a.0) (feed_of a.1.world) a.1.world.turns → RoundLeads go → Taken xs n (round_stop (on_round a go).0) (feed_of (on_round a go).1.world) (on_round a go).1.world.turns
on_round_leads {xs} {n} (None, r) go p q = after p (q r)
on_round_leads {xs} {n} (Some f, r) go p q = p

turned_leads : (line : ℕ) (b : St) → StLeads b → (r : Run) (c : Bool) → Taken (feed_of r.world) r.world.turns (round_stop (turned line r (if c then (false, r.world) else (true, record (r.world) { turns = r.world.turns - 1 })) b).0) (feed_of (turned line r (if c then (false, r.world) else (true, record (r.world) { turns = r.world.turns - 1 })) b).1.world) (turned line r (if c then (false, r.world) else (true, record (r.world) { turns = r.world.turns - 1 })) b).1.world.turns
turned_leads line b h r true = at_last line r.world
turned_leads line b h r false =
    let s : Run = record r { world = record (r.world) { turns = r.world.turns - 1 } } in
    after_body_leads (b s) (after (spending r.world.turns) (h s))

pub round_leads : (line : ℕ) (b : St) → StLeads b → RoundLeads (round line b)
round_leads line b h r = turned_leads line b h r (r.world.turns == 0)

test_of_leads : (c : Option Exp) → MaybeExp c → (r : Run) (go : Run → Again) → RoundLeads go → Taken (feed_of r.world) r.world.turns (round_stop (test_of c r go).0) (feed_of (test_of c r go).1.world) (test_of c r go).1.world.turns
test_of_leads None h r go p = p r
test_of_leads (Some c) h r go p = tested_leads (full c r) go (full_leads c h r) p

pub while_once_leads : (line : ℕ) (c : Option Exp) (b : St) → MaybeExp c → StLeads b → RoundLeads (while_once line c b)
while_once_leads line c b h p r = test_of_leads c h r (round line b) (round_leads line b p)

pub do_once_leads : (line : ℕ) (c : Exp) (b : St) → ExpLeads c → StLeads b → RoundLeads (do_once line c b)
do_once_leads line c b h p r =
    on_round_leads (round line b r) (λ r. tested (full c r) (λ r. (None, r))) (round_leads line b p r) (λ s. tested_leads (full c s) (λ r. (None, r)) (full_leads c h s) (λ t. same))

pub for_once_leads : (line : ℕ) (c : Option Exp) (step b : St) → MaybeExp c → StLeads step → StLeads b → RoundLeads (for_once line c step b)
for_once_leads line c step b h p q r =
    on_round_leads (while_once line c b r) (λ r. after_body (step r)) (while_once_leads line c b h q r) (λ s. after_body_leads (step s) (p s))

rounds_lead : (n : ℕ) (once : Run → Again) → RoundLeads once → StLeads (rounds n once)
rounds_lead zero once h r = at_last 0 r.world
rounds_lead (suc n) once h r = again_leads (once r) (rounds n once) (h r) (rounds_lead n once h)

loop_leads : (once : Run → Again) → RoundLeads once → StLeads (loop once)
loop_leads once h r = rounds_lead (r.world.turns + 1) once h r

absorbed_leads : {xs : Fed} {n : ℕ} (a : Flowed) → Taken xs n (flow_stop a.0) (feed_of a.1.world) a.1.world.turns → Taken xs n (flow_stop (absorbed a).0) (feed_of (absorbed a).1.world) (absorbed a).1.world.turns
absorbed_leads {xs} {n} (flow.Broke l, r) p = p
absorbed_leads {xs} {n} (f, r) p = p

pub while_leads : (line : ℕ) (c : Exp) (b : Statement) → ExpLeads c → StLeads b.run → StLeads (while_loop line c b)
while_leads line c b h p r =
    absorbed_leads (loop (while_once line (Some c) (scoped b)) r) (loop_leads (while_once line (Some c) (scoped b)) (while_once_leads line (Some c) (scoped b) h (scoped_leads b p)) r)

pub do_leads : (line : ℕ) (c : Exp) (b : Statement) → ExpLeads c → StLeads b.run → StLeads (do_loop line c b)
do_leads line c b h p r =
    absorbed_leads (loop (do_once line c (scoped b)) r) (loop_leads (do_once line c (scoped b)) (do_once_leads line c (scoped b) h (scoped_leads b p)) r)

pub step_leads : (s : Option Statement) → MaybeStatement s → StLeads (step_of s)
step_leads None h r = same
step_leads (Some s) h r = h r

pub for_leads : (line : ℕ) (head : Statement) (c : Option Exp) (step : Option Statement) (b : Statement) → StLeads head.run → MaybeExp c → MaybeStatement step → StLeads b.run → StLeads (for_loop line head c step b)
for_leads line head c step b h p q s r =
    let once = for_once line c (step_of step) (scoped b) in
    let goes_on = loop_leads once (for_once_leads line c (step_of step) (scoped b) p (step_leads step q) (scoped_leads b s)) in
    absorbed_leads (in_scope b.last (λ r. then_do (head.run r) (loop once)) r) (in_scope_leads b.last (λ r. then_do (head.run r) (loop once)) (λ t. does (head.run t) (loop once) (h t) goes_on) r)

element_leads : (line : ℕ) (t : Thing) (by_reference : Bool) (v : Object) (i : ℕ) → ExLeads (element line t by_reference v i)
element_leads line (thing.Vector k) true v i r = same
element_leads line (thing.Vector k) false v i r = search read_element_leads
element_leads line thing.ThreadVector by_reference v i r = same
element_leads line t by_reference v i r = same

for_element_leads : (line : ℕ) (x : Variable) (by_reference : Bool) (t : Thing) (v : Object) (b : St) → StLeads b → (i : ℕ) → StLeads (for_element line x by_reference t v b i)
for_element_leads line x by_reference t v b h i r =
    valued (element line t by_reference v i r) (λ o s. b (put x.number (bound x.what by_reference o) s)) (element_leads line t by_reference v i r) (λ o s. h (put x.number (bound x.what by_reference o) s))

each_element_leads : (line : ℕ) (b : ℕ → St) → ((i : ℕ) → StLeads (b i)) → (is : List ℕ) → StLeads (each_element line b is)
each_element_leads line b h [] r = same
each_element_leads line b h (i ∷ is) r = again_leads (round line (b i) r) (each_element line b is) (round_leads line (b i) (h i) r) (each_element_leads line b h is)

pub range_for_leads : (line : ℕ) (x : Variable) (by_reference : Bool) (v : Variable) (b : Statement) → StLeads b.run → StLeads (range_for line x by_reference v b)
range_for_leads line x by_reference v b h r =
    let o = local v.number r in
    let body = for_element line x by_reference v.what o (scoped b) in
    let is = range_with_len 0 (size_of v.what o r.world) in
    absorbed_leads (each_element line body is r) (each_element_leads line body (for_element_leads line x by_reference v.what o (scoped b) (scoped_leads b h)) is r)

-- ---- printing

pub print_operand_leads : (line : ℕ) (e : Exp) → ExpLeads e → StLeads (print_operand line e)
print_operand_leads line e h r = let p = h.1 in search (valued, same, prints_leads, p)

abbrev pub AllPrinted : List Printing → Type 0
AllPrinted [] = ⊤
AllPrinted (p ∷ ps) = StLeads p.run × AllPrinted ps

printed_runs : (ps : List Printing) → AllPrinted ps → AllLeadOn (map printing_run ps)
printed_runs [] h = h
printed_runs (p ∷ ps) h = (h.0, printed_runs ps h.1)

pub print_all_leads : (ps : List Printing) → AllPrinted ps → StLeads (print_all ps)
print_all_leads ps h r =
    let p = in_turn_leads (map printing_run ps) (printed_runs ps h) in
    search (chosen_flow, in_scope_leads, p)

-- ---- arguments

abbrev pub ArgumentLeads : Argument → Type 0
ArgumentLeads (value e) = ExpLeads e
ArgumentLeads (braced es last) = AllExps es
ArgumentLeads (lambda l) = StLeads l.body.run

abbrev pub AllArguments : List Argument → Type 0
AllArguments [] = ⊤
AllArguments (x ∷ xs) = ArgumentLeads x × AllArguments xs

argument_leads : (x : Argument) → ArgumentLeads x → ExLeads (argument_run x)
argument_leads (value e) h r = h.1 r
argument_leads (braced es last) h r = let p = each_leads (map run_of es) (runs_lead es h) r in search (listed, same, p)
argument_leads (lambda l) h r = same

arguments_lead : (xs : List Argument) → AllArguments xs → AllLead (map argument_run xs)
arguments_lead [] h = h
arguments_lead (x ∷ xs) h = (argument_leads x h.0, arguments_lead xs h.1)

pub with_arguments_leads : (xs : List Argument) (go : List Given → Ex) → AllArguments xs → ((ys : List Given) → ExLeads (go ys)) → ExLeads (with_arguments xs go)
with_arguments_leads xs go h p r =
    listed (each (map argument_run xs) r) (λ os. go (given xs os)) (each_leads (map argument_run xs) (arguments_lead xs h) r) (λ os. p (given xs os))

-- ---- declarations

declared_leads : {xs : Fed} {n : ℕ} (x : Variable) (end : End) (a : Valued) → Taken xs n (stop_of a.0) (feed_of a.1.world) a.1.world.turns → Taken xs n (flow_stop (declared x end a).0) (feed_of (declared x end a).1.world) (declared x end a).1.world.turns
declared_leads {xs} {n} x end a p = search (valued, kept_leads, p)

with_all_leads : (line : ℕ) (xs : List Argument) (go : List Given → Ex) → AllArguments xs → ((ys : List Given) → ExLeads (go ys)) → ExLeads (with_all line xs go)
with_all_leads line xs go h p = in_full_leads (any_makes xs) (arguments_last line xs) (with_arguments xs go) (with_arguments_leads xs go h p)

abbrev pub InitializerLeads : Initializer → Type 0
InitializerLeads (copied e) = ExpLeads e
InitializerLeads (direct b xs) = AllArguments xs

abbrev pub MaybeInitializer : Option Initializer → Type 0
MaybeInitializer None = ⊤
MaybeInitializer (Some i) = InitializerLeads i

made_of_leads : (x : Variable) (xs : List Argument) → AllArguments xs → ExLeads (made_of x xs)
made_of_leads x xs h r = search (with_all_leads, make_leads, h)

made_object_leads : (x : Variable) (i : Option Initializer) → MaybeInitializer i → ExLeads (made_object x i)
made_object_leads x None h r = search make_leads
made_object_leads x (Some (copied e)) h r = made_of_leads x (value e ∷ []) (h, tt) r
made_object_leads x (Some (direct b xs)) h r = made_of_leads x xs h r

vector_of_leads : (x : Variable) (b : Brackets) (xs : List Argument) → AllArguments xs → ExLeads (vector_of x b xs)
vector_of_leads x b xs h r = search (with_all_leads, vector_leads, h)

made_vector_leads : (x : Variable) (i : Option Initializer) → MaybeInitializer i → ExLeads (made_vector x i)
made_vector_leads x None h r = search vector_leads
made_vector_leads x (Some (copied e)) h r = let p = vector_of_leads x brackets.Parentheses (value e ∷ []) (h, tt) in p r
made_vector_leads x (Some (direct b xs)) h r = vector_of_leads x b xs h r

pub declare_zero_leads : (x : Variable) → StLeads (declare_zero x)
declare_zero_leads x r = same

pub declare_value_leads : (x : Variable) (e : Exp) → ExpLeads e → StLeads (declare_value x e)
declare_value_leads x e h r = declared_leads x no_end (full e r) (full_leads e h r)

pub declare_object_leads : (x : Variable) (i : Option Initializer) → MaybeInitializer i → StLeads (declare_object x i)
declare_object_leads x i h r = declared_leads x (live_of x.what) (made_object x i r) (made_object_leads x i h r)

pub declare_vector_leads : (x : Variable) (i : Option Initializer) → MaybeInitializer i → StLeads (declare_vector x i)
declare_vector_leads x i h r = declared_leads x row_end (made_vector x i r) (made_vector_leads x i h r)

pub declare_team_leads : (x : Variable) → StLeads (declare_team x)
declare_team_leads x r = same

pub declare_thread_leads : (x : Variable) (l : Lambda) → StLeads (declare_thread x l)
declare_thread_leads x l r = search (declared_leads, spawn_leads)

-- ---- errors

caught_leads : {xs : Fed} {n : ℕ} (x : Variable) (handler : St) → StLeads handler → (a : Flowed) → Taken xs n (flow_stop a.0) (feed_of a.1.world) a.1.world.turns → Taken xs n (flow_stop (caught x handler a).0) (feed_of (caught x handler a).1.world) (caught x handler a).1.world.turns
caught_leads {xs} {n} x handler h (flow.Threw e l, r) p = after p (h (put x.number (error_object e) (lowered r)))
caught_leads {xs} {n} x handler h (f, r) p = p

pub try_leads : (b : St) (x : Variable) (handler : St) → StLeads b → StLeads handler → StLeads (try_block b x handler)
try_leads b x handler h p r = caught_leads x handler p (b (raised r)) (h (raised r))
