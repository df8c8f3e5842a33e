-- Each form of statement is alike, where its parts are.
use Rattle.std.proofs.Common.{ap, arith, refl, subst, sym, ◌∙◌}
use Rattle.std.specs.List.{list_any, range_with_len}
use Rattle.std.specs.Prelude.{Bool, List, None, Option, Some, [], false, if◌then◌else◌, map, pos, suc, true, zero, ℕ, ℤ, ◌+◌, ◌-◌, ◌==◌, ◌||◌, ◌∷◌, ◌≡◌, ⊤}
use Rattle.sy_tree.specs.declared.parts.Brackets.{Brackets}
use Rattle.sy_tree.specs.declared.parts.Brackets.TheVariants as brackets
use Rattle.sy_typed.specs.declared.things.Thing.{Thing}
use Rattle.sy_typed.specs.declared.things.Thing.TheVariants as thing
use Rattle.sy_typed.specs.declared.tree.Variable.{Variable}
use Rattle.sy_meaning.specs.declared.outcomes.Evaluated.TheVariants.{Gives, Stopped, Threw}
use Rattle.sy_meaning.specs.declared.outcomes.Flow.{Flow}
use Rattle.sy_meaning.specs.declared.outcomes.Flow.TheVariants as flow
use Rattle.sy_meaning.specs.declared.runs.Live.{Live}
use Rattle.sy_meaning.specs.declared.runs.Live.TheVariants as live
use Rattle.sy_meaning.specs.declared.runs.Run.{Run}
use Rattle.sy_meaning.specs.declared.runs.World.{World}
use Rattle.sy_meaning.specs.Turns.{flow_stop}
use Rattle.sy_meaning.specs.Words.{Object, as_thing, is_zero, kind_in, natural, scalar_of}
use Rattle.sy_meaning.specs.Frame.{local, put}
use Rattle.sy_meaning.specs.Outcomes.{Ex, Flowed, St, Valued, each, gives, in_turn, inside, then_do}
use Rattle.sy_meaning.specs.Ends.{in_full, in_scope}
use Rattle.sy_meaning.specs.Locations.{read_element}
use Rattle.sy_meaning.specs.Expressions.{Argument, Block, Exp, Lambda, braced, full, lambda, makes_of, run_of, value}
use Rattle.sy_meaning.specs.Library.{printed, size_of}
use Rattle.sy_meaning.specs.Making.{Given, kept, live_of, make, make_team, make_vector}
use Rattle.sy_meaning.specs.Lambdas.{spawn}
use Rattle.sy_meaning.specs.Statements.{Again, End, Initializer, Printing, Statement, absorbed, after_body, again, any_makes, argument_last, argument_makes, argument_run, argument_what, arguments_last, bound, caught, choose, copied, declare_object, declare_team, declare_thread, declare_value, declare_vector, declare_zero, declared, declared_as, direct, discarded, do_loop, do_once, each_element, element, error_object, for_element, for_loop, for_once, given, last_printed, loop, lowered, made_object, made_of, made_vector, no_end, on_round, print_all, print_operand, printing_makes, printing_run, prints, raised, range_for, returned, round, rounds, row_end, scoped, scoped_or_nothing, step_of, team_end, test_of, tested, thread_end, try_block, turned, values_of, vector_of, vector_values, while_loop, while_once, with_all, with_arguments}
use Rattle.sy_meaning.proofs.AlikeLemmas.{Alike, AllAlike, AllStAlike, Bound, ExAlike, ExMakes, Fine, FineAt, Rests, RoundAlike, StAlike, alike, chosen, cut, does, each_alike, flowed, flows, gave, in_run, in_turn_alike, lists, lists_made, longer, making, nothing_made, objects, rounded, spent_at, stretched, valued, with_values, within}
use Rattle.sy_meaning.proofs.AlikeMakingLemmas.{kept_fine, kept_left, kept_longer, left_of, make_alike, prints_alike, read_element_alike, size_same, team_alike, vector_alike}
use Rattle.sy_meaning.proofs.AlikeRunLemmas.{AllTwins, Twin, full_alike, in_full_made, in_scope_alike, runs_alike, runs_is, spawn_alike}

-- ---- two that are the same but for what their parts mean

pub record StatementTwin (k : Bound) (a b : Statement) : Type 0 where
  pub run : St
  pub is : b ≡ record a { run = run }
  pub runs : StAlike k a.run run

pub record PrintingTwin (k : Bound) (a b : Printing) : Type 0 where
  pub run : St
  pub is : b ≡ record a { run = run }
  pub runs : StAlike k a.run run

pub record BlockTwin (k : Bound) (a b : Block) : Type 0 where
  pub run : St
  pub is : b ≡ record a { run = run }
  pub runs : StAlike k a.run run

pub record LambdaTwin (k : Bound) (a b : Lambda) : Type 0 where
  pub run : St
  pub is : b ≡ record a { body = record (a.body) { run = run } }
  pub runs : StAlike k a.body.run run

abbrev pub MaybeTwin : Bound → Option Exp → Option Exp → Type 0
MaybeTwin k None None = ⊤
MaybeTwin k None (Some b) = ⊥
MaybeTwin k (Some a) None = ⊥
MaybeTwin k (Some a) (Some b) = Twin k a b

abbrev pub MaybeStatementTwin : Bound → Option Statement → Option Statement → Type 0
MaybeStatementTwin k None None = ⊤
MaybeStatementTwin k None (Some b) = ⊥
MaybeStatementTwin k (Some a) None = ⊥
MaybeStatementTwin k (Some a) (Some b) = StatementTwin k a b

pub full_twin : {k : Bound} (a b : Exp) → Twin k a b → ExAlike k (full a) (full b)
full_twin {k} a b t = subst (λ c. ExAlike k (full a) (full c)) (sym t.is) (full_alike a t.locate t.run t.runs)

pub scoped_twin : {k : Bound} (a b : Statement) → StatementTwin k a b → StAlike k (scoped a) (scoped b)
scoped_twin {k} a b t = subst (λ c. StAlike k (scoped a) (scoped c)) (sym t.is) (in_scope_alike a.last a.run t.run t.runs)

pub statement_is : {k : Bound} (a b : Statement) → StatementTwin k a b → StAlike k a.run b.run
statement_is {k} a b t = subst (λ c. StAlike k a.run c.run) (sym t.is) t.runs

pub of_run : {k : Bound} (f g : St) (last : ℕ) → StAlike k f g → StatementTwin k (record { run = f; last = last }) (record { run = g; last = last })
of_run f g last p = record { run = g; is = refl; runs = p }

scoped_or_nothing_alike : {k : Bound} (a b : Option Statement) → MaybeStatementTwin k a b → StAlike k (scoped_or_nothing a) (scoped_or_nothing b)
scoped_or_nothing_alike None None t r h = flows h
scoped_or_nothing_alike None (Some b) t r h = absurd t
scoped_or_nothing_alike (Some a) None t r h = absurd t
scoped_or_nothing_alike (Some a) (Some b) t r h = scoped_twin a b t r h

pub discarded_alike : {k : Bound} (f g : Ex) → ExAlike k f g → StAlike k (discarded f) (discarded g)
discarded_alike f g p r h = search (with_values, flows, p)

pub returned_alike : {k : Bound} (line : ℕ) (a b : Option Exp) → MaybeTwin k a b → StAlike k (returned line a) (returned line b)
returned_alike line None None t r h = flows h
returned_alike line None (Some b) t r h = absurd t
returned_alike line (Some a) None t r h = absurd t
returned_alike {k} line (Some a) (Some b) t r h =
    with_values (full a r) (full b (stretched k r)) (λ o r. (flow.Returned o line, r)) (λ o r. (flow.Returned o line, r)) (full_twin a b t r h) (λ o s g. flows g)

pub choose_alike : {k : Bound} (c d : Exp) (a b x y : St) → Twin k c d → StAlike k a x → StAlike k b y → StAlike k (choose c a b) (choose d x y)
choose_alike {k} c d a b x y t p q r h =
    with_values (full c r) (full d (stretched k r)) (λ v. if is_zero v then b else a) (λ v. if is_zero v then y else x) (full_twin c d t r h) (λ v. either (is_zero v))
  where
    either : (z : Bool) → StAlike k (if z then b else a) (if z then y else x)
    either true = q
    either false = p

pub choice_alike : {k : Bound} (c d : Exp) (a x : Statement) (b y : Option Statement) → Twin k c d → StatementTwin k a x → MaybeStatementTwin k b y → StAlike k (choose c (scoped a) (scoped_or_nothing b)) (choose d (scoped x) (scoped_or_nothing y))
choice_alike c d a x b y t p q =
    choose_alike c d (scoped a) (scoped_or_nothing b) (scoped x) (scoped_or_nothing y) t (scoped_twin a x p) (scoped_or_nothing_alike b y q)

-- ---- loops

again_alike : {k : Bound} (a b : Again) (go on : St) → Alike k rounded a b → StAlike k go on → Alike k flowed (again a go) (again b on)
again_alike {k} (None, r) b go on (cut w l) q = absurd w
again_alike {k} (None, r) b go on (alike e h) q = subst (λ c. Alike k flowed (go r) (again c on)) e (q r h)
again_alike {k} (Some f, r) b go on (cut w l) q = cut w l
again_alike {k} (Some f, r) b go on (alike e h) q = alike (ap (λ c. again c on) e) h

tested_alike : {k : Bound} (a b : Valued) (go on : Run → Again) → Alike k valued a b → RoundAlike k go on → Alike k rounded (tested a go) (tested b on)
tested_alike {k} (Gives v, r) b go on (cut w l) q = absurd w
tested_alike {k} (Gives v, r) b go on (alike e h) q = subst (λ c. Alike k rounded (tested (Gives v, r) go) (tested c on)) e (chosen (is_zero v) (Some flow.Normal, r) (go r) (Some flow.Normal, stretched k r) (on (stretched k r)) (alike refl h) (q r h))
tested_alike {k} (Threw x n, r) b go on (cut w l) q = absurd w
tested_alike {k} (Threw x n, r) b go on (alike e h) q = alike (ap (λ c. tested c on) e) h
tested_alike {k} (Stopped a, r) b go on (cut w l) q = cut w l
tested_alike {k} (Stopped a, r) b go on (alike e h) q = alike (ap (λ c. tested c on) e) h

after_body_same : {k : Bound} (f : Flow) (r : Run) → Rests k (flow_stop f) r.world → Alike k rounded (after_body (f, r)) (after_body (f, stretched k r))
after_body_same flow.Normal r h = alike refl h
after_body_same (flow.Continued l) r h = alike refl h
after_body_same f r h = alike refl h

after_body_alike : {k : Bound} (a b : Flowed) → Alike k flowed a b → Alike k rounded (after_body a) (after_body b)
after_body_alike {k} (flow.Stopped a, r) b (cut w l) = cut w l
after_body_alike {k} (f, r) b (cut w l) = absurd w
after_body_alike {k} (f, r) b (alike e h) = subst (λ c. Alike k rounded (after_body (f, r)) (after_body c)) e (after_body_same f r h)

on_round_alike : {k : Bound} (a b : Again) (go on : Run → Again) → Alike k rounded a b → RoundAlike k go on → Alike k rounded (on_round a go) (on_round b on)
on_round_alike {k} (None, r) b go on (cut w l) q = absurd w
on_round_alike {k} (None, r) b go on (alike e h) q = subst (λ c. Alike k rounded (go r) (on_round c on)) e (q r h)
on_round_alike {k} (Some f, r) b go on (cut w l) q = cut w l
on_round_alike {k} (Some f, r) b go on (alike e h) q = alike (ap (λ c. on_round c on) e) h

turned_alike : {k : Bound} (line : ℕ) (f g : St) → StAlike k f g → (r : Run) (c : Bool) → Fine k r.world → Alike k rounded (turned line r (if c then (false, r.world) else (true, record (r.world) { turns = r.world.turns - 1 })) f) (turned line (stretched k r) (if c then (false, longer k r.world) else (true, record (longer k r.world) { turns = r.world.turns - 1 })) g)
turned_alike {k} line f g p r true h = alike refl (spent_at k line None [] r.world h)
turned_alike {k} line f g p r false h =
    let s : Run = record r { world = record (r.world) { turns = r.world.turns - 1 } } in
    after_body_alike (f s) (g (stretched k s)) (p s (omega (arith, h.0), h.1))

pub round_alike : {k : Bound} (line : ℕ) (f g : St) → StAlike k f g → RoundAlike k (round line f) (round line g)
round_alike line f g p r h = turned_alike line f g p r (r.world.turns == 0) h

test_alike : {k : Bound} (a b : Option Exp) → MaybeTwin k a b → (go on : Run → Again) → RoundAlike k go on → RoundAlike k (λ r. test_of a r go) (λ r. test_of b r on)
test_alike None None t go on p r h = p r h
test_alike None (Some b) t go on p r h = absurd t
test_alike (Some a) None t go on p r h = absurd t
test_alike {k} (Some a) (Some b) t go on p r h = tested_alike (full a r) (full b (stretched k r)) go on (full_twin a b t r h) p

while_once_alike : {k : Bound} (line : ℕ) (a b : Option Exp) (f g : St) → MaybeTwin k a b → StAlike k f g → RoundAlike k (while_once line a f) (while_once line b g)
while_once_alike line a b f g t p r h = test_alike a b t (round line f) (round line g) (round_alike line f g p) r h

do_once_alike : {k : Bound} (line : ℕ) (a b : Exp) (f g : St) → Twin k a b → StAlike k f g → RoundAlike k (do_once line a f) (do_once line b g)
do_once_alike {k} line a b f g t p r h =
    on_round_alike (round line f r) (round line g (stretched k r)) (λ r. tested (full a r) (λ r. (None, r))) (λ r. tested (full b r) (λ r. (None, r))) (round_alike line f g p r h) (λ s i. tested_alike (full a s) (full b (stretched k s)) (λ r. (None, r)) (λ r. (None, r)) (full_twin a b t s i) (λ u j. alike refl j))

for_once_alike : {k : Bound} (line : ℕ) (a b : Option Exp) (u v f g : St) → MaybeTwin k a b → StAlike k u v → StAlike k f g → RoundAlike k (for_once line a u f) (for_once line b v g)
for_once_alike {k} line a b u v f g t p q r h =
    on_round_alike (while_once line a f r) (while_once line b g (stretched k r)) (λ r. after_body (u r)) (λ r. after_body (v r)) (while_once_alike line a b f g t q r h) (λ s i. after_body_alike (u s) (v (stretched k s)) (p s i))

rounds_alike : {k : Bound} (n : ℕ) (f g : Run → Again) → RoundAlike k f g → StAlike k (rounds n f) (rounds n g)
rounds_alike {k} zero f g p r h = flows (spent_at k 0 None [] r.world h)
rounds_alike {k} (suc n) f g p r h = again_alike (f r) (g (stretched k r)) (rounds n f) (rounds n g) (p r h) (rounds_alike n f g p)

loop_alike : {k : Bound} (f g : Run → Again) → RoundAlike k f g → StAlike k (loop f) (loop g)
loop_alike f g p r h = rounds_alike (r.world.turns + 1) f g p r h

absorbed_same : {k : Bound} (f : Flow) (r : Run) → Rests k (flow_stop f) r.world → Alike k flowed (absorbed (f, r)) (absorbed (f, stretched k r))
absorbed_same (flow.Broke l) r h = alike refl h
absorbed_same f r h = alike refl h

absorbed_alike : {k : Bound} (a b : Flowed) → Alike k flowed a b → Alike k flowed (absorbed a) (absorbed b)
absorbed_alike {k} (flow.Stopped a, r) b (cut w l) = cut w l
absorbed_alike {k} (f, r) b (cut w l) = absurd w
absorbed_alike {k} (f, r) b (alike e h) = subst (λ c. Alike k flowed (absorbed (f, r)) (absorbed c)) e (absorbed_same f r h)

pub while_alike : {k : Bound} (line : ℕ) (c d : Exp) (a b : Statement) → Twin k c d → StatementTwin k a b → StAlike k (while_loop line c a) (while_loop line d b)
while_alike {k} line c d a b t p r h =
    let once = while_once line (Some c) (scoped a) in
    let other = while_once line (Some d) (scoped b) in
    absorbed_alike (loop once r) (loop other (stretched k r)) (loop_alike once other (while_once_alike line (Some c) (Some d) (scoped a) (scoped b) t (scoped_twin a b p)) r h)

pub do_alike : {k : Bound} (line : ℕ) (c d : Exp) (a b : Statement) → Twin k c d → StatementTwin k a b → StAlike k (do_loop line c a) (do_loop line d b)
do_alike {k} line c d a b t p r h =
    let once = do_once line c (scoped a) in
    let other = do_once line d (scoped b) in
    absorbed_alike (loop once r) (loop other (stretched k r)) (loop_alike once other (do_once_alike line c d (scoped a) (scoped b) t (scoped_twin a b p)) r h)

step_alike : {k : Bound} (a b : Option Statement) → MaybeStatementTwin k a b → StAlike k (step_of a) (step_of b)
step_alike None None t r h = flows h
step_alike None (Some b) t r h = absurd t
step_alike (Some a) None t r h = absurd t
step_alike (Some a) (Some b) t r h = statement_is a b t r h

for_with : {k : Bound} (line : ℕ) (u v : Statement) (c d : Option Exp) (s t : Option Statement) (a : Statement) (g : St) → StatementTwin k u v → MaybeTwin k c d → MaybeStatementTwin k s t → StAlike k a.run g → StAlike k (for_loop line u c s a) (for_loop line v d t (record a { run = g }))
for_with {k} line u v c d s t a g p q o m r h =
    let b : Statement = record a { run = g } in
    let once = for_once line c (step_of s) (scoped a) in
    let other = for_once line d (step_of t) (scoped b) in
    let f : St = λ r. then_do (u.run r) (loop once) in
    let i : St = λ r. then_do (v.run r) (loop other) in
    let looped : StAlike k (loop once) (loop other) = loop_alike once other (for_once_alike line c d (step_of s) (step_of t) (scoped a) (scoped b) q (step_alike s t o) (in_scope_alike a.last a.run g m)) in
    let begun : StAlike k f i = λ y j. does (u.run y) (v.run (stretched k y)) (loop once) (loop other) (statement_is u v p y j) looped in
    absorbed_alike (in_scope a.last f r) (in_scope a.last i (stretched k r)) (in_scope_alike a.last f i begun r h)

pub for_alike : {k : Bound} (line : ℕ) (u v : Statement) (c d : Option Exp) (s t : Option Statement) (a b : Statement) → StatementTwin k u v → MaybeTwin k c d → MaybeStatementTwin k s t → StatementTwin k a b → StAlike k (for_loop line u c s a) (for_loop line v d t b)
for_alike {k} line u v c d s t a b p q o m =
    subst (λ x. StAlike k (for_loop line u c s a) (for_loop line v d t x)) (sym m.is) (for_with line u v c d s t a m.run p q o m.runs)

element_alike : {beyond : Bound} (line : ℕ) (t : Thing) (by_reference : Bool) (v : Object) (i : ℕ) → ExAlike beyond (element line t by_reference v i) (element line t by_reference v i)
element_alike line (thing.Vector k) true v i r h = gave h
element_alike line (thing.Vector k) false v i r h = within (read_element line k (natural 0 v) i) (read_element line k (natural 0 v) i) (read_element_alike line k (natural 0 v) i) r h
element_alike line thing.ThreadVector by_reference v i r h = gave h
element_alike line t by_reference v i r h = gave h

for_element_alike : {k : Bound} (line : ℕ) (x : Variable) (by_reference : Bool) (t : Thing) (v : Object) (f g : St) → StAlike k f g → (i : ℕ) → StAlike k (for_element line x by_reference t v f i) (for_element line x by_reference t v g i)
for_element_alike {k} line x by_reference t v f g p i r h =
    with_values (element line t by_reference v i r) (element line t by_reference v i (stretched k r)) (λ o s. f (put x.number (bound x.what by_reference o) s)) (λ o s. g (put x.number (bound x.what by_reference o) s)) (element_alike line t by_reference v i r h) (λ o s j. p (put x.number (bound x.what by_reference o) s) j)

each_element_alike : {k : Bound} (line : ℕ) (f g : ℕ → St) → ((i : ℕ) → StAlike k (f i) (g i)) → (is : List ℕ) → StAlike k (each_element line f is) (each_element line g is)
each_element_alike line f g p [] r h = flows h
each_element_alike {k} line f g p (i ∷ is) r h =
    again_alike (round line (f i) r) (round line (g i) (stretched k r)) (each_element line f is) (each_element line g is) (round_alike line (f i) (g i) (p i) r h) (each_element_alike line f g p is)

pub range_for_alike : {k : Bound} (line : ℕ) (x : Variable) (by_reference : Bool) (v : Variable) (a b : Statement) → StatementTwin k a b → StAlike k (range_for line x by_reference v a) (range_for line x by_reference v b)
range_for_alike {k} line x by_reference v a b t r h =
    let o = local v.number r in
    let f = for_element line x by_reference v.what o (scoped a) in
    let g = for_element line x by_reference v.what o (scoped b) in
    let is = range_with_len 0 (size_of v.what o r.world) in
    let p : StAlike k (each_element line f is) (each_element line g is) = each_element_alike line f g (for_element_alike line x by_reference v.what o (scoped a) (scoped b) (scoped_twin a b t)) is in
    rw (size_same k v.what o r.world) (absorbed_alike (each_element line f is r) (each_element line g is (stretched k r)) (p r h))

-- ---- printing

pub print_operand_alike : {k : Bound} (line : ℕ) (a b : Exp) → Twin k a b → StAlike k (print_operand line a) (print_operand line b)
print_operand_alike {k} line a b t =
    subst (λ c. StAlike k (print_operand line a) (print_operand line c)) (sym t.is) (λ r h. with_values (a.run r) (t.run (stretched k r)) _ _ (t.runs r h) (λ o. discarded_alike (inside (prints line (printed (scalar_of a.what o)))) (inside (prints line (printed (scalar_of a.what o)))) (within (prints line (printed (scalar_of a.what o))) (prints line (printed (scalar_of a.what o))) (prints_alike line (printed (scalar_of a.what o))))))

abbrev pub AllPrinted : Bound → List Printing → List Printing → Type 0
AllPrinted k [] [] = ⊤
AllPrinted k [] (q ∷ qs) = ⊥
AllPrinted k (p ∷ ps) [] = ⊥
AllPrinted k (p ∷ ps) (q ∷ qs) = PrintingTwin k p q × AllPrinted k ps qs

printed_runs : (k : Bound) (ps qs : List Printing) → AllPrinted k ps qs → AllStAlike k (map printing_run ps) (map printing_run qs)
printed_runs k [] [] t = t
printed_runs k [] (q ∷ qs) t = absurd t
printed_runs k (p ∷ ps) [] t = absurd t
printed_runs k (p ∷ ps) (q ∷ qs) t = (subst (λ c. StAlike k p.run c.run) (sym t.0.is) t.0.runs, printed_runs k ps qs t.1)

printed_makes : (k : Bound) (ps qs : List Printing) → AllPrinted k ps qs → list_any printing_makes ps ≡ list_any printing_makes qs
printed_makes k [] [] t = refl
printed_makes k [] (q ∷ qs) t = absurd t
printed_makes k (p ∷ ps) [] t = absurd t
printed_makes k (p ∷ ps) (q ∷ qs) t = ap (λ c. p.makes || c) (printed_makes k ps qs t.1) ∙ ap (λ c. c.makes || list_any printing_makes qs) (sym t.0.is)

printed_last : (k : Bound) (ps qs : List Printing) → AllPrinted k ps qs → last_printed ps ≡ last_printed qs
printed_last k [] [] t = refl
printed_last k [] (q ∷ qs) t = absurd t
printed_last k (p ∷ ps) [] t = absurd t
printed_last k (p ∷ []) (q ∷ []) t = ap (λ c. c.last) (sym t.0.is)
printed_last k (p ∷ []) (q ∷ y ∷ qs) t = absurd t.1
printed_last k (p ∷ x ∷ ps) (q ∷ []) t = absurd t.1
printed_last k (p ∷ x ∷ ps) (q ∷ y ∷ qs) t = printed_last k (x ∷ ps) (y ∷ qs) t.1

either_scoped : {k : Bound} (c : Bool) (line : ℕ) (f g : St) → StAlike k f g → StAlike k (if c then in_scope line f else f) (if c then in_scope line g else g)
either_scoped true line f g p = in_scope_alike line f g p
either_scoped false line f g p = p

pub print_all_alike : {k : Bound} (ps qs : List Printing) → AllPrinted k ps qs → StAlike k (print_all ps) (print_all qs)
print_all_alike {k} ps qs t =
    let f = in_turn (map printing_run ps) in
    let g = in_turn (map printing_run qs) in
    let p : StAlike k f g = in_turn_alike (map printing_run ps) (map printing_run qs) (printed_runs k ps qs t) in
    let q = either_scoped (list_any printing_makes ps) (last_printed ps) f g p in
    let here = subst (λ n. StAlike k (print_all ps) (if list_any printing_makes ps then in_scope n g else g)) (printed_last k ps qs t) q in
    subst (λ c. StAlike k (print_all ps) (if c then in_scope (last_printed qs) g else g)) (printed_makes k ps qs t) here

-- ---- arguments

abbrev pub ArgumentTwin : Bound → Argument → Argument → Type 0
ArgumentTwin k (value a) (value b) = Twin k a b
ArgumentTwin k (value a) (braced fs m) = ⊥
ArgumentTwin k (value a) (lambda b) = ⊥
ArgumentTwin k (braced es l) (value b) = ⊥
ArgumentTwin k (braced es l) (braced fs m) = AllTwins k es fs × (l ≡ m)
ArgumentTwin k (braced es l) (lambda b) = ⊥
ArgumentTwin k (lambda a) (value b) = ⊥
ArgumentTwin k (lambda a) (braced fs m) = ⊥
ArgumentTwin k (lambda a) (lambda b) = LambdaTwin k a b

abbrev pub AllArguments : Bound → List Argument → List Argument → Type 0
AllArguments k [] [] = ⊤
AllArguments k [] (y ∷ ys) = ⊥
AllArguments k (x ∷ xs) [] = ⊥
AllArguments k (x ∷ xs) (y ∷ ys) = ArgumentTwin k x y × AllArguments k xs ys

pub twins_make : (k : Bound) (es fs : List Exp) → AllTwins k es fs → list_any makes_of es ≡ list_any makes_of fs
twins_make k [] [] t = refl
twins_make k [] (f ∷ fs) t = absurd t
twins_make k (e ∷ es) [] t = absurd t
twins_make k (e ∷ es) (f ∷ fs) t = ap (λ c. e.makes || c) (twins_make k es fs t.1) ∙ ap (λ c. c.makes || list_any makes_of fs) (sym t.0.is)

argument_alike : (k : Bound) (x y : Argument) → ArgumentTwin k x y → ExAlike k (argument_run x) (argument_run y)
argument_alike k (value a) (value b) t = runs_is a b t
argument_alike k (value a) (braced fs m) t = absurd t
argument_alike k (value a) (lambda b) t = absurd t
argument_alike k (braced es l) (value b) t = absurd t
argument_alike k (braced es l) (braced fs m) t = λ r h. lists (each (map run_of es) r) (each (map run_of fs) (stretched k r)) _ _ (each_alike (map run_of es) (map run_of fs) (runs_alike k es fs t.0) r h) (λ os s g. gave g)
argument_alike k (braced es l) (lambda b) t = absurd t
argument_alike k (lambda a) (value b) t = absurd t
argument_alike k (lambda a) (braced fs m) t = absurd t
argument_alike k (lambda a) (lambda b) t = λ r h. gave h

argument_types : (k : Bound) (x y : Argument) → ArgumentTwin k x y → argument_what x ≡ argument_what y
argument_types k (value a) (value b) t = ap (λ c. c.what) (sym t.is)
argument_types k (value a) (braced fs m) t = absurd t
argument_types k (value a) (lambda b) t = absurd t
argument_types k (braced es l) (value b) t = absurd t
argument_types k (braced es l) (braced fs m) t = refl
argument_types k (braced es l) (lambda b) t = absurd t
argument_types k (lambda a) (value b) t = absurd t
argument_types k (lambda a) (braced fs m) t = absurd t
argument_types k (lambda a) (lambda b) t = refl

argument_make : (k : Bound) (x y : Argument) → ArgumentTwin k x y → argument_makes x ≡ argument_makes y
argument_make k (value a) (value b) t = ap (λ c. c.makes) (sym t.is)
argument_make k (value a) (braced fs m) t = absurd t
argument_make k (value a) (lambda b) t = absurd t
argument_make k (braced es l) (value b) t = absurd t
argument_make k (braced es l) (braced fs m) t = twins_make k es fs t.0
argument_make k (braced es l) (lambda b) t = absurd t
argument_make k (lambda a) (value b) t = absurd t
argument_make k (lambda a) (braced fs m) t = absurd t
argument_make k (lambda a) (lambda b) t = refl

argument_ends : (k : Bound) (x y : Argument) → ArgumentTwin k x y → argument_last x ≡ argument_last y
argument_ends k (value a) (value b) t = ap (λ c. c.last) (sym t.is)
argument_ends k (value a) (braced fs m) t = absurd t
argument_ends k (value a) (lambda b) t = absurd t
argument_ends k (braced es l) (value b) t = absurd t
argument_ends k (braced es l) (braced fs m) t = t.1
argument_ends k (braced es l) (lambda b) t = absurd t
argument_ends k (lambda a) (value b) t = absurd t
argument_ends k (lambda a) (braced fs m) t = absurd t
argument_ends k (lambda a) (lambda b) t = ap (λ c. c.body.last) (sym t.is)

arguments_alike : (k : Bound) (xs ys : List Argument) → AllArguments k xs ys → AllAlike k (map argument_run xs) (map argument_run ys)
arguments_alike k [] [] t = t
arguments_alike k [] (y ∷ ys) t = absurd t
arguments_alike k (x ∷ xs) [] t = absurd t
arguments_alike k (x ∷ xs) (y ∷ ys) t = (argument_alike k x y t.0, arguments_alike k xs ys t.1)

given_same : (k : Bound) (xs ys : List Argument) → AllArguments k xs ys → (os : List Object) → given xs os ≡ given ys os
given_same k [] [] t os = refl
given_same k [] (y ∷ ys) t os = absurd t
given_same k (x ∷ xs) [] t os = absurd t
given_same k (x ∷ xs) (y ∷ ys) t [] = refl
given_same k (x ∷ xs) (y ∷ ys) t (o ∷ os) = ap (λ c. (c, o) ∷ given xs os) (argument_types k x y t.0) ∙ ap (λ cs. (argument_what y, o) ∷ cs) (given_same k xs ys t.1 os)

pub makes_same : (k : Bound) (xs ys : List Argument) → AllArguments k xs ys → any_makes xs ≡ any_makes ys
makes_same k [] [] t = refl
makes_same k [] (y ∷ ys) t = absurd t
makes_same k (x ∷ xs) [] t = absurd t
makes_same k (x ∷ xs) (y ∷ ys) t = ap (λ c. argument_makes x || c) (makes_same k xs ys t.1) ∙ ap (λ c. c || any_makes ys) (argument_make k x y t.0)

last_same : (k : Bound) (line : ℕ) (xs ys : List Argument) → AllArguments k xs ys → arguments_last line xs ≡ arguments_last line ys
last_same k line [] [] t = refl
last_same k line [] (y ∷ ys) t = absurd t
last_same k line (x ∷ xs) [] t = absurd t
last_same k line (x ∷ xs) (y ∷ ys) t = ap (λ n. arguments_last n xs) (argument_ends k x y t.0) ∙ last_same k (argument_last y) xs ys t.1

pub with_arguments_made : {k : Bound} (made : Object → Option Live) (xs ys : List Argument) (go on : List Given → Ex) → AllArguments k xs ys → ((zs : List Given) → ExMakes k made (go zs) (on zs)) → ExMakes k made (with_arguments xs go) (with_arguments ys on)
with_arguments_made {k} made xs ys go on t p r h =
    lists_made made (each (map argument_run xs) r) (each (map argument_run ys) (stretched k r)) (λ os. go (given xs os)) (λ os. on (given ys os)) (each_alike (map argument_run xs) (map argument_run ys) (arguments_alike k xs ys t) r h) (λ os. subst (λ z. ExMakes k made (go (given xs os)) (on z)) (given_same k xs ys t os) (p (given xs os)))

pub with_arguments_alike : {k : Bound} (xs ys : List Argument) (go on : List Given → Ex) → AllArguments k xs ys → ((zs : List Given) → ExAlike k (go zs) (on zs)) → ExAlike k (with_arguments xs go) (with_arguments ys on)
with_arguments_alike xs ys go on t p = with_arguments_made nothing_made xs ys go on t p

-- ---- declarations

abbrev declaring : Variable → Option Live → Object → Run → Flowed
declaring x l o r = (flow.Normal, declared_as x l o r)

declared_same : (k : Bound) (x : Variable) (l : Option Live) (o : Object) (r : Run) → flowed.stretch k (declaring x l o r) ≡ declaring x l o (stretched k r)
declared_same k x l o r =
    let in_world : World → Flowed = λ w. (flow.Normal, put x.number (as_thing x.what o) (record r { world = w })) in
    ap in_world (kept_longer k l r.world)

-- what was made stands in the scope of its declaration
declared_alike : {k : Bound} (x : Variable) (made : Object → Option Live) (end : End) (a b : Valued) → ((o : Object) (w : World) → FineAt k (made o) [] w → Fine k (kept (end o) w)) → Alike k (making made) a b → Alike k flowed (declared x end a) (declared x end b)
declared_alike {k} x made end (Gives o, r) b f (cut w l) = absurd w
declared_alike {k} x made end (Gives o, r) b f (alike e h) =
    alike (declared_same k x (end o) o r ∙ ap (declared x end) e) (f o r.world h)
declared_alike {k} x made end (Threw y n, r) b f (cut w l) = absurd w
declared_alike {k} x made end (Threw y n, r) b f (alike e h) = alike (ap (declared x end) e) h
declared_alike {k} x made end (Stopped a, r) b f (cut w l) = cut w l
declared_alike {k} x made end (Stopped a, r) b f (alike e h) = alike (ap (declared x end) e) h

with_all_alike : {k : Bound} (made : Object → Option Live) (line : ℕ) (xs ys : List Argument) (go on : List Given → Ex) → AllArguments k xs ys → ((zs : List Given) → ExMakes k made (go zs) (on zs)) → ExMakes k made (with_all line xs go) (with_all line ys on)
with_all_alike {k} made line xs ys go on t p =
    let q = in_full_made made (any_makes xs) (arguments_last line xs) (with_arguments xs go) (with_arguments ys on) (with_arguments_made made xs ys go on t p) in
    let here = subst (λ n. ExMakes k made (with_all line xs go) (in_full (any_makes xs) n (with_arguments ys on))) (last_same k line xs ys t) q in
    subst (λ c. ExMakes k made (with_all line xs go) (in_full c (arguments_last line ys) (with_arguments ys on))) (makes_same k xs ys t) here

abbrev pub InitializerTwin : Bound → Initializer → Initializer → Type 0
InitializerTwin k (copied a) (copied b) = Twin k a b
InitializerTwin k (copied a) (direct c ys) = ⊥
InitializerTwin k (direct b xs) (copied a) = ⊥
InitializerTwin k (direct b xs) (direct c ys) = (b ≡ c) × AllArguments k xs ys

abbrev pub MaybeInitializer : Bound → Option Initializer → Option Initializer → Type 0
MaybeInitializer k None None = ⊤
MaybeInitializer k None (Some j) = ⊥
MaybeInitializer k (Some i) None = ⊥
MaybeInitializer k (Some i) (Some j) = InitializerTwin k i j

make_here : {k : Bound} (t : Thing) (line : ℕ) (zs : List Given) → ExMakes k (left_of t) (inside (make t line zs)) (inside (make t line zs))
make_here {k} t line zs r h = in_run (left_of t) (make t line zs r.world) (make t line zs (longer k r.world)) r (make_alike t line zs r.world h)

made_of_alike : {k : Bound} (x : Variable) (xs ys : List Argument) → AllArguments k xs ys → ExMakes k (left_of x.what) (made_of x xs) (made_of x ys)
made_of_alike x xs ys t =
    with_all_alike (left_of x.what) x.spot.line xs ys (λ zs. inside (make x.what x.spot.line zs)) (λ zs. inside (make x.what x.spot.line zs)) t (make_here x.what x.spot.line)

made_object_alike : {k : Bound} (x : Variable) (i j : Option Initializer) → MaybeInitializer k i j → ExMakes k (left_of x.what) (made_object x i) (made_object x j)
made_object_alike x None None t = make_here x.what x.spot.line []
made_object_alike x None (Some j) t = absurd t
made_object_alike x (Some i) None t = absurd t
made_object_alike x (Some (copied a)) (Some (copied b)) t = made_of_alike x (value a ∷ []) (value b ∷ []) (t, tt)
made_object_alike x (Some (copied a)) (Some (direct c ys)) t = absurd t
made_object_alike x (Some (direct b xs)) (Some (copied a)) t = absurd t
made_object_alike x (Some (direct b xs)) (Some (direct c ys)) t = made_of_alike x xs ys t.1

vector_of_alike : {k : Bound} (x : Variable) (b : Brackets) (xs ys : List Argument) → AllArguments k xs ys → ExAlike k (vector_of x b xs) (vector_of x b ys)
vector_of_alike x b xs ys t =
    let go : List Given → List ℤ = λ zs. vector_values (kind_in x.what) b (values_of zs) in
    with_all_alike nothing_made x.spot.line xs ys (λ zs. inside (make_vector (go zs))) (λ zs. inside (make_vector (go zs))) t (λ zs. within (make_vector (go zs)) (make_vector (go zs)) (vector_alike (go zs)))

made_vector_alike : {k : Bound} (x : Variable) (i j : Option Initializer) → MaybeInitializer k i j → ExAlike k (made_vector x i) (made_vector x j)
made_vector_alike x None None t = within (make_vector []) (make_vector []) (vector_alike [])
made_vector_alike x None (Some j) t = absurd t
made_vector_alike x (Some i) None t = absurd t
made_vector_alike x (Some (copied a)) (Some (copied b)) t = vector_of_alike x brackets.Parentheses (value a ∷ []) (value b ∷ []) (t, tt)
made_vector_alike x (Some (copied a)) (Some (direct c ys)) t = absurd t
made_vector_alike x (Some (direct b xs)) (Some (copied a)) t = absurd t
made_vector_alike {k} x (Some (direct b xs)) (Some (direct c ys)) t = subst (λ d. ExAlike k (vector_of x b xs) (vector_of x d ys)) t.0 (vector_of_alike x b xs ys t.1)

-- what isn't looked at
other_end : (k : Bound) (l : Live) (w : World) → objects (l ∷ []) ≡ [] → Fine k w → Fine k (kept (Some l) w)
other_end k l w e h = kept_fine k (Some l) None w (sym e) h

pub declare_zero_alike : {k : Bound} (x : Variable) → StAlike k (declare_zero x) (declare_zero x)
declare_zero_alike {k} x r h = declared_alike x nothing_made no_end (gives (pos 0 ∷ []) r) (gives (pos 0 ∷ []) (stretched k r)) (λ o w f. f) (gave h)

pub declare_value_alike : {k : Bound} (x : Variable) (a b : Exp) → Twin k a b → StAlike k (declare_value x a) (declare_value x b)
declare_value_alike {k} x a b t r h = declared_alike x nothing_made no_end (full a r) (full b (stretched k r)) (λ o w f. f) (full_twin a b t r h)

pub declare_object_alike : {k : Bound} (x : Variable) (i j : Option Initializer) → MaybeInitializer k i j → StAlike k (declare_object x i) (declare_object x j)
declare_object_alike {k} x i j t r h =
    declared_alike x (left_of x.what) (live_of x.what) (made_object x i r) (made_object x j (stretched k r)) (kept_left k x.what) (made_object_alike x i j t r h)

pub declare_vector_alike : {k : Bound} (x : Variable) (i j : Option Initializer) → MaybeInitializer k i j → StAlike k (declare_vector x i) (declare_vector x j)
declare_vector_alike {k} x i j t r h =
    declared_alike x nothing_made row_end (made_vector x i r) (made_vector x j (stretched k r)) (λ o w f. other_end k (live.Row (natural 0 o)) w refl f) (made_vector_alike x i j t r h)

pub declare_team_alike : {k : Bound} (x : Variable) → StAlike k (declare_team x) (declare_team x)
declare_team_alike {k} x r h =
    declared_alike x nothing_made team_end (inside make_team r) (inside make_team (stretched k r)) (λ o w f. other_end k (live.Team (natural 0 o)) w refl f) (within make_team make_team team_alike r h)

pub declare_thread_alike : {k : Bound} (x : Variable) (l m : Lambda) → LambdaTwin k l m → StAlike k (declare_thread x l) (declare_thread x m)
declare_thread_alike {k} x l m t =
    subst (λ c. StAlike k (declare_thread x l) (declare_thread x c)) (sym t.is) (λ r h. declared_alike x nothing_made thread_end (spawn x.spot.line l r) (spawn x.spot.line l (stretched k r)) (λ o w f. other_end k (live.Thread (natural 0 o)) w refl f) (spawn_alike x.spot.line l r h))

-- ---- errors

caught_same : {k : Bound} (x : Variable) (u v : St) → StAlike k u v → (f : Flow) (r : Run) → Rests k (flow_stop f) r.world → Alike k flowed (caught x u (f, r)) (caught x v (f, stretched k r))
caught_same x u v p (flow.Threw e l) r h = p (put x.number (error_object e) (lowered r)) h
caught_same x u v p f r h = alike refl h

caught_alike : {k : Bound} (x : Variable) (u v : St) → StAlike k u v → (a b : Flowed) → Alike k flowed a b → Alike k flowed (caught x u a) (caught x v b)
caught_alike {k} x u v p (flow.Stopped a, r) b (cut w l) = cut w l
caught_alike {k} x u v p (f, r) b (cut w l) = absurd w
caught_alike {k} x u v p (f, r) b (alike e h) = subst (λ c. Alike k flowed (caught x u (f, r)) (caught x v c)) e (caught_same x u v p f r h)

pub try_alike : {k : Bound} (f g : St) (x : Variable) (u v : St) → StAlike k f g → StAlike k u v → StAlike k (try_block f x u) (try_block g x v)
try_alike {k} f g x u v p q r h = caught_alike x u v q (f (raised r)) (g (stretched k (raised r))) (p (raised r) h)
