-- Each form of expression is alike, where its parts are.
use Rattle.std.proofs.Common.{ap, arith, refl, subst, sym, ◌∙◌}
use Rattle.std.proofs.lemmas.List.{length-set}
use Rattle.std.specs.List.{list_any}
use Rattle.std.proofs.lemmas.Bool.{eq-eqb, eqb-false, eqb-true}
use Rattle.std.specs.Prelude.{Bool, List, None, Option, Some, [], false, if◌then◌else◌, length, map, take, true, ℕ, ℤ, ◌++◌, ◌+◌, ◌-◌, ◌==◌, ◌||◌, ◌∷◌, ◌≡◌, ◌≤◌, ⊤}
use Rattle.sy_num.specs.Scalars.{Scalar}
use Rattle.sy_num.specs.declared.BinOp.{BinOp}
use Rattle.sy_num.specs.declared.Kind.{Kind}
use Rattle.sy_num.specs.declared.UnOp.{UnOp}
use Rattle.sy_tree.specs.declared.operators.AssignmentOperator.{AssignmentOperator}
use Rattle.sy_tree.specs.declared.operators.Operator.{Operator}
use Rattle.sy_tree.specs.declared.operators.Operator.TheVariants as operator
use Rattle.sy_tree.specs.declared.parts.FunctionObject.{FunctionObject}
use Rattle.sy_tree.specs.declared.parts.Step.{Step as TreeStep}
use Rattle.sy_typed.specs.declared.things.Thing.{Thing}
use Rattle.sy_typed.specs.declared.things.Thing.TheVariants as thing
use Rattle.sy_typed.specs.declared.tree.TypedCapture.{TypedCapture}
use Rattle.sy_typed.specs.declared.tree.TypedCapture.TheVariants as capture
use Rattle.sy_work.specs.declared.asks.Answer.{Answer}
use Rattle.sy_work.specs.declared.asks.Ask.{Ask}
use Rattle.sy_work.specs.declared.asks.Ask.TheVariants as asks
use Rattle.sy_work.specs.declared.asks.Errc.{Errc}
use Rattle.sy_work.specs.declared.asks.Halt.TheVariants as halt
use Rattle.sy_work.specs.declared.asks.Why.TheVariants as why
use Rattle.sy_meaning.specs.declared.outcomes.Evaluated.TheVariants.{Gives, Stopped, Threw}
use Rattle.sy_meaning.specs.declared.outcomes.Flow.{Flow}
use Rattle.sy_meaning.specs.declared.outcomes.Flow.TheVariants as flow
use Rattle.sy_meaning.specs.declared.outcomes.Reply.TheVariants as reply
use Rattle.sy_meaning.specs.declared.runs.Live.{Live}
use Rattle.sy_meaning.specs.declared.runs.Live.TheVariants as live
use Rattle.sy_meaning.specs.declared.runs.Location.{Location}
use Rattle.sy_meaning.specs.declared.runs.Location.TheVariants as location
use Rattle.sy_meaning.specs.declared.runs.Run.{Run}
use Rattle.sy_meaning.specs.declared.runs.Scope.{Scope}
use Rattle.sy_meaning.specs.declared.runs.World.{World}
use Rattle.sy_meaning.specs.Words.{Object, accessor_first, accessor_owner, element_index, element_vector, kind_in, natural, nothing, queue_number}
use Rattle.sy_meaning.specs.Frame.{access_at, first_scope, give_back, group_of, is_joined, living, local, no_longer, outer, put_access, put_values, row_at, with_first, with_living}
use Rattle.sy_meaning.specs.Asks.{EndsLast, Fits, Log, is_fresh, is_same, openings, there, without}
use Rattle.sy_meaning.specs.Turns.{Waits, flow_stop}
use Rattle.sy_meaning.specs.Outcomes.{Ex, Flowed, Replied, St, Valued, ask, contents_of, each, gives, inside, on_turn, turn}
use Rattle.sy_meaning.specs.Ends.{Ended, after_end, all_joined, close_flow, close_value, end_each, end_one, end_scope, ended_flow, ended_value, in_full, in_new, in_scope, joinable, then_end}
use Rattle.sy_meaning.specs.Locations.{load, read_area, read_element, store, write_area, write_element}
use Rattle.sy_meaning.specs.Combining.{combines}
use Rattle.sy_meaning.specs.Expressions.{Calls, Exp, Lambda, assigned, assignment, binary, call, cast, conditional, full, indexed, located, logical_and, logical_or, plain, postfix_step, prefix_step, reduction_assigned, reference, run_of, strict, subscript, unary}
use Rattle.sy_meaning.specs.Lambdas.{all_words, captured, captures_of, emplace_back, in_group, put_thread, sent, spawn, spawned, submit, submitted}
use Rattle.sy_meaning.proofs.AlikeLemmas.{AfterAsk, Alike, AllAlike, Bound, ExAlike, ExMakes, Fine, FineAt, Fresh, ListAlike, Rests, StAlike, Tracks, alike, asking_at, chosen, computing, cut, each_alike, ending, flowed, gave, goes, halts_there, held, in_run, lists, longer, making, nothing_made, objects, replied, spent_at, standing, stretched, valued, within}
use Rattle.sy_meaning.proofs.AlikeMakingLemmas.{index_alike, put_thread_alike, read_area_alike, read_element_alike, sent_alike, spawned_alike, write_area_alike, write_element_alike}

-- ---- ends

then_end_alike : {k : Bound} (p : Option Live) (ss us : List Scope) (a b : Ended) (go on : World → Ended) → Alike k (ending p ss) a b → ((w : World) → FineAt k p [] w → w.scopes ≡ ss → Alike k (ending p us) (go w) (on (longer k w))) → Alike k (ending p us) (then_end a go) (then_end b on)
then_end_alike {k} p ss us (None, w) b go on (cut v l) q = absurd v
then_end_alike {k} p ss us (None, w) b go on (alike e h) q = subst (λ c. Alike k (ending p us) (go w) (then_end c on)) e (q w h.0 h.1)
then_end_alike {k} p ss us (Some a, w) b go on (cut v l) q = cut v l
then_end_alike {k} p ss us (Some a, w) b go on (alike e h) q = alike (ap (λ c. then_end c on) e) h

-- what is at its end is the last made, or the last but one
or_true : (c : Bool) → (c || true) ≡ true
or_true true = refl
or_true false = refl

first_ends : (x : Live) (ys : List Live) (c : Bool) → is_same x x ≡ true → list_any (is_same x) (take (if c then 2 else 1) (x ∷ ys)) ≡ true
first_ends x ys true e = ap (λ c. c || list_any (is_same x) (take 1 ys)) e
first_ends x ys false e = ap (λ c. c || false) e

second_ends : (x y : Live) (ys : List Live) → is_same x x ≡ true → list_any (is_same x) (take 2 (y ∷ x ∷ ys)) ≡ true
second_ends x y ys e = ap (λ c. is_same x y || (c || false)) e ∙ or_true (is_same x y)

last_ends : (x : Live) (p : Option Live) (log : Log) (ys : List Live) → is_same x x ≡ true → Fresh p log → EndsLast (Some x) (is_fresh log) (held p ++ (x ∷ ys))
last_ends x None log ys e f = first_ends x ys (is_fresh log) e
last_ends x (Some y) log ys e f = subst (λ c. EndsLast (Some x) c (y ∷ x ∷ ys)) (sym f) (second_ends x y ys e)

fresh_kept : (p : Option Live) (old new : Log) → is_fresh new ≡ is_fresh old → Fresh p old → Fresh p new
fresh_kept None old new e h = tt
fresh_kept (Some x) old new e h = e ∙ h

same_is : (x y : Live) → is_same x y ≡ true → x ≡ y
same_is (live.Buffer b) (live.Buffer c) e = ap (λ n. live.Buffer n) (eqb-true b c e)
same_is (live.Access a) (live.Access b) e = ap (λ n. live.Access n) (eqb-true a b e)
same_is x y e = absurd cc

taken_first : (x : Live) (ys : List Live) (c : Bool) → c ≡ true → (if c then ys else x ∷ without (Some x) ys) ≡ ys
taken_first x ys true e = refl
taken_first x ys false e = absurd cc

taken_second : (x y : Live) (ys : List Live) (c : Bool) → (c ≡ true → x ≡ y) → without (Some x) (x ∷ ys) ≡ ys → (if c then x ∷ ys else y ∷ without (Some x) (x ∷ ys)) ≡ y ∷ ys
taken_second x y ys true f e = ap (λ z. z ∷ ys) (f refl)
taken_second x y ys false f e = ap (λ zs. y ∷ zs) e

without_it : (x : Live) (p : Option Live) (ys : List Live) → is_same x x ≡ true → without (Some x) (held p ++ (x ∷ ys)) ≡ held p ++ ys
without_it x None ys e = taken_first x ys (is_same x x) e
without_it x (Some y) ys e = taken_second x y ys (is_same x y) (same_is x y) (taken_first x ys (is_same x x) e)

fits_end : (c : Bool) (x : Live) (p : Option Live) (log : Log) (scopes : List Scope) (n : ℕ) → is_same x x ≡ true → Tracks c p (x ∷ []) log scopes n → c ≡ true → EndsLast (Some x) (is_fresh log) (there log)
fits_end true x p log scopes n e h t = subst (λ ys. EndsLast (Some x) (is_fresh log) ys) (sym h.0) (last_ends x p log (standing scopes) e h.3)
fits_end false x p log scopes n e h t = absurd cc

-- after the answer to an ask that ends this one
ended_tracks : (c : Bool) (q : Ask) (y : Answer) (x : Live) (p : Option Live) (log : Log) (scopes : List Scope) (n : ℕ) → is_same x x ≡ true → ((before : Log) → there ((q, y) ∷ before) ≡ without (Some x) (there before)) → ((before : Log) → openings ((q, y) ∷ before) ≡ openings before) → ((before : Log) → is_fresh ((q, y) ∷ before) ≡ is_fresh before) → AfterAsk c q y log scopes n p (x ∷ []) → Tracks c p [] log scopes n
ended_tracks false q y x p log scopes n e f g i h = tt
ended_tracks true q y x p log scopes n e f g i (before, is, old, fits) =
    subst (λ l. Tracks true p [] l scopes n) (sym is) (f before ∙ (ap (without (Some x)) old.0 ∙ without_it x p (standing scopes) e), old.1 ∙ sym (g before), (fits, old.2), fresh_kept p before ((q, y) ∷ before) (i before) old.3)

after_end_alike : {k : Bound} (line : ℕ) (q : Ask) (x : Live) (p : Option Live) (w : World) (go : List ℤ → World → World) → Waits (Some q) → is_same x x ≡ true → ((k.tracked ≡ true) → Fits w.asked q) → ((y : Answer) (before : Log) → there ((q, y) ∷ before) ≡ without (Some x) (there before)) → ((y : Answer) (before : Log) → openings ((q, y) ∷ before) ≡ openings before) → ((y : Answer) (before : Log) → is_fresh ((q, y) ∷ before) ≡ is_fresh before) → ((zs : List ℤ) (v : World) → FineAt k p [] v → FineAt k p [] (go zs v)) → ((zs : List ℤ) (v : World) → (go zs v).scopes ≡ v.scopes) → ((zs : List ℤ) (v : World) → longer k (go zs v) ≡ go zs (longer k v)) → FineAt k p (x ∷ []) w → Alike k (ending p w.scopes) (after_end (ask line q w) go) (after_end (ask line q (longer k w)) go)
after_end_alike {k} line q x p w go i e fits f g fresh fine scopes same h = replies (ask line q w) (ask line q (longer k w)) (asking_at line q p (x ∷ []) w i fits h)
  where
    replies : (a b : Replied) → Alike k (replied q p (x ∷ []) w.scopes) a b → Alike k (ending p w.scopes) (after_end a go) (after_end b go)
    replies (reply.Answered y, u) b (cut v l) = absurd v
    replies (reply.Answered y, u) b (alike z r) =
        let zs = contents_of y in
        let there_now : FineAt k p [] u = (r.0, ended_tracks k.tracked q y x p u.asked u.scopes (length u.accesses) e (f y) (g y) (fresh y) r.1) in
        let on : World → Ended = λ v. (None, v) in
        let shown : Alike k (ending p w.scopes) (None, go zs u) (None, go zs (longer k u)) = alike (ap on (same zs u)) (fine zs u there_now, scopes zs u ∙ r.2) in
        subst (λ c. Alike k (ending p w.scopes) (None, go zs u) (after_end c go)) z shown
    replies (reply.Stopped a, u) b (cut v l) = cut v l
    replies (reply.Stopped a, u) b (alike z r) = alike (ap (λ c. after_end c go) z) r

joinable_alike : {k : Bound} (p : Option Live) (w : World) → FineAt k p [] w → Alike k (ending p w.scopes) (joinable w) (joinable (longer k w))
joinable_alike {k} p w h = alike refl (halts_there k.tracked (halt.Terminated why.Joinable) w.asked p [] w.scopes (length w.accesses) h.1)

closed_fine : (k : Bound) (p : Option Live) (a : ℕ) (w : World) → FineAt k p [] w → FineAt k p [] (put_access a [] w)
closed_fine k p a w h =
    (h.0, subst (λ m. Tracks k.tracked p [] w.asked w.scopes m) (sym (length-set w.accesses a [])) h.1)

end_one_alike : {k : Bound} (line : ℕ) (x : Live) (p : Option Live) (w : World) → FineAt k p (objects (x ∷ [])) w → Alike k (ending p w.scopes) (end_one line x w) (end_one line x (longer k w))
end_one_alike line (live.Row v) p w h = alike refl (h, refl)
end_one_alike {k} line (live.Team v) p w h =
    chosen (all_joined (row_at v w).values w) (None, put_values v [] w) (joinable w) (None, put_values v [] (longer k w)) (joinable (longer k w)) (alike refl (h, refl)) (joinable_alike p w h)
end_one_alike {k} line (live.Thread t) p w h =
    chosen (is_joined t w) (None, w) (joinable w) (None, longer k w) (joinable (longer k w)) (alike refl (h, refl)) (joinable_alike p w h)
end_one_alike {k} line (live.Buffer b) p w h =
    let itself = eq-eqb b b refl in
    after_end_alike line (asks.EndBuffer b) (live.Buffer b) p w (give_back b) tt itself (fits_end k.tracked (live.Buffer b) p w.asked w.scopes (length w.accesses) itself h.1) (λ y before. refl) (λ y before. refl) (λ y before. refl) (λ zs v f. f) (λ zs v. refl) (λ zs v. refl) h
end_one_alike {k} line (live.Access a) p w h =
    let itself = eq-eqb a a refl in
    after_end_alike line (asks.CloseHost a (access_at a w)) (live.Access a) p w (λ zs. put_access a []) tt itself (fits_end k.tracked (live.Access a) p w.asked w.scopes (length w.accesses) itself h.1) (λ y before. refl) (λ y before. refl) (λ y before. refl) (λ zs v f. closed_fine k p a v f) (λ zs v. refl) (λ zs v. refl) h

-- the innermost scope without its last made
popped_stands : (x : Live) (xs : List Live) (ss : List Scope) → first_scope ss ≡ x ∷ xs → standing ss ≡ objects (x ∷ []) ++ standing (with_first xs ss)
popped_stands x xs [] e = absurd cc
popped_stands (live.Buffer b) xs (s ∷ ss) e = ap (λ ys. objects ys ++ standing ss) e
popped_stands (live.Access a) xs (s ∷ ss) e = ap (λ ys. objects ys ++ standing ss) e
popped_stands (live.Row v) xs (s ∷ ss) e = ap (λ ys. objects ys ++ standing ss) e
popped_stands (live.Team v) xs (s ∷ ss) e = ap (λ ys. objects ys ++ standing ss) e
popped_stands (live.Thread t) xs (s ∷ ss) e = ap (λ ys. objects ys ++ standing ss) e

popped_tracks : (c : Bool) (p : Option Live) (x : Live) (xs : List Live) (log : Log) (ss : List Scope) (n : ℕ) → first_scope ss ≡ x ∷ xs → Tracks c p [] log ss n → Tracks c p (objects (x ∷ [])) log (with_first xs ss) n
popped_tracks false p x xs log ss n e h = tt
popped_tracks true p x xs log ss n e h = (h.0 ∙ ap (λ ys. held p ++ ys) (popped_stands x xs ss e), h.1, h.2, h.3)

first_of_with : (xs : List Live) (ss : List Scope) → first_scope (with_first xs ss) ≡ xs
first_of_with xs [] = refl
first_of_with xs (s ∷ ss) = refl

outer_of_with : (xs : List Live) (ss : List Scope) → outer (with_first xs ss) ≡ outer ss
outer_of_with xs [] = refl
outer_of_with xs (s ∷ ss) = refl

left_stands : (ss : List Scope) → first_scope ss ≡ [] → standing ss ≡ standing (outer ss)
left_stands [] e = refl
left_stands (s ∷ ss) e = ap (λ ys. objects ys ++ standing ss) e

left_tracks : (c : Bool) (p : Option Live) (log : Log) (ss : List Scope) (n : ℕ) → first_scope ss ≡ [] → Tracks c p [] log ss n → Tracks c p [] log (outer ss) n
left_tracks false p log ss n e h = tt
left_tracks true p log ss n e h = (h.0 ∙ ap (λ ys. held p ++ ys) (left_stands ss e), h.1, h.2, h.3)

end_each_alike : {k : Bound} (line : ℕ) (p : Option Live) (xs : List Live) (w : World) → first_scope w.scopes ≡ xs → FineAt k p [] w → Alike k (ending p (outer w.scopes)) (end_each line xs w) (end_each line xs (longer k w))
end_each_alike {k} line p [] w e h = alike refl ((h.0, left_tracks k.tracked p w.asked w.scopes (length w.accesses) e h.1), refl)
end_each_alike {k} line p (x ∷ xs) w e h =
    let v : World = with_living xs w in
    let ready : FineAt k p (objects (x ∷ [])) v = (h.0, popped_tracks k.tracked p x xs w.asked w.scopes (length w.accesses) e h.1) in
    then_end_alike p v.scopes (outer w.scopes) (end_one line x v) (end_one line x (longer k v)) (end_each line xs) (end_each line xs) (end_one_alike line x p v ready) (λ u f z. subst (λ ss. Alike k (ending p ss) (end_each line xs u) (end_each line xs (longer k u))) (ap outer z ∙ outer_of_with xs w.scopes) (end_each_alike line p xs u (ap first_scope z ∙ first_of_with xs w.scopes) f))

end_scope_alike : {k : Bound} (line : ℕ) (p : Option Live) (w : World) → FineAt k p [] w → Alike k (ending p (outer w.scopes)) (end_scope line w) (end_scope line (longer k w))
end_scope_alike line p w h = end_each_alike line p (living w) w refl h

ended_value_alike : {k : Bound} (made : Object → Option Live) (o : Object) (r : Run) (ss : List Scope) (a b : Ended) → Alike k (ending (made o) ss) a b → Alike k (making made) (ended_value (Gives o) r a) (ended_value (Gives o) (stretched k r) b)
ended_value_alike {k} made o r ss (None, w) b (cut z l) = absurd z
ended_value_alike {k} made o r ss (None, w) b (alike e h) = alike (ap (λ c. ended_value (Gives o) (stretched k r) c) e) h.0
ended_value_alike {k} made o r ss (Some a, w) b (cut z l) = cut z l
ended_value_alike {k} made o r ss (Some a, w) b (alike e h) = alike (ap (λ c. ended_value (Gives o) (stretched k r) c) e) h

ended_error_alike : {k : Bound} (made : Object → Option Live) (x : Errc) (n : ℕ) (r : Run) (ss : List Scope) (a b : Ended) → Alike k (ending None ss) a b → Alike k (making made) (ended_value (Threw x n) r a) (ended_value (Threw x n) (stretched k r) b)
ended_error_alike {k} made x n r ss (None, w) b (cut z l) = absurd z
ended_error_alike {k} made x n r ss (None, w) b (alike e h) = alike (ap (λ c. ended_value (Threw x n) (stretched k r) c) e) h.0
ended_error_alike {k} made x n r ss (Some a, w) b (cut z l) = cut z l
ended_error_alike {k} made x n r ss (Some a, w) b (alike e h) = alike (ap (λ c. ended_value (Threw x n) (stretched k r) c) e) h

close_value_alike : {k : Bound} (made : Object → Option Live) (line : ℕ) (a b : Valued) → Alike k (making made) a b → Alike k (making made) (close_value line a) (close_value line b)
close_value_alike {k} made line (Gives o, r) b (cut z l) = absurd z
close_value_alike {k} made line (Gives o, r) b (alike e h) = subst (λ c. Alike k (making made) (close_value line (Gives o, r)) (close_value line c)) e (ended_value_alike made o r (outer r.world.scopes) (end_scope line r.world) (end_scope line (longer k r.world)) (end_scope_alike line (made o) r.world h))
close_value_alike {k} made line (Threw x n, r) b (cut z l) = absurd z
close_value_alike {k} made line (Threw x n, r) b (alike e h) = subst (λ c. Alike k (making made) (close_value line (Threw x n, r)) (close_value line c)) e (ended_error_alike made x n r (outer r.world.scopes) (end_scope n r.world) (end_scope n (longer k r.world)) (end_scope_alike n None r.world h))
close_value_alike {k} made line (Stopped a, r) b (cut z l) = cut z l
close_value_alike {k} made line (Stopped a, r) b (alike e h) = alike (ap (λ c. close_value line c) e) h

-- where no ask stopped the statement
abbrev NotStopped : Flow → Type 0
NotStopped (flow.Stopped a) = ⊥
NotStopped f = ⊤

ended_rests : (k : Bound) (f : Flow) (w : World) → NotStopped f → Fine k w → Rests k (flow_stop f) w
ended_rests k (flow.Stopped a) w n h = absurd n
ended_rests k f w n h = h

ended_flow_alike : {k : Bound} (f : Flow) (r : Run) (ss : List Scope) (a b : Ended) → NotStopped f → Alike k (ending None ss) a b → Alike k flowed (ended_flow f r a) (ended_flow f (stretched k r) b)
ended_flow_alike {k} f r ss (None, w) b n (cut z l) = absurd z
ended_flow_alike {k} f r ss (None, w) b n (alike e h) = alike (ap (λ c. ended_flow f (stretched k r) c) e) (ended_rests k f w n h.0)
ended_flow_alike {k} f r ss (Some a, w) b n (cut z l) = cut z l
ended_flow_alike {k} f r ss (Some a, w) b n (alike e h) = alike (ap (λ c. ended_flow f (stretched k r) c) e) h

-- where the line is told by how the scope is left
closed_at : {k : Bound} (n : ℕ) (f : Flow) (r : Run) → NotStopped f → Fine k r.world → Alike k flowed (ended_flow f r (end_scope n r.world)) (ended_flow f (stretched k r) (end_scope n (longer k r.world)))
closed_at {k} n f r z h = ended_flow_alike f r (outer r.world.scopes) (end_scope n r.world) (end_scope n (longer k r.world)) z (end_scope_alike n None r.world h)

close_same : {k : Bound} (line : ℕ) (f : Flow) (r : Run) → Rests k (flow_stop f) r.world → Alike k flowed (close_flow line (f, r)) (close_flow line (f, stretched k r))
close_same line flow.Normal r h = closed_at line flow.Normal r tt h
close_same line (flow.Broke n) r h = closed_at n (flow.Broke n) r tt h
close_same line (flow.Continued n) r h = closed_at n (flow.Continued n) r tt h
close_same line (flow.Returned o n) r h = closed_at n (flow.Returned o n) r tt h
close_same line (flow.Threw x n) r h = closed_at n (flow.Threw x n) r tt h
close_same line (flow.Stopped a) r h = alike refl h

close_flow_alike : {k : Bound} (line : ℕ) (a b : Flowed) → Alike k flowed a b → Alike k flowed (close_flow line a) (close_flow line b)
close_flow_alike {k} line (flow.Stopped a, r) b (cut z l) = cut z l
close_flow_alike {k} line (f, r) b (cut z l) = absurd z
close_flow_alike {k} line (f, r) b (alike e h) = subst (λ c. Alike k flowed (close_flow line (f, r)) (close_flow line c)) e (close_same line f r h)

-- a new scope is empty
new_tracks : (c : Bool) (log : Log) (ss : List Scope) (n : ℕ) → Tracks c None [] log ss n → Tracks c None [] log (record { live = [] } ∷ ss) n
new_tracks false log ss n h = tt
new_tracks true log ss n h = h

new_fine : (k : Bound) (r : Run) → Fine k r.world → Fine k (in_new r).world
new_fine k r h = (h.0, new_tracks k.tracked r.world.asked r.world.scopes (length r.world.accesses) h.1)

pub in_scope_alike : {k : Bound} (line : ℕ) (f g : St) → StAlike k f g → StAlike k (in_scope line f) (in_scope line g)
in_scope_alike {k} line f g p r h = close_flow_alike line (f (in_new r)) (g (stretched k (in_new r))) (p (in_new r) (new_fine k r h))

pub in_full_made : {k : Bound} (made : Object → Option Live) (makes : Bool) (line : ℕ) (f g : Ex) → ExMakes k made f g → ExMakes k made (in_full makes line f) (in_full makes line g)
in_full_made {k} made true line f g p r h = close_value_alike made line (f (in_new r)) (g (stretched k (in_new r))) (p (in_new r) (new_fine k r h))
in_full_made made false line f g p r h = p r h

pub in_full_alike : {k : Bound} (makes : Bool) (line : ℕ) (f g : Ex) → ExAlike k f g → ExAlike k (in_full makes line f) (in_full makes line g)
in_full_alike makes line f g p = in_full_made nothing_made makes line f g p

-- ---- lvalues

pub load_alike : {beyond : Bound} (line : ℕ) (k : Kind) (l : Location) (o : Object) → ExAlike beyond (load line k l o) (load line k l o)
load_alike line k location.Nowhere o r h = gave h
load_alike line k (location.Local n) o r h = gave h
load_alike line k location.Element o r h = within (read_element line k (element_vector o) (element_index o)) (read_element line k (element_vector o) (element_index o)) (read_element_alike line k (element_vector o) (element_index o)) r h
load_alike line k (location.Cell a) o r h = within (read_area line k a (accessor_owner o) (accessor_first o)) (read_area line k a (accessor_owner o) (accessor_first o)) (read_area_alike line k a (accessor_owner o) (accessor_first o)) r h

pub store_alike : {beyond : Bound} (line : ℕ) (l : Location) (o : Object) (s : Scalar) → ExAlike beyond (store line l o s) (store line l o s)
store_alike line location.Nowhere o s r h = gave h
store_alike line (location.Local n) o s r h = gave h
store_alike line location.Element o s r h = within (write_element line (element_vector o) (element_index o) s) (write_element line (element_vector o) (element_index o) s) (write_element_alike line (element_vector o) (element_index o) s) r h
store_alike line (location.Cell a) o s r h = within (write_area line a (accessor_owner o) (accessor_first o) s) (write_area line a (accessor_owner o) (accessor_first o) s) (write_area_alike line a (accessor_owner o) (accessor_first o) s) r h

ruleset parts = (goes, lists, gave, computing, load_alike, store_alike, chosen)

pub combines_alike : {beyond : Bound} (f : FunctionObject) (k : Kind) (line : ℕ) (a : Location) (p : Object) (x : Scalar) → ExAlike beyond (combines f k line a p x) (combines f k line a p x)
combines_alike f k line a p x r h = search parts

-- ---- expressions: two that are the same but for what their parts mean

abbrev pub with_runs : Exp → Ex → Ex → Exp
with_runs e locate run = record e { locate = locate; run = run }

pub record Twin (k : Bound) (a b : Exp) : Type 0 where
  pub locate : Ex
  pub run : Ex
  pub is : b ≡ with_runs a locate run
  pub locates : ExAlike k a.locate locate
  pub runs : ExAlike k a.run run

pub plain_twin : {k : Bound} (t : Thing) (line last : ℕ) (makes : Bool) (f g : Ex) → ExAlike k f g → Twin k (plain t line last makes f) (plain t line last makes g)
plain_twin t line last makes f g p = record { locate = g; run = g; is = refl; locates = p; runs = p }

abbrev pub AllTwins : Bound → List Exp → List Exp → Type 0
AllTwins k [] [] = ⊤
AllTwins k [] (f ∷ fs) = ⊥
AllTwins k (e ∷ es) [] = ⊥
AllTwins k (e ∷ es) (f ∷ fs) = Twin k e f × AllTwins k es fs

pub runs_is : {k : Bound} (a b : Exp) (t : Twin k a b) → ExAlike k a.run b.run
runs_is {k} a b t = subst (λ c. ExAlike k a.run c.run) (sym t.is) t.runs

pub runs_alike : (k : Bound) (es fs : List Exp) → AllTwins k es fs → AllAlike k (map run_of es) (map run_of fs)
runs_alike k [] [] p = p
runs_alike k [] (f ∷ fs) p = absurd p
runs_alike k (e ∷ es) [] p = absurd p
runs_alike k (e ∷ es) (f ∷ fs) p = (runs_is e f p.0, runs_alike k es fs p.1)

pub full_alike : {k : Bound} (e : Exp) (l x : Ex) → ExAlike k e.run x → ExAlike k (full e) (full (with_runs e l x))
full_alike e l x p = in_full_alike e.makes e.last e.run x p

pub located_twin : {k : Bound} (t : Thing) (line last : ℕ) (makes : Bool) (l : Location) (f g : Ex) → ExAlike k f g → Twin k (located t line last makes l f) (located t line last makes l g)
located_twin {k} t line last makes l f g p =
    record { locate = g; run = (located t line last makes l g).run; is = refl; locates = p; runs = λ r h. search (parts, p) }

pub indexed_twin : {k : Bound} (t : Thing) (line last : ℕ) (makes : Bool) (l : Location) (f g : Ex) → ExAlike k f g → Twin k (indexed t line last makes l f) (indexed t line last makes l g)
indexed_twin (thing.Integer k) line last makes l f g p = located_twin (thing.Integer k) line last makes l f g p
indexed_twin t line last makes l f g p = record { locate = g; run = g; is = refl; locates = p; runs = p }

pub reference_twin : {beyond : Bound} (t : Thing) (line n : ℕ) → Twin beyond (reference t line n) (reference t line n)
reference_twin (thing.Integer k) line n = located_twin (thing.Integer k) line line false location.Element (λ r. gives (local n r) r) (λ r. gives (local n r) r) (λ r h. gave h)
reference_twin t line n = located_twin t line line false (location.Local n) (gives nothing) (gives nothing) (λ r h. gave h)

strict_alike : {k : Bound} (op : BinOp) (line : ℕ) (a b : Exp) (l x m y : Ex) → ExAlike k a.run x → ExAlike k b.run y → ExAlike k (strict op line a b) (strict op line (with_runs a l x) (with_runs b m y))
strict_alike op line a b l x m y p q r h = search (parts, p, q)

and_alike : {k : Bound} (a b : Exp) (l x m y : Ex) → ExAlike k a.run x → ExAlike k b.run y → ExAlike k (logical_and a b) (logical_and (with_runs a l x) (with_runs b m y))
and_alike a b l x m y p q r h = search (parts, p, q)

or_alike : {k : Bound} (a b : Exp) (l x m y : Ex) → ExAlike k a.run x → ExAlike k b.run y → ExAlike k (logical_or a b) (logical_or (with_runs a l x) (with_runs b m y))
or_alike a b l x m y p q r h = search (parts, p, q)

pub binary_alike : {k : Bound} (op : Operator) (line : ℕ) (a b : Exp) (l x m y : Ex) → ExAlike k a.run x → ExAlike k b.run y → ExAlike k (binary op line a b) (binary op line (with_runs a l x) (with_runs b m y))
binary_alike (operator.Strict op) line a b l x m y p q = strict_alike op line a b l x m y p q
binary_alike operator.LogicalAnd line a b l x m y p q = and_alike a b l x m y p q
binary_alike operator.LogicalOr line a b l x m y p q = or_alike a b l x m y p q

pub unary_alike : {k : Bound} (op : UnOp) (line : ℕ) (a : Exp) (l x : Ex) → ExAlike k a.run x → ExAlike k (unary op line a) (unary op line (with_runs a l x))
unary_alike op line a l x p r h = search (parts, p)

pub conditional_alike : {k : Bound} (t : Thing) (c a b : Exp) (l x m y n z : Ex) → ExAlike k c.run x → ExAlike k a.run y → ExAlike k b.run z → ExAlike k (conditional t c a b) (conditional t (with_runs c l x) (with_runs a m y) (with_runs b n z))
conditional_alike t c a b l x m y n z o p q r h = search (parts, o, p, q)

pub cast_alike : {k : Bound} (t : Thing) (a : Exp) (l x : Ex) → ExAlike k a.run x → ExAlike k (cast t a) (cast t (with_runs a l x))
cast_alike t a l x p r h = search (parts, p)

assigned_alike : {k : Bound} (o : Option BinOp) (line : ℕ) (a b : Exp) (l x m y : Ex) → ExAlike k a.locate l → ExAlike k b.run y → ExAlike k (assigned o line a b) (assigned o line (with_runs a l x) (with_runs b m y))
assigned_alike None line a b l x m y p q r h = search (parts, p, q)
assigned_alike (Some op) line a b l x m y p q r h = search (parts, p, q)

reduction_assigned_alike : {k : Bound} (f : FunctionObject) (line : ℕ) (a b : Exp) (l x m y : Ex) → ExAlike k a.locate l → ExAlike k b.run y → ExAlike k (reduction_assigned f line a b) (reduction_assigned f line (with_runs a l x) (with_runs b m y))
reduction_assigned_alike f line a b l x m y p q r h = search (parts, combines_alike, p, q)

pub assignment_alike : {k : Bound} (t : Thing) (op : AssignmentOperator) (line : ℕ) (a b : Exp) (l x m y : Ex) → ExAlike k a.locate l → ExAlike k b.run y → ExAlike k (assignment t op line a b) (assignment t op line (with_runs a l x) (with_runs b m y))
assignment_alike (thing.Reducer k f) op line a b l x m y p q = reduction_assigned_alike f line a b l x m y p q
assignment_alike t op line a b l x m y p q = assigned_alike _ line a b l x m y p q

pub prefix_alike : {k : Bound} (s : TreeStep) (line : ℕ) (a : Exp) (l x : Ex) → ExAlike k a.locate l → ExAlike k (prefix_step s line a) (prefix_step s line (with_runs a l x))
prefix_alike s line a l x p r h = search (parts, p)

pub postfix_alike : {k : Bound} (s : TreeStep) (line : ℕ) (a : Exp) (l x : Ex) → ExAlike k a.locate l → ExAlike k (postfix_step s line a) (postfix_step s line (with_runs a l x))
postfix_alike s line a l x p r h = search (parts, p)

pub subscript_alike : {k : Bound} (line : ℕ) (a i : Exp) (l x m y : Ex) → ExAlike k a.run x → ExAlike k i.run y → ExAlike k (subscript line a i) (subscript line (with_runs a l x) (with_runs i m y))
subscript_alike line a i l x m y p q r h = search (parts, within, index_alike, p, q)

-- ---- calls: those of the first run and of the second, with a turn less

abbrev pub CallsAlike : Bound → Calls → Calls → Type 0
CallsAlike k c d =
    (f : ℕ) (os : List Object) (r : Run) → r.world.turns + 1 ≤ k.turns → Fine k r.world → Alike k valued (c f os r) (d f os (stretched k r))

by_turn : {k : Bound} (c d : Calls) → CallsAlike k c d → (line f : ℕ) (os : List Object) (r : Run) (b : Bool) → (b ≡ false → r.world.turns ≡ 0 → ⊥) → Fine k r.world → Alike k valued (on_turn line r (if b then (false, r.world) else (true, record (r.world) { turns = r.world.turns - 1 })) (c f os)) (on_turn line (stretched k r) (if b then (false, longer k r.world) else (true, record (longer k r.world) { turns = r.world.turns - 1 })) (d f os))
by_turn {k} c d p line f os r true z h = alike refl (spent_at k line None [] r.world h)
by_turn c d p line f os r false z h =
    p f os (record r { world = record (r.world) { turns = r.world.turns - 1 } }) (omega (arith, h.0, z refl)) (omega (arith, h.0), h.1)

pub call_alike : {k : Bound} (c d : Calls) → CallsAlike k c d → (line f : ℕ) (es fs : List Exp) → AllTwins k es fs → ExAlike k (call c line f es) (call d line f fs)
call_alike {k} c d p line f es fs q r h =
    lists (each (map run_of es) r) (each (map run_of fs) (stretched k r)) (λ os r. on_turn line r (turn r.world) (c f os)) (λ os r. on_turn line r (turn r.world) (d f os)) (each_alike (map run_of es) (map run_of fs) (runs_alike k es fs q) r h) (λ os s g. by_turn c d p line f os s (s.world.turns == 0) (λ a b. eqb-false s.world.turns 0 a b) g)

-- ---- lambdas

captured_alike : {k : Bound} (line : ℕ) (c : TypedCapture) → ExAlike k (captured line c) (captured line c)
captured_alike line (capture.Reference x) r h = gave h
captured_alike line (capture.Copy x) r h = gave h
captured_alike line (capture.Element x) r h = load_alike line (kind_in x.what) location.Element (local x.number r) r h

all_captured : (k : Bound) (line : ℕ) (cs : List TypedCapture) → AllAlike k (map (captured line) cs) (map (captured line) cs)
all_captured k line [] = tt
all_captured k line (c ∷ cs) = (captured_alike line c, all_captured k line cs)

pub captures_alike : {k : Bound} (l : Lambda) → ListAlike k (captures_of l) (captures_of l)
captures_alike {k} l r h = each_alike (map (captured l.spot.line) l.captures) (map (captured l.spot.line) l.captures) (all_captured k l.spot.line l.captures) r h

pub spawn_alike : {k : Bound} (line : ℕ) (l : Lambda) → ExAlike k (spawn line l) (spawn line l)
spawn_alike {k} line l r h =
    lists (captures_of l r) (captures_of l (stretched k r)) (λ os. inside (spawned line l.number (all_words os))) (λ os. inside (spawned line l.number (all_words os))) (captures_alike l r h) (λ os s g. within (spawned line l.number (all_words os)) (spawned line l.number (all_words os)) (spawned_alike line l.number (all_words os)) s g)

pub emplace_alike : {k : Bound} (line : ℕ) (l : Lambda) (o : Object) → ExAlike k (emplace_back line l o) (emplace_back line l o)
emplace_alike {k} line l o r h =
    goes (spawn line l r) (spawn line l (stretched k r)) (λ t. inside (put_thread (natural 0 o) t)) (λ t. inside (put_thread (natural 0 o) t)) (spawn_alike line l r h) (λ t s g. within (put_thread (natural 0 o) t) (put_thread (natural 0 o) t) (put_thread_alike (natural 0 o) t) s g)

submitted_same : {k : Bound} (line q : ℕ) (f : Flow) (r : Run) → Rests k (flow_stop f) r.world → Alike k valued (submitted line q (f, r)) (submitted line q (f, stretched k r))
submitted_same line q (flow.Threw x l) r h = alike refl h
submitted_same line q (flow.Stopped a) r h = alike refl h
submitted_same {k} line q f r h = in_run nothing_made (sent line q (group_of r.world) (group_of r.world).command (no_longer r.world)) (sent line q (group_of r.world) (group_of r.world).command (no_longer (longer k r.world))) r (sent_alike line q (group_of r.world) (group_of r.world).command (no_longer r.world) h)

submitted_alike : {k : Bound} (line q : ℕ) (a b : Flowed) → Alike k flowed a b → Alike k valued (submitted line q a) (submitted line q b)
submitted_alike {k} line q (flow.Stopped a, r) b (cut z l) = cut z l
submitted_alike {k} line q (f, r) b (cut z l) = absurd z
submitted_alike {k} line q (f, r) b (alike e h) = subst (λ c. Alike k valued (submitted line q (f, r)) (submitted line q c)) e (submitted_same line q f r h)

pub submit_alike : {k : Bound} (line : ℕ) (l : Lambda) (g : St) (o : Object) → StAlike k l.body.run g → ExAlike k (submit line l o) (submit line (record l { body = record (l.body) { run = g } }) o)
submit_alike {k} line l g o p r h =
    submitted_alike line (queue_number o) (l.body.run (in_group r)) (g (stretched k (in_group r))) (p (in_group r) h)
