-- What a body means is the same however deep its calls may go, and more answers change nothing after its end.
use Rattle.std.proofs.Common.{ap, arith, refl, subst, sym, ◌∙◌}
use Rattle.std.specs.Prelude.{Bool, false, List, None, Option, Some, [], pos, reverse, slice_get, suc, zero, ℕ, ℤ, ◌++◌, ◌+◌, ◌-◌, ◌∷◌, ◌≡◌, ◌≤◌}
use Rattle.sy_num.specs.declared.Kind.{Kind}
use Rattle.sy_range.specs.declared.nd_ranges.Position.{Position}
use Rattle.sy_typed.specs.declared.things.Thing.{Thing}
use Rattle.sy_typed.specs.declared.things.Thing.TheVariants as thing
use Rattle.sy_typed.specs.declared.tree.Variable.{Variable}
use Rattle.sy_work.specs.declared.asks.Answer.{Answer}
use Rattle.sy_work.specs.declared.asks.Ask.{Ask}
use Rattle.sy_work.specs.declared.asks.Ask.TheVariants as asks
use Rattle.sy_meaning.specs.declared.outcomes.Evaluated.TheVariants.{Gives, Stopped, Threw}
use Rattle.sy_meaning.specs.declared.outcomes.Flow.{Flow}
use Rattle.sy_meaning.specs.declared.outcomes.Flow.TheVariants as flow
use Rattle.sy_meaning.specs.declared.runs.Run.{Run}
use Rattle.sy_meaning.specs.declared.runs.Store.{Store}
use Rattle.sy_meaning.specs.Words.{Object, as_thing}
use Rattle.sy_meaning.specs.Frame.{local, put}
use Rattle.sy_meaning.specs.Outcomes.{Ex, Flowed, St, Valued}
use Rattle.sy_meaning.specs.Bodies.{Body}
use Rattle.sy_meaning.specs.Items.{Footprint, footprint}
use Rattle.sy_meaning.specs.Next.{ask_of, bound_all, bound_item, calls_of, entered, item, item_end, item_in, item_object, item_start, last_line, means, means_with, next, next_in, objects_from, result_of, result_step, start, with_result}
use Rattle.sy_meaning.specs.Turns.{IsEnd, Waits, flow_stop}
use Rattle.sy_meaning.proofs.TreeLemmas.{block_of}
use Rattle.sy_meaning.proofs.AlikeLemmas.{Alike, Bound, ExAlike, Fine, Rests, StAlike, alike, cut, flowed, gave, stretched, valued}
use Rattle.sy_meaning.proofs.AlikeRunLemmas.{CallsAlike}
use Rattle.sy_meaning.proofs.AlikeFormLemmas.{block_is}
use Rattle.sy_meaning.proofs.AlikeTreeLemmas.{block_alike}

-- ---- calls

bound_stretched : (k : Bound) (xs : List Variable) (os : List Object) (r : Run) → bound_all xs os (stretched k r) ≡ stretched k (bound_all xs os r)
bound_stretched k [] os r = refl
bound_stretched k (x ∷ xs) [] r = refl
bound_stretched k (x ∷ xs) (o ∷ os) r = bound_stretched k xs os (put x.number (as_thing x.what o) r)

pub bound_world : (xs : List Variable) (os : List Object) (r : Run) → (bound_all xs os r).world ≡ r.world
bound_world [] os r = refl
bound_world (x ∷ xs) [] r = refl
bound_world (x ∷ xs) (o ∷ os) r = bound_world xs os (put x.number (as_thing x.what o) r)

result_same : {k : Bound} (kind : Option Kind) (frame : List Object) (f : Flow) (r : Run) → Rests k (flow_stop f) r.world → Alike k valued (result_of kind frame (f, r)) (result_of kind frame (f, stretched k r))
result_same kind frame (flow.Returned o line) r h = alike refl h
result_same kind frame (flow.Threw e line) r h = alike refl h
result_same kind frame (flow.Stopped a) r h = alike refl h
result_same kind frame f r h = alike refl h

result_alike : {k : Bound} (kind : Option Kind) (frame : List Object) (a b : Flowed) → Alike k flowed a b → Alike k valued (result_of kind frame a) (result_of kind frame b)
result_alike {k} kind frame (flow.Stopped a, r) b (cut w l) = cut w l
result_alike {k} kind frame (f, r) b (cut w l) = absurd w
result_alike {k} kind frame (f, r) b (alike e h) = subst (λ c. Alike k valued (result_of kind frame (f, r)) (result_of kind frame c)) e (result_same kind frame f r h)

-- what a body means from where its captures are bound
begun_alike : {k : Bound} (f g : St) → StAlike k f g → (xs : List Variable) (os : List Object) (r : Run) → Fine k r.world → Alike k flowed (f (bound_all xs os r)) (g (bound_all xs os (stretched k r)))
begun_alike {k} f g p xs os r h =
    let s = bound_all xs os r in
    subst (λ t. Alike k flowed (f s) (g t)) (sym (bound_stretched k xs os r)) (p s (subst (λ w. Fine k w) (sym (bound_world xs os r)) h))

entered_alike : {k : Bound} (f g : Body → St) → ((b : Body) → StAlike k (f b) (g b)) → (b : Option Body) (os : List Object) → ExAlike k (entered f b os) (entered g b os)
entered_alike f g p None os r h = gave h
entered_alike {k} f g p (Some b) os r h =
    let s : Run = record r { frame = [] } in
    result_alike b.returned r.frame (f b (bound_all b.captures os s)) (g b (bound_all b.captures os (stretched k s))) (begun_alike (f b) (g b) (p b) b.captures os s h)

-- whether what was asked is looked at, the answers that are more, and the turns
abbrev pub within_turns : Bool → List Answer → ℕ → Bound
within_turns c more n = record { more = more; turns = n; tracked = c }

wider : (c : Bool) (more : List Answer) (n m : ℕ) (a b : Valued) → n ≤ m → Alike (within_turns c more n) valued a b → Alike (within_turns c more m) valued a b
wider c more n m a b l (cut w i) = cut w i
wider c more n m (Gives o, r) b l (alike e h) = alike e (omega (arith, h.0, l), h.1)
wider c more n m (Threw x y, r) b l (alike e h) = alike e (omega (arith, h.0, l), h.1)
wider c more n m (Stopped a, r) b l (alike e h) = alike e h

calls_alike : (bodies : List Body) (limit : ℕ) (c : Bool) (more : List Answer) (n m t : ℕ) → t ≤ n → t ≤ m → CallsAlike (within_turns c more t) (calls_of bodies limit n) (calls_of bodies limit m)
calls_alike bodies limit tracked more zero m t p q f os r h g = absurd (omega (arith, p, h))
calls_alike bodies limit tracked more (suc n) zero t p q f os r h g = absurd (omega (arith, q, h))
calls_alike bodies limit tracked more (suc n) (suc m) t p q f os r h g =
    let k = within_turns tracked more (t - 1) in
    let c = calls_of bodies limit n in
    let d = calls_of bodies limit m in
    let deeper : CallsAlike k c d = calls_alike bodies limit tracked more n m (t - 1) (omega (arith, p)) (omega (arith, q)) in
    let same : (b : Body) → StAlike k (means_with bodies limit c b) (means_with bodies limit d b) = λ b. block_is (block_of c limit b.block) (block_of d limit b.block) (block_alike k c d limit deeper b.block) in
    let s = within_turns tracked more t in
    wider tracked more (t - 1) t (calls_of bodies limit (suc n) f os r) (calls_of bodies limit (suc m) f os (stretched s r)) (omega arith) (entered_alike (means_with bodies limit c) (means_with bodies limit d) same (slice_get bodies f) os r (omega (arith, h), g.1))

-- so deep as there are turns is enough
pub body_alike : (bodies : List Body) (limit : ℕ) (c : Bool) (more : List Answer) (n m t : ℕ) → t ≤ n → t ≤ m → (b : Body) → StAlike (within_turns c more t) (means_with bodies limit (calls_of bodies limit n) b) (means_with bodies limit (calls_of bodies limit m) b)
body_alike bodies limit tracked more n m t p q b =
    let c = calls_of bodies limit n in
    let d = calls_of bodies limit m in
    block_is (block_of c limit b.block) (block_of d limit b.block) (block_alike (within_turns tracked more t) c d limit (calls_alike bodies limit tracked more n m t p q) b.block)

-- ---- without more answers

none_more : (xs : List Answer) → xs ++ [] ≡ xs
none_more [] = refl
none_more (x ∷ xs) = ap (λ ys. x ∷ ys) (none_more xs)

not_longer : (n : ℕ) (r : Run) → stretched (within_turns false [] n) r ≡ r
not_longer n r =
    let with_feed : List Answer → Run = λ xs. record r { world = record (r.world) { feed = xs } } in
    ap with_feed (none_more r.world.feed)

same_flow : (n : ℕ) (g : St) (a : Flowed) (r : Run) → Alike (within_turns false [] n) flowed a (g (stretched (within_turns false [] n) r)) → a ≡ g r
same_flow n g a r (cut w l) = absurd l
same_flow n g (f, s) r (alike e h) =
    let with_run : Run → Flowed = λ t. (f, t) in sym (ap with_run (not_longer n s)) ∙ (e ∙ ap g (not_longer n r))

same_value : (n : ℕ) (g : Ex) (a : Valued) (r : Run) → Alike (within_turns false [] n) valued a (g (stretched (within_turns false [] n) r)) → a ≡ g r
same_value n g a r (cut w l) = absurd l
same_value n g (v, s) r (alike e h) =
    let with_run : Run → Valued = λ t. (v, t) in sym (ap with_run (not_longer n s)) ∙ (e ∙ ap g (not_longer n r))

pub depth_same : (bodies : List Body) (limit n : ℕ) (b : Body) (r : Run) → r.world.turns ≤ n → r.world.turns ≤ limit → means_with bodies limit (calls_of bodies limit n) b r ≡ means bodies limit b r
depth_same bodies limit n b r p q =
    let t = r.world.turns in
    let f = means_with bodies limit (calls_of bodies limit n) b in
    same_flow t (means bodies limit b) (f r) r (body_alike bodies limit false [] n limit t p q b r (omega arith, tt))

one_deeper : (bodies : List Body) (limit n f : ℕ) (os : List Object) (r : Run) → r.world.turns + 1 ≤ n → calls_of bodies limit n f os r ≡ calls_of bodies limit (suc n) f os r
one_deeper bodies limit n f os r p =
    let t = r.world.turns + 1 in
    same_value t (calls_of bodies limit (suc n) f os) (calls_of bodies limit n f os r) r (calls_alike bodies limit false [] n (suc n) t p (omega (arith, p)) f os r (omega arith) (omega arith, tt))

pub call_repeats : (bodies : List Body) (limit n f : ℕ) (os : List Object) (r : Run) → r.world.turns + 1 ≤ n → calls_of bodies limit n f os r ≡ entered (means_with bodies limit (calls_of bodies limit n)) (slice_get bodies f) os r
call_repeats bodies limit n f os r p = one_deeper bodies limit n f os r p

-- ---- the end of a body

not_waiting : (a : Ask) → IsEnd a → Waits (Some a) → ⊥
not_waiting (asks.Halt h) e w = w
not_waiting (asks.Finish z) e w = w
not_waiting a e w = e

end_same : (k : Bound) (kind : Option Kind) (f : Flow) (r : Run) → ask_of kind (f, stretched k r) ≡ ask_of kind (f, r)
end_same k kind (flow.Returned o line) r = refl
end_same k kind (flow.Threw e line) r = refl
end_same k kind (flow.Stopped a) r = refl
end_same k kind f r = refl

flow_waits : (kind : Option Kind) (f : Flow) (r : Run) → Waits (flow_stop f) → Waits (Some (ask_of kind (f, r)))
flow_waits kind (flow.Stopped a) r w = w
flow_waits kind f r w = absurd w

ended_alike : {k : Bound} (kind : Option Kind) (a b : Flowed) → IsEnd (ask_of kind a) → Alike k flowed a b → ask_of kind b ≡ ask_of kind a
ended_alike kind (f, r) b e (cut w l) = absurd (not_waiting (ask_of kind (f, r)) e (flow_waits kind f r w))
ended_alike {k} kind (f, r) b e (alike p h) = ap (ask_of kind) (sym p) ∙ end_same k kind f r

next_in_ended : (bodies : List Body) (limit : ℕ) (b : Option Body) (captures : List ℤ) (answers more : List Answer) → IsEnd (next_in bodies limit b captures answers) → next_in bodies limit b captures (answers ++ more) ≡ next_in bodies limit b captures answers
next_in_ended bodies limit None captures answers more e = refl
next_in_ended bodies limit (Some b) captures answers more e =
    let k = within_turns false more limit in
    let f = means bodies limit b in
    let os = objects_from b.captures captures in
    let r = start limit answers in
    let p : Alike k flowed (f (bound_all b.captures os r)) (f (bound_all b.captures os (stretched k r))) = begun_alike f f (body_alike bodies limit false more limit limit limit (omega arith) (omega arith) b) b.captures os r (omega arith, tt) in
    ended_alike b.returned (f (bound_all b.captures os r)) (f (bound_all b.captures os (stretched k r))) e p

pub next_ended : (bodies : List Body) (limit body : ℕ) (captures : List ℤ) (answers more : List Answer) → IsEnd (next bodies limit body captures answers) → next bodies limit body captures (answers ++ more) ≡ next bodies limit body captures answers
next_ended bodies limit body captures answers more e = next_in_ended bodies limit (slice_get bodies body) captures answers more e

-- ---- the end of an item

object_same : (k : Bound) (t : Thing) (r : Run) → item_object t (stretched k r) ≡ item_object t r
object_same k (thing.Id d) r = refl
object_same k (thing.Item d) r = refl
object_same k (thing.Reducer kind f) r = refl
object_same k t r = refl

item_stretched : (k : Bound) (xs : List Variable) (r : Run) → bound_item xs (stretched k r) ≡ stretched k (bound_item xs r)
item_stretched k [] r = refl
item_stretched k (x ∷ xs) r =
    ap (λ o. bound_item xs (put x.number o (stretched k r))) (object_same k x.what r) ∙ item_stretched k xs (put x.number (item_object x.what r) r)

item_world : (xs : List Variable) (r : Run) → (bound_item xs r).world ≡ r.world
item_world [] r = refl
item_world (x ∷ xs) r = item_world xs (put x.number (item_object x.what r) r)

result_stretched : (k : Bound) (line : ℕ) (t : Thing) (o : Object) (r : Run) → result_step line t o (stretched k r) ≡ stretched k (result_step line t o r)
result_stretched k line (thing.Reducer kind f) o r = refl
result_stretched k line t o r = refl

results_stretched : (k : Bound) (line : ℕ) (xs : List Variable) (r : Run) → with_result line xs (stretched k r) ≡ stretched k (with_result line xs r)
results_stretched k line [] r = refl
results_stretched k line (x ∷ xs) r =
    ap (with_result line xs) (result_stretched k line x.what (local x.number r) r) ∙ results_stretched k line xs (result_step line x.what (local x.number r) r)

-- what is seen of an item
abbrev seen : Position → Ask × Run → Footprint
seen p came = record { position = p; steps = reverse came.1.world.steps; stop = came.0 }

item_same : (k : Bound) (p : Position) (line : ℕ) (xs : List Variable) (f : Flow) (r : Run) → seen p (item_end line xs (f, stretched k r)) ≡ seen p (item_end line xs (f, r))
item_same k p line xs (flow.Stopped a) r = refl
item_same k p line xs f r =
    let as_seen : Run → Footprint = λ s. seen p (asks.Finish (pos 0), s) in ap as_seen (results_stretched k line xs r)

item_waits : (line : ℕ) (xs : List Variable) (f : Flow) (r : Run) → Waits (flow_stop f) → Waits (Some (item_end line xs (f, r)).0)
item_waits line xs (flow.Stopped a) r w = w
item_waits line xs f r w = absurd w

item_ended_alike : {k : Bound} (p : Position) (line : ℕ) (xs : List Variable) (a b : Flowed) → IsEnd (item_end line xs a).0 → Alike k flowed a b → seen p (item_end line xs b) ≡ seen p (item_end line xs a)
item_ended_alike p line xs (f, r) b e (cut w l) = absurd (not_waiting (item_end line xs (f, r)).0 e (item_waits line xs f r w))
item_ended_alike {k} p line xs (f, r) b e (alike q h) = ap (λ c. seen p (item_end line xs c)) (sym q) ∙ item_same k p line xs f r

start_stretched : (limit : ℕ) (p : Position) (stores : List Store) (answers more : List Answer) → item_start limit p stores (answers ++ more) ≡ stretched (within_turns false more limit) (item_start limit p stores answers)
start_stretched limit p [] answers more = refl
start_stretched limit p (s ∷ ss) answers more = refl

start_fine : (limit : ℕ) (p : Position) (stores : List Store) (answers : List Answer) → (item_start limit p stores answers).world.turns ≡ limit
start_fine limit p [] answers = refl
start_fine limit p (s ∷ ss) answers = refl

item_begun : {k : Bound} (f g : St) → StAlike k f g → (ps xs : List Variable) (os : List Object) (r : Run) → Fine k r.world → Alike k flowed (f (bound_item ps (bound_all xs os r))) (g (bound_item ps (bound_all xs os (stretched k r))))
item_begun {k} f g p ps xs os r h =
    let s = bound_all xs os r in
    let is = ap (bound_item ps) (bound_stretched k xs os r) ∙ item_stretched k ps s in
    subst (λ t. Alike k flowed (f (bound_item ps s)) (g t)) (sym is) (p (bound_item ps s) (subst (λ w. Fine k w) (sym (item_world ps s ∙ bound_world xs os r)) h))

item_in_ended : (bodies : List Body) (limit : ℕ) (b : Option Body) (captures : List ℤ) (p : Position) (stores : List Store) (answers more : List Answer) → IsEnd (item_in bodies limit b captures (item_start limit p stores answers)).0 → seen p (item_in bodies limit b captures (item_start limit p stores (answers ++ more))) ≡ seen p (item_in bodies limit b captures (item_start limit p stores answers))
item_in_ended bodies limit None captures p stores answers more e =
    let as_seen : Run → Footprint = λ s. seen p (asks.Finish (pos 0), s) in ap as_seen (start_stretched limit p stores answers more)
item_in_ended bodies limit (Some b) captures p stores answers more e =
    let k = within_turns false more limit in
    let f = means bodies limit b in
    let os = objects_from b.captures captures in
    let r = item_start limit p stores answers in
    let there : Alike k flowed (f (bound_item b.parameters (bound_all b.captures os r))) (f (bound_item b.parameters (bound_all b.captures os (stretched k r)))) = item_begun f f (body_alike bodies limit false more limit limit limit (omega arith) (omega arith) b) b.parameters b.captures os r (omega (arith, start_fine limit p stores answers), tt) in
    ap (λ s. seen p (item_in bodies limit (Some b) captures s)) (start_stretched limit p stores answers more) ∙ item_ended_alike p (last_line bodies limit b) b.parameters (f (bound_item b.parameters (bound_all b.captures os r))) (f (bound_item b.parameters (bound_all b.captures os (stretched k r)))) e there

pub item_ended : (bodies : List Body) (limit body : ℕ) (captures : List ℤ) (p : Position) (stores : List Store) (answers more : List Answer) → IsEnd (item bodies limit body captures p stores answers).0 → footprint (item bodies limit body captures) p stores (answers ++ more) ≡ footprint (item bodies limit body captures) p stores answers
item_ended bodies limit body captures p stores answers more e = item_in_ended bodies limit (slice_get bodies body) captures p stores answers more e
