-- Where a body stands at an ask that waits, it has taken all answers, and a turn for each ask.
use Rattle.std.proofs.Common.{ap, arith, sym, ◌∙◌}
use Rattle.std.specs.Prelude.{List, None, Option, Some, [], drop, length, slice_get, suc, zero, ℕ, ℤ, ◌+◌, ◌∷◌, ◌≡◌, ◌≤◌}
use Rattle.sy_num.specs.declared.Kind.{Kind}
use Rattle.sy_range.specs.declared.nd_ranges.Position.{Position}
use Rattle.sy_typed.specs.declared.tree.Variable.{Variable}
use Rattle.sy_work.specs.declared.asks.Answer.{Answer}
use Rattle.sy_work.specs.declared.asks.Ask.{Ask}
use Rattle.sy_meaning.specs.declared.outcomes.Flow.TheVariants as flow
use Rattle.sy_meaning.specs.declared.runs.Run.{Run}
use Rattle.sy_meaning.specs.declared.runs.Store.{Store}
use Rattle.sy_meaning.specs.Outcomes.{Flowed}
use Rattle.sy_meaning.specs.Bodies.{Body}
use Rattle.sy_meaning.specs.Next.{ask_of, asks_before, asks_in, bound_all, bound_item, item, item_end, item_in, item_object, item_start, last_line, means, next, next_in, objects_from, start}
use Rattle.sy_meaning.specs.Asks.{answers_in}
use Rattle.sy_meaning.specs.Frame.{put}
use Rattle.sy_meaning.specs.Turns.{Fed, LeadsOn, Taken, Waits, feed_of, flow_stop}
use Rattle.sy_meaning.proofs.OutcomeLemmas.{after, same}
use Rattle.sy_meaning.proofs.BodyLemmas.{body_leads, bound_leads}

all_taken : (k : ℕ) (xs : List Answer) → drop k xs ≡ [] → length xs ≤ k
all_taken k [] e = omega arith
all_taken zero (x ∷ xs) e = absurd cc
all_taken (suc k) (x ∷ xs) e = let h = all_taken k xs e in omega (arith, h)

-- so many turns there were
asked_by_turns : {xs rest : Fed} {n left : ℕ} {s : Option Ask} → Taken xs n s rest left → Waits s → length xs.0 + 1 ≤ n
asked_by_turns {xs} p w =
    let e = p.at_end w in
    let all = all_taken p.count xs.0 (sym p.from_front ∙ e.0) in
    omega (arith, all, e.1)

ask_waits : (k : Option Kind) (a : Flowed) → Waits (Some (ask_of k a)) → Waits (flow_stop a.0)
ask_waits k (flow.Returned o line, r) w = w
ask_waits k (flow.Threw e line, r) w = w
ask_waits k (flow.Stopped a, r) w = w
ask_waits k (f, r) w = absurd w

next_in_turns : (bodies : List Body) (limit : ℕ) (b : Option Body) (captures : List ℤ) (answers : List Answer) → Waits (Some (next_in bodies limit b captures answers)) → length answers + 1 ≤ limit
next_in_turns bodies limit None captures answers w = absurd w
next_in_turns bodies limit (Some b) captures answers w =
    let s = bound_all b.captures (objects_from b.captures captures) (start limit answers) in
    asked_by_turns (after (bound_leads b.captures (objects_from b.captures captures) (start limit answers)) (body_leads bodies limit b s)) (ask_waits b.returned (means bodies limit b s) w)

pub next_by_turns : (bodies : List Body) (limit body : ℕ) (captures : List ℤ) (answers : List Answer) → Waits (Some (next bodies limit body captures answers)) → length answers + 1 ≤ limit
next_by_turns bodies limit body captures answers w = next_in_turns bodies limit (slice_get bodies body) captures answers w

bound_item_leads : (xs : List Variable) (r : Run) → LeadsOn r (bound_item xs r)
bound_item_leads [] r = same
bound_item_leads (x ∷ xs) r = bound_item_leads xs (put x.number (item_object x.what r) r)

item_waits : (line : ℕ) (xs : List Variable) (a : Flowed) → Waits (Some (item_end line xs a).0) → Waits (flow_stop a.0)
item_waits line xs (flow.Stopped a, r) w = w
item_waits line xs (f, r) w = absurd w

item_starts : (limit : ℕ) (p : Position) (stores : List Store) (answers : List Answer) → Taken (answers, []) limit None (feed_of (item_start limit p stores answers).world) (item_start limit p stores answers).world.turns
item_starts limit p [] answers = same
item_starts limit p (s ∷ ss) answers = same

item_in_turns : (bodies : List Body) (limit : ℕ) (b : Option Body) (captures : List ℤ) (p : Position) (stores : List Store) (answers : List Answer) → Waits (Some (item_in bodies limit b captures (item_start limit p stores answers)).0) → length answers + 1 ≤ limit
item_in_turns bodies limit None captures p stores answers w = absurd w
item_in_turns bodies limit (Some b) captures p stores answers w =
    let r = item_start limit p stores answers in
    let q = bound_all b.captures (objects_from b.captures captures) r in
    let s = bound_item b.parameters q in
    let begun = after (item_starts limit p stores answers) (after (bound_leads b.captures (objects_from b.captures captures) r) (bound_item_leads b.parameters q)) in
    asked_by_turns (after begun (body_leads bodies limit b s)) (item_waits (last_line bodies limit b) b.parameters (means bodies limit b s) w)

pub item_by_turns : (bodies : List Body) (limit body : ℕ) (captures : List ℤ) (p : Position) (stores : List Store) (answers : List Answer) → Waits (Some (item bodies limit body captures p stores answers).0) → length answers + 1 ≤ limit
item_by_turns bodies limit body captures p stores answers w = item_in_turns bodies limit (slice_get bodies body) captures p stores answers w

-- ---- the answers are noted

next_in_notes : (bodies : List Body) (limit : ℕ) (b : Option Body) (captures : List ℤ) (answers : List Answer) → Waits (Some (next_in bodies limit b captures answers)) → answers_in (asks_in bodies limit b captures answers) [] ≡ answers
next_in_notes bodies limit None captures answers w = absurd w
next_in_notes bodies limit (Some b) captures answers w =
    let s = bound_all b.captures (objects_from b.captures captures) (start limit answers) in
    let a = means bodies limit b s in
    let p = after (bound_leads b.captures (objects_from b.captures captures) (start limit answers)) (body_leads bodies limit b s) in
    let e = p.at_end (ask_waits b.returned a w) in
    ap (λ xs. answers_in a.1.world.asked xs) (sym e.0) ∙ p.noted

pub asks_are_noted : (bodies : List Body) (limit body : ℕ) (captures : List ℤ) (answers : List Answer) → Waits (Some (next bodies limit body captures answers)) → answers_in (asks_before bodies limit body captures answers) [] ≡ answers
asks_are_noted bodies limit body captures answers w = next_in_notes bodies limit (slice_get bodies body) captures answers w
