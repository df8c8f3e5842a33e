-- What a thread asks holds together.
use Rattle.std.proofs.Common.{arith, refl, subst, sym}
use Rattle.std.specs.Prelude.{List, None, Option, Some, [], slice_get, true, ℕ, ℤ}
use Rattle.sy_num.specs.declared.Kind.{Kind}
use Rattle.sy_work.specs.declared.asks.Answer.{Answer}
use Rattle.sy_work.specs.declared.asks.Ask.{Ask}
use Rattle.sy_meaning.specs.declared.outcomes.Flow.TheVariants as flow
use Rattle.sy_meaning.specs.Outcomes.{Flowed}
use Rattle.sy_meaning.specs.Asks.{Fits, HoldTogether, Log}
use Rattle.sy_meaning.specs.Bodies.{Body}
use Rattle.sy_meaning.specs.Next.{ask_of, asks_before, asks_in, bound_all, means, next, next_in, objects_from, start}
use Rattle.sy_meaning.specs.Turns.{flow_stop}
use Rattle.sy_meaning.proofs.AlikeLemmas.{Alike, Fine, Rests, alike, cut, flowed}
use Rattle.sy_meaning.proofs.AlikeBodyLemmas.{body_alike, bound_world, within_turns}

abbrev AllFit : Log → Ask → Type 0
AllFit log a = HoldTogether log × Fits log a

flow_fits : (limit : ℕ) (kind : Option Kind) (a : Flowed) → Rests (within_turns true [] limit) (flow_stop a.0) a.1.world → AllFit a.1.world.asked (ask_of kind a)
flow_fits limit kind (flow.Normal, r) h = (h.1.2, tt)
flow_fits limit kind (flow.Broke l, r) h = (h.1.2, tt)
flow_fits limit kind (flow.Continued l, r) h = (h.1.2, tt)
flow_fits limit kind (flow.Returned o l, r) h = (h.1.2, tt)
flow_fits limit kind (flow.Threw e l, r) h = (h.1.2, tt)
flow_fits limit kind (flow.Stopped a, r) h = (h.1, h.0)

alike_fits : (limit : ℕ) (kind : Option Kind) (a b : Flowed) → Alike (within_turns true [] limit) flowed a b → AllFit a.1.world.asked (ask_of kind a)
alike_fits limit kind a b (cut w l) = absurd l
alike_fits limit kind a b (alike e h) = flow_fits limit kind a h

in_holds : (bodies : List Body) (limit : ℕ) (b : Option Body) (captures : List ℤ) (answers : List Answer) → AllFit (asks_in bodies limit b captures answers) (next_in bodies limit b captures answers)
in_holds bodies limit None captures answers = (tt, tt)
in_holds bodies limit (Some b) captures answers =
    let k = within_turns true [] limit in
    let xs = b.captures in
    let os = objects_from b.captures captures in
    let begun : Fine k (bound_all xs os (start limit answers)).world = subst (λ w. Fine k w) (sym (bound_world xs os (start limit answers))) (omega arith, (refl, refl, tt, tt)) in
    let came = body_alike bodies limit true [] limit limit limit (omega arith) (omega arith) b (bound_all xs os (start limit answers)) begun in
    alike_fits limit b.returned (means bodies limit b (bound_all xs os (start limit answers))) _ came

pub asks_hold : (bodies : List Body) (limit body : ℕ) (captures : List ℤ) (answers : List Answer) → HoldTogether (asks_before bodies limit body captures answers) × Fits (asks_before bodies limit body captures answers) (next bodies limit body captures answers)
asks_hold bodies limit body captures answers = in_holds bodies limit (slice_get bodies body) captures answers
