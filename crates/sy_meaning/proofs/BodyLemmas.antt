-- What a body means leads on, whatever it calls.
use Rattle.std.specs.Prelude.{List, None, Option, Some, [], slice_get, suc, zero, ℕ, ◌∷◌}
use Rattle.sy_num.specs.declared.Kind.{Kind}
use Rattle.sy_typed.specs.declared.tree.Typed.{Typed}
use Rattle.sy_typed.specs.declared.tree.TypedStmt.{TypedStmt}
use Rattle.sy_typed.specs.declared.tree.Variable.{Variable}
use Rattle.sy_meaning.specs.declared.outcomes.Flow.TheVariants as flow
use Rattle.sy_meaning.specs.declared.runs.Run.{Run}
use Rattle.sy_meaning.specs.Words.{Object, as_thing}
use Rattle.sy_meaning.specs.Frame.{put}
use Rattle.sy_meaning.specs.Outcomes.{Flowed, St}
use Rattle.sy_meaning.specs.Bodies.{Body}
use Rattle.sy_meaning.specs.Next.{bound_all, calls_of, entered, means, means_with, result_of}
use Rattle.sy_meaning.specs.Turns.{ExLeads, ExpLeads, Fed, LeadsOn, StLeads, Taken, expression, feed_of, flow_stop, statement, stop_of}
use Rattle.sy_meaning.proofs.OutcomeLemmas.{after, at_last, same}
use Rattle.sy_meaning.proofs.RunLemmas.{CallsLead}
use Rattle.sy_meaning.proofs.TreeLemmas.{block_leads, statement_leads, typed_leads}

pub bound_leads : (xs : List Variable) (os : List Object) (r : Run) → LeadsOn r (bound_all xs os r)
bound_leads [] os r = same
bound_leads (x ∷ xs) [] r = same
bound_leads (x ∷ xs) (o ∷ os) r = bound_leads xs os (put x.number (as_thing x.what o) r)

result_leads : {xs : Fed} {n : ℕ} (k : Option Kind) (frame : List Object) (a : Flowed) → Taken xs n (flow_stop a.0) (feed_of a.1.world) a.1.world.turns → Taken xs n (stop_of (result_of k frame a).0) (feed_of (result_of k frame a).1.world) (result_of k frame a).1.world.turns
result_leads {xs} {n} k frame (flow.Returned o line, r) p = p
result_leads {xs} {n} k frame (flow.Threw e line, r) p = p
result_leads {xs} {n} k frame (flow.Stopped a, r) p = p
result_leads {xs} {n} k frame (f, r) p = p

entered_leads : (means : Body → St) → ((b : Body) → StLeads (means b)) → (b : Option Body) (os : List Object) → ExLeads (entered means b os)
entered_leads means h None os r = same
entered_leads means h (Some b) os r =
    let s = bound_all b.captures os (record r { frame = [] }) in
    result_leads b.returned r.frame (means b s) (after (bound_leads b.captures os (record r { frame = [] })) (h b s))

calls_lead : (bodies : List Body) (limit n : ℕ) → CallsLead (calls_of bodies limit n)
calls_lead bodies limit zero f os r = at_last 0 r.world
calls_lead bodies limit (suc n) f os r =
    entered_leads (means_with bodies limit (calls_of bodies limit n)) (λ b. block_leads (calls_of bodies limit n) limit (calls_lead bodies limit n) b.block) (slice_get bodies f) os r

pub body_leads : (bodies : List Body) (limit : ℕ) (b : Body) → StLeads (means bodies limit b)
body_leads bodies limit b = block_leads (calls_of bodies limit limit) limit (calls_lead bodies limit limit) b.block

pub statement_falls : (bodies : List Body) (limit : ℕ) (s : TypedStmt) → StLeads (statement (calls_of bodies limit limit) limit s).run
statement_falls bodies limit s = statement_leads (calls_of bodies limit limit) limit (calls_lead bodies limit limit) s

pub expression_falls : (bodies : List Body) (limit : ℕ) (e : Typed) → ExpLeads (expression (calls_of bodies limit limit) limit e)
expression_falls bodies limit e = typed_leads (calls_of bodies limit limit) limit (calls_lead bodies limit limit) e
