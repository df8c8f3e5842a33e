-- The ends of objects: in reverse order of making, as their scope is left. (C++17, "Destructors", "Stack unwinding")
use Rattle.std.specs.List.{list_all}
use Rattle.std.specs.Prelude.{Bool, List, None, Option, Some, [], false, if◌then◌else◌, true, unsigned_abs, ℕ, ℤ, ◌∷◌}
use Rattle.sy_work.specs.declared.asks.Ask.{Ask}
use Rattle.sy_work.specs.declared.asks.Ask.TheVariants as asks
use Rattle.sy_work.specs.declared.asks.Halt.TheVariants as halt
use Rattle.sy_work.specs.declared.asks.Why.TheVariants as why
use Rattle.sy_meaning.specs.declared.outcomes.Evaluated.{Evaluated}
use Rattle.sy_meaning.specs.declared.outcomes.Evaluated.TheVariants.{Gives, Stopped, Threw}
use Rattle.sy_meaning.specs.declared.outcomes.Flow.{Flow}
use Rattle.sy_meaning.specs.declared.outcomes.Flow.TheVariants as flow
use Rattle.sy_meaning.specs.declared.outcomes.Reply.TheVariants as reply
use Rattle.sy_meaning.specs.declared.runs.Live.{Live}
use Rattle.sy_meaning.specs.declared.runs.Live.TheVariants as live
use Rattle.sy_meaning.specs.declared.runs.Run.{Run}
use Rattle.sy_meaning.specs.declared.runs.World.{World}
use Rattle.sy_meaning.specs.Frame.{access_at, give_back, is_joined, left, living, opened, put_access, put_values, row_at, with_living}
use Rattle.sy_meaning.specs.Outcomes.{Ex, Flowed, Replied, St, Valued, ask, contents_of}

-- what an end comes to: an ask that stops the run, or nothing
abbrev pub Ended : Type 0
Ended = Option Ask × World

abbrev pub then_end : Ended → (World → Ended) → Ended
then_end (None, w) go = go w
then_end (Some a, w) go = (Some a, w)

abbrev pub joinable : World → Ended
joinable w = (Some (asks.Halt (halt.Terminated why.Joinable)), w)

abbrev pub after_end : Replied → (List ℤ → World → World) → Ended
after_end (reply.Answered a, w) go = (None, go (contents_of a) w)
after_end (reply.Stopped a, w) go = (Some a, w)

abbrev pub all_joined : List ℤ → World → Bool
all_joined ts w = list_all (λ t. is_joined (unsigned_abs t) w) ts

-- what the end of one object does
abbrev pub end_one : ℕ → Live → World → Ended
end_one line (live.Row v) w = (None, put_values v [] w)
end_one line (live.Team v) w = if all_joined (row_at v w).values w then (None, put_values v [] w) else joinable w
end_one line (live.Thread t) w = if is_joined t w then (None, w) else joinable w
end_one line (live.Buffer b) w = after_end (ask line (asks.EndBuffer b) w) (give_back b)
end_one line (live.Access k) w = after_end (ask line (asks.CloseHost k (access_at k w)) w) (λ values. put_access k [])

-- the last made first
abbrev pub end_each : ℕ → List Live → World → Ended
end_each line [] w = (None, left w)
end_each line (x ∷ xs) w = then_end (end_one line x (with_living xs w)) (end_each line xs)

abbrev pub end_scope : ℕ → World → Ended
end_scope line w = end_each line (living w) w

-- ---- scopes

abbrev pub ended_value : Evaluated → Run → Ended → Valued
ended_value v r (None, w) = (v, record r { world = w })
ended_value v r (Some a, w) = (Stopped a, record r { world = w })

abbrev pub ended_flow : Flow → Run → Ended → Flowed
ended_flow f r (None, w) = (f, record r { world = w })
ended_flow f r (Some a, w) = (flow.Stopped a, record r { world = w })

-- leaves the innermost scope of an expression; an error leaves it at its own line
abbrev pub close_value : ℕ → Valued → Valued
close_value line (Gives o, r) = ended_value (Gives o) r (end_scope line r.world)
close_value line (Threw e l, r) = ended_value (Threw e l) r (end_scope l r.world)
close_value line (Stopped a, r) = (Stopped a, r)

-- leaves the innermost scope of statements: at its end, or at the word or error by which it is left
abbrev pub close_flow : ℕ → Flowed → Flowed
close_flow line (flow.Normal, r) = ended_flow flow.Normal r (end_scope line r.world)
close_flow line (flow.Broke l, r) = ended_flow (flow.Broke l) r (end_scope l r.world)
close_flow line (flow.Continued l, r) = ended_flow (flow.Continued l) r (end_scope l r.world)
close_flow line (flow.Returned o l, r) = ended_flow (flow.Returned o l) r (end_scope l r.world)
close_flow line (flow.Threw e l, r) = ended_flow (flow.Threw e l) r (end_scope l r.world)
close_flow line (flow.Stopped a, r) = (flow.Stopped a, r)

abbrev pub in_new : Run → Run
in_new r = record r { world = opened r.world }

abbrev pub in_scope : ℕ → St → St
in_scope line s r = close_flow line (s (in_new r))

-- a full expression: its temporaries end with it (C++17, "Temporary objects")
abbrev pub in_full : Bool → ℕ → Ex → Ex
in_full true line e r = close_value line (e (in_new r))
in_full false line e r = e r
