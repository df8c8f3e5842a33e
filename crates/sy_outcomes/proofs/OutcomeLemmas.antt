-- How the parts of an expression or a statement go on, or end it.
use Rattle.std.proofs.Common.{◌≡◌, ap, subst, sym}
use Rattle.std.specs.Prelude.{Err, Result}
use Rattle.sy_meaning.specs.Outcomes.{Ex, Flowed, Op, St, Valued, and_then, in_world, inside, then_do, with_value}
use Rattle.sy_meaning.specs.Words.{Object}
use Rattle.sy_meaning.specs.declared.outcomes.Evaluated.{Evaluated}
use Rattle.sy_meaning.specs.declared.outcomes.Evaluated.TheVariants.{Gives}
use Rattle.sy_meaning.specs.declared.outcomes.Flow.TheVariants as flow
use Rattle.sy_meaning.specs.declared.runs.Run.{Run}
use Rattle.sy_meaning.specs.declared.runs.World.{World}
use Rattle.sy_outcomes.specs.Comes.{Evaluates, Executes, Leaves}
use Rattle.sy_outcomes.specs.declared.exits.Exit.{Exit}
use Rattle.sy_outcomes.specs.declared.exits.Exit.TheVariants as exit
use Rattle.sy_outcomes.specs.declared.stops.Stop.{Stop}
use Rattle.sy_outcomes.specs.declared.stops.Stop.TheVariants as stop

-- ---- expressions

-- a part that gives a value is gone on with
pub value_then : {S : Type 0} (p : Evaluated × S) (go : Object → S → Evaluated × S) (o : Object) (mid new : S) (r : Result Object Stop) →
    p ≡ (Gives o, mid) → Evaluates (go o mid) r new → Evaluates (and_then p go) r new
value_then p go o mid new r h k = subst (λ z. Evaluates (and_then z go) r new) (sym h) k

-- one that gives none ends what it stands in
pub stop_then : {S : Type 0} (p : Evaluated × S) (go : Object → S → Evaluated × S) (s : Stop) (new : S) →
    Evaluates p (Err s) new → Evaluates (and_then p go) (Err s) new
stop_then p go (stop.Threw e line) new h = ap (λ z. and_then z go) h
stop_then p go (stop.Asked a) new h = ap (λ z. and_then z go) h
stop_then p go stop.Memory new h = tt

-- the same expression
pub evaluates_as : {S : Type 0} (p q : Evaluated × S) (r : Result Object Stop) (new : S) → q ≡ p → Evaluates p r new → Evaluates q r new
evaluates_as p q r new h = subst (λ z. Evaluates z r new) (sym h)

-- an operation on the world, in a run
pub inside_then : (f : Op) (old : Run) (v : Evaluated) (w : World) (r : Result Object Stop) →
    (v, w) ≡ f old.world → Evaluates (v, record old { world = w }) r (record old { world = w }) → Evaluates (inside f old) r (record old { world = w })
inside_then f old v w r h k = subst (λ z. Evaluates (in_world z old) r (record old { world = w })) h k

-- ---- parts with which an expression goes on

pub passed_then : {A : Type 0} (came : (A → Ex) → Valued) (go : A → Ex) (x : A) (mid new : Run) (r : Result Object Stop) →
    ((go : A → Ex) → came go ≡ go x mid) → Evaluates (go x mid) r new → Evaluates (came go) r new
passed_then came go x mid new r h k = subst (λ z. Evaluates z r new) (sym (h go)) k

-- ---- statements

pub value_done : (p : Valued) (go : Object → St) (o : Object) (mid new : Run) {U : Type 0} (r : Result U Exit) →
    p ≡ (Gives o, mid) → Executes (go o mid) r new → Executes (with_value p go) r new
value_done p go o mid new r h k = subst (λ z. Executes (with_value z go) r new) (sym h) k

pub stop_done : (p : Valued) (go : Object → St) (s : Stop) (new : Run) → Evaluates p (Err s) new → Leaves (with_value p go) (exit.Stopped s) new
stop_done p go (stop.Threw e line) new h = ap (λ z. with_value z go) h
stop_done p go (stop.Asked a) new h = ap (λ z. with_value z go) h
stop_done p go stop.Memory new h = tt

pub end_done : (p : Flowed) (go : St) (mid new : Run) {U : Type 0} (r : Result U Exit) →
    p ≡ (flow.Normal, mid) → Executes (go mid) r new → Executes (then_do p go) r new
end_done p go mid new r h k = subst (λ z. Executes (then_do z go) r new) (sym h) k

pub exit_done : (p : Flowed) (go : St) (e : Exit) (new : Run) → Leaves p e new → Leaves (then_do p go) e new
exit_done p go (exit.Broke line) new h = ap (λ z. then_do z go) h
exit_done p go (exit.Continued line) new h = ap (λ z. then_do z go) h
exit_done p go (exit.Returned o line) new h = ap (λ z. then_do z go) h
exit_done p go (exit.Stopped (stop.Threw e line)) new h = ap (λ z. then_do z go) h
exit_done p go (exit.Stopped (stop.Asked a)) new h = ap (λ z. then_do z go) h
exit_done p go (exit.Stopped stop.Memory) new h = tt

pub executes_as : (p q : Flowed) {U : Type 0} (r : Result U Exit) (new : Run) → q ≡ p → Executes p r new → Executes q r new
executes_as p q r new h = subst (λ z. Executes z r new) (sym h)
