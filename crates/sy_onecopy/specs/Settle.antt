-- How pending entries take effect.
use Rattle.std.specs.Prelude.{ℕ, zero, suc, ℤ, if◌then◌else◌, List, [], ◌∷◌, length, Option, Some, None, slice_get, slice_set}
use Rattle.sy_access.specs.declared.access.Need.{Need}
use Rattle.sy_work.specs.Programs.{OutcomeOf, Input}
use Rattle.sy_work.specs.declared.commands.Outcome.{Outcome}
use Rattle.sy_work.specs.declared.commands.Outcome.TheVariants as outcome
use Rattle.sy_work.specs.declared.asks.Answer.{Answer}
use Rattle.sy_work.specs.declared.asks.Answer.TheVariants.{Contents}
use Rattle.sy_onecopy.specs.declared.Entry.{Entry}
use Rattle.sy_onecopy.specs.declared.Work.{Work}
use Rattle.sy_onecopy.specs.declared.Work.TheVariants.{Node, Access, End}
use Rattle.sy_onecopy.specs.declared.Stage.{Stage}
use Rattle.sy_onecopy.specs.declared.Stage.TheVariants.{Granted, Done, Failed}
use Rattle.sy_onecopy.specs.declared.Waits.{Waits}
use Rattle.sy_onecopy.specs.declared.Waits.TheVariants.{Due}
use Rattle.sy_onecopy.specs.Each.{changed_at}
use Rattle.sy_onecopy.specs.State.{Board}
use Rattle.sy_onecopy.specs.Before.{is_free}
use Rattle.sy_onecopy.specs.Outcome.{inputs, buffers_after, values_at}

-- the thread waits for this from now on
abbrev pub await : Board → ℕ → Waits → Board
await b t w = record b { waits = slice_set b.waits t w }

-- the answer is due to the thread
abbrev pub reply : Board → ℕ → Answer → Board
reply b t a = await b t (Due a)

abbrev pub with_stage : Stage → Entry → Entry
with_stage s e = record e { stage = s }

abbrev pub to_stage : Board → ℕ → Stage → Board
to_stage b k s = record b { entries = changed_at (with_stage s) k b.entries }

-- the node at k takes its outcome. One that fails leaves what it started with
unfoldable pub took : Board → ℕ → List Need → Outcome → Board
took b k needs (outcome.Wrote log) = to_stage (record b { buffers = buffers_after needs log b.buffers }) k Done
took b k needs (outcome.Failed fault) = to_stage (record b { buffers = buffers_after needs [] b.buffers }) k (Failed fault)

abbrev pub first_of : List Input → List ℤ
first_of [] = []
first_of (x ∷ xs) = x.2

-- the entry at k takes effect: a node is done, a host access is granted and given its contents, and a buffer's end
-- is done and given the contents
unfoldable pub effect : OutcomeOf → Board → ℕ → Entry → Work → Board
effect out b k e (Node n q c) = took b k e.needs (out c (inputs b.buffers e.needs))
effect out b k e (Access t i) = reply (to_stage b k Granted) t (Contents (first_of (inputs b.buffers e.needs)))
effect out b k e (End t r) = reply (to_stage b k Done) t (Contents (values_at b.buffers r))

unfoldable pub settle_entry : OutcomeOf → Board → ℕ → Option Entry → Board
settle_entry out b k None = b
settle_entry out b k (Some e) = if is_free b.entries k e then effect out b k e e.work else b

abbrev pub settle_one : OutcomeOf → ℕ → Board → Board
settle_one out k b = settle_entry out b k (slice_get b.entries k)

-- the first k entries in their order
abbrev pub settle_upto : OutcomeOf → Board → ℕ → Board
settle_upto out b zero = b
settle_upto out b (suc k) = settle_one out k (settle_upto out b k)

-- one pass from the front. It leaves no entry that could take effect
abbrev pub settle : OutcomeOf → Board → Board
settle out b = settle_upto out b (length b.entries)
