-- Sequential execution: entries done one after another in their order, on buffers with their first numbers.
use Rattle.std.specs.Prelude.{ℕ, suc, ℤ, Bool, true, if◌then◌else◌, List, [], ◌∷◌, map, Option, slice_get}
use Rattle.std.specs.List.{list_any}
use Rattle.sy_access.specs.declared.access.Need.{Need}
use Rattle.sy_access.specs.declared.cells.Cell.{Cell}
use Rattle.sy_access.specs.Needs.{writes, has_cell}
use Rattle.sy_work.specs.Programs.{OutcomeOf}
use Rattle.sy_work.specs.declared.commands.Outcome.{Outcome}
use Rattle.sy_work.specs.declared.commands.Outcome.TheVariants.{Wrote, Failed}
use Rattle.sy_onecopy.specs.declared.Buffer.{Buffer}
use Rattle.sy_onecopy.specs.declared.Entry.{Entry}
use Rattle.sy_onecopy.specs.declared.Work.{Work}
use Rattle.sy_onecopy.specs.declared.Work.TheVariants.{Node, Access, End}
use Rattle.sy_onecopy.specs.declared.Stage.{Stage}
use Rattle.sy_onecopy.specs.declared.Stage.TheVariants as stage
use Rattle.sy_needs.specs.Each.{each_from}
use Rattle.sy_onecopy.specs.Before.{is_done}
use Rattle.sy_onecopy.specs.Outcome.{inputs, buffers_after, values_at}
use Rattle.sy_needs.specs.Elements.{is_written}
use Rattle.sy_onecopy.specs.Step.{buffer_put}

-- what a command wrote: where it failed, nothing
abbrev pub log_of : Outcome → List (Cell × ℤ)
log_of (Wrote log) = log
log_of (Failed fault) = []

-- how a node that had this outcome stands
abbrev pub stage_by : Outcome → Stage
stage_by (Wrote log) = stage.Done
stage_by (Failed fault) = stage.Failed fault

-- the buffers after a host access put these numbers back
unfoldable pub put : List Need → List ℤ → List Buffer → List Buffer
put [] values buffers = buffers
put (n ∷ ns) values buffers = if writes n.mode then each_from (buffer_put n values) 0 buffers else buffers

-- the buffers after the entry, done on what they hold: a node writes, a host access puts back, and an end changes nothing
unfoldable pub after_work : OutcomeOf → List ℤ → List Need → Work → List Buffer → List Buffer
after_work out values needs (Node n q c) buffers = buffers_after needs (log_of (out c (inputs buffers needs))) buffers
after_work out values needs (Access t i) buffers = put needs values buffers
after_work out values needs (End t r) buffers = buffers

-- what an execution needs: what commands do, what the access at each index put back, and which entries it includes
pub record Execution : Type 0 where
  pub out : OutcomeOf
  pub given : ℕ → List ℤ
  pub includes : Entry → Bool

-- the buffers after the entry at k, if it is included
abbrev pub execute_one : Execution → ℕ → Entry → List Buffer → List Buffer
execute_one s k e buffers = if s.includes e then after_work s.out (s.given k) e.needs e.work buffers else buffers

-- one after another, each on what the ones before it left. The first has place k
abbrev pub execute : Execution → ℕ → List Entry → List Buffer → List Buffer
execute s k [] buffers = buffers
execute s k (e ∷ es) buffers = execute s (suc k) es (execute_one s k e buffers)

-- the test of the execution of what is done
abbrev pub is_over : Entry → Bool
is_over e = is_done e.stage

-- the test of the execution of all
abbrev pub is_any : Entry → Bool
is_any e = true

-- ---- what is said of buffers

-- the numbers of each buffer
abbrev pub numbers_of : List Buffer → List (List ℤ)
numbers_of buffers = map (λ x. x.values) buffers

-- element i of buffer b, if it is there
abbrev pub element : List Buffer → ℕ → ℕ → Option ℤ
element buffers b i = slice_get (values_at buffers b) i

-- an entry of the list has a need that writes element i of buffer b
unfoldable pub some_writes : List Entry → ℕ → ℕ → Bool
some_writes entries b i = list_any (λ e. is_written e.needs b i) entries

-- a need of the list has element i of buffer b
unfoldable pub some_has : List Need → ℕ → ℕ → Bool
some_has needs b i = list_any (λ n. has_cell n b i) needs
