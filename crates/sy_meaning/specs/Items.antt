-- *Footprint* and *Phase*: what the items of a work-group do between two stops. (SYCL 2020, "SYCL memory model")
use Rattle.std.specs.List.{list_any}
use Rattle.std.specs.Prelude.{Bool, Err, List, None, Ok, Option, Some, [], false, filter_map, flat_map, if◌then◌else◌, map, pos, reverse, suc, true, zero, ℕ, ℤ, ◌&&◌, ◌++◌, ◌||◌, ◌∷◌}
use Rattle.sy_access.specs.Logs.{same_cell}
use Rattle.sy_access.specs.declared.cells.Cell.{Cell}
use Rattle.sy_range.specs.declared.nd_ranges.Position.{Position}
use Rattle.sy_work.specs.Collective.{Collected, collective, same_stop, stop_line}
use Rattle.sy_work.specs.declared.asks.Answer.{Answer}
use Rattle.sy_work.specs.declared.asks.Answer.TheVariants as answer
use Rattle.sy_work.specs.declared.asks.Ask.{Ask}
use Rattle.sy_work.specs.declared.asks.Ask.TheVariants as asks
use Rattle.sy_work.specs.declared.asks.Halt.TheVariants as halt
use Rattle.sy_work.specs.declared.endings.Cause.{Cause}
use Rattle.sy_work.specs.declared.endings.Cause.TheVariants as cause
use Rattle.sy_work.specs.declared.endings.Fault.{Fault}
use Rattle.sy_meaning.specs.declared.runs.Run.{Run}
use Rattle.sy_meaning.specs.declared.runs.Step.{Step}
use Rattle.sy_meaning.specs.declared.runs.Step.TheVariants as steps
use Rattle.sy_meaning.specs.declared.runs.Store.{Store}
use Rattle.sy_meaning.specs.Library.{no_position}
use Rattle.sy_meaning.specs.Next.{item}

-- an item at its stop, with its steps in the phase in their order
pub record Footprint : Type 0 where
  pub position : Position
  pub steps : List Step
  pub stop : Ask

-- what an item does in its last phase, after the stores and answers of its phases
abbrev pub Item : Type 0
Item = Position → List Store → List Answer → Ask × Run

abbrev pub footprint : Item → Position → List Store → List Answer → Footprint
footprint item p stores answers =
    let came = item p stores answers in record { position = p; steps = reverse came.1.world.steps; stop = came.0 }

-- ---- clashes

abbrev pub cell_of : Step → Cell
cell_of (steps.Read c line) = c
cell_of (steps.Wrote c z line) = c

abbrev pub line_of : Step → ℕ
line_of (steps.Read c line) = line
line_of (steps.Wrote c z line) = line

abbrev pub is_write : Step → Bool
is_write (steps.Read c line) = false
is_write (steps.Wrote c z line) = true

-- two touches of one cell, one of them a write
abbrev pub clashes : Step → Step → Bool
clashes s t = same_cell (cell_of s) (cell_of t) && (is_write s || is_write t)

-- why an item fails, and at which line
abbrev pub Failure : Type 0
Failure = Cause × ℕ

abbrev pub trap_of : Ask → Option Failure
trap_of (asks.Halt (halt.Trapped c line)) = Some (c, line)
trap_of a = None

-- the first step that clashes with earlier touches
abbrev pub first_clash : List Step → List Step → Option Failure
first_clash earlier [] = None
first_clash earlier (s ∷ ss) =
    if list_any (clashes s) earlier then Some (cause.Clash (cell_of s), line_of s) else first_clash earlier ss

-- an item traps only at its end
abbrev pub or_trap : Option Failure → Ask → Option Failure
or_trap (Some x) stop = Some x
or_trap None stop = trap_of stop

abbrev pub fault_at : Position → Failure → Fault
fault_at p f = record { item = p.item; line = f.1; cause = f.0 }

abbrev pub fault_or : Position → Option Failure → Option Fault → Option Fault
fault_or p (Some f) later = Some (fault_at p f)
fault_or p None later = later

-- the least item that traps or clashes with an earlier one
abbrev pub first_fault : List Step → List Footprint → Option Fault
first_fault earlier [] = None
first_fault earlier (f ∷ fs) =
    fault_or f.position (or_trap (first_clash earlier f.steps) f.stop) (first_fault (earlier ++ f.steps) fs)

-- ---- divergence

abbrev pub or_line : Option ℕ → Option ℕ → ℕ
or_line (Some line) other = line
or_line None (Some line) = line
or_line None None = 0

-- the least item whose stop is another than that of the first
abbrev pub divergence : Ask → List Footprint → Option Fault
divergence first [] = None
divergence first (f ∷ fs) =
    if same_stop first f.stop
    then divergence first fs
    else Some (fault_at f.position (cause.Divergence, or_line (stop_line first) (stop_line f.stop)))

-- ---- phases

-- how a phase ends: the group has ended, it goes on with these answers, or it fails
pub data Came : Type 0 where
  ended : Came
  goes_on : List Answer → Came
  failed : Fault → Came

abbrev pub number_asked : Ask → ℤ
number_asked (asks.Collect c line x) = x.num
number_asked a = pos 0

abbrev pub numbers_asked : List Footprint → List ℤ
numbers_asked fs = map (λ f. number_asked f.stop) fs

abbrev pub contents : ℤ → Answer
contents z = answer.Contents (z ∷ [])

abbrev pub position_at : List Footprint → ℕ → Position
position_at [] k = no_position
position_at (f ∷ fs) zero = f.position
position_at (f ∷ fs) (suc k) = position_at fs k

abbrev pub collected : ℕ → List Footprint → Collected → Came
collected line fs (Ok zs) = goes_on (map contents zs)
collected line fs (Err k) = failed (fault_at (position_at fs k) (cause.Overflow, line))

-- where all stops agree with this one
abbrev pub agreed : List Footprint → Ask → Came
agreed fs (asks.Barrier c line) = goes_on (map (λ f. answer.Done) fs)
agreed fs (asks.Collect c line x) = collected line fs (collective x.form x.op x.kind (numbers_asked fs))
agreed fs a = ended

abbrev pub or_agreed : List Footprint → Ask → Option Fault → Came
or_agreed fs first (Some f) = failed f
or_agreed fs first None = agreed fs first

abbrev pub or_stops : List Footprint → Option Fault → Came
or_stops fs (Some f) = failed f
or_stops [] None = ended
or_stops (f ∷ fs) None = or_agreed (f ∷ fs) f.stop (divergence f.stop fs)

abbrev pub phase : List Footprint → Came
phase fs = or_stops fs (first_fault [] fs)

-- ---- the next store

abbrev pub write_of : Step → Option (Cell × ℤ)
write_of (steps.Read c line) = None
write_of (steps.Wrote c z line) = Some (c, z)

-- all writes, item by item
abbrev pub writes_in : List Footprint → List (Cell × ℤ)
writes_in fs = filter_map write_of (flat_map (λ f. f.steps) fs)

-- the last write of a cell stands first
abbrev pub written : Store → List Footprint → Store
written s fs = record { cells = reverse (writes_in fs) ++ s.cells }
