-- *Kernel*, *Reduction* and *Outcome*: what a command does on its inputs. (SYCL 2020, "SYCL kernel execution model")
use Rattle.std.specs.List.{range_with_len}
use Rattle.std.specs.Prelude.{Bool, Err, List, None, Ok, Option, Result, Some, [], false, filter, flat_map, if◌then◌else◌, map, min, not, pos, replicate, slice_index_or, suc, true, unwrap_or, zero, ℕ, ℤ, ◌*◌, ◌++◌, ◌+◌, ◌-◌, ◌/◌, ◌==◌, ◌∷◌}
use Rattle.sy_access.specs.Logs.{logged, same_cell}
use Rattle.sy_access.specs.declared.cells.Cell.{Cell}
use Rattle.sy_access.specs.declared.cells.Cell.TheVariants as cell
use Rattle.sy_num.specs.Scalars.{Scalar}
use Rattle.sy_num.specs.declared.Kind.{Kind}
use Rattle.sy_num.specs.declared.Undefined.{Undefined}
use Rattle.sy_range.specs.LinearIds.{linear_id, product}
use Rattle.sy_range.specs.declared.nd_ranges.Position.{Position}
use Rattle.sy_work.specs.Inputs.{results_number}
use Rattle.sy_work.specs.Moves.{copy_log, fill_log, writes_from}
use Rattle.sy_work.specs.Programs.{Input, OutcomeOf}
use Rattle.sy_work.specs.Reductions.{identity, step}
use Rattle.sy_work.specs.declared.asks.Answer.{Answer}
use Rattle.sy_work.specs.declared.commands.Command.TheVariants as commands
use Rattle.sy_work.specs.declared.commands.Kernel.{Kernel}
use Rattle.sy_work.specs.declared.commands.Outcome.{Outcome}
use Rattle.sy_work.specs.declared.commands.Outcome.TheVariants as outcomes
use Rattle.sy_work.specs.declared.commands.RedOp.{RedOp}
use Rattle.sy_work.specs.declared.commands.Reduction.{Reduction}
use Rattle.sy_work.specs.declared.endings.Cause.TheVariants as cause
use Rattle.sy_work.specs.declared.endings.Fault.{Fault}
use Rattle.sy_meaning.specs.declared.runs.Step.{Step}
use Rattle.sy_meaning.specs.declared.runs.Store.{Store}
use Rattle.sy_meaning.specs.Words.{word}
use Rattle.sy_meaning.specs.Frame.{local}
use Rattle.sy_meaning.specs.Making.{both}
use Rattle.sy_meaning.specs.Library.{coordinates}
use Rattle.sy_meaning.specs.Statements.{given}
use Rattle.sy_meaning.specs.Next.{item}
use Rattle.sy_meaning.specs.Items.{Came, Footprint, Item, cell_of, ended, failed, fault_or, first_clash, footprint, goes_on, phase, writes_in, written}

-- ---- the work-groups of a command

-- a plain range runs in groups of so many items
abbrev pub group_size : ℕ
group_size = 64

abbrev pub plain_position : List ℕ → ℕ → Position
plain_position global i = record { global = global; local = None; item = i }

-- items after one another, the last group shorter
abbrev pub chunks : ℕ → ℕ → ℕ → List (List ℕ)
chunks zero from count = []
chunks (suc n) from count =
    if count == 0
    then []
    else range_with_len from (min group_size count) ∷ chunks n (from + group_size) (count - group_size)

abbrev pub plain_groups : List ℕ → List (List Position)
plain_groups global = map (map (plain_position global)) (chunks (product global) 0 (product global))

abbrev pub item_in_group : List ℕ → List ℕ → List ℕ → List ℕ → ℕ
item_in_group global local group i = linear_id (both (λ b j. b + j) (both (λ g l. g * l) group local) i) global

abbrev pub nd_position : List ℕ → List ℕ → List ℕ → ℕ → Position
nd_position global local group k =
    record { global = global; local = Some local; item = item_in_group global local group (coordinates k local) }

abbrev pub nd_group : List ℕ → List ℕ → List ℕ → List Position
nd_group global local group = map (nd_position global local group) (range_with_len 0 (product local))

abbrev pub nd_groups : List ℕ → List ℕ → List (List Position)
nd_groups global local =
    let counts = both (λ g l. g / l) global local in
    map (λ k. nd_group global local (coordinates k counts)) (range_with_len 0 (product counts))

-- ---- one group, phase after phase

-- an item with its touches of buffers in all phases
abbrev pub Touched : Type 0
Touched = Position × List Step

-- what a group did: the touches of its items, and its writes in their order
pub record Done : Type 0 where
  pub touches : List Touched
  pub writes : List (Cell × ℤ)

abbrev pub Grouped : Type 0
Grouped = Result Done Fault

abbrev pub is_buffer_cell : Cell → Bool
is_buffer_cell (cell.Buffer b i) = true
is_buffer_cell (cell.Local l i) = false

abbrev pub buffer_steps : List Step → List Step
buffer_steps ss = filter (λ s. is_buffer_cell (cell_of s)) ss

abbrev pub touches_added : List Touched → List Footprint → List Touched
touches_added [] fs = map (λ f. (f.position, buffer_steps f.steps)) fs
touches_added (t ∷ ts) [] = t ∷ ts
touches_added (t ∷ ts) (f ∷ fs) = (t.0, t.1 ++ buffer_steps f.steps) ∷ touches_added ts fs

abbrev pub with_answers : List (List Answer) → List Answer → List (List Answer)
with_answers [] bs = map (λ b. b ∷ []) bs
with_answers (a ∷ more) [] = a ∷ more
with_answers (a ∷ more) (b ∷ bs) = (a ++ b ∷ []) ∷ with_answers more bs

-- each item alone
abbrev pub footprints : Item → List Position → List Store → List (List Answer) → List Footprint
footprints item [] stores given = []
footprints item (p ∷ ps) stores [] = footprint item p stores [] ∷ footprints item ps stores []
footprints item (p ∷ ps) stores (a ∷ more) = footprint item p stores a ∷ footprints item ps stores more

abbrev pub came : Came → Done → (List Answer → Grouped) → Grouped
came ended done go = Ok done
came (goes_on bs) done go = go bs
came (failed f) done go = Err f

abbrev pub done_after : Done → List Footprint → Done
done_after done fs = record { touches = touches_added done.touches fs; writes = done.writes ++ writes_in fs }

module _ (item : Item) (ps : List Position) where
  -- after phases with these stores, of which the last is the one now, with the answers, touches and writes so far
  abbrev pub phases : ℕ → List Store → Store → List (List Answer) → Done → Grouped
  phases zero stores now given done = Ok done
  phases (suc n) stores now given done =
      let fs = footprints item ps (stores ++ now ∷ []) given in
      came (phase fs) (done_after done fs) (λ bs. phases n (stores ++ now ∷ []) (written now fs) (with_answers given bs) (done_after done fs))

abbrev pub nothing_done : Done
nothing_done = record { touches = []; writes = [] }

-- ---- a kernel: each group alone on the opening store

-- the group's least item that clashes with an earlier group, at its first such step
abbrev pub group_clash : List Step → List Touched → Option Fault
group_clash earlier [] = None
group_clash earlier (t ∷ ts) = fault_or t.0 (first_clash earlier t.1) (group_clash earlier ts)

abbrev pub all_touches : Done → List Step
all_touches d = flat_map (λ t. t.1) d.touches

abbrev pub or_fault : Option Fault → Result Done Fault → Result Done Fault
or_fault (Some f) rest = Err f
or_fault None rest = rest

abbrev pub both_done : Done → Done → Done
both_done d e = record { touches = d.touches ++ e.touches; writes = d.writes ++ e.writes }

-- a group after earlier ones: its own failure goes first
abbrev pub after_groups : Done → Grouped → Grouped
after_groups before (Err f) = Err f
after_groups before (Ok d) = or_fault (group_clash (all_touches before) d.touches) (Ok (both_done before d))

abbrev pub store_of : List Input → Store
store_of inputs = record { cells = flat_map (λ x. writes_from x.0 x.1 x.2) inputs }

abbrev pub go_on_after : Grouped → (Done → Grouped) → Grouped
go_on_after (Err f) go = Err f
go_on_after (Ok d) go = go d

module _ (item : Item) (turns : ℕ) (inputs : List Input) where
  abbrev pub group_done : List Position → Grouped
  group_done ps = phases item ps (turns + 1) [] (store_of inputs) [] nothing_done

  -- the groups in their order
  abbrev pub groups_done : Done → List (List Position) → Grouped
  groups_done before [] = Ok before
  groups_done before (ps ∷ gs) = go_on_after (after_groups before (group_done ps)) (λ d. groups_done d gs)

-- ---- the log

-- a cell that is listed takes the number, another one stands behind all
abbrev pub noted : Cell × ℤ → List (Cell × ℤ) → List (Cell × ℤ)
noted w [] = w ∷ []
noted w (v ∷ vs) = if same_cell v.0 w.0 then w ∷ vs else v ∷ noted w vs

-- each cell once with its last number, in the order of first writes
abbrev pub noted_all : List (Cell × ℤ) → List (Cell × ℤ) → List (Cell × ℤ)
noted_all log [] = log
noted_all log (w ∷ ws) = noted_all (noted w log) ws

-- what was written to buffers
abbrev pub log_of : List (Cell × ℤ) → List (Cell × ℤ)
log_of ws = noted_all [] (filter (λ w. is_buffer_cell w.0) ws)

abbrev pub logged_outcome : Grouped → Outcome
logged_outcome (Ok d) = outcomes.Wrote (log_of d.writes)
logged_outcome (Err f) = outcomes.Failed f

-- ---- reductions ("Reduction variables")

abbrev pub taken_next : Result Scalar Undefined → ℕ → (ℤ → Result ℤ ℕ) → Result ℤ ℕ
taken_next (Ok s) i go = go s.num
taken_next (Err u) i go = Err i

-- the items' results are taken in the order of linear ids
abbrev pub taken : RedOp → Kind → ℕ → ℤ → List ℤ → Result ℤ ℕ
taken op k i a [] = Ok a
taken op k i a (x ∷ xs) = taken_next (step op k a x) i (λ b. taken op k (i + 1) b xs)

-- the list into which the items put their results
abbrev pub results_input : Reduction → Input
results_input d = (results_number, 0, replicate (product d.range.global) (identity d.op d.kind))

abbrev pub result_at : List (Cell × ℤ) → ℕ → ℤ
result_at log i = unwrap_or (logged log (cell.Buffer results_number i)) (pos 0)

abbrev pub results_in : Reduction → List (Cell × ℤ) → List ℤ
results_in d log = map (result_at log) (range_with_len 0 (product d.range.global))

abbrev pub is_result_cell : Cell → Bool
is_result_cell (cell.Buffer b i) = b == results_number
is_result_cell (cell.Local l i) = false

-- the log without the results
abbrev pub others_in : List (Cell × ℤ) → List (Cell × ℤ)
others_in log = filter (λ w. not (is_result_cell w.0)) log

abbrev pub reduced_to : Reduction → Input → List (Cell × ℤ) → Result ℤ ℕ → Outcome
reduced_to d x log (Ok z) = outcomes.Wrote (others_in log ++ (cell.Buffer x.0 x.1, z) ∷ [])
reduced_to d x log (Err i) = outcomes.Failed (record { item = i; line = d.line; cause = cause.Overflow })

-- from the variable's former value, or from the identity
abbrev pub reduction_start : Reduction → Input → ℤ
reduction_start d x = if d.keep then word 0 x.2 else identity d.op d.kind

-- the kernel's failure goes first
abbrev pub folded : Reduction → Input → Outcome → Outcome
folded d x (outcomes.Failed f) = outcomes.Failed f
folded d x (outcomes.Wrote log) = reduced_to d x log (taken d.op d.kind 0 (reduction_start d x) (results_in d log))

-- ---- commands

-- the items of a kernel
abbrev pub Items : Type 0
Items = Kernel → Item

abbrev pub no_input : Input
no_input = (0, 0, [])

abbrev pub input_at : List Input → ℕ → Input
input_at inputs k = slice_index_or inputs k no_input

abbrev pub groups_of : Bool → List ℕ → List ℕ → List (List Position)
groups_of true global local = plain_groups global
groups_of false global local = nd_groups global local

abbrev pub run_kernel : Items → Kernel → List (List Position) → List Input → Outcome
run_kernel items k gs inputs = logged_outcome (groups_done (items k) k.turns inputs nothing_done gs)

abbrev pub reduction_groups : Reduction → List (List Position)
reduction_groups d = groups_of d.plain d.range.global d.range.local

abbrev pub outcome : Items → OutcomeOf
outcome items (commands.Single k) inputs = run_kernel items k (plain_groups (1 ∷ [])) inputs
outcome items (commands.Plain r k) inputs = run_kernel items k (plain_groups r) inputs
outcome items (commands.Nd r k) inputs = run_kernel items k (nd_groups r.global r.local) inputs
outcome items (commands.Fill target z) inputs = outcomes.Wrote (fill_log (input_at inputs target) z)
outcome items (commands.Copy source target) inputs = outcomes.Wrote (copy_log (input_at inputs source) (input_at inputs target))
outcome items (commands.Reduce d) inputs =
    folded d (input_at inputs d.need) (run_kernel items d.kernel (reduction_groups d) (inputs ++ results_input d ∷ []))
