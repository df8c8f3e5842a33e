-- The counts of entries by which a runtime tells what it would else look through all entries for.
use Rattle.std.specs.Prelude.{ℕ, Bool, not, ◌&&◌, nat_lt, if◌then◌else◌, List, count_by, Option, Some, None}
use Rattle.sy_work.specs.declared.endings.KernelError.{KernelError}
use Rattle.sy_onecopy.specs.declared.Entry.{Entry}
use Rattle.sy_onecopy.specs.Before.{is_done}
use Rattle.sy_onecopy.specs.Step.{is_node_on, is_past}
use Rattle.sy_onecopy.specs.Sequence.{is_command}

abbrev pub one_if : Bool → ℕ
one_if v = if v then 1 else 0

-- the entry is a node of the queue that is not done
abbrev pub is_open_on : ℕ → Entry → Bool
is_open_on q e = is_node_on q e.work && not (is_done e.stage)

-- it is a node of any queue that is not done
abbrev pub is_open_node : Entry → Bool
is_open_node e = is_command e.work && not (is_done e.stage)

unfoldable pub open_on : List Entry → ℕ → ℕ
open_on entries q = count_by (is_open_on q) entries

unfoldable pub open_nodes : List Entry → ℕ
open_nodes entries = count_by is_open_node entries

-- how many nodes of the queue below that number a wait for the queue still waits for
unfoldable pub open_below : List Entry → ℕ → ℕ → ℕ
open_below entries q n = count_by (λ e. not (is_past q n e)) entries

-- the error of the lesser node
abbrev pub lesser_error : Option KernelError → Option KernelError → Option KernelError
lesser_error None b = b
lesser_error (Some a) None = Some a
lesser_error (Some a) (Some b) = if nat_lt b.node a.node then Some b else Some a
