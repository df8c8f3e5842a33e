-- The status of an answer, and its line on standard error.
use Rattle.std.specs.Prelude.{ℕ, ℤ, pos, Bool, true, false, ◌&&◌, nat_le, if◌then◌else◌, List, [], ◌++◌, length, codes, decimal, unsigned_abs}
use Rattle.std.specs.Int.{int_rem_euclid}
use Rattle.sy_access.specs.declared.cells.Cell.{Cell}
use Rattle.sy_access.specs.declared.cells.Cell.TheVariants as cell
use Rattle.sy_note.specs.Notes.{note_line}
use Rattle.sy_work.specs.declared.asks.Errc.{Errc}
use Rattle.sy_work.specs.declared.asks.Errc.TheVariants as errc
use Rattle.sy_work.specs.declared.asks.Why.{Why}
use Rattle.sy_work.specs.declared.asks.Why.TheVariants as why
use Rattle.sy_work.specs.declared.endings.Cause.{Cause}
use Rattle.sy_work.specs.declared.endings.Cause.TheVariants as cause
use Rattle.sy_work.specs.declared.endings.HostTrap.{HostTrap}
use Rattle.sy_work.specs.declared.endings.KernelError.{KernelError}
use Rattle.sy_work.specs.declared.endings.Ending.{Ending}
use Rattle.sy_work.specs.declared.endings.Ending.TheVariants as ending
use Rattle.sy_top.specs.declared.notes.Ended.{Ended}
use Rattle.sy_top.specs.declared.notes.Ended.TheVariants as ended
use Rattle.sy_top.specs.declared.jobs.Settings.{Settings}
use Rattle.sy_top.specs.Trace.{trace_text}

-- the answer that a run's ending gives
abbrev pub ended_by : Ending → Ended
ended_by (ending.Returned value) = ended.Returned value
ended_by (ending.Terminated why) = ended.Terminated why
ended_by (ending.KernelFailed error) = ended.KernelFailed error
ended_by (ending.Trapped trap) = ended.Trapped trap
ended_by (ending.TurnsSpent thread line) = ended.TurnsSpent thread line
ended_by ending.Stuck = ended.Stuck
ended_by ending.OutputFull = ended.OutputFull
ended_by ending.HistoryFull = ended.HistoryFull

-- ---- statuses

-- the statuses from 121 to 136 belong to the other answers
abbrev pub own_status : ℕ → ℕ
own_status low = if nat_le 121 low && nat_le low 136 then 120 else low

-- the value modulo 256
abbrev pub returned_status : ℤ → ℕ
returned_status value = own_status (unsigned_abs (int_rem_euclid value (pos 256)))

abbrev pub status_of : Ended → ℕ
status_of ended.Checked = 0
status_of (ended.Returned value) = returned_status value
status_of ended.BadWords = 121
status_of ended.SourceTooLong = 122
status_of ended.ReadFault = 123
status_of (ended.Refused d) = 124
status_of (ended.Terminated w) = 125
status_of (ended.KernelFailed e) = 126
status_of (ended.Trapped t) = 127
status_of (ended.TurnsSpent t l) = 128
status_of ended.Stuck = 129
status_of ended.OutputFull = 130
status_of ended.HistoryFull = 131
status_of ended.WriteFault = 132
status_of ended.Memory = 133
status_of (ended.BadTrace l) = 134
status_of (ended.Illegal k) = 135
status_of ended.Unfinished = 136

-- ---- texts

unfoldable pub clash_text : List ℕ → ℕ → ℕ → List ℕ
clash_text place owner element = (place ++ decimal owner) ++ (codes " cell " ++ decimal element)

abbrev pub cell_text : Cell → List ℕ
cell_text (cell.Buffer b k) = clash_text (codes "clash at buffer ") b k
cell_text (cell.Local s k) = clash_text (codes "clash at local ") s k

abbrev pub cause_text : Cause → List ℕ
cause_text cause.Overflow = codes "overflow"
cause_text cause.ZeroDivisor = codes "division by zero"
cause_text cause.Shift = codes "shift count"
cause_text cause.Index = codes "index out of range"
cause_text cause.Leased = codes "leased vector"
cause_text cause.Turns = codes "turns spent"
cause_text (cause.Clash c) = cell_text c
cause_text cause.Divergence = codes "divergence"

abbrev pub errc_text : Errc → List ℕ
errc_text errc.Runtime = codes "terminated: errc::runtime"
errc_text errc.NdRange = codes "terminated: errc::nd_range"
errc_text errc.KernelArgument = codes "terminated: errc::kernel_argument"
errc_text errc.Invalid = codes "terminated: errc::invalid"
errc_text errc.MemoryAllocation = codes "terminated: errc::memory_allocation"

abbrev pub why_text : Why → List ℕ
why_text why.Joinable = codes "terminated: joinable"
why_text why.NotJoinable = codes "terminated: not joinable"
why_text why.Threads = codes "terminated: too many threads"
why_text why.Length = codes "terminated: length"
why_text (why.Errc e) = errc_text e

unfoldable pub at_text : ℕ → Cause → List ℕ
at_text line cause = (codes ", line " ++ decimal line) ++ codes ": " ++ cause_text cause

unfoldable pub item_text : ℕ → ℕ → List ℕ
item_text node item = (codes "kernel error: node " ++ decimal node) ++ (codes ", item " ++ decimal item)

unfoldable pub kernel_text : KernelError → List ℕ
kernel_text e = item_text e.node e.fault.item ++ at_text e.fault.line e.fault.cause

unfoldable pub trap_text : HostTrap → List ℕ
trap_text t = (codes "trap: thread " ++ decimal t.thread) ++ at_text t.line t.cause

unfoldable pub turns_text : ℕ → ℕ → List ℕ
turns_text thread line = (codes "turns spent: thread " ++ decimal thread) ++ (codes ", line " ++ decimal line)

-- the text of an answer, where it has one
abbrev pub ending_text : Ended → List ℕ
ending_text ended.Checked = []
ending_text (ended.Returned value) = []
ending_text ended.BadWords = codes "bad words"
ending_text ended.SourceTooLong = codes "source longer than 1048576 bytes"
ending_text ended.ReadFault = codes "read fault"
ending_text ended.WriteFault = codes "write fault"
ending_text (ended.Refused d) = note_line d
ending_text (ended.Terminated w) = why_text w
ending_text (ended.KernelFailed e) = kernel_text e
ending_text (ended.Trapped t) = trap_text t
ending_text (ended.TurnsSpent t l) = turns_text t l
ending_text ended.Stuck = codes "stuck"
ending_text ended.OutputFull = codes "output full"
ending_text ended.HistoryFull = codes "history full"
ending_text ended.Memory = codes "out of memory"
ending_text (ended.BadTrace l) = codes "bad trace: line " ++ decimal l
ending_text (ended.Illegal k) = codes "illegal step " ++ decimal k
ending_text ended.Unfinished = codes "trace ends before the run"

-- which is none for a run that ends well
abbrev pub is_silent : Ended → Bool
is_silent ended.Checked = true
is_silent (ended.Returned value) = true
is_silent e = false

-- the line of an answer
unfoldable pub line_of : Ended → List ℕ
line_of e = if is_silent e then [] else codes "syclrun: " ++ ending_text e ++ codes "\n"

-- ---- what is told of a run besides

-- how many commands it submitted, how many steps its threads made, and how often a buffer was copied
unfoldable pub stats_line : ℕ → ℕ → ℕ → List ℕ
stats_line commands steps copies = ((codes "syclrun: commands " ++ decimal commands) ++ (codes ", steps " ++ decimal steps)) ++ ((codes ", copies " ++ decimal copies) ++ codes "\n")

-- where the settings ask for them, the stats line and the trace
unfoldable pub tail_of : Settings → List ℕ → ℕ → ℕ → List ℕ
tail_of set order commands copies = (if set.stats then stats_line commands (length order) copies else []) ++ (if set.trace then trace_text order else [])

-- these answers come after a run has begun
abbrev pub has_run : Ended → Bool
has_run ended.Checked = false
has_run ended.BadWords = false
has_run ended.SourceTooLong = false
has_run ended.ReadFault = false
has_run (ended.Refused d) = false
has_run ended.Memory = false
has_run (ended.BadTrace l) = false
has_run e = true

-- what standard error is told of an answer and its run
unfoldable pub note_of : Settings → Ended → List ℕ → ℕ → ℕ → List ℕ
note_of set e order commands copies = line_of e ++ (if has_run e then tail_of set order commands copies else [])
