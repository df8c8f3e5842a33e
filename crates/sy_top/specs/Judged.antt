-- What is known of a source before its output is written.
use Rattle.std.specs.Prelude.{◌≡◌, ℕ, Bool, true, false, List, Some, None, All}
use Rattle.std.specs.Io.KnownBytes.{Appends}
use Rattle.sy_io.specs.Known.{AppendsFront}
use Rattle.sy_work.specs.declared.endings.Ending.{Ending}
use Rattle.sy_io.specs.declared.ReadStop.{ReadStop}
use Rattle.sy_io.specs.declared.ReadStop.TheVariants.{TooLong, Fault, Memory}
use Rattle.sy_note.specs.declared.Code.TheVariants.{NotBuilt}
use Rattle.sy_note.specs.declared.Diagnostic.{Diagnostic}
use Rattle.sy_note.specs.declared.FrontStop.{FrontStop}
use Rattle.sy_note.specs.declared.FrontStop.TheVariants as stop
use Rattle.sy_work.specs.Programs.{Program}
use Rattle.sy_onecopy.specs.State.{start}
use Rattle.sy_onecopy.specs.Sequence.{IsRun, IsSerial}
use Rattle.sy_top.specs.declared.call.Judged.{Judged}
use Rattle.sy_top.specs.declared.call.Judged.TheVariants.{Ran, Checked, Refused}
use Rattle.sy_top.specs.declared.call.Ready.{Ready}
use Rattle.sy_top.specs.declared.jobs.Job.TheVariants.{Check}
use Rattle.sy_top.specs.declared.jobs.Settings.{Settings}
use Rattle.sy_top.specs.declared.runs.Note.{Note}
use Rattle.sy_top.specs.declared.runs.Note.TheVariants as note
use Rattle.sy_top.specs.declared.notes.Ended.{Ended}
use Rattle.sy_top.specs.declared.notes.Ended.TheVariants as ended
use Rattle.sy_sums.specs.Commands.{commands}
use Rattle.sy_sums.specs.Form.{first_unbuilt}
use Rattle.sy_sums.specs.Sums.{sums_program}
use Rattle.sy_tree.specs.declared.tree.Unit.{Unit as SourceUnit}
use Rattle.sy_top.specs.Headline.{Runs, Takes, Rejects, Stream, IsFaultless, HasFault}
use Rattle.sy_top.specs.Notes.{line_of, tail_of, ended_by}
use Rattle.sy_top.specs.Sources.{IsAcceptedSource}

-- the source is accepted, and this is its run
pub record IsReady (set : Settings) (bytes : List ℕ) (ready : Ready) : Type 0 where
  pub program : Program
  pub accepted : Runs set set.job bytes program
  pub only : (q : Program) → Runs set set.job bytes q → q ≡ program
  pub run : IsRun program ready.order.items ready.ending ready.output ready.copies
  pub serial : IsSerial program (start program) ready.order.items
  pub main_alone : All (λ t. t ≡ 0) ready.order.items
  pub line : ready.line.items ≡ line_of (ended_by ready.ending)
  pub tail : ready.tail.items ≡ tail_of set ready.order.items (commands program ready.order.items) ready.copies

-- a refusal with this diagnostic, and its note
abbrev pub IsRefusal : Diagnostic → Judged → Type 0
IsRefusal d (Ran ready) = ⊥
IsRefusal d Checked = ⊥
IsRefusal d (Refused e note) = (e ≡ d) × (note.items ≡ line_of (ended.Refused e))

-- the same where a layer of the front end stopped; without memory nothing is answered
abbrev pub IsRefusalBy : FrontStop → Judged → Type 0
IsRefusalBy (stop.Refused d) j = IsRefusal d j
IsRefusalBy stop.Memory j = ⊥

-- this is the run of this tree
pub record IsRunOfTree (set : Settings) (unit : SourceUnit) (ready : Ready) : Type 0 where
  pub run : IsRun (sums_program set.turns unit) ready.order.items ready.ending ready.output ready.copies
  pub serial : IsSerial (sums_program set.turns unit) (start (sums_program set.turns unit)) ready.order.items
  pub main_alone : All (λ t. t ≡ 0) ready.order.items
  pub line : ready.line.items ≡ line_of (ended_by ready.ending)
  pub tail : ready.tail.items ≡ tail_of set ready.order.items (commands (sums_program set.turns unit) ready.order.items) ready.copies

-- the tree was run, or has a form that is not built
abbrev pub JudgesTree : Settings → SourceUnit → Judged → Type 0
JudgesTree set unit Checked = ⊥
JudgesTree set unit (Ran ready) = (first_unbuilt unit ≡ None) × IsRunOfTree set unit ready
JudgesTree set unit (Refused d note) = (d.code ≡ NotBuilt) × (first_unbuilt unit ≡ Some d.spot) × (note.items ≡ line_of (ended.Refused d))

abbrev pub Judges : Settings → List ℕ → Judged → Type 0
Judges set bytes (Ran ready) = IsReady set bytes ready
Judges set bytes Checked = (set.job ≡ Check) × ((unit : SourceUnit) × IsAcceptedSource bytes unit)
Judges set bytes (Refused d note) = Rejects set.job bytes d × (Takes set set.job bytes → ⊥) × (note.items ≡ line_of (ended.Refused d))

-- the answer where the source was not read
abbrev pub ended_by_stop : ReadStop → Ended
ended_by_stop TooLong = ended.SourceTooLong
ended_by_stop Fault = ended.ReadFault
ended_by_stop Memory = ended.Memory

-- the output was written whole, or a fault was met and a part of it is written, from its front
abbrev pub Writes : Stream → Ending → List ℕ → Ended → Type 0
Writes s end output ended.WriteFault = AppendsFront s.before s.now output × HasFault s
Writes s end output answer = (answer ≡ ended_by end) × Appends s.before s.now output × IsFaultless s

-- ---- what is noted of standard error

abbrev pub is_failed : Note → Bool
is_failed note.Failed = true
is_failed n = false

-- of two texts that are told one after the other
abbrev pub joined : Note → Note → Note
joined note.Nothing n = n
joined note.Failed n = note.Failed
joined note.Written note.Failed = note.Failed
joined note.Written n = note.Written
