-- What a run of the program promises.
use Rattle.std.specs.Prelude.{◌≡◌, ℕ, ◌+◌, ◌<◌, ◌≤◌, Bool, true, false, List, [], length, Option, IfSome, All, Result, Ok, Err}
use Rattle.std.specs.Io.KnownBytes.{Appends, Keeps}
use Rattle.sy_io.specs.Faults.{Rose}
use Rattle.sy_io.specs.Known.{AppendsFront, ConsumesExactly}
use Rattle.sy_note.specs.declared.Code.TheVariants.{NotBuilt}
use Rattle.sy_note.specs.declared.Diagnostic.{Diagnostic}
use Rattle.sy_work.specs.declared.endings.Ending.{Ending}
use Rattle.sy_work.specs.declared.endings.Ending.TheVariants as ending
use Rattle.sy_work.specs.Programs.{Program}
use Rattle.sy_onecopy.specs.State.{start}
use Rattle.sy_onecopy.specs.Sequence.{IsRun, IsSerial}
use Rattle.sy_top.specs.declared.jobs.Job.{Job}
use Rattle.sy_top.specs.declared.jobs.Job.TheVariants.{Check, Serial, Run as JobRun, SelfTest, Replay}
use Rattle.sy_top.specs.declared.jobs.Settings.{Settings}
use Rattle.sy_top.specs.declared.words.BadWords.{BadWords}
use Rattle.sy_top.specs.declared.notes.Ended.{Ended}
use Rattle.sy_top.specs.declared.notes.Ended.TheVariants as ended
use Rattle.sy_top.specs.declared.runs.Run.{Run}
use Rattle.sy_top.specs.declared.runs.Note.{Note}
use Rattle.sy_top.specs.declared.runs.Note.TheVariants as note
use Rattle.sy_sums.specs.Commands.{commands}
use Rattle.sy_tree.specs.declared.tree.Unit.{Unit as SourceUnit}
use Rattle.sy_top.specs.Sources.{IsAcceptedSource, Accepted, Breaks}
use Rattle.sy_top.specs.Notes.{line_of, note_of}

-- ---- the source

-- the job runs an accepted source as that program. Mode check runs none, and the other jobs are not built yet
abbrev pub Runs : Settings → Job → List ℕ → Program → Type 0
Runs set Serial bytes p = Accepted bytes set.turns p
Runs set Check bytes p = ⊥
Runs set JobRun bytes p = ⊥
Runs set SelfTest bytes p = ⊥
Runs set Replay bytes p = ⊥

-- the job takes the source: mode check an accepted one, the others one that they run
abbrev pub Takes : Settings → Job → List ℕ → Type 0
Takes set Check bytes = (unit : SourceUnit) × IsAcceptedSource bytes unit
Takes set job bytes = (p : Program) × Runs set job bytes p

-- a source has 1 MiB at most
abbrev pub source_limit : ℕ
source_limit = 1048576

-- ---- what a call finds and leaves outside

-- a source or a sink: the bytes that were left of it or taken by it before the call, those by the call's end, where it
-- tells them, and how many faults it counted before the call and by its end
pub record Stream : Type 0 where
  pub before : Option (List ℕ)
  pub now : Option (List ℕ)
  pub faults_before : ℕ
  pub faults_now : ℕ

abbrev pub stream : Option (List ℕ) → Option (List ℕ) → ℕ → ℕ → Stream
stream before now faults_before faults_now = record { before = before; now = now; faults_before = faults_before; faults_now = faults_now }

-- it counted no fault in the call
abbrev pub IsFaultless : Stream → Type 0
IsFaultless s = s.faults_now ≡ s.faults_before

-- it counted one fault in the call
abbrev pub HasFault : Stream → Type 0
HasFault s = Rose s.faults_before s.faults_now

pub record Outside : Type 0 where
  pub source : Stream
  -- standard output and standard error
  pub out : Stream
  pub err : Stream

abbrev pub outside : Stream → Stream → Stream → Outside
outside source out err = record { source = source; out = out; err = err }

-- what a sink was told, by what is noted of it
abbrev pub Tells : Stream → List ℕ → Note → Type 0
Tells s text note.Nothing = (text ≡ []) × Keeps s.before s.now × IsFaultless s
Tells s text note.Written = (0 < length text) × Appends s.before s.now text × IsFaultless s
Tells s text note.Failed = AppendsFront s.before s.now text × HasFault s

-- nothing was run and nothing was written but the line of the answer
pub record Untouched (o : Outside) (run : Run) : Type 0 where
  pub no_order : run.order.items ≡ []
  pub no_copies : run.copies ≡ 0
  pub no_bytes : Keeps o.out.before o.out.now
  pub no_fault : IsFaultless o.out
  pub told : Tells o.err (line_of run.ended) run.note

-- the source was not read
pub record Unread (source : Stream) : Type 0 where
  pub same : Keeps source.before source.now
  pub no_fault : IsFaultless source

-- the source was read to its end, and gave these bytes and no fault
pub record IsRead (source : Stream) (bytes : List ℕ) : Type 0 where
  pub whole : IfSome source.before (λ left. bytes ≡ left)
  pub within : length bytes ≤ source_limit
  pub no_fault : IsFaultless source

-- one byte more than the limit was read of the source, with no fault before it
pub record IsTooLong (source : Stream) : Type 0 where
  pub more : IfSome source.before (λ left. source_limit < length left)
  pub taken : ConsumesExactly source.before source.now (source_limit + 1)
  pub no_fault : IsFaultless source

-- ---- runs

-- The bytes that were left of the source are accepted with this program and no other. The one-copy machine makes the
-- steps of the order, in which the least thread that may step makes each, and ends so, with this output.
pub record IsRunOf (o : Outside) (set : Settings) (p : Program) (run : Run) (end : Ending) (output : List ℕ) : Type 0 where
  pub bytes : List ℕ
  pub read : IsRead o.source bytes
  pub accepted : Runs set set.job bytes p
  pub only : (q : Program) → Runs set set.job bytes q → q ≡ p
  pub makes : IsRun p run.order.items end output run.copies
  pub serial : IsSerial p (start p) run.order.items
  -- there is one thread
  pub main_alone : All (λ t. t ≡ 0) run.order.items
  -- the line of the answer, and what the settings want to be told of the run
  pub told : Tells o.err (note_of set run.ended run.order.items (commands p run.order.items) run.copies) run.note

-- the headline: what was written is the output of that run, whose ending is the answer's, and no fault was met
pub record Ran (o : Outside) (set : Settings) (run : Run) (end : Ending) : Type 0 where
  pub program : Program
  pub output : List ℕ
  pub is_run : IsRunOf o set program run end output
  pub written : Appends o.out.before o.out.now output
  pub no_fault : IsFaultless o.out

-- writing met a fault, and took a part of the output from its front
pub record Broke (o : Outside) (set : Settings) (run : Run) : Type 0 where
  pub program : Program
  pub end : Ending
  pub output : List ℕ
  pub is_run : IsRunOf o set program run end output
  pub written : AppendsFront o.out.before o.out.now output
  pub fault : HasFault o.out

-- the diagnostic of a job that is not built
abbrev pub not_built : Diagnostic
not_built = record { spot = record { line = 1; column = 1 }; code = NotBuilt }

-- why the job refuses a source; mode check never since it is not built
abbrev pub Rejects : Job → List ℕ → Diagnostic → Type 0
Rejects Check bytes d = Breaks bytes d.code d.spot × (d.code ≡ NotBuilt → ⊥)
Rejects Serial bytes d = Breaks bytes d.code d.spot
Rejects job bytes d = d ≡ not_built

-- mode check: the source was read to its end, and is accepted
pub record Checks (o : Outside) (set : Settings) (run : Run) : Type 0 where
  pub job : set.job ≡ Check
  pub bytes : List ℕ
  pub read : IsRead o.source bytes
  pub unit : SourceUnit
  pub accepted : IsAcceptedSource bytes unit
  pub untouched : Untouched o run

-- the source was read to its end, and the job doesn't take it
pub record Refuses (o : Outside) (set : Settings) (run : Run) (d : Diagnostic) : Type 0 where
  pub bytes : List ℕ
  pub read : IsRead o.source bytes
  pub why : Rejects set.job bytes d
  pub refused : Takes set set.job bytes → ⊥
  pub untouched : Untouched o run

-- when each answer of a job that reads its source comes, and what it leaves
abbrev pub Cause : Outside → Settings → Run → Ended → Type 0
Cause o set run (ended.Returned v) = Ran o set run (ending.Returned v)
Cause o set run (ended.Terminated w) = Ran o set run (ending.Terminated w)
Cause o set run (ended.KernelFailed e) = Ran o set run (ending.KernelFailed e)
Cause o set run (ended.Trapped t) = Ran o set run (ending.Trapped t)
Cause o set run (ended.TurnsSpent t l) = Ran o set run (ending.TurnsSpent t l)
Cause o set run ended.Stuck = Ran o set run ending.Stuck
Cause o set run ended.OutputFull = Ran o set run ending.OutputFull
Cause o set run ended.HistoryFull = Ran o set run ending.HistoryFull
Cause o set run ended.Checked = Checks o set run
Cause o set run (ended.Refused d) = Refuses o set run d
Cause o set run ended.SourceTooLong = IsTooLong o.source × Untouched o run
Cause o set run ended.ReadFault = HasFault o.source × Untouched o run
Cause o set run ended.WriteFault = Broke o set run
Cause o set run ended.Memory = IsFaultless o.source × Untouched o run
-- these answers never come of a job that is built
Cause o set run ended.BadWords = ⊥
Cause o set run (ended.BadTrace l) = ⊥
Cause o set run (ended.Illegal k) = ⊥
Cause o set run ended.Unfinished = ⊥

abbrev pub HasCause : Outside → Settings → Run → Type 0
HasCause o set run = Cause o set run run.ended

-- ---- the words

-- an answer that comes before a source is read
pub record Answered (o : Outside) (run : Run) (end : Ended) : Type 0 where
  pub ended : run.ended ≡ end
  pub untouched : Untouched o run
  pub unread : Unread o.source

-- the self test has a source of its own, and is not built
abbrev pub AnswersJob : Job → Outside → Settings → Run → Type 0
AnswersJob SelfTest o set run = Answered o run (ended.Refused not_built)
AnswersJob job o set run = HasCause o set run

-- what a call with these words comes to
abbrev pub Answers : Result Settings BadWords → Outside → Run → Type 0
Answers (Ok set) o run = AnswersJob set.job o set run
Answers (Err e) o run = Answered o run ended.BadWords

-- the job waits for nobody
abbrev pub is_plain : Job → Bool
is_plain Check = true
is_plain Serial = true
is_plain Replay = true
is_plain JobRun = false
is_plain SelfTest = false
