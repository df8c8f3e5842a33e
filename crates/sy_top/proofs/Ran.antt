-- What a run that was written leaves.
use Rattle.std.proofs.Common.{◌≡◌, ℕ, true, List, [], ◌++◌, ◌⊎◌, inl, inr, refl, sym, ap, ◌∙◌, subst}
use Rattle.std.specs.Prelude.{if◌then◌else◌, All}
use Rattle.std.specs.Io.KnownBytes.{Appends, Keeps}
use Rattle.sy_io.specs.Known.{AppendsFront}
use Rattle.sy_work.specs.declared.endings.Ending.{Ending}
use Rattle.sy_work.specs.declared.endings.Ending.TheVariants as ending
use Rattle.sy_note.specs.declared.Diagnostic.{Diagnostic}
use Rattle.sy_onecopy.specs.State.{start}
use Rattle.sy_onecopy.specs.Sequence.{IsRun, IsSerial}
use Rattle.sy_top.specs.declared.call.Ready.{Ready}
use Rattle.sy_top.specs.declared.jobs.Job.{Job}
use Rattle.sy_top.specs.declared.jobs.Job.TheVariants.{Check, Serial, Run as JobRun, SelfTest, Replay}
use Rattle.sy_top.specs.declared.jobs.Settings.{Settings}
use Rattle.sy_tree.specs.declared.tree.Unit.{Unit as SourceUnit}
use Rattle.sy_top.specs.declared.notes.Ended.{Ended}
use Rattle.sy_top.specs.declared.notes.Ended.TheVariants as ended
use Rattle.sy_top.specs.declared.runs.Run.{Run}
use Rattle.sy_top.specs.declared.runs.Note.TheVariants as note
use Rattle.sy_top.specs.Notes.{line_of, tail_of, note_of, has_run, ended_by}
use Rattle.sy_sums.specs.Commands.{commands}
use Rattle.sy_top.specs.Headline.{Outside, Stream, IsFaultless, HasFault, IsRead, Tells, Untouched, Takes, Rejects, IsRunOf, Ran, Cause, HasCause, AnswersJob, is_plain}
use Rattle.sy_top.specs.Judged.{IsReady, Writes}
use Rattle.sy_top.specs.Sources.{IsAcceptedSource}

-- it was written whole, or writing met a fault
whole_or_fault : (s : Stream) (end : Ending) (output : List ℕ) (e : Ended) → Writes s end output e →
    ((e ≡ ended.WriteFault) × AppendsFront s.before s.now output × HasFault s) ⊎ ((e ≡ ended_by end) × Appends s.before s.now output × IsFaultless s)
whole_or_fault s end output ended.WriteFault h = inl (refl, h.0, h.1)
whole_or_fault s end output e h = inr h

run_began : (end : Ending) → has_run (ended_by end) ≡ true
run_began (ending.Returned v) = refl
run_began (ending.Terminated w) = refl
run_began (ending.KernelFailed e) = refl
run_began (ending.Trapped t) = refl
run_began (ending.TurnsSpent t l) = refl
run_began ending.Stuck = refl
run_began ending.OutputFull = refl
run_began ending.HistoryFull = refl

told_whole : (set : Settings) (e : Ended) (order : List ℕ) (c k : ℕ) → has_run e ≡ true → line_of e ++ tail_of set order c k ≡ note_of set e order c k
unfolding note_of
told_whole set e order c k h = sym (ap (λ v. line_of e ++ (if v then tail_of set order c k else [])) h)

cause_of : (o : Outside) (set : Settings) (run : Run) (end : Ending) → Ran o set run end → Cause o set run (ended_by end)
cause_of o set run (ending.Returned v) r = r
cause_of o set run (ending.Terminated w) r = r
cause_of o set run (ending.KernelFailed e) r = r
cause_of o set run (ending.Trapped t) r = r
cause_of o set run (ending.TurnsSpent t l) r = r
cause_of o set run ending.Stuck r = r
cause_of o set run ending.OutputFull r = r
cause_of o set run ending.HistoryFull r = r

module _ (o : Outside) (set : Settings) (run : Run) (ready : Ready) (bytes : List ℕ) (is : IsReady set bytes ready) (read : IsRead o.source bytes) (order : run.order.items ≡ ready.order.items) (copies : run.copies ≡ ready.copies)
    (told : Tells o.err (line_of run.ended ++ ready.tail.items) run.note) where
  tail_is : ready.tail.items ≡ tail_of set run.order.items (commands is.program run.order.items) run.copies
  tail_is = is.tail ∙ ap (λ l. tail_of set l (commands is.program l) ready.copies) (sym order) ∙ ap (tail_of set run.order.items (commands is.program run.order.items)) (sym copies)

  is_run_of : has_run run.ended ≡ true → IsRunOf o set is.program run ready.ending ready.output
  is_run_of h = record {
    bytes = bytes;
    read = read;
    accepted = is.accepted;
    only = is.only;
    makes = subst (λ l. IsRun is.program l ready.ending ready.output run.copies) (sym order) (subst (IsRun is.program ready.order.items ready.ending ready.output) (sym copies) is.run);
    serial = subst (IsSerial is.program (start is.program)) (sym order) is.serial;
    main_alone = subst (All (λ t. t ≡ 0)) (sym order) is.main_alone;
    told = subst (λ text. Tells o.err text run.note) (ap (λ l. line_of run.ended ++ l) tail_is ∙ told_whole set run.ended run.order.items (commands is.program run.order.items) run.copies h) told;
  }

  by_case : ((run.ended ≡ ended.WriteFault) × AppendsFront o.out.before o.out.now ready.output × HasFault o.out) ⊎ ((run.ended ≡ ended_by ready.ending) × Appends o.out.before o.out.now ready.output × IsFaultless o.out) → HasCause o set run
  by_case (inl (e, front, rose)) =
      subst (Cause o set run) (sym e) (record {
        program = is.program;
        end = ready.ending;
        output = ready.output;
        is_run = is_run_of (ap has_run e);
        written = front;
        fault = rose;
      })
  by_case (inr (e, all, none)) =
      subst (Cause o set run) (sym e) (cause_of o set run ready.ending (record {
        program = is.program;
        output = ready.output;
        is_run = is_run_of (ap has_run e ∙ run_began ready.ending);
        written = all;
        no_fault = none;
      }))

  pub has_cause : Writes o.out ready.ending ready.output run.ended → HasCause o set run
  has_cause w = by_case (whole_or_fault o.out ready.ending ready.output run.ended w)

-- a source that was read and refused
pub refused_cause : (o : Outside) (set : Settings) (run : Run) (d : Diagnostic) (bytes : List ℕ) → run.ended ≡ ended.Refused d → IsRead o.source bytes
    → Rejects set.job bytes d → (Takes set set.job bytes → ⊥) → Untouched o run → HasCause o set run
refused_cause o set run d bytes e read why none untouched =
    subst (Cause o set run) (sym e) (record { bytes = bytes; read = read; why = why; refused = none; untouched = untouched })

-- a source that was read and is accepted
pub checked_cause : (o : Outside) (set : Settings) (run : Run) (bytes : List ℕ) → run.ended ≡ ended.Checked → IsRead o.source bytes
    → (set.job ≡ Check) × ((unit : SourceUnit) × IsAcceptedSource bytes unit) → Untouched o run → HasCause o set run
checked_cause o set run bytes e read is untouched =
    subst (Cause o set run) (sym e) (record { job = is.0; bytes = bytes; read = read; unit = is.1.0; accepted = is.1.1; untouched = untouched })

-- nothing is told of an accepted source
checked_line : line_of ended.Checked ≡ []
unfolding line_of
checked_line = refl

pub checked_untouched : (o : Outside) (run : Run) → run.ended ≡ ended.Checked → run.order.items ≡ [] → run.copies ≡ 0 → run.note ≡ note.Nothing
    → Keeps o.out.before o.out.now → IsFaultless o.out → Keeps o.err.before o.err.now → IsFaultless o.err → Untouched o run
checked_untouched o run e order copies n keeps faultless err_keeps err_faultless = record {
  no_order = order;
  no_copies = copies;
  no_bytes = keeps;
  no_fault = faultless;
  told = subst (Tells o.err (line_of run.ended)) (sym n) (ap line_of e ∙ checked_line, err_keeps, err_faultless);
}

-- a job that waits for nobody is answered as its source is
pub plain_answers : (job : Job) (o : Outside) (set : Settings) (run : Run) → is_plain job ≡ true → HasCause o set run → AnswersJob job o set run
plain_answers Check o set run e h = h
plain_answers Serial o set run e h = h
plain_answers Replay o set run e h = h
plain_answers JobRun o set run e h = h
plain_answers SelfTest o set run e h = absurd cc
