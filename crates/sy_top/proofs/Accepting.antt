-- A source that has a tree is accepted with one program, or refused.
use Rattle.std.specs.Prelude.{Result, Ok, Err, IfOk}
use Rattle.std.proofs.Common.{◌≡◌, ℕ, List, Option, Some, None, refl, sym, ap, ◌∙◌, subst}
use Rattle.sy_note.specs.declared.Code.TheVariants.{NotBuilt}
use Rattle.sy_note.specs.declared.Diagnostic.{Diagnostic}
use Rattle.sy_note.specs.declared.FrontStop.{FrontStop}
use Rattle.sy_note.specs.declared.FrontStop.TheVariants as stop
use Rattle.sy_note.specs.declared.Spot.{Spot}
use Rattle.sy_sums.specs.Form.{first_unbuilt}
use Rattle.sy_sums.specs.Sums.{sums_program}
use Rattle.sy_tree.specs.declared.tree.Unit.{Unit as SourceUnit}
use Rattle.sy_work.specs.Programs.{Program}
use Rattle.sy_top.specs.declared.call.Judged.{Judged}
use Rattle.sy_top.specs.declared.call.Judged.TheVariants.{Ran, Checked, Refused}
use Rattle.sy_top.specs.declared.call.Ready.{Ready}
use Rattle.sy_top.specs.declared.jobs.Job.TheVariants.{Check, Serial}
use Rattle.sy_top.specs.declared.jobs.Settings.{Settings}
use Rattle.sy_top.specs.Headline.{Runs, Takes, Rejects}
use Rattle.sy_top.specs.Judged.{IsReady, IsRefusal, IsRefusalBy, IsRunOfTree, Judges, JudgesTree}
use Rattle.sy_top.specs.Sources.{Accepted, IsAcceptedSource, IsNotAccepted, Breaks}

none_and_some : (o : Option Spot) (s : Spot) → o ≡ None → o ≡ Some s → ⊥
none_and_some o s e f = absurd cc

-- ---- a source that is refused before its job is asked

module _ (set : Settings) (bytes : List ℕ) (rejects : (d : Diagnostic) → IsNotAccepted bytes d → Rejects set.job bytes d)
    (takes : Takes set set.job bytes → (unit : SourceUnit) × IsAcceptedSource bytes unit) where
  refuses : (d : Diagnostic) → IsNotAccepted bytes d → (j : Judged) → IsRefusal d j → Judges set bytes j
  refuses d none (Ran ready) h = absurd h
  refuses d none Checked h = absurd h
  refuses d none (Refused e note) h = (
    rejects e (subst (IsNotAccepted bytes) (sym h.0) none),
    λ t. let u = takes t in none.1 u.0 u.1,
    h.1,
  )

  stops : (s : FrontStop) → ((d : Diagnostic) → s ≡ stop.Refused d → IsNotAccepted bytes d) → (j : Judged) → IsRefusalBy s j → Judges set bytes j
  stops (stop.Refused d) none j h = refuses d (none d refl) j h
  stops stop.Memory none j h = absurd h

  refused_by : {E : Type 0} (s : FrontStop) → ((d : Diagnostic) → s ≡ stop.Refused d → IsNotAccepted bytes d) → (r : Result Judged E) → IfOk r (IsRefusalBy s) → IfOk r (Judges set bytes)
  refused_by s none (Ok j) h = stops s none j h
  refused_by s none (Err e) h = tt

-- ---- mode check

-- a form that is not built is one of an accepted source
built : (bytes : List ℕ) (d : Diagnostic) → IsNotAccepted bytes d → d.code ≡ NotBuilt → ⊥
built bytes d none e = let b : Breaks bytes NotBuilt d.spot = subst (λ c. Breaks bytes c d.spot) e none.0 in none.1 b.0 b.1

module _ (set : Settings) (bytes : List ℕ) (check : set.job ≡ Check) where
  pub check_refused : {E : Type 0} (s : FrontStop) → ((d : Diagnostic) → s ≡ stop.Refused d → IsNotAccepted bytes d) → (r : Result Judged E) → IfOk r (IsRefusalBy s) → IfOk r (Judges set bytes)
  check_refused s none r h =
      refused_by set bytes (λ d u. subst (λ j. Rejects j bytes d) (sym check) (u.0, built bytes d u)) (λ t. subst (λ j. Takes set j bytes) check t) s none r h

-- ---- mode serial

module _ (set : Settings) (bytes : List ℕ) (serial : set.job ≡ Serial) where
  accepted : (p : Program) → Runs set set.job bytes p → Accepted bytes set.turns p
  accepted p r = subst (λ j. Runs set j bytes p) serial r

  taken : Takes set set.job bytes → (p : Program) × Accepted bytes set.turns p
  taken t = subst (λ j. Takes set j bytes) serial t

  rejects : (d : Diagnostic) → Breaks bytes d.code d.spot → Rejects set.job bytes d
  rejects d b = subst (λ j. Rejects j bytes d) (sym serial) b

  module _ (unit : SourceUnit) (source : IsAcceptedSource bytes unit) (only : (v : SourceUnit) → IsAcceptedSource bytes v → v ≡ unit) where
    ready_of : (ready : Ready) → first_unbuilt unit ≡ None → IsRunOfTree set unit ready → IsReady set bytes ready
    ready_of ready built run = record {
      program = sums_program set.turns unit;
      accepted = subst (λ j. Runs set j bytes (sums_program set.turns unit)) (sym serial) (record { unit = unit; accepted = source; built = built; means = refl });
      only = λ q r. let a = accepted q r in a.means ∙ ap (sums_program set.turns) (only a.unit a.accepted);
      run = run.run;
      serial = run.serial;
      main_alone = run.main_alone;
      line = run.line;
      tail = run.tail;
    }

    unaccepted : (s : Spot) → first_unbuilt unit ≡ Some s → Takes set set.job bytes → ⊥
    unaccepted s unbuilt t =
        let a = (taken t).1 in
        none_and_some (first_unbuilt unit) s (ap first_unbuilt (sym (only a.unit a.accepted)) ∙ a.built) unbuilt

    judges : (j : Judged) → JudgesTree set unit j → Judges set bytes j
    judges (Ran ready) h = ready_of ready h.0 h.1
    judges Checked h = absurd h
    judges (Refused d note) h = (rejects d (subst (λ c. Breaks bytes c d.spot) (sym h.0) (unit, source, h.1)), unaccepted d.spot h.1, h.2)

    pub judges_tree : {E : Type 0} (r : Result Judged E) → IfOk r (JudgesTree set unit) → IfOk r (Judges set bytes)
    judges_tree (Ok j) h = judges j h
    judges_tree (Err e) h = tt

  pub serial_refused : {E : Type 0} (s : FrontStop) → ((d : Diagnostic) → s ≡ stop.Refused d → IsNotAccepted bytes d) → (r : Result Judged E) → IfOk r (IsRefusalBy s) → IfOk r (Judges set bytes)
  serial_refused s none r h =
      refused_by set bytes (λ d u. rejects d u.0) (λ t. let a = (taken t).1 in (a.unit, a.accepted)) s none r h
