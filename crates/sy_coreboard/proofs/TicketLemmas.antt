-- What a command that is out promises to a runner.
use Rattle.std.proofs.Common.{◌≡◌, ℕ, List, Some, sym, ap, ◌∙◌, subst}
use Rattle.std.specs.Prelude.{slice_get, option_map, map}
use Rattle.std.proofs.lemmas.Option.{slice_get-map}
use Rattle.sy_work.specs.Programs.{Program, Input}
use Rattle.sy_work.specs.Inputs.{InputsFit}
use Rattle.sy_work.specs.declared.commands.Command.{Command}
use Rattle.sy_onecopy.specs.declared.Entry.{Entry}
use Rattle.sy_onecopy.specs.declared.Work.TheVariants.{Node}
use Rattle.sy_onecopy.specs.declared.Stage.TheVariants.{Pending}
use Rattle.sy_onecopy.specs.State.{Thread}
use Rattle.sy_onecopy.specs.Outcome.{inputs}
use Rattle.sy_onecopy.specs.Settle.{with_stage, settle}
use Rattle.sy_settling.specs.Orderly.{IsAt}
use Rattle.sy_settling.proofs.ListLemmas.{some_is}
use Rattle.sy_settling.proofs.AlikeLemmas.{alike-settle}
use Rattle.sy_sound.specs.Known.{AllKnown, Knows}
use Rattle.sy_sound.proofs.AgreeLemmas.{known_run}
use Rattle.sy_sound.proofs.InputLemmas.{node_fits}
use Rattle.sy_lagging.specs.Lagging.{state_of, catch_up}
use Rattle.sy_coreboard.specs.Core.{Core, StandsFor}
use Rattle.sy_coreboard.proofs.LiveLemmas.{mapped_some}
use Rattle.sy_coreboard.proofs.EndingLemmas.{give-entries}

-- stages don't matter to what is known
known-alike : (K : Command → Type 0) (es fs : List Entry) → map (with_stage Pending) es ≡ map (with_stage Pending) fs → AllKnown K fs → AllKnown K es
known-alike K es fs h all k n q e c g w =
    let there : option_map (with_stage Pending) (slice_get fs k) ≡ Some (with_stage Pending e) =
    sym (slice_get-map (with_stage Pending) fs k) ∙ ap (λ l. slice_get l k) (sym h) ∙ slice_get-map (with_stage Pending) es k ∙ ap (option_map (with_stage Pending)) g in
    let m = mapped_some (with_stage Pending) (slice_get fs k) (with_stage Pending e) there in
    all k n q m.0 c m.1 (ap (λ (x : Entry). x.work) m.2 ∙ w)

pub stands-known : (K : Command → Type 0) (p : Program) (order : List ℕ) (xs : List Thread) (c : Core) → Knows K p → StandsFor p order xs c → AllKnown K c.board.entries
stands-known K p order xs c all s =
    let settled = settle p.outcome c.board in
    let after = known_run K p all order (catch_up p.outcome (state_of c.board xs)) s.reached in
    known-alike K c.board.entries settled.entries (alike-settle p.outcome c.board).entries (subst (AllKnown K) (give-entries settled) after)

pub out-fits : (p : Program) (order : List ℕ) (xs : List Thread) (c : Core) (k n q : ℕ) (e : Entry) (w : Command) (given : List Input) → StandsFor p order xs c → c.out k ≡ Some given → IsAt c.board.entries k e → e.work ≡ Node n q w → InputsFit w given
out-fits p order xs c k n q e w given s h g work =
    let o = s.kept.out k given h in
    let is : o.entry ≡ e = some_is (sym o.free.0 ∙ g) in
    subst (InputsFit w) (sym (o.inputs ∙ ap (λ (x : Entry). inputs c.board.buffers x.needs) is)) (node_fits c.board k n q e w s.kept.sound g work)
