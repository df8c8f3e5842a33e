-- What the effect of an entry is, by its work.
use Rattle.std.proofs.Common.{◌≡◌, ℕ, List, Some, ap, ◌∙◌, sym, subst}
use Rattle.std.specs.Prelude.{slice_get}
use Rattle.std.proofs.lemmas.Option.{same_Some}
use Rattle.sy_access.specs.declared.access.Need.{Need}
use Rattle.sy_work.specs.Programs.{OutcomeOf, Input}
use Rattle.sy_work.specs.Inputs.{InputsFit}
use Rattle.sy_work.specs.declared.commands.Command.{Command}
use Rattle.sy_work.specs.declared.commands.Outcome.{Outcome}
use Rattle.sy_work.specs.declared.asks.Answer.TheVariants.{Contents}
use Rattle.sy_onecopy.specs.declared.Entry.{Entry}
use Rattle.sy_onecopy.specs.declared.Work.TheVariants.{Node, Access, End}
use Rattle.sy_onecopy.specs.declared.Stage.TheVariants.{Granted, Done}
use Rattle.sy_onecopy.specs.State.{Board}
use Rattle.sy_onecopy.specs.Outcome.{inputs, values_at}
use Rattle.sy_onecopy.specs.Settle.{took, effect, reply, to_stage, first_of}
use Rattle.sy_sound.specs.Sound.{IsSound}
use Rattle.sy_sound.proofs.InputLemmas.{node_fits}

pub fit_here : (b : Board) (k n q : ℕ) (e : Entry) (c : Command) (given : List Input) → IsSound b → slice_get b.entries k ≡ Some e → e.work ≡ Node n q c → given ≡ inputs b.buffers e.needs → InputsFit c given
fit_here b k n q e c given s here is eg = subst (λ l. InputsFit c l) (sym eg) (node_fits b k n q e c s here is)

-- an effect found for the entry at k is that of each entry at k
any_entry : (out : OutcomeOf) (b d : Board) (k : ℕ) (x e : Entry) → slice_get b.entries k ≡ Some x → slice_get b.entries k ≡ Some e → d ≡ effect out b k x x.work → d ≡ effect out b k e e.work
any_entry out b d k x e hx he h = h ∙ ap (λ (y : Entry). effect out b k y y.work) (same_Some x e (sym hx ∙ he))

pub effect_node : (out : OutcomeOf) (b d : Board) (k n q : ℕ) (x : Entry) (c : Command) (given : List Input) (needs : List Need) (o : Outcome) → slice_get b.entries k ≡ Some x → x.work ≡ Node n q c → given ≡ inputs b.buffers x.needs → o ≡ out c given → needs ≡ x.needs → d ≡ took b k needs o → (e : Entry) → slice_get b.entries k ≡ Some e → d ≡ effect out b k e e.work
unfolding effect
effect_node out b d k n q x c given needs o here is eg eo en ed e at =
    any_entry out b d k x e here at
    (ed ∙ ap (λ l. took b k l o) en ∙ ap (took b k x.needs) (eo ∙ ap (out c) eg) ∙ ap (effect out b k x) (sym is))

pub effect_access : (out : OutcomeOf) (b d : Board) (k t i : ℕ) (x : Entry) (given : List Input) → slice_get b.entries k ≡ Some x → x.work ≡ Access t i → given ≡ inputs b.buffers x.needs → d ≡ reply (to_stage b k Granted) t (Contents (first_of given)) → (e : Entry) → slice_get b.entries k ≡ Some e → d ≡ effect out b k e e.work
unfolding effect
effect_access out b d k t i x given here is eg ed e at =
    any_entry out b d k x e here at
    (ed ∙ ap (λ l. reply (to_stage b k Granted) t (Contents (first_of l))) eg ∙ ap (effect out b k x) (sym is))

pub effect_end : (out : OutcomeOf) (b d : Board) (k t r : ℕ) (x : Entry) → slice_get b.entries k ≡ Some x → x.work ≡ End t r → d ≡ reply (to_stage b k Done) t (Contents (values_at b.buffers r)) → (e : Entry) → slice_get b.entries k ≡ Some e → d ≡ effect out b k e e.work
unfolding effect
effect_end out b d k t r x here is ed e at = any_entry out b d k x e here at (ed ∙ ap (effect out b k x) (sym is))
