use Rattle.std.proofs.Common.{◌≡◌, ◌∙◌, ap, sym, subst}
use Rattle.sy_onecopy.specs.State.{Board}
use Rattle.sy_onecopy.specs.Step.{apply, begin_ask}
use Rattle.sy_sound.specs.Sound.{IsSound}
use Rattle.sy_sound.proofs.SoundLemmas.{asked-sound}
use Rattle.sy_sound.specs.Known.{AllKnown}
use Rattle.sy_sound.proofs.KnownLemmas.{known_asked}
use Rattle.sy_board.proofs.SizeLemmas.{begun_room}
use Rattle.sy_board.proofs.board.OneCopy.turn.Goals as goal

pub apply-requires : goal.apply-requires
apply-requires g c = begun_room c.args.self.now c.begin.new.self c.args.t c.requires.sound c.requires.time c.begin.ensures

pub settle-requires-clause-sound : goal.settle-requires-clause-sound
settle-requires-clause-sound g c =
    let e : c.apply.new.self ≡ apply (begin_ask c.args.self.now c.args.t) c.args.t c.args.ask.now = c.in_ok-apply.ensures ∙ ap (λ (b : Board). apply b c.args.t c.args.ask.now) c.begin.ensures in
    subst (λ (b : Board). IsSound b) (sym e) (asked-sound c.args.self.now c.args.t c.args.ask.now c.requires.sound c.requires.time)

pub settle-requires-clause-known : goal.settle-requires-clause-known
settle-requires-clause-known g c =
    let e : c.apply.new.self ≡ apply (begin_ask c.args.self.now c.args.t) c.args.t c.args.ask.now = c.in_ok-apply.ensures ∙ ap (λ (b : Board). apply b c.args.t c.args.ask.now) c.begin.ensures in
    subst (λ (b : Board). AllKnown (g.R.Runner.knows c.args.runner.now) b.entries) (sym e) (known_asked (g.R.Runner.knows c.args.runner.now) c.args.self.now c.args.t c.args.ask.now c.requires.ask c.requires.known)
