use Rattle.std.proofs.Common.{sym, subst}
use Rattle.sy_onecopy.specs.State.{Board}
use Rattle.sy_sound.specs.Sound.{IsSound}
use Rattle.sy_sound.proofs.SoundLemmas.{settle_upto-sound}
use Rattle.sy_sound.specs.Known.{AllKnown}
use Rattle.sy_sound.proofs.KnownLemmas.{known_upto}
use Rattle.sy_board.proofs.board.OneCopy.settle.Goals as goal

pub settle_at-requires-clause-sound : goal.settle_at-requires-clause-sound
settle_at-requires-clause-sound g c =
    subst (λ (b : Board). IsSound b) (sym c.loop-k.invariant) (settle_upto-sound (g.R.Runner.outcome c.args.runner.now) c.args.self.now c.loop-k.k c.requires.sound)

pub settle_at-requires-clause-known : goal.settle_at-requires-clause-known
settle_at-requires-clause-known g c =
    subst (λ (b : Board). AllKnown (g.R.Runner.knows c.args.runner.now) b.entries) (sym c.loop-k.invariant)
    (known_upto (g.R.Runner.knows c.args.runner.now) (g.R.Runner.outcome c.args.runner.now) c.args.self.now c.loop-k.k c.requires.known)
