-- The core as it is made stands for the program before its first step.
use Rattle.std.proofs.Common.{◌≡◌, [], ◌∷◌, None, Some, refl, ap}
use Rattle.sy_work.specs.Programs.{Program}
use Rattle.sy_onecopy.specs.State.{opening, start, new_thread}
use Rattle.sy_onecopy.specs.Step.{give_all}
use Rattle.sy_settling.proofs.LegalOrderLemmas.{orderly-opening}
use Rattle.sy_sound.proofs.SoundLemmas.{opening-sound}
use Rattle.sy_lagging.specs.Lagging.{state_of, catch_up}
use Rattle.sy_coreboard.specs.Core.{StandsFor}
use Rattle.sy_coreboard.specs.Opening.{first_core}

opens : (p : Program) → start p ≡ catch_up p.outcome (state_of opening (new_thread p.main [] ∷ []))
unfolding give_all
opens p = refl

pub make-stands : (p : Program) → StandsFor p [] (new_thread p.main [] ∷ []) first_core
make-stands p = record {
  reached = ap Some (opens p);
  members = refl;
  kept = record {
    orderly = orderly-opening;
    sound = opening-sound;
    copies = λ q r v h. absurd cc;
    out = λ k x h. absurd cc;
    granted = λ k e g st. absurd cc;
    moving = λ q r v h. absurd cc;
    sources = λ r l. absurd (let z : None ≡ Some l.root = l.there in cc);
  };
}
