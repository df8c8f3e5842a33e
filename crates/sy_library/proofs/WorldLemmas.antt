-- What has nothing to do with the world is so in each.
use Rattle.std.proofs.Common.{◌≡◌, ◌∙◌}
use Rattle.std.specs.Prelude.{Err, IfOk, Ok, Result}
use Rattle.sy_meaning.specs.declared.outcomes.Evaluated.{Evaluated}
use Rattle.sy_meaning.specs.declared.runs.World.{World}
use Rattle.sy_meaning.specs.Outcomes.{Op}

pub there : {E : Type 0} (r : Result Evaluated E) (f g : Op) (w : World) → IfOk r (λ v. (u : World) → (v, u) ≡ f u) → f w ≡ g w → IfOk r (λ v. (v, w) ≡ g w)
there (Ok v) f g w h e = h w ∙ e
there (Err x) f g w h e = h

pub always : {E : Type 0} (r : Result Evaluated E) (f g : Op) → IfOk r (λ v. (u : World) → (v, u) ≡ f u) → ((u : World) → f u ≡ g u) → IfOk r (λ v. (u : World) → (v, u) ≡ g u)
always (Ok v) f g h e = λ u. h u ∙ e u
always (Err x) f g h e = h
