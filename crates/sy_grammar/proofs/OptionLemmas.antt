-- What isn't there is none.
use Rattle.std.specs.Prelude.{◌≡◌, Option, Some, None, refl}

pub not_some : {A : Type 0} (o : Option A) → ((x : A) → o ≡ Some x → ⊥) → o ≡ None
not_some None never = refl
not_some (Some x) never = absurd (never x refl)
