-- Truth values.
use Rattle.std.proofs.Common.{◌≡◌, Bool, true, false, refl, ap, ◌∙◌}
use Rattle.std.specs.Prelude.{◌&&◌, ◌||◌, not}

pub or_left : (a b : Bool) → (a || b) ≡ false → a ≡ false
or_left false b h = refl
or_left true b h = h

pub or_right : (a b : Bool) → (a || b) ≡ false → b ≡ false
or_right false b h = h
or_right true b h = let z : true ≡ false = h in cc

pub or_false : (a b : Bool) → a ≡ false → b ≡ false → (a || b) ≡ false
or_false a b h i = ap (λ x. x || b) h ∙ i

pub and_first : (a b : Bool) → (a && b) ≡ true → a ≡ true
and_first true b h = refl
and_first false b h = h

pub and_second : (a b : Bool) → (a && b) ≡ true → b ≡ true
and_second true b h = h
and_second false b h = let z : false ≡ true = h in cc

pub and_true : (a b : Bool) → a ≡ true → b ≡ true → (a && b) ≡ true
and_true a b h i = ap (λ x. x && b) h ∙ i

pub not_true : (a : Bool) → not a ≡ true → a ≡ false
not_true false h = refl
not_true true h = let z : false ≡ true = h in cc

-- of two that are not both true, one that is true shows the other false
pub turned_round : (a b : Bool) → (a ≡ true → b ≡ false) → b ≡ true → a ≡ false
turned_round false b h i = refl
turned_round true b h i = let e : b ≡ false = h refl in let z : true ≡ false = cc in z
