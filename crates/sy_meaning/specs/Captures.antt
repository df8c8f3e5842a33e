-- What the law on captures speaks of.
use Rattle.std.specs.Prelude.{List, [], length, ℤ, ⊤, ◌∷◌, ◌≡◌}
use Rattle.sy_num.specs.Kinds.{InRange}
use Rattle.sy_typed.specs.declared.things.Thing.{Thing}
use Rattle.sy_typed.specs.declared.things.Thing.TheVariants as thing
use Rattle.sy_typed.specs.declared.tree.Variable.{Variable}
use Rattle.sy_meaning.specs.Words.{Object, width}

-- the words that an object of the type has: an integer one in its range
abbrev pub HasType : Thing → Object → Type 0
HasType (thing.Integer k) o = (z : ℤ) × (o ≡ z ∷ []) × InRange k z
HasType t o = length o ≡ width t

abbrev pub AllHave : List Variable → List Object → Type 0
AllHave [] [] = ⊤
AllHave [] (o ∷ os) = ⊥
AllHave (x ∷ xs) [] = ⊥
AllHave (x ∷ xs) (o ∷ os) = HasType x.what o × AllHave xs os
