-- Dimensions as numbers.
use Rattle.std.specs.Prelude.{ℕ}
use Rattle.sy_typed.specs.declared.things.Dimensions.{Dimensions}
use Rattle.sy_typed.specs.declared.things.Dimensions.TheVariants as dimensions

abbrev pub dimension_count : Dimensions → ℕ
dimension_count dimensions.One = 1
dimension_count dimensions.Two = 2
dimension_count dimensions.Three = 3
