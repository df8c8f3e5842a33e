-- What is computed of two numbers at one place of two lists.
use Rattle.std.specs.Prelude.{ℕ, ◌+◌, ◌-◌, ◌/◌, ◌%◌}
use Rattle.sy_requests.specs.declared.extents.Pairing.{Pairing}
use Rattle.sy_requests.specs.declared.extents.Pairing.TheVariants.{Remainder, Quotient, Last}

abbrev pub paired : Pairing → ℕ → ℕ → ℕ
paired Remainder a b = a % b
paired Quotient a b = a / b
paired Last a b = a + b - 1
