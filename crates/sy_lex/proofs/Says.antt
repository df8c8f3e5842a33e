-- What an answer of `look` says of a text.
use Rattle.std.specs.Prelude.{ℕ, ◌<◌, ◌≤◌, List, length, take, drop}
use Rattle.sy_lex.specs.declared.scan.Front.{Front}
use Rattle.sy_lex.specs.declared.scan.Front.TheVariants.{Skip, Found, Stuck}
use Rattle.sy_lex.specs.Tokens.{IsSkipped, IsLongest, NoStep}

abbrev pub Says : List ℕ → Front → Type 0
Says bytes (Skip n) = (n ≤ length bytes) × (0 < n) × IsSkipped (take n bytes) (drop n bytes)
Says bytes (Found r n) = (n ≤ length bytes) × (0 < n) × IsLongest r (take n bytes) (drop n bytes)
Says bytes Stuck = NoStep bytes
