-- Where the bytes of a token lie.
use Rattle.std.specs.Prelude.{ℕ, List}
use Rattle.sy_lex.specs.declared.Kept.{Kept}
use Rattle.sy_lex.specs.declared.Kept.TheVariants.{Vector, Inside}

-- the bytes, wherever they lie
abbrev pub kept_bytes : Kept → List ℕ
kept_bytes (Vector v) = v.items
kept_bytes (Inside bytes) = bytes
