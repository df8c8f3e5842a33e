-- Rules of typing by their codes.
use Rattle.std.specs.Prelude.{Bool, true, false}
use Rattle.sy_note.specs.declared.Code.{Code}
use Rattle.sy_note.specs.declared.Code.TheVariants as code

-- of neither tokens nor the grammar, nor of what is not built
abbrev pub is_typing : Code → Bool
is_typing code.Lexical = false
is_typing code.Grammar = false
is_typing code.NotBuilt = false
is_typing c = true
