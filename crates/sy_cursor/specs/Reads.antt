-- What a function that parses ensures: what the reader answers, unless memory is wanting.
use Rattle.std.specs.Prelude.{◌≡◌, ◌≢◌, List, Option, Some, None, Result, Ok, Err}
use Rattle.sy_lex.specs.declared.Token.{Token}
use Rattle.sy_cursor.specs.declared.cursor.Stop.{Stop}
use Rattle.sy_cursor.specs.declared.cursor.Stop.TheVariants.{Memory}

abbrev pub Reads : {A : Type 0} → Option (A × List Token) → Result A Stop → List Token → Type 0
Reads answer (Ok a) new = answer ≡ Some (a, new)
Reads answer (Err e) new = e ≢ Memory → answer ≡ None
