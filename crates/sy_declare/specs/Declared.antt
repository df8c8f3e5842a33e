-- A declaration round what it declares.
use Rattle.std.specs.Prelude.{Result, Ok, Err}
use Rattle.sy_note.specs.declared.Spot.{Spot}
use Rattle.sy_typed.specs.declared.tree.TypedDeclaration.{TypedDeclaration}
use Rattle.sy_typed.specs.declared.tree.Variable.{Variable}

-- the declaration of this variable, that begins at s
abbrev pub made : {Stop : Type 0} → Spot → (Variable → TypedDeclaration) → Result Variable Stop → Result (Spot × TypedDeclaration) Stop
made s make (Ok v) = Ok (s, make v)
made s make (Err e) = Err e
