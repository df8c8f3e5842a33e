-- Broken rules, and which of them is told first.
use Rattle.std.specs.Prelude.{ℕ, ◌+◌, ◌*◌, nat_lt, if◌then◌else◌, List, [], ◌∷◌, map, Option, Some, None}
use Rattle.sy_note.specs.declared.Code.{Code}
use Rattle.sy_note.specs.declared.Code.TheVariants as code
use Rattle.sy_note.specs.declared.Diagnostic.{Diagnostic}
use Rattle.sy_note.specs.declared.Spot.{Spot}

-- the rule's place in the table
abbrev pub table_place : Code → ℕ
table_place code.Lexical = 0
table_place code.Grammar = 1
table_place code.NoMain = 2
table_place code.UnknownName = 3
table_place code.Redeclared = 4
table_place code.BadLiteral = 5
table_place code.BadConstant = 6
table_place code.BadDimension = 7
table_place code.BadDeclaration = 8
table_place code.WrongArguments = 9
table_place code.UnknownMember = 10
table_place code.WrongOperand = 11
table_place code.BadElement = 12
table_place code.NotAssignable = 13
table_place code.ModeBroken = 14
table_place code.NotInKernel = 15
table_place code.NotInGroup = 16
table_place code.NotInHost = 17
table_place code.BadLambda = 18
table_place code.KernelCapture = 19
table_place code.ThreadCapture = 20
table_place code.BadReturn = 21
table_place code.LoopWord = 22
table_place code.BadCall = 23
table_place code.NotBuilt = 24

-- by line, then by column, then by the table
abbrev pub rank : Diagnostic → ℕ
rank d = (d.spot.line * 4294967296 + d.spot.column) * 32 + table_place d.code

-- the one that is told first; of two alike the former
abbrev pub sooner : Option Diagnostic → Option Diagnostic → Option Diagnostic
sooner None b = b
sooner (Some a) None = Some a
sooner (Some a) (Some b) = Some (if nat_lt (rank b) (rank a) then b else a)

abbrev pub first_broken : List Diagnostic → Option Diagnostic
first_broken [] = None
first_broken (d ∷ ds) = sooner (Some d) (first_broken ds)

-- a rule that is broken at these places
abbrev pub at : Code → List Spot → List Diagnostic
at c spots = map (λ s. record { spot = s; code = c }) spots
