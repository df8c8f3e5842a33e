-- The text of a diagnostic.
use Rattle.std.specs.Prelude.{ℕ, List, ◌++◌, codes, decimal}
use Rattle.sy_note.specs.declared.Code.{Code}
use Rattle.sy_note.specs.declared.Code.TheVariants.{Lexical, Grammar, NoMain, UnknownName, Redeclared, BadLiteral, BadConstant, BadDimension, BadDeclaration, WrongArguments, UnknownMember, WrongOperand, BadElement, NotAssignable, ModeBroken, NotInKernel, NotInGroup, NotInHost, BadLambda, KernelCapture, ThreadCapture, BadReturn, LoopWord, BadCall, NotBuilt}
use Rattle.sy_note.specs.declared.Diagnostic.{Diagnostic}

-- the words for a broken rule
abbrev pub rule_text : Code → List ℕ
rule_text Lexical = codes "no token"
rule_text Grammar = codes "not in the grammar"
rule_text NoMain = codes "no main"
rule_text UnknownName = codes "unknown name"
rule_text Redeclared = codes "declared twice"
rule_text BadLiteral = codes "literal too wide"
rule_text BadConstant = codes "not a constant"
rule_text BadDimension = codes "bad dimension"
rule_text BadDeclaration = codes "bad declaration"
rule_text WrongArguments = codes "wrong arguments"
rule_text UnknownMember = codes "unknown member"
rule_text WrongOperand = codes "wrong operand"
rule_text BadElement = codes "element kinds differ"
rule_text NotAssignable = codes "not assignable"
rule_text ModeBroken = codes "against the mode"
rule_text NotInKernel = codes "not in a kernel"
rule_text NotInGroup = codes "not in a command group"
rule_text NotInHost = codes "only in a group or kernel"
rule_text BadLambda = codes "wrong lambda"
rule_text KernelCapture = codes "kernel capture"
rule_text ThreadCapture = codes "thread capture"
rule_text BadReturn = codes "wrong return"
rule_text LoopWord = codes "outside a loop"
rule_text BadCall = codes "wrong call"
rule_text NotBuilt = codes "not built"

-- the line, the column and the rule
abbrev pub note_line : Diagnostic → List ℕ
note_line d = decimal d.spot.line ++ codes ":" ++ decimal d.spot.column ++ codes ": " ++ rule_text d.code
