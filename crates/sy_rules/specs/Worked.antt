-- Small sources, each on one line, with the rules that they break: for each rule one that breaks it, and beside it
-- a neighbour that breaks none, and of two their typed programs. The text of each stands above its tree.
use Rattle.std.specs.Prelude.{◌≡◌, ℕ, Bool, true, false, List, [], ◌∷◌, Option, Some, None, pos, codes}
use Rattle.sy_note.specs.declared.Code.TheVariants as code
use Rattle.sy_note.specs.declared.Spot.{Spot}
use Rattle.sy_num.specs.declared.BinOp.TheVariants as binary
use Rattle.sy_num.specs.declared.Kind.{Kind}
use Rattle.sy_num.specs.declared.Kind.TheVariants as kind
use Rattle.sy_tree.specs.declared.operators.Operator.TheVariants as operator
use Rattle.sy_tree.specs.declared.operators.AssignmentOperator.TheVariants as assign
use Rattle.sy_tree.specs.declared.parts.Lexeme.{Lexeme}
use Rattle.sy_tree.specs.declared.parts.AccessTag.TheVariants as access
use Rattle.sy_tree.specs.declared.parts.Brackets.TheVariants as brackets
use Rattle.sy_tree.specs.declared.parts.Capture.{Capture}
use Rattle.sy_tree.specs.declared.parts.Capture.TheVariants as capture
use Rattle.sy_tree.specs.declared.parts.ConstSpecifier.{ConstSpecifier}
use Rattle.sy_tree.specs.declared.parts.ConstSpecifier.TheVariants as specifier
use Rattle.sy_tree.specs.declared.parts.ElementArguments.{ElementArguments}
use Rattle.sy_tree.specs.declared.parts.FunctionObject.TheVariants as combining
use Rattle.sy_tree.specs.declared.parts.IntegerType.{IntegerType}
use Rattle.sy_tree.specs.declared.parts.LambdaParameter.{LambdaParameter}
use Rattle.sy_tree.specs.declared.parts.LambdaParameterType.{LambdaParameterType}
use Rattle.sy_tree.specs.declared.parts.LambdaParameterType.TheVariants as parameter
use Rattle.sy_tree.specs.declared.parts.LibraryFunction.TheVariants as library
use Rattle.sy_tree.specs.declared.parts.ObjectType.TheVariants as object
use Rattle.sy_tree.specs.declared.parts.Parameter.{Parameter}
use Rattle.sy_tree.specs.declared.parts.Parameter.TheVariants as formal
use Rattle.sy_tree.specs.declared.parts.Qualified.{Qualified}
use Rattle.sy_tree.specs.declared.parts.ReferenceType.TheVariants as reference
use Rattle.sy_tree.specs.declared.parts.ReturnType.{ReturnType}
use Rattle.sy_tree.specs.declared.parts.ReturnType.TheVariants as returned
use Rattle.sy_tree.specs.declared.parts.TypeSpecifier.{TypeSpecifier}
use Rattle.sy_tree.specs.declared.parts.TypeSpecifier.TheVariants as type
use Rattle.sy_tree.specs.declared.tree.Constant.{Constant}
use Rattle.sy_tree.specs.declared.tree.Function.{Function}
use Rattle.sy_tree.specs.declared.tree.Argument.TheOpen.{Argument-F, Declaration-F, Declarator-F, Expr-F, FullExpression-F, Initializer-F, Printed-F, Stmt-F}
use Rattle.sy_tree.specs.declared.tree.Argument.{Argument, roll-Argument}
use Rattle.sy_tree.specs.declared.tree.Block.{Block, roll-Block}
use Rattle.sy_tree.specs.declared.tree.Declaration.{Declaration, roll-Declaration}
use Rattle.sy_tree.specs.declared.tree.Declarator.{Declarator, roll-Declarator}
use Rattle.sy_tree.specs.declared.tree.Expr.{Expr, roll-Expr}
use Rattle.sy_tree.specs.declared.tree.FullExpression.{FullExpression, roll-FullExpression}
use Rattle.sy_tree.specs.declared.tree.Initializer.{Initializer, roll-Initializer}
use Rattle.sy_tree.specs.declared.tree.Lambda.{Lambda, roll-Lambda}
use Rattle.sy_tree.specs.declared.tree.Printed.{Printed, roll-Printed}
use Rattle.sy_tree.specs.declared.tree.Stmt.{Stmt, roll-Stmt}
use Rattle.sy_tree.specs.declared.tree.Constant.{Constant}
use Rattle.sy_tree.specs.declared.tree.FileItem.{FileItem}
use Rattle.sy_tree.specs.declared.tree.FileItem.TheVariants as item
use Rattle.sy_tree.specs.declared.tree.Function.{Function}
use Rattle.sy_tree.specs.declared.tree.Unit.{Unit as SourceUnit}
use Rattle.sy_tree.specs.Layers.{ArgumentLayer, DeclarationLayer, DeclaratorLayer, ExprLayer, FullExpressionLayer, InitializerLayer, PrintedLayer, StmtLayer}
use Rattle.sy_typed.specs.declared.things.Member.TheVariants as member
use Rattle.sy_typed.specs.declared.things.Thing.{Thing}
use Rattle.sy_typed.specs.declared.things.Thing.TheVariants as thing
use Rattle.sy_typed.specs.declared.tree.Program.{Program}
use Rattle.sy_typed.specs.declared.tree.Typed.{Typed, roll-Typed}
use Rattle.sy_typed.specs.declared.tree.TypedArgument.TheVariants as typed_argument
use Rattle.sy_typed.specs.declared.tree.TypedBlock.{TypedBlock, roll-TypedBlock}
use Rattle.sy_typed.specs.declared.tree.TypedCapture.{TypedCapture}
use Rattle.sy_typed.specs.declared.tree.TypedCapture.TheVariants as typed_capture
use Rattle.sy_typed.specs.declared.tree.TypedDeclaration.TheVariants as typed_declaration
use Rattle.sy_typed.specs.declared.tree.TypedFull.TheVariants as typed_full
use Rattle.sy_typed.specs.declared.tree.TypedInitializer.TheVariants as typed_initializer
use Rattle.sy_typed.specs.declared.tree.TypedLambda.{TypedLambda, roll-TypedLambda}
use Rattle.sy_typed.specs.declared.tree.TypedNode.{TypedNode}
use Rattle.sy_typed.specs.declared.tree.TypedNode.TheVariants as node
use Rattle.sy_typed.specs.declared.tree.TypedStmt.{TypedStmt}
use Rattle.sy_typed.specs.declared.tree.TypedStmt.TheVariants as typed_stmt
use Rattle.sy_typed.specs.declared.tree.Variable.{Variable}
use Rattle.sy_rules.specs.Units.{broken_rules, program_of}

-- ---- parts at a column, and one level of each sort of tree

abbrev pub at : ℕ → Spot
at c = record { line = 1; column = c }

abbrev pub word : ℕ → List ℕ → Lexeme
word c t = record { spot = at c; text = t }

abbrev pub qualified : ℕ → ℕ → Qualified
qualified c d = record { namespace = at c; name = at d }

abbrev pub kind_at : ℕ → Kind → IntegerType
kind_at c k = record { spot = at c; kind = k }

abbrev pub elements : IntegerType → Option Lexeme → ElementArguments
elements k d = record { element = k; dimensions = d }

abbrev pub lambda_parameter : LambdaParameterType → Bool → Lexeme → LambdaParameter
lambda_parameter t r n = record { of = t; by_reference = r; name = n }

abbrev pub expr : ExprLayer → Expr
expr = roll-Expr

abbrev pub full : FullExpressionLayer → FullExpression
full = roll-FullExpression

abbrev pub stmt : StmtLayer → Stmt
stmt = roll-Stmt

abbrev pub declared : DeclarationLayer → Declaration
declared = roll-Declaration

abbrev pub declarator : DeclaratorLayer → Declarator
declarator = roll-Declarator

abbrev pub initializer : InitializerLayer → Initializer
initializer = roll-Initializer

abbrev pub printed : PrintedLayer → Printed
printed = roll-Printed

abbrev pub argument : ArgumentLayer → Argument
argument = roll-Argument

abbrev pub block : Spot → List Stmt → Spot → Block
block o xs c = roll-Block (record { spot = o; statements = xs; close = c })

abbrev pub lambda : Spot → List Capture → Option (List LambdaParameter) → Block → Lambda
lambda o cs ps y = roll-Lambda (record { spot = o; captures = cs; parameters = ps; body = y })

abbrev pub function : ReturnType → Lexeme → List Parameter → Block → Function
function r n ps y = record { returned = r; name = n; parameters = ps; body = y }

abbrev pub constant : ConstSpecifier → TypeSpecifier → Declarator → Constant
constant c t y = record { specifier = c; of = t; declarator = y }

abbrev pub unit : List FileItem → SourceUnit
unit items = record { includes = []; usings = []; items = items }

-- ---- sources

-- void f() { }
abbrev pub no_main_main : Function
no_main_main = function (returned.Void (at 1)) (word 6 (codes "f")) ([]) (block (at 10) ([]) (at 12))

abbrev pub no_main : SourceUnit
no_main = unit (item.Function no_main_main ∷ [])

-- int main() { }
abbrev pub with_main_main : Function
with_main_main = function (returned.Integer (kind_at 1 kind.Int)) (word 5 (codes "main")) ([]) (block (at 12) ([]) (at 14))

abbrev pub with_main : SourceUnit
with_main = unit (item.Function with_main_main ∷ [])

-- int main() { return y; }
abbrev pub unknown_name_main : Function
unknown_name_main = function (returned.Integer (kind_at 1 kind.Int)) (word 5 (codes "main")) ([]) (block (at 12) ((stmt (Stmt-F.Return (at 14) (Some (expr (Expr-F.Name (word 21 (codes "y"))))) (at 22))) ∷ []) (at 24))

abbrev pub unknown_name : SourceUnit
unknown_name = unit (item.Function unknown_name_main ∷ [])

-- int main() { int y = 1; return y; }
abbrev pub known_name_main : Function
known_name_main = function (returned.Integer (kind_at 1 kind.Int)) (word 5 (codes "main")) ([]) (block (at 12) ((stmt (Stmt-F.Declaration (declared (Declaration-F.Integers None (type.Integer (kind_at 14 kind.Int)) ((declarator (Declarator-F.Equal (word 18 (codes "y")) (at 20) (expr (Expr-F.Integer (word 22 (codes "1")))))) ∷ []) (at 23))))) ∷ (stmt (Stmt-F.Return (at 25) (Some (expr (Expr-F.Name (word 32 (codes "y"))))) (at 33))) ∷ []) (at 35))

abbrev pub known_name : SourceUnit
known_name = unit (item.Function known_name_main ∷ [])

-- int main() { int x = 1; int x = 2; }
abbrev pub redeclared_main : Function
redeclared_main = function (returned.Integer (kind_at 1 kind.Int)) (word 5 (codes "main")) ([]) (block (at 12) ((stmt (Stmt-F.Declaration (declared (Declaration-F.Integers None (type.Integer (kind_at 14 kind.Int)) ((declarator (Declarator-F.Equal (word 18 (codes "x")) (at 20) (expr (Expr-F.Integer (word 22 (codes "1")))))) ∷ []) (at 23))))) ∷ (stmt (Stmt-F.Declaration (declared (Declaration-F.Integers None (type.Integer (kind_at 25 kind.Int)) ((declarator (Declarator-F.Equal (word 29 (codes "x")) (at 31) (expr (Expr-F.Integer (word 33 (codes "2")))))) ∷ []) (at 34))))) ∷ []) (at 36))

abbrev pub redeclared : SourceUnit
redeclared = unit (item.Function redeclared_main ∷ [])

-- int main() { int x = 1; { int x = 2; } }
abbrev pub hidden_main : Function
hidden_main = function (returned.Integer (kind_at 1 kind.Int)) (word 5 (codes "main")) ([]) (block (at 12) ((stmt (Stmt-F.Declaration (declared (Declaration-F.Integers None (type.Integer (kind_at 14 kind.Int)) ((declarator (Declarator-F.Equal (word 18 (codes "x")) (at 20) (expr (Expr-F.Integer (word 22 (codes "1")))))) ∷ []) (at 23))))) ∷ (stmt (Stmt-F.Compound (block (at 25) ((stmt (Stmt-F.Declaration (declared (Declaration-F.Integers None (type.Integer (kind_at 27 kind.Int)) ((declarator (Declarator-F.Equal (word 31 (codes "x")) (at 33) (expr (Expr-F.Integer (word 35 (codes "2")))))) ∷ []) (at 36))))) ∷ []) (at 38)))) ∷ []) (at 40))

abbrev pub hidden : SourceUnit
hidden = unit (item.Function hidden_main ∷ [])

-- int main() { return 18446744073709551616u; }
abbrev pub wide_literal_main : Function
wide_literal_main = function (returned.Integer (kind_at 1 kind.Int)) (word 5 (codes "main")) ([]) (block (at 12) ((stmt (Stmt-F.Return (at 14) (Some (expr (Expr-F.Integer (word 21 (codes "18446744073709551616u"))))) (at 42))) ∷ []) (at 44))

abbrev pub wide_literal : SourceUnit
wide_literal = unit (item.Function wide_literal_main ∷ [])

-- int main() { return 18446744073709551615u; }
abbrev pub widest_literal_main : Function
widest_literal_main = function (returned.Integer (kind_at 1 kind.Int)) (word 5 (codes "main")) ([]) (block (at 12) ((stmt (Stmt-F.Return (at 14) (Some (expr (Expr-F.Integer (word 21 (codes "18446744073709551615u"))))) (at 42))) ∷ []) (at 44))

abbrev pub widest_literal : SourceUnit
widest_literal = unit (item.Function widest_literal_main ∷ [])

-- const int k = 1 / 0; int main() { }
abbrev pub bad_constant_constant : Constant
bad_constant_constant = constant (specifier.Const (at 1)) (type.Integer (kind_at 7 kind.Int)) (declarator (Declarator-F.Equal (word 11 (codes "k")) (at 13) (expr (Expr-F.Binary (expr (Expr-F.Integer (word 15 (codes "1")))) (at 17) (operator.Strict binary.Div) (expr (Expr-F.Integer (word 19 (codes "0"))))))))

abbrev pub bad_constant_main : Function
bad_constant_main = function (returned.Integer (kind_at 22 kind.Int)) (word 26 (codes "main")) ([]) (block (at 33) ([]) (at 35))

abbrev pub bad_constant : SourceUnit
bad_constant = unit (item.Constant bad_constant_constant ∷ item.Function bad_constant_main ∷ [])

-- const int k = true ? 1 : 1 / 0; int main() { }
abbrev pub good_constant_constant : Constant
good_constant_constant = constant (specifier.Const (at 1)) (type.Integer (kind_at 7 kind.Int)) (declarator (Declarator-F.Equal (word 11 (codes "k")) (at 13) (expr (Expr-F.Conditional (expr (Expr-F.Boolean (at 15) true)) (at 20) (expr (Expr-F.Integer (word 22 (codes "1")))) (expr (Expr-F.Binary (expr (Expr-F.Integer (word 26 (codes "1")))) (at 28) (operator.Strict binary.Div) (expr (Expr-F.Integer (word 30 (codes "0"))))))))))

abbrev pub good_constant_main : Function
good_constant_main = function (returned.Integer (kind_at 33 kind.Int)) (word 37 (codes "main")) ([]) (block (at 44) ([]) (at 46))

abbrev pub good_constant : SourceUnit
good_constant = unit (item.Constant good_constant_constant ∷ item.Function good_constant_main ∷ [])

-- int main() { sycl::range<4> r{1}; }
abbrev pub bad_dimension_main : Function
bad_dimension_main = function (returned.Integer (kind_at 1 kind.Int)) (word 5 (codes "main")) ([]) (block (at 12) ((stmt (Stmt-F.Declaration (declared (Declaration-F.Object (object.Range (qualified 14 20) (Some (word 26 (codes "4")))) (word 29 (codes "r")) (Some (initializer (Initializer-F.Direct brackets.Braces (at 30) ((argument (Argument-F.Value (expr (Expr-F.Integer (word 31 (codes "1")))))) ∷ []) (at 32)))) (at 33))))) ∷ []) (at 35))

abbrev pub bad_dimension : SourceUnit
bad_dimension = unit (item.Function bad_dimension_main ∷ [])

-- int main() { sycl::range<2> r{1}; }
abbrev pub bad_count_main : Function
bad_count_main = function (returned.Integer (kind_at 1 kind.Int)) (word 5 (codes "main")) ([]) (block (at 12) ((stmt (Stmt-F.Declaration (declared (Declaration-F.Object (object.Range (qualified 14 20) (Some (word 26 (codes "2")))) (word 29 (codes "r")) (Some (initializer (Initializer-F.Direct brackets.Braces (at 30) ((argument (Argument-F.Value (expr (Expr-F.Integer (word 31 (codes "1")))))) ∷ []) (at 32)))) (at 33))))) ∷ []) (at 35))

abbrev pub bad_count : SourceUnit
bad_count = unit (item.Function bad_count_main ∷ [])

-- int main() { sycl::range<2> r{1, 2}; }
abbrev pub good_dimension_main : Function
good_dimension_main = function (returned.Integer (kind_at 1 kind.Int)) (word 5 (codes "main")) ([]) (block (at 12) ((stmt (Stmt-F.Declaration (declared (Declaration-F.Object (object.Range (qualified 14 20) (Some (word 26 (codes "2")))) (word 29 (codes "r")) (Some (initializer (Initializer-F.Direct brackets.Braces (at 30) ((argument (Argument-F.Value (expr (Expr-F.Integer (word 31 (codes "1")))))) ∷ (argument (Argument-F.Value (expr (Expr-F.Integer (word 34 (codes "2")))))) ∷ []) (at 35)))) (at 36))))) ∷ []) (at 38))

abbrev pub good_dimension : SourceUnit
good_dimension = unit (item.Function good_dimension_main ∷ [])

-- int main() { auto x; }
abbrev pub bad_declaration_main : Function
bad_declaration_main = function (returned.Integer (kind_at 1 kind.Int)) (word 5 (codes "main")) ([]) (block (at 12) ((stmt (Stmt-F.Declaration (declared (Declaration-F.Integers None (type.Auto (at 14)) ((declarator (Declarator-F.Uninitialized (word 19 (codes "x")))) ∷ []) (at 20))))) ∷ []) (at 22))

abbrev pub bad_declaration : SourceUnit
bad_declaration = unit (item.Function bad_declaration_main ∷ [])

-- int main() { auto x = 1; }
abbrev pub good_declaration_main : Function
good_declaration_main = function (returned.Integer (kind_at 1 kind.Int)) (word 5 (codes "main")) ([]) (block (at 12) ((stmt (Stmt-F.Declaration (declared (Declaration-F.Integers None (type.Auto (at 14)) ((declarator (Declarator-F.Equal (word 19 (codes "x")) (at 21) (expr (Expr-F.Integer (word 23 (codes "1")))))) ∷ []) (at 24))))) ∷ []) (at 26))

abbrev pub good_declaration : SourceUnit
good_declaration = unit (item.Function good_declaration_main ∷ [])

-- int main() { sycl::queue q{1}; }
abbrev pub wrong_arguments_main : Function
wrong_arguments_main = function (returned.Integer (kind_at 1 kind.Int)) (word 5 (codes "main")) ([]) (block (at 12) ((stmt (Stmt-F.Declaration (declared (Declaration-F.Object (object.Queue (qualified 14 20)) (word 26 (codes "q")) (Some (initializer (Initializer-F.Direct brackets.Braces (at 27) ((argument (Argument-F.Value (expr (Expr-F.Integer (word 28 (codes "1")))))) ∷ []) (at 29)))) (at 30))))) ∷ []) (at 32))

abbrev pub wrong_arguments : SourceUnit
wrong_arguments = unit (item.Function wrong_arguments_main ∷ [])

-- int main() { sycl::device d; sycl::queue q{d}; }
abbrev pub right_arguments_main : Function
right_arguments_main = function (returned.Integer (kind_at 1 kind.Int)) (word 5 (codes "main")) ([]) (block (at 12) ((stmt (Stmt-F.Declaration (declared (Declaration-F.Object (object.Device (qualified 14 20)) (word 27 (codes "d")) None (at 28))))) ∷ (stmt (Stmt-F.Declaration (declared (Declaration-F.Object (object.Queue (qualified 30 36)) (word 42 (codes "q")) (Some (initializer (Initializer-F.Direct brackets.Braces (at 43) ((argument (Argument-F.Value (expr (Expr-F.Name (word 44 (codes "d")))))) ∷ []) (at 45)))) (at 46))))) ∷ []) (at 48))

abbrev pub right_arguments : SourceUnit
right_arguments = unit (item.Function right_arguments_main ∷ [])

-- int main() { sycl::queue q; q.size(); }
abbrev pub unknown_member_main : Function
unknown_member_main = function (returned.Integer (kind_at 1 kind.Int)) (word 5 (codes "main")) ([]) (block (at 12) ((stmt (Stmt-F.Declaration (declared (Declaration-F.Object (object.Queue (qualified 14 20)) (word 26 (codes "q")) None (at 27))))) ∷ (stmt (Stmt-F.Expression (full (FullExpression-F.Plain (expr (Expr-F.MemberCall (expr (Expr-F.Name (word 29 (codes "q")))) (word 31 (codes "size")) None ([]) (at 36))))) (at 37))) ∷ []) (at 39))

abbrev pub unknown_member : SourceUnit
unknown_member = unit (item.Function unknown_member_main ∷ [])

-- int main() { sycl::queue q; q.wait(); }
abbrev pub known_member_main : Function
known_member_main = function (returned.Integer (kind_at 1 kind.Int)) (word 5 (codes "main")) ([]) (block (at 12) ((stmt (Stmt-F.Declaration (declared (Declaration-F.Object (object.Queue (qualified 14 20)) (word 26 (codes "q")) None (at 27))))) ∷ (stmt (Stmt-F.Expression (full (FullExpression-F.Plain (expr (Expr-F.MemberCall (expr (Expr-F.Name (word 29 (codes "q")))) (word 31 (codes "wait")) None ([]) (at 36))))) (at 37))) ∷ []) (at 39))

abbrev pub known_member : SourceUnit
known_member = unit (item.Function known_member_main ∷ [])

-- int main() { sycl::queue q; 1 + q; }
abbrev pub wrong_operand_main : Function
wrong_operand_main = function (returned.Integer (kind_at 1 kind.Int)) (word 5 (codes "main")) ([]) (block (at 12) ((stmt (Stmt-F.Declaration (declared (Declaration-F.Object (object.Queue (qualified 14 20)) (word 26 (codes "q")) None (at 27))))) ∷ (stmt (Stmt-F.Expression (full (FullExpression-F.Plain (expr (Expr-F.Binary (expr (Expr-F.Integer (word 29 (codes "1")))) (at 31) (operator.Strict binary.Add) (expr (Expr-F.Name (word 33 (codes "q")))))))) (at 34))) ∷ []) (at 36))

abbrev pub wrong_operand : SourceUnit
wrong_operand = unit (item.Function wrong_operand_main ∷ [])

-- int main() { sycl::id<1> i{2}; 1 + i; }
abbrev pub right_operand_main : Function
right_operand_main = function (returned.Integer (kind_at 1 kind.Int)) (word 5 (codes "main")) ([]) (block (at 12) ((stmt (Stmt-F.Declaration (declared (Declaration-F.Object (object.Id (qualified 14 20) (Some (word 23 (codes "1")))) (word 26 (codes "i")) (Some (initializer (Initializer-F.Direct brackets.Braces (at 27) ((argument (Argument-F.Value (expr (Expr-F.Integer (word 28 (codes "2")))))) ∷ []) (at 29)))) (at 30))))) ∷ (stmt (Stmt-F.Expression (full (FullExpression-F.Plain (expr (Expr-F.Binary (expr (Expr-F.Integer (word 32 (codes "1")))) (at 34) (operator.Strict binary.Add) (expr (Expr-F.Name (word 36 (codes "i")))))))) (at 37))) ∷ []) (at 39))

abbrev pub right_operand : SourceUnit
right_operand = unit (item.Function right_operand_main ∷ [])

-- int main() { std::vector<int> v; sycl::buffer<char> b{v}; }
abbrev pub bad_element_main : Function
bad_element_main = function (returned.Integer (kind_at 1 kind.Int)) (word 5 (codes "main")) ([]) (block (at 12) ((stmt (Stmt-F.Declaration (declared (Declaration-F.Vector (qualified 14 19) (kind_at 26 kind.Int) (word 31 (codes "v")) None (at 32))))) ∷ (stmt (Stmt-F.Declaration (declared (Declaration-F.Object (object.Buffer (qualified 34 40) (Some (elements (kind_at 47 kind.Char) None))) (word 53 (codes "b")) (Some (initializer (Initializer-F.Direct brackets.Braces (at 54) ((argument (Argument-F.Value (expr (Expr-F.Name (word 55 (codes "v")))))) ∷ []) (at 56)))) (at 57))))) ∷ []) (at 59))

abbrev pub bad_element : SourceUnit
bad_element = unit (item.Function bad_element_main ∷ [])

-- int main() { std::vector<int> v; sycl::buffer<int> b{v}; }
abbrev pub good_element_main : Function
good_element_main = function (returned.Integer (kind_at 1 kind.Int)) (word 5 (codes "main")) ([]) (block (at 12) ((stmt (Stmt-F.Declaration (declared (Declaration-F.Vector (qualified 14 19) (kind_at 26 kind.Int) (word 31 (codes "v")) None (at 32))))) ∷ (stmt (Stmt-F.Declaration (declared (Declaration-F.Object (object.Buffer (qualified 34 40) (Some (elements (kind_at 47 kind.Int) None))) (word 52 (codes "b")) (Some (initializer (Initializer-F.Direct brackets.Braces (at 53) ((argument (Argument-F.Value (expr (Expr-F.Name (word 54 (codes "v")))))) ∷ []) (at 55)))) (at 56))))) ∷ []) (at 58))

abbrev pub good_element : SourceUnit
good_element = unit (item.Function good_element_main ∷ [])

-- int main() { const int x = 1; x = 2; }
abbrev pub not_assignable_main : Function
not_assignable_main = function (returned.Integer (kind_at 1 kind.Int)) (word 5 (codes "main")) ([]) (block (at 12) ((stmt (Stmt-F.Declaration (declared (Declaration-F.Integers (Some (specifier.Const (at 14))) (type.Integer (kind_at 20 kind.Int)) ((declarator (Declarator-F.Equal (word 24 (codes "x")) (at 26) (expr (Expr-F.Integer (word 28 (codes "1")))))) ∷ []) (at 29))))) ∷ (stmt (Stmt-F.Expression (full (FullExpression-F.Assignment (expr (Expr-F.Name (word 31 (codes "x")))) (at 33) assign.Assign (expr (Expr-F.Integer (word 35 (codes "2")))))) (at 36))) ∷ []) (at 38))

abbrev pub not_assignable : SourceUnit
not_assignable = unit (item.Function not_assignable_main ∷ [])

-- int main() { int x = 1; x = 2; }
abbrev pub assignable_main : Function
assignable_main = function (returned.Integer (kind_at 1 kind.Int)) (word 5 (codes "main")) ([]) (block (at 12) ((stmt (Stmt-F.Declaration (declared (Declaration-F.Integers None (type.Integer (kind_at 14 kind.Int)) ((declarator (Declarator-F.Equal (word 18 (codes "x")) (at 20) (expr (Expr-F.Integer (word 22 (codes "1")))))) ∷ []) (at 23))))) ∷ (stmt (Stmt-F.Expression (full (FullExpression-F.Assignment (expr (Expr-F.Name (word 25 (codes "x")))) (at 27) assign.Assign (expr (Expr-F.Integer (word 29 (codes "2")))))) (at 30))) ∷ []) (at 32))

abbrev pub assignable : SourceUnit
assignable = unit (item.Function assignable_main ∷ [])

-- int main() { sycl::buffer<int> b{{1}}; sycl::host_accessor a{b, sycl::read_only}; a[0] = 1; }
abbrev pub mode_broken_main : Function
mode_broken_main = function (returned.Integer (kind_at 1 kind.Int)) (word 5 (codes "main")) ([]) (block (at 12) ((stmt (Stmt-F.Declaration (declared (Declaration-F.Object (object.Buffer (qualified 14 20) (Some (elements (kind_at 27 kind.Int) None))) (word 32 (codes "b")) (Some (initializer (Initializer-F.Direct brackets.Braces (at 33) ((argument (Argument-F.Braced (at 34) ((expr (Expr-F.Integer (word 35 (codes "1")))) ∷ []) (at 36))) ∷ []) (at 37)))) (at 38))))) ∷ (stmt (Stmt-F.Declaration (declared (Declaration-F.Object (object.HostAccessor (qualified 40 46)) (word 60 (codes "a")) (Some (initializer (Initializer-F.Direct brackets.Braces (at 61) ((argument (Argument-F.Value (expr (Expr-F.Name (word 62 (codes "b")))))) ∷ (argument (Argument-F.Value (expr (Expr-F.AccessTag (qualified 65 71) access.ReadOnly)))) ∷ []) (at 80)))) (at 81))))) ∷ (stmt (Stmt-F.Expression (full (FullExpression-F.Assignment (expr (Expr-F.Subscript (expr (Expr-F.Name (word 83 (codes "a")))) (at 84) (expr (Expr-F.Integer (word 85 (codes "0")))) (at 86))) (at 88) assign.Assign (expr (Expr-F.Integer (word 90 (codes "1")))))) (at 91))) ∷ []) (at 93))

abbrev pub mode_broken : SourceUnit
mode_broken = unit (item.Function mode_broken_main ∷ [])

-- int main() { sycl::buffer<int> b{{1}}; sycl::host_accessor a{b, sycl::write_only}; a[0] = 1; }
abbrev pub mode_kept_main : Function
mode_kept_main = function (returned.Integer (kind_at 1 kind.Int)) (word 5 (codes "main")) ([]) (block (at 12) ((stmt (Stmt-F.Declaration (declared (Declaration-F.Object (object.Buffer (qualified 14 20) (Some (elements (kind_at 27 kind.Int) None))) (word 32 (codes "b")) (Some (initializer (Initializer-F.Direct brackets.Braces (at 33) ((argument (Argument-F.Braced (at 34) ((expr (Expr-F.Integer (word 35 (codes "1")))) ∷ []) (at 36))) ∷ []) (at 37)))) (at 38))))) ∷ (stmt (Stmt-F.Declaration (declared (Declaration-F.Object (object.HostAccessor (qualified 40 46)) (word 60 (codes "a")) (Some (initializer (Initializer-F.Direct brackets.Braces (at 61) ((argument (Argument-F.Value (expr (Expr-F.Name (word 62 (codes "b")))))) ∷ (argument (Argument-F.Value (expr (Expr-F.AccessTag (qualified 65 71) access.WriteOnly)))) ∷ []) (at 81)))) (at 82))))) ∷ (stmt (Stmt-F.Expression (full (FullExpression-F.Assignment (expr (Expr-F.Subscript (expr (Expr-F.Name (word 84 (codes "a")))) (at 85) (expr (Expr-F.Integer (word 86 (codes "0")))) (at 87))) (at 89) assign.Assign (expr (Expr-F.Integer (word 91 (codes "1")))))) (at 92))) ∷ []) (at 94))

abbrev pub mode_kept : SourceUnit
mode_kept = unit (item.Function mode_kept_main ∷ [])

-- int f() { std::cout << 1; return 1; } int g() { return f(); } int main() { sycl::queue q; q.submit([&](sycl::handler& h) { h.single_task([=] { g(); }); }); }
abbrev pub not_in_kernel_1 : Function
not_in_kernel_1 = function (returned.Integer (kind_at 1 kind.Int)) (word 5 (codes "f")) ([]) (block (at 9) ((stmt (Stmt-F.Print (qualified 11 16) ((printed (Printed-F.Operand (at 21) (expr (Expr-F.Integer (word 24 (codes "1")))))) ∷ []) (at 25))) ∷ (stmt (Stmt-F.Return (at 27) (Some (expr (Expr-F.Integer (word 34 (codes "1"))))) (at 35))) ∷ []) (at 37))

abbrev pub not_in_kernel_2 : Function
not_in_kernel_2 = function (returned.Integer (kind_at 39 kind.Int)) (word 43 (codes "g")) ([]) (block (at 47) ((stmt (Stmt-F.Return (at 49) (Some (expr (Expr-F.Call (word 56 (codes "f")) ([]) (at 58)))) (at 59))) ∷ []) (at 61))

abbrev pub not_in_kernel_3 : Function
not_in_kernel_3 = function (returned.Integer (kind_at 63 kind.Int)) (word 67 (codes "main")) ([]) (block (at 74) ((stmt (Stmt-F.Declaration (declared (Declaration-F.Object (object.Queue (qualified 76 82)) (word 88 (codes "q")) None (at 89))))) ∷ (stmt (Stmt-F.Expression (full (FullExpression-F.Plain (expr (Expr-F.MemberCall (expr (Expr-F.Name (word 91 (codes "q")))) (word 93 (codes "submit")) None ((argument (Argument-F.Lambda (lambda (at 100) ((capture.DefaultReference (at 101)) ∷ []) (Some ((lambda_parameter (parameter.Handler (qualified 104 110)) true (word 119 (codes "h"))) ∷ [])) (block (at 122) ((stmt (Stmt-F.Expression (full (FullExpression-F.Plain (expr (Expr-F.MemberCall (expr (Expr-F.Name (word 124 (codes "h")))) (word 126 (codes "single_task")) None ((argument (Argument-F.Lambda (lambda (at 138) ((capture.DefaultCopy (at 139)) ∷ []) None (block (at 142) ((stmt (Stmt-F.Expression (full (FullExpression-F.Plain (expr (Expr-F.Call (word 144 (codes "g")) ([]) (at 146))))) (at 147))) ∷ []) (at 149))))) ∷ []) (at 150))))) (at 151))) ∷ []) (at 153))))) ∷ []) (at 154))))) (at 155))) ∷ []) (at 157))

abbrev pub not_in_kernel : SourceUnit
not_in_kernel = unit (item.Function not_in_kernel_1 ∷ item.Function not_in_kernel_2 ∷ item.Function not_in_kernel_3 ∷ [])

-- int f() { std::cout << 1; return 1; } int main() { sycl::queue q; q.submit([&](sycl::handler& h) { f(); h.single_task([=] { }); }); }
abbrev pub not_called_1 : Function
not_called_1 = function (returned.Integer (kind_at 1 kind.Int)) (word 5 (codes "f")) ([]) (block (at 9) ((stmt (Stmt-F.Print (qualified 11 16) ((printed (Printed-F.Operand (at 21) (expr (Expr-F.Integer (word 24 (codes "1")))))) ∷ []) (at 25))) ∷ (stmt (Stmt-F.Return (at 27) (Some (expr (Expr-F.Integer (word 34 (codes "1"))))) (at 35))) ∷ []) (at 37))

abbrev pub not_called_2 : Function
not_called_2 = function (returned.Integer (kind_at 39 kind.Int)) (word 43 (codes "main")) ([]) (block (at 50) ((stmt (Stmt-F.Declaration (declared (Declaration-F.Object (object.Queue (qualified 52 58)) (word 64 (codes "q")) None (at 65))))) ∷ (stmt (Stmt-F.Expression (full (FullExpression-F.Plain (expr (Expr-F.MemberCall (expr (Expr-F.Name (word 67 (codes "q")))) (word 69 (codes "submit")) None ((argument (Argument-F.Lambda (lambda (at 76) ((capture.DefaultReference (at 77)) ∷ []) (Some ((lambda_parameter (parameter.Handler (qualified 80 86)) true (word 95 (codes "h"))) ∷ [])) (block (at 98) ((stmt (Stmt-F.Expression (full (FullExpression-F.Plain (expr (Expr-F.Call (word 100 (codes "f")) ([]) (at 102))))) (at 103))) ∷ (stmt (Stmt-F.Expression (full (FullExpression-F.Plain (expr (Expr-F.MemberCall (expr (Expr-F.Name (word 105 (codes "h")))) (word 107 (codes "single_task")) None ((argument (Argument-F.Lambda (lambda (at 119) ((capture.DefaultCopy (at 120)) ∷ []) None (block (at 123) ([]) (at 125))))) ∷ []) (at 126))))) (at 127))) ∷ []) (at 129))))) ∷ []) (at 130))))) (at 131))) ∷ []) (at 133))

abbrev pub not_called : SourceUnit
not_called = unit (item.Function not_called_1 ∷ item.Function not_called_2 ∷ [])

-- int main() { sycl::queue q; q.submit([&](sycl::handler& h) { q.wait(); h.single_task([=] { }); }); }
abbrev pub not_in_group_main : Function
not_in_group_main = function (returned.Integer (kind_at 1 kind.Int)) (word 5 (codes "main")) ([]) (block (at 12) ((stmt (Stmt-F.Declaration (declared (Declaration-F.Object (object.Queue (qualified 14 20)) (word 26 (codes "q")) None (at 27))))) ∷ (stmt (Stmt-F.Expression (full (FullExpression-F.Plain (expr (Expr-F.MemberCall (expr (Expr-F.Name (word 29 (codes "q")))) (word 31 (codes "submit")) None ((argument (Argument-F.Lambda (lambda (at 38) ((capture.DefaultReference (at 39)) ∷ []) (Some ((lambda_parameter (parameter.Handler (qualified 42 48)) true (word 57 (codes "h"))) ∷ [])) (block (at 60) ((stmt (Stmt-F.Expression (full (FullExpression-F.Plain (expr (Expr-F.MemberCall (expr (Expr-F.Name (word 62 (codes "q")))) (word 64 (codes "wait")) None ([]) (at 69))))) (at 70))) ∷ (stmt (Stmt-F.Expression (full (FullExpression-F.Plain (expr (Expr-F.MemberCall (expr (Expr-F.Name (word 72 (codes "h")))) (word 74 (codes "single_task")) None ((argument (Argument-F.Lambda (lambda (at 86) ((capture.DefaultCopy (at 87)) ∷ []) None (block (at 90) ([]) (at 92))))) ∷ []) (at 93))))) (at 94))) ∷ []) (at 96))))) ∷ []) (at 97))))) (at 98))) ∷ []) (at 100))

abbrev pub not_in_group : SourceUnit
not_in_group = unit (item.Function not_in_group_main ∷ [])

-- int main() { sycl::queue q; q.submit([&](sycl::handler& h) { std::cout << 1; h.single_task([=] { }); }); }
abbrev pub in_group_main : Function
in_group_main = function (returned.Integer (kind_at 1 kind.Int)) (word 5 (codes "main")) ([]) (block (at 12) ((stmt (Stmt-F.Declaration (declared (Declaration-F.Object (object.Queue (qualified 14 20)) (word 26 (codes "q")) None (at 27))))) ∷ (stmt (Stmt-F.Expression (full (FullExpression-F.Plain (expr (Expr-F.MemberCall (expr (Expr-F.Name (word 29 (codes "q")))) (word 31 (codes "submit")) None ((argument (Argument-F.Lambda (lambda (at 38) ((capture.DefaultReference (at 39)) ∷ []) (Some ((lambda_parameter (parameter.Handler (qualified 42 48)) true (word 57 (codes "h"))) ∷ [])) (block (at 60) ((stmt (Stmt-F.Print (qualified 62 67) ((printed (Printed-F.Operand (at 72) (expr (Expr-F.Integer (word 75 (codes "1")))))) ∷ []) (at 76))) ∷ (stmt (Stmt-F.Expression (full (FullExpression-F.Plain (expr (Expr-F.MemberCall (expr (Expr-F.Name (word 78 (codes "h")))) (word 80 (codes "single_task")) None ((argument (Argument-F.Lambda (lambda (at 92) ((capture.DefaultCopy (at 93)) ∷ []) None (block (at 96) ([]) (at 98))))) ∷ []) (at 99))))) (at 100))) ∷ []) (at 102))))) ∷ []) (at 103))))) (at 104))) ∷ []) (at 106))

abbrev pub in_group : SourceUnit
in_group = unit (item.Function in_group_main ∷ [])

-- int main() { sycl::group_barrier(g); }
abbrev pub not_in_host_main : Function
not_in_host_main = function (returned.Integer (kind_at 1 kind.Int)) (word 5 (codes "main")) ([]) (block (at 12) ((stmt (Stmt-F.Expression (full (FullExpression-F.Plain (expr (Expr-F.GroupBarrier (qualified 14 20) (expr (Expr-F.Name (word 34 (codes "g")))) (at 35))))) (at 36))) ∷ []) (at 38))

abbrev pub not_in_host : SourceUnit
not_in_host = unit (item.Function not_in_host_main ∷ [])

-- int main() { sycl::queue q; q.submit([&](sycl::handler& h) { h.parallel_for(sycl::nd_range<1>{8, 4}, [=](sycl::nd_item<1> i) { sycl::group_barrier(i.get_group()); }); }); }
abbrev pub in_kernel_main : Function
in_kernel_main = function (returned.Integer (kind_at 1 kind.Int)) (word 5 (codes "main")) ([]) (block (at 12) ((stmt (Stmt-F.Declaration (declared (Declaration-F.Object (object.Queue (qualified 14 20)) (word 26 (codes "q")) None (at 27))))) ∷ (stmt (Stmt-F.Expression (full (FullExpression-F.Plain (expr (Expr-F.MemberCall (expr (Expr-F.Name (word 29 (codes "q")))) (word 31 (codes "submit")) None ((argument (Argument-F.Lambda (lambda (at 38) ((capture.DefaultReference (at 39)) ∷ []) (Some ((lambda_parameter (parameter.Handler (qualified 42 48)) true (word 57 (codes "h"))) ∷ [])) (block (at 60) ((stmt (Stmt-F.Expression (full (FullExpression-F.Plain (expr (Expr-F.MemberCall (expr (Expr-F.Name (word 62 (codes "h")))) (word 64 (codes "parallel_for")) None ((argument (Argument-F.Value (expr (Expr-F.Construct (object.NdRange (qualified 77 83) (Some (word 92 (codes "1")))) brackets.Braces (at 94) ((argument (Argument-F.Value (expr (Expr-F.Integer (word 95 (codes "8")))))) ∷ (argument (Argument-F.Value (expr (Expr-F.Integer (word 98 (codes "4")))))) ∷ []) (at 99))))) ∷ (argument (Argument-F.Lambda (lambda (at 102) ((capture.DefaultCopy (at 103)) ∷ []) (Some ((lambda_parameter (parameter.NdItem (qualified 106 112) (word 120 (codes "1"))) false (word 123 (codes "i"))) ∷ [])) (block (at 126) ((stmt (Stmt-F.Expression (full (FullExpression-F.Plain (expr (Expr-F.GroupBarrier (qualified 128 134) (expr (Expr-F.MemberCall (expr (Expr-F.Name (word 148 (codes "i")))) (word 150 (codes "get_group")) None ([]) (at 160))) (at 161))))) (at 162))) ∷ []) (at 164))))) ∷ []) (at 165))))) (at 166))) ∷ []) (at 168))))) ∷ []) (at 169))))) (at 170))) ∷ []) (at 172))

abbrev pub in_kernel : SourceUnit
in_kernel = unit (item.Function in_kernel_main ∷ [])

-- int main() { sycl::queue q; q.submit([=](sycl::handler& h) { }); }
abbrev pub bad_lambda_main : Function
bad_lambda_main = function (returned.Integer (kind_at 1 kind.Int)) (word 5 (codes "main")) ([]) (block (at 12) ((stmt (Stmt-F.Declaration (declared (Declaration-F.Object (object.Queue (qualified 14 20)) (word 26 (codes "q")) None (at 27))))) ∷ (stmt (Stmt-F.Expression (full (FullExpression-F.Plain (expr (Expr-F.MemberCall (expr (Expr-F.Name (word 29 (codes "q")))) (word 31 (codes "submit")) None ((argument (Argument-F.Lambda (lambda (at 38) ((capture.DefaultCopy (at 39)) ∷ []) (Some ((lambda_parameter (parameter.Handler (qualified 42 48)) true (word 57 (codes "h"))) ∷ [])) (block (at 60) ([]) (at 62))))) ∷ []) (at 63))))) (at 64))) ∷ []) (at 66))

abbrev pub bad_lambda : SourceUnit
bad_lambda = unit (item.Function bad_lambda_main ∷ [])

-- int main() { sycl::queue q; q.submit([&](sycl::handler& h) { }); }
abbrev pub good_lambda_main : Function
good_lambda_main = function (returned.Integer (kind_at 1 kind.Int)) (word 5 (codes "main")) ([]) (block (at 12) ((stmt (Stmt-F.Declaration (declared (Declaration-F.Object (object.Queue (qualified 14 20)) (word 26 (codes "q")) None (at 27))))) ∷ (stmt (Stmt-F.Expression (full (FullExpression-F.Plain (expr (Expr-F.MemberCall (expr (Expr-F.Name (word 29 (codes "q")))) (word 31 (codes "submit")) None ((argument (Argument-F.Lambda (lambda (at 38) ((capture.DefaultReference (at 39)) ∷ []) (Some ((lambda_parameter (parameter.Handler (qualified 42 48)) true (word 57 (codes "h"))) ∷ [])) (block (at 60) ([]) (at 62))))) ∷ []) (at 63))))) (at 64))) ∷ []) (at 66))

abbrev pub good_lambda : SourceUnit
good_lambda = unit (item.Function good_lambda_main ∷ [])

-- int main() { sycl::nd_range<1> r{8, 4}; sycl::queue q; q.submit([&](sycl::handler& h) { h.single_task([=] { r; }); }); }
abbrev pub kernel_capture_main : Function
kernel_capture_main = function (returned.Integer (kind_at 1 kind.Int)) (word 5 (codes "main")) ([]) (block (at 12) ((stmt (Stmt-F.Declaration (declared (Declaration-F.Object (object.NdRange (qualified 14 20) (Some (word 29 (codes "1")))) (word 32 (codes "r")) (Some (initializer (Initializer-F.Direct brackets.Braces (at 33) ((argument (Argument-F.Value (expr (Expr-F.Integer (word 34 (codes "8")))))) ∷ (argument (Argument-F.Value (expr (Expr-F.Integer (word 37 (codes "4")))))) ∷ []) (at 38)))) (at 39))))) ∷ (stmt (Stmt-F.Declaration (declared (Declaration-F.Object (object.Queue (qualified 41 47)) (word 53 (codes "q")) None (at 54))))) ∷ (stmt (Stmt-F.Expression (full (FullExpression-F.Plain (expr (Expr-F.MemberCall (expr (Expr-F.Name (word 56 (codes "q")))) (word 58 (codes "submit")) None ((argument (Argument-F.Lambda (lambda (at 65) ((capture.DefaultReference (at 66)) ∷ []) (Some ((lambda_parameter (parameter.Handler (qualified 69 75)) true (word 84 (codes "h"))) ∷ [])) (block (at 87) ((stmt (Stmt-F.Expression (full (FullExpression-F.Plain (expr (Expr-F.MemberCall (expr (Expr-F.Name (word 89 (codes "h")))) (word 91 (codes "single_task")) None ((argument (Argument-F.Lambda (lambda (at 103) ((capture.DefaultCopy (at 104)) ∷ []) None (block (at 107) ((stmt (Stmt-F.Expression (full (FullExpression-F.Plain (expr (Expr-F.Name (word 109 (codes "r")))))) (at 110))) ∷ []) (at 112))))) ∷ []) (at 113))))) (at 114))) ∷ []) (at 116))))) ∷ []) (at 117))))) (at 118))) ∷ []) (at 120))

abbrev pub kernel_capture : SourceUnit
kernel_capture = unit (item.Function kernel_capture_main ∷ [])

-- int main() { sycl::range<1> r{8}; sycl::queue q; q.submit([&](sycl::handler& h) { h.single_task([=] { r; }); }); }
abbrev pub kernel_copy_main : Function
kernel_copy_main = function (returned.Integer (kind_at 1 kind.Int)) (word 5 (codes "main")) ([]) (block (at 12) ((stmt (Stmt-F.Declaration (declared (Declaration-F.Object (object.Range (qualified 14 20) (Some (word 26 (codes "1")))) (word 29 (codes "r")) (Some (initializer (Initializer-F.Direct brackets.Braces (at 30) ((argument (Argument-F.Value (expr (Expr-F.Integer (word 31 (codes "8")))))) ∷ []) (at 32)))) (at 33))))) ∷ (stmt (Stmt-F.Declaration (declared (Declaration-F.Object (object.Queue (qualified 35 41)) (word 47 (codes "q")) None (at 48))))) ∷ (stmt (Stmt-F.Expression (full (FullExpression-F.Plain (expr (Expr-F.MemberCall (expr (Expr-F.Name (word 50 (codes "q")))) (word 52 (codes "submit")) None ((argument (Argument-F.Lambda (lambda (at 59) ((capture.DefaultReference (at 60)) ∷ []) (Some ((lambda_parameter (parameter.Handler (qualified 63 69)) true (word 78 (codes "h"))) ∷ [])) (block (at 81) ((stmt (Stmt-F.Expression (full (FullExpression-F.Plain (expr (Expr-F.MemberCall (expr (Expr-F.Name (word 83 (codes "h")))) (word 85 (codes "single_task")) None ((argument (Argument-F.Lambda (lambda (at 97) ((capture.DefaultCopy (at 98)) ∷ []) None (block (at 101) ((stmt (Stmt-F.Expression (full (FullExpression-F.Plain (expr (Expr-F.Name (word 103 (codes "r")))))) (at 104))) ∷ []) (at 106))))) ∷ []) (at 107))))) (at 108))) ∷ []) (at 110))))) ∷ []) (at 111))))) (at 112))) ∷ []) (at 114))

abbrev pub kernel_copy : SourceUnit
kernel_copy = unit (item.Function kernel_copy_main ∷ [])

-- int main() { int x = 0; std::thread t([&x] { x = 1; }); }
abbrev pub thread_capture_main : Function
thread_capture_main = function (returned.Integer (kind_at 1 kind.Int)) (word 5 (codes "main")) ([]) (block (at 12) ((stmt (Stmt-F.Declaration (declared (Declaration-F.Integers None (type.Integer (kind_at 14 kind.Int)) ((declarator (Declarator-F.Equal (word 18 (codes "x")) (at 20) (expr (Expr-F.Integer (word 22 (codes "0")))))) ∷ []) (at 23))))) ∷ (stmt (Stmt-F.Declaration (declared (Declaration-F.Thread (qualified 25 30) (word 37 (codes "t")) brackets.Parentheses (lambda (at 39) ((capture.Reference (at 40) (word 41 (codes "x"))) ∷ []) None (block (at 44) ((stmt (Stmt-F.Expression (full (FullExpression-F.Assignment (expr (Expr-F.Name (word 46 (codes "x")))) (at 48) assign.Assign (expr (Expr-F.Integer (word 50 (codes "1")))))) (at 51))) ∷ []) (at 53))) (at 55))))) ∷ []) (at 57))

abbrev pub thread_capture : SourceUnit
thread_capture = unit (item.Function thread_capture_main ∷ [])

-- int main() { int x = 0; std::thread t([x] { x + 1; }); }
abbrev pub thread_copy_main : Function
thread_copy_main = function (returned.Integer (kind_at 1 kind.Int)) (word 5 (codes "main")) ([]) (block (at 12) ((stmt (Stmt-F.Declaration (declared (Declaration-F.Integers None (type.Integer (kind_at 14 kind.Int)) ((declarator (Declarator-F.Equal (word 18 (codes "x")) (at 20) (expr (Expr-F.Integer (word 22 (codes "0")))))) ∷ []) (at 23))))) ∷ (stmt (Stmt-F.Declaration (declared (Declaration-F.Thread (qualified 25 30) (word 37 (codes "t")) brackets.Parentheses (lambda (at 39) ((capture.Copy (word 40 (codes "x"))) ∷ []) None (block (at 43) ((stmt (Stmt-F.Expression (full (FullExpression-F.Plain (expr (Expr-F.Binary (expr (Expr-F.Name (word 45 (codes "x")))) (at 47) (operator.Strict binary.Add) (expr (Expr-F.Integer (word 49 (codes "1")))))))) (at 50))) ∷ []) (at 52))) (at 54))))) ∷ []) (at 56))

abbrev pub thread_copy : SourceUnit
thread_copy = unit (item.Function thread_copy_main ∷ [])

-- void f() { return 1; } int main() { }
abbrev pub bad_return_1 : Function
bad_return_1 = function (returned.Void (at 1)) (word 6 (codes "f")) ([]) (block (at 10) ((stmt (Stmt-F.Return (at 12) (Some (expr (Expr-F.Integer (word 19 (codes "1"))))) (at 20))) ∷ []) (at 22))

abbrev pub bad_return_2 : Function
bad_return_2 = function (returned.Integer (kind_at 24 kind.Int)) (word 28 (codes "main")) ([]) (block (at 35) ([]) (at 37))

abbrev pub bad_return : SourceUnit
bad_return = unit (item.Function bad_return_1 ∷ item.Function bad_return_2 ∷ [])

-- void f() { return; } int main() { }
abbrev pub good_return_1 : Function
good_return_1 = function (returned.Void (at 1)) (word 6 (codes "f")) ([]) (block (at 10) ((stmt (Stmt-F.Return (at 12) None (at 18))) ∷ []) (at 20))

abbrev pub good_return_2 : Function
good_return_2 = function (returned.Integer (kind_at 22 kind.Int)) (word 26 (codes "main")) ([]) (block (at 33) ([]) (at 35))

abbrev pub good_return : SourceUnit
good_return = unit (item.Function good_return_1 ∷ item.Function good_return_2 ∷ [])

-- int main() { break; }
abbrev pub loop_word_main : Function
loop_word_main = function (returned.Integer (kind_at 1 kind.Int)) (word 5 (codes "main")) ([]) (block (at 12) ((stmt (Stmt-F.Break (at 14) (at 19))) ∷ []) (at 21))

abbrev pub loop_word : SourceUnit
loop_word = unit (item.Function loop_word_main ∷ [])

-- int main() { while (true) break; }
abbrev pub in_loop_main : Function
in_loop_main = function (returned.Integer (kind_at 1 kind.Int)) (word 5 (codes "main")) ([]) (block (at 12) ((stmt (Stmt-F.While (at 14) (expr (Expr-F.Boolean (at 21) true)) (stmt (Stmt-F.Break (at 27) (at 32))))) ∷ []) (at 34))

abbrev pub in_loop : SourceUnit
in_loop = unit (item.Function in_loop_main ∷ [])

-- int f() { return f(); } int main() { }
abbrev pub bad_call_1 : Function
bad_call_1 = function (returned.Integer (kind_at 1 kind.Int)) (word 5 (codes "f")) ([]) (block (at 9) ((stmt (Stmt-F.Return (at 11) (Some (expr (Expr-F.Call (word 18 (codes "f")) ([]) (at 20)))) (at 21))) ∷ []) (at 23))

abbrev pub bad_call_2 : Function
bad_call_2 = function (returned.Integer (kind_at 25 kind.Int)) (word 29 (codes "main")) ([]) (block (at 36) ([]) (at 38))

abbrev pub bad_call : SourceUnit
bad_call = unit (item.Function bad_call_1 ∷ item.Function bad_call_2 ∷ [])

-- int f() { return 1; } int main() { return f(); }
abbrev pub good_call_1 : Function
good_call_1 = function (returned.Integer (kind_at 1 kind.Int)) (word 5 (codes "f")) ([]) (block (at 9) ((stmt (Stmt-F.Return (at 11) (Some (expr (Expr-F.Integer (word 18 (codes "1"))))) (at 19))) ∷ []) (at 21))

abbrev pub good_call_2 : Function
good_call_2 = function (returned.Integer (kind_at 23 kind.Int)) (word 27 (codes "main")) ([]) (block (at 34) ((stmt (Stmt-F.Return (at 36) (Some (expr (Expr-F.Call (word 43 (codes "f")) ([]) (at 45)))) (at 46))) ∷ []) (at 48))

abbrev pub good_call : SourceUnit
good_call = unit (item.Function good_call_1 ∷ item.Function good_call_2 ∷ [])

-- int main() { std::vector<int> v(16, 1); sycl::queue q; { sycl::buffer b{v}; q.submit([&](sycl::handler& h) { sycl::accessor a{b, h}; h.parallel_for(sycl::range<1>{16}, [=](sycl::id<1> i) { a[i] += 2; }); }); } for (int x : v) std::cout << x; }
abbrev pub add_two_main : Function
add_two_main = function (returned.Integer (kind_at 1 kind.Int)) (word 5 (codes "main")) ([]) (block (at 12) ((stmt (Stmt-F.Declaration (declared (Declaration-F.Vector (qualified 14 19) (kind_at 26 kind.Int) (word 31 (codes "v")) (Some (initializer (Initializer-F.Direct brackets.Parentheses (at 32) ((argument (Argument-F.Value (expr (Expr-F.Integer (word 33 (codes "16")))))) ∷ (argument (Argument-F.Value (expr (Expr-F.Integer (word 37 (codes "1")))))) ∷ []) (at 38)))) (at 39))))) ∷ (stmt (Stmt-F.Declaration (declared (Declaration-F.Object (object.Queue (qualified 41 47)) (word 53 (codes "q")) None (at 54))))) ∷ (stmt (Stmt-F.Compound (block (at 56) ((stmt (Stmt-F.Declaration (declared (Declaration-F.Object (object.Buffer (qualified 58 64) None) (word 71 (codes "b")) (Some (initializer (Initializer-F.Direct brackets.Braces (at 72) ((argument (Argument-F.Value (expr (Expr-F.Name (word 73 (codes "v")))))) ∷ []) (at 74)))) (at 75))))) ∷ (stmt (Stmt-F.Expression (full (FullExpression-F.Plain (expr (Expr-F.MemberCall (expr (Expr-F.Name (word 77 (codes "q")))) (word 79 (codes "submit")) None ((argument (Argument-F.Lambda (lambda (at 86) ((capture.DefaultReference (at 87)) ∷ []) (Some ((lambda_parameter (parameter.Handler (qualified 90 96)) true (word 105 (codes "h"))) ∷ [])) (block (at 108) ((stmt (Stmt-F.Declaration (declared (Declaration-F.Object (object.Accessor (qualified 110 116)) (word 125 (codes "a")) (Some (initializer (Initializer-F.Direct brackets.Braces (at 126) ((argument (Argument-F.Value (expr (Expr-F.Name (word 127 (codes "b")))))) ∷ (argument (Argument-F.Value (expr (Expr-F.Name (word 130 (codes "h")))))) ∷ []) (at 131)))) (at 132))))) ∷ (stmt (Stmt-F.Expression (full (FullExpression-F.Plain (expr (Expr-F.MemberCall (expr (Expr-F.Name (word 134 (codes "h")))) (word 136 (codes "parallel_for")) None ((argument (Argument-F.Value (expr (Expr-F.Construct (object.Range (qualified 149 155) (Some (word 161 (codes "1")))) brackets.Braces (at 163) ((argument (Argument-F.Value (expr (Expr-F.Integer (word 164 (codes "16")))))) ∷ []) (at 166))))) ∷ (argument (Argument-F.Lambda (lambda (at 169) ((capture.DefaultCopy (at 170)) ∷ []) (Some ((lambda_parameter (parameter.Id (qualified 173 179) (word 182 (codes "1"))) false (word 185 (codes "i"))) ∷ [])) (block (at 188) ((stmt (Stmt-F.Expression (full (FullExpression-F.Assignment (expr (Expr-F.Subscript (expr (Expr-F.Name (word 190 (codes "a")))) (at 191) (expr (Expr-F.Name (word 192 (codes "i")))) (at 193))) (at 195) assign.Add (expr (Expr-F.Integer (word 198 (codes "2")))))) (at 199))) ∷ []) (at 201))))) ∷ []) (at 202))))) (at 203))) ∷ []) (at 205))))) ∷ []) (at 206))))) (at 207))) ∷ []) (at 209)))) ∷ (stmt (Stmt-F.RangeFor (at 211) false (type.Integer (kind_at 216 kind.Int)) false (word 220 (codes "x")) (word 224 (codes "v")) (stmt (Stmt-F.Print (qualified 227 232) ((printed (Printed-F.Operand (at 237) (expr (Expr-F.Name (word 240 (codes "x")))))) ∷ []) (at 241))))) ∷ []) (at 243))

abbrev pub add_two : SourceUnit
add_two = unit (item.Function add_two_main ∷ [])

-- int main() { sycl::buffer<int> b{{1}}; sycl::queue q; q.submit([&](sycl::handler& h) { h.parallel_for(sycl::range<1>{8}, sycl::reduction(b, h, sycl::plus<int>()), [=](sycl::id<1> i, auto& t) { t += i; t.combine(1); }); }); }
abbrev pub good_reduction_main : Function
good_reduction_main = function (returned.Integer (kind_at 1 kind.Int)) (word 5 (codes "main")) ([]) (block (at 12) ((stmt (Stmt-F.Declaration (declared (Declaration-F.Object (object.Buffer (qualified 14 20) (Some (elements (kind_at 27 kind.Int) None))) (word 32 (codes "b")) (Some (initializer (Initializer-F.Direct brackets.Braces (at 33) ((argument (Argument-F.Braced (at 34) ((expr (Expr-F.Integer (word 35 (codes "1")))) ∷ []) (at 36))) ∷ []) (at 37)))) (at 38))))) ∷ (stmt (Stmt-F.Declaration (declared (Declaration-F.Object (object.Queue (qualified 40 46)) (word 52 (codes "q")) None (at 53))))) ∷ (stmt (Stmt-F.Expression (full (FullExpression-F.Plain (expr (Expr-F.MemberCall (expr (Expr-F.Name (word 55 (codes "q")))) (word 57 (codes "submit")) None ((argument (Argument-F.Lambda (lambda (at 64) ((capture.DefaultReference (at 65)) ∷ []) (Some ((lambda_parameter (parameter.Handler (qualified 68 74)) true (word 83 (codes "h"))) ∷ [])) (block (at 86) ((stmt (Stmt-F.Expression (full (FullExpression-F.Plain (expr (Expr-F.MemberCall (expr (Expr-F.Name (word 88 (codes "h")))) (word 90 (codes "parallel_for")) None ((argument (Argument-F.Value (expr (Expr-F.Construct (object.Range (qualified 103 109) (Some (word 115 (codes "1")))) brackets.Braces (at 117) ((argument (Argument-F.Value (expr (Expr-F.Integer (word 118 (codes "8")))))) ∷ []) (at 119))))) ∷ (argument (Argument-F.Value (expr (Expr-F.LibraryCall (qualified 122 128) library.Reduction ((argument (Argument-F.Value (expr (Expr-F.Name (word 138 (codes "b")))))) ∷ (argument (Argument-F.Value (expr (Expr-F.Name (word 141 (codes "h")))))) ∷ (argument (Argument-F.Value (expr (Expr-F.FunctionObject (qualified 144 150) combining.Plus (Some (kind_at 155 kind.Int)) brackets.Parentheses (at 160))))) ∷ []) (at 161))))) ∷ (argument (Argument-F.Lambda (lambda (at 164) ((capture.DefaultCopy (at 165)) ∷ []) (Some ((lambda_parameter (parameter.Id (qualified 168 174) (word 177 (codes "1"))) false (word 180 (codes "i"))) ∷ (lambda_parameter (parameter.Auto (at 183)) true (word 189 (codes "t"))) ∷ [])) (block (at 192) ((stmt (Stmt-F.Expression (full (FullExpression-F.Assignment (expr (Expr-F.Name (word 194 (codes "t")))) (at 196) assign.Add (expr (Expr-F.Name (word 199 (codes "i")))))) (at 200))) ∷ (stmt (Stmt-F.Expression (full (FullExpression-F.Plain (expr (Expr-F.MemberCall (expr (Expr-F.Name (word 202 (codes "t")))) (word 204 (codes "combine")) None ((argument (Argument-F.Value (expr (Expr-F.Integer (word 212 (codes "1")))))) ∷ []) (at 213))))) (at 214))) ∷ []) (at 216))))) ∷ []) (at 217))))) (at 218))) ∷ []) (at 220))))) ∷ []) (at 221))))) (at 222))) ∷ []) (at 224))

abbrev pub good_reduction : SourceUnit
good_reduction = unit (item.Function good_reduction_main ∷ [])

-- int main() { sycl::buffer<int> b{{1}}; sycl::queue q; q.submit([&](sycl::handler& h) { h.parallel_for(sycl::range<1>{8}, sycl::reduction(b, h, sycl::plus<int>()), [=](sycl::id<1> i, auto& t) { t *= 2; int x = t; }); }); }
abbrev pub bad_reduction_main : Function
bad_reduction_main = function (returned.Integer (kind_at 1 kind.Int)) (word 5 (codes "main")) ([]) (block (at 12) ((stmt (Stmt-F.Declaration (declared (Declaration-F.Object (object.Buffer (qualified 14 20) (Some (elements (kind_at 27 kind.Int) None))) (word 32 (codes "b")) (Some (initializer (Initializer-F.Direct brackets.Braces (at 33) ((argument (Argument-F.Braced (at 34) ((expr (Expr-F.Integer (word 35 (codes "1")))) ∷ []) (at 36))) ∷ []) (at 37)))) (at 38))))) ∷ (stmt (Stmt-F.Declaration (declared (Declaration-F.Object (object.Queue (qualified 40 46)) (word 52 (codes "q")) None (at 53))))) ∷ (stmt (Stmt-F.Expression (full (FullExpression-F.Plain (expr (Expr-F.MemberCall (expr (Expr-F.Name (word 55 (codes "q")))) (word 57 (codes "submit")) None ((argument (Argument-F.Lambda (lambda (at 64) ((capture.DefaultReference (at 65)) ∷ []) (Some ((lambda_parameter (parameter.Handler (qualified 68 74)) true (word 83 (codes "h"))) ∷ [])) (block (at 86) ((stmt (Stmt-F.Expression (full (FullExpression-F.Plain (expr (Expr-F.MemberCall (expr (Expr-F.Name (word 88 (codes "h")))) (word 90 (codes "parallel_for")) None ((argument (Argument-F.Value (expr (Expr-F.Construct (object.Range (qualified 103 109) (Some (word 115 (codes "1")))) brackets.Braces (at 117) ((argument (Argument-F.Value (expr (Expr-F.Integer (word 118 (codes "8")))))) ∷ []) (at 119))))) ∷ (argument (Argument-F.Value (expr (Expr-F.LibraryCall (qualified 122 128) library.Reduction ((argument (Argument-F.Value (expr (Expr-F.Name (word 138 (codes "b")))))) ∷ (argument (Argument-F.Value (expr (Expr-F.Name (word 141 (codes "h")))))) ∷ (argument (Argument-F.Value (expr (Expr-F.FunctionObject (qualified 144 150) combining.Plus (Some (kind_at 155 kind.Int)) brackets.Parentheses (at 160))))) ∷ []) (at 161))))) ∷ (argument (Argument-F.Lambda (lambda (at 164) ((capture.DefaultCopy (at 165)) ∷ []) (Some ((lambda_parameter (parameter.Id (qualified 168 174) (word 177 (codes "1"))) false (word 180 (codes "i"))) ∷ (lambda_parameter (parameter.Auto (at 183)) true (word 189 (codes "t"))) ∷ [])) (block (at 192) ((stmt (Stmt-F.Expression (full (FullExpression-F.Assignment (expr (Expr-F.Name (word 194 (codes "t")))) (at 196) assign.Mul (expr (Expr-F.Integer (word 199 (codes "2")))))) (at 200))) ∷ (stmt (Stmt-F.Declaration (declared (Declaration-F.Integers None (type.Integer (kind_at 202 kind.Int)) ((declarator (Declarator-F.Equal (word 206 (codes "x")) (at 208) (expr (Expr-F.Name (word 210 (codes "t")))))) ∷ []) (at 211))))) ∷ []) (at 213))))) ∷ []) (at 214))))) (at 215))) ∷ []) (at 217))))) ∷ []) (at 218))))) (at 219))) ∷ []) (at 221))

abbrev pub bad_reduction : SourceUnit
bad_reduction = unit (item.Function bad_reduction_main ∷ [])

-- int main() { sycl::queue q; q.submit([&](sycl::handler& h) { h.parallel_for(sycl::nd_range<1>{8, 4}, [=](sycl::nd_item<1> i) { int x = sycl::reduce_over_group(i.get_group(), 1, sycl::plus<>()); }); }); }
abbrev pub group_sum_main : Function
group_sum_main = function (returned.Integer (kind_at 1 kind.Int)) (word 5 (codes "main")) ([]) (block (at 12) ((stmt (Stmt-F.Declaration (declared (Declaration-F.Object (object.Queue (qualified 14 20)) (word 26 (codes "q")) None (at 27))))) ∷ (stmt (Stmt-F.Expression (full (FullExpression-F.Plain (expr (Expr-F.MemberCall (expr (Expr-F.Name (word 29 (codes "q")))) (word 31 (codes "submit")) None ((argument (Argument-F.Lambda (lambda (at 38) ((capture.DefaultReference (at 39)) ∷ []) (Some ((lambda_parameter (parameter.Handler (qualified 42 48)) true (word 57 (codes "h"))) ∷ [])) (block (at 60) ((stmt (Stmt-F.Expression (full (FullExpression-F.Plain (expr (Expr-F.MemberCall (expr (Expr-F.Name (word 62 (codes "h")))) (word 64 (codes "parallel_for")) None ((argument (Argument-F.Value (expr (Expr-F.Construct (object.NdRange (qualified 77 83) (Some (word 92 (codes "1")))) brackets.Braces (at 94) ((argument (Argument-F.Value (expr (Expr-F.Integer (word 95 (codes "8")))))) ∷ (argument (Argument-F.Value (expr (Expr-F.Integer (word 98 (codes "4")))))) ∷ []) (at 99))))) ∷ (argument (Argument-F.Lambda (lambda (at 102) ((capture.DefaultCopy (at 103)) ∷ []) (Some ((lambda_parameter (parameter.NdItem (qualified 106 112) (word 120 (codes "1"))) false (word 123 (codes "i"))) ∷ [])) (block (at 126) ((stmt (Stmt-F.Declaration (declared (Declaration-F.Integers None (type.Integer (kind_at 128 kind.Int)) ((declarator (Declarator-F.Equal (word 132 (codes "x")) (at 134) (expr (Expr-F.LibraryCall (qualified 136 142) library.ReduceOverGroup ((argument (Argument-F.Value (expr (Expr-F.MemberCall (expr (Expr-F.Name (word 160 (codes "i")))) (word 162 (codes "get_group")) None ([]) (at 172))))) ∷ (argument (Argument-F.Value (expr (Expr-F.Integer (word 175 (codes "1")))))) ∷ (argument (Argument-F.Value (expr (Expr-F.FunctionObject (qualified 178 184) combining.Plus None brackets.Parentheses (at 191))))) ∷ []) (at 192))))) ∷ []) (at 193))))) ∷ []) (at 195))))) ∷ []) (at 196))))) (at 197))) ∷ []) (at 199))))) ∷ []) (at 200))))) (at 201))) ∷ []) (at 203))

abbrev pub group_sum : SourceUnit
group_sum = unit (item.Function group_sum_main ∷ [])

-- int main() { sycl::queue q; q.submit([&](sycl::handler& h) { h.parallel_for(sycl::nd_range<1>{8, 4}, [=](sycl::nd_item<1> i) { int x = sycl::reduce_over_group(i.get_group(), true, sycl::plus<>()); }); }); }
abbrev pub group_sum_of_bool_main : Function
group_sum_of_bool_main = function (returned.Integer (kind_at 1 kind.Int)) (word 5 (codes "main")) ([]) (block (at 12) ((stmt (Stmt-F.Declaration (declared (Declaration-F.Object (object.Queue (qualified 14 20)) (word 26 (codes "q")) None (at 27))))) ∷ (stmt (Stmt-F.Expression (full (FullExpression-F.Plain (expr (Expr-F.MemberCall (expr (Expr-F.Name (word 29 (codes "q")))) (word 31 (codes "submit")) None ((argument (Argument-F.Lambda (lambda (at 38) ((capture.DefaultReference (at 39)) ∷ []) (Some ((lambda_parameter (parameter.Handler (qualified 42 48)) true (word 57 (codes "h"))) ∷ [])) (block (at 60) ((stmt (Stmt-F.Expression (full (FullExpression-F.Plain (expr (Expr-F.MemberCall (expr (Expr-F.Name (word 62 (codes "h")))) (word 64 (codes "parallel_for")) None ((argument (Argument-F.Value (expr (Expr-F.Construct (object.NdRange (qualified 77 83) (Some (word 92 (codes "1")))) brackets.Braces (at 94) ((argument (Argument-F.Value (expr (Expr-F.Integer (word 95 (codes "8")))))) ∷ (argument (Argument-F.Value (expr (Expr-F.Integer (word 98 (codes "4")))))) ∷ []) (at 99))))) ∷ (argument (Argument-F.Lambda (lambda (at 102) ((capture.DefaultCopy (at 103)) ∷ []) (Some ((lambda_parameter (parameter.NdItem (qualified 106 112) (word 120 (codes "1"))) false (word 123 (codes "i"))) ∷ [])) (block (at 126) ((stmt (Stmt-F.Declaration (declared (Declaration-F.Integers None (type.Integer (kind_at 128 kind.Int)) ((declarator (Declarator-F.Equal (word 132 (codes "x")) (at 134) (expr (Expr-F.LibraryCall (qualified 136 142) library.ReduceOverGroup ((argument (Argument-F.Value (expr (Expr-F.MemberCall (expr (Expr-F.Name (word 160 (codes "i")))) (word 162 (codes "get_group")) None ([]) (at 172))))) ∷ (argument (Argument-F.Value (expr (Expr-F.Boolean (at 175) true)))) ∷ (argument (Argument-F.Value (expr (Expr-F.FunctionObject (qualified 181 187) combining.Plus None brackets.Parentheses (at 194))))) ∷ []) (at 195))))) ∷ []) (at 196))))) ∷ []) (at 198))))) ∷ []) (at 199))))) (at 200))) ∷ []) (at 202))))) ∷ []) (at 203))))) (at 204))) ∷ []) (at 206))

abbrev pub group_sum_of_bool : SourceUnit
group_sum_of_bool = unit (item.Function group_sum_of_bool_main ∷ [])

-- int main() { sycl::buffer<int> b{{8}}; sycl::buffer s{b, sycl::id<1>{0}, {2}}; }
abbrev pub sub_buffer_main : Function
sub_buffer_main = function (returned.Integer (kind_at 1 kind.Int)) (word 5 (codes "main")) ([]) (block (at 12) ((stmt (Stmt-F.Declaration (declared (Declaration-F.Object (object.Buffer (qualified 14 20) (Some (elements (kind_at 27 kind.Int) None))) (word 32 (codes "b")) (Some (initializer (Initializer-F.Direct brackets.Braces (at 33) ((argument (Argument-F.Braced (at 34) ((expr (Expr-F.Integer (word 35 (codes "8")))) ∷ []) (at 36))) ∷ []) (at 37)))) (at 38))))) ∷ (stmt (Stmt-F.Declaration (declared (Declaration-F.Object (object.Buffer (qualified 40 46) None) (word 53 (codes "s")) (Some (initializer (Initializer-F.Direct brackets.Braces (at 54) ((argument (Argument-F.Value (expr (Expr-F.Name (word 55 (codes "b")))))) ∷ (argument (Argument-F.Value (expr (Expr-F.Construct (object.Id (qualified 58 64) (Some (word 67 (codes "1")))) brackets.Braces (at 69) ((argument (Argument-F.Value (expr (Expr-F.Integer (word 70 (codes "0")))))) ∷ []) (at 71))))) ∷ (argument (Argument-F.Braced (at 74) ((expr (Expr-F.Integer (word 75 (codes "2")))) ∷ []) (at 76))) ∷ []) (at 77)))) (at 78))))) ∷ []) (at 80))

abbrev pub sub_buffer : SourceUnit
sub_buffer = unit (item.Function sub_buffer_main ∷ [])

-- int main() { sycl::buffer<int> b{{8}}; sycl::buffer<int, 2> s{b, sycl::id<1>{0}, {2}}; }
abbrev pub sub_buffer_of_two_main : Function
sub_buffer_of_two_main = function (returned.Integer (kind_at 1 kind.Int)) (word 5 (codes "main")) ([]) (block (at 12) ((stmt (Stmt-F.Declaration (declared (Declaration-F.Object (object.Buffer (qualified 14 20) (Some (elements (kind_at 27 kind.Int) None))) (word 32 (codes "b")) (Some (initializer (Initializer-F.Direct brackets.Braces (at 33) ((argument (Argument-F.Braced (at 34) ((expr (Expr-F.Integer (word 35 (codes "8")))) ∷ []) (at 36))) ∷ []) (at 37)))) (at 38))))) ∷ (stmt (Stmt-F.Declaration (declared (Declaration-F.Object (object.Buffer (qualified 40 46) (Some (elements (kind_at 53 kind.Int) (Some (word 58 (codes "2")))))) (word 61 (codes "s")) (Some (initializer (Initializer-F.Direct brackets.Braces (at 62) ((argument (Argument-F.Value (expr (Expr-F.Name (word 63 (codes "b")))))) ∷ (argument (Argument-F.Value (expr (Expr-F.Construct (object.Id (qualified 66 72) (Some (word 75 (codes "1")))) brackets.Braces (at 77) ((argument (Argument-F.Value (expr (Expr-F.Integer (word 78 (codes "0")))))) ∷ []) (at 79))))) ∷ (argument (Argument-F.Braced (at 82) ((expr (Expr-F.Integer (word 83 (codes "2")))) ∷ []) (at 84))) ∷ []) (at 85)))) (at 86))))) ∷ []) (at 88))

abbrev pub sub_buffer_of_two : SourceUnit
sub_buffer_of_two = unit (item.Function sub_buffer_of_two_main ∷ [])

-- int main() { try { } catch (const sycl::exception& e) { e.code() == sycl::errc::invalid; } }
abbrev pub caught_main : Function
caught_main = function (returned.Integer (kind_at 1 kind.Int)) (word 5 (codes "main")) ([]) (block (at 12) ((stmt (Stmt-F.Try (at 14) (block (at 18) ([]) (at 20)) (word 52 (codes "e")) (block (at 55) ((stmt (Stmt-F.Expression (full (FullExpression-F.Plain (expr (Expr-F.Binary (expr (Expr-F.MemberCall (expr (Expr-F.Name (word 57 (codes "e")))) (word 59 (codes "code")) None ([]) (at 64))) (at 66) (operator.Strict binary.Eq) (expr (Expr-F.ErrorCode (qualified 69 75) (word 81 (codes "invalid")))))))) (at 88))) ∷ []) (at 90)))) ∷ []) (at 92))

abbrev pub caught : SourceUnit
caught = unit (item.Function caught_main ∷ [])

-- int main() { try { } catch (const sycl::exception& e) { e.code(); } }
abbrev pub uncompared_main : Function
uncompared_main = function (returned.Integer (kind_at 1 kind.Int)) (word 5 (codes "main")) ([]) (block (at 12) ((stmt (Stmt-F.Try (at 14) (block (at 18) ([]) (at 20)) (word 52 (codes "e")) (block (at 55) ((stmt (Stmt-F.Expression (full (FullExpression-F.Plain (expr (Expr-F.MemberCall (expr (Expr-F.Name (word 57 (codes "e")))) (word 59 (codes "code")) None ([]) (at 64))))) (at 65))) ∷ []) (at 67)))) ∷ []) (at 69))

abbrev pub uncompared : SourceUnit
uncompared = unit (item.Function uncompared_main ∷ [])

-- int main() { sycl::queue q; std::vector<std::thread> ts; ts.emplace_back([&] { q.wait(); }); for (auto& t : ts) t.join(); }
abbrev pub shared_queue_main : Function
shared_queue_main = function (returned.Integer (kind_at 1 kind.Int)) (word 5 (codes "main")) ([]) (block (at 12) ((stmt (Stmt-F.Declaration (declared (Declaration-F.Object (object.Queue (qualified 14 20)) (word 26 (codes "q")) None (at 27))))) ∷ (stmt (Stmt-F.Declaration (declared (Declaration-F.ThreadVector (qualified 29 34) (word 54 (codes "ts")) (at 56))))) ∷ (stmt (Stmt-F.Expression (full (FullExpression-F.Plain (expr (Expr-F.MemberCall (expr (Expr-F.Name (word 58 (codes "ts")))) (word 61 (codes "emplace_back")) None ((argument (Argument-F.Lambda (lambda (at 74) ((capture.DefaultReference (at 75)) ∷ []) None (block (at 78) ((stmt (Stmt-F.Expression (full (FullExpression-F.Plain (expr (Expr-F.MemberCall (expr (Expr-F.Name (word 80 (codes "q")))) (word 82 (codes "wait")) None ([]) (at 87))))) (at 88))) ∷ []) (at 90))))) ∷ []) (at 91))))) (at 92))) ∷ (stmt (Stmt-F.RangeFor (at 94) false (type.Auto (at 99)) true (word 105 (codes "t")) (word 109 (codes "ts")) (stmt (Stmt-F.Expression (full (FullExpression-F.Plain (expr (Expr-F.MemberCall (expr (Expr-F.Name (word 113 (codes "t")))) (word 115 (codes "join")) None ([]) (at 120))))) (at 121))))) ∷ []) (at 123))

abbrev pub shared_queue : SourceUnit
shared_queue = unit (item.Function shared_queue_main ∷ [])

-- int main() { std::vector<std::thread> ts; sycl::queue q; ts.emplace_back([&] { q.wait(); }); for (auto& t : ts) t.join(); }
abbrev pub late_queue_main : Function
late_queue_main = function (returned.Integer (kind_at 1 kind.Int)) (word 5 (codes "main")) ([]) (block (at 12) ((stmt (Stmt-F.Declaration (declared (Declaration-F.ThreadVector (qualified 14 19) (word 39 (codes "ts")) (at 41))))) ∷ (stmt (Stmt-F.Declaration (declared (Declaration-F.Object (object.Queue (qualified 43 49)) (word 55 (codes "q")) None (at 56))))) ∷ (stmt (Stmt-F.Expression (full (FullExpression-F.Plain (expr (Expr-F.MemberCall (expr (Expr-F.Name (word 58 (codes "ts")))) (word 61 (codes "emplace_back")) None ((argument (Argument-F.Lambda (lambda (at 74) ((capture.DefaultReference (at 75)) ∷ []) None (block (at 78) ((stmt (Stmt-F.Expression (full (FullExpression-F.Plain (expr (Expr-F.MemberCall (expr (Expr-F.Name (word 80 (codes "q")))) (word 82 (codes "wait")) None ([]) (at 87))))) (at 88))) ∷ []) (at 90))))) ∷ []) (at 91))))) (at 92))) ∷ (stmt (Stmt-F.RangeFor (at 94) false (type.Auto (at 99)) true (word 105 (codes "t")) (word 109 (codes "ts")) (stmt (Stmt-F.Expression (full (FullExpression-F.Plain (expr (Expr-F.MemberCall (expr (Expr-F.Name (word 113 (codes "t")))) (word 115 (codes "join")) None ([]) (at 120))))) (at 121))))) ∷ []) (at 123))

abbrev pub late_queue : SourceUnit
late_queue = unit (item.Function late_queue_main ∷ [])

-- int main() { sycl::buffer<int, 2> b{{2, 2}}; sycl::host_accessor a{b}; a[0][1] = 1; a[sycl::id<2>{0, 1}] = 2; }
abbrev pub two_indexes_main : Function
two_indexes_main = function (returned.Integer (kind_at 1 kind.Int)) (word 5 (codes "main")) ([]) (block (at 12) ((stmt (Stmt-F.Declaration (declared (Declaration-F.Object (object.Buffer (qualified 14 20) (Some (elements (kind_at 27 kind.Int) (Some (word 32 (codes "2")))))) (word 35 (codes "b")) (Some (initializer (Initializer-F.Direct brackets.Braces (at 36) ((argument (Argument-F.Braced (at 37) ((expr (Expr-F.Integer (word 38 (codes "2")))) ∷ (expr (Expr-F.Integer (word 41 (codes "2")))) ∷ []) (at 42))) ∷ []) (at 43)))) (at 44))))) ∷ (stmt (Stmt-F.Declaration (declared (Declaration-F.Object (object.HostAccessor (qualified 46 52)) (word 66 (codes "a")) (Some (initializer (Initializer-F.Direct brackets.Braces (at 67) ((argument (Argument-F.Value (expr (Expr-F.Name (word 68 (codes "b")))))) ∷ []) (at 69)))) (at 70))))) ∷ (stmt (Stmt-F.Expression (full (FullExpression-F.Assignment (expr (Expr-F.Subscript (expr (Expr-F.Subscript (expr (Expr-F.Name (word 72 (codes "a")))) (at 73) (expr (Expr-F.Integer (word 74 (codes "0")))) (at 75))) (at 76) (expr (Expr-F.Integer (word 77 (codes "1")))) (at 78))) (at 80) assign.Assign (expr (Expr-F.Integer (word 82 (codes "1")))))) (at 83))) ∷ (stmt (Stmt-F.Expression (full (FullExpression-F.Assignment (expr (Expr-F.Subscript (expr (Expr-F.Name (word 85 (codes "a")))) (at 86) (expr (Expr-F.Construct (object.Id (qualified 87 93) (Some (word 96 (codes "2")))) brackets.Braces (at 98) ((argument (Argument-F.Value (expr (Expr-F.Integer (word 99 (codes "0")))))) ∷ (argument (Argument-F.Value (expr (Expr-F.Integer (word 102 (codes "1")))))) ∷ []) (at 103))) (at 104))) (at 106) assign.Assign (expr (Expr-F.Integer (word 108 (codes "2")))))) (at 109))) ∷ []) (at 111))

abbrev pub two_indexes : SourceUnit
two_indexes = unit (item.Function two_indexes_main ∷ [])

-- int main() { sycl::buffer<int, 2> b{{2, 2}}; sycl::host_accessor a{b}; a[0] = 1; }
abbrev pub one_index_main : Function
one_index_main = function (returned.Integer (kind_at 1 kind.Int)) (word 5 (codes "main")) ([]) (block (at 12) ((stmt (Stmt-F.Declaration (declared (Declaration-F.Object (object.Buffer (qualified 14 20) (Some (elements (kind_at 27 kind.Int) (Some (word 32 (codes "2")))))) (word 35 (codes "b")) (Some (initializer (Initializer-F.Direct brackets.Braces (at 36) ((argument (Argument-F.Braced (at 37) ((expr (Expr-F.Integer (word 38 (codes "2")))) ∷ (expr (Expr-F.Integer (word 41 (codes "2")))) ∷ []) (at 42))) ∷ []) (at 43)))) (at 44))))) ∷ (stmt (Stmt-F.Declaration (declared (Declaration-F.Object (object.HostAccessor (qualified 46 52)) (word 66 (codes "a")) (Some (initializer (Initializer-F.Direct brackets.Braces (at 67) ((argument (Argument-F.Value (expr (Expr-F.Name (word 68 (codes "b")))))) ∷ []) (at 69)))) (at 70))))) ∷ (stmt (Stmt-F.Expression (full (FullExpression-F.Assignment (expr (Expr-F.Subscript (expr (Expr-F.Name (word 72 (codes "a")))) (at 73) (expr (Expr-F.Integer (word 74 (codes "0")))) (at 75))) (at 77) assign.Assign (expr (Expr-F.Integer (word 79 (codes "1")))))) (at 80))) ∷ []) (at 82))

abbrev pub one_index : SourceUnit
one_index = unit (item.Function one_index_main ∷ [])

-- void f(sycl::queue& q) { } int main() { sycl::queue q; f(q); }
abbrev pub passed_by_name_1 : Function
passed_by_name_1 = function (returned.Void (at 1)) (word 6 (codes "f")) ((formal.Object (reference.Queue (qualified 8 14)) (word 21 (codes "q"))) ∷ []) (block (at 24) ([]) (at 26))

abbrev pub passed_by_name_2 : Function
passed_by_name_2 = function (returned.Integer (kind_at 28 kind.Int)) (word 32 (codes "main")) ([]) (block (at 39) ((stmt (Stmt-F.Declaration (declared (Declaration-F.Object (object.Queue (qualified 41 47)) (word 53 (codes "q")) None (at 54))))) ∷ (stmt (Stmt-F.Expression (full (FullExpression-F.Plain (expr (Expr-F.Call (word 56 (codes "f")) ((expr (Expr-F.Name (word 58 (codes "q")))) ∷ []) (at 59))))) (at 60))) ∷ []) (at 62))

abbrev pub passed_by_name : SourceUnit
passed_by_name = unit (item.Function passed_by_name_1 ∷ item.Function passed_by_name_2 ∷ [])

-- void f(sycl::queue& q) { } int main() { sycl::queue q; f((q)); }
abbrev pub passed_in_parentheses_1 : Function
passed_in_parentheses_1 = function (returned.Void (at 1)) (word 6 (codes "f")) ((formal.Object (reference.Queue (qualified 8 14)) (word 21 (codes "q"))) ∷ []) (block (at 24) ([]) (at 26))

abbrev pub passed_in_parentheses_2 : Function
passed_in_parentheses_2 = function (returned.Integer (kind_at 28 kind.Int)) (word 32 (codes "main")) ([]) (block (at 39) ((stmt (Stmt-F.Declaration (declared (Declaration-F.Object (object.Queue (qualified 41 47)) (word 53 (codes "q")) None (at 54))))) ∷ (stmt (Stmt-F.Expression (full (FullExpression-F.Plain (expr (Expr-F.Call (word 56 (codes "f")) ((expr (Expr-F.Parenthesized (at 58) (expr (Expr-F.Name (word 59 (codes "q")))) (at 60))) ∷ []) (at 61))))) (at 62))) ∷ []) (at 64))

abbrev pub passed_in_parentheses : SourceUnit
passed_in_parentheses = unit (item.Function passed_in_parentheses_1 ∷ item.Function passed_in_parentheses_2 ∷ [])

-- int main() { std::vector<int> v(1); for (auto& x : v) { x = 2; std::thread t([x] { x + 1; }); t.join(); } }
abbrev pub element_in_thread_main : Function
element_in_thread_main = function (returned.Integer (kind_at 1 kind.Int)) (word 5 (codes "main")) ([]) (block (at 12) ((stmt (Stmt-F.Declaration (declared (Declaration-F.Vector (qualified 14 19) (kind_at 26 kind.Int) (word 31 (codes "v")) (Some (initializer (Initializer-F.Direct brackets.Parentheses (at 32) ((argument (Argument-F.Value (expr (Expr-F.Integer (word 33 (codes "1")))))) ∷ []) (at 34)))) (at 35))))) ∷ (stmt (Stmt-F.RangeFor (at 37) false (type.Auto (at 42)) true (word 48 (codes "x")) (word 52 (codes "v")) (stmt (Stmt-F.Compound (block (at 55) ((stmt (Stmt-F.Expression (full (FullExpression-F.Assignment (expr (Expr-F.Name (word 57 (codes "x")))) (at 59) assign.Assign (expr (Expr-F.Integer (word 61 (codes "2")))))) (at 62))) ∷ (stmt (Stmt-F.Declaration (declared (Declaration-F.Thread (qualified 64 69) (word 76 (codes "t")) brackets.Parentheses (lambda (at 78) ((capture.Copy (word 79 (codes "x"))) ∷ []) None (block (at 82) ((stmt (Stmt-F.Expression (full (FullExpression-F.Plain (expr (Expr-F.Binary (expr (Expr-F.Name (word 84 (codes "x")))) (at 86) (operator.Strict binary.Add) (expr (Expr-F.Integer (word 88 (codes "1")))))))) (at 89))) ∷ []) (at 91))) (at 93))))) ∷ (stmt (Stmt-F.Expression (full (FullExpression-F.Plain (expr (Expr-F.MemberCall (expr (Expr-F.Name (word 95 (codes "t")))) (word 97 (codes "join")) None ([]) (at 102))))) (at 103))) ∷ []) (at 105)))))) ∷ []) (at 107))

abbrev pub element_in_thread : SourceUnit
element_in_thread = unit (item.Function element_in_thread_main ∷ [])

-- int main() { sycl::queue q; std::vector<int> v(1); for (int& x : v) q.submit([&](sycl::handler& h) { h.single_task([=] { x + 1; }); }); }
abbrev pub element_in_kernel_main : Function
element_in_kernel_main = function (returned.Integer (kind_at 1 kind.Int)) (word 5 (codes "main")) ([]) (block (at 12) ((stmt (Stmt-F.Declaration (declared (Declaration-F.Object (object.Queue (qualified 14 20)) (word 26 (codes "q")) None (at 27))))) ∷ (stmt (Stmt-F.Declaration (declared (Declaration-F.Vector (qualified 29 34) (kind_at 41 kind.Int) (word 46 (codes "v")) (Some (initializer (Initializer-F.Direct brackets.Parentheses (at 47) ((argument (Argument-F.Value (expr (Expr-F.Integer (word 48 (codes "1")))))) ∷ []) (at 49)))) (at 50))))) ∷ (stmt (Stmt-F.RangeFor (at 52) false (type.Integer (kind_at 57 kind.Int)) true (word 62 (codes "x")) (word 66 (codes "v")) (stmt (Stmt-F.Expression (full (FullExpression-F.Plain (expr (Expr-F.MemberCall (expr (Expr-F.Name (word 69 (codes "q")))) (word 71 (codes "submit")) None ((argument (Argument-F.Lambda (lambda (at 78) ((capture.DefaultReference (at 79)) ∷ []) (Some ((lambda_parameter (parameter.Handler (qualified 82 88)) true (word 97 (codes "h"))) ∷ [])) (block (at 100) ((stmt (Stmt-F.Expression (full (FullExpression-F.Plain (expr (Expr-F.MemberCall (expr (Expr-F.Name (word 102 (codes "h")))) (word 104 (codes "single_task")) None ((argument (Argument-F.Lambda (lambda (at 116) ((capture.DefaultCopy (at 117)) ∷ []) None (block (at 120) ((stmt (Stmt-F.Expression (full (FullExpression-F.Plain (expr (Expr-F.Binary (expr (Expr-F.Name (word 122 (codes "x")))) (at 124) (operator.Strict binary.Add) (expr (Expr-F.Integer (word 126 (codes "1")))))))) (at 127))) ∷ []) (at 129))))) ∷ []) (at 130))))) (at 131))) ∷ []) (at 133))))) ∷ []) (at 134))))) (at 135))))) ∷ []) (at 137))

abbrev pub element_in_kernel : SourceUnit
element_in_kernel = unit (item.Function element_in_kernel_main ∷ [])

-- ---- typed programs: an element is assigned to by its name, and copied where a thread or kernel is given it

abbrev pub variable_at : ℕ → ℕ → Thing → Variable
variable_at c i t = record { number = i; what = t; spot = at c }

abbrev pub typed_at : ℕ → Thing → TypedNode → Typed
typed_at c t x = roll-Typed (record { node = x; what = t; spot = at c })

abbrev pub int_at : ℕ → TypedNode → Typed
int_at c x = typed_at c (thing.Integer kind.Int) x

abbrev pub typed_block : List TypedStmt → ℕ → TypedBlock
typed_block xs c = roll-TypedBlock (record { statements = xs; close = at c })

abbrev pub typed_lambda : ℕ → ℕ → List TypedCapture → List Variable → TypedBlock → TypedLambda
typed_lambda c i cs ps y = roll-TypedLambda (record { spot = at c; number = i; captures = cs; parameters = ps; body = y })

abbrev pub typed_main : TypedBlock → Program
typed_main y = record { constants = []; functions = record { spot = at 5; returned = Some kind.Int; parameters = []; body = y } ∷ []; main = 0 }

-- `v(1)`, with its number, its column, and those of the `1`, the `)` and the `;`
abbrev pub typed_vector : ℕ → ℕ → ℕ → ℕ → ℕ → TypedStmt
typed_vector i v one close end =
    typed_stmt.Declaration (typed_declaration.Vector (variable_at v i (thing.Vector kind.Int)) (Some (typed_initializer.Direct brackets.Parentheses (typed_argument.Value (int_at one (node.Integer (pos 1))) ∷ []) (at close))) (at end))

-- `x + 1;` where x has this number
abbrev pub typed_sum : ℕ → ℕ → ℕ → ℕ → ℕ → TypedStmt
typed_sum i x sign one end =
    typed_stmt.Expression (typed_full.Plain (int_at sign (node.Binary (int_at x (node.Name i)) (operator.Strict binary.Add) (int_at one (node.Integer (pos 1)))))) (at end)

abbrev pub element_in_thread_program : Program
element_in_thread_program = typed_main (typed_block (
    typed_vector 0 31 33 34 35
    ∷ typed_stmt.RangeFor (at 37) (variable_at 48 1 (thing.Integer kind.Int)) true (variable_at 52 0 (thing.Vector kind.Int)) (typed_stmt.Compound (typed_block (
    typed_stmt.Expression (typed_full.Assignment (int_at 57 (node.Reference 1)) (at 59) assign.Assign (int_at 61 (node.Integer (pos 2)))) (at 62)
    ∷ typed_stmt.Declaration (typed_declaration.Thread (variable_at 76 2 thing.Thread) (typed_lambda 78 1 (typed_capture.Element (variable_at 48 1 (thing.Integer kind.Int)) ∷ []) [] (typed_block (typed_sum 1 84 86 88 89 ∷ []) 91)) (at 93))
    ∷ typed_stmt.Expression (typed_full.Plain (typed_at 97 thing.Void (node.MemberCall (typed_at 95 thing.Thread (node.Name 2)) member.Join [] (at 102)))) (at 103)
    ∷ []) 105))
    ∷ []) 107)

abbrev pub element_in_kernel_program : Program
element_in_kernel_program = typed_main (typed_block (
    typed_stmt.Declaration (typed_declaration.Object (variable_at 26 0 thing.Queue) None (at 27))
    ∷ typed_vector 1 46 48 49 50
    ∷ typed_stmt.RangeFor (at 52) (variable_at 62 2 (thing.Integer kind.Int)) true (variable_at 66 1 (thing.Vector kind.Int)) (typed_stmt.Expression (typed_full.Plain (typed_at 71 thing.Event (node.MemberCall (typed_at 69 thing.Queue (node.Name 0)) member.Submit (
    typed_argument.Lambda (typed_lambda 78 1 [] (variable_at 97 3 thing.Handler ∷ []) (typed_block (
    typed_stmt.Expression (typed_full.Plain (typed_at 104 thing.Void (node.MemberCall (typed_at 102 thing.Handler (node.Name 3)) member.SingleTask (
    typed_argument.Lambda (typed_lambda 116 2 (typed_capture.Element (variable_at 62 2 (thing.Integer kind.Int)) ∷ []) [] (typed_block (typed_sum 2 122 124 126 127 ∷ []) 129))
    ∷ []) (at 130)))) (at 131)
    ∷ []) 133))
    ∷ []) (at 134)))) (at 135))
    ∷ []) 137)

-- ---- what they break

pub record Worked : Type 0 where
  pub for_no_main : broken_rules no_main ≡ (record { spot = at 1; code = code.NoMain } ∷ [])
  pub for_with_main : broken_rules with_main ≡ ([])
  pub for_unknown_name : broken_rules unknown_name ≡ (record { spot = at 21; code = code.UnknownName } ∷ [])
  pub for_known_name : broken_rules known_name ≡ ([])
  pub for_redeclared : broken_rules redeclared ≡ (record { spot = at 29; code = code.Redeclared } ∷ [])
  pub for_hidden : broken_rules hidden ≡ ([])
  pub for_wide_literal : broken_rules wide_literal ≡ (record { spot = at 21; code = code.BadLiteral } ∷ [])
  pub for_widest_literal : broken_rules widest_literal ≡ ([])
  pub for_bad_constant : broken_rules bad_constant ≡ (record { spot = at 15; code = code.BadConstant } ∷ [])
  pub for_good_constant : broken_rules good_constant ≡ ([])
  pub for_bad_dimension : broken_rules bad_dimension ≡ (record { spot = at 26; code = code.BadDimension } ∷ [])
  pub for_bad_count : broken_rules bad_count ≡ (record { spot = at 29; code = code.BadDimension } ∷ [])
  pub for_good_dimension : broken_rules good_dimension ≡ ([])
  pub for_bad_declaration : broken_rules bad_declaration ≡ (record { spot = at 19; code = code.BadDeclaration } ∷ [])
  pub for_good_declaration : broken_rules good_declaration ≡ ([])
  pub for_wrong_arguments : broken_rules wrong_arguments ≡ (record { spot = at 26; code = code.WrongArguments } ∷ [])
  pub for_right_arguments : broken_rules right_arguments ≡ ([])
  pub for_unknown_member : broken_rules unknown_member ≡ (record { spot = at 31; code = code.UnknownMember } ∷ [])
  pub for_known_member : broken_rules known_member ≡ ([])
  pub for_wrong_operand : broken_rules wrong_operand ≡ (record { spot = at 33; code = code.WrongOperand } ∷ [])
  pub for_right_operand : broken_rules right_operand ≡ ([])
  pub for_bad_element : broken_rules bad_element ≡ (record { spot = at 53; code = code.BadElement } ∷ [])
  pub for_good_element : broken_rules good_element ≡ ([])
  pub for_not_assignable : broken_rules not_assignable ≡ (record { spot = at 31; code = code.NotAssignable } ∷ [])
  pub for_assignable : broken_rules assignable ≡ ([])
  pub for_mode_broken : broken_rules mode_broken ≡ (record { spot = at 83; code = code.ModeBroken } ∷ [])
  pub for_mode_kept : broken_rules mode_kept ≡ ([])
  pub for_not_in_kernel : broken_rules not_in_kernel ≡ (record { spot = at 11; code = code.NotInKernel } ∷ [])
  pub for_not_called : broken_rules not_called ≡ ([])
  pub for_not_in_group : broken_rules not_in_group ≡ (record { spot = at 62; code = code.NotInGroup } ∷ [])
  pub for_in_group : broken_rules in_group ≡ ([])
  pub for_not_in_host : broken_rules not_in_host ≡ (record { spot = at 34; code = code.UnknownName } ∷ record { spot = at 14; code = code.NotInHost } ∷ [])
  pub for_in_kernel : broken_rules in_kernel ≡ ([])
  pub for_bad_lambda : broken_rules bad_lambda ≡ (record { spot = at 38; code = code.BadLambda } ∷ [])
  pub for_good_lambda : broken_rules good_lambda ≡ ([])
  pub for_kernel_capture : broken_rules kernel_capture ≡ (record { spot = at 109; code = code.KernelCapture } ∷ [])
  pub for_kernel_copy : broken_rules kernel_copy ≡ ([])
  pub for_thread_capture : broken_rules thread_capture ≡ (record { spot = at 41; code = code.ThreadCapture } ∷ [])
  pub for_thread_copy : broken_rules thread_copy ≡ ([])
  pub for_bad_return : broken_rules bad_return ≡ (record { spot = at 12; code = code.BadReturn } ∷ [])
  pub for_good_return : broken_rules good_return ≡ ([])
  pub for_loop_word : broken_rules loop_word ≡ (record { spot = at 14; code = code.LoopWord } ∷ [])
  pub for_in_loop : broken_rules in_loop ≡ ([])
  pub for_bad_call : broken_rules bad_call ≡ (record { spot = at 18; code = code.BadCall } ∷ [])
  pub for_good_call : broken_rules good_call ≡ ([])
  pub for_add_two : broken_rules add_two ≡ ([])
  pub for_good_reduction : broken_rules good_reduction ≡ ([])
  pub for_bad_reduction : broken_rules bad_reduction ≡ (record { spot = at 194; code = code.WrongOperand } ∷ record { spot = at 210; code = code.WrongOperand } ∷ [])
  pub for_group_sum : broken_rules group_sum ≡ ([])
  pub for_group_sum_of_bool : broken_rules group_sum_of_bool ≡ (record { spot = at 142; code = code.BadElement } ∷ [])
  pub for_sub_buffer : broken_rules sub_buffer ≡ ([])
  pub for_sub_buffer_of_two : broken_rules sub_buffer_of_two ≡ (record { spot = at 61; code = code.BadDimension } ∷ [])
  pub for_caught : broken_rules caught ≡ ([])
  pub for_uncompared : broken_rules uncompared ≡ (record { spot = at 57; code = code.WrongOperand } ∷ [])
  pub for_shared_queue : broken_rules shared_queue ≡ ([])
  pub for_late_queue : broken_rules late_queue ≡ (record { spot = at 80; code = code.ThreadCapture } ∷ [])
  pub for_two_indexes : broken_rules two_indexes ≡ ([])
  pub for_one_index : broken_rules one_index ≡ (record { spot = at 72; code = code.NotAssignable } ∷ [])
  pub for_passed_by_name : broken_rules passed_by_name ≡ ([])
  pub for_passed_in_parentheses : broken_rules passed_in_parentheses ≡ (record { spot = at 56; code = code.WrongArguments } ∷ [])
  pub for_element_in_thread : broken_rules element_in_thread ≡ ([])
  pub for_element_in_kernel : broken_rules element_in_kernel ≡ ([])
  pub program_of_element_in_thread : program_of element_in_thread ≡ element_in_thread_program
  pub program_of_element_in_kernel : program_of element_in_kernel ≡ element_in_kernel_program
