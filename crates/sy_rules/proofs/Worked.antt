-- What small sources break, and their typed programs, computed: a tree is looked at as its constructs are.
use Rattle.std.proofs.Common.{◌≡◌, refl, true, false, List, [], ◌∷◌, Option, Some, None, ap, ◌∙◌, map}
use Rattle.std.specs.Prelude.{codes}
use Rattle.sy_note.specs.declared.Code.TheVariants as code
use Rattle.sy_note.specs.declared.Spot.{Spot}
use Rattle.sy_num.specs.declared.BinOp.TheVariants as binary
use Rattle.sy_num.specs.declared.Kind.TheVariants as kind
use Rattle.sy_tree.specs.declared.operators.Operator.TheVariants as operator
use Rattle.sy_tree.specs.declared.operators.AssignmentOperator.TheVariants as assign
use Rattle.sy_tree.specs.declared.parts.AccessTag.TheVariants as access
use Rattle.sy_tree.specs.declared.parts.Brackets.TheVariants as brackets
use Rattle.sy_tree.specs.declared.parts.Capture.{Capture}
use Rattle.sy_tree.specs.declared.parts.Capture.TheVariants as capture
use Rattle.sy_tree.specs.declared.parts.ConstSpecifier.TheVariants as specifier
use Rattle.sy_tree.specs.declared.parts.FunctionObject.TheVariants as combining
use Rattle.sy_tree.specs.declared.parts.LambdaParameter.{LambdaParameter}
use Rattle.sy_tree.specs.declared.parts.LambdaParameterType.TheVariants as parameter
use Rattle.sy_tree.specs.declared.parts.LibraryFunction.TheVariants as library
use Rattle.sy_tree.specs.declared.parts.ObjectType.TheVariants as object
use Rattle.sy_tree.specs.declared.parts.TypeSpecifier.TheVariants as type
use Rattle.sy_tree.specs.declared.tree.Constant.{Constant}
use Rattle.sy_tree.specs.declared.tree.Function.{Function}
use Rattle.sy_tree.specs.declared.tree.Argument.TheOpen.{Argument-F, Declaration-F, Declarator-F, Expr-F, FullExpression-F, Initializer-F, Printed-F, Stmt-F}
use Rattle.sy_tree.specs.declared.tree.Argument.{fold-roll-Argument}
use Rattle.sy_tree.specs.declared.tree.Block.{fold-roll-Block}
use Rattle.sy_tree.specs.declared.tree.Declaration.{fold-roll-Declaration}
use Rattle.sy_tree.specs.declared.tree.Declarator.{fold-roll-Declarator}
use Rattle.sy_tree.specs.declared.tree.Expr.{fold-roll-Expr}
use Rattle.sy_tree.specs.declared.tree.FullExpression.{fold-roll-FullExpression}
use Rattle.sy_tree.specs.declared.tree.Initializer.{fold-roll-Initializer}
use Rattle.sy_tree.specs.declared.tree.Lambda.{fold-roll-Lambda}
use Rattle.sy_tree.specs.declared.tree.Printed.{fold-roll-Printed}
use Rattle.sy_tree.specs.declared.tree.Stmt.{fold-roll-Stmt}
use Rattle.sy_num.specs.Kinds.{common_kind}
use Rattle.sy_num.specs.Operators.{applied, applied_one, fitted, represented, quotient}
use Rattle.sy_num.specs.Scalars.{converted_num, reduced}
use Rattle.sy_tree.specs.declared.tree.Constant.{Constant}
use Rattle.sy_tree.specs.declared.tree.FileItem.TheVariants as item
use Rattle.sy_tree.specs.declared.tree.Function.{Function}
use Rattle.sy_tree.specs.declared.tree.Unit.{Unit as SourceUnit}
use Rattle.sy_rules.specs.Outcome.{Look, in_turn, known_as}
use Rattle.sy_rules.specs.Units.{Piece, a_constant, with_findings, constant_by, one_function, one_item, function_items, at_start, broken_in, broken_rules, program_in, program_of}
use Rattle.sy_rules.specs.Walk.{Ex, Bl, St, De, Dr, Fu, In, Pr, Ar, La, declarator_of, expr_step, full_step, stmt_step, block_step, declaration_step, lambda_step, printed_step, initializer_step, declarator_step, argument_step}
use Rattle.sy_rules.specs.Worked.{at, word, qualified, kind_at, elements, lambda_parameter, Worked}
use Rattle.sy_rules.specs.Walk as walk
use Rattle.sy_rules.specs.Worked as source

-- ---- one level of each sort of tree, looked at

abbrev expr : Expr-F Ar De Dr Ex Fu In Pr St Bl La → Ex
expr = expr_step

abbrev full : FullExpression-F Ar De Dr Ex Fu In Pr St Bl La → Fu
full = full_step

abbrev stmt : Stmt-F Ar De Dr Ex Fu In Pr St Bl La → St
stmt = stmt_step

abbrev declared : Declaration-F Ar De Dr Ex Fu In Pr St Bl La → De
declared = declaration_step

abbrev declarator : Declarator-F Ar De Dr Ex Fu In Pr St Bl La → Dr
declarator = declarator_step

abbrev initializer : Initializer-F Ar De Dr Ex Fu In Pr St Bl La → In
initializer = initializer_step

abbrev printed : Printed-F Ar De Dr Ex Fu In Pr St Bl La → Pr
printed = printed_step

abbrev argument : Argument-F Ar De Dr Ex Fu In Pr St Bl La → Ar
argument = argument_step

abbrev block : Spot → List St → Spot → Bl
block o xs c = block_step (record { spot = o; statements = xs; close = c })

abbrev lambda : Spot → List Capture → Option (List LambdaParameter) → Bl → La
lambda o cs ps y = lambda_step (record { spot = o; captures = cs; parameters = ps; body = y })

abbrev function : Function → Bl → Look Piece
function g y = λ n. with_findings (one_function g y n)

abbrev constant : Constant → Dr → Look Piece
constant c y = λ n. known_as a_constant (constant_by c y n)

item_by : (g : Function) (y : Bl) → walk.block g.body ≡ y → one_item (item.Function g) ≡ function g y
item_by g y h = ap (λ z. function g z) h

constant_by_look : (c : Constant) (y : Dr) → declarator_of c.declarator ≡ y → one_item (item.Constant c) ≡ constant c y
constant_by_look c y h = ap (λ z. constant c z) h

one_more : {A : Type 0} {x y : A} {xs ys : List A} → x ≡ y → xs ≡ ys → (x ∷ xs) ≡ (y ∷ ys)
one_more g h = cc

broken_by : (u : SourceUnit) (ls : List (Look Piece)) → map one_item u.items ≡ ls
    → broken_rules u ≡ broken_in (function_items u.items) (in_turn ls (at_start (function_items u.items)))
unfolding broken_rules
broken_by u ls h = ap (λ l. broken_in (function_items u.items) (in_turn l (at_start (function_items u.items)))) h

program_by : (u : SourceUnit) (ls : List (Look Piece)) → map one_item u.items ≡ ls
    → program_of u ≡ program_in (function_items u.items) (in_turn ls (at_start (function_items u.items)))
unfolding program_of
program_by u ls h = ap (λ l. program_in (function_items u.items) (in_turn l (at_start (function_items u.items)))) h

ruleset folds = (fold-roll-Argument, fold-roll-Block, fold-roll-Declaration, fold-roll-Declarator, fold-roll-Expr, fold-roll-FullExpression, fold-roll-Initializer, fold-roll-Lambda, fold-roll-Printed, fold-roll-Stmt)

abbrev no_main_looks : List (Look Piece)
no_main_looks = function source.no_main_main (block (at 10) ([]) (at 12)) ∷ []

no_main_result : broken_rules source.no_main ≡ (record { spot = at 1; code = code.NoMain } ∷ [])
unfolding common_kind applied applied_one fitted represented quotient converted_num reduced
no_main_result = broken_by source.no_main no_main_looks (one_more (item_by source.no_main_main (block (at 10) ([]) (at 12)) (simp folds refl)) refl) ∙ refl

abbrev with_main_looks : List (Look Piece)
with_main_looks = function source.with_main_main (block (at 12) ([]) (at 14)) ∷ []

with_main_result : broken_rules source.with_main ≡ ([])
unfolding common_kind applied applied_one fitted represented quotient converted_num reduced
with_main_result = broken_by source.with_main with_main_looks (one_more (item_by source.with_main_main (block (at 12) ([]) (at 14)) (simp folds refl)) refl) ∙ refl

abbrev unknown_name_looks : List (Look Piece)
unknown_name_looks = function source.unknown_name_main (block (at 12) ((stmt (Stmt-F.Return (at 14) (Some (expr (Expr-F.Name (word 21 (codes "y"))))) (at 22))) ∷ []) (at 24)) ∷ []

unknown_name_result : broken_rules source.unknown_name ≡ (record { spot = at 21; code = code.UnknownName } ∷ [])
unfolding common_kind applied applied_one fitted represented quotient converted_num reduced
unknown_name_result = broken_by source.unknown_name unknown_name_looks (one_more (item_by source.unknown_name_main (block (at 12) ((stmt (Stmt-F.Return (at 14) (Some (expr (Expr-F.Name (word 21 (codes "y"))))) (at 22))) ∷ []) (at 24)) (simp folds refl)) refl) ∙ refl

abbrev known_name_looks : List (Look Piece)
known_name_looks = function source.known_name_main (block (at 12) ((stmt (Stmt-F.Declaration (declared (Declaration-F.Integers None (type.Integer (kind_at 14 kind.Int)) ((declarator (Declarator-F.Equal (word 18 (codes "y")) (at 20) (expr (Expr-F.Integer (word 22 (codes "1")))))) ∷ []) (at 23))))) ∷ (stmt (Stmt-F.Return (at 25) (Some (expr (Expr-F.Name (word 32 (codes "y"))))) (at 33))) ∷ []) (at 35)) ∷ []

known_name_result : broken_rules source.known_name ≡ ([])
unfolding common_kind applied applied_one fitted represented quotient converted_num reduced
known_name_result = broken_by source.known_name known_name_looks (one_more (item_by source.known_name_main (block (at 12) ((stmt (Stmt-F.Declaration (declared (Declaration-F.Integers None (type.Integer (kind_at 14 kind.Int)) ((declarator (Declarator-F.Equal (word 18 (codes "y")) (at 20) (expr (Expr-F.Integer (word 22 (codes "1")))))) ∷ []) (at 23))))) ∷ (stmt (Stmt-F.Return (at 25) (Some (expr (Expr-F.Name (word 32 (codes "y"))))) (at 33))) ∷ []) (at 35)) (simp folds refl)) refl) ∙ refl

abbrev redeclared_looks : List (Look Piece)
redeclared_looks = function source.redeclared_main (block (at 12) ((stmt (Stmt-F.Declaration (declared (Declaration-F.Integers None (type.Integer (kind_at 14 kind.Int)) ((declarator (Declarator-F.Equal (word 18 (codes "x")) (at 20) (expr (Expr-F.Integer (word 22 (codes "1")))))) ∷ []) (at 23))))) ∷ (stmt (Stmt-F.Declaration (declared (Declaration-F.Integers None (type.Integer (kind_at 25 kind.Int)) ((declarator (Declarator-F.Equal (word 29 (codes "x")) (at 31) (expr (Expr-F.Integer (word 33 (codes "2")))))) ∷ []) (at 34))))) ∷ []) (at 36)) ∷ []

redeclared_result : broken_rules source.redeclared ≡ (record { spot = at 29; code = code.Redeclared } ∷ [])
unfolding common_kind applied applied_one fitted represented quotient converted_num reduced
redeclared_result = broken_by source.redeclared redeclared_looks (one_more (item_by source.redeclared_main (block (at 12) ((stmt (Stmt-F.Declaration (declared (Declaration-F.Integers None (type.Integer (kind_at 14 kind.Int)) ((declarator (Declarator-F.Equal (word 18 (codes "x")) (at 20) (expr (Expr-F.Integer (word 22 (codes "1")))))) ∷ []) (at 23))))) ∷ (stmt (Stmt-F.Declaration (declared (Declaration-F.Integers None (type.Integer (kind_at 25 kind.Int)) ((declarator (Declarator-F.Equal (word 29 (codes "x")) (at 31) (expr (Expr-F.Integer (word 33 (codes "2")))))) ∷ []) (at 34))))) ∷ []) (at 36)) (simp folds refl)) refl) ∙ refl

abbrev hidden_looks : List (Look Piece)
hidden_looks = function source.hidden_main (block (at 12) ((stmt (Stmt-F.Declaration (declared (Declaration-F.Integers None (type.Integer (kind_at 14 kind.Int)) ((declarator (Declarator-F.Equal (word 18 (codes "x")) (at 20) (expr (Expr-F.Integer (word 22 (codes "1")))))) ∷ []) (at 23))))) ∷ (stmt (Stmt-F.Compound (block (at 25) ((stmt (Stmt-F.Declaration (declared (Declaration-F.Integers None (type.Integer (kind_at 27 kind.Int)) ((declarator (Declarator-F.Equal (word 31 (codes "x")) (at 33) (expr (Expr-F.Integer (word 35 (codes "2")))))) ∷ []) (at 36))))) ∷ []) (at 38)))) ∷ []) (at 40)) ∷ []

hidden_result : broken_rules source.hidden ≡ ([])
unfolding common_kind applied applied_one fitted represented quotient converted_num reduced
hidden_result = broken_by source.hidden hidden_looks (one_more (item_by source.hidden_main (block (at 12) ((stmt (Stmt-F.Declaration (declared (Declaration-F.Integers None (type.Integer (kind_at 14 kind.Int)) ((declarator (Declarator-F.Equal (word 18 (codes "x")) (at 20) (expr (Expr-F.Integer (word 22 (codes "1")))))) ∷ []) (at 23))))) ∷ (stmt (Stmt-F.Compound (block (at 25) ((stmt (Stmt-F.Declaration (declared (Declaration-F.Integers None (type.Integer (kind_at 27 kind.Int)) ((declarator (Declarator-F.Equal (word 31 (codes "x")) (at 33) (expr (Expr-F.Integer (word 35 (codes "2")))))) ∷ []) (at 36))))) ∷ []) (at 38)))) ∷ []) (at 40)) (simp folds refl)) refl) ∙ refl

abbrev wide_literal_looks : List (Look Piece)
wide_literal_looks = function source.wide_literal_main (block (at 12) ((stmt (Stmt-F.Return (at 14) (Some (expr (Expr-F.Integer (word 21 (codes "18446744073709551616u"))))) (at 42))) ∷ []) (at 44)) ∷ []

wide_literal_result : broken_rules source.wide_literal ≡ (record { spot = at 21; code = code.BadLiteral } ∷ [])
unfolding common_kind applied applied_one fitted represented quotient converted_num reduced
wide_literal_result = broken_by source.wide_literal wide_literal_looks (one_more (item_by source.wide_literal_main (block (at 12) ((stmt (Stmt-F.Return (at 14) (Some (expr (Expr-F.Integer (word 21 (codes "18446744073709551616u"))))) (at 42))) ∷ []) (at 44)) (simp folds refl)) refl) ∙ refl

abbrev widest_literal_looks : List (Look Piece)
widest_literal_looks = function source.widest_literal_main (block (at 12) ((stmt (Stmt-F.Return (at 14) (Some (expr (Expr-F.Integer (word 21 (codes "18446744073709551615u"))))) (at 42))) ∷ []) (at 44)) ∷ []

widest_literal_result : broken_rules source.widest_literal ≡ ([])
unfolding common_kind applied applied_one fitted represented quotient converted_num reduced
widest_literal_result = broken_by source.widest_literal widest_literal_looks (one_more (item_by source.widest_literal_main (block (at 12) ((stmt (Stmt-F.Return (at 14) (Some (expr (Expr-F.Integer (word 21 (codes "18446744073709551615u"))))) (at 42))) ∷ []) (at 44)) (simp folds refl)) refl) ∙ refl

abbrev bad_constant_looks : List (Look Piece)
bad_constant_looks = constant source.bad_constant_constant (declarator (Declarator-F.Equal (word 11 (codes "k")) (at 13) (expr (Expr-F.Binary (expr (Expr-F.Integer (word 15 (codes "1")))) (at 17) (operator.Strict binary.Div) (expr (Expr-F.Integer (word 19 (codes "0")))))))) ∷ function source.bad_constant_main (block (at 33) ([]) (at 35)) ∷ []

bad_constant_result : broken_rules source.bad_constant ≡ (record { spot = at 15; code = code.BadConstant } ∷ [])
unfolding common_kind applied applied_one fitted represented quotient converted_num reduced
bad_constant_result = broken_by source.bad_constant bad_constant_looks (one_more (constant_by_look source.bad_constant_constant (declarator (Declarator-F.Equal (word 11 (codes "k")) (at 13) (expr (Expr-F.Binary (expr (Expr-F.Integer (word 15 (codes "1")))) (at 17) (operator.Strict binary.Div) (expr (Expr-F.Integer (word 19 (codes "0")))))))) (simp folds refl)) (one_more (item_by source.bad_constant_main (block (at 33) ([]) (at 35)) (simp folds refl)) refl)) ∙ refl

abbrev good_constant_looks : List (Look Piece)
good_constant_looks = constant source.good_constant_constant (declarator (Declarator-F.Equal (word 11 (codes "k")) (at 13) (expr (Expr-F.Conditional (expr (Expr-F.Boolean (at 15) true)) (at 20) (expr (Expr-F.Integer (word 22 (codes "1")))) (expr (Expr-F.Binary (expr (Expr-F.Integer (word 26 (codes "1")))) (at 28) (operator.Strict binary.Div) (expr (Expr-F.Integer (word 30 (codes "0")))))))))) ∷ function source.good_constant_main (block (at 44) ([]) (at 46)) ∷ []

good_constant_result : broken_rules source.good_constant ≡ ([])
unfolding common_kind applied applied_one fitted represented quotient converted_num reduced
good_constant_result = broken_by source.good_constant good_constant_looks (one_more (constant_by_look source.good_constant_constant (declarator (Declarator-F.Equal (word 11 (codes "k")) (at 13) (expr (Expr-F.Conditional (expr (Expr-F.Boolean (at 15) true)) (at 20) (expr (Expr-F.Integer (word 22 (codes "1")))) (expr (Expr-F.Binary (expr (Expr-F.Integer (word 26 (codes "1")))) (at 28) (operator.Strict binary.Div) (expr (Expr-F.Integer (word 30 (codes "0")))))))))) (simp folds refl)) (one_more (item_by source.good_constant_main (block (at 44) ([]) (at 46)) (simp folds refl)) refl)) ∙ refl

abbrev bad_dimension_looks : List (Look Piece)
bad_dimension_looks = function source.bad_dimension_main (block (at 12) ((stmt (Stmt-F.Declaration (declared (Declaration-F.Object (object.Range (qualified 14 20) (Some (word 26 (codes "4")))) (word 29 (codes "r")) (Some (initializer (Initializer-F.Direct brackets.Braces (at 30) ((argument (Argument-F.Value (expr (Expr-F.Integer (word 31 (codes "1")))))) ∷ []) (at 32)))) (at 33))))) ∷ []) (at 35)) ∷ []

bad_dimension_result : broken_rules source.bad_dimension ≡ (record { spot = at 26; code = code.BadDimension } ∷ [])
unfolding common_kind applied applied_one fitted represented quotient converted_num reduced
bad_dimension_result = broken_by source.bad_dimension bad_dimension_looks (one_more (item_by source.bad_dimension_main (block (at 12) ((stmt (Stmt-F.Declaration (declared (Declaration-F.Object (object.Range (qualified 14 20) (Some (word 26 (codes "4")))) (word 29 (codes "r")) (Some (initializer (Initializer-F.Direct brackets.Braces (at 30) ((argument (Argument-F.Value (expr (Expr-F.Integer (word 31 (codes "1")))))) ∷ []) (at 32)))) (at 33))))) ∷ []) (at 35)) (simp folds refl)) refl) ∙ refl

abbrev bad_count_looks : List (Look Piece)
bad_count_looks = function source.bad_count_main (block (at 12) ((stmt (Stmt-F.Declaration (declared (Declaration-F.Object (object.Range (qualified 14 20) (Some (word 26 (codes "2")))) (word 29 (codes "r")) (Some (initializer (Initializer-F.Direct brackets.Braces (at 30) ((argument (Argument-F.Value (expr (Expr-F.Integer (word 31 (codes "1")))))) ∷ []) (at 32)))) (at 33))))) ∷ []) (at 35)) ∷ []

bad_count_result : broken_rules source.bad_count ≡ (record { spot = at 29; code = code.BadDimension } ∷ [])
unfolding common_kind applied applied_one fitted represented quotient converted_num reduced
bad_count_result = broken_by source.bad_count bad_count_looks (one_more (item_by source.bad_count_main (block (at 12) ((stmt (Stmt-F.Declaration (declared (Declaration-F.Object (object.Range (qualified 14 20) (Some (word 26 (codes "2")))) (word 29 (codes "r")) (Some (initializer (Initializer-F.Direct brackets.Braces (at 30) ((argument (Argument-F.Value (expr (Expr-F.Integer (word 31 (codes "1")))))) ∷ []) (at 32)))) (at 33))))) ∷ []) (at 35)) (simp folds refl)) refl) ∙ refl

abbrev good_dimension_looks : List (Look Piece)
good_dimension_looks = function source.good_dimension_main (block (at 12) ((stmt (Stmt-F.Declaration (declared (Declaration-F.Object (object.Range (qualified 14 20) (Some (word 26 (codes "2")))) (word 29 (codes "r")) (Some (initializer (Initializer-F.Direct brackets.Braces (at 30) ((argument (Argument-F.Value (expr (Expr-F.Integer (word 31 (codes "1")))))) ∷ (argument (Argument-F.Value (expr (Expr-F.Integer (word 34 (codes "2")))))) ∷ []) (at 35)))) (at 36))))) ∷ []) (at 38)) ∷ []

good_dimension_result : broken_rules source.good_dimension ≡ ([])
unfolding common_kind applied applied_one fitted represented quotient converted_num reduced
good_dimension_result = broken_by source.good_dimension good_dimension_looks (one_more (item_by source.good_dimension_main (block (at 12) ((stmt (Stmt-F.Declaration (declared (Declaration-F.Object (object.Range (qualified 14 20) (Some (word 26 (codes "2")))) (word 29 (codes "r")) (Some (initializer (Initializer-F.Direct brackets.Braces (at 30) ((argument (Argument-F.Value (expr (Expr-F.Integer (word 31 (codes "1")))))) ∷ (argument (Argument-F.Value (expr (Expr-F.Integer (word 34 (codes "2")))))) ∷ []) (at 35)))) (at 36))))) ∷ []) (at 38)) (simp folds refl)) refl) ∙ refl

abbrev bad_declaration_looks : List (Look Piece)
bad_declaration_looks = function source.bad_declaration_main (block (at 12) ((stmt (Stmt-F.Declaration (declared (Declaration-F.Integers None (type.Auto (at 14)) ((declarator (Declarator-F.Uninitialized (word 19 (codes "x")))) ∷ []) (at 20))))) ∷ []) (at 22)) ∷ []

bad_declaration_result : broken_rules source.bad_declaration ≡ (record { spot = at 19; code = code.BadDeclaration } ∷ [])
unfolding common_kind applied applied_one fitted represented quotient converted_num reduced
bad_declaration_result = broken_by source.bad_declaration bad_declaration_looks (one_more (item_by source.bad_declaration_main (block (at 12) ((stmt (Stmt-F.Declaration (declared (Declaration-F.Integers None (type.Auto (at 14)) ((declarator (Declarator-F.Uninitialized (word 19 (codes "x")))) ∷ []) (at 20))))) ∷ []) (at 22)) (simp folds refl)) refl) ∙ refl

abbrev good_declaration_looks : List (Look Piece)
good_declaration_looks = function source.good_declaration_main (block (at 12) ((stmt (Stmt-F.Declaration (declared (Declaration-F.Integers None (type.Auto (at 14)) ((declarator (Declarator-F.Equal (word 19 (codes "x")) (at 21) (expr (Expr-F.Integer (word 23 (codes "1")))))) ∷ []) (at 24))))) ∷ []) (at 26)) ∷ []

good_declaration_result : broken_rules source.good_declaration ≡ ([])
unfolding common_kind applied applied_one fitted represented quotient converted_num reduced
good_declaration_result = broken_by source.good_declaration good_declaration_looks (one_more (item_by source.good_declaration_main (block (at 12) ((stmt (Stmt-F.Declaration (declared (Declaration-F.Integers None (type.Auto (at 14)) ((declarator (Declarator-F.Equal (word 19 (codes "x")) (at 21) (expr (Expr-F.Integer (word 23 (codes "1")))))) ∷ []) (at 24))))) ∷ []) (at 26)) (simp folds refl)) refl) ∙ refl

abbrev wrong_arguments_looks : List (Look Piece)
wrong_arguments_looks = function source.wrong_arguments_main (block (at 12) ((stmt (Stmt-F.Declaration (declared (Declaration-F.Object (object.Queue (qualified 14 20)) (word 26 (codes "q")) (Some (initializer (Initializer-F.Direct brackets.Braces (at 27) ((argument (Argument-F.Value (expr (Expr-F.Integer (word 28 (codes "1")))))) ∷ []) (at 29)))) (at 30))))) ∷ []) (at 32)) ∷ []

wrong_arguments_result : broken_rules source.wrong_arguments ≡ (record { spot = at 26; code = code.WrongArguments } ∷ [])
unfolding common_kind applied applied_one fitted represented quotient converted_num reduced
wrong_arguments_result = broken_by source.wrong_arguments wrong_arguments_looks (one_more (item_by source.wrong_arguments_main (block (at 12) ((stmt (Stmt-F.Declaration (declared (Declaration-F.Object (object.Queue (qualified 14 20)) (word 26 (codes "q")) (Some (initializer (Initializer-F.Direct brackets.Braces (at 27) ((argument (Argument-F.Value (expr (Expr-F.Integer (word 28 (codes "1")))))) ∷ []) (at 29)))) (at 30))))) ∷ []) (at 32)) (simp folds refl)) refl) ∙ refl

abbrev right_arguments_looks : List (Look Piece)
right_arguments_looks = function source.right_arguments_main (block (at 12) ((stmt (Stmt-F.Declaration (declared (Declaration-F.Object (object.Device (qualified 14 20)) (word 27 (codes "d")) None (at 28))))) ∷ (stmt (Stmt-F.Declaration (declared (Declaration-F.Object (object.Queue (qualified 30 36)) (word 42 (codes "q")) (Some (initializer (Initializer-F.Direct brackets.Braces (at 43) ((argument (Argument-F.Value (expr (Expr-F.Name (word 44 (codes "d")))))) ∷ []) (at 45)))) (at 46))))) ∷ []) (at 48)) ∷ []

right_arguments_result : broken_rules source.right_arguments ≡ ([])
unfolding common_kind applied applied_one fitted represented quotient converted_num reduced
right_arguments_result = broken_by source.right_arguments right_arguments_looks (one_more (item_by source.right_arguments_main (block (at 12) ((stmt (Stmt-F.Declaration (declared (Declaration-F.Object (object.Device (qualified 14 20)) (word 27 (codes "d")) None (at 28))))) ∷ (stmt (Stmt-F.Declaration (declared (Declaration-F.Object (object.Queue (qualified 30 36)) (word 42 (codes "q")) (Some (initializer (Initializer-F.Direct brackets.Braces (at 43) ((argument (Argument-F.Value (expr (Expr-F.Name (word 44 (codes "d")))))) ∷ []) (at 45)))) (at 46))))) ∷ []) (at 48)) (simp folds refl)) refl) ∙ refl

abbrev unknown_member_looks : List (Look Piece)
unknown_member_looks = function source.unknown_member_main (block (at 12) ((stmt (Stmt-F.Declaration (declared (Declaration-F.Object (object.Queue (qualified 14 20)) (word 26 (codes "q")) None (at 27))))) ∷ (stmt (Stmt-F.Expression (full (FullExpression-F.Plain (expr (Expr-F.MemberCall (expr (Expr-F.Name (word 29 (codes "q")))) (word 31 (codes "size")) None ([]) (at 36))))) (at 37))) ∷ []) (at 39)) ∷ []

unknown_member_result : broken_rules source.unknown_member ≡ (record { spot = at 31; code = code.UnknownMember } ∷ [])
unfolding common_kind applied applied_one fitted represented quotient converted_num reduced
unknown_member_result = broken_by source.unknown_member unknown_member_looks (one_more (item_by source.unknown_member_main (block (at 12) ((stmt (Stmt-F.Declaration (declared (Declaration-F.Object (object.Queue (qualified 14 20)) (word 26 (codes "q")) None (at 27))))) ∷ (stmt (Stmt-F.Expression (full (FullExpression-F.Plain (expr (Expr-F.MemberCall (expr (Expr-F.Name (word 29 (codes "q")))) (word 31 (codes "size")) None ([]) (at 36))))) (at 37))) ∷ []) (at 39)) (simp folds refl)) refl) ∙ refl

abbrev known_member_looks : List (Look Piece)
known_member_looks = function source.known_member_main (block (at 12) ((stmt (Stmt-F.Declaration (declared (Declaration-F.Object (object.Queue (qualified 14 20)) (word 26 (codes "q")) None (at 27))))) ∷ (stmt (Stmt-F.Expression (full (FullExpression-F.Plain (expr (Expr-F.MemberCall (expr (Expr-F.Name (word 29 (codes "q")))) (word 31 (codes "wait")) None ([]) (at 36))))) (at 37))) ∷ []) (at 39)) ∷ []

known_member_result : broken_rules source.known_member ≡ ([])
unfolding common_kind applied applied_one fitted represented quotient converted_num reduced
known_member_result = broken_by source.known_member known_member_looks (one_more (item_by source.known_member_main (block (at 12) ((stmt (Stmt-F.Declaration (declared (Declaration-F.Object (object.Queue (qualified 14 20)) (word 26 (codes "q")) None (at 27))))) ∷ (stmt (Stmt-F.Expression (full (FullExpression-F.Plain (expr (Expr-F.MemberCall (expr (Expr-F.Name (word 29 (codes "q")))) (word 31 (codes "wait")) None ([]) (at 36))))) (at 37))) ∷ []) (at 39)) (simp folds refl)) refl) ∙ refl

abbrev wrong_operand_looks : List (Look Piece)
wrong_operand_looks = function source.wrong_operand_main (block (at 12) ((stmt (Stmt-F.Declaration (declared (Declaration-F.Object (object.Queue (qualified 14 20)) (word 26 (codes "q")) None (at 27))))) ∷ (stmt (Stmt-F.Expression (full (FullExpression-F.Plain (expr (Expr-F.Binary (expr (Expr-F.Integer (word 29 (codes "1")))) (at 31) (operator.Strict binary.Add) (expr (Expr-F.Name (word 33 (codes "q")))))))) (at 34))) ∷ []) (at 36)) ∷ []

wrong_operand_result : broken_rules source.wrong_operand ≡ (record { spot = at 33; code = code.WrongOperand } ∷ [])
unfolding common_kind applied applied_one fitted represented quotient converted_num reduced
wrong_operand_result = broken_by source.wrong_operand wrong_operand_looks (one_more (item_by source.wrong_operand_main (block (at 12) ((stmt (Stmt-F.Declaration (declared (Declaration-F.Object (object.Queue (qualified 14 20)) (word 26 (codes "q")) None (at 27))))) ∷ (stmt (Stmt-F.Expression (full (FullExpression-F.Plain (expr (Expr-F.Binary (expr (Expr-F.Integer (word 29 (codes "1")))) (at 31) (operator.Strict binary.Add) (expr (Expr-F.Name (word 33 (codes "q")))))))) (at 34))) ∷ []) (at 36)) (simp folds refl)) refl) ∙ refl

abbrev right_operand_looks : List (Look Piece)
right_operand_looks = function source.right_operand_main (block (at 12) ((stmt (Stmt-F.Declaration (declared (Declaration-F.Object (object.Id (qualified 14 20) (Some (word 23 (codes "1")))) (word 26 (codes "i")) (Some (initializer (Initializer-F.Direct brackets.Braces (at 27) ((argument (Argument-F.Value (expr (Expr-F.Integer (word 28 (codes "2")))))) ∷ []) (at 29)))) (at 30))))) ∷ (stmt (Stmt-F.Expression (full (FullExpression-F.Plain (expr (Expr-F.Binary (expr (Expr-F.Integer (word 32 (codes "1")))) (at 34) (operator.Strict binary.Add) (expr (Expr-F.Name (word 36 (codes "i")))))))) (at 37))) ∷ []) (at 39)) ∷ []

right_operand_result : broken_rules source.right_operand ≡ ([])
unfolding common_kind applied applied_one fitted represented quotient converted_num reduced
right_operand_result = broken_by source.right_operand right_operand_looks (one_more (item_by source.right_operand_main (block (at 12) ((stmt (Stmt-F.Declaration (declared (Declaration-F.Object (object.Id (qualified 14 20) (Some (word 23 (codes "1")))) (word 26 (codes "i")) (Some (initializer (Initializer-F.Direct brackets.Braces (at 27) ((argument (Argument-F.Value (expr (Expr-F.Integer (word 28 (codes "2")))))) ∷ []) (at 29)))) (at 30))))) ∷ (stmt (Stmt-F.Expression (full (FullExpression-F.Plain (expr (Expr-F.Binary (expr (Expr-F.Integer (word 32 (codes "1")))) (at 34) (operator.Strict binary.Add) (expr (Expr-F.Name (word 36 (codes "i")))))))) (at 37))) ∷ []) (at 39)) (simp folds refl)) refl) ∙ refl

abbrev bad_element_looks : List (Look Piece)
bad_element_looks = function source.bad_element_main (block (at 12) ((stmt (Stmt-F.Declaration (declared (Declaration-F.Vector (qualified 14 19) (kind_at 26 kind.Int) (word 31 (codes "v")) None (at 32))))) ∷ (stmt (Stmt-F.Declaration (declared (Declaration-F.Object (object.Buffer (qualified 34 40) (Some (elements (kind_at 47 kind.Char) None))) (word 53 (codes "b")) (Some (initializer (Initializer-F.Direct brackets.Braces (at 54) ((argument (Argument-F.Value (expr (Expr-F.Name (word 55 (codes "v")))))) ∷ []) (at 56)))) (at 57))))) ∷ []) (at 59)) ∷ []

bad_element_result : broken_rules source.bad_element ≡ (record { spot = at 53; code = code.BadElement } ∷ [])
unfolding common_kind applied applied_one fitted represented quotient converted_num reduced
bad_element_result = broken_by source.bad_element bad_element_looks (one_more (item_by source.bad_element_main (block (at 12) ((stmt (Stmt-F.Declaration (declared (Declaration-F.Vector (qualified 14 19) (kind_at 26 kind.Int) (word 31 (codes "v")) None (at 32))))) ∷ (stmt (Stmt-F.Declaration (declared (Declaration-F.Object (object.Buffer (qualified 34 40) (Some (elements (kind_at 47 kind.Char) None))) (word 53 (codes "b")) (Some (initializer (Initializer-F.Direct brackets.Braces (at 54) ((argument (Argument-F.Value (expr (Expr-F.Name (word 55 (codes "v")))))) ∷ []) (at 56)))) (at 57))))) ∷ []) (at 59)) (simp folds refl)) refl) ∙ refl

abbrev good_element_looks : List (Look Piece)
good_element_looks = function source.good_element_main (block (at 12) ((stmt (Stmt-F.Declaration (declared (Declaration-F.Vector (qualified 14 19) (kind_at 26 kind.Int) (word 31 (codes "v")) None (at 32))))) ∷ (stmt (Stmt-F.Declaration (declared (Declaration-F.Object (object.Buffer (qualified 34 40) (Some (elements (kind_at 47 kind.Int) None))) (word 52 (codes "b")) (Some (initializer (Initializer-F.Direct brackets.Braces (at 53) ((argument (Argument-F.Value (expr (Expr-F.Name (word 54 (codes "v")))))) ∷ []) (at 55)))) (at 56))))) ∷ []) (at 58)) ∷ []

good_element_result : broken_rules source.good_element ≡ ([])
unfolding common_kind applied applied_one fitted represented quotient converted_num reduced
good_element_result = broken_by source.good_element good_element_looks (one_more (item_by source.good_element_main (block (at 12) ((stmt (Stmt-F.Declaration (declared (Declaration-F.Vector (qualified 14 19) (kind_at 26 kind.Int) (word 31 (codes "v")) None (at 32))))) ∷ (stmt (Stmt-F.Declaration (declared (Declaration-F.Object (object.Buffer (qualified 34 40) (Some (elements (kind_at 47 kind.Int) None))) (word 52 (codes "b")) (Some (initializer (Initializer-F.Direct brackets.Braces (at 53) ((argument (Argument-F.Value (expr (Expr-F.Name (word 54 (codes "v")))))) ∷ []) (at 55)))) (at 56))))) ∷ []) (at 58)) (simp folds refl)) refl) ∙ refl

abbrev not_assignable_looks : List (Look Piece)
not_assignable_looks = function source.not_assignable_main (block (at 12) ((stmt (Stmt-F.Declaration (declared (Declaration-F.Integers (Some (specifier.Const (at 14))) (type.Integer (kind_at 20 kind.Int)) ((declarator (Declarator-F.Equal (word 24 (codes "x")) (at 26) (expr (Expr-F.Integer (word 28 (codes "1")))))) ∷ []) (at 29))))) ∷ (stmt (Stmt-F.Expression (full (FullExpression-F.Assignment (expr (Expr-F.Name (word 31 (codes "x")))) (at 33) assign.Assign (expr (Expr-F.Integer (word 35 (codes "2")))))) (at 36))) ∷ []) (at 38)) ∷ []

not_assignable_result : broken_rules source.not_assignable ≡ (record { spot = at 31; code = code.NotAssignable } ∷ [])
unfolding common_kind applied applied_one fitted represented quotient converted_num reduced
not_assignable_result = broken_by source.not_assignable not_assignable_looks (one_more (item_by source.not_assignable_main (block (at 12) ((stmt (Stmt-F.Declaration (declared (Declaration-F.Integers (Some (specifier.Const (at 14))) (type.Integer (kind_at 20 kind.Int)) ((declarator (Declarator-F.Equal (word 24 (codes "x")) (at 26) (expr (Expr-F.Integer (word 28 (codes "1")))))) ∷ []) (at 29))))) ∷ (stmt (Stmt-F.Expression (full (FullExpression-F.Assignment (expr (Expr-F.Name (word 31 (codes "x")))) (at 33) assign.Assign (expr (Expr-F.Integer (word 35 (codes "2")))))) (at 36))) ∷ []) (at 38)) (simp folds refl)) refl) ∙ refl

abbrev assignable_looks : List (Look Piece)
assignable_looks = function source.assignable_main (block (at 12) ((stmt (Stmt-F.Declaration (declared (Declaration-F.Integers None (type.Integer (kind_at 14 kind.Int)) ((declarator (Declarator-F.Equal (word 18 (codes "x")) (at 20) (expr (Expr-F.Integer (word 22 (codes "1")))))) ∷ []) (at 23))))) ∷ (stmt (Stmt-F.Expression (full (FullExpression-F.Assignment (expr (Expr-F.Name (word 25 (codes "x")))) (at 27) assign.Assign (expr (Expr-F.Integer (word 29 (codes "2")))))) (at 30))) ∷ []) (at 32)) ∷ []

assignable_result : broken_rules source.assignable ≡ ([])
unfolding common_kind applied applied_one fitted represented quotient converted_num reduced
assignable_result = broken_by source.assignable assignable_looks (one_more (item_by source.assignable_main (block (at 12) ((stmt (Stmt-F.Declaration (declared (Declaration-F.Integers None (type.Integer (kind_at 14 kind.Int)) ((declarator (Declarator-F.Equal (word 18 (codes "x")) (at 20) (expr (Expr-F.Integer (word 22 (codes "1")))))) ∷ []) (at 23))))) ∷ (stmt (Stmt-F.Expression (full (FullExpression-F.Assignment (expr (Expr-F.Name (word 25 (codes "x")))) (at 27) assign.Assign (expr (Expr-F.Integer (word 29 (codes "2")))))) (at 30))) ∷ []) (at 32)) (simp folds refl)) refl) ∙ refl

abbrev mode_broken_looks : List (Look Piece)
mode_broken_looks = function source.mode_broken_main (block (at 12) ((stmt (Stmt-F.Declaration (declared (Declaration-F.Object (object.Buffer (qualified 14 20) (Some (elements (kind_at 27 kind.Int) None))) (word 32 (codes "b")) (Some (initializer (Initializer-F.Direct brackets.Braces (at 33) ((argument (Argument-F.Braced (at 34) ((expr (Expr-F.Integer (word 35 (codes "1")))) ∷ []) (at 36))) ∷ []) (at 37)))) (at 38))))) ∷ (stmt (Stmt-F.Declaration (declared (Declaration-F.Object (object.HostAccessor (qualified 40 46)) (word 60 (codes "a")) (Some (initializer (Initializer-F.Direct brackets.Braces (at 61) ((argument (Argument-F.Value (expr (Expr-F.Name (word 62 (codes "b")))))) ∷ (argument (Argument-F.Value (expr (Expr-F.AccessTag (qualified 65 71) access.ReadOnly)))) ∷ []) (at 80)))) (at 81))))) ∷ (stmt (Stmt-F.Expression (full (FullExpression-F.Assignment (expr (Expr-F.Subscript (expr (Expr-F.Name (word 83 (codes "a")))) (at 84) (expr (Expr-F.Integer (word 85 (codes "0")))) (at 86))) (at 88) assign.Assign (expr (Expr-F.Integer (word 90 (codes "1")))))) (at 91))) ∷ []) (at 93)) ∷ []

mode_broken_result : broken_rules source.mode_broken ≡ (record { spot = at 83; code = code.ModeBroken } ∷ [])
unfolding common_kind applied applied_one fitted represented quotient converted_num reduced
mode_broken_result = broken_by source.mode_broken mode_broken_looks (one_more (item_by source.mode_broken_main (block (at 12) ((stmt (Stmt-F.Declaration (declared (Declaration-F.Object (object.Buffer (qualified 14 20) (Some (elements (kind_at 27 kind.Int) None))) (word 32 (codes "b")) (Some (initializer (Initializer-F.Direct brackets.Braces (at 33) ((argument (Argument-F.Braced (at 34) ((expr (Expr-F.Integer (word 35 (codes "1")))) ∷ []) (at 36))) ∷ []) (at 37)))) (at 38))))) ∷ (stmt (Stmt-F.Declaration (declared (Declaration-F.Object (object.HostAccessor (qualified 40 46)) (word 60 (codes "a")) (Some (initializer (Initializer-F.Direct brackets.Braces (at 61) ((argument (Argument-F.Value (expr (Expr-F.Name (word 62 (codes "b")))))) ∷ (argument (Argument-F.Value (expr (Expr-F.AccessTag (qualified 65 71) access.ReadOnly)))) ∷ []) (at 80)))) (at 81))))) ∷ (stmt (Stmt-F.Expression (full (FullExpression-F.Assignment (expr (Expr-F.Subscript (expr (Expr-F.Name (word 83 (codes "a")))) (at 84) (expr (Expr-F.Integer (word 85 (codes "0")))) (at 86))) (at 88) assign.Assign (expr (Expr-F.Integer (word 90 (codes "1")))))) (at 91))) ∷ []) (at 93)) (simp folds refl)) refl) ∙ refl

abbrev mode_kept_looks : List (Look Piece)
mode_kept_looks = function source.mode_kept_main (block (at 12) ((stmt (Stmt-F.Declaration (declared (Declaration-F.Object (object.Buffer (qualified 14 20) (Some (elements (kind_at 27 kind.Int) None))) (word 32 (codes "b")) (Some (initializer (Initializer-F.Direct brackets.Braces (at 33) ((argument (Argument-F.Braced (at 34) ((expr (Expr-F.Integer (word 35 (codes "1")))) ∷ []) (at 36))) ∷ []) (at 37)))) (at 38))))) ∷ (stmt (Stmt-F.Declaration (declared (Declaration-F.Object (object.HostAccessor (qualified 40 46)) (word 60 (codes "a")) (Some (initializer (Initializer-F.Direct brackets.Braces (at 61) ((argument (Argument-F.Value (expr (Expr-F.Name (word 62 (codes "b")))))) ∷ (argument (Argument-F.Value (expr (Expr-F.AccessTag (qualified 65 71) access.WriteOnly)))) ∷ []) (at 81)))) (at 82))))) ∷ (stmt (Stmt-F.Expression (full (FullExpression-F.Assignment (expr (Expr-F.Subscript (expr (Expr-F.Name (word 84 (codes "a")))) (at 85) (expr (Expr-F.Integer (word 86 (codes "0")))) (at 87))) (at 89) assign.Assign (expr (Expr-F.Integer (word 91 (codes "1")))))) (at 92))) ∷ []) (at 94)) ∷ []

mode_kept_result : broken_rules source.mode_kept ≡ ([])
unfolding common_kind applied applied_one fitted represented quotient converted_num reduced
mode_kept_result = broken_by source.mode_kept mode_kept_looks (one_more (item_by source.mode_kept_main (block (at 12) ((stmt (Stmt-F.Declaration (declared (Declaration-F.Object (object.Buffer (qualified 14 20) (Some (elements (kind_at 27 kind.Int) None))) (word 32 (codes "b")) (Some (initializer (Initializer-F.Direct brackets.Braces (at 33) ((argument (Argument-F.Braced (at 34) ((expr (Expr-F.Integer (word 35 (codes "1")))) ∷ []) (at 36))) ∷ []) (at 37)))) (at 38))))) ∷ (stmt (Stmt-F.Declaration (declared (Declaration-F.Object (object.HostAccessor (qualified 40 46)) (word 60 (codes "a")) (Some (initializer (Initializer-F.Direct brackets.Braces (at 61) ((argument (Argument-F.Value (expr (Expr-F.Name (word 62 (codes "b")))))) ∷ (argument (Argument-F.Value (expr (Expr-F.AccessTag (qualified 65 71) access.WriteOnly)))) ∷ []) (at 81)))) (at 82))))) ∷ (stmt (Stmt-F.Expression (full (FullExpression-F.Assignment (expr (Expr-F.Subscript (expr (Expr-F.Name (word 84 (codes "a")))) (at 85) (expr (Expr-F.Integer (word 86 (codes "0")))) (at 87))) (at 89) assign.Assign (expr (Expr-F.Integer (word 91 (codes "1")))))) (at 92))) ∷ []) (at 94)) (simp folds refl)) refl) ∙ refl

abbrev not_in_kernel_looks : List (Look Piece)
not_in_kernel_looks = function source.not_in_kernel_1 (block (at 9) ((stmt (Stmt-F.Print (qualified 11 16) ((printed (Printed-F.Operand (at 21) (expr (Expr-F.Integer (word 24 (codes "1")))))) ∷ []) (at 25))) ∷ (stmt (Stmt-F.Return (at 27) (Some (expr (Expr-F.Integer (word 34 (codes "1"))))) (at 35))) ∷ []) (at 37)) ∷ function source.not_in_kernel_2 (block (at 47) ((stmt (Stmt-F.Return (at 49) (Some (expr (Expr-F.Call (word 56 (codes "f")) ([]) (at 58)))) (at 59))) ∷ []) (at 61)) ∷ function source.not_in_kernel_3 (block (at 74) ((stmt (Stmt-F.Declaration (declared (Declaration-F.Object (object.Queue (qualified 76 82)) (word 88 (codes "q")) None (at 89))))) ∷ (stmt (Stmt-F.Expression (full (FullExpression-F.Plain (expr (Expr-F.MemberCall (expr (Expr-F.Name (word 91 (codes "q")))) (word 93 (codes "submit")) None ((argument (Argument-F.Lambda (lambda (at 100) ((capture.DefaultReference (at 101)) ∷ []) (Some ((lambda_parameter (parameter.Handler (qualified 104 110)) true (word 119 (codes "h"))) ∷ [])) (block (at 122) ((stmt (Stmt-F.Expression (full (FullExpression-F.Plain (expr (Expr-F.MemberCall (expr (Expr-F.Name (word 124 (codes "h")))) (word 126 (codes "single_task")) None ((argument (Argument-F.Lambda (lambda (at 138) ((capture.DefaultCopy (at 139)) ∷ []) None (block (at 142) ((stmt (Stmt-F.Expression (full (FullExpression-F.Plain (expr (Expr-F.Call (word 144 (codes "g")) ([]) (at 146))))) (at 147))) ∷ []) (at 149))))) ∷ []) (at 150))))) (at 151))) ∷ []) (at 153))))) ∷ []) (at 154))))) (at 155))) ∷ []) (at 157)) ∷ []

not_in_kernel_result : broken_rules source.not_in_kernel ≡ (record { spot = at 11; code = code.NotInKernel } ∷ [])
unfolding common_kind applied applied_one fitted represented quotient converted_num reduced
not_in_kernel_result = broken_by source.not_in_kernel not_in_kernel_looks (one_more (item_by source.not_in_kernel_1 (block (at 9) ((stmt (Stmt-F.Print (qualified 11 16) ((printed (Printed-F.Operand (at 21) (expr (Expr-F.Integer (word 24 (codes "1")))))) ∷ []) (at 25))) ∷ (stmt (Stmt-F.Return (at 27) (Some (expr (Expr-F.Integer (word 34 (codes "1"))))) (at 35))) ∷ []) (at 37)) (simp folds refl)) (one_more (item_by source.not_in_kernel_2 (block (at 47) ((stmt (Stmt-F.Return (at 49) (Some (expr (Expr-F.Call (word 56 (codes "f")) ([]) (at 58)))) (at 59))) ∷ []) (at 61)) (simp folds refl)) (one_more (item_by source.not_in_kernel_3 (block (at 74) ((stmt (Stmt-F.Declaration (declared (Declaration-F.Object (object.Queue (qualified 76 82)) (word 88 (codes "q")) None (at 89))))) ∷ (stmt (Stmt-F.Expression (full (FullExpression-F.Plain (expr (Expr-F.MemberCall (expr (Expr-F.Name (word 91 (codes "q")))) (word 93 (codes "submit")) None ((argument (Argument-F.Lambda (lambda (at 100) ((capture.DefaultReference (at 101)) ∷ []) (Some ((lambda_parameter (parameter.Handler (qualified 104 110)) true (word 119 (codes "h"))) ∷ [])) (block (at 122) ((stmt (Stmt-F.Expression (full (FullExpression-F.Plain (expr (Expr-F.MemberCall (expr (Expr-F.Name (word 124 (codes "h")))) (word 126 (codes "single_task")) None ((argument (Argument-F.Lambda (lambda (at 138) ((capture.DefaultCopy (at 139)) ∷ []) None (block (at 142) ((stmt (Stmt-F.Expression (full (FullExpression-F.Plain (expr (Expr-F.Call (word 144 (codes "g")) ([]) (at 146))))) (at 147))) ∷ []) (at 149))))) ∷ []) (at 150))))) (at 151))) ∷ []) (at 153))))) ∷ []) (at 154))))) (at 155))) ∷ []) (at 157)) (simp folds refl)) refl))) ∙ refl

abbrev not_called_looks : List (Look Piece)
not_called_looks = function source.not_called_1 (block (at 9) ((stmt (Stmt-F.Print (qualified 11 16) ((printed (Printed-F.Operand (at 21) (expr (Expr-F.Integer (word 24 (codes "1")))))) ∷ []) (at 25))) ∷ (stmt (Stmt-F.Return (at 27) (Some (expr (Expr-F.Integer (word 34 (codes "1"))))) (at 35))) ∷ []) (at 37)) ∷ function source.not_called_2 (block (at 50) ((stmt (Stmt-F.Declaration (declared (Declaration-F.Object (object.Queue (qualified 52 58)) (word 64 (codes "q")) None (at 65))))) ∷ (stmt (Stmt-F.Expression (full (FullExpression-F.Plain (expr (Expr-F.MemberCall (expr (Expr-F.Name (word 67 (codes "q")))) (word 69 (codes "submit")) None ((argument (Argument-F.Lambda (lambda (at 76) ((capture.DefaultReference (at 77)) ∷ []) (Some ((lambda_parameter (parameter.Handler (qualified 80 86)) true (word 95 (codes "h"))) ∷ [])) (block (at 98) ((stmt (Stmt-F.Expression (full (FullExpression-F.Plain (expr (Expr-F.Call (word 100 (codes "f")) ([]) (at 102))))) (at 103))) ∷ (stmt (Stmt-F.Expression (full (FullExpression-F.Plain (expr (Expr-F.MemberCall (expr (Expr-F.Name (word 105 (codes "h")))) (word 107 (codes "single_task")) None ((argument (Argument-F.Lambda (lambda (at 119) ((capture.DefaultCopy (at 120)) ∷ []) None (block (at 123) ([]) (at 125))))) ∷ []) (at 126))))) (at 127))) ∷ []) (at 129))))) ∷ []) (at 130))))) (at 131))) ∷ []) (at 133)) ∷ []

not_called_result : broken_rules source.not_called ≡ ([])
unfolding common_kind applied applied_one fitted represented quotient converted_num reduced
not_called_result = broken_by source.not_called not_called_looks (one_more (item_by source.not_called_1 (block (at 9) ((stmt (Stmt-F.Print (qualified 11 16) ((printed (Printed-F.Operand (at 21) (expr (Expr-F.Integer (word 24 (codes "1")))))) ∷ []) (at 25))) ∷ (stmt (Stmt-F.Return (at 27) (Some (expr (Expr-F.Integer (word 34 (codes "1"))))) (at 35))) ∷ []) (at 37)) (simp folds refl)) (one_more (item_by source.not_called_2 (block (at 50) ((stmt (Stmt-F.Declaration (declared (Declaration-F.Object (object.Queue (qualified 52 58)) (word 64 (codes "q")) None (at 65))))) ∷ (stmt (Stmt-F.Expression (full (FullExpression-F.Plain (expr (Expr-F.MemberCall (expr (Expr-F.Name (word 67 (codes "q")))) (word 69 (codes "submit")) None ((argument (Argument-F.Lambda (lambda (at 76) ((capture.DefaultReference (at 77)) ∷ []) (Some ((lambda_parameter (parameter.Handler (qualified 80 86)) true (word 95 (codes "h"))) ∷ [])) (block (at 98) ((stmt (Stmt-F.Expression (full (FullExpression-F.Plain (expr (Expr-F.Call (word 100 (codes "f")) ([]) (at 102))))) (at 103))) ∷ (stmt (Stmt-F.Expression (full (FullExpression-F.Plain (expr (Expr-F.MemberCall (expr (Expr-F.Name (word 105 (codes "h")))) (word 107 (codes "single_task")) None ((argument (Argument-F.Lambda (lambda (at 119) ((capture.DefaultCopy (at 120)) ∷ []) None (block (at 123) ([]) (at 125))))) ∷ []) (at 126))))) (at 127))) ∷ []) (at 129))))) ∷ []) (at 130))))) (at 131))) ∷ []) (at 133)) (simp folds refl)) refl)) ∙ refl

abbrev not_in_group_looks : List (Look Piece)
not_in_group_looks = function source.not_in_group_main (block (at 12) ((stmt (Stmt-F.Declaration (declared (Declaration-F.Object (object.Queue (qualified 14 20)) (word 26 (codes "q")) None (at 27))))) ∷ (stmt (Stmt-F.Expression (full (FullExpression-F.Plain (expr (Expr-F.MemberCall (expr (Expr-F.Name (word 29 (codes "q")))) (word 31 (codes "submit")) None ((argument (Argument-F.Lambda (lambda (at 38) ((capture.DefaultReference (at 39)) ∷ []) (Some ((lambda_parameter (parameter.Handler (qualified 42 48)) true (word 57 (codes "h"))) ∷ [])) (block (at 60) ((stmt (Stmt-F.Expression (full (FullExpression-F.Plain (expr (Expr-F.MemberCall (expr (Expr-F.Name (word 62 (codes "q")))) (word 64 (codes "wait")) None ([]) (at 69))))) (at 70))) ∷ (stmt (Stmt-F.Expression (full (FullExpression-F.Plain (expr (Expr-F.MemberCall (expr (Expr-F.Name (word 72 (codes "h")))) (word 74 (codes "single_task")) None ((argument (Argument-F.Lambda (lambda (at 86) ((capture.DefaultCopy (at 87)) ∷ []) None (block (at 90) ([]) (at 92))))) ∷ []) (at 93))))) (at 94))) ∷ []) (at 96))))) ∷ []) (at 97))))) (at 98))) ∷ []) (at 100)) ∷ []

not_in_group_result : broken_rules source.not_in_group ≡ (record { spot = at 62; code = code.NotInGroup } ∷ [])
unfolding common_kind applied applied_one fitted represented quotient converted_num reduced
not_in_group_result = broken_by source.not_in_group not_in_group_looks (one_more (item_by source.not_in_group_main (block (at 12) ((stmt (Stmt-F.Declaration (declared (Declaration-F.Object (object.Queue (qualified 14 20)) (word 26 (codes "q")) None (at 27))))) ∷ (stmt (Stmt-F.Expression (full (FullExpression-F.Plain (expr (Expr-F.MemberCall (expr (Expr-F.Name (word 29 (codes "q")))) (word 31 (codes "submit")) None ((argument (Argument-F.Lambda (lambda (at 38) ((capture.DefaultReference (at 39)) ∷ []) (Some ((lambda_parameter (parameter.Handler (qualified 42 48)) true (word 57 (codes "h"))) ∷ [])) (block (at 60) ((stmt (Stmt-F.Expression (full (FullExpression-F.Plain (expr (Expr-F.MemberCall (expr (Expr-F.Name (word 62 (codes "q")))) (word 64 (codes "wait")) None ([]) (at 69))))) (at 70))) ∷ (stmt (Stmt-F.Expression (full (FullExpression-F.Plain (expr (Expr-F.MemberCall (expr (Expr-F.Name (word 72 (codes "h")))) (word 74 (codes "single_task")) None ((argument (Argument-F.Lambda (lambda (at 86) ((capture.DefaultCopy (at 87)) ∷ []) None (block (at 90) ([]) (at 92))))) ∷ []) (at 93))))) (at 94))) ∷ []) (at 96))))) ∷ []) (at 97))))) (at 98))) ∷ []) (at 100)) (simp folds refl)) refl) ∙ refl

abbrev in_group_looks : List (Look Piece)
in_group_looks = function source.in_group_main (block (at 12) ((stmt (Stmt-F.Declaration (declared (Declaration-F.Object (object.Queue (qualified 14 20)) (word 26 (codes "q")) None (at 27))))) ∷ (stmt (Stmt-F.Expression (full (FullExpression-F.Plain (expr (Expr-F.MemberCall (expr (Expr-F.Name (word 29 (codes "q")))) (word 31 (codes "submit")) None ((argument (Argument-F.Lambda (lambda (at 38) ((capture.DefaultReference (at 39)) ∷ []) (Some ((lambda_parameter (parameter.Handler (qualified 42 48)) true (word 57 (codes "h"))) ∷ [])) (block (at 60) ((stmt (Stmt-F.Print (qualified 62 67) ((printed (Printed-F.Operand (at 72) (expr (Expr-F.Integer (word 75 (codes "1")))))) ∷ []) (at 76))) ∷ (stmt (Stmt-F.Expression (full (FullExpression-F.Plain (expr (Expr-F.MemberCall (expr (Expr-F.Name (word 78 (codes "h")))) (word 80 (codes "single_task")) None ((argument (Argument-F.Lambda (lambda (at 92) ((capture.DefaultCopy (at 93)) ∷ []) None (block (at 96) ([]) (at 98))))) ∷ []) (at 99))))) (at 100))) ∷ []) (at 102))))) ∷ []) (at 103))))) (at 104))) ∷ []) (at 106)) ∷ []

in_group_result : broken_rules source.in_group ≡ ([])
unfolding common_kind applied applied_one fitted represented quotient converted_num reduced
in_group_result = broken_by source.in_group in_group_looks (one_more (item_by source.in_group_main (block (at 12) ((stmt (Stmt-F.Declaration (declared (Declaration-F.Object (object.Queue (qualified 14 20)) (word 26 (codes "q")) None (at 27))))) ∷ (stmt (Stmt-F.Expression (full (FullExpression-F.Plain (expr (Expr-F.MemberCall (expr (Expr-F.Name (word 29 (codes "q")))) (word 31 (codes "submit")) None ((argument (Argument-F.Lambda (lambda (at 38) ((capture.DefaultReference (at 39)) ∷ []) (Some ((lambda_parameter (parameter.Handler (qualified 42 48)) true (word 57 (codes "h"))) ∷ [])) (block (at 60) ((stmt (Stmt-F.Print (qualified 62 67) ((printed (Printed-F.Operand (at 72) (expr (Expr-F.Integer (word 75 (codes "1")))))) ∷ []) (at 76))) ∷ (stmt (Stmt-F.Expression (full (FullExpression-F.Plain (expr (Expr-F.MemberCall (expr (Expr-F.Name (word 78 (codes "h")))) (word 80 (codes "single_task")) None ((argument (Argument-F.Lambda (lambda (at 92) ((capture.DefaultCopy (at 93)) ∷ []) None (block (at 96) ([]) (at 98))))) ∷ []) (at 99))))) (at 100))) ∷ []) (at 102))))) ∷ []) (at 103))))) (at 104))) ∷ []) (at 106)) (simp folds refl)) refl) ∙ refl

abbrev not_in_host_looks : List (Look Piece)
not_in_host_looks = function source.not_in_host_main (block (at 12) ((stmt (Stmt-F.Expression (full (FullExpression-F.Plain (expr (Expr-F.GroupBarrier (qualified 14 20) (expr (Expr-F.Name (word 34 (codes "g")))) (at 35))))) (at 36))) ∷ []) (at 38)) ∷ []

not_in_host_result : broken_rules source.not_in_host ≡ (record { spot = at 34; code = code.UnknownName } ∷ record { spot = at 14; code = code.NotInHost } ∷ [])
unfolding common_kind applied applied_one fitted represented quotient converted_num reduced
not_in_host_result = broken_by source.not_in_host not_in_host_looks (one_more (item_by source.not_in_host_main (block (at 12) ((stmt (Stmt-F.Expression (full (FullExpression-F.Plain (expr (Expr-F.GroupBarrier (qualified 14 20) (expr (Expr-F.Name (word 34 (codes "g")))) (at 35))))) (at 36))) ∷ []) (at 38)) (simp folds refl)) refl) ∙ refl

abbrev in_kernel_looks : List (Look Piece)
in_kernel_looks = function source.in_kernel_main (block (at 12) ((stmt (Stmt-F.Declaration (declared (Declaration-F.Object (object.Queue (qualified 14 20)) (word 26 (codes "q")) None (at 27))))) ∷ (stmt (Stmt-F.Expression (full (FullExpression-F.Plain (expr (Expr-F.MemberCall (expr (Expr-F.Name (word 29 (codes "q")))) (word 31 (codes "submit")) None ((argument (Argument-F.Lambda (lambda (at 38) ((capture.DefaultReference (at 39)) ∷ []) (Some ((lambda_parameter (parameter.Handler (qualified 42 48)) true (word 57 (codes "h"))) ∷ [])) (block (at 60) ((stmt (Stmt-F.Expression (full (FullExpression-F.Plain (expr (Expr-F.MemberCall (expr (Expr-F.Name (word 62 (codes "h")))) (word 64 (codes "parallel_for")) None ((argument (Argument-F.Value (expr (Expr-F.Construct (object.NdRange (qualified 77 83) (Some (word 92 (codes "1")))) brackets.Braces (at 94) ((argument (Argument-F.Value (expr (Expr-F.Integer (word 95 (codes "8")))))) ∷ (argument (Argument-F.Value (expr (Expr-F.Integer (word 98 (codes "4")))))) ∷ []) (at 99))))) ∷ (argument (Argument-F.Lambda (lambda (at 102) ((capture.DefaultCopy (at 103)) ∷ []) (Some ((lambda_parameter (parameter.NdItem (qualified 106 112) (word 120 (codes "1"))) false (word 123 (codes "i"))) ∷ [])) (block (at 126) ((stmt (Stmt-F.Expression (full (FullExpression-F.Plain (expr (Expr-F.GroupBarrier (qualified 128 134) (expr (Expr-F.MemberCall (expr (Expr-F.Name (word 148 (codes "i")))) (word 150 (codes "get_group")) None ([]) (at 160))) (at 161))))) (at 162))) ∷ []) (at 164))))) ∷ []) (at 165))))) (at 166))) ∷ []) (at 168))))) ∷ []) (at 169))))) (at 170))) ∷ []) (at 172)) ∷ []

in_kernel_result : broken_rules source.in_kernel ≡ ([])
unfolding common_kind applied applied_one fitted represented quotient converted_num reduced
in_kernel_result = broken_by source.in_kernel in_kernel_looks (one_more (item_by source.in_kernel_main (block (at 12) ((stmt (Stmt-F.Declaration (declared (Declaration-F.Object (object.Queue (qualified 14 20)) (word 26 (codes "q")) None (at 27))))) ∷ (stmt (Stmt-F.Expression (full (FullExpression-F.Plain (expr (Expr-F.MemberCall (expr (Expr-F.Name (word 29 (codes "q")))) (word 31 (codes "submit")) None ((argument (Argument-F.Lambda (lambda (at 38) ((capture.DefaultReference (at 39)) ∷ []) (Some ((lambda_parameter (parameter.Handler (qualified 42 48)) true (word 57 (codes "h"))) ∷ [])) (block (at 60) ((stmt (Stmt-F.Expression (full (FullExpression-F.Plain (expr (Expr-F.MemberCall (expr (Expr-F.Name (word 62 (codes "h")))) (word 64 (codes "parallel_for")) None ((argument (Argument-F.Value (expr (Expr-F.Construct (object.NdRange (qualified 77 83) (Some (word 92 (codes "1")))) brackets.Braces (at 94) ((argument (Argument-F.Value (expr (Expr-F.Integer (word 95 (codes "8")))))) ∷ (argument (Argument-F.Value (expr (Expr-F.Integer (word 98 (codes "4")))))) ∷ []) (at 99))))) ∷ (argument (Argument-F.Lambda (lambda (at 102) ((capture.DefaultCopy (at 103)) ∷ []) (Some ((lambda_parameter (parameter.NdItem (qualified 106 112) (word 120 (codes "1"))) false (word 123 (codes "i"))) ∷ [])) (block (at 126) ((stmt (Stmt-F.Expression (full (FullExpression-F.Plain (expr (Expr-F.GroupBarrier (qualified 128 134) (expr (Expr-F.MemberCall (expr (Expr-F.Name (word 148 (codes "i")))) (word 150 (codes "get_group")) None ([]) (at 160))) (at 161))))) (at 162))) ∷ []) (at 164))))) ∷ []) (at 165))))) (at 166))) ∷ []) (at 168))))) ∷ []) (at 169))))) (at 170))) ∷ []) (at 172)) (simp folds refl)) refl) ∙ refl

abbrev bad_lambda_looks : List (Look Piece)
bad_lambda_looks = function source.bad_lambda_main (block (at 12) ((stmt (Stmt-F.Declaration (declared (Declaration-F.Object (object.Queue (qualified 14 20)) (word 26 (codes "q")) None (at 27))))) ∷ (stmt (Stmt-F.Expression (full (FullExpression-F.Plain (expr (Expr-F.MemberCall (expr (Expr-F.Name (word 29 (codes "q")))) (word 31 (codes "submit")) None ((argument (Argument-F.Lambda (lambda (at 38) ((capture.DefaultCopy (at 39)) ∷ []) (Some ((lambda_parameter (parameter.Handler (qualified 42 48)) true (word 57 (codes "h"))) ∷ [])) (block (at 60) ([]) (at 62))))) ∷ []) (at 63))))) (at 64))) ∷ []) (at 66)) ∷ []

bad_lambda_result : broken_rules source.bad_lambda ≡ (record { spot = at 38; code = code.BadLambda } ∷ [])
unfolding common_kind applied applied_one fitted represented quotient converted_num reduced
bad_lambda_result = broken_by source.bad_lambda bad_lambda_looks (one_more (item_by source.bad_lambda_main (block (at 12) ((stmt (Stmt-F.Declaration (declared (Declaration-F.Object (object.Queue (qualified 14 20)) (word 26 (codes "q")) None (at 27))))) ∷ (stmt (Stmt-F.Expression (full (FullExpression-F.Plain (expr (Expr-F.MemberCall (expr (Expr-F.Name (word 29 (codes "q")))) (word 31 (codes "submit")) None ((argument (Argument-F.Lambda (lambda (at 38) ((capture.DefaultCopy (at 39)) ∷ []) (Some ((lambda_parameter (parameter.Handler (qualified 42 48)) true (word 57 (codes "h"))) ∷ [])) (block (at 60) ([]) (at 62))))) ∷ []) (at 63))))) (at 64))) ∷ []) (at 66)) (simp folds refl)) refl) ∙ refl

abbrev good_lambda_looks : List (Look Piece)
good_lambda_looks = function source.good_lambda_main (block (at 12) ((stmt (Stmt-F.Declaration (declared (Declaration-F.Object (object.Queue (qualified 14 20)) (word 26 (codes "q")) None (at 27))))) ∷ (stmt (Stmt-F.Expression (full (FullExpression-F.Plain (expr (Expr-F.MemberCall (expr (Expr-F.Name (word 29 (codes "q")))) (word 31 (codes "submit")) None ((argument (Argument-F.Lambda (lambda (at 38) ((capture.DefaultReference (at 39)) ∷ []) (Some ((lambda_parameter (parameter.Handler (qualified 42 48)) true (word 57 (codes "h"))) ∷ [])) (block (at 60) ([]) (at 62))))) ∷ []) (at 63))))) (at 64))) ∷ []) (at 66)) ∷ []

good_lambda_result : broken_rules source.good_lambda ≡ ([])
unfolding common_kind applied applied_one fitted represented quotient converted_num reduced
good_lambda_result = broken_by source.good_lambda good_lambda_looks (one_more (item_by source.good_lambda_main (block (at 12) ((stmt (Stmt-F.Declaration (declared (Declaration-F.Object (object.Queue (qualified 14 20)) (word 26 (codes "q")) None (at 27))))) ∷ (stmt (Stmt-F.Expression (full (FullExpression-F.Plain (expr (Expr-F.MemberCall (expr (Expr-F.Name (word 29 (codes "q")))) (word 31 (codes "submit")) None ((argument (Argument-F.Lambda (lambda (at 38) ((capture.DefaultReference (at 39)) ∷ []) (Some ((lambda_parameter (parameter.Handler (qualified 42 48)) true (word 57 (codes "h"))) ∷ [])) (block (at 60) ([]) (at 62))))) ∷ []) (at 63))))) (at 64))) ∷ []) (at 66)) (simp folds refl)) refl) ∙ refl

abbrev kernel_capture_looks : List (Look Piece)
kernel_capture_looks = function source.kernel_capture_main (block (at 12) ((stmt (Stmt-F.Declaration (declared (Declaration-F.Object (object.NdRange (qualified 14 20) (Some (word 29 (codes "1")))) (word 32 (codes "r")) (Some (initializer (Initializer-F.Direct brackets.Braces (at 33) ((argument (Argument-F.Value (expr (Expr-F.Integer (word 34 (codes "8")))))) ∷ (argument (Argument-F.Value (expr (Expr-F.Integer (word 37 (codes "4")))))) ∷ []) (at 38)))) (at 39))))) ∷ (stmt (Stmt-F.Declaration (declared (Declaration-F.Object (object.Queue (qualified 41 47)) (word 53 (codes "q")) None (at 54))))) ∷ (stmt (Stmt-F.Expression (full (FullExpression-F.Plain (expr (Expr-F.MemberCall (expr (Expr-F.Name (word 56 (codes "q")))) (word 58 (codes "submit")) None ((argument (Argument-F.Lambda (lambda (at 65) ((capture.DefaultReference (at 66)) ∷ []) (Some ((lambda_parameter (parameter.Handler (qualified 69 75)) true (word 84 (codes "h"))) ∷ [])) (block (at 87) ((stmt (Stmt-F.Expression (full (FullExpression-F.Plain (expr (Expr-F.MemberCall (expr (Expr-F.Name (word 89 (codes "h")))) (word 91 (codes "single_task")) None ((argument (Argument-F.Lambda (lambda (at 103) ((capture.DefaultCopy (at 104)) ∷ []) None (block (at 107) ((stmt (Stmt-F.Expression (full (FullExpression-F.Plain (expr (Expr-F.Name (word 109 (codes "r")))))) (at 110))) ∷ []) (at 112))))) ∷ []) (at 113))))) (at 114))) ∷ []) (at 116))))) ∷ []) (at 117))))) (at 118))) ∷ []) (at 120)) ∷ []

kernel_capture_result : broken_rules source.kernel_capture ≡ (record { spot = at 109; code = code.KernelCapture } ∷ [])
unfolding common_kind applied applied_one fitted represented quotient converted_num reduced
kernel_capture_result = broken_by source.kernel_capture kernel_capture_looks (one_more (item_by source.kernel_capture_main (block (at 12) ((stmt (Stmt-F.Declaration (declared (Declaration-F.Object (object.NdRange (qualified 14 20) (Some (word 29 (codes "1")))) (word 32 (codes "r")) (Some (initializer (Initializer-F.Direct brackets.Braces (at 33) ((argument (Argument-F.Value (expr (Expr-F.Integer (word 34 (codes "8")))))) ∷ (argument (Argument-F.Value (expr (Expr-F.Integer (word 37 (codes "4")))))) ∷ []) (at 38)))) (at 39))))) ∷ (stmt (Stmt-F.Declaration (declared (Declaration-F.Object (object.Queue (qualified 41 47)) (word 53 (codes "q")) None (at 54))))) ∷ (stmt (Stmt-F.Expression (full (FullExpression-F.Plain (expr (Expr-F.MemberCall (expr (Expr-F.Name (word 56 (codes "q")))) (word 58 (codes "submit")) None ((argument (Argument-F.Lambda (lambda (at 65) ((capture.DefaultReference (at 66)) ∷ []) (Some ((lambda_parameter (parameter.Handler (qualified 69 75)) true (word 84 (codes "h"))) ∷ [])) (block (at 87) ((stmt (Stmt-F.Expression (full (FullExpression-F.Plain (expr (Expr-F.MemberCall (expr (Expr-F.Name (word 89 (codes "h")))) (word 91 (codes "single_task")) None ((argument (Argument-F.Lambda (lambda (at 103) ((capture.DefaultCopy (at 104)) ∷ []) None (block (at 107) ((stmt (Stmt-F.Expression (full (FullExpression-F.Plain (expr (Expr-F.Name (word 109 (codes "r")))))) (at 110))) ∷ []) (at 112))))) ∷ []) (at 113))))) (at 114))) ∷ []) (at 116))))) ∷ []) (at 117))))) (at 118))) ∷ []) (at 120)) (simp folds refl)) refl) ∙ refl

abbrev kernel_copy_looks : List (Look Piece)
kernel_copy_looks = function source.kernel_copy_main (block (at 12) ((stmt (Stmt-F.Declaration (declared (Declaration-F.Object (object.Range (qualified 14 20) (Some (word 26 (codes "1")))) (word 29 (codes "r")) (Some (initializer (Initializer-F.Direct brackets.Braces (at 30) ((argument (Argument-F.Value (expr (Expr-F.Integer (word 31 (codes "8")))))) ∷ []) (at 32)))) (at 33))))) ∷ (stmt (Stmt-F.Declaration (declared (Declaration-F.Object (object.Queue (qualified 35 41)) (word 47 (codes "q")) None (at 48))))) ∷ (stmt (Stmt-F.Expression (full (FullExpression-F.Plain (expr (Expr-F.MemberCall (expr (Expr-F.Name (word 50 (codes "q")))) (word 52 (codes "submit")) None ((argument (Argument-F.Lambda (lambda (at 59) ((capture.DefaultReference (at 60)) ∷ []) (Some ((lambda_parameter (parameter.Handler (qualified 63 69)) true (word 78 (codes "h"))) ∷ [])) (block (at 81) ((stmt (Stmt-F.Expression (full (FullExpression-F.Plain (expr (Expr-F.MemberCall (expr (Expr-F.Name (word 83 (codes "h")))) (word 85 (codes "single_task")) None ((argument (Argument-F.Lambda (lambda (at 97) ((capture.DefaultCopy (at 98)) ∷ []) None (block (at 101) ((stmt (Stmt-F.Expression (full (FullExpression-F.Plain (expr (Expr-F.Name (word 103 (codes "r")))))) (at 104))) ∷ []) (at 106))))) ∷ []) (at 107))))) (at 108))) ∷ []) (at 110))))) ∷ []) (at 111))))) (at 112))) ∷ []) (at 114)) ∷ []

kernel_copy_result : broken_rules source.kernel_copy ≡ ([])
unfolding common_kind applied applied_one fitted represented quotient converted_num reduced
kernel_copy_result = broken_by source.kernel_copy kernel_copy_looks (one_more (item_by source.kernel_copy_main (block (at 12) ((stmt (Stmt-F.Declaration (declared (Declaration-F.Object (object.Range (qualified 14 20) (Some (word 26 (codes "1")))) (word 29 (codes "r")) (Some (initializer (Initializer-F.Direct brackets.Braces (at 30) ((argument (Argument-F.Value (expr (Expr-F.Integer (word 31 (codes "8")))))) ∷ []) (at 32)))) (at 33))))) ∷ (stmt (Stmt-F.Declaration (declared (Declaration-F.Object (object.Queue (qualified 35 41)) (word 47 (codes "q")) None (at 48))))) ∷ (stmt (Stmt-F.Expression (full (FullExpression-F.Plain (expr (Expr-F.MemberCall (expr (Expr-F.Name (word 50 (codes "q")))) (word 52 (codes "submit")) None ((argument (Argument-F.Lambda (lambda (at 59) ((capture.DefaultReference (at 60)) ∷ []) (Some ((lambda_parameter (parameter.Handler (qualified 63 69)) true (word 78 (codes "h"))) ∷ [])) (block (at 81) ((stmt (Stmt-F.Expression (full (FullExpression-F.Plain (expr (Expr-F.MemberCall (expr (Expr-F.Name (word 83 (codes "h")))) (word 85 (codes "single_task")) None ((argument (Argument-F.Lambda (lambda (at 97) ((capture.DefaultCopy (at 98)) ∷ []) None (block (at 101) ((stmt (Stmt-F.Expression (full (FullExpression-F.Plain (expr (Expr-F.Name (word 103 (codes "r")))))) (at 104))) ∷ []) (at 106))))) ∷ []) (at 107))))) (at 108))) ∷ []) (at 110))))) ∷ []) (at 111))))) (at 112))) ∷ []) (at 114)) (simp folds refl)) refl) ∙ refl

abbrev thread_capture_looks : List (Look Piece)
thread_capture_looks = function source.thread_capture_main (block (at 12) ((stmt (Stmt-F.Declaration (declared (Declaration-F.Integers None (type.Integer (kind_at 14 kind.Int)) ((declarator (Declarator-F.Equal (word 18 (codes "x")) (at 20) (expr (Expr-F.Integer (word 22 (codes "0")))))) ∷ []) (at 23))))) ∷ (stmt (Stmt-F.Declaration (declared (Declaration-F.Thread (qualified 25 30) (word 37 (codes "t")) brackets.Parentheses (lambda (at 39) ((capture.Reference (at 40) (word 41 (codes "x"))) ∷ []) None (block (at 44) ((stmt (Stmt-F.Expression (full (FullExpression-F.Assignment (expr (Expr-F.Name (word 46 (codes "x")))) (at 48) assign.Assign (expr (Expr-F.Integer (word 50 (codes "1")))))) (at 51))) ∷ []) (at 53))) (at 55))))) ∷ []) (at 57)) ∷ []

thread_capture_result : broken_rules source.thread_capture ≡ (record { spot = at 41; code = code.ThreadCapture } ∷ [])
unfolding common_kind applied applied_one fitted represented quotient converted_num reduced
thread_capture_result = broken_by source.thread_capture thread_capture_looks (one_more (item_by source.thread_capture_main (block (at 12) ((stmt (Stmt-F.Declaration (declared (Declaration-F.Integers None (type.Integer (kind_at 14 kind.Int)) ((declarator (Declarator-F.Equal (word 18 (codes "x")) (at 20) (expr (Expr-F.Integer (word 22 (codes "0")))))) ∷ []) (at 23))))) ∷ (stmt (Stmt-F.Declaration (declared (Declaration-F.Thread (qualified 25 30) (word 37 (codes "t")) brackets.Parentheses (lambda (at 39) ((capture.Reference (at 40) (word 41 (codes "x"))) ∷ []) None (block (at 44) ((stmt (Stmt-F.Expression (full (FullExpression-F.Assignment (expr (Expr-F.Name (word 46 (codes "x")))) (at 48) assign.Assign (expr (Expr-F.Integer (word 50 (codes "1")))))) (at 51))) ∷ []) (at 53))) (at 55))))) ∷ []) (at 57)) (simp folds refl)) refl) ∙ refl

abbrev thread_copy_looks : List (Look Piece)
thread_copy_looks = function source.thread_copy_main (block (at 12) ((stmt (Stmt-F.Declaration (declared (Declaration-F.Integers None (type.Integer (kind_at 14 kind.Int)) ((declarator (Declarator-F.Equal (word 18 (codes "x")) (at 20) (expr (Expr-F.Integer (word 22 (codes "0")))))) ∷ []) (at 23))))) ∷ (stmt (Stmt-F.Declaration (declared (Declaration-F.Thread (qualified 25 30) (word 37 (codes "t")) brackets.Parentheses (lambda (at 39) ((capture.Copy (word 40 (codes "x"))) ∷ []) None (block (at 43) ((stmt (Stmt-F.Expression (full (FullExpression-F.Plain (expr (Expr-F.Binary (expr (Expr-F.Name (word 45 (codes "x")))) (at 47) (operator.Strict binary.Add) (expr (Expr-F.Integer (word 49 (codes "1")))))))) (at 50))) ∷ []) (at 52))) (at 54))))) ∷ []) (at 56)) ∷ []

thread_copy_result : broken_rules source.thread_copy ≡ ([])
unfolding common_kind applied applied_one fitted represented quotient converted_num reduced
thread_copy_result = broken_by source.thread_copy thread_copy_looks (one_more (item_by source.thread_copy_main (block (at 12) ((stmt (Stmt-F.Declaration (declared (Declaration-F.Integers None (type.Integer (kind_at 14 kind.Int)) ((declarator (Declarator-F.Equal (word 18 (codes "x")) (at 20) (expr (Expr-F.Integer (word 22 (codes "0")))))) ∷ []) (at 23))))) ∷ (stmt (Stmt-F.Declaration (declared (Declaration-F.Thread (qualified 25 30) (word 37 (codes "t")) brackets.Parentheses (lambda (at 39) ((capture.Copy (word 40 (codes "x"))) ∷ []) None (block (at 43) ((stmt (Stmt-F.Expression (full (FullExpression-F.Plain (expr (Expr-F.Binary (expr (Expr-F.Name (word 45 (codes "x")))) (at 47) (operator.Strict binary.Add) (expr (Expr-F.Integer (word 49 (codes "1")))))))) (at 50))) ∷ []) (at 52))) (at 54))))) ∷ []) (at 56)) (simp folds refl)) refl) ∙ refl

abbrev bad_return_looks : List (Look Piece)
bad_return_looks = function source.bad_return_1 (block (at 10) ((stmt (Stmt-F.Return (at 12) (Some (expr (Expr-F.Integer (word 19 (codes "1"))))) (at 20))) ∷ []) (at 22)) ∷ function source.bad_return_2 (block (at 35) ([]) (at 37)) ∷ []

bad_return_result : broken_rules source.bad_return ≡ (record { spot = at 12; code = code.BadReturn } ∷ [])
unfolding common_kind applied applied_one fitted represented quotient converted_num reduced
bad_return_result = broken_by source.bad_return bad_return_looks (one_more (item_by source.bad_return_1 (block (at 10) ((stmt (Stmt-F.Return (at 12) (Some (expr (Expr-F.Integer (word 19 (codes "1"))))) (at 20))) ∷ []) (at 22)) (simp folds refl)) (one_more (item_by source.bad_return_2 (block (at 35) ([]) (at 37)) (simp folds refl)) refl)) ∙ refl

abbrev good_return_looks : List (Look Piece)
good_return_looks = function source.good_return_1 (block (at 10) ((stmt (Stmt-F.Return (at 12) None (at 18))) ∷ []) (at 20)) ∷ function source.good_return_2 (block (at 33) ([]) (at 35)) ∷ []

good_return_result : broken_rules source.good_return ≡ ([])
unfolding common_kind applied applied_one fitted represented quotient converted_num reduced
good_return_result = broken_by source.good_return good_return_looks (one_more (item_by source.good_return_1 (block (at 10) ((stmt (Stmt-F.Return (at 12) None (at 18))) ∷ []) (at 20)) (simp folds refl)) (one_more (item_by source.good_return_2 (block (at 33) ([]) (at 35)) (simp folds refl)) refl)) ∙ refl

abbrev loop_word_looks : List (Look Piece)
loop_word_looks = function source.loop_word_main (block (at 12) ((stmt (Stmt-F.Break (at 14) (at 19))) ∷ []) (at 21)) ∷ []

loop_word_result : broken_rules source.loop_word ≡ (record { spot = at 14; code = code.LoopWord } ∷ [])
unfolding common_kind applied applied_one fitted represented quotient converted_num reduced
loop_word_result = broken_by source.loop_word loop_word_looks (one_more (item_by source.loop_word_main (block (at 12) ((stmt (Stmt-F.Break (at 14) (at 19))) ∷ []) (at 21)) (simp folds refl)) refl) ∙ refl

abbrev in_loop_looks : List (Look Piece)
in_loop_looks = function source.in_loop_main (block (at 12) ((stmt (Stmt-F.While (at 14) (expr (Expr-F.Boolean (at 21) true)) (stmt (Stmt-F.Break (at 27) (at 32))))) ∷ []) (at 34)) ∷ []

in_loop_result : broken_rules source.in_loop ≡ ([])
unfolding common_kind applied applied_one fitted represented quotient converted_num reduced
in_loop_result = broken_by source.in_loop in_loop_looks (one_more (item_by source.in_loop_main (block (at 12) ((stmt (Stmt-F.While (at 14) (expr (Expr-F.Boolean (at 21) true)) (stmt (Stmt-F.Break (at 27) (at 32))))) ∷ []) (at 34)) (simp folds refl)) refl) ∙ refl

abbrev bad_call_looks : List (Look Piece)
bad_call_looks = function source.bad_call_1 (block (at 9) ((stmt (Stmt-F.Return (at 11) (Some (expr (Expr-F.Call (word 18 (codes "f")) ([]) (at 20)))) (at 21))) ∷ []) (at 23)) ∷ function source.bad_call_2 (block (at 36) ([]) (at 38)) ∷ []

bad_call_result : broken_rules source.bad_call ≡ (record { spot = at 18; code = code.BadCall } ∷ [])
unfolding common_kind applied applied_one fitted represented quotient converted_num reduced
bad_call_result = broken_by source.bad_call bad_call_looks (one_more (item_by source.bad_call_1 (block (at 9) ((stmt (Stmt-F.Return (at 11) (Some (expr (Expr-F.Call (word 18 (codes "f")) ([]) (at 20)))) (at 21))) ∷ []) (at 23)) (simp folds refl)) (one_more (item_by source.bad_call_2 (block (at 36) ([]) (at 38)) (simp folds refl)) refl)) ∙ refl

abbrev good_call_looks : List (Look Piece)
good_call_looks = function source.good_call_1 (block (at 9) ((stmt (Stmt-F.Return (at 11) (Some (expr (Expr-F.Integer (word 18 (codes "1"))))) (at 19))) ∷ []) (at 21)) ∷ function source.good_call_2 (block (at 34) ((stmt (Stmt-F.Return (at 36) (Some (expr (Expr-F.Call (word 43 (codes "f")) ([]) (at 45)))) (at 46))) ∷ []) (at 48)) ∷ []

good_call_result : broken_rules source.good_call ≡ ([])
unfolding common_kind applied applied_one fitted represented quotient converted_num reduced
good_call_result = broken_by source.good_call good_call_looks (one_more (item_by source.good_call_1 (block (at 9) ((stmt (Stmt-F.Return (at 11) (Some (expr (Expr-F.Integer (word 18 (codes "1"))))) (at 19))) ∷ []) (at 21)) (simp folds refl)) (one_more (item_by source.good_call_2 (block (at 34) ((stmt (Stmt-F.Return (at 36) (Some (expr (Expr-F.Call (word 43 (codes "f")) ([]) (at 45)))) (at 46))) ∷ []) (at 48)) (simp folds refl)) refl)) ∙ refl

abbrev add_two_looks : List (Look Piece)
add_two_looks = function source.add_two_main (block (at 12) ((stmt (Stmt-F.Declaration (declared (Declaration-F.Vector (qualified 14 19) (kind_at 26 kind.Int) (word 31 (codes "v")) (Some (initializer (Initializer-F.Direct brackets.Parentheses (at 32) ((argument (Argument-F.Value (expr (Expr-F.Integer (word 33 (codes "16")))))) ∷ (argument (Argument-F.Value (expr (Expr-F.Integer (word 37 (codes "1")))))) ∷ []) (at 38)))) (at 39))))) ∷ (stmt (Stmt-F.Declaration (declared (Declaration-F.Object (object.Queue (qualified 41 47)) (word 53 (codes "q")) None (at 54))))) ∷ (stmt (Stmt-F.Compound (block (at 56) ((stmt (Stmt-F.Declaration (declared (Declaration-F.Object (object.Buffer (qualified 58 64) None) (word 71 (codes "b")) (Some (initializer (Initializer-F.Direct brackets.Braces (at 72) ((argument (Argument-F.Value (expr (Expr-F.Name (word 73 (codes "v")))))) ∷ []) (at 74)))) (at 75))))) ∷ (stmt (Stmt-F.Expression (full (FullExpression-F.Plain (expr (Expr-F.MemberCall (expr (Expr-F.Name (word 77 (codes "q")))) (word 79 (codes "submit")) None ((argument (Argument-F.Lambda (lambda (at 86) ((capture.DefaultReference (at 87)) ∷ []) (Some ((lambda_parameter (parameter.Handler (qualified 90 96)) true (word 105 (codes "h"))) ∷ [])) (block (at 108) ((stmt (Stmt-F.Declaration (declared (Declaration-F.Object (object.Accessor (qualified 110 116)) (word 125 (codes "a")) (Some (initializer (Initializer-F.Direct brackets.Braces (at 126) ((argument (Argument-F.Value (expr (Expr-F.Name (word 127 (codes "b")))))) ∷ (argument (Argument-F.Value (expr (Expr-F.Name (word 130 (codes "h")))))) ∷ []) (at 131)))) (at 132))))) ∷ (stmt (Stmt-F.Expression (full (FullExpression-F.Plain (expr (Expr-F.MemberCall (expr (Expr-F.Name (word 134 (codes "h")))) (word 136 (codes "parallel_for")) None ((argument (Argument-F.Value (expr (Expr-F.Construct (object.Range (qualified 149 155) (Some (word 161 (codes "1")))) brackets.Braces (at 163) ((argument (Argument-F.Value (expr (Expr-F.Integer (word 164 (codes "16")))))) ∷ []) (at 166))))) ∷ (argument (Argument-F.Lambda (lambda (at 169) ((capture.DefaultCopy (at 170)) ∷ []) (Some ((lambda_parameter (parameter.Id (qualified 173 179) (word 182 (codes "1"))) false (word 185 (codes "i"))) ∷ [])) (block (at 188) ((stmt (Stmt-F.Expression (full (FullExpression-F.Assignment (expr (Expr-F.Subscript (expr (Expr-F.Name (word 190 (codes "a")))) (at 191) (expr (Expr-F.Name (word 192 (codes "i")))) (at 193))) (at 195) assign.Add (expr (Expr-F.Integer (word 198 (codes "2")))))) (at 199))) ∷ []) (at 201))))) ∷ []) (at 202))))) (at 203))) ∷ []) (at 205))))) ∷ []) (at 206))))) (at 207))) ∷ []) (at 209)))) ∷ (stmt (Stmt-F.RangeFor (at 211) false (type.Integer (kind_at 216 kind.Int)) false (word 220 (codes "x")) (word 224 (codes "v")) (stmt (Stmt-F.Print (qualified 227 232) ((printed (Printed-F.Operand (at 237) (expr (Expr-F.Name (word 240 (codes "x")))))) ∷ []) (at 241))))) ∷ []) (at 243)) ∷ []

add_two_result : broken_rules source.add_two ≡ ([])
unfolding common_kind applied applied_one fitted represented quotient converted_num reduced
add_two_result = broken_by source.add_two add_two_looks (one_more (item_by source.add_two_main (block (at 12) ((stmt (Stmt-F.Declaration (declared (Declaration-F.Vector (qualified 14 19) (kind_at 26 kind.Int) (word 31 (codes "v")) (Some (initializer (Initializer-F.Direct brackets.Parentheses (at 32) ((argument (Argument-F.Value (expr (Expr-F.Integer (word 33 (codes "16")))))) ∷ (argument (Argument-F.Value (expr (Expr-F.Integer (word 37 (codes "1")))))) ∷ []) (at 38)))) (at 39))))) ∷ (stmt (Stmt-F.Declaration (declared (Declaration-F.Object (object.Queue (qualified 41 47)) (word 53 (codes "q")) None (at 54))))) ∷ (stmt (Stmt-F.Compound (block (at 56) ((stmt (Stmt-F.Declaration (declared (Declaration-F.Object (object.Buffer (qualified 58 64) None) (word 71 (codes "b")) (Some (initializer (Initializer-F.Direct brackets.Braces (at 72) ((argument (Argument-F.Value (expr (Expr-F.Name (word 73 (codes "v")))))) ∷ []) (at 74)))) (at 75))))) ∷ (stmt (Stmt-F.Expression (full (FullExpression-F.Plain (expr (Expr-F.MemberCall (expr (Expr-F.Name (word 77 (codes "q")))) (word 79 (codes "submit")) None ((argument (Argument-F.Lambda (lambda (at 86) ((capture.DefaultReference (at 87)) ∷ []) (Some ((lambda_parameter (parameter.Handler (qualified 90 96)) true (word 105 (codes "h"))) ∷ [])) (block (at 108) ((stmt (Stmt-F.Declaration (declared (Declaration-F.Object (object.Accessor (qualified 110 116)) (word 125 (codes "a")) (Some (initializer (Initializer-F.Direct brackets.Braces (at 126) ((argument (Argument-F.Value (expr (Expr-F.Name (word 127 (codes "b")))))) ∷ (argument (Argument-F.Value (expr (Expr-F.Name (word 130 (codes "h")))))) ∷ []) (at 131)))) (at 132))))) ∷ (stmt (Stmt-F.Expression (full (FullExpression-F.Plain (expr (Expr-F.MemberCall (expr (Expr-F.Name (word 134 (codes "h")))) (word 136 (codes "parallel_for")) None ((argument (Argument-F.Value (expr (Expr-F.Construct (object.Range (qualified 149 155) (Some (word 161 (codes "1")))) brackets.Braces (at 163) ((argument (Argument-F.Value (expr (Expr-F.Integer (word 164 (codes "16")))))) ∷ []) (at 166))))) ∷ (argument (Argument-F.Lambda (lambda (at 169) ((capture.DefaultCopy (at 170)) ∷ []) (Some ((lambda_parameter (parameter.Id (qualified 173 179) (word 182 (codes "1"))) false (word 185 (codes "i"))) ∷ [])) (block (at 188) ((stmt (Stmt-F.Expression (full (FullExpression-F.Assignment (expr (Expr-F.Subscript (expr (Expr-F.Name (word 190 (codes "a")))) (at 191) (expr (Expr-F.Name (word 192 (codes "i")))) (at 193))) (at 195) assign.Add (expr (Expr-F.Integer (word 198 (codes "2")))))) (at 199))) ∷ []) (at 201))))) ∷ []) (at 202))))) (at 203))) ∷ []) (at 205))))) ∷ []) (at 206))))) (at 207))) ∷ []) (at 209)))) ∷ (stmt (Stmt-F.RangeFor (at 211) false (type.Integer (kind_at 216 kind.Int)) false (word 220 (codes "x")) (word 224 (codes "v")) (stmt (Stmt-F.Print (qualified 227 232) ((printed (Printed-F.Operand (at 237) (expr (Expr-F.Name (word 240 (codes "x")))))) ∷ []) (at 241))))) ∷ []) (at 243)) (simp folds refl)) refl) ∙ refl

abbrev good_reduction_looks : List (Look Piece)
good_reduction_looks = function source.good_reduction_main (block (at 12) ((stmt (Stmt-F.Declaration (declared (Declaration-F.Object (object.Buffer (qualified 14 20) (Some (elements (kind_at 27 kind.Int) None))) (word 32 (codes "b")) (Some (initializer (Initializer-F.Direct brackets.Braces (at 33) ((argument (Argument-F.Braced (at 34) ((expr (Expr-F.Integer (word 35 (codes "1")))) ∷ []) (at 36))) ∷ []) (at 37)))) (at 38))))) ∷ (stmt (Stmt-F.Declaration (declared (Declaration-F.Object (object.Queue (qualified 40 46)) (word 52 (codes "q")) None (at 53))))) ∷ (stmt (Stmt-F.Expression (full (FullExpression-F.Plain (expr (Expr-F.MemberCall (expr (Expr-F.Name (word 55 (codes "q")))) (word 57 (codes "submit")) None ((argument (Argument-F.Lambda (lambda (at 64) ((capture.DefaultReference (at 65)) ∷ []) (Some ((lambda_parameter (parameter.Handler (qualified 68 74)) true (word 83 (codes "h"))) ∷ [])) (block (at 86) ((stmt (Stmt-F.Expression (full (FullExpression-F.Plain (expr (Expr-F.MemberCall (expr (Expr-F.Name (word 88 (codes "h")))) (word 90 (codes "parallel_for")) None ((argument (Argument-F.Value (expr (Expr-F.Construct (object.Range (qualified 103 109) (Some (word 115 (codes "1")))) brackets.Braces (at 117) ((argument (Argument-F.Value (expr (Expr-F.Integer (word 118 (codes "8")))))) ∷ []) (at 119))))) ∷ (argument (Argument-F.Value (expr (Expr-F.LibraryCall (qualified 122 128) library.Reduction ((argument (Argument-F.Value (expr (Expr-F.Name (word 138 (codes "b")))))) ∷ (argument (Argument-F.Value (expr (Expr-F.Name (word 141 (codes "h")))))) ∷ (argument (Argument-F.Value (expr (Expr-F.FunctionObject (qualified 144 150) combining.Plus (Some (kind_at 155 kind.Int)) brackets.Parentheses (at 160))))) ∷ []) (at 161))))) ∷ (argument (Argument-F.Lambda (lambda (at 164) ((capture.DefaultCopy (at 165)) ∷ []) (Some ((lambda_parameter (parameter.Id (qualified 168 174) (word 177 (codes "1"))) false (word 180 (codes "i"))) ∷ (lambda_parameter (parameter.Auto (at 183)) true (word 189 (codes "t"))) ∷ [])) (block (at 192) ((stmt (Stmt-F.Expression (full (FullExpression-F.Assignment (expr (Expr-F.Name (word 194 (codes "t")))) (at 196) assign.Add (expr (Expr-F.Name (word 199 (codes "i")))))) (at 200))) ∷ (stmt (Stmt-F.Expression (full (FullExpression-F.Plain (expr (Expr-F.MemberCall (expr (Expr-F.Name (word 202 (codes "t")))) (word 204 (codes "combine")) None ((argument (Argument-F.Value (expr (Expr-F.Integer (word 212 (codes "1")))))) ∷ []) (at 213))))) (at 214))) ∷ []) (at 216))))) ∷ []) (at 217))))) (at 218))) ∷ []) (at 220))))) ∷ []) (at 221))))) (at 222))) ∷ []) (at 224)) ∷ []

good_reduction_result : broken_rules source.good_reduction ≡ ([])
unfolding common_kind applied applied_one fitted represented quotient converted_num reduced
good_reduction_result = broken_by source.good_reduction good_reduction_looks (one_more (item_by source.good_reduction_main (block (at 12) ((stmt (Stmt-F.Declaration (declared (Declaration-F.Object (object.Buffer (qualified 14 20) (Some (elements (kind_at 27 kind.Int) None))) (word 32 (codes "b")) (Some (initializer (Initializer-F.Direct brackets.Braces (at 33) ((argument (Argument-F.Braced (at 34) ((expr (Expr-F.Integer (word 35 (codes "1")))) ∷ []) (at 36))) ∷ []) (at 37)))) (at 38))))) ∷ (stmt (Stmt-F.Declaration (declared (Declaration-F.Object (object.Queue (qualified 40 46)) (word 52 (codes "q")) None (at 53))))) ∷ (stmt (Stmt-F.Expression (full (FullExpression-F.Plain (expr (Expr-F.MemberCall (expr (Expr-F.Name (word 55 (codes "q")))) (word 57 (codes "submit")) None ((argument (Argument-F.Lambda (lambda (at 64) ((capture.DefaultReference (at 65)) ∷ []) (Some ((lambda_parameter (parameter.Handler (qualified 68 74)) true (word 83 (codes "h"))) ∷ [])) (block (at 86) ((stmt (Stmt-F.Expression (full (FullExpression-F.Plain (expr (Expr-F.MemberCall (expr (Expr-F.Name (word 88 (codes "h")))) (word 90 (codes "parallel_for")) None ((argument (Argument-F.Value (expr (Expr-F.Construct (object.Range (qualified 103 109) (Some (word 115 (codes "1")))) brackets.Braces (at 117) ((argument (Argument-F.Value (expr (Expr-F.Integer (word 118 (codes "8")))))) ∷ []) (at 119))))) ∷ (argument (Argument-F.Value (expr (Expr-F.LibraryCall (qualified 122 128) library.Reduction ((argument (Argument-F.Value (expr (Expr-F.Name (word 138 (codes "b")))))) ∷ (argument (Argument-F.Value (expr (Expr-F.Name (word 141 (codes "h")))))) ∷ (argument (Argument-F.Value (expr (Expr-F.FunctionObject (qualified 144 150) combining.Plus (Some (kind_at 155 kind.Int)) brackets.Parentheses (at 160))))) ∷ []) (at 161))))) ∷ (argument (Argument-F.Lambda (lambda (at 164) ((capture.DefaultCopy (at 165)) ∷ []) (Some ((lambda_parameter (parameter.Id (qualified 168 174) (word 177 (codes "1"))) false (word 180 (codes "i"))) ∷ (lambda_parameter (parameter.Auto (at 183)) true (word 189 (codes "t"))) ∷ [])) (block (at 192) ((stmt (Stmt-F.Expression (full (FullExpression-F.Assignment (expr (Expr-F.Name (word 194 (codes "t")))) (at 196) assign.Add (expr (Expr-F.Name (word 199 (codes "i")))))) (at 200))) ∷ (stmt (Stmt-F.Expression (full (FullExpression-F.Plain (expr (Expr-F.MemberCall (expr (Expr-F.Name (word 202 (codes "t")))) (word 204 (codes "combine")) None ((argument (Argument-F.Value (expr (Expr-F.Integer (word 212 (codes "1")))))) ∷ []) (at 213))))) (at 214))) ∷ []) (at 216))))) ∷ []) (at 217))))) (at 218))) ∷ []) (at 220))))) ∷ []) (at 221))))) (at 222))) ∷ []) (at 224)) (simp folds refl)) refl) ∙ refl

abbrev bad_reduction_looks : List (Look Piece)
bad_reduction_looks = function source.bad_reduction_main (block (at 12) ((stmt (Stmt-F.Declaration (declared (Declaration-F.Object (object.Buffer (qualified 14 20) (Some (elements (kind_at 27 kind.Int) None))) (word 32 (codes "b")) (Some (initializer (Initializer-F.Direct brackets.Braces (at 33) ((argument (Argument-F.Braced (at 34) ((expr (Expr-F.Integer (word 35 (codes "1")))) ∷ []) (at 36))) ∷ []) (at 37)))) (at 38))))) ∷ (stmt (Stmt-F.Declaration (declared (Declaration-F.Object (object.Queue (qualified 40 46)) (word 52 (codes "q")) None (at 53))))) ∷ (stmt (Stmt-F.Expression (full (FullExpression-F.Plain (expr (Expr-F.MemberCall (expr (Expr-F.Name (word 55 (codes "q")))) (word 57 (codes "submit")) None ((argument (Argument-F.Lambda (lambda (at 64) ((capture.DefaultReference (at 65)) ∷ []) (Some ((lambda_parameter (parameter.Handler (qualified 68 74)) true (word 83 (codes "h"))) ∷ [])) (block (at 86) ((stmt (Stmt-F.Expression (full (FullExpression-F.Plain (expr (Expr-F.MemberCall (expr (Expr-F.Name (word 88 (codes "h")))) (word 90 (codes "parallel_for")) None ((argument (Argument-F.Value (expr (Expr-F.Construct (object.Range (qualified 103 109) (Some (word 115 (codes "1")))) brackets.Braces (at 117) ((argument (Argument-F.Value (expr (Expr-F.Integer (word 118 (codes "8")))))) ∷ []) (at 119))))) ∷ (argument (Argument-F.Value (expr (Expr-F.LibraryCall (qualified 122 128) library.Reduction ((argument (Argument-F.Value (expr (Expr-F.Name (word 138 (codes "b")))))) ∷ (argument (Argument-F.Value (expr (Expr-F.Name (word 141 (codes "h")))))) ∷ (argument (Argument-F.Value (expr (Expr-F.FunctionObject (qualified 144 150) combining.Plus (Some (kind_at 155 kind.Int)) brackets.Parentheses (at 160))))) ∷ []) (at 161))))) ∷ (argument (Argument-F.Lambda (lambda (at 164) ((capture.DefaultCopy (at 165)) ∷ []) (Some ((lambda_parameter (parameter.Id (qualified 168 174) (word 177 (codes "1"))) false (word 180 (codes "i"))) ∷ (lambda_parameter (parameter.Auto (at 183)) true (word 189 (codes "t"))) ∷ [])) (block (at 192) ((stmt (Stmt-F.Expression (full (FullExpression-F.Assignment (expr (Expr-F.Name (word 194 (codes "t")))) (at 196) assign.Mul (expr (Expr-F.Integer (word 199 (codes "2")))))) (at 200))) ∷ (stmt (Stmt-F.Declaration (declared (Declaration-F.Integers None (type.Integer (kind_at 202 kind.Int)) ((declarator (Declarator-F.Equal (word 206 (codes "x")) (at 208) (expr (Expr-F.Name (word 210 (codes "t")))))) ∷ []) (at 211))))) ∷ []) (at 213))))) ∷ []) (at 214))))) (at 215))) ∷ []) (at 217))))) ∷ []) (at 218))))) (at 219))) ∷ []) (at 221)) ∷ []

bad_reduction_result : broken_rules source.bad_reduction ≡ (record { spot = at 194; code = code.WrongOperand } ∷ record { spot = at 210; code = code.WrongOperand } ∷ [])
unfolding common_kind applied applied_one fitted represented quotient converted_num reduced
bad_reduction_result = broken_by source.bad_reduction bad_reduction_looks (one_more (item_by source.bad_reduction_main (block (at 12) ((stmt (Stmt-F.Declaration (declared (Declaration-F.Object (object.Buffer (qualified 14 20) (Some (elements (kind_at 27 kind.Int) None))) (word 32 (codes "b")) (Some (initializer (Initializer-F.Direct brackets.Braces (at 33) ((argument (Argument-F.Braced (at 34) ((expr (Expr-F.Integer (word 35 (codes "1")))) ∷ []) (at 36))) ∷ []) (at 37)))) (at 38))))) ∷ (stmt (Stmt-F.Declaration (declared (Declaration-F.Object (object.Queue (qualified 40 46)) (word 52 (codes "q")) None (at 53))))) ∷ (stmt (Stmt-F.Expression (full (FullExpression-F.Plain (expr (Expr-F.MemberCall (expr (Expr-F.Name (word 55 (codes "q")))) (word 57 (codes "submit")) None ((argument (Argument-F.Lambda (lambda (at 64) ((capture.DefaultReference (at 65)) ∷ []) (Some ((lambda_parameter (parameter.Handler (qualified 68 74)) true (word 83 (codes "h"))) ∷ [])) (block (at 86) ((stmt (Stmt-F.Expression (full (FullExpression-F.Plain (expr (Expr-F.MemberCall (expr (Expr-F.Name (word 88 (codes "h")))) (word 90 (codes "parallel_for")) None ((argument (Argument-F.Value (expr (Expr-F.Construct (object.Range (qualified 103 109) (Some (word 115 (codes "1")))) brackets.Braces (at 117) ((argument (Argument-F.Value (expr (Expr-F.Integer (word 118 (codes "8")))))) ∷ []) (at 119))))) ∷ (argument (Argument-F.Value (expr (Expr-F.LibraryCall (qualified 122 128) library.Reduction ((argument (Argument-F.Value (expr (Expr-F.Name (word 138 (codes "b")))))) ∷ (argument (Argument-F.Value (expr (Expr-F.Name (word 141 (codes "h")))))) ∷ (argument (Argument-F.Value (expr (Expr-F.FunctionObject (qualified 144 150) combining.Plus (Some (kind_at 155 kind.Int)) brackets.Parentheses (at 160))))) ∷ []) (at 161))))) ∷ (argument (Argument-F.Lambda (lambda (at 164) ((capture.DefaultCopy (at 165)) ∷ []) (Some ((lambda_parameter (parameter.Id (qualified 168 174) (word 177 (codes "1"))) false (word 180 (codes "i"))) ∷ (lambda_parameter (parameter.Auto (at 183)) true (word 189 (codes "t"))) ∷ [])) (block (at 192) ((stmt (Stmt-F.Expression (full (FullExpression-F.Assignment (expr (Expr-F.Name (word 194 (codes "t")))) (at 196) assign.Mul (expr (Expr-F.Integer (word 199 (codes "2")))))) (at 200))) ∷ (stmt (Stmt-F.Declaration (declared (Declaration-F.Integers None (type.Integer (kind_at 202 kind.Int)) ((declarator (Declarator-F.Equal (word 206 (codes "x")) (at 208) (expr (Expr-F.Name (word 210 (codes "t")))))) ∷ []) (at 211))))) ∷ []) (at 213))))) ∷ []) (at 214))))) (at 215))) ∷ []) (at 217))))) ∷ []) (at 218))))) (at 219))) ∷ []) (at 221)) (simp folds refl)) refl) ∙ refl

abbrev group_sum_looks : List (Look Piece)
group_sum_looks = function source.group_sum_main (block (at 12) ((stmt (Stmt-F.Declaration (declared (Declaration-F.Object (object.Queue (qualified 14 20)) (word 26 (codes "q")) None (at 27))))) ∷ (stmt (Stmt-F.Expression (full (FullExpression-F.Plain (expr (Expr-F.MemberCall (expr (Expr-F.Name (word 29 (codes "q")))) (word 31 (codes "submit")) None ((argument (Argument-F.Lambda (lambda (at 38) ((capture.DefaultReference (at 39)) ∷ []) (Some ((lambda_parameter (parameter.Handler (qualified 42 48)) true (word 57 (codes "h"))) ∷ [])) (block (at 60) ((stmt (Stmt-F.Expression (full (FullExpression-F.Plain (expr (Expr-F.MemberCall (expr (Expr-F.Name (word 62 (codes "h")))) (word 64 (codes "parallel_for")) None ((argument (Argument-F.Value (expr (Expr-F.Construct (object.NdRange (qualified 77 83) (Some (word 92 (codes "1")))) brackets.Braces (at 94) ((argument (Argument-F.Value (expr (Expr-F.Integer (word 95 (codes "8")))))) ∷ (argument (Argument-F.Value (expr (Expr-F.Integer (word 98 (codes "4")))))) ∷ []) (at 99))))) ∷ (argument (Argument-F.Lambda (lambda (at 102) ((capture.DefaultCopy (at 103)) ∷ []) (Some ((lambda_parameter (parameter.NdItem (qualified 106 112) (word 120 (codes "1"))) false (word 123 (codes "i"))) ∷ [])) (block (at 126) ((stmt (Stmt-F.Declaration (declared (Declaration-F.Integers None (type.Integer (kind_at 128 kind.Int)) ((declarator (Declarator-F.Equal (word 132 (codes "x")) (at 134) (expr (Expr-F.LibraryCall (qualified 136 142) library.ReduceOverGroup ((argument (Argument-F.Value (expr (Expr-F.MemberCall (expr (Expr-F.Name (word 160 (codes "i")))) (word 162 (codes "get_group")) None ([]) (at 172))))) ∷ (argument (Argument-F.Value (expr (Expr-F.Integer (word 175 (codes "1")))))) ∷ (argument (Argument-F.Value (expr (Expr-F.FunctionObject (qualified 178 184) combining.Plus None brackets.Parentheses (at 191))))) ∷ []) (at 192))))) ∷ []) (at 193))))) ∷ []) (at 195))))) ∷ []) (at 196))))) (at 197))) ∷ []) (at 199))))) ∷ []) (at 200))))) (at 201))) ∷ []) (at 203)) ∷ []

group_sum_result : broken_rules source.group_sum ≡ ([])
unfolding common_kind applied applied_one fitted represented quotient converted_num reduced
group_sum_result = broken_by source.group_sum group_sum_looks (one_more (item_by source.group_sum_main (block (at 12) ((stmt (Stmt-F.Declaration (declared (Declaration-F.Object (object.Queue (qualified 14 20)) (word 26 (codes "q")) None (at 27))))) ∷ (stmt (Stmt-F.Expression (full (FullExpression-F.Plain (expr (Expr-F.MemberCall (expr (Expr-F.Name (word 29 (codes "q")))) (word 31 (codes "submit")) None ((argument (Argument-F.Lambda (lambda (at 38) ((capture.DefaultReference (at 39)) ∷ []) (Some ((lambda_parameter (parameter.Handler (qualified 42 48)) true (word 57 (codes "h"))) ∷ [])) (block (at 60) ((stmt (Stmt-F.Expression (full (FullExpression-F.Plain (expr (Expr-F.MemberCall (expr (Expr-F.Name (word 62 (codes "h")))) (word 64 (codes "parallel_for")) None ((argument (Argument-F.Value (expr (Expr-F.Construct (object.NdRange (qualified 77 83) (Some (word 92 (codes "1")))) brackets.Braces (at 94) ((argument (Argument-F.Value (expr (Expr-F.Integer (word 95 (codes "8")))))) ∷ (argument (Argument-F.Value (expr (Expr-F.Integer (word 98 (codes "4")))))) ∷ []) (at 99))))) ∷ (argument (Argument-F.Lambda (lambda (at 102) ((capture.DefaultCopy (at 103)) ∷ []) (Some ((lambda_parameter (parameter.NdItem (qualified 106 112) (word 120 (codes "1"))) false (word 123 (codes "i"))) ∷ [])) (block (at 126) ((stmt (Stmt-F.Declaration (declared (Declaration-F.Integers None (type.Integer (kind_at 128 kind.Int)) ((declarator (Declarator-F.Equal (word 132 (codes "x")) (at 134) (expr (Expr-F.LibraryCall (qualified 136 142) library.ReduceOverGroup ((argument (Argument-F.Value (expr (Expr-F.MemberCall (expr (Expr-F.Name (word 160 (codes "i")))) (word 162 (codes "get_group")) None ([]) (at 172))))) ∷ (argument (Argument-F.Value (expr (Expr-F.Integer (word 175 (codes "1")))))) ∷ (argument (Argument-F.Value (expr (Expr-F.FunctionObject (qualified 178 184) combining.Plus None brackets.Parentheses (at 191))))) ∷ []) (at 192))))) ∷ []) (at 193))))) ∷ []) (at 195))))) ∷ []) (at 196))))) (at 197))) ∷ []) (at 199))))) ∷ []) (at 200))))) (at 201))) ∷ []) (at 203)) (simp folds refl)) refl) ∙ refl

abbrev group_sum_of_bool_looks : List (Look Piece)
group_sum_of_bool_looks = function source.group_sum_of_bool_main (block (at 12) ((stmt (Stmt-F.Declaration (declared (Declaration-F.Object (object.Queue (qualified 14 20)) (word 26 (codes "q")) None (at 27))))) ∷ (stmt (Stmt-F.Expression (full (FullExpression-F.Plain (expr (Expr-F.MemberCall (expr (Expr-F.Name (word 29 (codes "q")))) (word 31 (codes "submit")) None ((argument (Argument-F.Lambda (lambda (at 38) ((capture.DefaultReference (at 39)) ∷ []) (Some ((lambda_parameter (parameter.Handler (qualified 42 48)) true (word 57 (codes "h"))) ∷ [])) (block (at 60) ((stmt (Stmt-F.Expression (full (FullExpression-F.Plain (expr (Expr-F.MemberCall (expr (Expr-F.Name (word 62 (codes "h")))) (word 64 (codes "parallel_for")) None ((argument (Argument-F.Value (expr (Expr-F.Construct (object.NdRange (qualified 77 83) (Some (word 92 (codes "1")))) brackets.Braces (at 94) ((argument (Argument-F.Value (expr (Expr-F.Integer (word 95 (codes "8")))))) ∷ (argument (Argument-F.Value (expr (Expr-F.Integer (word 98 (codes "4")))))) ∷ []) (at 99))))) ∷ (argument (Argument-F.Lambda (lambda (at 102) ((capture.DefaultCopy (at 103)) ∷ []) (Some ((lambda_parameter (parameter.NdItem (qualified 106 112) (word 120 (codes "1"))) false (word 123 (codes "i"))) ∷ [])) (block (at 126) ((stmt (Stmt-F.Declaration (declared (Declaration-F.Integers None (type.Integer (kind_at 128 kind.Int)) ((declarator (Declarator-F.Equal (word 132 (codes "x")) (at 134) (expr (Expr-F.LibraryCall (qualified 136 142) library.ReduceOverGroup ((argument (Argument-F.Value (expr (Expr-F.MemberCall (expr (Expr-F.Name (word 160 (codes "i")))) (word 162 (codes "get_group")) None ([]) (at 172))))) ∷ (argument (Argument-F.Value (expr (Expr-F.Boolean (at 175) true)))) ∷ (argument (Argument-F.Value (expr (Expr-F.FunctionObject (qualified 181 187) combining.Plus None brackets.Parentheses (at 194))))) ∷ []) (at 195))))) ∷ []) (at 196))))) ∷ []) (at 198))))) ∷ []) (at 199))))) (at 200))) ∷ []) (at 202))))) ∷ []) (at 203))))) (at 204))) ∷ []) (at 206)) ∷ []

group_sum_of_bool_result : broken_rules source.group_sum_of_bool ≡ (record { spot = at 142; code = code.BadElement } ∷ [])
unfolding common_kind applied applied_one fitted represented quotient converted_num reduced
group_sum_of_bool_result = broken_by source.group_sum_of_bool group_sum_of_bool_looks (one_more (item_by source.group_sum_of_bool_main (block (at 12) ((stmt (Stmt-F.Declaration (declared (Declaration-F.Object (object.Queue (qualified 14 20)) (word 26 (codes "q")) None (at 27))))) ∷ (stmt (Stmt-F.Expression (full (FullExpression-F.Plain (expr (Expr-F.MemberCall (expr (Expr-F.Name (word 29 (codes "q")))) (word 31 (codes "submit")) None ((argument (Argument-F.Lambda (lambda (at 38) ((capture.DefaultReference (at 39)) ∷ []) (Some ((lambda_parameter (parameter.Handler (qualified 42 48)) true (word 57 (codes "h"))) ∷ [])) (block (at 60) ((stmt (Stmt-F.Expression (full (FullExpression-F.Plain (expr (Expr-F.MemberCall (expr (Expr-F.Name (word 62 (codes "h")))) (word 64 (codes "parallel_for")) None ((argument (Argument-F.Value (expr (Expr-F.Construct (object.NdRange (qualified 77 83) (Some (word 92 (codes "1")))) brackets.Braces (at 94) ((argument (Argument-F.Value (expr (Expr-F.Integer (word 95 (codes "8")))))) ∷ (argument (Argument-F.Value (expr (Expr-F.Integer (word 98 (codes "4")))))) ∷ []) (at 99))))) ∷ (argument (Argument-F.Lambda (lambda (at 102) ((capture.DefaultCopy (at 103)) ∷ []) (Some ((lambda_parameter (parameter.NdItem (qualified 106 112) (word 120 (codes "1"))) false (word 123 (codes "i"))) ∷ [])) (block (at 126) ((stmt (Stmt-F.Declaration (declared (Declaration-F.Integers None (type.Integer (kind_at 128 kind.Int)) ((declarator (Declarator-F.Equal (word 132 (codes "x")) (at 134) (expr (Expr-F.LibraryCall (qualified 136 142) library.ReduceOverGroup ((argument (Argument-F.Value (expr (Expr-F.MemberCall (expr (Expr-F.Name (word 160 (codes "i")))) (word 162 (codes "get_group")) None ([]) (at 172))))) ∷ (argument (Argument-F.Value (expr (Expr-F.Boolean (at 175) true)))) ∷ (argument (Argument-F.Value (expr (Expr-F.FunctionObject (qualified 181 187) combining.Plus None brackets.Parentheses (at 194))))) ∷ []) (at 195))))) ∷ []) (at 196))))) ∷ []) (at 198))))) ∷ []) (at 199))))) (at 200))) ∷ []) (at 202))))) ∷ []) (at 203))))) (at 204))) ∷ []) (at 206)) (simp folds refl)) refl) ∙ refl

abbrev sub_buffer_looks : List (Look Piece)
sub_buffer_looks = function source.sub_buffer_main (block (at 12) ((stmt (Stmt-F.Declaration (declared (Declaration-F.Object (object.Buffer (qualified 14 20) (Some (elements (kind_at 27 kind.Int) None))) (word 32 (codes "b")) (Some (initializer (Initializer-F.Direct brackets.Braces (at 33) ((argument (Argument-F.Braced (at 34) ((expr (Expr-F.Integer (word 35 (codes "8")))) ∷ []) (at 36))) ∷ []) (at 37)))) (at 38))))) ∷ (stmt (Stmt-F.Declaration (declared (Declaration-F.Object (object.Buffer (qualified 40 46) None) (word 53 (codes "s")) (Some (initializer (Initializer-F.Direct brackets.Braces (at 54) ((argument (Argument-F.Value (expr (Expr-F.Name (word 55 (codes "b")))))) ∷ (argument (Argument-F.Value (expr (Expr-F.Construct (object.Id (qualified 58 64) (Some (word 67 (codes "1")))) brackets.Braces (at 69) ((argument (Argument-F.Value (expr (Expr-F.Integer (word 70 (codes "0")))))) ∷ []) (at 71))))) ∷ (argument (Argument-F.Braced (at 74) ((expr (Expr-F.Integer (word 75 (codes "2")))) ∷ []) (at 76))) ∷ []) (at 77)))) (at 78))))) ∷ []) (at 80)) ∷ []

sub_buffer_result : broken_rules source.sub_buffer ≡ ([])
unfolding common_kind applied applied_one fitted represented quotient converted_num reduced
sub_buffer_result = broken_by source.sub_buffer sub_buffer_looks (one_more (item_by source.sub_buffer_main (block (at 12) ((stmt (Stmt-F.Declaration (declared (Declaration-F.Object (object.Buffer (qualified 14 20) (Some (elements (kind_at 27 kind.Int) None))) (word 32 (codes "b")) (Some (initializer (Initializer-F.Direct brackets.Braces (at 33) ((argument (Argument-F.Braced (at 34) ((expr (Expr-F.Integer (word 35 (codes "8")))) ∷ []) (at 36))) ∷ []) (at 37)))) (at 38))))) ∷ (stmt (Stmt-F.Declaration (declared (Declaration-F.Object (object.Buffer (qualified 40 46) None) (word 53 (codes "s")) (Some (initializer (Initializer-F.Direct brackets.Braces (at 54) ((argument (Argument-F.Value (expr (Expr-F.Name (word 55 (codes "b")))))) ∷ (argument (Argument-F.Value (expr (Expr-F.Construct (object.Id (qualified 58 64) (Some (word 67 (codes "1")))) brackets.Braces (at 69) ((argument (Argument-F.Value (expr (Expr-F.Integer (word 70 (codes "0")))))) ∷ []) (at 71))))) ∷ (argument (Argument-F.Braced (at 74) ((expr (Expr-F.Integer (word 75 (codes "2")))) ∷ []) (at 76))) ∷ []) (at 77)))) (at 78))))) ∷ []) (at 80)) (simp folds refl)) refl) ∙ refl

abbrev sub_buffer_of_two_looks : List (Look Piece)
sub_buffer_of_two_looks = function source.sub_buffer_of_two_main (block (at 12) ((stmt (Stmt-F.Declaration (declared (Declaration-F.Object (object.Buffer (qualified 14 20) (Some (elements (kind_at 27 kind.Int) None))) (word 32 (codes "b")) (Some (initializer (Initializer-F.Direct brackets.Braces (at 33) ((argument (Argument-F.Braced (at 34) ((expr (Expr-F.Integer (word 35 (codes "8")))) ∷ []) (at 36))) ∷ []) (at 37)))) (at 38))))) ∷ (stmt (Stmt-F.Declaration (declared (Declaration-F.Object (object.Buffer (qualified 40 46) (Some (elements (kind_at 53 kind.Int) (Some (word 58 (codes "2")))))) (word 61 (codes "s")) (Some (initializer (Initializer-F.Direct brackets.Braces (at 62) ((argument (Argument-F.Value (expr (Expr-F.Name (word 63 (codes "b")))))) ∷ (argument (Argument-F.Value (expr (Expr-F.Construct (object.Id (qualified 66 72) (Some (word 75 (codes "1")))) brackets.Braces (at 77) ((argument (Argument-F.Value (expr (Expr-F.Integer (word 78 (codes "0")))))) ∷ []) (at 79))))) ∷ (argument (Argument-F.Braced (at 82) ((expr (Expr-F.Integer (word 83 (codes "2")))) ∷ []) (at 84))) ∷ []) (at 85)))) (at 86))))) ∷ []) (at 88)) ∷ []

sub_buffer_of_two_result : broken_rules source.sub_buffer_of_two ≡ (record { spot = at 61; code = code.BadDimension } ∷ [])
unfolding common_kind applied applied_one fitted represented quotient converted_num reduced
sub_buffer_of_two_result = broken_by source.sub_buffer_of_two sub_buffer_of_two_looks (one_more (item_by source.sub_buffer_of_two_main (block (at 12) ((stmt (Stmt-F.Declaration (declared (Declaration-F.Object (object.Buffer (qualified 14 20) (Some (elements (kind_at 27 kind.Int) None))) (word 32 (codes "b")) (Some (initializer (Initializer-F.Direct brackets.Braces (at 33) ((argument (Argument-F.Braced (at 34) ((expr (Expr-F.Integer (word 35 (codes "8")))) ∷ []) (at 36))) ∷ []) (at 37)))) (at 38))))) ∷ (stmt (Stmt-F.Declaration (declared (Declaration-F.Object (object.Buffer (qualified 40 46) (Some (elements (kind_at 53 kind.Int) (Some (word 58 (codes "2")))))) (word 61 (codes "s")) (Some (initializer (Initializer-F.Direct brackets.Braces (at 62) ((argument (Argument-F.Value (expr (Expr-F.Name (word 63 (codes "b")))))) ∷ (argument (Argument-F.Value (expr (Expr-F.Construct (object.Id (qualified 66 72) (Some (word 75 (codes "1")))) brackets.Braces (at 77) ((argument (Argument-F.Value (expr (Expr-F.Integer (word 78 (codes "0")))))) ∷ []) (at 79))))) ∷ (argument (Argument-F.Braced (at 82) ((expr (Expr-F.Integer (word 83 (codes "2")))) ∷ []) (at 84))) ∷ []) (at 85)))) (at 86))))) ∷ []) (at 88)) (simp folds refl)) refl) ∙ refl

abbrev caught_looks : List (Look Piece)
caught_looks = function source.caught_main (block (at 12) ((stmt (Stmt-F.Try (at 14) (block (at 18) ([]) (at 20)) (word 52 (codes "e")) (block (at 55) ((stmt (Stmt-F.Expression (full (FullExpression-F.Plain (expr (Expr-F.Binary (expr (Expr-F.MemberCall (expr (Expr-F.Name (word 57 (codes "e")))) (word 59 (codes "code")) None ([]) (at 64))) (at 66) (operator.Strict binary.Eq) (expr (Expr-F.ErrorCode (qualified 69 75) (word 81 (codes "invalid")))))))) (at 88))) ∷ []) (at 90)))) ∷ []) (at 92)) ∷ []

caught_result : broken_rules source.caught ≡ ([])
unfolding common_kind applied applied_one fitted represented quotient converted_num reduced
caught_result = broken_by source.caught caught_looks (one_more (item_by source.caught_main (block (at 12) ((stmt (Stmt-F.Try (at 14) (block (at 18) ([]) (at 20)) (word 52 (codes "e")) (block (at 55) ((stmt (Stmt-F.Expression (full (FullExpression-F.Plain (expr (Expr-F.Binary (expr (Expr-F.MemberCall (expr (Expr-F.Name (word 57 (codes "e")))) (word 59 (codes "code")) None ([]) (at 64))) (at 66) (operator.Strict binary.Eq) (expr (Expr-F.ErrorCode (qualified 69 75) (word 81 (codes "invalid")))))))) (at 88))) ∷ []) (at 90)))) ∷ []) (at 92)) (simp folds refl)) refl) ∙ refl

abbrev uncompared_looks : List (Look Piece)
uncompared_looks = function source.uncompared_main (block (at 12) ((stmt (Stmt-F.Try (at 14) (block (at 18) ([]) (at 20)) (word 52 (codes "e")) (block (at 55) ((stmt (Stmt-F.Expression (full (FullExpression-F.Plain (expr (Expr-F.MemberCall (expr (Expr-F.Name (word 57 (codes "e")))) (word 59 (codes "code")) None ([]) (at 64))))) (at 65))) ∷ []) (at 67)))) ∷ []) (at 69)) ∷ []

uncompared_result : broken_rules source.uncompared ≡ (record { spot = at 57; code = code.WrongOperand } ∷ [])
unfolding common_kind applied applied_one fitted represented quotient converted_num reduced
uncompared_result = broken_by source.uncompared uncompared_looks (one_more (item_by source.uncompared_main (block (at 12) ((stmt (Stmt-F.Try (at 14) (block (at 18) ([]) (at 20)) (word 52 (codes "e")) (block (at 55) ((stmt (Stmt-F.Expression (full (FullExpression-F.Plain (expr (Expr-F.MemberCall (expr (Expr-F.Name (word 57 (codes "e")))) (word 59 (codes "code")) None ([]) (at 64))))) (at 65))) ∷ []) (at 67)))) ∷ []) (at 69)) (simp folds refl)) refl) ∙ refl

abbrev shared_queue_looks : List (Look Piece)
shared_queue_looks = function source.shared_queue_main (block (at 12) ((stmt (Stmt-F.Declaration (declared (Declaration-F.Object (object.Queue (qualified 14 20)) (word 26 (codes "q")) None (at 27))))) ∷ (stmt (Stmt-F.Declaration (declared (Declaration-F.ThreadVector (qualified 29 34) (word 54 (codes "ts")) (at 56))))) ∷ (stmt (Stmt-F.Expression (full (FullExpression-F.Plain (expr (Expr-F.MemberCall (expr (Expr-F.Name (word 58 (codes "ts")))) (word 61 (codes "emplace_back")) None ((argument (Argument-F.Lambda (lambda (at 74) ((capture.DefaultReference (at 75)) ∷ []) None (block (at 78) ((stmt (Stmt-F.Expression (full (FullExpression-F.Plain (expr (Expr-F.MemberCall (expr (Expr-F.Name (word 80 (codes "q")))) (word 82 (codes "wait")) None ([]) (at 87))))) (at 88))) ∷ []) (at 90))))) ∷ []) (at 91))))) (at 92))) ∷ (stmt (Stmt-F.RangeFor (at 94) false (type.Auto (at 99)) true (word 105 (codes "t")) (word 109 (codes "ts")) (stmt (Stmt-F.Expression (full (FullExpression-F.Plain (expr (Expr-F.MemberCall (expr (Expr-F.Name (word 113 (codes "t")))) (word 115 (codes "join")) None ([]) (at 120))))) (at 121))))) ∷ []) (at 123)) ∷ []

shared_queue_result : broken_rules source.shared_queue ≡ ([])
unfolding common_kind applied applied_one fitted represented quotient converted_num reduced
shared_queue_result = broken_by source.shared_queue shared_queue_looks (one_more (item_by source.shared_queue_main (block (at 12) ((stmt (Stmt-F.Declaration (declared (Declaration-F.Object (object.Queue (qualified 14 20)) (word 26 (codes "q")) None (at 27))))) ∷ (stmt (Stmt-F.Declaration (declared (Declaration-F.ThreadVector (qualified 29 34) (word 54 (codes "ts")) (at 56))))) ∷ (stmt (Stmt-F.Expression (full (FullExpression-F.Plain (expr (Expr-F.MemberCall (expr (Expr-F.Name (word 58 (codes "ts")))) (word 61 (codes "emplace_back")) None ((argument (Argument-F.Lambda (lambda (at 74) ((capture.DefaultReference (at 75)) ∷ []) None (block (at 78) ((stmt (Stmt-F.Expression (full (FullExpression-F.Plain (expr (Expr-F.MemberCall (expr (Expr-F.Name (word 80 (codes "q")))) (word 82 (codes "wait")) None ([]) (at 87))))) (at 88))) ∷ []) (at 90))))) ∷ []) (at 91))))) (at 92))) ∷ (stmt (Stmt-F.RangeFor (at 94) false (type.Auto (at 99)) true (word 105 (codes "t")) (word 109 (codes "ts")) (stmt (Stmt-F.Expression (full (FullExpression-F.Plain (expr (Expr-F.MemberCall (expr (Expr-F.Name (word 113 (codes "t")))) (word 115 (codes "join")) None ([]) (at 120))))) (at 121))))) ∷ []) (at 123)) (simp folds refl)) refl) ∙ refl

abbrev late_queue_looks : List (Look Piece)
late_queue_looks = function source.late_queue_main (block (at 12) ((stmt (Stmt-F.Declaration (declared (Declaration-F.ThreadVector (qualified 14 19) (word 39 (codes "ts")) (at 41))))) ∷ (stmt (Stmt-F.Declaration (declared (Declaration-F.Object (object.Queue (qualified 43 49)) (word 55 (codes "q")) None (at 56))))) ∷ (stmt (Stmt-F.Expression (full (FullExpression-F.Plain (expr (Expr-F.MemberCall (expr (Expr-F.Name (word 58 (codes "ts")))) (word 61 (codes "emplace_back")) None ((argument (Argument-F.Lambda (lambda (at 74) ((capture.DefaultReference (at 75)) ∷ []) None (block (at 78) ((stmt (Stmt-F.Expression (full (FullExpression-F.Plain (expr (Expr-F.MemberCall (expr (Expr-F.Name (word 80 (codes "q")))) (word 82 (codes "wait")) None ([]) (at 87))))) (at 88))) ∷ []) (at 90))))) ∷ []) (at 91))))) (at 92))) ∷ (stmt (Stmt-F.RangeFor (at 94) false (type.Auto (at 99)) true (word 105 (codes "t")) (word 109 (codes "ts")) (stmt (Stmt-F.Expression (full (FullExpression-F.Plain (expr (Expr-F.MemberCall (expr (Expr-F.Name (word 113 (codes "t")))) (word 115 (codes "join")) None ([]) (at 120))))) (at 121))))) ∷ []) (at 123)) ∷ []

late_queue_result : broken_rules source.late_queue ≡ (record { spot = at 80; code = code.ThreadCapture } ∷ [])
unfolding common_kind applied applied_one fitted represented quotient converted_num reduced
late_queue_result = broken_by source.late_queue late_queue_looks (one_more (item_by source.late_queue_main (block (at 12) ((stmt (Stmt-F.Declaration (declared (Declaration-F.ThreadVector (qualified 14 19) (word 39 (codes "ts")) (at 41))))) ∷ (stmt (Stmt-F.Declaration (declared (Declaration-F.Object (object.Queue (qualified 43 49)) (word 55 (codes "q")) None (at 56))))) ∷ (stmt (Stmt-F.Expression (full (FullExpression-F.Plain (expr (Expr-F.MemberCall (expr (Expr-F.Name (word 58 (codes "ts")))) (word 61 (codes "emplace_back")) None ((argument (Argument-F.Lambda (lambda (at 74) ((capture.DefaultReference (at 75)) ∷ []) None (block (at 78) ((stmt (Stmt-F.Expression (full (FullExpression-F.Plain (expr (Expr-F.MemberCall (expr (Expr-F.Name (word 80 (codes "q")))) (word 82 (codes "wait")) None ([]) (at 87))))) (at 88))) ∷ []) (at 90))))) ∷ []) (at 91))))) (at 92))) ∷ (stmt (Stmt-F.RangeFor (at 94) false (type.Auto (at 99)) true (word 105 (codes "t")) (word 109 (codes "ts")) (stmt (Stmt-F.Expression (full (FullExpression-F.Plain (expr (Expr-F.MemberCall (expr (Expr-F.Name (word 113 (codes "t")))) (word 115 (codes "join")) None ([]) (at 120))))) (at 121))))) ∷ []) (at 123)) (simp folds refl)) refl) ∙ refl

abbrev two_indexes_looks : List (Look Piece)
two_indexes_looks = function source.two_indexes_main (block (at 12) ((stmt (Stmt-F.Declaration (declared (Declaration-F.Object (object.Buffer (qualified 14 20) (Some (elements (kind_at 27 kind.Int) (Some (word 32 (codes "2")))))) (word 35 (codes "b")) (Some (initializer (Initializer-F.Direct brackets.Braces (at 36) ((argument (Argument-F.Braced (at 37) ((expr (Expr-F.Integer (word 38 (codes "2")))) ∷ (expr (Expr-F.Integer (word 41 (codes "2")))) ∷ []) (at 42))) ∷ []) (at 43)))) (at 44))))) ∷ (stmt (Stmt-F.Declaration (declared (Declaration-F.Object (object.HostAccessor (qualified 46 52)) (word 66 (codes "a")) (Some (initializer (Initializer-F.Direct brackets.Braces (at 67) ((argument (Argument-F.Value (expr (Expr-F.Name (word 68 (codes "b")))))) ∷ []) (at 69)))) (at 70))))) ∷ (stmt (Stmt-F.Expression (full (FullExpression-F.Assignment (expr (Expr-F.Subscript (expr (Expr-F.Subscript (expr (Expr-F.Name (word 72 (codes "a")))) (at 73) (expr (Expr-F.Integer (word 74 (codes "0")))) (at 75))) (at 76) (expr (Expr-F.Integer (word 77 (codes "1")))) (at 78))) (at 80) assign.Assign (expr (Expr-F.Integer (word 82 (codes "1")))))) (at 83))) ∷ (stmt (Stmt-F.Expression (full (FullExpression-F.Assignment (expr (Expr-F.Subscript (expr (Expr-F.Name (word 85 (codes "a")))) (at 86) (expr (Expr-F.Construct (object.Id (qualified 87 93) (Some (word 96 (codes "2")))) brackets.Braces (at 98) ((argument (Argument-F.Value (expr (Expr-F.Integer (word 99 (codes "0")))))) ∷ (argument (Argument-F.Value (expr (Expr-F.Integer (word 102 (codes "1")))))) ∷ []) (at 103))) (at 104))) (at 106) assign.Assign (expr (Expr-F.Integer (word 108 (codes "2")))))) (at 109))) ∷ []) (at 111)) ∷ []

two_indexes_result : broken_rules source.two_indexes ≡ ([])
unfolding common_kind applied applied_one fitted represented quotient converted_num reduced
two_indexes_result = broken_by source.two_indexes two_indexes_looks (one_more (item_by source.two_indexes_main (block (at 12) ((stmt (Stmt-F.Declaration (declared (Declaration-F.Object (object.Buffer (qualified 14 20) (Some (elements (kind_at 27 kind.Int) (Some (word 32 (codes "2")))))) (word 35 (codes "b")) (Some (initializer (Initializer-F.Direct brackets.Braces (at 36) ((argument (Argument-F.Braced (at 37) ((expr (Expr-F.Integer (word 38 (codes "2")))) ∷ (expr (Expr-F.Integer (word 41 (codes "2")))) ∷ []) (at 42))) ∷ []) (at 43)))) (at 44))))) ∷ (stmt (Stmt-F.Declaration (declared (Declaration-F.Object (object.HostAccessor (qualified 46 52)) (word 66 (codes "a")) (Some (initializer (Initializer-F.Direct brackets.Braces (at 67) ((argument (Argument-F.Value (expr (Expr-F.Name (word 68 (codes "b")))))) ∷ []) (at 69)))) (at 70))))) ∷ (stmt (Stmt-F.Expression (full (FullExpression-F.Assignment (expr (Expr-F.Subscript (expr (Expr-F.Subscript (expr (Expr-F.Name (word 72 (codes "a")))) (at 73) (expr (Expr-F.Integer (word 74 (codes "0")))) (at 75))) (at 76) (expr (Expr-F.Integer (word 77 (codes "1")))) (at 78))) (at 80) assign.Assign (expr (Expr-F.Integer (word 82 (codes "1")))))) (at 83))) ∷ (stmt (Stmt-F.Expression (full (FullExpression-F.Assignment (expr (Expr-F.Subscript (expr (Expr-F.Name (word 85 (codes "a")))) (at 86) (expr (Expr-F.Construct (object.Id (qualified 87 93) (Some (word 96 (codes "2")))) brackets.Braces (at 98) ((argument (Argument-F.Value (expr (Expr-F.Integer (word 99 (codes "0")))))) ∷ (argument (Argument-F.Value (expr (Expr-F.Integer (word 102 (codes "1")))))) ∷ []) (at 103))) (at 104))) (at 106) assign.Assign (expr (Expr-F.Integer (word 108 (codes "2")))))) (at 109))) ∷ []) (at 111)) (simp folds refl)) refl) ∙ refl

abbrev one_index_looks : List (Look Piece)
one_index_looks = function source.one_index_main (block (at 12) ((stmt (Stmt-F.Declaration (declared (Declaration-F.Object (object.Buffer (qualified 14 20) (Some (elements (kind_at 27 kind.Int) (Some (word 32 (codes "2")))))) (word 35 (codes "b")) (Some (initializer (Initializer-F.Direct brackets.Braces (at 36) ((argument (Argument-F.Braced (at 37) ((expr (Expr-F.Integer (word 38 (codes "2")))) ∷ (expr (Expr-F.Integer (word 41 (codes "2")))) ∷ []) (at 42))) ∷ []) (at 43)))) (at 44))))) ∷ (stmt (Stmt-F.Declaration (declared (Declaration-F.Object (object.HostAccessor (qualified 46 52)) (word 66 (codes "a")) (Some (initializer (Initializer-F.Direct brackets.Braces (at 67) ((argument (Argument-F.Value (expr (Expr-F.Name (word 68 (codes "b")))))) ∷ []) (at 69)))) (at 70))))) ∷ (stmt (Stmt-F.Expression (full (FullExpression-F.Assignment (expr (Expr-F.Subscript (expr (Expr-F.Name (word 72 (codes "a")))) (at 73) (expr (Expr-F.Integer (word 74 (codes "0")))) (at 75))) (at 77) assign.Assign (expr (Expr-F.Integer (word 79 (codes "1")))))) (at 80))) ∷ []) (at 82)) ∷ []

one_index_result : broken_rules source.one_index ≡ (record { spot = at 72; code = code.NotAssignable } ∷ [])
unfolding common_kind applied applied_one fitted represented quotient converted_num reduced
one_index_result = broken_by source.one_index one_index_looks (one_more (item_by source.one_index_main (block (at 12) ((stmt (Stmt-F.Declaration (declared (Declaration-F.Object (object.Buffer (qualified 14 20) (Some (elements (kind_at 27 kind.Int) (Some (word 32 (codes "2")))))) (word 35 (codes "b")) (Some (initializer (Initializer-F.Direct brackets.Braces (at 36) ((argument (Argument-F.Braced (at 37) ((expr (Expr-F.Integer (word 38 (codes "2")))) ∷ (expr (Expr-F.Integer (word 41 (codes "2")))) ∷ []) (at 42))) ∷ []) (at 43)))) (at 44))))) ∷ (stmt (Stmt-F.Declaration (declared (Declaration-F.Object (object.HostAccessor (qualified 46 52)) (word 66 (codes "a")) (Some (initializer (Initializer-F.Direct brackets.Braces (at 67) ((argument (Argument-F.Value (expr (Expr-F.Name (word 68 (codes "b")))))) ∷ []) (at 69)))) (at 70))))) ∷ (stmt (Stmt-F.Expression (full (FullExpression-F.Assignment (expr (Expr-F.Subscript (expr (Expr-F.Name (word 72 (codes "a")))) (at 73) (expr (Expr-F.Integer (word 74 (codes "0")))) (at 75))) (at 77) assign.Assign (expr (Expr-F.Integer (word 79 (codes "1")))))) (at 80))) ∷ []) (at 82)) (simp folds refl)) refl) ∙ refl

abbrev passed_by_name_looks : List (Look Piece)
passed_by_name_looks = function source.passed_by_name_1 (block (at 24) ([]) (at 26)) ∷ function source.passed_by_name_2 (block (at 39) ((stmt (Stmt-F.Declaration (declared (Declaration-F.Object (object.Queue (qualified 41 47)) (word 53 (codes "q")) None (at 54))))) ∷ (stmt (Stmt-F.Expression (full (FullExpression-F.Plain (expr (Expr-F.Call (word 56 (codes "f")) ((expr (Expr-F.Name (word 58 (codes "q")))) ∷ []) (at 59))))) (at 60))) ∷ []) (at 62)) ∷ []

passed_by_name_result : broken_rules source.passed_by_name ≡ ([])
unfolding common_kind applied applied_one fitted represented quotient converted_num reduced
passed_by_name_result = broken_by source.passed_by_name passed_by_name_looks (one_more (item_by source.passed_by_name_1 (block (at 24) ([]) (at 26)) (simp folds refl)) (one_more (item_by source.passed_by_name_2 (block (at 39) ((stmt (Stmt-F.Declaration (declared (Declaration-F.Object (object.Queue (qualified 41 47)) (word 53 (codes "q")) None (at 54))))) ∷ (stmt (Stmt-F.Expression (full (FullExpression-F.Plain (expr (Expr-F.Call (word 56 (codes "f")) ((expr (Expr-F.Name (word 58 (codes "q")))) ∷ []) (at 59))))) (at 60))) ∷ []) (at 62)) (simp folds refl)) refl)) ∙ refl

abbrev passed_in_parentheses_looks : List (Look Piece)
passed_in_parentheses_looks = function source.passed_in_parentheses_1 (block (at 24) ([]) (at 26)) ∷ function source.passed_in_parentheses_2 (block (at 39) ((stmt (Stmt-F.Declaration (declared (Declaration-F.Object (object.Queue (qualified 41 47)) (word 53 (codes "q")) None (at 54))))) ∷ (stmt (Stmt-F.Expression (full (FullExpression-F.Plain (expr (Expr-F.Call (word 56 (codes "f")) ((expr (Expr-F.Parenthesized (at 58) (expr (Expr-F.Name (word 59 (codes "q")))) (at 60))) ∷ []) (at 61))))) (at 62))) ∷ []) (at 64)) ∷ []

passed_in_parentheses_result : broken_rules source.passed_in_parentheses ≡ (record { spot = at 56; code = code.WrongArguments } ∷ [])
unfolding common_kind applied applied_one fitted represented quotient converted_num reduced
passed_in_parentheses_result = broken_by source.passed_in_parentheses passed_in_parentheses_looks (one_more (item_by source.passed_in_parentheses_1 (block (at 24) ([]) (at 26)) (simp folds refl)) (one_more (item_by source.passed_in_parentheses_2 (block (at 39) ((stmt (Stmt-F.Declaration (declared (Declaration-F.Object (object.Queue (qualified 41 47)) (word 53 (codes "q")) None (at 54))))) ∷ (stmt (Stmt-F.Expression (full (FullExpression-F.Plain (expr (Expr-F.Call (word 56 (codes "f")) ((expr (Expr-F.Parenthesized (at 58) (expr (Expr-F.Name (word 59 (codes "q")))) (at 60))) ∷ []) (at 61))))) (at 62))) ∷ []) (at 64)) (simp folds refl)) refl)) ∙ refl

abbrev element_in_thread_looks : List (Look Piece)
element_in_thread_looks = function source.element_in_thread_main (block (at 12) ((stmt (Stmt-F.Declaration (declared (Declaration-F.Vector (qualified 14 19) (kind_at 26 kind.Int) (word 31 (codes "v")) (Some (initializer (Initializer-F.Direct brackets.Parentheses (at 32) ((argument (Argument-F.Value (expr (Expr-F.Integer (word 33 (codes "1")))))) ∷ []) (at 34)))) (at 35))))) ∷ (stmt (Stmt-F.RangeFor (at 37) false (type.Auto (at 42)) true (word 48 (codes "x")) (word 52 (codes "v")) (stmt (Stmt-F.Compound (block (at 55) ((stmt (Stmt-F.Expression (full (FullExpression-F.Assignment (expr (Expr-F.Name (word 57 (codes "x")))) (at 59) assign.Assign (expr (Expr-F.Integer (word 61 (codes "2")))))) (at 62))) ∷ (stmt (Stmt-F.Declaration (declared (Declaration-F.Thread (qualified 64 69) (word 76 (codes "t")) brackets.Parentheses (lambda (at 78) ((capture.Copy (word 79 (codes "x"))) ∷ []) None (block (at 82) ((stmt (Stmt-F.Expression (full (FullExpression-F.Plain (expr (Expr-F.Binary (expr (Expr-F.Name (word 84 (codes "x")))) (at 86) (operator.Strict binary.Add) (expr (Expr-F.Integer (word 88 (codes "1")))))))) (at 89))) ∷ []) (at 91))) (at 93))))) ∷ (stmt (Stmt-F.Expression (full (FullExpression-F.Plain (expr (Expr-F.MemberCall (expr (Expr-F.Name (word 95 (codes "t")))) (word 97 (codes "join")) None ([]) (at 102))))) (at 103))) ∷ []) (at 105)))))) ∷ []) (at 107)) ∷ []

element_in_thread_looked : map one_item (source.element_in_thread).items ≡ element_in_thread_looks
element_in_thread_looked = one_more (item_by source.element_in_thread_main (block (at 12) ((stmt (Stmt-F.Declaration (declared (Declaration-F.Vector (qualified 14 19) (kind_at 26 kind.Int) (word 31 (codes "v")) (Some (initializer (Initializer-F.Direct brackets.Parentheses (at 32) ((argument (Argument-F.Value (expr (Expr-F.Integer (word 33 (codes "1")))))) ∷ []) (at 34)))) (at 35))))) ∷ (stmt (Stmt-F.RangeFor (at 37) false (type.Auto (at 42)) true (word 48 (codes "x")) (word 52 (codes "v")) (stmt (Stmt-F.Compound (block (at 55) ((stmt (Stmt-F.Expression (full (FullExpression-F.Assignment (expr (Expr-F.Name (word 57 (codes "x")))) (at 59) assign.Assign (expr (Expr-F.Integer (word 61 (codes "2")))))) (at 62))) ∷ (stmt (Stmt-F.Declaration (declared (Declaration-F.Thread (qualified 64 69) (word 76 (codes "t")) brackets.Parentheses (lambda (at 78) ((capture.Copy (word 79 (codes "x"))) ∷ []) None (block (at 82) ((stmt (Stmt-F.Expression (full (FullExpression-F.Plain (expr (Expr-F.Binary (expr (Expr-F.Name (word 84 (codes "x")))) (at 86) (operator.Strict binary.Add) (expr (Expr-F.Integer (word 88 (codes "1")))))))) (at 89))) ∷ []) (at 91))) (at 93))))) ∷ (stmt (Stmt-F.Expression (full (FullExpression-F.Plain (expr (Expr-F.MemberCall (expr (Expr-F.Name (word 95 (codes "t")))) (word 97 (codes "join")) None ([]) (at 102))))) (at 103))) ∷ []) (at 105)))))) ∷ []) (at 107)) (simp folds refl)) refl

element_in_thread_result : broken_rules source.element_in_thread ≡ ([])
unfolding common_kind applied applied_one fitted represented quotient converted_num reduced
element_in_thread_result = broken_by source.element_in_thread element_in_thread_looks element_in_thread_looked ∙ refl

element_in_thread_program_result : program_of source.element_in_thread ≡ source.element_in_thread_program
unfolding common_kind applied applied_one fitted represented quotient converted_num reduced
element_in_thread_program_result = program_by source.element_in_thread element_in_thread_looks element_in_thread_looked ∙ refl

abbrev element_in_kernel_looks : List (Look Piece)
element_in_kernel_looks = function source.element_in_kernel_main (block (at 12) ((stmt (Stmt-F.Declaration (declared (Declaration-F.Object (object.Queue (qualified 14 20)) (word 26 (codes "q")) None (at 27))))) ∷ (stmt (Stmt-F.Declaration (declared (Declaration-F.Vector (qualified 29 34) (kind_at 41 kind.Int) (word 46 (codes "v")) (Some (initializer (Initializer-F.Direct brackets.Parentheses (at 47) ((argument (Argument-F.Value (expr (Expr-F.Integer (word 48 (codes "1")))))) ∷ []) (at 49)))) (at 50))))) ∷ (stmt (Stmt-F.RangeFor (at 52) false (type.Integer (kind_at 57 kind.Int)) true (word 62 (codes "x")) (word 66 (codes "v")) (stmt (Stmt-F.Expression (full (FullExpression-F.Plain (expr (Expr-F.MemberCall (expr (Expr-F.Name (word 69 (codes "q")))) (word 71 (codes "submit")) None ((argument (Argument-F.Lambda (lambda (at 78) ((capture.DefaultReference (at 79)) ∷ []) (Some ((lambda_parameter (parameter.Handler (qualified 82 88)) true (word 97 (codes "h"))) ∷ [])) (block (at 100) ((stmt (Stmt-F.Expression (full (FullExpression-F.Plain (expr (Expr-F.MemberCall (expr (Expr-F.Name (word 102 (codes "h")))) (word 104 (codes "single_task")) None ((argument (Argument-F.Lambda (lambda (at 116) ((capture.DefaultCopy (at 117)) ∷ []) None (block (at 120) ((stmt (Stmt-F.Expression (full (FullExpression-F.Plain (expr (Expr-F.Binary (expr (Expr-F.Name (word 122 (codes "x")))) (at 124) (operator.Strict binary.Add) (expr (Expr-F.Integer (word 126 (codes "1")))))))) (at 127))) ∷ []) (at 129))))) ∷ []) (at 130))))) (at 131))) ∷ []) (at 133))))) ∷ []) (at 134))))) (at 135))))) ∷ []) (at 137)) ∷ []

element_in_kernel_looked : map one_item (source.element_in_kernel).items ≡ element_in_kernel_looks
element_in_kernel_looked = one_more (item_by source.element_in_kernel_main (block (at 12) ((stmt (Stmt-F.Declaration (declared (Declaration-F.Object (object.Queue (qualified 14 20)) (word 26 (codes "q")) None (at 27))))) ∷ (stmt (Stmt-F.Declaration (declared (Declaration-F.Vector (qualified 29 34) (kind_at 41 kind.Int) (word 46 (codes "v")) (Some (initializer (Initializer-F.Direct brackets.Parentheses (at 47) ((argument (Argument-F.Value (expr (Expr-F.Integer (word 48 (codes "1")))))) ∷ []) (at 49)))) (at 50))))) ∷ (stmt (Stmt-F.RangeFor (at 52) false (type.Integer (kind_at 57 kind.Int)) true (word 62 (codes "x")) (word 66 (codes "v")) (stmt (Stmt-F.Expression (full (FullExpression-F.Plain (expr (Expr-F.MemberCall (expr (Expr-F.Name (word 69 (codes "q")))) (word 71 (codes "submit")) None ((argument (Argument-F.Lambda (lambda (at 78) ((capture.DefaultReference (at 79)) ∷ []) (Some ((lambda_parameter (parameter.Handler (qualified 82 88)) true (word 97 (codes "h"))) ∷ [])) (block (at 100) ((stmt (Stmt-F.Expression (full (FullExpression-F.Plain (expr (Expr-F.MemberCall (expr (Expr-F.Name (word 102 (codes "h")))) (word 104 (codes "single_task")) None ((argument (Argument-F.Lambda (lambda (at 116) ((capture.DefaultCopy (at 117)) ∷ []) None (block (at 120) ((stmt (Stmt-F.Expression (full (FullExpression-F.Plain (expr (Expr-F.Binary (expr (Expr-F.Name (word 122 (codes "x")))) (at 124) (operator.Strict binary.Add) (expr (Expr-F.Integer (word 126 (codes "1")))))))) (at 127))) ∷ []) (at 129))))) ∷ []) (at 130))))) (at 131))) ∷ []) (at 133))))) ∷ []) (at 134))))) (at 135))))) ∷ []) (at 137)) (simp folds refl)) refl

element_in_kernel_result : broken_rules source.element_in_kernel ≡ ([])
unfolding common_kind applied applied_one fitted represented quotient converted_num reduced
element_in_kernel_result = broken_by source.element_in_kernel element_in_kernel_looks element_in_kernel_looked ∙ refl

element_in_kernel_program_result : program_of source.element_in_kernel ≡ source.element_in_kernel_program
unfolding common_kind applied applied_one fitted represented quotient converted_num reduced
element_in_kernel_program_result = program_by source.element_in_kernel element_in_kernel_looks element_in_kernel_looked ∙ refl

pub worked : Worked
worked = record {
  for_no_main = no_main_result;
  for_with_main = with_main_result;
  for_unknown_name = unknown_name_result;
  for_known_name = known_name_result;
  for_redeclared = redeclared_result;
  for_hidden = hidden_result;
  for_wide_literal = wide_literal_result;
  for_widest_literal = widest_literal_result;
  for_bad_constant = bad_constant_result;
  for_good_constant = good_constant_result;
  for_bad_dimension = bad_dimension_result;
  for_bad_count = bad_count_result;
  for_good_dimension = good_dimension_result;
  for_bad_declaration = bad_declaration_result;
  for_good_declaration = good_declaration_result;
  for_wrong_arguments = wrong_arguments_result;
  for_right_arguments = right_arguments_result;
  for_unknown_member = unknown_member_result;
  for_known_member = known_member_result;
  for_wrong_operand = wrong_operand_result;
  for_right_operand = right_operand_result;
  for_bad_element = bad_element_result;
  for_good_element = good_element_result;
  for_not_assignable = not_assignable_result;
  for_assignable = assignable_result;
  for_mode_broken = mode_broken_result;
  for_mode_kept = mode_kept_result;
  for_not_in_kernel = not_in_kernel_result;
  for_not_called = not_called_result;
  for_not_in_group = not_in_group_result;
  for_in_group = in_group_result;
  for_not_in_host = not_in_host_result;
  for_in_kernel = in_kernel_result;
  for_bad_lambda = bad_lambda_result;
  for_good_lambda = good_lambda_result;
  for_kernel_capture = kernel_capture_result;
  for_kernel_copy = kernel_copy_result;
  for_thread_capture = thread_capture_result;
  for_thread_copy = thread_copy_result;
  for_bad_return = bad_return_result;
  for_good_return = good_return_result;
  for_loop_word = loop_word_result;
  for_in_loop = in_loop_result;
  for_bad_call = bad_call_result;
  for_good_call = good_call_result;
  for_add_two = add_two_result;
  for_good_reduction = good_reduction_result;
  for_bad_reduction = bad_reduction_result;
  for_group_sum = group_sum_result;
  for_group_sum_of_bool = group_sum_of_bool_result;
  for_sub_buffer = sub_buffer_result;
  for_sub_buffer_of_two = sub_buffer_of_two_result;
  for_caught = caught_result;
  for_uncompared = uncompared_result;
  for_shared_queue = shared_queue_result;
  for_late_queue = late_queue_result;
  for_two_indexes = two_indexes_result;
  for_one_index = one_index_result;
  for_passed_by_name = passed_by_name_result;
  for_passed_in_parentheses = passed_in_parentheses_result;
  for_element_in_thread = element_in_thread_result;
  for_element_in_kernel = element_in_kernel_result;
  program_of_element_in_thread = element_in_thread_program_result;
  program_of_element_in_kernel = element_in_kernel_program_result;
}
