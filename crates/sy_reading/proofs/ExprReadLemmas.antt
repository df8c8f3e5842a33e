-- Expressions that stand there are read, where what stands below is.
use Rattle.std.proofs.Common.{◌≡◌, ℕ, zero, suc, ◌+◌, ◌-◌, ◌≤◌, ◌<◌, max, not, Bool, true, false, cond, ◌&&◌, List, [], ◌∷◌, ◌++◌, length, ◌⊎◌, inl, inr, ⊎_elim, Option, Some, None, refl, sym, ap, ◌∙◌, subst, arith, append_assoc, append-nil, length-drop, lt-ltb, le-ltb, codes}
use Rattle.std.specs.Str.{bytes_eq}
use Rattle.sy_lex.specs.declared.Row.TheVariants as row
use Rattle.sy_lex.specs.declared.Token.{Token}
use Rattle.sy_note.specs.declared.Spot.{Spot}
use Rattle.sy_num.specs.declared.UnOp.{UnOp}
use Rattle.sy_num.specs.declared.UnOp.TheVariants as un
use Rattle.sy_tree.specs.declared.operators.Operator.{Operator}
use Rattle.sy_tree.specs.declared.parts.AccessTag.{AccessTag}
use Rattle.sy_tree.specs.declared.parts.AccessTag.TheVariants as tag
use Rattle.sy_tree.specs.declared.parts.FunctionObject.{FunctionObject}
use Rattle.sy_tree.specs.declared.parts.FunctionObject.TheVariants as fun
use Rattle.sy_tree.specs.declared.parts.IntegerType.{IntegerType}
use Rattle.sy_tree.specs.declared.parts.LibraryFunction.{LibraryFunction}
use Rattle.sy_tree.specs.declared.parts.LibraryFunction.TheVariants as lib
use Rattle.sy_tree.specs.declared.parts.Qualified.{Qualified}
use Rattle.sy_tree.specs.declared.parts.Step.{Step}
use Rattle.sy_tree.specs.declared.tree.Argument.{Argument, out-Argument, roll-Argument, roll-out-Argument}
use Rattle.sy_tree.specs.declared.tree.Argument.TheOpen.{Argument-F, Expr-F}
use Rattle.sy_tree.specs.declared.tree.Argument.TheVariants as argument
use Rattle.sy_tree.specs.declared.tree.Expr.{Expr, out-Expr, roll-Expr, roll-out-Expr}
use Rattle.sy_tree.specs.declared.tree.Expr.TheVariants as tree
use Rattle.sy_tree.specs.declared.tree.Lambda.{Lambda}
use Rattle.sy_tree.specs.declared.tree.Stmt.{Stmt}
use Rattle.sy_tree.specs.Expressions.{Node, an_expr, a_lambda, a_stmt, AnyExpr, ArgumentRule, OneArgument, ExprRule}
use Rattle.sy_tree.specs.Grammar.{Derives}
use Rattle.sy_tree.specs.Layers.{ArgumentLayer, ExprLayer}
use Rattle.sy_tree.specs.Lists.{Optional, Listed, MaybeListed}
use Rattle.sy_tree.specs.Words.{At, Sees, Lexed, Sycl, mark, keyword, identifier, level, spelling, step_spelling, unary_spelling, tag_spelling, object_spelling, function_spelling}
use Rattle.sy_tree.proofs.Theorems.{Derives-looser}
use Rattle.sy_reading.specs.Exprs as r
use Rattle.sy_reading.specs.Input.{Reader, WithHeight, check_height, expect, expect_row, sees, sees_row, sees_namespace, mark_text, advance, expect_name, comma_list, maybe_comma_list}
use Rattle.sy_reading.specs.Parts.{closing_text, integral, object_by}
use Rattle.sy_reading.specs.Tables.{tag_of, object_of, function_of, unary_of, step_of, operator_of, arithmetic_of, comparison_of, bitwise_of, logical_of}
use Rattle.sy_tree.specs.Qualification.{same_row}
use Rattle.sy_num.specs.declared.BinOp.TheVariants as bin
use Rattle.sy_tree.specs.declared.operators.Operator.TheVariants as operator
use Rattle.sy_tree.specs.declared.parts.Step.TheVariants as step
use Rattle.sy_tree.specs.Types.{Integral}
use Rattle.sy_lex.specs.declared.Row.{Row}
use Rattle.sy_lex.specs.declared.Word.{Word}
use Rattle.sy_tree.specs.declared.parts.Lexeme.{Lexeme}
use Prim.Native.String.{String}
use Rattle.sy_tree.specs.declared.tree.Block.{Block, out-Block, roll-out-Block}
use Rattle.sy_tree.specs.declared.tree.Lambda.{out-Lambda, roll-out-Lambda}
use Rattle.sy_tree.specs.declared.parts.Brackets.{Brackets}
use Rattle.sy_tree.specs.declared.parts.Brackets.TheVariants as brackets
use Rattle.sy_tree.specs.Beginnings.{opens, opens_expr, first}
use Rattle.sy_tree.specs.Expressions.{a_block, BracketedArguments}
use Rattle.sy_tree.specs.Lists.{Rule, Each}
use Rattle.sy_tree.specs.Statements.{Substatement}
use Rattle.sy_tree.specs.Types.{Object}
use Rattle.sy_tree.specs.declared.parts.ObjectType.{ObjectType}
use Rattle.sy_tree.specs.declared.parts.ObjectType.TheVariants as object
use Rattle.sy_tree.specs.Words.{opening, closing}
use Rattle.sy_tree.proofs.Theorems.{Derives-takes, Derives-begins}
use Rattle.sy_reading.specs.Input.{next, is_word}
use Rattle.sy_reading.specs.Parts.{sees_type, is_some}
use Rattle.sy_reading.specs.Tables.{one_word_of, keyword_of, fixed_width_of}
use Rattle.sy_reading.proofs.StepLemmas.{word, is_that, seen, and_both, same_row_is}
use Rattle.sy_reading.proofs.ReadStepLemmas.{sees_at, next_at, expect_at, sees_other, row_at, no_row, expect_row_at, grows, at_length, passed, ReadsAs, list_short, comma_list_read, maybe_comma_list_read}
use Rattle.sy_reading.proofs.PartsReadLemmas.{integral_next, and_no, expect_open_read, expect_close_read, empty_brackets_read, integral_read, integral_type, one_word_read, not_type, sycl_read, OfNames, object_named, captures_read, maybe_parameters_read, maybe_template_argument_read, namespace_at}
use Rattle.sy_reading.specs.Stmts as st
use Rattle.sy_reading.specs.Parts.{type_specifier, object_type, declares_object, template_object}
use Rattle.sy_reading.specs.Tables.{assignment_of, plain_object_of}
use Rattle.sy_tree.specs.declared.operators.AssignmentOperator.{AssignmentOperator}
use Rattle.sy_tree.specs.declared.operators.AssignmentOperator.TheVariants as asg
use Rattle.sy_tree.specs.declared.parts.ConstSpecifier.{ConstSpecifier}
use Rattle.sy_tree.specs.declared.parts.ConstSpecifier.TheVariants as const
use Rattle.sy_tree.specs.declared.parts.TypeSpecifier.{TypeSpecifier}
use Rattle.sy_tree.specs.declared.parts.TypeSpecifier.TheVariants as specifier
use Rattle.sy_tree.specs.declared.tree.Argument.TheOpen.{Declaration-F, Declarator-F, Initializer-F, FullExpression-F, Printed-F, Stmt-F}
use Rattle.sy_tree.specs.declared.tree.Declaration.{Declaration, out-Declaration, roll-Declaration, roll-out-Declaration}
use Rattle.sy_tree.specs.declared.tree.Declaration.TheVariants as declaration
use Rattle.sy_tree.specs.declared.tree.Declarator.{Declarator, out-Declarator, roll-Declarator, roll-out-Declarator}
use Rattle.sy_tree.specs.declared.tree.Declarator.TheVariants as declarator
use Rattle.sy_tree.specs.declared.tree.FullExpression.{FullExpression, out-FullExpression, roll-FullExpression, roll-out-FullExpression}
use Rattle.sy_tree.specs.declared.tree.FullExpression.TheVariants as full
use Rattle.sy_tree.specs.declared.tree.Initializer.{Initializer, out-Initializer, roll-Initializer, roll-out-Initializer}
use Rattle.sy_tree.specs.declared.tree.Initializer.TheVariants as initializer
use Rattle.sy_tree.specs.declared.tree.Printed.{Printed, out-Printed, roll-Printed, roll-out-Printed}
use Rattle.sy_tree.specs.declared.tree.Printed.TheVariants as item
use Rattle.sy_tree.specs.declared.tree.Stmt.{out-Stmt, roll-Stmt, roll-out-Stmt}
use Rattle.sy_tree.specs.declared.tree.Stmt.TheVariants as ts
use Rattle.sy_tree.specs.Declarations.{DeclaratorRule, OneDeclarator, InitializerRule, Initialized, DeclarationRule}
use Rattle.sy_tree.specs.Expressions.{a_full, InParentheses}
use Rattle.sy_tree.specs.Layers.{DeclarationLayer, DeclaratorLayer, FullExpressionLayer, InitializerLayer, PrintedLayer, StmtLayer}
use Rattle.sy_tree.specs.Lists.{Maybe}
use Rattle.sy_tree.specs.Statements.{IsInitStatement, AnyFull, FullRule, PrintedRule, OnePrinted, InitStatement, StmtRule}
use Rattle.sy_tree.specs.Types.{TypeSpecified, ConstSpecified}
use Rattle.sy_tree.specs.Words.{Std, assignment_spelling}
use Rattle.sy_reading.proofs.ReadStepLemmas.{after_none, after_at, expect_name_at, within_at, maybe_sees, maybe_after}
use Rattle.sy_reading.proofs.PartsReadLemmas.{NoWord, type_specifier_read, const_specifier_read, object_read}
use Rattle.sy_reading.proofs.PartsSoundLemmas.{integral_is}

-- ---- trees from their layers

abbrev pub made : ExprLayer → Expr
made (Expr-F.Integer x) = tree.Integer x
made (Expr-F.Character x) = tree.Character x
made (Expr-F.Boolean s b) = tree.Boolean s b
made (Expr-F.Name x) = tree.Name x
made (Expr-F.Call f xs e) = tree.Call f xs e
made (Expr-F.Parenthesized s x e) = tree.Parenthesized s x e
made (Expr-F.StaticCast s t x e) = tree.StaticCast s t x e
made (Expr-F.FunctionalCast t x e) = tree.FunctionalCast t x e
made (Expr-F.Construct t b s xs e) = tree.Construct t b s xs e
made (Expr-F.GroupBarrier q x e) = tree.GroupBarrier q x e
made (Expr-F.AccessTag q t) = tree.AccessTag q t
made (Expr-F.InOrder q b e) = tree.InOrder q b e
made (Expr-F.ErrorCode q x) = tree.ErrorCode q x
made (Expr-F.InitializeToIdentity q b e) = tree.InitializeToIdentity q b e
made (Expr-F.FunctionObject q f t b e) = tree.FunctionObject q f t b e
made (Expr-F.LibraryCall q f xs e) = tree.LibraryCall q f xs e
made (Expr-F.Subscript a s x e) = tree.Subscript a s x e
made (Expr-F.MemberCall a x t xs e) = tree.MemberCall a x t xs e
made (Expr-F.Postfix a s o) = tree.Postfix a s o
made (Expr-F.Prefix s o a) = tree.Prefix s o a
made (Expr-F.Unary s o a) = tree.Unary s o a
made (Expr-F.Cast s t a) = tree.Cast s t a
made (Expr-F.Binary a s o b) = tree.Binary a s o b
made (Expr-F.Conditional a s b c) = tree.Conditional a s b c

made_roll : (y : ExprLayer) → made y ≡ roll-Expr y
made_roll (Expr-F.Integer x) = sym (tree.rolls-Integer x)
made_roll (Expr-F.Character x) = sym (tree.rolls-Character x)
made_roll (Expr-F.Boolean s b) = sym (tree.rolls-Boolean s b)
made_roll (Expr-F.Name x) = sym (tree.rolls-Name x)
made_roll (Expr-F.Call f xs e) = sym (tree.rolls-Call f xs e)
made_roll (Expr-F.Parenthesized s x e) = sym (tree.rolls-Parenthesized s x e)
made_roll (Expr-F.StaticCast s t x e) = sym (tree.rolls-StaticCast s t x e)
made_roll (Expr-F.FunctionalCast t x e) = sym (tree.rolls-FunctionalCast t x e)
made_roll (Expr-F.Construct t b s xs e) = sym (tree.rolls-Construct t b s xs e)
made_roll (Expr-F.GroupBarrier q x e) = sym (tree.rolls-GroupBarrier q x e)
made_roll (Expr-F.AccessTag q t) = sym (tree.rolls-AccessTag q t)
made_roll (Expr-F.InOrder q b e) = sym (tree.rolls-InOrder q b e)
made_roll (Expr-F.ErrorCode q x) = sym (tree.rolls-ErrorCode q x)
made_roll (Expr-F.InitializeToIdentity q b e) = sym (tree.rolls-InitializeToIdentity q b e)
made_roll (Expr-F.FunctionObject q f t b e) = sym (tree.rolls-FunctionObject q f t b e)
made_roll (Expr-F.LibraryCall q f xs e) = sym (tree.rolls-LibraryCall q f xs e)
made_roll (Expr-F.Subscript a s x e) = sym (tree.rolls-Subscript a s x e)
made_roll (Expr-F.MemberCall a x t xs e) = sym (tree.rolls-MemberCall a x t xs e)
made_roll (Expr-F.Postfix a s o) = sym (tree.rolls-Postfix a s o)
made_roll (Expr-F.Prefix s o a) = sym (tree.rolls-Prefix s o a)
made_roll (Expr-F.Unary s o a) = sym (tree.rolls-Unary s o a)
made_roll (Expr-F.Cast s t a) = sym (tree.rolls-Cast s t a)
made_roll (Expr-F.Binary a s o b) = sym (tree.rolls-Binary a s o b)
made_roll (Expr-F.Conditional a s b c) = sym (tree.rolls-Conditional a s b c)

pub made_out : (x : Expr) → made (out-Expr x) ≡ x
made_out x = made_roll (out-Expr x) ∙ roll-out-Expr x

abbrev argued : ArgumentLayer → Argument
argued (Argument-F.Value x) = argument.Value x
argued (Argument-F.Braced s xs e) = argument.Braced s xs e
argued (Argument-F.Lambda l) = argument.Lambda l

argued_roll : (y : ArgumentLayer) → argued y ≡ roll-Argument y
argued_roll (Argument-F.Value x) = sym (argument.rolls-Value x)
argued_roll (Argument-F.Braced s xs e) = sym (argument.rolls-Braced s xs e)
argued_roll (Argument-F.Lambda l) = sym (argument.rolls-Lambda l)

argued_out : (x : Argument) → argued (out-Argument x) ≡ x
argued_out x = argued_roll (out-Argument x) ∙ roll-out-Argument x

abbrev declarator_made : DeclaratorLayer → Declarator
declarator_made (Declarator-F.Uninitialized x) = declarator.Uninitialized x
declarator_made (Declarator-F.Equal x s v) = declarator.Equal x s v
declarator_made (Declarator-F.Bracketed x b s v e) = declarator.Bracketed x b s v e

declarator_made_roll : (y : DeclaratorLayer) → declarator_made y ≡ roll-Declarator y
declarator_made_roll (Declarator-F.Uninitialized x) = sym (declarator.rolls-Uninitialized x)
declarator_made_roll (Declarator-F.Equal x s v) = sym (declarator.rolls-Equal x s v)
declarator_made_roll (Declarator-F.Bracketed x b s v e) = sym (declarator.rolls-Bracketed x b s v e)

declarator_made_out : (x : Declarator) → declarator_made (out-Declarator x) ≡ x
declarator_made_out x = declarator_made_roll (out-Declarator x) ∙ roll-out-Declarator x

abbrev initializer_made : InitializerLayer → Initializer
initializer_made (Initializer-F.Copy s x) = initializer.Copy s x
initializer_made (Initializer-F.Direct b s xs e) = initializer.Direct b s xs e

initializer_made_roll : (y : InitializerLayer) → initializer_made y ≡ roll-Initializer y
initializer_made_roll (Initializer-F.Copy s x) = sym (initializer.rolls-Copy s x)
initializer_made_roll (Initializer-F.Direct b s xs e) = sym (initializer.rolls-Direct b s xs e)

initializer_made_out : (x : Initializer) → initializer_made (out-Initializer x) ≡ x
initializer_made_out x = initializer_made_roll (out-Initializer x) ∙ roll-out-Initializer x

abbrev declaration_made : DeclarationLayer → Declaration
declaration_made (Declaration-F.Integers c t ds e) = declaration.Integers c t ds e
declaration_made (Declaration-F.Vector q t x v e) = declaration.Vector q t x v e
declaration_made (Declaration-F.DeviceVector q x v e) = declaration.DeviceVector q x v e
declaration_made (Declaration-F.ThreadVector q x e) = declaration.ThreadVector q x e
declaration_made (Declaration-F.Thread q x b l e) = declaration.Thread q x b l e
declaration_made (Declaration-F.Object t x v e) = declaration.Object t x v e

declaration_made_roll : (y : DeclarationLayer) → declaration_made y ≡ roll-Declaration y
declaration_made_roll (Declaration-F.Integers c t ds e) = sym (declaration.rolls-Integers c t ds e)
declaration_made_roll (Declaration-F.Vector q t x v e) = sym (declaration.rolls-Vector q t x v e)
declaration_made_roll (Declaration-F.DeviceVector q x v e) = sym (declaration.rolls-DeviceVector q x v e)
declaration_made_roll (Declaration-F.ThreadVector q x e) = sym (declaration.rolls-ThreadVector q x e)
declaration_made_roll (Declaration-F.Thread q x b l e) = sym (declaration.rolls-Thread q x b l e)
declaration_made_roll (Declaration-F.Object t x v e) = sym (declaration.rolls-Object t x v e)

declaration_made_out : (x : Declaration) → declaration_made (out-Declaration x) ≡ x
declaration_made_out x = declaration_made_roll (out-Declaration x) ∙ roll-out-Declaration x

abbrev full_made : FullExpressionLayer → FullExpression
full_made (FullExpression-F.Plain x) = full.Plain x
full_made (FullExpression-F.Assignment x s o y) = full.Assignment x s o y

full_made_roll : (y : FullExpressionLayer) → full_made y ≡ roll-FullExpression y
full_made_roll (FullExpression-F.Plain x) = sym (full.rolls-Plain x)
full_made_roll (FullExpression-F.Assignment x s o y) = sym (full.rolls-Assignment x s o y)

full_made_out : (x : FullExpression) → full_made (out-FullExpression x) ≡ x
full_made_out x = full_made_roll (out-FullExpression x) ∙ roll-out-FullExpression x

abbrev printed_made : PrintedLayer → Printed
printed_made (Printed-F.Operand s x) = item.Operand s x
printed_made (Printed-F.Text s x) = item.Text s x
printed_made (Printed-F.EndLine s q) = item.EndLine s q

printed_made_roll : (y : PrintedLayer) → printed_made y ≡ roll-Printed y
printed_made_roll (Printed-F.Operand s x) = sym (item.rolls-Operand s x)
printed_made_roll (Printed-F.Text s x) = sym (item.rolls-Text s x)
printed_made_roll (Printed-F.EndLine s q) = sym (item.rolls-EndLine s q)

printed_made_out : (x : Printed) → printed_made (out-Printed x) ≡ x
printed_made_out x = printed_made_roll (out-Printed x) ∙ roll-out-Printed x

abbrev stmt_made : StmtLayer → Stmt
stmt_made (Stmt-F.Compound b) = ts.Compound b
stmt_made (Stmt-F.Null s) = ts.Null s
stmt_made (Stmt-F.Declaration d) = ts.Declaration d
stmt_made (Stmt-F.Expression x e) = ts.Expression x e
stmt_made (Stmt-F.Print q xs e) = ts.Print q xs e
stmt_made (Stmt-F.Break s e) = ts.Break s e
stmt_made (Stmt-F.Continue s e) = ts.Continue s e
stmt_made (Stmt-F.Return s x e) = ts.Return s x e
stmt_made (Stmt-F.If s c x y) = ts.If s c x y
stmt_made (Stmt-F.While s c x) = ts.While s c x
stmt_made (Stmt-F.Do s x c e) = ts.Do s x c e
stmt_made (Stmt-F.For s a c b x) = ts.For s a c b x
stmt_made (Stmt-F.RangeFor s fixed t by_reference name range x) = ts.RangeFor s fixed t by_reference name range x
stmt_made (Stmt-F.Try s b name c) = ts.Try s b name c

stmt_made_roll : (y : StmtLayer) → stmt_made y ≡ roll-Stmt y
stmt_made_roll (Stmt-F.Compound b) = sym (ts.rolls-Compound b)
stmt_made_roll (Stmt-F.Null s) = sym (ts.rolls-Null s)
stmt_made_roll (Stmt-F.Declaration d) = sym (ts.rolls-Declaration d)
stmt_made_roll (Stmt-F.Expression x e) = sym (ts.rolls-Expression x e)
stmt_made_roll (Stmt-F.Print q xs e) = sym (ts.rolls-Print q xs e)
stmt_made_roll (Stmt-F.Break s e) = sym (ts.rolls-Break s e)
stmt_made_roll (Stmt-F.Continue s e) = sym (ts.rolls-Continue s e)
stmt_made_roll (Stmt-F.Return s x e) = sym (ts.rolls-Return s x e)
stmt_made_roll (Stmt-F.If s c x y) = sym (ts.rolls-If s c x y)
stmt_made_roll (Stmt-F.While s c x) = sym (ts.rolls-While s c x)
stmt_made_roll (Stmt-F.Do s x c e) = sym (ts.rolls-Do s x c e)
stmt_made_roll (Stmt-F.For s a c b x) = sym (ts.rolls-For s a c b x)
stmt_made_roll (Stmt-F.RangeFor s fixed t by_reference name range x) = sym (ts.rolls-RangeFor s fixed t by_reference name range x)
stmt_made_roll (Stmt-F.Try s b name c) = sym (ts.rolls-Try s b name c)

stmt_made_out : (x : Stmt) → stmt_made (out-Stmt x) ≡ x
stmt_made_out x = stmt_made_roll (out-Stmt x) ∙ roll-out-Stmt x

-- ---- the tables

operator_row : (o : Operator) → operator_of (codes (spelling o)) ≡ Some o
unfolding operator_of arithmetic_of comparison_of bitwise_of logical_of
operator_row (operator.Strict bin.Add) = refl
operator_row (operator.Strict bin.Sub) = refl
operator_row (operator.Strict bin.Mul) = refl
operator_row (operator.Strict bin.Div) = refl
operator_row (operator.Strict bin.Rem) = refl
operator_row (operator.Strict bin.Shl) = refl
operator_row (operator.Strict bin.Shr) = refl
operator_row (operator.Strict bin.And) = refl
operator_row (operator.Strict bin.Or) = refl
operator_row (operator.Strict bin.Xor) = refl
operator_row (operator.Strict bin.Eq) = refl
operator_row (operator.Strict bin.Ne) = refl
operator_row (operator.Strict bin.Lt) = refl
operator_row (operator.Strict bin.Le) = refl
operator_row (operator.Strict bin.Gt) = refl
operator_row (operator.Strict bin.Ge) = refl
operator_row operator.LogicalAnd = refl
operator_row operator.LogicalOr = refl

no_question : (o : Operator) → is_word row.Mark (codes "?") (word row.Mark (codes (spelling o))) ≡ false
no_question (operator.Strict bin.Add) = refl
no_question (operator.Strict bin.Sub) = refl
no_question (operator.Strict bin.Mul) = refl
no_question (operator.Strict bin.Div) = refl
no_question (operator.Strict bin.Rem) = refl
no_question (operator.Strict bin.Shl) = refl
no_question (operator.Strict bin.Shr) = refl
no_question (operator.Strict bin.And) = refl
no_question (operator.Strict bin.Or) = refl
no_question (operator.Strict bin.Xor) = refl
no_question (operator.Strict bin.Eq) = refl
no_question (operator.Strict bin.Ne) = refl
no_question (operator.Strict bin.Lt) = refl
no_question (operator.Strict bin.Le) = refl
no_question (operator.Strict bin.Gt) = refl
no_question (operator.Strict bin.Ge) = refl
no_question operator.LogicalAnd = refl
no_question operator.LogicalOr = refl

no_colons : (o : Operator) → is_word row.Mark (codes "::") (word row.Mark (codes (spelling o))) ≡ false
no_colons (operator.Strict bin.Add) = refl
no_colons (operator.Strict bin.Sub) = refl
no_colons (operator.Strict bin.Mul) = refl
no_colons (operator.Strict bin.Div) = refl
no_colons (operator.Strict bin.Rem) = refl
no_colons (operator.Strict bin.Shl) = refl
no_colons (operator.Strict bin.Shr) = refl
no_colons (operator.Strict bin.And) = refl
no_colons (operator.Strict bin.Or) = refl
no_colons (operator.Strict bin.Xor) = refl
no_colons (operator.Strict bin.Eq) = refl
no_colons (operator.Strict bin.Ne) = refl
no_colons (operator.Strict bin.Lt) = refl
no_colons (operator.Strict bin.Le) = refl
no_colons (operator.Strict bin.Gt) = refl
no_colons (operator.Strict bin.Ge) = refl
no_colons operator.LogicalAnd = refl
no_colons operator.LogicalOr = refl

pub level_bounds : (o : Operator) → (2 ≤ level o) × (level o ≤ 11)
level_bounds (operator.Strict bin.Add) = (omega arith, omega arith)
level_bounds (operator.Strict bin.Sub) = (omega arith, omega arith)
level_bounds (operator.Strict bin.Mul) = (omega arith, omega arith)
level_bounds (operator.Strict bin.Div) = (omega arith, omega arith)
level_bounds (operator.Strict bin.Rem) = (omega arith, omega arith)
level_bounds (operator.Strict bin.Shl) = (omega arith, omega arith)
level_bounds (operator.Strict bin.Shr) = (omega arith, omega arith)
level_bounds (operator.Strict bin.And) = (omega arith, omega arith)
level_bounds (operator.Strict bin.Or) = (omega arith, omega arith)
level_bounds (operator.Strict bin.Xor) = (omega arith, omega arith)
level_bounds (operator.Strict bin.Eq) = (omega arith, omega arith)
level_bounds (operator.Strict bin.Ne) = (omega arith, omega arith)
level_bounds (operator.Strict bin.Lt) = (omega arith, omega arith)
level_bounds (operator.Strict bin.Le) = (omega arith, omega arith)
level_bounds (operator.Strict bin.Gt) = (omega arith, omega arith)
level_bounds (operator.Strict bin.Ge) = (omega arith, omega arith)
level_bounds operator.LogicalAnd = (omega arith, omega arith)
level_bounds operator.LogicalOr = (omega arith, omega arith)

step_row : (o : Step) → step_of (codes (step_spelling o)) ≡ Some o
unfolding step_of
step_row step.Increment = refl
step_row step.Decrement = refl

unary_row : (o : UnOp) → (step_of (codes (unary_spelling o)) ≡ None) × (unary_of (codes (unary_spelling o)) ≡ Some o)
unfolding step_of unary_of
unary_row un.Plus = (refl, refl)
unary_row un.Minus = (refl, refl)
unary_row un.Not = (refl, refl)
unary_row un.Flip = (refl, refl)

tag_row : (t : AccessTag) → tag_of (codes (tag_spelling t)) ≡ Some t
unfolding tag_of
tag_row tag.ReadOnly = refl
tag_row tag.WriteOnly = refl
tag_row tag.ReadWrite = refl
tag_row tag.NoInit = refl

object_row : (f : FunctionObject) → (tag_of (codes (object_spelling f)) ≡ None) × (object_of (codes (object_spelling f)) ≡ Some f)
unfolding tag_of object_of
object_row fun.Plus = (refl, refl)
object_row fun.Multiplies = (refl, refl)
object_row fun.Minimum = (refl, refl)
object_row fun.Maximum = (refl, refl)
object_row fun.BitAnd = (refl, refl)
object_row fun.BitOr = (refl, refl)
object_row fun.BitXor = (refl, refl)

function_row : (f : LibraryFunction) → (tag_of (codes (function_spelling f)) ≡ None) × (object_of (codes (function_spelling f)) ≡ None) × (function_of (codes (function_spelling f)) ≡ Some f)
unfolding tag_of object_of function_of
function_row lib.Reduction = (refl, refl, refl)
function_row lib.ReduceOverGroup = (refl, refl, refl)
function_row lib.ExclusiveScanOverGroup = (refl, refl, refl)
function_row lib.InclusiveScanOverGroup = (refl, refl, refl)
function_row lib.GroupBroadcast = (refl, refl, refl)

assignment_row : (o : AssignmentOperator) → (assignment_of (codes (assignment_spelling o)) ≡ Some o) × (r.binds_by (codes (assignment_spelling o)) ≡ 0)
unfolding assignment_of r.binds_by operator_of arithmetic_of comparison_of bitwise_of logical_of
assignment_row asg.Assign = (refl, refl)
assignment_row asg.Add = (refl, refl)
assignment_row asg.Sub = (refl, refl)
assignment_row asg.Mul = (refl, refl)
assignment_row asg.Div = (refl, refl)
assignment_row asg.Rem = (refl, refl)
assignment_row asg.And = (refl, refl)
assignment_row asg.Or = (refl, refl)
assignment_row asg.Xor = (refl, refl)
assignment_row asg.Shl = (refl, refl)
assignment_row asg.Shr = (refl, refl)

-- ---- what stands first

pub mark_text_at : (text : List ℕ) {s : Spot} {from rest : List Token} → At (word row.Mark text) s from rest → mark_text from ≡ text
unfolding mark_text
mark_text_at text h = rw h.2 refl

pub advance_at : {w : Word} {s : Spot} {from rest : List Token} → At w s from rest → advance from ≡ Some (s, rest)
unfolding advance
advance_at h = rw h.2 refl

no_mark_text : (from : List Token) → sees_row row.Mark from ≡ false → mark_text from ≡ []
unfolding mark_text sees_row
no_mark_text [] e = refl
no_mark_text (t ∷ ts) e = rw e refl

other_row : (a b : Row) (from : List Token) → sees_row a from ≡ true → same_row a b ≡ false → sees_row b from ≡ false
unfolding sees_row
other_row a b [] h e = absurd cc
other_row a b (t ∷ ts) h e = ap (λ z. same_row z b) (same_row_is t.word.row a h) ∙ e

pub type_row : (from : List Token) → sees_type from ≡ true → sees_row row.Reserved from ≡ true
unfolding sees_type
type_row [] h = absurd cc
type_row (t ∷ ts) h = (and_both (sees_row row.Reserved (t ∷ ts)) (is_some (one_word_of t.word.text)) h).0

-- a word that such a tree doesn't begin with
pub begins_no : (f : Word → Bool) (r : Row) (text : List ℕ) → f (word r text) ≡ false → (from : List Token) → first f from ≡ true → sees r text from ≡ false
unfolding sees
begins_no f r text e [] h = absurd cc
begins_no f r text e (t ∷ ts) h = by (is_word r text t.word) refl
  where
    by : (b : Bool) → is_word r text t.word ≡ b → b ≡ false
    by false is = refl
    by true is = let clash : true ≡ false = sym h ∙ ap f (is_that r text t.word is) ∙ e in absurd cc

-- what binds a mark
pub binds_at : (text : List ℕ) {s : Spot} {from rest : List Token} → At (word row.Mark text) s from rest → r.binds from ≡ r.binds_by text
unfolding r.binds
binds_at text h = ap r.binds_by (mark_text_at text h)

-- a mark that doesn't go on with an expression
pub closes : (text : List ℕ) → r.binds_by text ≡ 0 → {s : Spot} {from rest : List Token} → At (word row.Mark text) s from rest → r.binds from < 1
closes text e h = omega (arith, binds_at text h, e)

pub comma_ends : (us ts : List Token) → Sees (mark ",") us ts → r.binds us < 1
unfolding mark r.binds_by operator_of arithmetic_of comparison_of bitwise_of logical_of
comma_ends us ts h = closes (codes ",") refl h.1

-- the marks that close, and those that go on with a primary expression

pub parenthesis_ends : {s : Spot} {us ts : List Token} → At (mark ")") s us ts → r.binds us < 1
unfolding mark r.binds_by operator_of arithmetic_of comparison_of bitwise_of logical_of
parenthesis_ends h = closes (codes ")") refl h

pub bracket_ends : {s : Spot} {us ts : List Token} → At (mark "]") s us ts → r.binds us < 1
unfolding mark r.binds_by operator_of arithmetic_of comparison_of bitwise_of logical_of
bracket_ends h = closes (codes "]") refl h

pub brace_ends : {s : Spot} {us ts : List Token} → At (mark "}") s us ts → r.binds us < 1
unfolding mark r.binds_by operator_of arithmetic_of comparison_of bitwise_of logical_of
brace_ends h = closes (codes "}") refl h

pub colon_ends : {s : Spot} {us ts : List Token} → At (mark ":") s us ts → r.binds us < 1
unfolding mark r.binds_by operator_of arithmetic_of comparison_of bitwise_of logical_of
colon_ends h = closes (codes ":") refl h

pub semicolon_ends : {s : Spot} {us ts : List Token} → At (mark ";") s us ts → r.binds us < 1
unfolding mark r.binds_by operator_of arithmetic_of comparison_of bitwise_of logical_of
semicolon_ends h = closes (codes ";") refl h

opening_binds : r.binds_by (codes "(") ≡ 13
unfolding mark r.binds_by operator_of arithmetic_of comparison_of bitwise_of logical_of
opening_binds = refl

subscript_binds : r.binds_by (codes "[") ≡ 13
unfolding mark r.binds_by operator_of arithmetic_of comparison_of bitwise_of logical_of
subscript_binds = refl

dot_binds : r.binds_by (codes ".") ≡ 13
unfolding mark r.binds_by operator_of arithmetic_of comparison_of bitwise_of logical_of
dot_binds = refl

colons_binds : r.binds_by (codes "::") ≡ 13
unfolding mark r.binds_by operator_of arithmetic_of comparison_of bitwise_of logical_of
colons_binds = refl

increment_binds : r.binds_by (codes "++") ≡ 13
unfolding mark r.binds_by operator_of arithmetic_of comparison_of bitwise_of logical_of
increment_binds = refl

decrement_binds : r.binds_by (codes "--") ≡ 13
unfolding mark r.binds_by operator_of arithmetic_of comparison_of bitwise_of logical_of
decrement_binds = refl

question_binds : r.binds_by (codes "?") ≡ 1
unfolding mark r.binds_by operator_of arithmetic_of comparison_of bitwise_of logical_of
question_binds = refl

operator_binds : (o : Operator) {s : Spot} {from rest : List Token} → At (mark (spelling o)) s from rest → r.binds from ≡ level o
unfolding mark r.binds_by
operator_binds o h = binds_at (codes (spelling o)) h ∙ ap (λ x. r.binds_as x (codes (spelling o))) (operator_row o)

-- a mark that binds as a postfix doesn't follow where less binds
binds_no : (text : List ℕ) → r.binds_by text ≡ 13 → (from : List Token) → r.binds from < 13 → sees row.Mark text from ≡ false
binds_no text e from lt = by (sees row.Mark text from) refl
  where
    by : (b : Bool) → sees row.Mark text from ≡ b → b ≡ false
    by false is = refl
    by true is = let at = seen row.Mark text from is in absurd (omega (arith, lt, e, binds_at text at.1))

-- ---- edges: what binds less than this goes on with no expression inside the tree

abbrev pub edge : ExprLayer → ℕ
edge (Expr-F.Prefix s o a) = 12
edge (Expr-F.Unary s o a) = 12
edge (Expr-F.Cast s t a) = 12
edge (Expr-F.Binary a s o b) = level o + 1
edge (Expr-F.Conditional a s b c) = 1
edge _ = 13

edge_most : (y : ExprLayer) → edge y ≤ 13
edge_most (Expr-F.Prefix s o a) = omega arith
edge_most (Expr-F.Unary s o a) = omega arith
edge_most (Expr-F.Cast s t a) = omega arith
edge_most (Expr-F.Binary a s o b) = omega (arith, level_bounds o)
edge_most (Expr-F.Conditional a s b c) = omega arith
edge_most _ = omega arith

edge_above : (S : Rule Node) (b l : ℕ) (y : ExprLayer) (from rest : List Token) → ExprRule S l y from rest → l ≤ 13 → b < l → b < edge y
edge_above S b l (Expr-F.Prefix s o a) from rest d top lt = omega (arith, d.0)
edge_above S b l (Expr-F.Unary s o a) from rest d top lt = omega (arith, d.0)
edge_above S b l (Expr-F.Cast s t a) from rest d top lt = omega (arith, d.0)
edge_above S b l (Expr-F.Binary a s o c) from rest d top lt = omega (arith, d.0)
edge_above S b l (Expr-F.Conditional a s c e) from rest d top lt = omega (arith, d.0)
edge_above S b l _ from rest d top lt = omega arith

edge_left : (S : Rule Node) (b l : ℕ) (y : ExprLayer) (from rest : List Token) → ExprRule S l y from rest → b ≤ l → 2 ≤ l → l ≤ 11 → b < edge y
edge_left S b l (Expr-F.Prefix s o a) from rest d le low top = omega arith
edge_left S b l (Expr-F.Unary s o a) from rest d le low top = omega arith
edge_left S b l (Expr-F.Cast s t a) from rest d le low top = omega arith
edge_left S b l (Expr-F.Binary a s o c) from rest d le low top = omega (arith, d.0)
edge_left S b l (Expr-F.Conditional a s c e) from rest d le low top = absurd (omega (arith, d.0))
edge_left S b l _ from rest d le low top = omega arith

left_ends : (m l : ℕ) (a : Expr) (from rest : List Token) → Derives m (an_expr l a) from rest → r.binds rest ≤ l → 2 ≤ l → l ≤ 11 → r.binds rest < edge (out-Expr a)
unfolding Derives
left_ends zero l a from rest d b low top = absurd d
left_ends (suc m) l a from rest d b low top = edge_left (Derives m) (r.binds rest) l (out-Expr a) from rest d b low top

pub ends_there : (m l : ℕ) (x : Expr) (from rest : List Token) → l ≤ 13 → Derives m (an_expr l x) from rest → r.binds rest < l → r.binds rest < edge (out-Expr x)
unfolding Derives
ends_there zero l x from rest top d lt = absurd d
ends_there (suc m) l x from rest top d lt = edge_above (Derives m) (r.binds rest) l (out-Expr x) from rest d top lt

-- ---- where an expression begins with a type, a parenthesis follows the word

-- a type begins, and no functional cast
abbrev pub bare_type : List Token → Bool
bare_type ts = sees_type ts && not (sees row.Mark (codes "(") (next ts))

no_type_at : {w : Word} {s : Spot} {from rest : List Token} → At w s from rest → (same_row w.row row.Reserved && is_some (one_word_of w.text)) ≡ false → bare_type from ≡ false
unfolding sees_type sees_row
no_type_at h e = rw (h.2, e) refl

opening_less : (b : Brackets) {s : Spot} {from rest : List Token} → At (mark (opening b)) s from rest → sees row.Mark (codes "<") from ≡ false
unfolding mark
opening_less brackets.Parentheses h = sees_other row.Mark (codes "<") h refl
opening_less brackets.Braces h = sees_other row.Mark (codes "<") h refl

-- an object's type begins with the namespace
pub object_at : (t : ObjectType) (from rest : List Token) → Object t from rest → (s : Spot) × (m k : List Token) × At (identifier "sycl") s from m × Sees (mark "::") m k
object_at (object.Queue q) from rest h = (q.namespace, h.0, h.1, h.2, h.3)
object_at (object.Device q) from rest h = (q.namespace, h.0, h.1, h.2, h.3)
object_at (object.Context q) from rest h = (q.namespace, h.0, h.1, h.2, h.3)
object_at (object.Event q) from rest h = (q.namespace, h.0, h.1, h.2, h.3)
object_at (object.Accessor q) from rest h = (q.namespace, h.0, h.1, h.2, h.3)
object_at (object.HostAccessor q) from rest h = (q.namespace, h.0, h.1, h.2, h.3)
object_at (object.LocalAccessor q x) from rest h = (q.namespace, h.1.0, h.1.1, h.1.2, h.1.3)
object_at (object.Buffer q x) from rest h = (q.namespace, h.1.0, h.1.1, h.1.2, h.1.3)
object_at (object.Range q x) from rest h = (q.namespace, h.1.0, h.1.1, h.1.2, h.1.3)
object_at (object.Id q x) from rest h = (q.namespace, h.1.0, h.1.1, h.1.2, h.1.3)
object_at (object.NdRange q x) from rest h = (q.namespace, h.1.0, h.1.1, h.1.2, h.1.3)

typed_layer : (S : Rule Node) → ((l : ℕ) (x : Expr) (from rest : List Token) → S (an_expr l x) from rest → bare_type from ≡ false) →
    (l : ℕ) (y : ExprLayer) (from rest : List Token) → ExprRule S l y from rest → bare_type from ≡ false
unfolding mark keyword identifier one_word_of keyword_of fixed_width_of
typed_layer S f l (Expr-F.Integer x) from rest h = no_type_at h refl
typed_layer S f l (Expr-F.Character x) from rest h = no_type_at h refl
typed_layer S f l (Expr-F.Boolean s true) from rest h = no_type_at h refl
typed_layer S f l (Expr-F.Boolean s false) from rest h = no_type_at h refl
typed_layer S f l (Expr-F.Name x) from rest h = no_type_at h refl
typed_layer S f l (Expr-F.Call g xs e) from rest h = no_type_at h.3 refl
typed_layer S f l (Expr-F.Parenthesized s x e) from rest h = no_type_at h.2 refl
typed_layer S f l (Expr-F.StaticCast s t x e) from rest h = no_type_at h.6 refl
typed_layer S f l (Expr-F.FunctionalCast t x e) from rest h = rw (ap next h.3.1.1, sees_at row.Mark (codes "(") h.4.1) (and_no (sees_type from))
typed_layer S f l (Expr-F.Construct t b s xs e) from rest h = no_type_at (object_at t from h.0 h.1).3 refl
typed_layer S f l (Expr-F.GroupBarrier q x e) from rest h = no_type_at h.3.2 refl
typed_layer S f l (Expr-F.AccessTag q t) from rest h = no_type_at h.2 refl
typed_layer S f l (Expr-F.InOrder q b e) from rest h = no_type_at h.6.2 refl
typed_layer S f l (Expr-F.ErrorCode q x) from rest h = no_type_at h.2.2 refl
typed_layer S f l (Expr-F.InitializeToIdentity q b e) from rest h = no_type_at h.6.2 refl
typed_layer S f l (Expr-F.FunctionObject q o t b e) from rest h = no_type_at h.5.2 refl
typed_layer S f l (Expr-F.LibraryCall q g xs e) from rest h = no_type_at h.3.2 refl
typed_layer S f l (Expr-F.Subscript a s x e) from rest h = f 13 a from h.0 h.3
typed_layer S f l (Expr-F.MemberCall a x t xs e) from rest h = f 13 a from h.0 h.6
typed_layer S f l (Expr-F.Postfix a s o) from rest h = f 13 a from h.0 h.1
typed_layer S f l (Expr-F.Prefix s o a) from rest h = no_type_at h.1.1 refl
typed_layer S f l (Expr-F.Unary s o a) from rest h = no_type_at h.1.1 refl
typed_layer S f l (Expr-F.Cast s t a) from rest h = no_type_at h.1.3 refl
typed_layer S f l (Expr-F.Binary a s o b) from rest h = f (level o) a from h.1.0 h.1.2
typed_layer S f l (Expr-F.Conditional a s b c) from rest h = f 2 a from h.1.0 h.1.4

pub typed_call : (n l : ℕ) (x : Expr) (from rest : List Token) → Derives n (an_expr l x) from rest → bare_type from ≡ false
unfolding Derives
typed_call zero l x from rest d = absurd d
typed_call (suc n) l x from rest d = typed_layer (Derives n) (typed_call n) l (out-Expr x) from rest d

-- ---- an expression declares nothing

-- neither a name of `std` nor an object's declaration comes next
abbrev pub NoDeclaration : List Token → Type 0
NoDeclaration ts = (sees_namespace (codes "std") ts ≡ false) × (declares_object ts ≡ false)

no_namespace : (space : List ℕ) (from : List Token) → sees_namespace space from ≡ false → expect_name space from ≡ None
unfolding sees_namespace sees expect_name expect
no_namespace space [] e = refl
no_namespace space (t ∷ ts) e = by (is_word row.Ident space t.word) refl
  where
    second : (us : List Token) → sees row.Mark (codes "::") us ≡ false → expect row.Mark (codes "::") us ≡ None
    second [] e = refl
    second (u ∷ us) e = rw e refl

    by : (b : Bool) → is_word row.Ident space t.word ≡ b → expect_name space (t ∷ ts) ≡ None
    by false is = rw is refl
    by true is = rw (is, second ts (sym (ap (λ b. b && sees row.Mark (codes "::") ts) is) ∙ e)) refl

no_names : (from : List Token) → sees_namespace (codes "std") from ≡ false → sees_namespace (codes "sycl") from ≡ false → NoDeclaration from
unfolding declares_object object_type
no_names from a b = (a, rw (no_namespace (codes "sycl") from b) refl)

front_other : {w : Word} {s : Spot} {from rest : List Token} → At w s from rest → is_word row.Ident (codes "std") w ≡ false → is_word row.Ident (codes "sycl") w ≡ false → NoDeclaration from
unfolding sees_namespace
front_other {from = from} h a b = no_names from (rw (sees_other row.Ident (codes "std") h a) refl) (rw (sees_other row.Ident (codes "sycl") h b) refl)

front_name : {w : Word} {s : Spot} {from rest : List Token} → At w s from rest → sees row.Mark (codes "::") rest ≡ false → NoDeclaration from
unfolding sees_namespace
front_name {from = from} h e =
    no_names from (rw (next_at h, e) (and_no (sees row.Ident (codes "std") from))) (rw (next_at h, e) (and_no (sees row.Ident (codes "sycl") from)))

front_library : (w : String) (q : Qualified) (from m : List Token) → Sycl w q from m → object_by q (codes w) m ≡ None → NoDeclaration from
unfolding sees_namespace declares_object object_type identifier
front_library w q from m h e = (rw (sees_other row.Ident (codes "std") h.2 refl) refl, rw (sycl_read w q from m h, e) refl)

tag_no_object : (t : AccessTag) (q : Qualified) (m : List Token) → object_by q (codes (tag_spelling t)) m ≡ None
unfolding object_by plain_object_of template_object
tag_no_object tag.ReadOnly q m = refl
tag_no_object tag.WriteOnly q m = refl
tag_no_object tag.ReadWrite q m = refl
tag_no_object tag.NoInit q m = refl

function_object_no_object : (f : FunctionObject) (q : Qualified) (m : List Token) → object_by q (codes (object_spelling f)) m ≡ None
unfolding object_by plain_object_of template_object
function_object_no_object fun.Plus q m = refl
function_object_no_object fun.Multiplies q m = refl
function_object_no_object fun.Minimum q m = refl
function_object_no_object fun.Maximum q m = refl
function_object_no_object fun.BitAnd q m = refl
function_object_no_object fun.BitOr q m = refl
function_object_no_object fun.BitXor q m = refl

call_no_object : (f : LibraryFunction) (q : Qualified) (m : List Token) → object_by q (codes (function_spelling f)) m ≡ None
unfolding object_by plain_object_of template_object
call_no_object lib.Reduction q m = refl
call_no_object lib.ReduceOverGroup q m = refl
call_no_object lib.ExclusiveScanOverGroup q m = refl
call_no_object lib.InclusiveScanOverGroup q m = refl
call_no_object lib.GroupBroadcast q m = refl

front_construct : (t : ObjectType) (b : Brackets) {s : Spot} (from i rest : List Token) → Object t from i → At (mark (opening b)) s i rest → NoDeclaration from
unfolding sees_namespace declares_object identifier mark
front_construct t brackets.Parentheses from i rest o h =
    (rw (sees_other row.Ident (codes "std") (object_at t from i o).3 refl) refl, rw (object_read t from i (sees_other row.Mark (codes "<") h refl) o) (row_at row.Ident false h refl))
front_construct t brackets.Braces from i rest o h =
    (rw (sees_other row.Ident (codes "std") (object_at t from i o).3 refl) refl, rw (object_read t from i (sees_other row.Mark (codes "<") h refl) o) (row_at row.Ident false h refl))

front_reserved : (from : List Token) → sees_row row.Reserved from ≡ true → NoDeclaration from
unfolding sees_namespace
front_reserved from h =
    let ident = other_row row.Reserved row.Ident from h refl in
    no_names from (rw (no_row row.Ident (codes "std") from ident) refl) (rw (no_row row.Ident (codes "sycl") from ident) refl)

front_layer : (S : Rule Node) → ((l : ℕ) (x : Expr) (from rest : List Token) → S (an_expr l x) from rest → sees row.Mark (codes "::") rest ≡ false → NoDeclaration from) →
    (l : ℕ) (y : ExprLayer) (from rest : List Token) → ExprRule S l y from rest → sees row.Mark (codes "::") rest ≡ false → NoDeclaration from
unfolding mark keyword object_by plain_object_of template_object
front_layer S f l (Expr-F.Integer x) from rest h e = front_other h refl refl
front_layer S f l (Expr-F.Character x) from rest h e = front_other h refl refl
front_layer S f l (Expr-F.Boolean s true) from rest h e = front_other h refl refl
front_layer S f l (Expr-F.Boolean s false) from rest h e = front_other h refl refl
front_layer S f l (Expr-F.Name x) from rest h e = front_name h e
front_layer S f l (Expr-F.Call g xs c) from rest h e = front_name h.3 (sees_other row.Mark (codes "::") h.4.1 refl)
front_layer S f l (Expr-F.Parenthesized s x c) from rest h e = front_other h.2 refl refl
front_layer S f l (Expr-F.StaticCast s t x c) from rest h e = front_other h.6 refl refl
front_layer S f l (Expr-F.FunctionalCast t x c) from rest h e = front_reserved from (type_row from (integral_type t from h.0 h.3.0))
front_layer S f l (Expr-F.Construct t b s xs c) from rest h e = front_construct t b from h.0 h.2.0 h.1 h.2.2
front_layer S f l (Expr-F.GroupBarrier q x c) from rest h e = front_library "group_barrier" q from h.0 h.3 refl
front_layer S f l (Expr-F.AccessTag q t) from rest h e = front_library (tag_spelling t) q from rest h (tag_no_object t q rest)
front_layer S f l (Expr-F.InOrder q b c) from rest h e = front_library "property" q from h.0 h.6 refl
front_layer S f l (Expr-F.ErrorCode q x) from rest h e = front_library "errc" q from h.0 h.2 refl
front_layer S f l (Expr-F.InitializeToIdentity q b c) from rest h e = front_library "property" q from h.0 h.6 refl
front_layer S f l (Expr-F.FunctionObject q o t b c) from rest h e = front_library (object_spelling o) q from h.0 h.5 (function_object_no_object o q h.0)
front_layer S f l (Expr-F.LibraryCall q g xs c) from rest h e = front_library (function_spelling g) q from h.0 h.3 (call_no_object g q h.0)
front_layer S f l (Expr-F.Subscript a s x c) from rest h e = f 13 a from h.0 h.3 (sees_other row.Mark (codes "::") h.4 refl)
front_layer S f l (Expr-F.MemberCall a x t xs c) from rest h e = f 13 a from h.0 h.6 (sees_other row.Mark (codes "::") h.7.1 refl)
front_layer S f l (Expr-F.Postfix a s step.Increment) from rest h e = f 13 a from h.0 h.1 (sees_other row.Mark (codes "::") h.2 refl)
front_layer S f l (Expr-F.Postfix a s step.Decrement) from rest h e = f 13 a from h.0 h.1 (sees_other row.Mark (codes "::") h.2 refl)
front_layer S f l (Expr-F.Prefix s o a) from rest h e = front_other h.1.1 refl refl
front_layer S f l (Expr-F.Unary s o a) from rest h e = front_other h.1.1 refl refl
front_layer S f l (Expr-F.Cast s t a) from rest h e = front_other h.1.3 refl refl
front_layer S f l (Expr-F.Binary a s o b) from rest h e = f (level o) a from h.1.0 h.1.2 (sees_other row.Mark (codes "::") h.1.3 (no_colons o))
front_layer S f l (Expr-F.Conditional a s b c) from rest h e = f 2 a from h.1.0 h.1.4 (sees_other row.Mark (codes "::") h.1.5 refl)

pub no_declaration : (n l : ℕ) (x : Expr) (from rest : List Token) → Derives n (an_expr l x) from rest → sees row.Mark (codes "::") rest ≡ false → NoDeclaration from
unfolding Derives
no_declaration zero l x from rest d e = absurd d
no_declaration (suc n) l x from rest d e = front_layer (Derives n) (no_declaration n) l (out-Expr x) from rest d e

-- ---- blocks and lambdas, where a statement of a height of at most n is read

module _ (sub : ℕ → Reader (WithHeight Expr)) (stmt : Reader (WithHeight Stmt)) (n : ℕ) (small : n < 64)
    (whole_stmt : (m : ℕ) (x : Stmt) (from rest : List Token) → m ≤ n → Derives m (a_stmt x) from rest → ReadsAs (stmt from) m x rest) where
  -- after the statements xs of a height of at most h
  statements_read : (m : ℕ) → m ≤ n → (t h : ℕ) (xs ys : List Stmt) (e : Spot) (from mid rest : List Token) → h ≤ m → length from ≤ t →
      Each (Substatement (Derives m)) ys from mid → At (mark "}") e mid rest → ReadsAs (r.statements sub stmt t xs h from) m (xs ++ ys) mid
  unfolding r.statements mark
  statements_read m le zero h xs [] e from mid rest lh lt d c = absurd (omega (arith, lt, ap length d, at_length c))
  statements_read m le zero h xs (x ∷ more) e from mid rest lh lt d c =
      let p = Derives-takes m (a_stmt x) from d.0 d.1 in absurd (omega (arith, lt, p.enough, p.within))
  statements_read m le (suc t) h xs [] e from mid rest lh lt d c = (h, lh, rw (d, sees_at row.Mark (codes "}") c, append-nil xs) refl)
  statements_read m le (suc t) h xs (x ∷ more) e from mid rest lh lt d c =
      let p = Derives-takes m (a_stmt x) from d.0 d.1 in
      let no = begins_no (opens (a_stmt x)) row.Mark (codes "}") refl from (Derives-begins m (a_stmt x) from d.0 d.1) in
      let first = whole_stmt m x from d.0 le d.1 in
      let shorter : length d.0 ≤ t = omega (arith, lt, ap length p.is, length-drop p.taken from, p.enough, p.within) in
      let others = statements_read m le t (max h first.0) (xs ++ x ∷ []) more e d.0 mid rest (omega (arith, lh, first.1)) shorter d.2 c in
      (others.0, others.1, rw (no, first.2, others.2, append_assoc xs (x ∷ []) more) refl)

  pub block_read : (m : ℕ) → m ≤ suc n → (b : Block) (from rest : List Token) → Derives m (a_block b) from rest → ReadsAs (r.one_block sub stmt from) m b rest
  unfolding r.one_block Derives mark
  block_read zero le b from rest d = absurd d
  block_read (suc m) le b from rest d =
      let low : m ≤ n = omega arith in
      let all = statements_read m low (length d.0) 0 [] (out-Block b).statements (out-Block b).close d.0 d.1 rest (omega arith) (omega arith) d.3 d.4 in
      let lt : all.0 < 64 = omega (arith, all.1, small, low) in
      subst (λ z. ReadsAs (r.one_block sub stmt from) (suc m) z rest) (roll-out-Block b)
      (all.0 + 1, omega (arith, all.1), rw (expect_at row.Mark (codes "{") d.2, all.2, expect_at row.Mark (codes "}") d.4, grows {A = Block} _ _ _ lt) refl)

  pub lambda_read : (m : ℕ) → m ≤ suc n → (l : Lambda) (from rest : List Token) → Derives m (a_lambda l) from rest → ReadsAs (r.one_lambda sub stmt from) m l rest
  unfolding r.one_lambda Derives mark
  lambda_read zero le l from rest d = absurd d
  lambda_read (suc m) le l from rest d =
      let low : m ≤ n = omega arith in
      let cs = captures_read (out-Lambda l).captures d.0 d.1 d.2 d.5 d.6 in
      let no = begins_no (opens (a_block (out-Lambda l).body)) row.Mark (codes "(") refl d.3 (Derives-begins m (a_block (out-Lambda l).body) d.3 rest d.8) in
      let b = block_read m (omega arith) (out-Lambda l).body d.3 rest d.8 in
      let lt : b.0 < 64 = omega (arith, b.1, small, low) in
      subst (λ z. ReadsAs (r.one_lambda sub stmt from) (suc m) z rest) (roll-out-Lambda l) (
        b.0 + 1,
        omega (arith, b.1),
        rw (
          expect_at row.Mark (codes "[") d.4,
          cs.2,
          expect_at row.Mark (codes "]") d.6.1,
          maybe_parameters_read (out-Lambda l).parameters d.2 d.3 no d.7,
          b.2,
          grows {A = Lambda} _ _ _ lt,
        ) refl,
      )

-- ---- arguments and primary expressions, where all of a height of at most n is read

ways_construct : (sub : ℕ → Reader (WithHeight Expr)) (stmt : Reader (WithHeight Stmt)) → OfNames (λ text. (q : Qualified) (m : List Token) → r.library_by sub stmt q text m ≡ r.construct sub stmt q text m)
unfolding r.library_by r.other_name tag_of object_of function_of
ways_construct sub stmt = (λ q m. refl, λ q m. refl, λ q m. refl, λ q m. refl, λ q m. refl, λ q m. refl, λ q m. refl, λ q m. refl, λ q m. refl, λ q m. refl, λ q m. refl)

lambda_at : (m : ℕ) (l : Lambda) (from rest : List Token) → Derives m (a_lambda l) from rest → (s : Spot) × (k : List Token) × At (mark "[") s from k
unfolding Derives
lambda_at zero l from rest d = absurd d
lambda_at (suc m) l from rest d = ((out-Lambda l).spot, d.0, d.4)

module _ (sub : ℕ → Reader (WithHeight Expr)) (stmt : Reader (WithHeight Stmt)) (n : ℕ) (small : n < 64)
    (whole_stmt : (m : ℕ) (x : Stmt) (from rest : List Token) → m ≤ n → Derives m (a_stmt x) from rest → ReadsAs (stmt from) m x rest)
    (whole : (m l : ℕ) (x : Expr) (from rest : List Token) → m ≤ n → l ≤ 13 → Derives m (an_expr l x) from rest → r.binds rest < l → ReadsAs (sub l from) m x rest) where
  -- what doesn't go on with an expression
  abbrev pub Ended : List Token → Type 0
  Ended ts = r.binds ts < 1

  expr_short : (m : ℕ) (x : Expr) (from rest : List Token) → AnyExpr (Derives m) x from rest → length rest ≤ length from
  expr_short m x from rest d = passed (Derives-takes m (an_expr 1 x) from rest d)

  pub any_read : (m : ℕ) → m ≤ n → (x : Expr) (from rest : List Token) → AnyExpr (Derives m) x from rest → Ended rest → ReadsAs (sub 1 from) m x rest
  any_read m le x from rest d e = whole m 1 x from rest le (omega arith) d e

  exprs_read : (m : ℕ) → m ≤ n → (xs : List Expr) (e : Spot) (from mid rest : List Token) → MaybeListed (AnyExpr (Derives m)) xs from mid → At (mark ")") e mid rest →
      ReadsAs (maybe_comma_list (sub 1) (codes ")") from) m xs mid
  unfolding mark
  exprs_read m le xs e from mid rest d c =
      maybe_comma_list_read (sub 1) (AnyExpr (Derives m)) m Ended (expr_short m) (any_read m le) comma_ends (codes ")") xs from mid
      (λ x us ts h. begins_no opens_expr row.Mark (codes ")") refl us (Derives-begins m (an_expr 1 x) us ts h))
      (omega (arith, at_length c)) d (parenthesis_ends c) (sees_other row.Mark (codes ",") c refl) (sees_at row.Mark (codes ")") c)

  -- ---- arguments

  argument_short : (m : ℕ) (a : Argument) (from rest : List Token) → OneArgument (Derives m) a from rest → length rest ≤ length from
  argument_short m a from rest d = by (out-Argument a) d
    where
      by : (y : ArgumentLayer) → ArgumentRule (Derives m) y from rest → length rest ≤ length from
      by (Argument-F.Value x) d = expr_short m x from rest d
      by (Argument-F.Braced s xs e) d = omega (arith, at_length d.2, list_short (AnyExpr (Derives m)) (expr_short m) xs d.0 d.1 d.3, at_length d.4)
      by (Argument-F.Lambda l) d = passed (Derives-takes m (a_lambda l) from rest d)

  argument_layer : (m : ℕ) → m ≤ n → (y : ArgumentLayer) (from rest : List Token) → ArgumentRule (Derives m) y from rest → Ended rest → ReadsAs (r.one_argument sub stmt from) m (argued y) rest
  unfolding r.one_argument r.braced_list mark
  argument_layer m le (Argument-F.Value x) from rest d e =
      let begins = Derives-begins m (an_expr 1 x) from rest d in
      let v = any_read m le x from rest d e in
      (v.0, v.1, rw (begins_no opens_expr row.Mark (codes "{") refl from begins, begins_no opens_expr row.Mark (codes "[") refl from begins, v.2) refl)
  argument_layer m le (Argument-F.Braced s xs e) from rest d ends =
      let all = comma_list_read (sub 1) (AnyExpr (Derives m)) m Ended (expr_short m) (any_read m le) comma_ends xs d.0 d.1
      (omega (arith, at_length d.4)) d.3 (brace_ends d.4) (sees_other row.Mark (codes ",") d.4 refl) in
      (all.0, all.1, rw (sees_at row.Mark (codes "{") d.2, expect_at row.Mark (codes "{") d.2, all.2, expect_at row.Mark (codes "}") d.4) refl)
  argument_layer m le (Argument-F.Lambda l) from rest d ends =
      let at = lambda_at m l from rest d in
      let v = lambda_read sub stmt n small whole_stmt m (omega arith) l from rest d in
      (v.0, v.1, rw (sees_other row.Mark (codes "{") at.2 refl, sees_at row.Mark (codes "[") at.2, v.2) refl)

  argument_read : (m : ℕ) → m ≤ n → (a : Argument) (from rest : List Token) → OneArgument (Derives m) a from rest → Ended rest → ReadsAs (r.one_argument sub stmt from) m a rest
  argument_read m le a from rest d e = subst (λ z. ReadsAs (r.one_argument sub stmt from) m z rest) (argued_out a) (argument_layer m le (out-Argument a) from rest d e)

  -- a mark that no argument begins with
  argument_begins : (m : ℕ) (close : List ℕ) → opens_expr (word row.Mark close) ≡ false → is_word row.Mark close (word row.Mark (codes "{")) ≡ false →
      is_word row.Mark close (word row.Mark (codes "[")) ≡ false → (a : Argument) (from rest : List Token) → OneArgument (Derives m) a from rest → sees row.Mark close from ≡ false
  unfolding mark
  argument_begins m close p q v a from rest d = by (out-Argument a) d
    where
      by : (y : ArgumentLayer) → ArgumentRule (Derives m) y from rest → sees row.Mark close from ≡ false
      by (Argument-F.Value x) d = begins_no opens_expr row.Mark close p from (Derives-begins m (an_expr 1 x) from rest d)
      by (Argument-F.Braced s xs e) d = sees_other row.Mark close d.2 q
      by (Argument-F.Lambda l) d = sees_other row.Mark close (lambda_at m l from rest d).2 v

  -- list(arg)?, up to a bracket that closes
  pub arguments_read : (m : ℕ) → m ≤ n → (b : Brackets) (xs : List Argument) (e : Spot) (from mid rest : List Token) → MaybeListed (OneArgument (Derives m)) xs from mid → At (mark (closing b)) e mid rest →
      ReadsAs (r.arguments sub stmt (closing_text b) from) m xs mid
  unfolding r.arguments mark
  arguments_read m le brackets.Parentheses xs e from mid rest d c =
      maybe_comma_list_read (r.one_argument sub stmt) (OneArgument (Derives m)) m Ended (argument_short m) (argument_read m le) comma_ends (codes ")") xs from mid
      (argument_begins m (codes ")") refl refl refl) (omega (arith, at_length c)) d (parenthesis_ends c) (sees_other row.Mark (codes ",") c refl) (sees_at row.Mark (codes ")") c)
  arguments_read m le brackets.Braces xs e from mid rest d c =
      maybe_comma_list_read (r.one_argument sub stmt) (OneArgument (Derives m)) m Ended (argument_short m) (argument_read m le) comma_ends (codes "}") xs from mid
      (argument_begins m (codes "}") refl refl refl) (omega (arith, at_length c)) d (brace_ends c) (sees_other row.Mark (codes ",") c refl) (sees_at row.Mark (codes "}") c)

  -- list(arg), up to `)`
  pub argument_list_read : (m : ℕ) → m ≤ n → (xs : List Argument) (e : Spot) (from mid rest : List Token) → Listed (OneArgument (Derives m)) xs from mid → At (mark ")") e mid rest →
      ReadsAs (comma_list (r.one_argument sub stmt) from) m xs mid
  unfolding mark
  argument_list_read m le xs e from mid rest d c =
      comma_list_read (r.one_argument sub stmt) (OneArgument (Derives m)) m Ended (argument_short m) (argument_read m le) comma_ends xs from mid
      (omega (arith, at_length c)) d (parenthesis_ends c) (sees_other row.Mark (codes ",") c refl)

  parenthesis_read : (m : ℕ) → m ≤ n → (x : Expr) (e : Spot) (from i k rest : List Token) → Sees (mark "(") from i → AnyExpr (Derives m) x i k → At (mark ")") e k rest →
      (h : ℕ) × (h ≤ m) × (r.parenthesis sub stmt from ≡ Some (((x, h), e), rest))
  unfolding r.parenthesis mark
  parenthesis_read m le x e from i k rest a d c =
      let v = any_read m le x i k d (parenthesis_ends c) in
      (v.0, v.1, rw (expect_at row.Mark (codes "(") a.1, v.2, expect_at row.Mark (codes ")") c) refl)

  -- ---- which reader of a primary expression it is

  abbrev Begun : List Token → Type 0
  Begun from = r.prefix sub stmt from ≡ r.whole_postfix sub stmt from

  plain : (from : List Token) → sees_row row.Mark from ≡ false → Begun from
  unfolding r.prefix r.cast_or_postfix r.sees_cast step_of unary_of
  plain from e = rw (no_mark_text from e, no_row row.Mark (codes "(") from e) refl

  in_parentheses : {s : Spot} {from m : List Token} → At (mark "(") s from m → bare_type m ≡ false → Begun from
  unfolding r.prefix r.cast_or_postfix r.sees_cast step_of unary_of mark
  in_parentheses h e = rw (mark_text_at (codes "(") h, sees_at row.Mark (codes "(") h, next_at h, e) refl

  name_first : (x : Lexeme) (from m : List Token) → Lexed row.Ident x from m → sees row.Mark (codes "::") m ≡ false → r.primary sub stmt from ≡ r.named_primary sub stmt from
  unfolding r.primary sees_namespace
  name_first x from m h e =
      rw (row_at row.Int false h refl, row_at row.Char false h refl, row_at row.Reserved false h refl, sees_other row.Mark (codes "(") h refl, next_at h, e, and_no (sees row.Ident (codes "sycl") from)) refl

  reserved_first : (from : List Token) → sees_row row.Reserved from ≡ true → r.primary sub stmt from ≡ r.reserved_primary sub stmt from
  unfolding r.primary
  reserved_first from h = rw (other_row row.Reserved row.Int from h refl, other_row row.Reserved row.Char from h refl, h) refl

  library_first : {s : Spot} {from m k : List Token} → At (identifier "sycl") s from m → Sees (mark "::") m k → r.primary sub stmt from ≡ r.library sub stmt from
  unfolding r.primary identifier mark
  library_first h c =
      rw (row_at row.Int false h refl, row_at row.Char false h refl, row_at row.Reserved false h refl, sees_other row.Mark (codes "(") h refl, namespace_at (codes "sycl") h c.1) refl

  library_at : (w : String) (q : Qualified) (from m : List Token) → Sycl w q from m → r.primary sub stmt from ≡ r.library_by sub stmt q (codes w) m
  unfolding r.library
  library_at w q from m h = library_first h.2 h.3 ∙ rw (sycl_read w q from m h) refl

  library_plain : {s : Spot} {from m : List Token} → At (identifier "sycl") s from m → Begun from
  unfolding identifier
  library_plain {from = from} h = plain from (row_at row.Mark false h refl)

  maybe_integral_read : (t : Option IntegerType) (from m rest : List Token) → Optional Integral t from m → Sees (mark ">") m rest → r.maybe_integral sub stmt from ≡ Some (t, m)
  unfolding r.maybe_integral mark
  maybe_integral_read None from m rest h c = rw (h, sees_at row.Mark (codes ">") c.1) refl
  maybe_integral_read (Some t) from m rest h c =
      rw (no_row row.Mark (codes ">") from (other_row row.Reserved row.Mark from (type_row from (integral_type t from m h)) refl), integral_read t from m (row_at row.Reserved false c.1 refl) h) refl

  -- ---- what is read up to the end of a postfix expression, with the turns that are left

  abbrev PostfixTo : ℕ → Expr → List Token → List Token → Type 0
  PostfixTo m x from rest = (h k : ℕ) × (h ≤ m) × (65 ≤ k + h) × (r.prefix sub stmt from ≡ r.postfixes sub stmt k (x, h) rest)

  based : (m h : ℕ) (x : Expr) (from rest : List Token) → h ≤ m → Begun from → r.primary sub stmt from ≡ Some ((x, h), rest) → PostfixTo m x from rest
  unfolding r.whole_postfix
  based m h x from rest le b e = (h, 65, le, omega arith, b ∙ rw e refl)

  one_postfix : (k : ℕ) (a b : WithHeight Expr) (us ts : List Token) → r.binds us ≡ 13 → r.postfix sub stmt a us ≡ Some (b, ts) → r.postfixes sub stmt (suc k) a us ≡ r.postfixes sub stmt k b ts
  unfolding r.postfixes
  one_postfix k a b us ts t e = rw (t, e) refl

  -- one more, behind what stands on the left
  postfix_step : (m g : ℕ) (a z : Expr) (from us ts : List Token) (left : PostfixTo m a from us) → m ≤ n → max left.0 g ≤ m → r.binds us ≡ 13 →
      r.postfix sub stmt (a, left.0) us ≡ Some ((z, max left.0 g + 1), ts) → PostfixTo (suc m) z from ts
  postfix_step m g a z from us ts left le high t e =
      let turn : left.1 ≡ suc (left.1 - 1) = omega (arith, left.2, left.3, le, small) in (
        max left.0 g + 1,
        left.1 - 1,
        omega (arith, high),
        omega (arith, left.2, left.3, le, small),
        left.4 ∙ ap (λ k. r.postfixes sub stmt k (a, left.0) us) turn ∙ one_postfix (left.1 - 1) (a, left.0) (z, max left.0 g + 1) us ts t e,
      )

  -- neither a call nor a namespace goes on here
  abbrev NoCall : List Token → Type 0
  NoCall rest = (sees row.Mark (codes "(") rest ≡ false) × (sees row.Mark (codes "::") rest ≡ false)

  -- another mark
  other_mark : (text : List ℕ) → is_word row.Mark (codes "(") (word row.Mark text) ≡ false → is_word row.Mark (codes "::") (word row.Mark text) ≡ false →
      {s : Spot} {from rest : List Token} → At (word row.Mark text) s from rest → NoCall from
  other_mark text p q h = (sees_other row.Mark (codes "(") h p, sees_other row.Mark (codes "::") h q)

  step_goes_on : (o : Step) {s : Spot} {from rest : List Token} → At (mark (step_spelling o)) s from rest →
      NoCall from × (r.binds from ≡ 13) × (sees row.Mark (codes "[") from ≡ false) × (sees row.Mark (codes ".") from ≡ false)
  unfolding mark
  step_goes_on step.Increment h = (other_mark (codes "++") refl refl h, binds_at (codes "++") h ∙ increment_binds, sees_other row.Mark (codes "[") h refl, sees_other row.Mark (codes ".") h refl)
  step_goes_on step.Decrement h = (other_mark (codes "--") refl refl h, binds_at (codes "--") h ∙ decrement_binds, sees_other row.Mark (codes "[") h refl, sees_other row.Mark (codes ".") h refl)

  -- of a library's call, after its name
  call_read : (f : LibraryFunction) (q : Qualified) (m : List Token) → r.library_by sub stmt q (codes (function_spelling f)) m ≡ r.library_call sub stmt q f m
  unfolding r.library_by
  call_read f q m = let k = function_row f in rw (k.0, k.1, k.2) refl

  function_object_read : (f : FunctionObject) (q : Qualified) (m : List Token) → r.library_by sub stmt q (codes (object_spelling f)) m ≡ r.function_object sub stmt q f m
  unfolding r.library_by
  function_object_read f q m = let k = object_row f in rw (k.0, k.1) refl

  access_read : (t : AccessTag) (q : Qualified) (m : List Token) → r.library_by sub stmt q (codes (tag_spelling t)) m ≡ Some ((tree.AccessTag q t, 1), m)
  unfolding r.library_by
  access_read t q m = rw (tag_row t) refl

  barrier_read : (q : Qualified) (m : List Token) → r.library_by sub stmt q (codes "group_barrier") m ≡ r.group_barrier sub stmt q m
  unfolding r.library_by r.other_name tag_of object_of function_of
  barrier_read q m = refl

  property_read : (q : Qualified) (m : List Token) → r.library_by sub stmt q (codes "property") m ≡ r.property sub stmt q m
  unfolding r.library_by r.other_name tag_of object_of function_of
  property_read q m = refl

  error_read : (q : Qualified) (m : List Token) → r.library_by sub stmt q (codes "errc") m ≡ r.error_code sub stmt q m
  unfolding r.library_by r.other_name tag_of object_of function_of
  error_read q m = refl

  -- an object's construction, after the type
  construct_read : (m : ℕ) → m ≤ n → (t : ObjectType) (b : Brackets) (s : Spot) (xs : List Argument) (e : Spot) (from i rest : List Token) → Object t from i →
      BracketedArguments (Derives m) b s xs e i rest → (h : ℕ) × (h ≤ suc m) × (r.primary sub stmt from ≡ Some ((tree.Construct t b s xs e, h), rest))
  unfolding r.library r.construct
  construct_read m le t b s xs e from i rest o d =
      let P : List ℕ → Type 0 = λ text. (q : Qualified) (m : List Token) → r.library_by sub stmt q text m ≡ r.construct sub stmt q text m in
      let found = object_named P (ways_construct sub stmt) t from i (opening_less b d.2) o in
      let at = object_at t from i o in
      let all = arguments_read m le b xs e d.0 d.1 rest d.3 d.4 in
      let lt : all.0 < 64 = omega (arith, all.1, le, small) in
      (all.0 + 1, omega (arith, all.1), library_first at.3 at.4 ∙ rw (found.4, found.3 found.1 found.2, found.5, expect_open_read b s i d.0 d.2, all.2, expect_close_read b e d.1 rest d.4, grows {A = Expr} _ _ _ lt) refl)

  integer_read : (x : Lexeme) (from rest : List Token) → Lexed row.Int x from rest → r.primary sub stmt from ≡ Some ((tree.Integer x, 1), rest)
  unfolding r.primary
  integer_read x from rest h = rw (row_at row.Int true h refl, expect_row_at row.Int x h) refl

  character_read : (x : Lexeme) (from rest : List Token) → Lexed row.Char x from rest → r.primary sub stmt from ≡ Some ((tree.Character x, 1), rest)
  unfolding r.primary
  character_read x from rest h = rw (row_at row.Int false h refl, row_at row.Char true h refl, expect_row_at row.Char x h) refl

  parenthesized_first : {s : Spot} {from m : List Token} → At (mark "(") s from m → r.primary sub stmt from ≡ r.parenthesis_expr sub stmt from
  unfolding r.primary mark
  parenthesized_first h = rw (row_at row.Int false h refl, row_at row.Char false h refl, row_at row.Reserved false h refl, sees_at row.Mark (codes "(") h) refl

  stepped_grows : (h : ℕ) (x : Expr) (ts : List Token) → max h 0 < 64 → check_height x h ts ≡ Some ((x, max h 0 + 1), ts)
  stepped_grows h x ts lt = let same : max h 0 ≡ h = omega arith in rw same (grows x h ts (omega (arith, lt)))

  postfix_layer : (m : ℕ) → m ≤ n → ((x : Expr) (from rest : List Token) → Derives m (an_expr 13 x) from rest → NoCall rest → PostfixTo m x from rest) →
      (y : ExprLayer) (from rest : List Token) → ExprRule (Derives m) 13 y from rest → NoCall rest → PostfixTo (suc m) (made y) from rest
  unfolding r.named_primary r.function_call r.parenthesis_expr r.reserved_primary r.static_cast r.functional_cast r.group_barrier r.property r.in_order r.initialize_to_identity r.error_code r.function_object r.library_call r.postfix r.subscript r.member r.postfix_step mark keyword identifier one_word_of keyword_of fixed_width_of
  postfix_layer m le left (Expr-F.Integer x) from rest d follows = based (suc m) 1 (tree.Integer x) from rest (omega arith) (plain from (row_at row.Mark false d refl)) (integer_read x from rest d)
  postfix_layer m le left (Expr-F.Character x) from rest d follows = based (suc m) 1 (tree.Character x) from rest (omega arith) (plain from (row_at row.Mark false d refl)) (character_read x from rest d)
  postfix_layer m le left (Expr-F.Boolean s true) from rest d follows =
      based (suc m) 1 (tree.Boolean s true) from rest (omega arith) (plain from (row_at row.Mark false d refl))
      (reserved_first from (row_at row.Reserved true d refl) ∙ rw (sees_at row.Reserved (codes "true") d, expect_at row.Reserved (codes "true") d) refl)
  postfix_layer m le left (Expr-F.Boolean s false) from rest d follows =
      based (suc m) 1 (tree.Boolean s false) from rest (omega arith) (plain from (row_at row.Mark false d refl))
      (reserved_first from (row_at row.Reserved true d refl) ∙ rw (sees_other row.Reserved (codes "true") d refl, sees_at row.Reserved (codes "false") d, expect_at row.Reserved (codes "false") d) refl)
  postfix_layer m le left (Expr-F.Name x) from rest d follows =
      based (suc m) 1 (tree.Name x) from rest (omega arith) (plain from (row_at row.Mark false d refl)) (name_first x from rest d follows.1 ∙ rw (expect_row_at row.Ident x d, follows.0) refl)
  postfix_layer m le left (Expr-F.Call f xs e) from rest d follows =
      let all = exprs_read m le xs e d.1 d.2 rest d.5 d.6 in
      let lt : all.0 < 64 = omega (arith, all.1, le, small) in
      based (suc m) (all.0 + 1) (tree.Call f xs e) from rest (omega (arith, all.1)) (plain from (row_at row.Mark false d.3 refl))
      (name_first f from d.0 d.3 (sees_other row.Mark (codes "::") d.4.1 refl) ∙ rw (expect_row_at row.Ident f d.3, sees_at row.Mark (codes "(") d.4.1, expect_at row.Mark (codes "(") d.4.1, all.2, expect_at row.Mark (codes ")") d.6, grows {A = Expr} _ _ _ lt) refl)
  postfix_layer m le left (Expr-F.Parenthesized s x e) from rest d follows =
      let v = any_read m le x d.0 d.1 d.3 (parenthesis_ends d.4) in
      let lt : v.0 < 64 = omega (arith, v.1, le, small) in
      based (suc m) (v.0 + 1) (tree.Parenthesized s x e) from rest (omega (arith, v.1)) (in_parentheses d.2 (typed_call m 1 x d.0 d.1 d.3))
      (parenthesized_first d.2 ∙ rw (expect_at row.Mark (codes "(") d.2, v.2, expect_at row.Mark (codes ")") d.4, grows {A = Expr} _ _ _ lt) refl)
  postfix_layer m le left (Expr-F.StaticCast s t x e) from rest d follows =
      let p = parenthesis_read m le x e d.3 d.4 d.5 rest d.10 d.11 d.12 in
      let lt : p.0 < 64 = omega (arith, p.1, le, small) in
      based (suc m) (p.0 + 1) (tree.StaticCast s t x e) from rest (omega (arith, p.1)) (plain from (row_at row.Mark false d.6 refl))
      (reserved_first from (row_at row.Reserved true d.6 refl) ∙ rw (
        sees_other row.Reserved (codes "true") d.6 refl,
        sees_other row.Reserved (codes "false") d.6 refl,
        sees_at row.Reserved (codes "static_cast") d.6,
        expect_at row.Reserved (codes "static_cast") d.6,
        expect_at row.Mark (codes "<") d.7.1,
        integral_read t d.1 d.2 (row_at row.Reserved false d.9.1 refl) d.8,
        expect_at row.Mark (codes ">") d.9.1,
        p.2,
        grows {A = Expr} _ _ _ lt,
      ) refl)
  postfix_layer m le left (Expr-F.FunctionalCast t x e) from rest d follows =
      let p = parenthesis_read m le x e d.0 d.1 d.2 rest d.4 d.5 d.6 in
      let lt : p.0 < 64 = omega (arith, p.1, le, small) in
      let is_type = integral_type t from d.0 d.3.0 in
      let reserved = type_row from is_type in
      based (suc m) (p.0 + 1) (tree.FunctionalCast t x e) from rest (omega (arith, p.1)) (plain from (other_row row.Reserved row.Mark from reserved refl))
      (reserved_first from reserved ∙ rw (
        not_type (codes "true") refl from is_type,
        not_type (codes "false") refl from is_type,
        not_type (codes "static_cast") refl from is_type,
        one_word_read t from d.0 d.3,
        p.2,
        grows {A = Expr} _ _ _ lt,
      ) refl)
  postfix_layer m le left (Expr-F.Construct t b s xs e) from rest d follows =
      let c = construct_read m le t b s xs e from d.0 rest d.1 d.2 in
      based (suc m) c.0 (tree.Construct t b s xs e) from rest c.1 (library_plain (object_at t from d.0 d.1).3) c.2
  postfix_layer m le left (Expr-F.GroupBarrier q x e) from rest d follows =
      let p = parenthesis_read m le x e d.0 d.1 d.2 rest d.4 d.5 d.6 in
      let lt : p.0 < 64 = omega (arith, p.1, le, small) in
      based (suc m) (p.0 + 1) (tree.GroupBarrier q x e) from rest (omega (arith, p.1)) (library_plain d.3.2)
      (library_at "group_barrier" q from d.0 d.3 ∙ barrier_read q d.0 ∙ rw (p.2, grows {A = Expr} _ _ _ lt) refl)
  postfix_layer m le left (Expr-F.AccessTag q t) from rest d follows =
      based (suc m) 1 (tree.AccessTag q t) from rest (omega arith) (library_plain d.2) (library_at (tag_spelling t) q from rest d ∙ access_read t q rest)
  postfix_layer m le left (Expr-F.InOrder q b e) from rest d follows =
      based (suc m) 1 (tree.InOrder q b e) from rest (omega arith) (library_plain d.6.2)
      (library_at "property" q from d.0 d.6 ∙ property_read q d.0 ∙ rw (
        expect_at row.Mark (codes "::") d.7.1,
        sees_at row.Ident (codes "queue") d.8.1,
        expect_at row.Ident (codes "queue") d.8.1,
        expect_at row.Mark (codes "::") d.9.1,
        expect_at row.Ident (codes "in_order") d.10.1,
        empty_brackets_read b d.11.0 e d.4 d.5 rest d.11.1 d.12,
      ) refl)
  postfix_layer m le left (Expr-F.ErrorCode q x) from rest d follows =
      based (suc m) 1 (tree.ErrorCode q x) from rest (omega arith) (library_plain d.2.2)
      (library_at "errc" q from d.0 d.2 ∙ error_read q d.0 ∙ rw (expect_at row.Mark (codes "::") d.3.1, expect_row_at row.Ident x d.4) refl)
  postfix_layer m le left (Expr-F.InitializeToIdentity q b e) from rest d follows =
      based (suc m) 1 (tree.InitializeToIdentity q b e) from rest (omega arith) (library_plain d.6.2)
      (library_at "property" q from d.0 d.6 ∙ property_read q d.0 ∙ rw (
        expect_at row.Mark (codes "::") d.7.1,
        sees_other row.Ident (codes "queue") d.8.1 refl,
        expect_at row.Ident (codes "reduction") d.8.1,
        expect_at row.Mark (codes "::") d.9.1,
        expect_at row.Ident (codes "initialize_to_identity") d.10.1,
        empty_brackets_read b d.11.0 e d.4 d.5 rest d.11.1 d.12,
      ) refl)
  postfix_layer m le left (Expr-F.FunctionObject q f t b e) from rest d follows =
      based (suc m) 1 (tree.FunctionObject q f t b e) from rest (omega arith) (library_plain d.5.2)
      (library_at (object_spelling f) q from d.0 d.5 ∙ function_object_read f q d.0 ∙ rw (
        expect_at row.Mark (codes "<") d.6.1,
        maybe_integral_read t d.1 d.2 d.3 d.7 d.8,
        expect_at row.Mark (codes ">") d.8.1,
        empty_brackets_read b d.9.0 e d.3 d.4 rest d.9.1 d.10,
      ) refl)
  postfix_layer m le left (Expr-F.LibraryCall q f xs e) from rest d follows =
      let all = arguments_read m le brackets.Parentheses xs e d.1 d.2 rest d.5 d.6 in
      let lt : all.0 < 64 = omega (arith, all.1, le, small) in
      based (suc m) (all.0 + 1) (tree.LibraryCall q f xs e) from rest (omega (arith, all.1)) (library_plain d.3.2)
      (library_at (function_spelling f) q from d.0 d.3 ∙ call_read f q d.0 ∙ rw (expect_at row.Mark (codes "(") d.4.1, all.2, expect_at row.Mark (codes ")") d.6, grows {A = Expr} _ _ _ lt) refl)
  postfix_layer m le left (Expr-F.Subscript a s x e) from rest d follows =
      let base = left a from d.0 d.3 (other_mark (codes "[") refl refl d.4) in
      let v = any_read m le x d.1 d.2 d.5 (bracket_ends d.6) in
      let lt : max base.0 v.0 < 64 = omega (arith, base.2, v.1, le, small) in
      postfix_step m v.0 a (tree.Subscript a s x e) from d.0 rest base le (omega (arith, base.2, v.1)) (binds_at (codes "[") d.4 ∙ subscript_binds)
      (rw (sees_at row.Mark (codes "[") d.4, expect_at row.Mark (codes "[") d.4, v.2, expect_at row.Mark (codes "]") d.6, grows {A = Expr} _ _ _ lt) refl)
  postfix_layer m le left (Expr-F.MemberCall a x t xs e) from rest d follows =
      let base = left a from d.0 d.6 (other_mark (codes ".") refl refl d.7.1) in
      let all = arguments_read m le brackets.Parentheses xs e d.4 d.5 rest d.11 d.12 in
      let lt : max base.0 all.0 < 64 = omega (arith, base.2, all.1, le, small) in
      postfix_step m all.0 a (tree.MemberCall a x t xs e) from d.0 rest base le (omega (arith, base.2, all.1)) (binds_at (codes ".") d.7.1 ∙ dot_binds)
      (rw (
        sees_other row.Mark (codes "[") d.7.1 refl,
        sees_at row.Mark (codes ".") d.7.1,
        expect_at row.Mark (codes ".") d.7.1,
        expect_row_at row.Ident x d.8,
        maybe_template_argument_read x t d.2 d.3 (sees_other row.Mark (codes "<") d.10.1 refl) d.9,
        expect_at row.Mark (codes "(") d.10.1,
        all.2,
        expect_at row.Mark (codes ")") d.12,
        grows {A = Expr} _ _ _ lt,
      ) refl)
  postfix_layer m le left (Expr-F.Postfix a s o) from rest d follows =
      let on = step_goes_on o d.2 in
      let base = left a from d.0 d.1 on.0 in
      let lt : max base.0 0 < 64 = omega (arith, base.2, le, small) in
      postfix_step m 0 a (tree.Postfix a s o) from d.0 rest base le (omega (arith, base.2)) on.1
      (rw (on.2, on.3, mark_text_at (codes (step_spelling o)) d.2, step_row o, advance_at d.2) (stepped_grows base.0 (tree.Postfix a s o) rest lt))
  postfix_layer m le left (Expr-F.Prefix s o a) from rest d follows = absurd (omega (arith, d.0))
  postfix_layer m le left (Expr-F.Unary s o a) from rest d follows = absurd (omega (arith, d.0))
  postfix_layer m le left (Expr-F.Cast s t a) from rest d follows = absurd (omega (arith, d.0))
  postfix_layer m le left (Expr-F.Binary a s o b) from rest d follows = absurd (omega (arith, d.0, level_bounds o))
  postfix_layer m le left (Expr-F.Conditional a s b c) from rest d follows = absurd (omega (arith, d.0))

  postfix_spine : (m : ℕ) → m ≤ suc n → (x : Expr) (from rest : List Token) → Derives m (an_expr 13 x) from rest → NoCall rest → PostfixTo m x from rest
  unfolding Derives
  postfix_spine zero le x from rest d follows = absurd d
  postfix_spine (suc m) le x from rest d follows =
      let low : m ≤ n = omega arith in
      subst (λ z. PostfixTo (suc m) z from rest) (made_out x)
      (postfix_layer m low (postfix_spine m (omega arith)) (out-Expr x) from rest d follows)

  -- ---- what is read up to the end of an expression, at a level that is no tighter

  abbrev ChainTo : ℕ → ℕ → Expr → List Token → List Token → Type 0
  ChainTo m l x from rest = (h k : ℕ) × (h ≤ m) × (65 ≤ k + h) × (r.chain sub stmt l from ≡ r.climb sub stmt k l (x, h) rest)

  after_prefix : (m l : ℕ) (x : Expr) (from rest : List Token) → ReadsAs (r.prefix sub stmt from) m x rest → ChainTo m l x from rest
  unfolding r.chain
  after_prefix m l x from rest p = (p.0, 65, p.1, omega arith, rw p.2 refl)

  no_postfix : (k : ℕ) (a : WithHeight Expr) (ts : List Token) → r.binds ts < 13 → 0 < k → r.postfixes sub stmt k a ts ≡ Some (a, ts)
  unfolding r.postfixes
  no_postfix zero a ts lt some = absurd (omega arith)
  no_postfix (suc k) a ts lt some = let t = lt-ltb (r.binds ts) 13 lt in rw t refl

  no_operator : (k l : ℕ) (a : WithHeight Expr) (ts : List Token) → r.binds ts < l → 0 < k → r.climb sub stmt k l a ts ≡ Some (a, ts)
  unfolding r.climb
  no_operator zero l a ts lt some = absurd (omega arith)
  no_operator (suc k) l a ts lt some = let t = lt-ltb (r.binds ts) l lt in rw t refl

  after_postfixes : (m l : ℕ) → m ≤ 64 → (x : Expr) (from rest : List Token) → r.binds rest < 13 → PostfixTo m x from rest → ChainTo m l x from rest
  after_postfixes m l le x from rest lt p =
      after_prefix m l x from rest (p.0, p.2, p.4 ∙ no_postfix p.1 (x, p.0) rest lt (omega (arith, p.2, p.3)))

  one_operation : (k l : ℕ) (a b : WithHeight Expr) (us ts : List Token) → l ≤ r.binds us → r.operation sub stmt a us ≡ Some (b, ts) → r.climb sub stmt (suc k) l a us ≡ r.climb sub stmt k l b ts
  unfolding r.climb
  one_operation k l a b us ts le e = let t = le-ltb (r.binds us) l le in rw (t, e) refl

  -- one more operator, behind what stands on the left
  operated : (m l g : ℕ) (a z : Expr) (from us ts : List Token) (left : ChainTo m l a from us) → m ≤ n → max left.0 g ≤ m → l ≤ r.binds us →
      r.operation sub stmt (a, left.0) us ≡ Some ((z, max left.0 g + 1), ts) → ChainTo (suc m) l z from ts
  operated m l g a z from us ts left le high t e =
      let turn : left.1 ≡ suc (left.1 - 1) = omega (arith, left.2, left.3, le, small) in (
        max left.0 g + 1,
        left.1 - 1,
        omega (arith, high),
        omega (arith, left.2, left.3, le, small),
        left.4 ∙ ap (λ k. r.climb sub stmt k l (a, left.0) us) turn ∙ one_operation (left.1 - 1) l (a, left.0) (z, max left.0 g + 1) us ts t e,
      )

  binary_read : (s : Spot) (o : Operator) (a : WithHeight Expr) (b : Expr) (h : ℕ) (us mid ts : List Token) → max a.1 h < 64 → At (mark (spelling o)) s us mid → sub (level o + 1) mid ≡ Some ((b, h), ts) →
      r.operation sub stmt a us ≡ Some ((tree.Binary a.0 s o b, max a.1 h + 1), ts)
  unfolding r.operation r.binary mark
  binary_read s o a b h us mid ts lt at e =
      rw (sees_other row.Mark (codes "?") at (no_question o), mark_text_at (codes (spelling o)) at, operator_row o, advance_at at, e, grows {A = Expr} _ _ _ lt) refl

  conditional_read : (s : Spot) (a : WithHeight Expr) (b c : Expr) (h g : ℕ) (us mid i j ts : List Token) → max a.1 (max h g) < 64 → At (mark "?") s us mid → sub 1 mid ≡ Some ((b, h), i) →
      Sees (mark ":") i j → sub 1 j ≡ Some ((c, g), ts) → r.operation sub stmt a us ≡ Some ((tree.Conditional a.0 s b c, max a.1 (max h g) + 1), ts)
  unfolding r.operation r.conditional mark
  conditional_read s a b c h g us mid i j ts lt at e k f =
      rw (sees_at row.Mark (codes "?") at, expect_at row.Mark (codes "?") at, e, expect_at row.Mark (codes ":") k.1, f, grows {A = Expr} _ _ _ lt) refl

  cast_read : (s : Spot) (t : IntegerType) (a : Expr) (h : ℕ) (from m k i rest : List Token) → h < 64 → At (mark "(") s from m → Integral t m k → Sees (mark ")") k i → sub 12 i ≡ Some ((a, h), rest) →
      r.prefix sub stmt from ≡ Some ((tree.Cast s t a, h + 1), rest)
  unfolding r.prefix r.cast_or_postfix r.sees_cast r.cast step_of unary_of mark
  cast_read s t a h from m k i rest lt at d c e =
      rw (
        mark_text_at (codes "(") at,
        sees_at row.Mark (codes "(") at,
        next_at at,
        integral_type t m k d,
        integral_next (codes "(") t m k d (sees_other row.Mark (codes "(") c.1 refl),
        expect_at row.Mark (codes "(") at,
        integral_read t m k (row_at row.Reserved false c.1 refl) d,
        expect_at row.Mark (codes ")") c.1,
        e,
        grows {A = Expr} _ _ _ lt,
      ) refl

  step_read : (s : Spot) (o : Step) (a : Expr) (h : ℕ) (from m rest : List Token) → h < 64 → At (mark (step_spelling o)) s from m → sub 12 m ≡ Some ((a, h), rest) →
      r.prefix sub stmt from ≡ Some ((tree.Prefix s o a, h + 1), rest)
  unfolding r.prefix r.prefix_step mark
  step_read s o a h from m rest lt at e = rw (mark_text_at (codes (step_spelling o)) at, step_row o, advance_at at, e, grows {A = Expr} _ _ _ lt) refl

  unary_read : (s : Spot) (o : UnOp) (a : Expr) (h : ℕ) (from m rest : List Token) → h < 64 → At (mark (unary_spelling o)) s from m → sub 12 m ≡ Some ((a, h), rest) →
      r.prefix sub stmt from ≡ Some ((tree.Unary s o a, h + 1), rest)
  unfolding r.prefix r.unary mark
  unary_read s o a h from m rest lt at e =
      let k = unary_row o in rw (mark_text_at (codes (unary_spelling o)) at, k.0, k.1, advance_at at, e, grows {A = Expr} _ _ _ lt) refl

  -- a postfix expression, where less binds what follows
  postfixed : (m : ℕ) → m ≤ n → (y : ExprLayer) (from rest : List Token) → ExprRule (Derives m) 13 y from rest → r.binds rest < 13 → PostfixTo (suc m) (made y) from rest
  postfixed m le y from rest d lt =
      postfix_layer m le (postfix_spine m (omega arith)) y from rest d (binds_no (codes "(") opening_binds rest lt, binds_no (codes "::") colons_binds rest lt)

  boolean_level : (S : Rule Node) (l : ℕ) (s : Spot) (b : Bool) (from rest : List Token) → ExprRule S l (Expr-F.Boolean s b) from rest → ExprRule S 13 (Expr-F.Boolean s b) from rest
  boolean_level S l s true from rest d = d
  boolean_level S l s false from rest d = d

  question_at : {s : Spot} {from rest : List Token} → At (mark "?") s from rest → r.binds from ≡ 1
  unfolding mark
  question_at h = binds_at (codes "?") h ∙ question_binds

  spine_layer : (m l : ℕ) → m ≤ n → l ≤ 13 → ((x : Expr) (from rest : List Token) → Derives m (an_expr l x) from rest → r.binds rest < edge (out-Expr x) → ChainTo m l x from rest) →
      (y : ExprLayer) (from rest : List Token) → ExprRule (Derives m) l y from rest → r.binds rest < edge y → PostfixTo (suc m) (made y) from rest ⊎ ChainTo (suc m) l (made y) from rest
  spine_layer m l le top left (Expr-F.Prefix s o a) from rest d ends =
      let v = whole m 12 a d.1.0 rest le (omega arith) d.1.2 ends in
      inr (after_prefix (suc m) l _ from rest (v.0 + 1, omega (arith, v.1), step_read s o a v.0 from d.1.0 rest (omega (arith, v.1, le, small)) d.1.1 v.2))
  spine_layer m l le top left (Expr-F.Unary s o a) from rest d ends =
      let v = whole m 12 a d.1.0 rest le (omega arith) d.1.2 ends in
      inr (after_prefix (suc m) l _ from rest (v.0 + 1, omega (arith, v.1), unary_read s o a v.0 from d.1.0 rest (omega (arith, v.1, le, small)) d.1.1 v.2))
  spine_layer m l le top left (Expr-F.Cast s t a) from rest d ends =
      let v = whole m 12 a d.1.2 rest le (omega arith) d.1.6 ends in
      inr (after_prefix (suc m) l _ from rest (v.0 + 1, omega (arith, v.1), cast_read s t a v.0 from d.1.0 d.1.1 d.1.2 rest (omega (arith, v.1, le, small)) d.1.3 d.1.4 d.1.5 v.2))
  spine_layer m l le top left (Expr-F.Binary a s o b) from rest d ends =
      let bounds = level_bounds o in
      let binds = operator_binds o d.1.3 in
      let first = left a from d.1.0 (Derives-looser m (level o) l d.0 a from d.1.0 d.1.2) (left_ends m (level o) a from d.1.0 d.1.2 (omega (arith, binds)) bounds.0 bounds.1) in
      let second = whole m (level o + 1) b d.1.1 rest le (omega (arith, bounds)) d.1.4 ends in
      let lt : max first.0 second.0 < 64 = omega (arith, first.2, second.1, le, small) in
      inr (operated m l second.0 a (tree.Binary a s o b) from d.1.0 rest first le (omega (arith, first.2, second.1)) (omega (arith, binds, d.0))
      (binary_read s o (a, first.0) b second.0 d.1.0 d.1.1 rest lt d.1.3 second.2))
  spine_layer m l le top left (Expr-F.Conditional a s b c) from rest d ends =
      let binds = question_at d.1.5 in
      let first = left a from d.1.0 (Derives-looser m 2 l (omega (arith, d.0)) a from d.1.0 d.1.4) (left_ends m 2 a from d.1.0 d.1.4 (omega (arith, binds)) (omega arith) (omega arith)) in
      let second = any_read m le b d.1.1 d.1.2 d.1.6 (colon_ends d.1.7.1) in
      let third = any_read m le c d.1.3 rest d.1.8 ends in
      let lt : max first.0 (max second.0 third.0) < 64 = omega (arith, first.2, second.1, third.1, le, small) in
      inr (operated m l (max second.0 third.0) a (tree.Conditional a s b c) from d.1.0 rest first le (omega (arith, first.2, second.1, third.1)) (omega (arith, binds, d.0))
      (conditional_read s (a, first.0) b c second.0 third.0 d.1.0 d.1.1 d.1.2 d.1.3 rest lt d.1.5 second.2 d.1.7 third.2))
  spine_layer m l le top left (Expr-F.Boolean s b) from rest d ends = inl (postfixed m le (Expr-F.Boolean s b) from rest (boolean_level (Derives m) l s b from rest d) ends)
  spine_layer m l le top left (Expr-F.Integer x) from rest d ends = inl (postfixed m le (Expr-F.Integer x) from rest d ends)
  spine_layer m l le top left (Expr-F.Character x) from rest d ends = inl (postfixed m le (Expr-F.Character x) from rest d ends)
  spine_layer m l le top left (Expr-F.Name x) from rest d ends = inl (postfixed m le (Expr-F.Name x) from rest d ends)
  spine_layer m l le top left (Expr-F.Call f xs e) from rest d ends = inl (postfixed m le (Expr-F.Call f xs e) from rest d ends)
  spine_layer m l le top left (Expr-F.Parenthesized s x e) from rest d ends = inl (postfixed m le (Expr-F.Parenthesized s x e) from rest d ends)
  spine_layer m l le top left (Expr-F.StaticCast s t x e) from rest d ends = inl (postfixed m le (Expr-F.StaticCast s t x e) from rest d ends)
  spine_layer m l le top left (Expr-F.FunctionalCast t x e) from rest d ends = inl (postfixed m le (Expr-F.FunctionalCast t x e) from rest d ends)
  spine_layer m l le top left (Expr-F.Construct t b s xs e) from rest d ends = inl (postfixed m le (Expr-F.Construct t b s xs e) from rest d ends)
  spine_layer m l le top left (Expr-F.GroupBarrier q x e) from rest d ends = inl (postfixed m le (Expr-F.GroupBarrier q x e) from rest d ends)
  spine_layer m l le top left (Expr-F.AccessTag q t) from rest d ends = inl (postfixed m le (Expr-F.AccessTag q t) from rest d ends)
  spine_layer m l le top left (Expr-F.InOrder q b e) from rest d ends = inl (postfixed m le (Expr-F.InOrder q b e) from rest d ends)
  spine_layer m l le top left (Expr-F.ErrorCode q x) from rest d ends = inl (postfixed m le (Expr-F.ErrorCode q x) from rest d ends)
  spine_layer m l le top left (Expr-F.InitializeToIdentity q b e) from rest d ends = inl (postfixed m le (Expr-F.InitializeToIdentity q b e) from rest d ends)
  spine_layer m l le top left (Expr-F.FunctionObject q f t b e) from rest d ends = inl (postfixed m le (Expr-F.FunctionObject q f t b e) from rest d ends)
  spine_layer m l le top left (Expr-F.LibraryCall q f xs e) from rest d ends = inl (postfixed m le (Expr-F.LibraryCall q f xs e) from rest d ends)
  spine_layer m l le top left (Expr-F.Subscript a s x e) from rest d ends = inl (postfixed m le (Expr-F.Subscript a s x e) from rest d ends)
  spine_layer m l le top left (Expr-F.MemberCall a x t xs e) from rest d ends = inl (postfixed m le (Expr-F.MemberCall a x t xs e) from rest d ends)
  spine_layer m l le top left (Expr-F.Postfix a s o) from rest d ends = inl (postfixed m le (Expr-F.Postfix a s o) from rest d ends)

  spine : (m l : ℕ) → m ≤ suc n → l ≤ 13 → (x : Expr) (from rest : List Token) → Derives m (an_expr l x) from rest → r.binds rest < edge (out-Expr x) → ChainTo m l x from rest
  unfolding Derives
  spine zero l le top x from rest d ends = absurd d
  spine (suc m) l le top x from rest d ends =
      let low : m ≤ n = omega arith in
      let below : r.binds rest < 13 = omega (arith, edge_most (out-Expr x)) in
      subst (λ z. ChainTo (suc m) l z from rest) (made_out x)
      (⊎_elim (after_postfixes (suc m) l (omega (arith, low, small)) (made (out-Expr x)) from rest below) (λ c. c)
      (spine_layer m l low top (spine m l (omega arith) top) (out-Expr x) from rest d ends))

  -- An expression at the front of the tokens, which what follows doesn't go on with, is read.
  pub chain_read : (m l : ℕ) → m ≤ suc n → l ≤ 13 → (x : Expr) (from rest : List Token) → Derives m (an_expr l x) from rest → r.binds rest < l → ReadsAs (r.chain sub stmt l from) m x rest
  chain_read m l le top x from rest d lt =
      let c = spine m l le top x from rest d (ends_there m l x from rest top d lt) in
      (c.0, c.2, c.4 ∙ no_operator c.1 l (x, c.0) rest lt (omega (arith, c.2, c.3, le, small)))

  -- ---- declarations

  -- what follows a declarator or an initializer
  abbrev Closed : List Token → Type 0
  Closed ts = (sees row.Mark (codes "=") ts ≡ false) × (sees row.Mark (codes "(") ts ≡ false) × (sees row.Mark (codes "{") ts ≡ false) × (r.binds ts < 1)

  semicolon_closed : {s : Spot} {us ts : List Token} → At (mark ";") s us ts → Closed us
  unfolding mark
  semicolon_closed h = (sees_other row.Mark (codes "=") h refl, sees_other row.Mark (codes "(") h refl, sees_other row.Mark (codes "{") h refl, semicolon_ends h)

  comma_closed : (us ts : List Token) → Sees (mark ",") us ts → Closed us
  unfolding mark
  comma_closed us ts h = (sees_other row.Mark (codes "=") h.1 refl, sees_other row.Mark (codes "(") h.1 refl, sees_other row.Mark (codes "{") h.1 refl, comma_ends us ts h)

  closing_ends : (b : Brackets) {s : Spot} {us ts : List Token} → At (mark (closing b)) s us ts → r.binds us < 1
  closing_ends brackets.Parentheses h = parenthesis_ends h
  closing_ends brackets.Braces h = brace_ends h

  declarator_layer : (m : ℕ) → m ≤ n → (y : DeclaratorLayer) (from rest : List Token) → DeclaratorRule (Derives m) y from rest → Closed rest → ReadsAs (st.one_declarator sub stmt from) m (declarator_made y) rest
  unfolding st.one_declarator st.equal_declarator st.bracketed_declarator mark
  declarator_layer m le (Declarator-F.Uninitialized x) from rest d e = (0, omega arith, rw (expect_row_at row.Ident x d, e.0, e.1, e.2) refl)
  declarator_layer m le (Declarator-F.Equal x s v) from rest d e =
      let w = any_read m le v d.1 rest d.4 e.3 in
      (w.0, w.1, rw (expect_row_at row.Ident x d.2, sees_at row.Mark (codes "=") d.3, expect_at row.Mark (codes "=") d.3, w.2) refl)
  declarator_layer m le (Declarator-F.Bracketed x brackets.Parentheses s v c) from rest d e =
      let w = any_read m le v d.1 d.2 d.5 (parenthesis_ends d.6) in
      (w.0, w.1, rw (expect_row_at row.Ident x d.3, sees_other row.Mark (codes "=") d.4 refl, sees_at row.Mark (codes "(") d.4, expect_open_read brackets.Parentheses s d.0 d.1 d.4, w.2, expect_close_read brackets.Parentheses c d.2 rest d.6) refl)
  declarator_layer m le (Declarator-F.Bracketed x brackets.Braces s v c) from rest d e =
      let w = any_read m le v d.1 d.2 d.5 (brace_ends d.6) in
      (w.0, w.1, rw (expect_row_at row.Ident x d.3, sees_other row.Mark (codes "=") d.4 refl, sees_other row.Mark (codes "(") d.4 refl, sees_at row.Mark (codes "{") d.4, expect_open_read brackets.Braces s d.0 d.1 d.4, w.2, expect_close_read brackets.Braces c d.2 rest d.6) refl)

  declarator_read : (m : ℕ) → m ≤ n → (x : Declarator) (from rest : List Token) → OneDeclarator (Derives m) x from rest → Closed rest → ReadsAs (st.one_declarator sub stmt from) m x rest
  declarator_read m le x from rest d e = subst (λ z. ReadsAs (st.one_declarator sub stmt from) m z rest) (declarator_made_out x) (declarator_layer m le (out-Declarator x) from rest d e)

  declarator_short : (m : ℕ) (x : Declarator) (from rest : List Token) → OneDeclarator (Derives m) x from rest → length rest ≤ length from
  declarator_short m x from rest d = by (out-Declarator x) d
    where
      by : (y : DeclaratorLayer) → DeclaratorRule (Derives m) y from rest → length rest ≤ length from
      by (Declarator-F.Uninitialized x) d = omega (arith, at_length d)
      by (Declarator-F.Equal x s v) d = omega (arith, at_length d.2, at_length d.3, expr_short m v d.1 rest d.4)
      by (Declarator-F.Bracketed x b s v e) d = omega (arith, at_length d.3, at_length d.4, expr_short m v d.1 d.2 d.5, at_length d.6)

  declarator_first : (m : ℕ) (x : Declarator) (from rest : List Token) → OneDeclarator (Derives m) x from rest → sees_row row.Ident from ≡ true
  declarator_first m x from rest d = by (out-Declarator x) d
    where
      by : (y : DeclaratorLayer) → DeclaratorRule (Derives m) y from rest → sees_row row.Ident from ≡ true
      by (Declarator-F.Uninitialized x) d = row_at row.Ident true d refl
      by (Declarator-F.Equal x s v) d = row_at row.Ident true d.2 refl
      by (Declarator-F.Bracketed x b s v e) d = row_at row.Ident true d.3 refl

  declarators_first : (m : ℕ) (xs : List Declarator) (from rest : List Token) → Listed (OneDeclarator (Derives m)) xs from rest → sees_row row.Ident from ≡ true
  declarators_first m [] from rest d = absurd d
  declarators_first m (x ∷ []) from rest d = declarator_first m x from rest d
  declarators_first m (x ∷ y ∷ more) from rest d = declarator_first m x from d.0 d.2

  initializer_layer : (m : ℕ) → m ≤ n → (y : InitializerLayer) (from rest : List Token) → InitializerRule (Derives m) y from rest → Closed rest → ReadsAs (st.maybe_initializer sub stmt from) m (Some (initializer_made y)) rest
  unfolding st.maybe_initializer st.direct_initializer st.direct_arguments mark
  initializer_layer m le (Initializer-F.Copy s x) from rest d e =
      let w = any_read m le x d.0 rest d.2 e.3 in
      (w.0, w.1, rw (sees_at row.Mark (codes "=") d.1, expect_at row.Mark (codes "=") d.1, w.2) refl)
  initializer_layer m le (Initializer-F.Direct brackets.Parentheses s [] c) from rest d e = absurd d.0
  initializer_layer m le (Initializer-F.Direct brackets.Parentheses s (x ∷ xs) c) from rest d e =
      let w = argument_list_read m le (x ∷ xs) c d.1.0 d.1.1 rest d.1.3 d.1.4 in
      (w.0, w.1, rw (sees_other row.Mark (codes "=") d.1.2 refl, sees_at row.Mark (codes "(") d.1.2, expect_open_read brackets.Parentheses s from d.1.0 d.1.2, w.2, expect_close_read brackets.Parentheses c d.1.1 rest d.1.4) refl)
  initializer_layer m le (Initializer-F.Direct brackets.Braces s xs c) from rest d e =
      let w = arguments_read m le brackets.Braces xs c d.1.0 d.1.1 rest d.1.3 d.1.4 in
      (w.0, w.1, rw (sees_other row.Mark (codes "=") d.1.2 refl, sees_other row.Mark (codes "(") d.1.2 refl, sees_at row.Mark (codes "{") d.1.2, expect_open_read brackets.Braces s from d.1.0 d.1.2, w.2, expect_close_read brackets.Braces c d.1.1 rest d.1.4) refl)

  initializer_read : (m : ℕ) → m ≤ n → (x : Option Initializer) (from rest : List Token) → Optional (Initialized (Derives m)) x from rest → Closed rest → ReadsAs (st.maybe_initializer sub stmt from) m x rest
  unfolding st.maybe_initializer
  initializer_read m le None from rest d e = (0, omega arith, rw (d, e.0, e.1, e.2) refl)
  initializer_read m le (Some x) from rest d e = subst (λ z. ReadsAs (st.maybe_initializer sub stmt from) m (Some z) rest) (initializer_made_out x) (initializer_layer m le (out-Initializer x) from rest d e)

  -- ---- full expressions

  -- what follows one
  abbrev FullEnded : List Token → Type 0
  FullEnded ts = (r.binds ts < 1) × (assignment_of (mark_text ts) ≡ None)

  semicolon_full : {s : Spot} {us ts : List Token} → At (mark ";") s us ts → FullEnded us
  unfolding mark assignment_of
  semicolon_full h = (semicolon_ends h, rw (mark_text_at (codes ";") h) refl)

  parenthesis_full : {s : Spot} {us ts : List Token} → At (mark ")") s us ts → FullEnded us
  unfolding mark assignment_of
  parenthesis_full h = (parenthesis_ends h, rw (mark_text_at (codes ")") h) refl)

  full_layer : (m : ℕ) → m ≤ n → (y : FullExpressionLayer) (from rest : List Token) → FullRule (Derives m) y from rest → FullEnded rest → ReadsAs (st.full_parts sub stmt from) m (full_made y) rest
  unfolding st.full_parts mark
  full_layer m le (FullExpression-F.Plain x) from rest d e =
      let v = any_read m le x from rest d e.0 in
      (v.0, v.1, rw (v.2, e.1) refl)
  full_layer m le (FullExpression-F.Assignment x s o y) from rest d e =
      let row = assignment_row o in
      let v = any_read m le x from d.0 d.2 (closes (codes (assignment_spelling o)) row.1 d.3) in
      let w = any_read m le y d.1 rest d.4 e.0 in
      (max v.0 w.0, omega (arith, v.1, w.1), rw (v.2, mark_text_at (codes (assignment_spelling o)) d.3, row.0, advance_at d.3, w.2) refl)

  full_parts_read : (m : ℕ) → m ≤ n → (x : FullExpression) (from rest : List Token) → FullRule (Derives m) (out-FullExpression x) from rest → FullEnded rest → ReadsAs (st.full_parts sub stmt from) m x rest
  full_parts_read m le x from rest d e = subst (λ z. ReadsAs (st.full_parts sub stmt from) m z rest) (full_made_out x) (full_layer m le (out-FullExpression x) from rest d e)

  full_read : (m : ℕ) → m ≤ suc n → (x : FullExpression) (from rest : List Token) → Derives m (a_full x) from rest → FullEnded rest → ReadsAs (st.full sub stmt from) m x rest
  unfolding st.full Derives
  full_read zero le x from rest d e = absurd d
  full_read (suc m) le x from rest d e =
      let low : m ≤ n = omega arith in
      let v = full_parts_read m low x from rest d e in
      let lt : v.0 < 64 = omega (arith, v.1, low, small) in
      (v.0 + 1, omega (arith, v.1), rw (v.2, grows {A = FullExpression} _ _ _ lt) refl)

  -- the expression that it begins with
  full_begins : (m : ℕ) (y : FullExpressionLayer) (from rest : List Token) → FullRule (Derives m) y from rest → FullEnded rest → (x : Expr) × (mid : List Token) × Derives m (an_expr 1 x) from mid × (r.binds mid < 1)
  unfolding mark
  full_begins m (FullExpression-F.Plain x) from rest d e = (x, rest, d, e.0)
  full_begins m (FullExpression-F.Assignment x s o y) from rest d e = (x, d.0, d.2, closes (codes (assignment_spelling o)) (assignment_row o).1 d.3)

  -- ---- which reader of a statement it is

  by_library : (from : List Token) → declares_object from ≡ false → cond (sees_namespace (codes "sycl") from) (st.library_statement sub stmt from) (st.expression sub stmt from) ≡ st.expression sub stmt from
  unfolding st.library_statement
  by_library from e = by (sees_namespace (codes "sycl") from)
    where
      by : (b : Bool) → cond b (cond (declares_object from) (st.declaration_stmt sub stmt (st.object_declaration sub stmt) from) (st.expression sub stmt from)) (st.expression sub stmt from) ≡ st.expression sub stmt from
      by true = rw e refl
      by false = refl

  either : {A : Type 0} (b : Bool) (x : A) → cond b x x ≡ x
  either true x = refl
  either false x = refl

  expression_simple : (m : ℕ) (x : Expr) (from mid : List Token) → Derives m (an_expr 1 x) from mid → r.binds mid < 1 → st.simple sub stmt from ≡ st.expression sub stmt from
  unfolding st.simple st.declares_integers
  expression_simple m x from mid d lt =
      let begins = Derives-begins m (an_expr 1 x) from mid d in
      let declares = no_declaration m 1 x from mid d (binds_no (codes "::") colons_binds mid (omega (arith, lt))) in
      rw (
        begins_no opens_expr row.Mark (codes ";") refl from begins,
        begins_no opens_expr row.Reserved (codes "const") refl from begins,
        begins_no opens_expr row.Reserved (codes "constexpr") refl from begins,
        begins_no opens_expr row.Reserved (codes "auto") refl from begins,
        typed_call m 1 x from mid d,
        declares.0,
      ) (by_library from declares.1)

  -- no word of a statement
  abbrev NoStatement : List Token → Type 0
  NoStatement ts = (sees row.Reserved (codes "if") ts ≡ false) × (sees row.Reserved (codes "break") ts ≡ false) × (sees row.Reserved (codes "continue") ts ≡ false) × (sees row.Reserved (codes "return") ts ≡ false)
      × (sees row.Reserved (codes "while") ts ≡ false) × (sees row.Reserved (codes "do") ts ≡ false) × (sees row.Reserved (codes "for") ts ≡ false) × (sees row.Reserved (codes "try") ts ≡ false)

  to_simple : (from : List Token) → sees row.Mark (codes "{") from ≡ false → NoStatement from → st.sees_print from ≡ false → st.one_stmt sub stmt from ≡ st.simple sub stmt from
  unfolding st.one_stmt st.reserved_stmt st.loop_or_try
  to_simple from a w p = rw (a, p, w.0, w.1, w.2, w.3, w.4, w.5, w.6, w.7) (either (sees_row row.Reserved from) (st.simple sub stmt from))

  expression_stmt : (m : ℕ) (x : Expr) (from mid : List Token) → Derives m (an_expr 1 x) from mid → r.binds mid < 1 → st.one_stmt sub stmt from ≡ st.expression sub stmt from
  unfolding st.sees_print
  expression_stmt m x from mid d lt =
      let begins = Derives-begins m (an_expr 1 x) from mid d in
      let declares = no_declaration m 1 x from mid d (binds_no (codes "::") colons_binds mid (omega (arith, lt))) in
      to_simple from (begins_no opens_expr row.Mark (codes "{") refl from begins) (
        begins_no opens_expr row.Reserved (codes "if") refl from begins,
        begins_no opens_expr row.Reserved (codes "break") refl from begins,
        begins_no opens_expr row.Reserved (codes "continue") refl from begins,
        begins_no opens_expr row.Reserved (codes "return") refl from begins,
        begins_no opens_expr row.Reserved (codes "while") refl from begins,
        begins_no opens_expr row.Reserved (codes "do") refl from begins,
        begins_no opens_expr row.Reserved (codes "for") refl from begins,
        begins_no opens_expr row.Reserved (codes "try") refl from begins,
      ) (rw declares.0 refl) ∙ expression_simple m x from mid d lt

  -- ---- statements of words

  condition_read : (m : ℕ) → m ≤ n → (x : Expr) (from rest : List Token) → InParentheses (Derives m) x from rest → ReadsAs (st.condition sub stmt from) m x rest
  unfolding st.condition mark
  condition_read m le x from rest d =
      let v = any_read m le x d.0 d.1 d.3 (parenthesis_ends d.4.1) in
      (v.0, v.1, rw (expect_at row.Mark (codes "(") d.2.1, v.2, expect_at row.Mark (codes ")") d.4.1) refl)

  maybe_expr_read : (m : ℕ) → m ≤ n → (x : Option Expr) {s : Spot} (from mid rest : List Token) → Optional (AnyExpr (Derives m)) x from mid → At (mark ";") s mid rest → ReadsAs (st.maybe_expr sub stmt from) m x mid
  unfolding st.maybe_expr mark
  maybe_expr_read m le None from mid rest d c = (0, omega arith, rw (d, sees_at row.Mark (codes ";") c) refl)
  maybe_expr_read m le (Some x) from mid rest d c =
      let v = any_read m le x from mid d (semicolon_ends c) in
      (v.0, v.1, rw (begins_no opens_expr row.Mark (codes ";") refl from (Derives-begins m (an_expr 1 x) from mid d), v.2) refl)

  maybe_full_read : (m : ℕ) → m ≤ n → (x : Option FullExpression) {s : Spot} (from mid rest : List Token) → Optional (AnyFull (Derives m)) x from mid → At (mark ")") s mid rest → ReadsAs (st.maybe_full sub stmt from) m x mid
  unfolding st.maybe_full mark
  maybe_full_read m le None from mid rest d c = (0, omega arith, rw (d, sees_at row.Mark (codes ")") c) refl)
  maybe_full_read m le (Some x) from mid rest d c =
      let v = full_read m (omega arith) x from mid d (parenthesis_full c) in
      (v.0, v.1, rw (begins_no opens_expr row.Mark (codes ")") refl from (Derives-begins m (a_full x) from mid d), v.2) refl)

  no_else : (us : List Token) → ((after : List Token) → Sees (keyword "else") us after → ⊥) → sees row.Reserved (codes "else") us ≡ false
  unfolding keyword
  no_else us no_after = by (sees row.Reserved (codes "else") us) refl
    where
      by : (b : Bool) → sees row.Reserved (codes "else") us ≡ b → b ≡ false
      by false is = refl
      by true is = absurd (no_after (next us) (seen row.Reserved (codes "else") us is))

  -- the statement that this layer is, one higher than what stands below
  abbrev StmtAs : ℕ → StmtLayer → List Token → List Token → Type 0
  StmtAs m y from rest = ReadsAs (st.one_stmt sub stmt from) (suc m) (stmt_made y) rest

  -- the statements that begin with a word, but for loops with a header, and `try`
  abbrev IsWord : StmtLayer → Type 0
  IsWord (Stmt-F.Break s c) = Unit
  IsWord (Stmt-F.Continue s c) = Unit
  IsWord (Stmt-F.Return s x c) = Unit
  IsWord (Stmt-F.If s c x y) = Unit
  IsWord (Stmt-F.While s c x) = Unit
  IsWord (Stmt-F.Do s x c z) = Unit
  IsWord _ = ⊥

  words_layer : (m : ℕ) → m ≤ n → (y : StmtLayer) (from rest : List Token) → StmtRule (Derives m) y from rest → IsWord y → StmtAs m y from rest
  unfolding st.one_stmt st.reserved_stmt st.loop_or_try st.break_loop st.continue_loop st.return_value st.branch st.else_branch st.while_loop st.do_loop st.null st.simple mark keyword
  words_layer m le (Stmt-F.Break s c) from rest d w = (
    1,
    omega arith,
    rw (
      sees_other row.Mark (codes "{") d.1 refl,
      row_at row.Reserved true d.1 refl,
      sees_other row.Reserved (codes "if") d.1 refl,
      sees_at row.Reserved (codes "break") d.1,
      expect_at row.Reserved (codes "break") d.1,
      expect_at row.Mark (codes ";") d.2,
    ) refl,
  )
  words_layer m le (Stmt-F.Continue s c) from rest d w = (
    1,
    omega arith,
    rw (
      sees_other row.Mark (codes "{") d.1 refl,
      row_at row.Reserved true d.1 refl,
      sees_other row.Reserved (codes "if") d.1 refl,
      sees_other row.Reserved (codes "break") d.1 refl,
      sees_at row.Reserved (codes "continue") d.1,
      expect_at row.Reserved (codes "continue") d.1,
      expect_at row.Mark (codes ";") d.2,
    ) refl,
  )
  words_layer m le (Stmt-F.Return s x c) from rest d w =
      let v = maybe_expr_read m le x d.0 d.1 rest d.3 d.4 in
      let lt : v.0 < 64 = omega (arith, v.1, le, small) in (
        v.0 + 1,
        omega (arith, v.1),
        rw (
          sees_other row.Mark (codes "{") d.2 refl,
          row_at row.Reserved true d.2 refl,
          sees_other row.Reserved (codes "if") d.2 refl,
          sees_other row.Reserved (codes "break") d.2 refl,
          sees_other row.Reserved (codes "continue") d.2 refl,
          sees_at row.Reserved (codes "return") d.2,
          expect_at row.Reserved (codes "return") d.2,
          v.2,
          expect_at row.Mark (codes ";") d.4,
          grows {A = Stmt} _ _ _ lt,
        ) refl,
      )
  words_layer m le (Stmt-F.If s c x None) from rest d w =
      let v = condition_read m le c d.0 d.1 d.3 in
      let a = whole_stmt m x d.1 rest le d.4 in
      let no_more = no_else rest d.5 in
      let lt : max v.0 a.0 < 64 = omega (arith, v.1, a.1, le, small) in (
        max v.0 a.0 + 1,
        omega (arith, v.1, a.1),
        rw (
          sees_other row.Mark (codes "{") d.2 refl,
          row_at row.Reserved true d.2 refl,
          sees_at row.Reserved (codes "if") d.2,
          expect_at row.Reserved (codes "if") d.2,
          v.2,
          a.2,
          no_more,
          after_none row.Reserved (codes "else") rest no_more,
          grows {A = Stmt} _ _ _ lt,
        ) refl,
      )
  words_layer m le (Stmt-F.If s c x (Some y)) from rest d w =
      let v = condition_read m le c d.0 d.1 d.5 in
      let a = whole_stmt m x d.1 d.2 le d.6 in
      let b = whole_stmt m y d.3 rest le d.8 in
      let lt : max v.0 (max a.0 b.0) < 64 = omega (arith, v.1, a.1, b.1, le, small) in (
        max v.0 (max a.0 b.0) + 1,
        omega (arith, v.1, a.1, b.1),
        rw (
          sees_other row.Mark (codes "{") d.4 refl,
          row_at row.Reserved true d.4 refl,
          sees_at row.Reserved (codes "if") d.4,
          expect_at row.Reserved (codes "if") d.4,
          v.2,
          a.2,
          sees_at row.Reserved (codes "else") d.7.1,
          after_at row.Reserved (codes "else") d.7.1,
          b.2,
          grows {A = Stmt} _ _ _ lt,
        ) refl,
      )
  words_layer m le (Stmt-F.While s c x) from rest d w =
      let v = condition_read m le c d.0 d.1 d.3 in
      let a = whole_stmt m x d.1 rest le d.4 in
      let lt : max v.0 a.0 < 64 = omega (arith, v.1, a.1, le, small) in (
        max v.0 a.0 + 1,
        omega (arith, v.1, a.1),
        rw (
          sees_other row.Mark (codes "{") d.2 refl,
          row_at row.Reserved true d.2 refl,
          sees_other row.Reserved (codes "if") d.2 refl,
          sees_other row.Reserved (codes "break") d.2 refl,
          sees_other row.Reserved (codes "continue") d.2 refl,
          sees_other row.Reserved (codes "return") d.2 refl,
          sees_at row.Reserved (codes "while") d.2,
          expect_at row.Reserved (codes "while") d.2,
          v.2,
          a.2,
          grows {A = Stmt} _ _ _ lt,
        ) refl,
      )
  words_layer m le (Stmt-F.Do s x c z) from rest d w =
      let a = whole_stmt m x d.0 d.1 le d.5 in
      let v = condition_read m le c d.2 d.3 d.7 in
      let lt : max a.0 v.0 < 64 = omega (arith, v.1, a.1, le, small) in (
        max a.0 v.0 + 1,
        omega (arith, v.1, a.1),
        rw (
          sees_other row.Mark (codes "{") d.4 refl,
          row_at row.Reserved true d.4 refl,
          sees_other row.Reserved (codes "if") d.4 refl,
          sees_other row.Reserved (codes "break") d.4 refl,
          sees_other row.Reserved (codes "continue") d.4 refl,
          sees_other row.Reserved (codes "return") d.4 refl,
          sees_other row.Reserved (codes "while") d.4 refl,
          sees_at row.Reserved (codes "do") d.4,
          expect_at row.Reserved (codes "do") d.4,
          a.2,
          expect_at row.Reserved (codes "while") d.6.1,
          v.2,
          expect_at row.Mark (codes ";") d.8,
          grows {A = Stmt} _ _ _ lt,
        ) refl,
      )
  words_layer m le _ from rest d w = absurd w

  -- ---- declarations

  no_words : (from : List Token) → sees_row row.Reserved from ≡ false → NoStatement from
  no_words from e = (
    no_row row.Reserved (codes "if") from e,
    no_row row.Reserved (codes "break") from e,
    no_row row.Reserved (codes "continue") from e,
    no_row row.Reserved (codes "return") from e,
    no_row row.Reserved (codes "while") from e,
    no_row row.Reserved (codes "do") from e,
    no_row row.Reserved (codes "for") from e,
    no_row row.Reserved (codes "try") from e,
  )

  no_type : (from : List Token) → sees_row row.Reserved from ≡ false → sees_type from ≡ false
  unfolding sees_type
  no_type [] e = refl
  no_type (t ∷ us) e = rw e refl

  no_integers : (from : List Token) → sees_row row.Reserved from ≡ false → st.declares_integers from ≡ false
  unfolding st.declares_integers
  no_integers from e = rw (no_row row.Reserved (codes "const") from e, no_row row.Reserved (codes "constexpr") from e, no_row row.Reserved (codes "auto") from e, no_type from e) refl

  type_reserved : (t : TypeSpecifier) (from rest : List Token) → TypeSpecified t from rest → sees_row row.Reserved from ≡ true
  unfolding keyword
  type_reserved (specifier.Auto s) from rest h = row_at row.Reserved true h refl
  type_reserved (specifier.Integer t) from rest h = type_row from (integral_type t from rest h)

  type_not : (text : List ℕ) → one_word_of text ≡ None → is_word row.Reserved text (word row.Reserved (codes "auto")) ≡ false → (t : TypeSpecifier) (from rest : List Token) → TypeSpecified t from rest → sees row.Reserved text from ≡ false
  unfolding keyword
  type_not text p q (specifier.Auto s) from rest h = sees_other row.Reserved text h q
  type_not text p q (specifier.Integer t) from rest h = not_type text p from (integral_type t from rest h)

  -- the specifiers of a declaration of integers: a reserved word that is none of a statement
  specified_not : (text : List ℕ) → one_word_of text ≡ None → is_word row.Reserved text (word row.Reserved (codes "auto")) ≡ false → is_word row.Reserved text (word row.Reserved (codes "const")) ≡ false →
      is_word row.Reserved text (word row.Reserved (codes "constexpr")) ≡ false → (c : Option ConstSpecifier) (t : TypeSpecifier) (from m k : List Token) → Optional ConstSpecified c from m → TypeSpecified t m k →
      sees row.Reserved text from ≡ false
  unfolding keyword
  specified_not text p q u v None t from m k h g = rw h (type_not text p q t m k g)
  specified_not text p q u v (Some (const.Const s)) t from m k h g = sees_other row.Reserved text h u
  specified_not text p q u v (Some (const.Constexpr s)) t from m k h g = sees_other row.Reserved text h v

  specified_row : (c : Option ConstSpecifier) (t : TypeSpecifier) (from m k : List Token) → Optional ConstSpecified c from m → TypeSpecified t m k → sees_row row.Reserved from ≡ true
  unfolding keyword
  specified_row None t from m k h g = rw h (type_reserved t m k g)
  specified_row (Some (const.Const s)) t from m k h g = row_at row.Reserved true h refl
  specified_row (Some (const.Constexpr s)) t from m k h g = row_at row.Reserved true h refl

  specified_declares : (c : Option ConstSpecifier) (t : TypeSpecifier) (from m k : List Token) → Optional ConstSpecified c from m → TypeSpecified t m k → sees row.Mark (codes "(") k ≡ false → st.declares_integers from ≡ true
  unfolding st.declares_integers keyword one_word_of keyword_of fixed_width_of
  specified_declares None (specifier.Auto s) from m k h g e = rw (h, sees_other row.Reserved (codes "const") g refl, sees_other row.Reserved (codes "constexpr") g refl, sees_at row.Reserved (codes "auto") g) refl
  specified_declares None (specifier.Integer t) from m k h g e =
      let is_type = integral_type t m k g in
      rw (h, not_type (codes "const") refl m is_type, not_type (codes "constexpr") refl m is_type, not_type (codes "auto") refl m is_type, is_type, integral_next (codes "(") t m k g e) refl
  specified_declares (Some (const.Const s)) t from m k h g e = rw (sees_at row.Reserved (codes "const") h) refl
  specified_declares (Some (const.Constexpr s)) t from m k h g e = rw (sees_other row.Reserved (codes "const") h refl, sees_at row.Reserved (codes "constexpr") h) refl

  specified_words : (c : Option ConstSpecifier) (t : TypeSpecifier) (from m k : List Token) → Optional ConstSpecified c from m → TypeSpecified t m k → NoStatement from
  unfolding one_word_of keyword_of fixed_width_of
  specified_words c t from m k h g = (
    specified_not (codes "if") refl refl refl refl c t from m k h g,
    specified_not (codes "break") refl refl refl refl c t from m k h g,
    specified_not (codes "continue") refl refl refl refl c t from m k h g,
    specified_not (codes "return") refl refl refl refl c t from m k h g,
    specified_not (codes "while") refl refl refl refl c t from m k h g,
    specified_not (codes "do") refl refl refl refl c t from m k h g,
    specified_not (codes "for") refl refl refl refl c t from m k h g,
    specified_not (codes "try") refl refl refl refl c t from m k h g,
  )

  -- read as a simple statement, and only so
  abbrev SimpleAs : ℕ → Stmt → List Token → List Token → Type 0
  SimpleAs m x from rest = ReadsAs (st.simple sub stmt from) m x rest × (st.one_stmt sub stmt from ≡ st.simple sub stmt from)

  by_row : (from : List Token) → sees_row row.Ident from ≡ true → st.sees_print from ≡ false → st.one_stmt sub stmt from ≡ st.simple sub stmt from
  by_row from i p = to_simple from (no_row row.Mark (codes "{") from (other_row row.Ident row.Mark from i refl)) (no_words from (other_row row.Ident row.Reserved from i refl)) p

  std_no_print : (w : String) → bytes_eq (codes w) (codes "cout") ≡ false → (q : Qualified) (from m : List Token) → Std w q from m → st.sees_print from ≡ false
  unfolding st.sees_print mark identifier
  std_no_print w e q from m h = rw (next_at h.2, next_at h.3.1, sees_other row.Ident (codes "cout") h.4 e) (and_no (sees_namespace (codes "std") from))

  std_simple : (w : String) (q : Qualified) (from m : List Token) → Std w q from m → st.simple sub stmt from ≡ st.declaration_stmt sub stmt (st.standard_declaration sub stmt) from
  unfolding st.simple mark identifier
  std_simple w q from m h = rw (sees_other row.Mark (codes ";") h.2 refl, no_integers from (row_at row.Reserved false h.2 refl), namespace_at (codes "std") h.2 h.3.1) refl

  std_named : (w : String) (q : Qualified) (from m : List Token) → Std w q from m → expect_name (codes "std") from ≡ Some ((q.namespace, record { spot = q.name; text = codes w }), m)
  unfolding identifier mark
  std_named w q from m h = expect_name_at (codes "std") (codes w) q from h.0 h.1 m h.2 h.3 h.4

  declaration_layer : (m : ℕ) → m ≤ n → (y : DeclarationLayer) (from rest : List Token) → DeclarationRule (Derives m) y from rest → SimpleAs (suc m) (ts.Declaration (declaration_made y)) from rest
  unfolding st.simple st.integers st.standard_declaration st.vector st.integer_vector st.device_vector st.thread_vector st.thread st.library_statement st.object_declaration declares_object sees_namespace st.sees_print one_word_of keyword_of fixed_width_of mark identifier
  declaration_layer m le (Declaration-F.Integers c t ds e) from rest d =
      let ident = declarators_first m ds d.1 d.2 d.5 in
      let reserved = specified_row c t from d.0 d.1 d.3 d.4 in
      let no_mark = other_row row.Reserved row.Mark from reserved refl in
      let no_ident = other_row row.Reserved row.Ident from reserved refl in
      let all = comma_list_read (st.one_declarator sub stmt) (OneDeclarator (Derives m)) m Closed (declarator_short m) (declarator_read m le) comma_closed ds d.1 d.2 (omega (arith, at_length d.6)) d.5 (semicolon_closed d.6) (sees_other row.Mark (codes ",") d.6 refl) in
      let lt : all.0 < 64 = omega (arith, all.1, le, small) in
      let const_no = type_not (codes "const") refl refl t d.0 d.1 d.4 in
      let constexpr_no = type_not (codes "constexpr") refl refl t d.0 d.1 d.4 in (
        (
          all.0 + 1,
          omega (arith, all.1),
          rw (
            no_row row.Mark (codes ";") from no_mark,
            specified_declares c t from d.0 d.1 d.3 d.4 (no_row row.Mark (codes "(") d.1 (other_row row.Ident row.Mark d.1 ident refl)),
            const_specifier_read c from d.0 const_no constexpr_no d.3,
            type_specifier_read t d.0 d.1 (other_row row.Ident row.Reserved d.1 ident refl) d.4,
            all.2,
            expect_at row.Mark (codes ";") d.6,
            grows {A = Stmt} _ _ _ lt,
          ) refl,
        ),
        to_simple from (no_row row.Mark (codes "{") from no_mark) (specified_words c t from d.0 d.1 d.3 d.4) (rw (no_row row.Ident (codes "std") from no_ident) refl),
      )
  declaration_layer m le (Declaration-F.Vector q t x v e) from rest d =
      let i = initializer_read m le v d.1 d.2 d.5 (semicolon_closed d.6) in
      let lt : i.0 < 64 = omega (arith, i.1, le, small) in
      let ident = other_row row.Reserved row.Ident d.3.1 (type_row d.3.1 (integral_type t d.3.1 d.3.2 d.3.5)) refl in (
        (
          i.0 + 1,
          omega (arith, i.1),
          std_simple "vector" q from d.3.0 d.3.3 ∙ rw (
            std_named "vector" q from d.3.0 d.3.3,
            expect_at row.Mark (codes "<") d.3.4.1,
            no_row row.Ident (codes "std") d.3.1 ident,
            no_row row.Ident (codes "sycl") d.3.1 ident,
            integral_read t d.3.1 d.3.2 (row_at row.Reserved false d.3.6.1 refl) d.3.5,
            expect_at row.Mark (codes ">") d.3.6.1,
            expect_row_at row.Ident x d.4,
            i.2,
            expect_at row.Mark (codes ";") d.6,
            grows {A = Stmt} _ _ _ lt,
          ) refl,
        ),
        by_row from (row_at row.Ident true d.3.3.2 refl) (std_no_print "vector" refl q from d.3.0 d.3.3),
      )
  declaration_layer m le (Declaration-F.DeviceVector q x v e) from rest d =
      let i = initializer_read m le v d.4 d.5 d.12 (semicolon_closed d.13) in
      let lt : i.0 < 64 = omega (arith, i.1, le, small) in (
        (
          i.0 + 1,
          omega (arith, i.1),
          std_simple "vector" q from d.0 d.7 ∙ rw (
            std_named "vector" q from d.0 d.7,
            expect_at row.Mark (codes "<") d.8.1,
            sees_other row.Ident (codes "std") d.9.2 refl,
            sees_at row.Ident (codes "sycl") d.9.2,
            next_at d.9.2,
            sees_at row.Mark (codes "::") d.9.3.1,
            within_at (codes "sycl") (codes "device") d.6 d.1 d.9.0 d.9.1 d.2 d.9.2 d.9.3 d.9.4,
            expect_at row.Mark (codes ">") d.10.1,
            expect_row_at row.Ident x d.11,
            i.2,
            expect_at row.Mark (codes ";") d.13,
            grows {A = Stmt} _ _ _ lt,
          ) refl,
        ),
        by_row from (row_at row.Ident true d.7.2 refl) (std_no_print "vector" refl q from d.0 d.7),
      )
  declaration_layer m le (Declaration-F.ThreadVector q x e) from rest d = (
    (
      1,
      omega arith,
      std_simple "vector" q from d.0 d.6 ∙ rw (
        std_named "vector" q from d.0 d.6,
        expect_at row.Mark (codes "<") d.7.1,
        sees_at row.Ident (codes "std") d.8.2,
        next_at d.8.2,
        sees_at row.Mark (codes "::") d.8.3.1,
        within_at (codes "std") (codes "thread") d.5 d.1 d.8.0 d.8.1 d.2 d.8.2 d.8.3 d.8.4,
        expect_at row.Mark (codes ">") d.9.1,
        expect_row_at row.Ident x d.10,
        expect_at row.Mark (codes ";") d.11,
      ) refl,
    ),
    by_row from (row_at row.Ident true d.6.2 refl) (std_no_print "vector" refl q from d.0 d.6),
  )
  declaration_layer m le (Declaration-F.Thread q x b l e) from rest d =
      let i = lambda_read sub stmt n small whole_stmt m (omega arith) l d.2 d.3 d.8 in
      let lt : i.0 < 64 = omega (arith, i.1, le, small) in (
        (
          i.0 + 1,
          omega (arith, i.1),
          std_simple "thread" q from d.0 d.5 ∙ rw (
            std_named "thread" q from d.0 d.5,
            expect_row_at row.Ident x d.6,
            expect_open_read b d.7.0 d.1 d.2 d.7.1,
            i.2,
            expect_close_read b d.9.0 d.3 d.4 d.9.1,
            expect_at row.Mark (codes ";") d.10,
            grows {A = Stmt} _ _ _ lt,
          ) refl,
        ),
        by_row from (row_at row.Ident true d.5.2 refl) (std_no_print "thread" refl q from d.0 d.5),
      )
  declaration_layer m le (Declaration-F.Object t x v e) from rest d =
      let i = initializer_read m le v d.1 d.2 d.5 (semicolon_closed d.6) in
      let lt : i.0 < 64 = omega (arith, i.1, le, small) in
      let at = object_at t from d.0 d.3 in (
        (
          i.0 + 1,
          omega (arith, i.1),
          rw (
            sees_other row.Mark (codes ";") at.3 refl,
            no_integers from (row_at row.Reserved false at.3 refl),
            sees_other row.Ident (codes "std") at.3 refl,
            sees_at row.Ident (codes "sycl") at.3,
            next_at at.3,
            sees_at row.Mark (codes "::") at.4.1,
            object_read t from d.0 (sees_other row.Mark (codes "<") d.4 refl) d.3,
            row_at row.Ident true d.4 refl,
            expect_row_at row.Ident x d.4,
            i.2,
            expect_at row.Mark (codes ";") d.6,
            grows {A = Stmt} _ _ _ lt,
          ) refl,
        ),
        by_row from (row_at row.Ident true at.3 refl) (rw (sees_other row.Ident (codes "std") at.3 refl) refl),
      )

  -- ---- simple statements, of which one stands in the header of a for loop

  simple_layer : (m : ℕ) → m ≤ n → (y : StmtLayer) (from rest : List Token) → IsInitStatement y → StmtRule (Derives m) y from rest → SimpleAs (suc m) (stmt_made y) from rest
  unfolding st.simple st.null st.expression st.sees_print sees_namespace mark
  simple_layer m le (Stmt-F.Null s) from rest w d = (
    (1, omega arith, rw (sees_at row.Mark (codes ";") d, expect_at row.Mark (codes ";") d) refl),
    to_simple from (sees_other row.Mark (codes "{") d refl) (no_words from (row_at row.Reserved false d refl)) (rw (sees_other row.Ident (codes "std") d refl) refl),
  )
  simple_layer m le (Stmt-F.Declaration y) from rest w d =
      subst (λ z. SimpleAs (suc m) (ts.Declaration z) from rest) (declaration_made_out y) (declaration_layer m le (out-Declaration y) from rest d)
  simple_layer m le (Stmt-F.Expression x e) from rest w d =
      let v = full_parts_read m le x from d.0 d.1 (semicolon_full d.2) in
      let b = full_begins m (out-FullExpression x) from d.0 d.1 (semicolon_full d.2) in
      let lt : v.0 < 64 = omega (arith, v.1, le, small) in
      let one = expression_simple m b.0 from b.1 b.2 b.3 in
      ((v.0 + 1, omega (arith, v.1), one ∙ rw (v.2, expect_at row.Mark (codes ";") d.2, grows {A = Stmt} _ _ _ lt) refl), expression_stmt m b.0 from b.1 b.2 b.3 ∙ sym one)
  simple_layer m le _ from rest w d = absurd w

  -- ---- what is printed

  no_string : (from : List Token) → first opens_expr from ≡ true → sees_row row.Str from ≡ false
  unfolding sees_row
  no_string [] h = refl
  no_string (t ∷ us) h = by (same_row t.word.row row.Str) refl
    where
      by : (b : Bool) → same_row t.word.row row.Str ≡ b → b ≡ false
      by false is = refl
      by true is = let clash : true ≡ false = sym h ∙ ap (λ w. opens_expr (word w t.word.text)) (same_row_is t.word.row row.Str is) in absurd cc

  printed_layer : (m : ℕ) → m ≤ n → (y : PrintedLayer) (from rest : List Token) → PrintedRule (Derives m) y from rest → r.binds rest < 10 → ReadsAs (st.one_print_item sub stmt from) m (printed_made y) rest
  unfolding st.one_print_item sees_namespace mark identifier
  printed_layer m le (Printed-F.Operand s x) from rest d lt =
      let v = whole m 10 x d.0 rest le (omega arith) d.2 lt in
      let declares = no_declaration m 10 x d.0 rest d.2 (binds_no (codes "::") colons_binds rest (omega (arith, lt))) in
      (v.0, v.1, rw (expect_at row.Mark (codes "<<") d.1, no_string d.0 (Derives-begins m (an_expr 10 x) d.0 rest d.2), declares.0, v.2) refl)
  printed_layer m le (Printed-F.Text s x) from rest d lt = (0, omega arith, rw (expect_at row.Mark (codes "<<") d.1, row_at row.Str true d.2 refl, expect_row_at row.Str x d.2) refl)
  printed_layer m le (Printed-F.EndLine s q) from rest d lt = (
    0,
    omega arith,
    rw (
      expect_at row.Mark (codes "<<") d.1,
      row_at row.Str false d.2.2 refl,
      sees_at row.Ident (codes "std") d.2.2,
      next_at d.2.2,
      sees_at row.Mark (codes "::") d.2.3.1,
      within_at (codes "std") (codes "endl") q d.0 d.2.0 d.2.1 rest d.2.2 d.2.3 d.2.4,
    ) refl,
  )

  printed_read : (m : ℕ) → m ≤ n → (x : Printed) (from rest : List Token) → OnePrinted (Derives m) x from rest → r.binds rest < 10 → ReadsAs (st.one_print_item sub stmt from) m x rest
  printed_read m le x from rest d lt = subst (λ z. ReadsAs (st.one_print_item sub stmt from) m z rest) (printed_made_out x) (printed_layer m le (out-Printed x) from rest d lt)

  printed_first : (m : ℕ) (x : Printed) (from rest : List Token) → OnePrinted (Derives m) x from rest → (s : Spot) × (k : List Token) × At (mark "<<") s from k × (length rest ≤ length k)
  printed_first m x from rest d = by (out-Printed x) d
    where
      by : (y : PrintedLayer) → PrintedRule (Derives m) y from rest → (s : Spot) × (k : List Token) × At (mark "<<") s from k × (length rest ≤ length k)
      by (Printed-F.Operand s x) d = (s, d.0, d.1, passed (Derives-takes m (an_expr 10 x) d.0 rest d.2))
      by (Printed-F.Text s x) d = (s, d.0, d.1, omega (arith, at_length d.2))
      by (Printed-F.EndLine s q) d = (s, d.0, d.1, omega (arith, at_length d.2.2, at_length d.2.3.1, at_length d.2.4))

  shift_binds : {s : Spot} {us vs : List Token} → At (mark "<<") s us vs → r.binds us < 10
  unfolding mark r.binds_by operator_of arithmetic_of comparison_of bitwise_of logical_of
  shift_binds h = let b : r.binds _ ≡ 9 = binds_at (codes "<<") h in omega (arith, b)

  print_items_read : (m : ℕ) → m ≤ n → (t h : ℕ) (xs : List Printed) (x : Printed) (more : List Printed) {s : Spot} (from mid rest : List Token) → h ≤ m → length from ≤ t → Each (OnePrinted (Derives m)) (x ∷ more) from mid → At (mark ";") s mid rest →
      ReadsAs (st.print_items_from sub stmt t xs h from) m (xs ++ (x ∷ more)) mid
  unfolding st.print_items_from mark
  print_items_read m le zero h xs x more from mid rest lh lt d c = let f = printed_first m x from d.0 d.1 in absurd (omega (arith, lt, at_length f.2))
  print_items_read m le (suc t) h xs x [] from mid rest lh lt d c =
      let there = subst (λ us. OnePrinted (Derives m) x from us) d.2 d.1 in
      let v = printed_read m le x from mid there (omega (arith, semicolon_ends c)) in
      (max h v.0, omega (arith, lh, v.1), rw (v.2, sees_other row.Mark (codes "<<") c refl) refl)
  print_items_read m le (suc t) h xs x (y ∷ more) from mid rest lh lt d c =
      let g = printed_first m y d.0 d.2.0 d.2.1 in
      let f = printed_first m x from d.0 d.1 in
      let v = printed_read m le x from d.0 d.1 (shift_binds g.2) in
      let others = print_items_read m le t (max h v.0) (xs ++ x ∷ []) y more d.0 mid rest (omega (arith, lh, v.1)) (omega (arith, lt, at_length f.2, f.3)) d.2 c in
      (others.0, others.1, rw (v.2, sees_at row.Mark (codes "<<") g.2, others.2, append_assoc xs (x ∷ []) (y ∷ more)) refl)

  -- ---- the header of a range for

  reference_no_word : (b : Bool) (j p u : List Token) {s : Spot} {w : List ℕ} → Maybe (mark "&") b j p → At (word row.Ident w) s p u → NoWord j
  unfolding mark
  reference_no_word true j p u c d = row_at row.Reserved false c.1 refl
  reference_no_word false j p u c d = rw c (row_at row.Reserved false d refl)

  header_read : (fixed : Bool) (t : TypeSpecifier) (by_reference : Bool) (name : Lexeme) (k i j p u v : List Token) → Maybe (keyword "const") fixed k i → TypeSpecified t i j → Maybe (mark "&") by_reference j p → Lexed row.Ident name p u →
      Sees (mark ":") u v → st.range_header k ≡ Some (((fixed, t), (by_reference, name)), v)
  unfolding st.range_header mark keyword one_word_of keyword_of fixed_width_of
  header_read fixed t by_reference name k i j p u v a b c d e =
      let const_no = type_not (codes "const") refl refl t i j b in
      let no_and = sees_other row.Mark (codes "&") d refl in
      rw (
        maybe_sees row.Reserved (codes "const") fixed k i a const_no,
        maybe_after row.Reserved (codes "const") fixed k i a const_no,
        type_specifier_read t i j (reference_no_word by_reference j p u c d) b,
        maybe_sees row.Mark (codes "&") by_reference j p c no_and,
        maybe_after row.Mark (codes "&") by_reference j p c no_and,
        expect_row_at row.Ident name d,
        expect_at row.Mark (codes ":") e.1,
      ) refl

  -- ---- statements

  abbrev IsOther : StmtLayer → Type 0
  IsOther (Stmt-F.Print q xs c) = Unit
  IsOther (Stmt-F.Try s b name c) = Unit
  IsOther (Stmt-F.RangeFor s fixed t by_reference name range x) = Unit
  IsOther _ = ⊥

  other_layer : (m : ℕ) → m ≤ n → (y : StmtLayer) (from rest : List Token) → StmtRule (Derives m) y from rest → IsOther y → StmtAs m y from rest
  unfolding st.one_stmt st.reserved_stmt st.loop_or_try st.print st.sees_print sees_namespace st.try_block st.handler st.for_loop st.maybe_range_header st.range_for mark keyword identifier
  other_layer m le (Stmt-F.Print q [] c) from rest d w = absurd d.3
  other_layer m le (Stmt-F.Print q (x ∷ xs) c) from rest d w =
      let v = print_items_read m le (length d.0) 0 [] x xs d.0 d.1 rest (omega arith) (omega arith) d.3 d.4 in
      let lt : v.0 < 64 = omega (arith, v.1, le, small) in (
        v.0 + 1,
        omega (arith, v.1),
        rw (
          sees_other row.Mark (codes "{") d.2.2 refl,
          row_at row.Reserved false d.2.2 refl,
          sees_at row.Ident (codes "std") d.2.2,
          next_at d.2.2,
          sees_at row.Mark (codes "::") d.2.3.1,
          next_at d.2.3.1,
          sees_at row.Ident (codes "cout") d.2.4,
          within_at (codes "std") (codes "cout") q from d.2.0 d.2.1 d.0 d.2.2 d.2.3 d.2.4,
          v.2,
          expect_at row.Mark (codes ";") d.4,
          grows {A = Stmt} _ _ _ lt,
        ) refl,
      )
  other_layer m le (Stmt-F.Try s b name c) from rest d w =
      let v = block_read sub stmt n small whole_stmt m (omega arith) b d.0 d.1 d.10 in
      let z = block_read sub stmt n small whole_stmt m (omega arith) c d.7 rest d.16.3 in
      let lt : max v.0 z.0 < 64 = omega (arith, v.1, z.1, le, small) in (
        max v.0 z.0 + 1,
        omega (arith, v.1, z.1),
        rw (
          sees_other row.Mark (codes "{") d.9 refl,
          row_at row.Reserved true d.9 refl,
          sees_other row.Reserved (codes "if") d.9 refl,
          sees_other row.Reserved (codes "break") d.9 refl,
          sees_other row.Reserved (codes "continue") d.9 refl,
          sees_other row.Reserved (codes "return") d.9 refl,
          sees_other row.Reserved (codes "while") d.9 refl,
          sees_other row.Reserved (codes "do") d.9 refl,
          sees_other row.Reserved (codes "for") d.9 refl,
          sees_at row.Reserved (codes "try") d.9,
          expect_at row.Reserved (codes "try") d.9,
          v.2,
          expect_at row.Reserved (codes "catch") d.11.1,
          expect_at row.Mark (codes "(") d.12.1,
          expect_at row.Reserved (codes "const") d.13.1,
          within_at (codes "sycl") (codes "exception") d.8 d.4 d.14.0 d.14.1 d.5 d.14.2 d.14.3 d.14.4,
          expect_at row.Mark (codes "&") d.15.1,
          expect_row_at row.Ident name d.16.1,
          expect_at row.Mark (codes ")") d.16.2.1,
          z.2,
          grows {A = Stmt} _ _ _ lt,
        ) refl,
      )
  other_layer m le (Stmt-F.RangeFor s fixed t by_reference name range x) from rest d w =
      let a = whole_stmt m x d.7 rest le d.15.3 in
      let lt : a.0 < 64 = omega (arith, a.1, le, small) in (
        a.0 + 1,
        omega (arith, a.1),
        rw (
          sees_other row.Mark (codes "{") d.8 refl,
          row_at row.Reserved true d.8 refl,
          sees_other row.Reserved (codes "if") d.8 refl,
          sees_other row.Reserved (codes "break") d.8 refl,
          sees_other row.Reserved (codes "continue") d.8 refl,
          sees_other row.Reserved (codes "return") d.8 refl,
          sees_other row.Reserved (codes "while") d.8 refl,
          sees_other row.Reserved (codes "do") d.8 refl,
          sees_at row.Reserved (codes "for") d.8,
          expect_at row.Reserved (codes "for") d.8,
          expect_at row.Mark (codes "(") d.9.1,
          header_read fixed t by_reference name d.1 d.2 d.3 d.4 d.5 d.6 d.10 d.11 d.12 d.13 d.14,
          expect_row_at row.Ident range d.15.1,
          expect_at row.Mark (codes ")") d.15.2.1,
          a.2,
          grows {A = Stmt} _ _ _ lt,
        ) refl,
      )
  other_layer m le _ from rest d w = absurd w

  -- ---- the header of a plain for is none of a range for

  expect_row_none : (r : Row) (us : List Token) → sees_row r us ≡ false → expect_row r us ≡ None
  unfolding sees_row expect_row
  expect_row_none r [] e = refl
  expect_row_none r (t ∷ us) e = rw e refl

  expect_none : (r : Row) (text : List ℕ) (us : List Token) → sees r text us ≡ false → expect r text us ≡ None
  unfolding sees expect
  expect_none r text [] e = refl
  expect_none r text (t ∷ us) e = rw e refl

  header_bare : (from : List Token) → bare_type from ≡ false → sees row.Reserved (codes "const") from ≡ false → sees row.Reserved (codes "auto") from ≡ false → st.range_header from ≡ None
  unfolding st.range_header type_specifier
  header_bare from e c a = by (integral from) refl
    where
      opened_there : (t : IntegerType) (us : List Token) → integral from ≡ Some (t, us) → (b : Bool) → sees row.Mark (codes "(") us ≡ b → sees row.Mark (codes "(") us ≡ true
      opened_there t us is true o = o
      opened_there t us is false o =
          let there = integral_is from us t is in
          let whole_type : bare_type from ≡ true = rw (integral_type t from us there, integral_next (codes "(") t from us there o) refl in
          let clash : true ≡ false = sym whole_type ∙ e in
          absurd cc

      by : (o : Option (IntegerType × List Token)) → integral from ≡ o → st.range_header from ≡ None
      by None is = rw (c, after_none row.Reserved (codes "const") from c, a, is) refl
      by (Some p) is =
          let paren = seen row.Mark (codes "(") p.1 (opened_there p.0 p.1 is (sees row.Mark (codes "(") p.1) refl) in
          rw (c, after_none row.Reserved (codes "const") from c, a, is, after_none row.Mark (codes "&") p.1 (sees_other row.Mark (codes "&") paren.1 refl), expect_row_none row.Ident p.1 (row_at row.Ident false paren.1 refl)) refl

  header_row : (from : List Token) → sees_row row.Reserved from ≡ false → st.range_header from ≡ None
  header_row from e = header_bare from (rw (no_type from e) refl) (no_row row.Reserved (codes "const") from e) (no_row row.Reserved (codes "auto") from e)

  declarator_name : (m : ℕ) (y : DeclaratorLayer) (from rest : List Token) → DeclaratorRule (Derives m) y from rest → sees row.Mark (codes ":") rest ≡ false → (x : Lexeme) × (us : List Token) × Lexed row.Ident x from us × (sees row.Mark (codes ":") us ≡ false)
  unfolding mark
  declarator_name m (Declarator-F.Uninitialized x) from rest d e = (x, rest, d, e)
  declarator_name m (Declarator-F.Equal x s v) from rest d e = (x, d.0, d.2, sees_other row.Mark (codes ":") d.3 refl)
  declarator_name m (Declarator-F.Bracketed x brackets.Parentheses s v c) from rest d e = (x, d.0, d.3, sees_other row.Mark (codes ":") d.4 refl)
  declarator_name m (Declarator-F.Bracketed x brackets.Braces s v c) from rest d e = (x, d.0, d.3, sees_other row.Mark (codes ":") d.4 refl)

  declarators_name : (m : ℕ) (xs : List Declarator) (from rest : List Token) → Listed (OneDeclarator (Derives m)) xs from rest → sees row.Mark (codes ":") rest ≡ false → (x : Lexeme) × (us : List Token) × Lexed row.Ident x from us × (sees row.Mark (codes ":") us ≡ false)
  unfolding mark
  declarators_name m [] from rest d e = absurd d
  declarators_name m (x ∷ []) from rest d e = declarator_name m (out-Declarator x) from rest d e
  declarators_name m (x ∷ y ∷ more) from rest d e = declarator_name m (out-Declarator x) from d.0 d.2 (sees_other row.Mark (codes ":") d.3.1 refl)

  header_typed : (fixed : Bool) (t : TypeSpecifier) (x : Lexeme) (from m k us : List Token) → Maybe (keyword "const") fixed from m → TypeSpecified t m k → Lexed row.Ident x k us → sees row.Mark (codes ":") us ≡ false → st.range_header from ≡ None
  unfolding st.range_header keyword one_word_of keyword_of fixed_width_of
  header_typed fixed t x from m k us a b c e =
      let const_no = type_not (codes "const") refl refl t m k b in
      rw (
        maybe_after row.Reserved (codes "const") fixed from m a const_no,
        type_specifier_read t m k (row_at row.Reserved false c refl) b,
        after_none row.Mark (codes "&") k (sees_other row.Mark (codes "&") c refl),
        expect_row_at row.Ident x c,
        expect_none row.Mark (codes ":") us e,
      ) refl

  header_declared : (m : ℕ) (y : DeclarationLayer) (from rest : List Token) → DeclarationRule (Derives m) y from rest → st.range_header from ≡ None
  unfolding mark keyword identifier one_word_of keyword_of fixed_width_of
  header_declared m (Declaration-F.Integers None t ds e) from rest d =
      let x = declarators_name m ds d.1 d.2 d.5 (sees_other row.Mark (codes ":") d.6 refl) in header_typed false t x.0 from d.0 d.1 x.1 d.3 d.4 x.2 x.3
  header_declared m (Declaration-F.Integers (Some (const.Const s)) t ds e) from rest d =
      let x = declarators_name m ds d.1 d.2 d.5 (sees_other row.Mark (codes ":") d.6 refl) in header_typed true t x.0 from d.0 d.1 x.1 (s, d.3) d.4 x.2 x.3
  header_declared m (Declaration-F.Integers (Some (const.Constexpr s)) t ds e) from rest d =
      header_bare from (no_type_at d.3 refl) (sees_other row.Reserved (codes "const") d.3 refl) (sees_other row.Reserved (codes "auto") d.3 refl)
  header_declared m (Declaration-F.Vector q t x v e) from rest d = header_row from (row_at row.Reserved false d.3.3.2 refl)
  header_declared m (Declaration-F.DeviceVector q x v e) from rest d = header_row from (row_at row.Reserved false d.7.2 refl)
  header_declared m (Declaration-F.ThreadVector q x e) from rest d = header_row from (row_at row.Reserved false d.6.2 refl)
  header_declared m (Declaration-F.Thread q x b l e) from rest d = header_row from (row_at row.Reserved false d.5.2 refl)
  header_declared m (Declaration-F.Object t x v e) from rest d = header_row from (row_at row.Reserved false (object_at t from d.0 d.3).3 refl)

  header_none : (m : ℕ) (y : StmtLayer) (from rest : List Token) → IsInitStatement y → StmtRule (Derives m) y from rest → st.range_header from ≡ None
  unfolding mark
  header_none m (Stmt-F.Null s) from rest w d = header_row from (row_at row.Reserved false d refl)
  header_none m (Stmt-F.Declaration y) from rest w d = header_declared m (out-Declaration y) from rest d
  header_none m (Stmt-F.Expression x e) from rest w d =
      let b = full_begins m (out-FullExpression x) from d.0 d.1 (semicolon_full d.2) in
      let begins = Derives-begins m (an_expr 1 b.0) from b.1 b.2 in
      header_bare from (typed_call m 1 b.0 from b.1 b.2) (begins_no opens_expr row.Reserved (codes "const") refl from begins) (begins_no opens_expr row.Reserved (codes "auto") refl from begins)
  header_none m _ from rest w d = absurd w

  init_read : (m : ℕ) → m ≤ n → (x : Stmt) (from rest : List Token) → InitStatement (Derives m) x from rest → (st.range_header from ≡ None) × ReadsAs (st.simple sub stmt from) m x rest
  unfolding Derives
  init_read zero le x from rest d = absurd d.1
  init_read (suc m) le x from rest d =
      let low : m ≤ n = omega arith in
      (header_none m (out-Stmt x) from rest d.0 d.1, subst (λ z. ReadsAs (st.simple sub stmt from) (suc m) z rest) (stmt_made_out x) (simple_layer m low (out-Stmt x) from rest d.0 d.1).0)

  for_read : (m : ℕ) → m ≤ n → (s : Spot) (a : Stmt) (c : Option Expr) (b : Option FullExpression) (x : Stmt) (from rest : List Token) → StmtRule (Derives m) (Stmt-F.For s a c b x) from rest → StmtAs m (Stmt-F.For s a c b x) from rest
  unfolding st.one_stmt st.reserved_stmt st.loop_or_try st.for_loop st.maybe_range_header st.plain_for mark keyword
  for_read m le s a c b x from rest d =
      let i = init_read m le a d.1 d.2 d.9 in
      let v = maybe_expr_read m le c d.2 d.3 d.4 d.10 d.11.1 in
      let f = maybe_full_read m le b d.4 d.5 d.6 d.12 d.13.1 in
      let z = whole_stmt m x d.6 rest le d.14 in
      let lt : max (max i.1.0 v.0) (max f.0 z.0) < 64 = omega (arith, i.1.1, v.1, f.1, z.1, le, small) in (
        max (max i.1.0 v.0) (max f.0 z.0) + 1,
        omega (arith, i.1.1, v.1, f.1, z.1),
        rw (
          sees_other row.Mark (codes "{") d.7 refl,
          row_at row.Reserved true d.7 refl,
          sees_other row.Reserved (codes "if") d.7 refl,
          sees_other row.Reserved (codes "break") d.7 refl,
          sees_other row.Reserved (codes "continue") d.7 refl,
          sees_other row.Reserved (codes "return") d.7 refl,
          sees_other row.Reserved (codes "while") d.7 refl,
          sees_other row.Reserved (codes "do") d.7 refl,
          sees_at row.Reserved (codes "for") d.7,
          expect_at row.Reserved (codes "for") d.7,
          expect_at row.Mark (codes "(") d.8.1,
          i.0,
          i.1.2,
          v.2,
          expect_at row.Mark (codes ";") d.11.1,
          f.2,
          expect_at row.Mark (codes ")") d.13.1,
          z.2,
          grows {A = Stmt} _ _ _ lt,
        ) refl,
      )

  compound_read : (m : ℕ) → m ≤ n → (b : Block) (from rest : List Token) → StmtRule (Derives m) (Stmt-F.Compound b) from rest → StmtAs m (Stmt-F.Compound b) from rest
  unfolding st.one_stmt st.compound Derives mark
  compound_read m le b from rest d =
      let v = block_read sub stmt n small whole_stmt (suc m) (omega arith) b from rest d in
      (v.0, v.1, rw (sees_at row.Mark (codes "{") d.2, v.2) refl)

  stmt_layer : (m : ℕ) → m ≤ n → (y : StmtLayer) (from rest : List Token) → StmtRule (Derives m) y from rest → StmtAs m y from rest
  stmt_layer m le (Stmt-F.Compound b) from rest d = compound_read m le b from rest d
  stmt_layer m le (Stmt-F.Null s) from rest d = let v = simple_layer m le (Stmt-F.Null s) from rest tt d in (v.0.0, v.0.1, v.1 ∙ v.0.2)
  stmt_layer m le (Stmt-F.Declaration y) from rest d = let v = simple_layer m le (Stmt-F.Declaration y) from rest tt d in (v.0.0, v.0.1, v.1 ∙ v.0.2)
  stmt_layer m le (Stmt-F.Expression x c) from rest d = let v = simple_layer m le (Stmt-F.Expression x c) from rest tt d in (v.0.0, v.0.1, v.1 ∙ v.0.2)
  stmt_layer m le (Stmt-F.Print q xs c) from rest d = other_layer m le (Stmt-F.Print q xs c) from rest d tt
  stmt_layer m le (Stmt-F.Break s c) from rest d = words_layer m le (Stmt-F.Break s c) from rest d tt
  stmt_layer m le (Stmt-F.Continue s c) from rest d = words_layer m le (Stmt-F.Continue s c) from rest d tt
  stmt_layer m le (Stmt-F.Return s x c) from rest d = words_layer m le (Stmt-F.Return s x c) from rest d tt
  stmt_layer m le (Stmt-F.If s c x y) from rest d = words_layer m le (Stmt-F.If s c x y) from rest d tt
  stmt_layer m le (Stmt-F.While s c x) from rest d = words_layer m le (Stmt-F.While s c x) from rest d tt
  stmt_layer m le (Stmt-F.Do s x c z) from rest d = words_layer m le (Stmt-F.Do s x c z) from rest d tt
  stmt_layer m le (Stmt-F.For s a c b x) from rest d = for_read m le s a c b x from rest d
  stmt_layer m le (Stmt-F.RangeFor s fixed t by_reference name range x) from rest d = other_layer m le (Stmt-F.RangeFor s fixed t by_reference name range x) from rest d tt
  stmt_layer m le (Stmt-F.Try s b name c) from rest d = other_layer m le (Stmt-F.Try s b name c) from rest d tt

  pub stmt_read : (m : ℕ) → m ≤ suc n → (x : Stmt) (from rest : List Token) → Derives m (a_stmt x) from rest → ReadsAs (st.one_stmt sub stmt from) m x rest
  unfolding Derives
  stmt_read zero le x from rest d = absurd d
  stmt_read (suc m) le x from rest d =
      let low : m ≤ n = omega arith in
      subst (λ z. ReadsAs (st.one_stmt sub stmt from) (suc m) z rest) (stmt_made_out x) (stmt_layer m low (out-Stmt x) from rest d)
