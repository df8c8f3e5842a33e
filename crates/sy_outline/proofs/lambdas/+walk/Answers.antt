use Rattle.std.proofs.Common.{◌++◌, ◌∷◌, [], List, Option, ap, sym, ◌∙◌}
use Rattle.std.specs.Option.{option_copied}
use Rattle.sy_meaning.specs.Bodies.{lambdas_in}
use Rattle.sy_outline.specs.Parts.{of_all, of_argument, of_declaration, of_declarator, of_full, of_initializer, of_lambda, of_maybe, of_node, of_printed, of_statement, of_typed, of_whole, pointed}
use Rattle.sy_outline.proofs.FormLemmas.{block_is, lambda_is, node_without_parts, typed_is, argument_Braced, argument_Lambda, argument_Value, declaration_DeviceVector, declaration_Object, declaration_Thread, declaration_ThreadVector, declaration_Values, declaration_Vector, full_Assignment, full_Plain, initializer_Copy, initializer_Direct, node_Binary, node_Call, node_Cast, node_Conditional, node_Construct, node_FunctionalCast, node_GroupBarrier, node_LibraryCall, node_MemberCall, node_Parenthesized, node_Postfix, node_Prefix, node_StaticCast, node_Subscript, node_Unary, statement_Break, statement_Compound, statement_Continue, statement_Declaration, statement_Do, statement_Expression, statement_For, statement_If, statement_Null, statement_Print, statement_RangeFor, statement_Return, statement_Try, statement_While}
use Rattle.sy_outline.proofs.StepLemmas.{added_as, added_behind, all_ended, all_on, nothing_added}
use Rattle.sy_typed.specs.declared.tree.Typed.{Typed, out-Typed}
use Rattle.sy_typed.specs.declared.tree.TypedArgument.{TypedArgument}
use Rattle.sy_typed.specs.declared.tree.TypedDeclarator.{TypedDeclarator}
use Rattle.sy_typed.specs.declared.tree.TypedLambda.{out-TypedLambda}
use Rattle.sy_typed.specs.declared.tree.TypedPrinted.{TypedPrinted}
use Rattle.sy_typed.specs.declared.tree.TypedStmt.{TypedStmt}
use Rattle.sy_outline.proofs.lambdas.+walk.Goals as goal

pub in_all_typed-loop-x-preserved : goal.in_all_typed-loop-x-preserved
in_all_typed-loop-x-preserved t c =
    all_on of_typed c.args.xs.now c.loop-x.x-index c.x-item.result (pointed c.args.found.now.items) (pointed c.loop-x.found.items) (pointed c.in_typed.new.found.items)
    c.loop-x-test.true c.x-item.is c.in_ok-in_typed.ensures c.loop-x.invariant

pub in_all_typed-returns : goal.in_all_typed-returns
in_all_typed-returns t c =
    all_ended of_typed c.args.xs.now c.loop-x.x-index (pointed c.args.found.now.items) (pointed c.loop-x.found.items) c.loop-x-test.false c.loop-x.invariant

pub in_arguments-loop-x-preserved : goal.in_arguments-loop-x-preserved
in_arguments-loop-x-preserved t c =
    all_on of_argument c.args.xs.now c.loop-x.x-index c.x-item.result (pointed c.args.found.now.items) (pointed c.loop-x.found.items) (pointed c.in_argument.new.found.items)
    c.loop-x-test.true c.x-item.is c.in_ok-in_argument.ensures c.loop-x.invariant

pub in_arguments-returns : goal.in_arguments-returns
in_arguments-returns t c =
    all_ended of_argument c.args.xs.now c.loop-x.x-index (pointed c.args.found.now.items) (pointed c.loop-x.found.items) c.loop-x-test.false c.loop-x.invariant

pub in_statements-loop-s-preserved : goal.in_statements-loop-s-preserved
in_statements-loop-s-preserved t c =
    all_on of_statement c.args.ss.now c.loop-s.s-index c.s-item.result (pointed c.args.found.now.items) (pointed c.loop-s.found.items) (pointed c.in_statement.new.found.items)
    c.loop-s-test.true c.s-item.is c.in_ok-in_statement.ensures c.loop-s.invariant

pub in_statements-returns : goal.in_statements-returns
in_statements-returns t c =
    all_ended of_statement c.args.ss.now c.loop-s.s-index (pointed c.args.found.now.items) (pointed c.loop-s.found.items) c.loop-s-test.false c.loop-s.invariant

pub in_declarators-loop-d-preserved : goal.in_declarators-loop-d-preserved
in_declarators-loop-d-preserved t c =
    all_on of_declarator c.args.ds.now c.loop-d.d-index c.d-item.result (pointed c.args.found.now.items) (pointed c.loop-d.found.items) (pointed c.in_maybe_typed.new.found.items)
    c.loop-d-test.true c.d-item.is (c.in_ok-in_maybe_typed.ensures ∙ ap (λ z. pointed c.loop-d.found.items ++ z) c.value_of.ensures) c.loop-d.invariant

pub in_declarators-returns : goal.in_declarators-returns
in_declarators-returns t c =
    all_ended of_declarator c.args.ds.now c.loop-d.d-index (pointed c.args.found.now.items) (pointed c.loop-d.found.items) c.loop-d-test.false c.loop-d.invariant

pub in_all_printed-loop-p-preserved : goal.in_all_printed-loop-p-preserved
in_all_printed-loop-p-preserved t c =
    all_on of_printed c.args.ps.now c.loop-p.p-index c.p-item.result (pointed c.args.found.now.items) (pointed c.loop-p.found.items) (pointed c.in_maybe_typed.new.found.items)
    c.loop-p-test.true c.p-item.is (c.in_ok-in_maybe_typed.ensures ∙ ap (λ z. pointed c.loop-p.found.items ++ z) c.operand_of.ensures) c.loop-p.invariant

pub in_all_printed-returns : goal.in_all_printed-returns
in_all_printed-returns t c =
    all_ended of_printed c.args.ps.now c.loop-p.p-index (pointed c.args.found.now.items) (pointed c.loop-p.found.items) c.loop-p-test.false c.loop-p.invariant

pub in_argument-returns-in-Value : goal.in_argument-returns-in-Value
in_argument-returns-in-Value t c =
    added_as c.args.found.now.items c.in_typed.result c.in_typed.new.found.items (of_typed c.in-Value.e) (of_argument c.args.x.now)
    (ap of_argument c.in-Value.is ∙ argument_Value _)
    c.in_typed.ensures

pub in_argument-returns-in-Braced : goal.in_argument-returns-in-Braced
in_argument-returns-in-Braced t c =
    added_as c.args.found.now.items c.in_all_typed.result c.in_all_typed.new.found.items (of_all of_typed c.as_slice.result.now) (of_argument c.args.x.now)
    (ap of_argument c.in-Braced.is ∙ argument_Braced _ _ ∙ ap (λ (z : List Typed). of_all of_typed z) (sym c.as_slice.ensures))
    c.in_all_typed.ensures

pub in_argument-returns-in-Lambda : goal.in_argument-returns-in-Lambda
in_argument-returns-in-Lambda t c =
    added_as c.args.found.now.items c.in_lambda.result c.in_lambda.new.found.items (of_whole c.in-Lambda.l) (of_argument c.args.x.now)
    (ap of_argument c.in-Lambda.is ∙ argument_Lambda _)
    c.in_lambda.ensures

pub in_declaration-returns-in-Values : goal.in_declaration-returns-in-Values
in_declaration-returns-in-Values t c =
    added_as c.args.found.now.items c.in_declarators.result c.in_declarators.new.found.items (of_all of_declarator c.as_slice.result.now) (of_declaration c.args.d.now)
    (ap of_declaration c.in-Values.is ∙ declaration_Values _ _ ∙ ap (λ (z : List TypedDeclarator). of_all of_declarator z) (sym c.as_slice.ensures))
    c.in_declarators.ensures

pub in_declaration-returns-in-Vector : goal.in_declaration-returns-in-Vector
in_declaration-returns-in-Vector t c =
    added_as c.args.found.now.items c.in_maybe_initializer.result c.in_maybe_initializer.new.found.items (of_maybe of_initializer c.in-Vector.i) (of_declaration c.args.d.now)
    (ap of_declaration c.in-Vector.is ∙ declaration_Vector _ _ _)
    c.in_maybe_initializer.ensures

pub in_declaration-returns-in-DeviceVector : goal.in_declaration-returns-in-DeviceVector
in_declaration-returns-in-DeviceVector t c =
    added_as c.args.found.now.items c.in_maybe_initializer-in-DeviceVector.result c.in_maybe_initializer-in-DeviceVector.new.found.items (of_maybe of_initializer c.in-DeviceVector.i) (of_declaration c.args.d.now)
    (ap of_declaration c.in-DeviceVector.is ∙ declaration_DeviceVector _ _ _)
    c.in_maybe_initializer-in-DeviceVector.ensures

pub in_declaration-returns-in-ThreadVector : goal.in_declaration-returns-in-ThreadVector
in_declaration-returns-in-ThreadVector t c =
    nothing_added (pointed c.args.found.now.items) (of_declaration c.args.d.now) (ap of_declaration c.in-ThreadVector.is ∙ declaration_ThreadVector _ _)

pub in_declaration-returns-in-Thread : goal.in_declaration-returns-in-Thread
in_declaration-returns-in-Thread t c =
    added_as c.args.found.now.items c.in_lambda.result c.in_lambda.new.found.items (of_whole c.in-Thread.l) (of_declaration c.args.d.now)
    (ap of_declaration c.in-Thread.is ∙ declaration_Thread _ _ _)
    c.in_lambda.ensures

pub in_declaration-returns-in-Object : goal.in_declaration-returns-in-Object
in_declaration-returns-in-Object t c =
    added_as c.args.found.now.items c.in_maybe_initializer-in-Object.result c.in_maybe_initializer-in-Object.new.found.items (of_maybe of_initializer c.in-Object.i) (of_declaration c.args.d.now)
    (ap of_declaration c.in-Object.is ∙ declaration_Object _ _ _)
    c.in_maybe_initializer-in-Object.ensures

pub in_form-returns-in-Compound : goal.in_form-returns-in-Compound
in_form-returns-in-Compound t c =
    added_as c.args.found.now.items c.in_block.result c.in_block.new.found.items (lambdas_in c.in-Compound.b) (of_statement c.args.s.now)
    (ap of_statement c.in-Compound.is ∙ statement_Compound _)
    c.in_block.ensures

pub in_form-returns-in-Null : goal.in_form-returns-in-Null
in_form-returns-in-Null t c =
    nothing_added (pointed c.args.found.now.items) (of_statement c.args.s.now) (ap of_statement c.in-Null.is ∙ statement_Null _)

pub in_form-returns-in-Declaration : goal.in_form-returns-in-Declaration
in_form-returns-in-Declaration t c =
    added_as c.args.found.now.items c.in_declaration.result c.in_declaration.new.found.items (of_declaration c.in-Declaration.d) (of_statement c.args.s.now)
    (ap of_statement c.in-Declaration.is ∙ statement_Declaration _)
    c.in_declaration.ensures

pub in_form-returns-in-Expression : goal.in_form-returns-in-Expression
in_form-returns-in-Expression t c =
    added_as c.args.found.now.items c.in_full.result c.in_full.new.found.items (of_full c.in-Expression.f) (of_statement c.args.s.now)
    (ap of_statement c.in-Expression.is ∙ statement_Expression _ _)
    c.in_full.ensures

pub in_form-returns-in-Print : goal.in_form-returns-in-Print
in_form-returns-in-Print t c =
    added_as c.args.found.now.items c.in_all_printed.result c.in_all_printed.new.found.items (of_all of_printed c.as_slice.result.now) (of_statement c.args.s.now)
    (ap of_statement c.in-Print.is ∙ statement_Print _ _ ∙ ap (λ (z : List TypedPrinted). of_all of_printed z) (sym c.as_slice.ensures))
    c.in_all_printed.ensures

pub in_form-returns-in-Break : goal.in_form-returns-in-Break
in_form-returns-in-Break t c =
    nothing_added (pointed c.args.found.now.items) (of_statement c.args.s.now) (ap of_statement c.in-Break.is ∙ statement_Break _ _)

pub in_form-returns-in-Continue : goal.in_form-returns-in-Continue
in_form-returns-in-Continue t c =
    nothing_added (pointed c.args.found.now.items) (of_statement c.args.s.now) (ap of_statement c.in-Continue.is ∙ statement_Continue _ _)

pub in_form-returns-in-Return : goal.in_form-returns-in-Return
in_form-returns-in-Return t c =
    added_as c.args.found.now.items c.in_maybe_typed.result c.in_maybe_typed.new.found.items (of_maybe of_typed (option_copied c.as_ref.result)) (of_statement c.args.s.now)
    (ap of_statement c.in-Return.is ∙ statement_Return _ _ _ ∙ ap (λ (z : Option Typed). of_maybe of_typed z) (sym c.as_ref.ensures.value))
    c.in_maybe_typed.ensures

pub in_form-returns-in_ok-in_statement-in-If : goal.in_form-returns-in_ok-in_statement-in-If
in_form-returns-in_ok-in_statement-in-If t c =
    added_as c.args.found.now.items c.in_else.result c.in_else.new.found.items (of_typed c.in-If.c ++ (of_statement c.get.result.now ++ of_maybe of_statement c.in-If.b)) (of_statement c.args.s.now)
    (ap of_statement c.in-If.is ∙ statement_If _ _ _ _ ∙ ap (λ (z : TypedStmt). of_typed c.in-If.c ++ (of_statement z ++ of_maybe of_statement c.in-If.b)) (sym c.get.ensures))
    (added_behind c.args.found.now.items c.in_typed.new.found.items c.in_else.result c.in_else.new.found.items (of_typed c.in-If.c) (of_statement c.get.result.now ++ of_maybe of_statement c.in-If.b)
    c.in_ok-in_typed-in-If.ensures (added_behind c.in_typed.new.found.items c.in_statement.new.found.items c.in_else.result c.in_else.new.found.items (of_statement c.get.result.now) (of_maybe of_statement c.in-If.b)
    c.in_ok-in_statement-in-If.ensures c.in_else.ensures))

pub in_form-returns-in_ok-in_typed-in-While : goal.in_form-returns-in_ok-in_typed-in-While
in_form-returns-in_ok-in_typed-in-While t c =
    added_as c.args.found.now.items c.in_statement-in-While.result c.in_statement-in-While.new.found.items (of_typed c.in-While.c ++ of_statement c.get-in-While.result.now) (of_statement c.args.s.now)
    (ap of_statement c.in-While.is ∙ statement_While _ _ _ ∙ ap (λ (z : TypedStmt). of_typed c.in-While.c ++ of_statement z) (sym c.get-in-While.ensures))
    (added_behind c.args.found.now.items c.in_typed-in-While.new.found.items c.in_statement-in-While.result c.in_statement-in-While.new.found.items (of_typed c.in-While.c) (of_statement c.get-in-While.result.now)
    c.in_ok-in_typed-in-While.ensures c.in_statement-in-While.ensures)

pub in_form-returns-in_ok-in_statement-in-Do : goal.in_form-returns-in_ok-in_statement-in-Do
in_form-returns-in_ok-in_statement-in-Do t c =
    added_as c.args.found.now.items c.in_typed-in-Do.result c.in_typed-in-Do.new.found.items (of_statement c.get-in-Do.result.now ++ of_typed c.in-Do.c) (of_statement c.args.s.now)
    (ap of_statement c.in-Do.is ∙ statement_Do _ _ _ _ ∙ ap (λ (z : TypedStmt). of_statement z ++ of_typed c.in-Do.c) (sym c.get-in-Do.ensures))
    (added_behind c.args.found.now.items c.in_statement-in-Do.new.found.items c.in_typed-in-Do.result c.in_typed-in-Do.new.found.items (of_statement c.get-in-Do.result.now) (of_typed c.in-Do.c)
    c.in_ok-in_statement-in-Do.ensures c.in_typed-in-Do.ensures)

pub in_form-returns-in_ok-in_maybe_full-in-For : goal.in_form-returns-in_ok-in_maybe_full-in-For
in_form-returns-in_ok-in_maybe_full-in-For t c =
    added_as c.args.found.now.items c.in_statement-in-For-2.result c.in_statement-in-For-2.new.found.items (of_statement c.get-in-For.result.now ++ (of_maybe of_typed (option_copied c.as_ref-in-For.result) ++ (of_maybe of_full c.in-For.step ++ of_statement c.get-in-For-2.result.now))) (of_statement c.args.s.now)
    (ap of_statement c.in-For.is ∙ statement_For _ _ _ _ _ ∙ ap (λ (z : TypedStmt). of_statement z ++ (of_maybe of_typed c.in-For.c ++ (of_maybe of_full c.in-For.step ++ of_statement c.in-For.b))) (sym c.get-in-For.ensures) ∙ ap (λ (z : Option Typed). of_statement c.get-in-For.result.now ++ (of_maybe of_typed z ++ (of_maybe of_full c.in-For.step ++ of_statement c.in-For.b))) (sym c.as_ref-in-For.ensures.value) ∙ ap (λ (z : TypedStmt). of_statement c.get-in-For.result.now ++ (of_maybe of_typed (option_copied c.as_ref-in-For.result) ++ (of_maybe of_full c.in-For.step ++ of_statement z))) (sym c.get-in-For-2.ensures))
    (added_behind c.args.found.now.items c.in_statement-in-For.new.found.items c.in_statement-in-For-2.result c.in_statement-in-For-2.new.found.items (of_statement c.get-in-For.result.now) (of_maybe of_typed (option_copied c.as_ref-in-For.result) ++ (of_maybe of_full c.in-For.step ++ of_statement c.get-in-For-2.result.now))
    c.in_ok-in_statement-in-For.ensures (added_behind c.in_statement-in-For.new.found.items c.in_maybe_typed-in-For.new.found.items c.in_statement-in-For-2.result c.in_statement-in-For-2.new.found.items (of_maybe of_typed (option_copied c.as_ref-in-For.result)) (of_maybe of_full c.in-For.step ++ of_statement c.get-in-For-2.result.now)
    c.in_ok-in_maybe_typed-in-For.ensures (added_behind c.in_maybe_typed-in-For.new.found.items c.in_maybe_full.new.found.items c.in_statement-in-For-2.result c.in_statement-in-For-2.new.found.items (of_maybe of_full c.in-For.step) (of_statement c.get-in-For-2.result.now)
    c.in_ok-in_maybe_full-in-For.ensures c.in_statement-in-For-2.ensures)))

pub in_form-returns-in-RangeFor : goal.in_form-returns-in-RangeFor
in_form-returns-in-RangeFor t c =
    added_as c.args.found.now.items c.in_statement-in-RangeFor.result c.in_statement-in-RangeFor.new.found.items (of_statement c.get-in-RangeFor.result.now) (of_statement c.args.s.now)
    (ap of_statement c.in-RangeFor.is ∙ statement_RangeFor _ _ _ _ _ ∙ ap (λ (z : TypedStmt). of_statement z) (sym c.get-in-RangeFor.ensures))
    c.in_statement-in-RangeFor.ensures

pub in_form-returns-in_ok-in_block-in-Try : goal.in_form-returns-in_ok-in_block-in-Try
in_form-returns-in_ok-in_block-in-Try t c =
    added_as c.args.found.now.items c.in_block-in-Try-2.result c.in_block-in-Try-2.new.found.items (lambdas_in c.in-Try.b ++ lambdas_in c.in-Try.h) (of_statement c.args.s.now)
    (ap of_statement c.in-Try.is ∙ statement_Try _ _ _ _)
    (added_behind c.args.found.now.items c.in_block-in-Try.new.found.items c.in_block-in-Try-2.result c.in_block-in-Try-2.new.found.items (lambdas_in c.in-Try.b) (lambdas_in c.in-Try.h)
    c.in_ok-in_block-in-Try.ensures c.in_block-in-Try-2.ensures)

pub in_full-returns-in-Plain : goal.in_full-returns-in-Plain
in_full-returns-in-Plain t c =
    added_as c.args.found.now.items c.in_typed.result c.in_typed.new.found.items (of_typed c.in-Plain.e) (of_full c.args.x.now)
    (ap of_full c.in-Plain.is ∙ full_Plain _)
    c.in_typed.ensures

pub in_full-returns-in-Assignment : goal.in_full-returns-in-Assignment
in_full-returns-in-Assignment t c =
    added_as c.args.found.now.items c.in_two.result c.in_two.new.found.items (of_typed c.in-Assignment.a ++ of_typed c.in-Assignment.b) (of_full c.args.x.now)
    (ap of_full c.in-Assignment.is ∙ full_Assignment _ _ _ _)
    c.in_two.ensures

pub in_initializer-returns-in-Copy : goal.in_initializer-returns-in-Copy
in_initializer-returns-in-Copy t c =
    added_as c.args.found.now.items c.in_typed.result c.in_typed.new.found.items (of_typed c.in-Copy.e) (of_initializer c.args.x.now)
    (ap of_initializer c.in-Copy.is ∙ initializer_Copy _)
    c.in_typed.ensures

pub in_initializer-returns-in-Direct : goal.in_initializer-returns-in-Direct
in_initializer-returns-in-Direct t c =
    added_as c.args.found.now.items c.in_arguments.result c.in_arguments.new.found.items (of_all of_argument c.as_slice.result.now) (of_initializer c.args.x.now)
    (ap of_initializer c.in-Direct.is ∙ initializer_Direct _ _ _ ∙ ap (λ (z : List TypedArgument). of_all of_argument z) (sym c.as_slice.ensures))
    c.in_arguments.ensures

pub in_node-returns-in-Call : goal.in_node-returns-in-Call
in_node-returns-in-Call t c =
    added_as c.args.found.now.items c.in_all_typed.result c.in_all_typed.new.found.items (of_all of_typed c.as_slice.result.now) (of_node c.args.n.now)
    (ap of_node c.in-Call.is ∙ node_Call _ _ _ ∙ ap (λ (z : List Typed). of_all of_typed z) (sym c.as_slice.ensures))
    c.in_all_typed.ensures

pub in_node-returns-in-Parenthesized : goal.in_node-returns-in-Parenthesized
in_node-returns-in-Parenthesized t c =
    added_as c.args.found.now.items c.in_typed.result c.in_typed.new.found.items (of_typed c.get.result.now) (of_node c.args.n.now)
    (ap of_node c.in-Parenthesized.is ∙ node_Parenthesized _ _ ∙ ap (λ (z : Typed). of_typed z) (sym c.get.ensures))
    c.in_typed.ensures

pub in_node-returns-in-StaticCast : goal.in_node-returns-in-StaticCast
in_node-returns-in-StaticCast t c =
    added_as c.args.found.now.items c.in_typed-in-StaticCast.result c.in_typed-in-StaticCast.new.found.items (of_typed c.get-in-StaticCast.result.now) (of_node c.args.n.now)
    (ap of_node c.in-StaticCast.is ∙ node_StaticCast _ _ ∙ ap (λ (z : Typed). of_typed z) (sym c.get-in-StaticCast.ensures))
    c.in_typed-in-StaticCast.ensures

pub in_node-returns-in-FunctionalCast : goal.in_node-returns-in-FunctionalCast
in_node-returns-in-FunctionalCast t c =
    added_as c.args.found.now.items c.in_typed-in-FunctionalCast.result c.in_typed-in-FunctionalCast.new.found.items (of_typed c.get-in-FunctionalCast.result.now) (of_node c.args.n.now)
    (ap of_node c.in-FunctionalCast.is ∙ node_FunctionalCast _ _ ∙ ap (λ (z : Typed). of_typed z) (sym c.get-in-FunctionalCast.ensures))
    c.in_typed-in-FunctionalCast.ensures

pub in_node-returns-in-GroupBarrier : goal.in_node-returns-in-GroupBarrier
in_node-returns-in-GroupBarrier t c =
    added_as c.args.found.now.items c.in_typed-in-GroupBarrier.result c.in_typed-in-GroupBarrier.new.found.items (of_typed c.get-in-GroupBarrier.result.now) (of_node c.args.n.now)
    (ap of_node c.in-GroupBarrier.is ∙ node_GroupBarrier _ _ ∙ ap (λ (z : Typed). of_typed z) (sym c.get-in-GroupBarrier.ensures))
    c.in_typed-in-GroupBarrier.ensures

pub in_node-returns-in-Postfix : goal.in_node-returns-in-Postfix
in_node-returns-in-Postfix t c =
    added_as c.args.found.now.items c.in_typed-in-Postfix.result c.in_typed-in-Postfix.new.found.items (of_typed c.get-in-Postfix.result.now) (of_node c.args.n.now)
    (ap of_node c.in-Postfix.is ∙ node_Postfix _ _ ∙ ap (λ (z : Typed). of_typed z) (sym c.get-in-Postfix.ensures))
    c.in_typed-in-Postfix.ensures

pub in_node-returns-in-Prefix : goal.in_node-returns-in-Prefix
in_node-returns-in-Prefix t c =
    added_as c.args.found.now.items c.in_typed-in-Prefix.result c.in_typed-in-Prefix.new.found.items (of_typed c.get-in-Prefix.result.now) (of_node c.args.n.now)
    (ap of_node c.in-Prefix.is ∙ node_Prefix _ _ ∙ ap (λ (z : Typed). of_typed z) (sym c.get-in-Prefix.ensures))
    c.in_typed-in-Prefix.ensures

pub in_node-returns-in-Unary : goal.in_node-returns-in-Unary
in_node-returns-in-Unary t c =
    added_as c.args.found.now.items c.in_typed-in-Unary.result c.in_typed-in-Unary.new.found.items (of_typed c.get-in-Unary.result.now) (of_node c.args.n.now)
    (ap of_node c.in-Unary.is ∙ node_Unary _ _ ∙ ap (λ (z : Typed). of_typed z) (sym c.get-in-Unary.ensures))
    c.in_typed-in-Unary.ensures

pub in_node-returns-in-Cast : goal.in_node-returns-in-Cast
in_node-returns-in-Cast t c =
    added_as c.args.found.now.items c.in_typed-in-Cast.result c.in_typed-in-Cast.new.found.items (of_typed c.get-in-Cast.result.now) (of_node c.args.n.now)
    (ap of_node c.in-Cast.is ∙ node_Cast _ ∙ ap (λ (z : Typed). of_typed z) (sym c.get-in-Cast.ensures))
    c.in_typed-in-Cast.ensures

pub in_node-returns-in-Construct : goal.in_node-returns-in-Construct
in_node-returns-in-Construct t c =
    added_as c.args.found.now.items c.in_arguments.result c.in_arguments.new.found.items (of_all of_argument c.as_slice-in-Construct.result.now) (of_node c.args.n.now)
    (ap of_node c.in-Construct.is ∙ node_Construct _ _ ∙ ap (λ (z : List TypedArgument). of_all of_argument z) (sym c.as_slice-in-Construct.ensures))
    c.in_arguments.ensures

pub in_node-returns-in-LibraryCall : goal.in_node-returns-in-LibraryCall
in_node-returns-in-LibraryCall t c =
    added_as c.args.found.now.items c.in_arguments-in-LibraryCall.result c.in_arguments-in-LibraryCall.new.found.items (of_all of_argument c.as_slice-in-LibraryCall.result.now) (of_node c.args.n.now)
    (ap of_node c.in-LibraryCall.is ∙ node_LibraryCall _ _ _ ∙ ap (λ (z : List TypedArgument). of_all of_argument z) (sym c.as_slice-in-LibraryCall.ensures))
    c.in_arguments-in-LibraryCall.ensures

pub in_node-returns-in-Subscript : goal.in_node-returns-in-Subscript
in_node-returns-in-Subscript t c =
    added_as c.args.found.now.items c.in_two.result c.in_two.new.found.items (of_typed c.get-in-Subscript.result.now ++ of_typed c.get-in-Subscript-2.result.now) (of_node c.args.n.now)
    (ap of_node c.in-Subscript.is ∙ node_Subscript _ _ _ ∙ ap (λ (z : Typed). of_typed z ++ of_typed c.in-Subscript.i) (sym c.get-in-Subscript.ensures) ∙ ap (λ (z : Typed). of_typed c.get-in-Subscript.result.now ++ of_typed z) (sym c.get-in-Subscript-2.ensures))
    c.in_two.ensures

pub in_node-returns-in_ok-in_typed-in-MemberCall : goal.in_node-returns-in_ok-in_typed-in-MemberCall
in_node-returns-in_ok-in_typed-in-MemberCall t c =
    added_as c.args.found.now.items c.in_arguments-in-MemberCall.result c.in_arguments-in-MemberCall.new.found.items (of_typed c.get-in-MemberCall.result.now ++ of_all of_argument c.as_slice-in-MemberCall.result.now) (of_node c.args.n.now)
    (ap of_node c.in-MemberCall.is ∙ node_MemberCall _ _ _ _ ∙ ap (λ (z : Typed). of_typed z ++ of_all of_argument c.in-MemberCall.xs) (sym c.get-in-MemberCall.ensures) ∙ ap (λ (z : List TypedArgument). of_typed c.get-in-MemberCall.result.now ++ of_all of_argument z) (sym c.as_slice-in-MemberCall.ensures))
    (added_behind c.args.found.now.items c.in_typed-in-MemberCall.new.found.items c.in_arguments-in-MemberCall.result c.in_arguments-in-MemberCall.new.found.items (of_typed c.get-in-MemberCall.result.now) (of_all of_argument c.as_slice-in-MemberCall.result.now)
    c.in_ok-in_typed-in-MemberCall.ensures c.in_arguments-in-MemberCall.ensures)

pub in_node-returns-in-Binary : goal.in_node-returns-in-Binary
in_node-returns-in-Binary t c =
    added_as c.args.found.now.items c.in_two-in-Binary.result c.in_two-in-Binary.new.found.items (of_typed c.get-in-Binary.result.now ++ of_typed c.get-in-Binary-2.result.now) (of_node c.args.n.now)
    (ap of_node c.in-Binary.is ∙ node_Binary _ _ _ ∙ ap (λ (z : Typed). of_typed z ++ of_typed c.in-Binary.b) (sym c.get-in-Binary.ensures) ∙ ap (λ (z : Typed). of_typed c.get-in-Binary.result.now ++ of_typed z) (sym c.get-in-Binary-2.ensures))
    c.in_two-in-Binary.ensures

pub in_node-returns-in_ok-in_typed-in-Conditional : goal.in_node-returns-in_ok-in_typed-in-Conditional
in_node-returns-in_ok-in_typed-in-Conditional t c =
    added_as c.args.found.now.items c.in_two-in-Conditional.result c.in_two-in-Conditional.new.found.items (of_typed c.get-in-Conditional.result.now ++ (of_typed c.get-in-Conditional-2.result.now ++ of_typed c.get-in-Conditional-3.result.now)) (of_node c.args.n.now)
    (ap of_node c.in-Conditional.is ∙ node_Conditional _ _ _ ∙ ap (λ (z : Typed). of_typed z ++ (of_typed c.in-Conditional.a ++ of_typed c.in-Conditional.b)) (sym c.get-in-Conditional.ensures) ∙ ap (λ (z : Typed). of_typed c.get-in-Conditional.result.now ++ (of_typed z ++ of_typed c.in-Conditional.b)) (sym c.get-in-Conditional-2.ensures) ∙ ap (λ (z : Typed). of_typed c.get-in-Conditional.result.now ++ (of_typed c.get-in-Conditional-2.result.now ++ of_typed z)) (sym c.get-in-Conditional-3.ensures))
    (added_behind c.args.found.now.items c.in_typed-in-Conditional.new.found.items c.in_two-in-Conditional.result c.in_two-in-Conditional.new.found.items (of_typed c.get-in-Conditional.result.now) ((of_typed c.get-in-Conditional-2.result.now ++ of_typed c.get-in-Conditional-3.result.now))
    c.in_ok-in_typed-in-Conditional.ensures c.in_two-in-Conditional.ensures)

pub in_typed-returns : goal.in_typed-returns
in_typed-returns t c =
    added_as c.args.found.now.items c.in_node.result c.in_node.new.found.items (of_node (out-Typed c.args.x.now).node) (of_typed c.args.x.now) (typed_is c.args.x.now) c.in_node.ensures

pub in_block-returns : goal.in_block-returns
in_block-returns t c =
    added_as c.args.found.now.items c.in_statements.result c.in_statements.new.found.items (of_all of_statement c.as_slice.result.now) (lambdas_in c.args.block.now)
    (block_is c.args.block.now ∙ ap (λ (z : List TypedStmt). of_all of_statement z) (sym c.as_slice.ensures)) c.in_statements.ensures

pub in_lambda-returns : goal.in_lambda-returns
in_lambda-returns t c =
    added_behind c.args.found.now.items c.add.new.found.items c.in_block.result c.in_block.new.found.items (c.args.lambda.now ∷ []) (of_lambda c.args.lambda.now) c.in_ok-add.ensures
    (added_as c.add.new.found.items c.in_block.result c.in_block.new.found.items (lambdas_in (out-TypedLambda c.args.lambda.now).body) (of_lambda c.args.lambda.now) (lambda_is c.args.lambda.now) c.in_block.ensures)

pub in_node-returns-in_default : goal.in_node-returns-in_default
in_node-returns-in_default t c =
    let d = c.in_default in
    nothing_added (pointed c.args.found.now.items) (of_node c.args.n.now)
    (node_without_parts c.args.n.now
    (record { not_call = d.not-Call; not_parenthesized = d.not-Parenthesized; not_staticcast = d.not-StaticCast; not_functionalcast = d.not-FunctionalCast; not_construct = d.not-Construct; not_groupbarrier = d.not-GroupBarrier; not_librarycall = d.not-LibraryCall; not_subscript = d.not-Subscript; not_membercall = d.not-MemberCall; not_postfix = d.not-Postfix; not_prefix = d.not-Prefix; not_unary = d.not-Unary; not_cast = d.not-Cast; not_binary = d.not-Binary; not_conditional = d.not-Conditional }))
