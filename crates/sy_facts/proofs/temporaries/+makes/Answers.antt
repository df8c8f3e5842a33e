use Rattle.std.proofs.Common.{◌∙◌, ◌||◌, List, map, ap, refl, sym}
use Rattle.std.specs.List.{list_any}
use Rattle.sy_facts.proofs.FormLemmas.{any_here, any_next, any_nowhere, argument_Braced, argument_Value, field_is, field_told, form_is, node_Binary, node_Call, node_Cast, node_Conditional, node_Construct, node_FunctionalCast, node_GroupBarrier, node_LibraryCall, node_MemberCall, node_Parenthesized, node_Postfix, node_Prefix, node_StaticCast, node_Unary, subscript_makes, told_is}
use Rattle.sy_facts.specs.Parts.{argument}
use Rattle.sy_meaning.specs.Expressions.{Exp, makes_of}
use Rattle.sy_meaning.specs.Making.{has_end}
use Rattle.sy_meaning.specs.Statements.{any_makes, argument_makes}
use Rattle.sy_meaning.specs.Turns.{expression}
use Rattle.sy_typed.specs.declared.tree.Typed.{Typed, out-Typed}
use Rattle.sy_typed.specs.declared.tree.TypedArgument.{TypedArgument}
use Rattle.sy_facts.proofs.temporaries.+makes.Goals as goal

pub any_makes_in-returns-then-branch : goal.any_makes_in-returns-then-branch
any_makes_in-returns-then-branch t c = λ calls limit.
    any_here makes_of (expression calls limit) c.args.xs.now c.loop-x.x-index c.x-item.result c.in_ok-makes_in.field-0 c.loop-x-test.true c.x-item.is (c.in_ok-makes_in.ensures calls limit) c.if-branch.true
    ∙ c.loop-x.invariant calls limit

pub any_makes_in-loop-x-preserved : goal.any_makes_in-loop-x-preserved
any_makes_in-loop-x-preserved t c = λ calls limit.
    any_next makes_of (expression calls limit) c.args.xs.now c.loop-x.x-index c.x-item.result c.in_ok-makes_in.field-0 c.loop-x-test.true c.x-item.is (c.in_ok-makes_in.ensures calls limit) c.if-branch.false
    ∙ c.loop-x.invariant calls limit

pub any_makes_in-returns : goal.any_makes_in-returns
any_makes_in-returns t c = λ calls limit.
    any_nowhere makes_of (expression calls limit) c.args.xs.now c.loop-x.x-index c.loop-x-test.false ∙ c.loop-x.invariant calls limit

pub arguments_make_in-returns-then-branch : goal.arguments_make_in-returns-then-branch
arguments_make_in-returns-then-branch t c = λ calls limit.
    any_here argument_makes (argument calls limit) c.args.xs.now c.loop-x.x-index c.x-item.result c.in_ok-argument_makes_in.field-0 c.loop-x-test.true c.x-item.is (c.in_ok-argument_makes_in.ensures calls limit) c.if-branch.true
    ∙ c.loop-x.invariant calls limit

pub arguments_make_in-loop-x-preserved : goal.arguments_make_in-loop-x-preserved
arguments_make_in-loop-x-preserved t c = λ calls limit.
    any_next argument_makes (argument calls limit) c.args.xs.now c.loop-x.x-index c.x-item.result c.in_ok-argument_makes_in.field-0 c.loop-x-test.true c.x-item.is (c.in_ok-argument_makes_in.ensures calls limit) c.if-branch.false
    ∙ c.loop-x.invariant calls limit

pub arguments_make_in-returns : goal.arguments_make_in-returns
arguments_make_in-returns t c = λ calls limit.
    any_nowhere argument_makes (argument calls limit) c.args.xs.now c.loop-x.x-index c.loop-x-test.false ∙ c.loop-x.invariant calls limit

pub argument_makes_in-returns-in-Value : goal.argument_makes_in-returns-in-Value
argument_makes_in-returns-in-Value t c = λ calls limit.
    told_is calls limit c.makes_in.result _ _ (ap (λ (x : TypedArgument). argument_makes (argument calls limit x)) c.in-Value.is ∙ ap argument_makes (argument_Value calls limit _)) (c.makes_in.ensures calls limit)

pub argument_makes_in-returns-in-Braced : goal.argument_makes_in-returns-in-Braced
argument_makes_in-returns-in-Braced t c = λ calls limit.
    told_is calls limit c.any_makes_in.result _ _
    (ap (λ (x : TypedArgument). argument_makes (argument calls limit x)) c.in-Braced.is ∙ ap argument_makes (argument_Braced calls limit _ _) ∙ ap (λ (es : List Typed). list_any makes_of (map (expression calls limit) es)) (sym c.as_slice.ensures))
    (c.any_makes_in.ensures calls limit)

pub makes_in-returns-in-Parenthesized : goal.makes_in-returns-in-Parenthesized
makes_in-returns-in-Parenthesized t c = λ calls limit.
    field_is calls limit (λ (x : Exp). x.makes) c.args.e.now _ c.get.result.now _ _ c.makes_in.result c.in-Parenthesized.is (node_Parenthesized calls limit _ _) refl c.get.ensures (c.makes_in.ensures calls limit)

pub makes_in-returns-in-StaticCast : goal.makes_in-returns-in-StaticCast
makes_in-returns-in-StaticCast t c = λ calls limit.
    field_is calls limit (λ (x : Exp). x.makes) c.args.e.now _ c.get-in-StaticCast.result.now _ _ c.makes_in-in-StaticCast.result c.in-StaticCast.is (node_StaticCast calls limit _ _) refl c.get-in-StaticCast.ensures (c.makes_in-in-StaticCast.ensures calls limit)

pub makes_in-returns-in-FunctionalCast : goal.makes_in-returns-in-FunctionalCast
makes_in-returns-in-FunctionalCast t c = λ calls limit.
    field_is calls limit (λ (x : Exp). x.makes) c.args.e.now _ c.get-in-FunctionalCast.result.now _ _ c.makes_in-in-FunctionalCast.result c.in-FunctionalCast.is (node_FunctionalCast calls limit _ _) refl c.get-in-FunctionalCast.ensures (c.makes_in-in-FunctionalCast.ensures calls limit)

pub makes_in-returns-in-GroupBarrier : goal.makes_in-returns-in-GroupBarrier
makes_in-returns-in-GroupBarrier t c = λ calls limit.
    field_is calls limit (λ (x : Exp). x.makes) c.args.e.now _ c.get-in-GroupBarrier.result.now _ _ c.makes_in-in-GroupBarrier.result c.in-GroupBarrier.is (node_GroupBarrier calls limit _ _) refl c.get-in-GroupBarrier.ensures (c.makes_in-in-GroupBarrier.ensures calls limit)

pub makes_in-returns-in-Postfix : goal.makes_in-returns-in-Postfix
makes_in-returns-in-Postfix t c = λ calls limit.
    field_is calls limit (λ (x : Exp). x.makes) c.args.e.now _ c.get-in-Postfix.result.now _ _ c.makes_in-in-Postfix.result c.in-Postfix.is (node_Postfix calls limit _ _) refl c.get-in-Postfix.ensures (c.makes_in-in-Postfix.ensures calls limit)

pub makes_in-returns-in-Prefix : goal.makes_in-returns-in-Prefix
makes_in-returns-in-Prefix t c = λ calls limit.
    field_is calls limit (λ (x : Exp). x.makes) c.args.e.now _ c.get-in-Prefix.result.now _ _ c.makes_in-in-Prefix.result c.in-Prefix.is (node_Prefix calls limit _ _) refl c.get-in-Prefix.ensures (c.makes_in-in-Prefix.ensures calls limit)

pub makes_in-returns-in-Unary : goal.makes_in-returns-in-Unary
makes_in-returns-in-Unary t c = λ calls limit.
    field_is calls limit (λ (x : Exp). x.makes) c.args.e.now _ c.get-in-Unary.result.now _ _ c.makes_in-in-Unary.result c.in-Unary.is (node_Unary calls limit _ _) refl c.get-in-Unary.ensures (c.makes_in-in-Unary.ensures calls limit)

pub makes_in-returns-in-Cast : goal.makes_in-returns-in-Cast
makes_in-returns-in-Cast t c = λ calls limit.
    field_is calls limit (λ (x : Exp). x.makes) c.args.e.now _ c.get-in-Cast.result.now _ _ c.makes_in-in-Cast.result c.in-Cast.is (node_Cast calls limit _) refl c.get-in-Cast.ensures (c.makes_in-in-Cast.ensures calls limit)

pub makes_in-returns-in-Call : goal.makes_in-returns-in-Call
makes_in-returns-in-Call t c = λ calls limit.
    field_told calls limit (λ (x : Exp). x.makes) c.args.e.now _ _ c.any_makes_in.result _ c.in-Call.is (node_Call calls limit _ _ _)
    (ap (λ (es : List Typed). list_any makes_of (map (expression calls limit) es)) (sym c.as_slice.ensures)) (c.any_makes_in.ensures calls limit)

pub makes_in-returns-in-LibraryCall : goal.makes_in-returns-in-LibraryCall
makes_in-returns-in-LibraryCall t c = λ calls limit.
    field_told calls limit (λ (x : Exp). x.makes) c.args.e.now _ _ c.arguments_make_in-in-LibraryCall.result _ c.in-LibraryCall.is (node_LibraryCall calls limit _ _ _)
    (ap (λ (xs : List TypedArgument). any_makes (map (argument calls limit) xs)) (sym c.as_slice-in-LibraryCall.ensures)) (c.arguments_make_in-in-LibraryCall.ensures calls limit)

pub makes_in-returns-in-Subscript : goal.makes_in-returns-in-Subscript
makes_in-returns-in-Subscript t c = λ calls limit.
    told_is calls limit c.either_makes.result _ _
    (subscript_makes calls limit c.args.e.now _ _ _ c.in-Subscript.is
    ∙ ap (λ (x : Typed). (expression calls limit x).makes || (expression calls limit c.in-Subscript.i).makes) (sym c.get-in-Subscript.ensures)
    ∙ ap (λ (x : Typed). (expression calls limit c.get-in-Subscript.result.now).makes || (expression calls limit x).makes) (sym c.get-in-Subscript-2.ensures))
    (c.either_makes.ensures calls limit)

pub makes_in-returns-in-Binary : goal.makes_in-returns-in-Binary
makes_in-returns-in-Binary t c = λ calls limit.
    field_told calls limit (λ (x : Exp). x.makes) c.args.e.now _ _ c.either_makes-in-Binary.result _ c.in-Binary.is (node_Binary calls limit _ _ _)
    (ap (λ (x : Typed). (expression calls limit x).makes || (expression calls limit c.in-Binary.b).makes) (sym c.get-in-Binary.ensures)
    ∙ ap (λ (x : Typed). (expression calls limit c.get-in-Binary.result.now).makes || (expression calls limit x).makes) (sym c.get-in-Binary-2.ensures))
    (c.either_makes-in-Binary.ensures calls limit)

pub either_makes-returns : goal.either_makes-returns
either_makes-returns t c = λ calls limit.
    c.either.ensures
    ∙ ap (λ z. z || c.in_ok-second.second) (c.in_ok-first.ensures calls limit)
    ∙ ap (λ z. (expression calls limit c.args.a.now).makes || z) (c.in_ok-second.ensures calls limit)

pub makes_in-returns-in_ok-among-in-Construct : goal.makes_in-returns-in_ok-among-in-Construct
makes_in-returns-in_ok-among-in-Construct t c = λ calls limit.
    c.either.ensures
    ∙ ap (λ z. z || c.in_ok-among-in-Construct.among) c.has_end.ensures
    ∙ ap (λ z. has_end (out-Typed c.args.e.now).what || z) (c.in_ok-among-in-Construct.ensures calls limit ∙ ap (λ (xs : List TypedArgument). any_makes (map (argument calls limit) xs)) c.as_slice-in-Construct.ensures)
    ∙ sym (ap (λ (x : Exp). x.makes) (form_is calls limit c.args.e.now _ _ c.in-Construct.is (node_Construct calls limit _ _)))

pub makes_in-returns-in_ok-among-in-MemberCall : goal.makes_in-returns-in_ok-among-in-MemberCall
makes_in-returns-in_ok-among-in-MemberCall t c = λ calls limit.
    c.either-in-MemberCall.ensures
    ∙ ap (λ z. z || c.in_ok-among-in-MemberCall.among) (c.in_ok-first-in-MemberCall.ensures calls limit ∙ ap (λ (x : Typed). (expression calls limit x).makes) c.get-in-MemberCall.ensures)
    ∙ ap (λ z. (expression calls limit c.in-MemberCall.a).makes || z) (c.in_ok-among-in-MemberCall.ensures calls limit ∙ ap (λ (xs : List TypedArgument). any_makes (map (argument calls limit) xs)) c.as_slice-in-MemberCall.ensures)
    ∙ sym (ap (λ (x : Exp). x.makes) (form_is calls limit c.args.e.now _ _ c.in-MemberCall.is (node_MemberCall calls limit _ _ _ _)))

pub makes_in-returns-in_ok-among-in-Conditional : goal.makes_in-returns-in_ok-among-in-Conditional
makes_in-returns-in_ok-among-in-Conditional t c = λ calls limit.
    c.either-in-Conditional.ensures
    ∙ ap (λ z. z || c.in_ok-among-in-Conditional.among) (c.in_ok-first-in-Conditional.ensures calls limit ∙ ap (λ (x : Typed). (expression calls limit x).makes) c.get-in-Conditional.ensures)
    ∙ ap (λ z. (expression calls limit c.in-Conditional.c).makes || z)
    (c.in_ok-among-in-Conditional.ensures calls limit
    ∙ ap (λ (x : Typed). (expression calls limit x).makes || (expression calls limit c.get-in-Conditional-3.result.now).makes) c.get-in-Conditional-2.ensures
    ∙ ap (λ (x : Typed). (expression calls limit c.in-Conditional.a).makes || (expression calls limit x).makes) c.get-in-Conditional-3.ensures)
    ∙ sym (ap (λ (x : Exp). x.makes) (form_is calls limit c.args.e.now _ _ c.in-Conditional.is (node_Conditional calls limit _ _ _)))
