use Rattle.std.proofs.Common.{◌∙◌}
use Rattle.sy_walk.proofs.FormLemmas.{access_tag_looked, binary_looked, boolean_looked, call_looked, cast_looked, character_looked, conditional_looked, construct_looked, error_code_looked, function_object_looked, functional_cast_looked, group_barrier_looked, in_order_looked, initialize_to_identity_looked, integer_looked, library_call_looked, member_call_looked, name_looked, parenthesized_looked, postfix_looked, prefix_looked, static_cast_looked, subscript_looked, unary_looked}
use Rattle.sy_walk.proofs.below.Below.form.Goals as goal

pub returns-in-Integer : goal.returns-in-Integer
returns-in-Integer g c = integer_looked c.args.e.now _ c.args.w.now c.judge_integer.new.w c.judge_integer.result c.in-Integer.is c.judge_integer.ensures

pub returns-in-Character : goal.returns-in-Character
returns-in-Character g c = character_looked c.args.e.now _ c.args.w.now c.judge_character.new.w c.judge_character.result c.in-Character.is c.judge_character.ensures

pub returns-in-Boolean : goal.returns-in-Boolean
returns-in-Boolean g c = boolean_looked c.args.e.now _ _ c.args.w.now c.judge_boolean.new.w c.judge_boolean.result c.in-Boolean.is c.judge_boolean.ensures

pub returns-in-Name : goal.returns-in-Name
returns-in-Name g c = name_looked c.args.e.now _ c.args.w.now c.judge_name.new.w c.judge_name.result c.in-Name.is c.judge_name.ensures

pub returns-in-Call : goal.returns-in-Call
returns-in-Call g c = call_looked c.args.e.now _ _ _ _ _ c.args.w.now c.call.new.w c.call.result c.in-Call.is c.get.ensures c.as_slice.ensures c.call.ensures

pub returns-in-Parenthesized : goal.returns-in-Parenthesized
returns-in-Parenthesized g c = parenthesized_looked c.args.e.now _ _ _ _ c.args.w.now c.parenthesized.new.w c.parenthesized.result c.in-Parenthesized.is c.get-in-Parenthesized.ensures c.parenthesized.ensures

pub returns-in-StaticCast : goal.returns-in-StaticCast
returns-in-StaticCast g c = static_cast_looked c.args.e.now _ _ _ _ _ c.args.w.now c.static_cast.new.w c.static_cast.result c.in-StaticCast.is c.get-in-StaticCast.ensures c.static_cast.ensures

pub returns-in-FunctionalCast : goal.returns-in-FunctionalCast
returns-in-FunctionalCast g c = functional_cast_looked c.args.e.now _ _ _ _ c.args.w.now c.functional_cast.new.w c.functional_cast.result c.in-FunctionalCast.is c.get-in-FunctionalCast.ensures c.functional_cast.ensures

pub returns-in-Construct : goal.returns-in-Construct
returns-in-Construct g c = construct_looked c.args.e.now _ _ _ _ _ _ _ c.args.w.now c.construct.new.w c.construct.result c.in-Construct.is c.get-in-Construct.ensures (c.as_slice-in-Construct.ensures ∙ c.get-in-Construct-2.ensures) c.construct.ensures

pub returns-in-GroupBarrier : goal.returns-in-GroupBarrier
returns-in-GroupBarrier g c = group_barrier_looked c.args.e.now _ _ _ _ c.args.w.now c.group_barrier.new.w c.group_barrier.result c.in-GroupBarrier.is c.get-in-GroupBarrier.ensures c.group_barrier.ensures

pub returns-in-AccessTag : goal.returns-in-AccessTag
returns-in-AccessTag g c = access_tag_looked c.args.e.now _ _ c.args.w.now c.judge_access_tag.new.w c.judge_access_tag.result c.in-AccessTag.is c.judge_access_tag.ensures

pub returns-in-InOrder : goal.returns-in-InOrder
returns-in-InOrder g c = in_order_looked c.args.e.now _ _ _ c.args.w.now c.judge_in_order.new.w c.judge_in_order.result c.in-InOrder.is c.judge_in_order.ensures

pub returns-in-ErrorCode : goal.returns-in-ErrorCode
returns-in-ErrorCode g c = error_code_looked c.args.e.now _ _ _ c.args.w.now c.judge_error_code.new.w c.judge_error_code.result c.in-ErrorCode.is c.get-in-ErrorCode.ensures c.judge_error_code.ensures

pub returns-in-InitializeToIdentity : goal.returns-in-InitializeToIdentity
returns-in-InitializeToIdentity g c = initialize_to_identity_looked c.args.e.now _ _ _ c.args.w.now c.judge_initialize_to_identity.new.w c.judge_initialize_to_identity.result c.in-InitializeToIdentity.is c.judge_initialize_to_identity.ensures

pub returns-in-FunctionObject : goal.returns-in-FunctionObject
returns-in-FunctionObject g c = function_object_looked c.args.e.now _ _ _ _ _ c.args.w.now c.judge_function_object.new.w c.judge_function_object.result c.in-FunctionObject.is c.judge_function_object.ensures

pub returns-in-LibraryCall : goal.returns-in-LibraryCall
returns-in-LibraryCall g c = library_call_looked c.args.e.now _ _ _ _ _ c.args.w.now c.library_call.new.w c.library_call.result c.in-LibraryCall.is c.as_slice-in-LibraryCall.ensures c.library_call.ensures

pub returns-in-Subscript : goal.returns-in-Subscript
returns-in-Subscript g c = subscript_looked c.args.e.now _ _ _ _ _ _ c.args.w.now c.subscript.new.w c.subscript.result c.in-Subscript.is c.get-in-Subscript.ensures c.get-in-Subscript-2.ensures c.subscript.ensures

pub returns-in-MemberCall : goal.returns-in-MemberCall
returns-in-MemberCall g c = member_call_looked c.args.e.now _ _ _ _ _ _ _ _ c.args.w.now c.member_call.new.w c.member_call.result c.in-MemberCall.is c.get-in-MemberCall.ensures c.get-in-MemberCall-2.ensures (c.as_slice-in-MemberCall.ensures ∙ c.get-in-MemberCall-3.ensures) c.member_call.ensures

pub returns-in-Postfix : goal.returns-in-Postfix
returns-in-Postfix g c = postfix_looked c.args.e.now _ _ _ _ c.args.w.now c.postfix.new.w c.postfix.result c.in-Postfix.is c.get-in-Postfix.ensures c.postfix.ensures

pub returns-in-Prefix : goal.returns-in-Prefix
returns-in-Prefix g c = prefix_looked c.args.e.now _ _ _ _ c.args.w.now c.prefix.new.w c.prefix.result c.in-Prefix.is c.get-in-Prefix.ensures c.prefix.ensures

pub returns-in-Unary : goal.returns-in-Unary
returns-in-Unary g c = unary_looked c.args.e.now _ _ _ _ c.args.w.now c.unary.new.w c.unary.result c.in-Unary.is c.get-in-Unary.ensures c.unary.ensures

pub returns-in-Cast : goal.returns-in-Cast
returns-in-Cast g c = cast_looked c.args.e.now _ _ _ _ c.args.w.now c.cast.new.w c.cast.result c.in-Cast.is c.get-in-Cast.ensures c.cast.ensures

pub returns-in-Binary : goal.returns-in-Binary
returns-in-Binary g c = binary_looked c.args.e.now _ _ _ _ _ _ c.args.w.now c.binary.new.w c.binary.result c.in-Binary.is c.get-in-Binary.ensures c.get-in-Binary-2.ensures c.binary.ensures

pub returns-in-Conditional : goal.returns-in-Conditional
returns-in-Conditional g c = conditional_looked c.args.e.now _ _ _ _ _ _ _ c.args.w.now c.conditional.new.w c.conditional.result c.in-Conditional.is c.get-in-Conditional.ensures c.get-in-Conditional-2.ensures c.get-in-Conditional-3.ensures c.conditional.ensures
