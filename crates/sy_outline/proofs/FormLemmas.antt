-- The lambdas in a part of a tree, form by form: the definition's fold, at each variant of the tree.
use Rattle.std.proofs.Common.{◌≡◌, ◌++◌, ◌∷◌, [], ℕ, ℤ, Bool, List, Option, None, Some, map, ap, sym, subst, refl, ◌∙◌}
use Rattle.std.specs.List.{flat_map}
use Rattle.sy_lex.specs.declared.Text.{Text}
use Rattle.sy_meaning.specs.Bodies.{Found, found_all, lambdas_in, in_argument, in_block, in_declaration, in_declarator, in_full_expression, in_initializer, in_lambda, in_node, in_printed, in_statement, in_typed}
use Rattle.sy_note.specs.declared.Spot.{Spot}
use Rattle.sy_num.specs.declared.Kind.{Kind}
use Rattle.sy_num.specs.declared.UnOp.{UnOp}
use Rattle.sy_outline.specs.Parts.{of_all, of_argument, of_declaration, of_declarator, of_full, of_initializer, of_lambda, of_maybe, of_node, of_printed, of_statement, of_typed, of_whole}
use Rattle.sy_tree.specs.declared.operators.AssignmentOperator.{AssignmentOperator}
use Rattle.sy_tree.specs.declared.operators.Operator.{Operator}
use Rattle.sy_tree.specs.declared.parts.AccessTag.{AccessTag}
use Rattle.sy_tree.specs.declared.parts.Brackets.{Brackets}
use Rattle.sy_tree.specs.declared.parts.FunctionObject.{FunctionObject}
use Rattle.sy_tree.specs.declared.parts.LibraryFunction.{LibraryFunction}
use Rattle.sy_tree.specs.declared.parts.Step.{Step}
use Rattle.sy_typed.specs.declared.things.ErrorName.{ErrorName}
use Rattle.sy_typed.specs.declared.things.Member.{Member}
use Rattle.sy_typed.specs.declared.tree.Typed.{Typed, out-Typed, roll-out-Typed, para-roll-Typed}
use Rattle.sy_typed.specs.declared.tree.TypedArgument.TheOpen.{TypedArgument-F, TypedDeclaration-F, TypedDeclarator-F, TypedFull-F, TypedInitializer-F, TypedNode-F, TypedPrinted-F, TypedStmt-F}
use Rattle.sy_typed.specs.declared.tree.TypedBlock.{TypedBlock, out-TypedBlock, roll-out-TypedBlock, para-roll-TypedBlock}
use Rattle.sy_typed.specs.declared.tree.TypedLambda.{TypedLambda, out-TypedLambda, roll-out-TypedLambda, para-roll-TypedLambda}
use Rattle.sy_typed.specs.declared.tree.Variable.{Variable}
use Rattle.sy_typed.specs.declared.tree.TypedNode.{TypedNode, out-TypedNode, roll-TypedNode, roll-out-TypedNode, para-roll-TypedNode}
use Rattle.sy_typed.specs.declared.tree.TypedNode.TheVariants as the_node
use Rattle.sy_typed.specs.declared.tree.TypedArgument.{TypedArgument, para-roll-TypedArgument}
use Rattle.sy_typed.specs.declared.tree.TypedArgument.TheVariants as the_argument
use Rattle.sy_typed.specs.declared.tree.TypedFull.{TypedFull, para-roll-TypedFull}
use Rattle.sy_typed.specs.declared.tree.TypedFull.TheVariants as the_full
use Rattle.sy_typed.specs.declared.tree.TypedDeclarator.{TypedDeclarator, para-roll-TypedDeclarator}
use Rattle.sy_typed.specs.declared.tree.TypedDeclarator.TheVariants as the_declarator
use Rattle.sy_typed.specs.declared.tree.TypedInitializer.{TypedInitializer, para-roll-TypedInitializer}
use Rattle.sy_typed.specs.declared.tree.TypedInitializer.TheVariants as the_initializer
use Rattle.sy_typed.specs.declared.tree.TypedDeclaration.{TypedDeclaration, para-roll-TypedDeclaration}
use Rattle.sy_typed.specs.declared.tree.TypedDeclaration.TheVariants as the_declaration
use Rattle.sy_typed.specs.declared.tree.TypedPrinted.{TypedPrinted, para-roll-TypedPrinted}
use Rattle.sy_typed.specs.declared.tree.TypedPrinted.TheVariants as the_printed
use Rattle.sy_typed.specs.declared.tree.TypedStmt.{TypedStmt, para-roll-TypedStmt}
use Rattle.sy_typed.specs.declared.tree.TypedStmt.TheVariants as the_statement

all_paired : {X : Type 0} (f : X → Found) (xs : List X) → found_all (map (λ (x : X). (x, f x)) xs) ≡ flat_map f xs
all_paired f [] = refl
all_paired f (x ∷ xs) = ap (λ (z : Found). f x ++ z) (all_paired f xs)

pub typed_is : (x : Typed) → of_typed x ≡ of_node (out-Typed x).node
typed_is x = ap of_typed (sym (roll-out-Typed x)) ∙ para-roll-Typed Found Found Found Found Found Found Found Found Found Found Found in_argument in_declaration in_declarator in_full_expression in_initializer in_node in_printed in_statement in_typed in_block in_lambda (out-Typed x)

pub lambda_is : (l : TypedLambda) → of_lambda l ≡ lambdas_in (out-TypedLambda l).body
lambda_is l = ap of_lambda (sym (roll-out-TypedLambda l)) ∙ para-roll-TypedLambda Found Found Found Found Found Found Found Found Found Found Found in_argument in_declaration in_declarator in_full_expression in_initializer in_node in_printed in_statement in_typed in_block in_lambda (out-TypedLambda l)

pub block_is : (b : TypedBlock) → lambdas_in b ≡ of_all of_statement (out-TypedBlock b).statements
block_is b = ap lambdas_in (sym (roll-out-TypedBlock b)) ∙ para-roll-TypedBlock Found Found Found Found Found Found Found Found Found Found Found in_argument in_declaration in_declarator in_full_expression in_initializer in_node in_printed in_statement in_typed in_block in_lambda (out-TypedBlock b) ∙ all_paired of_statement (out-TypedBlock b).statements

-- ---- TypedNode

pub node_Integer : (z : ℤ) → of_node (the_node.Integer z) ≡ []
node_Integer z = ap of_node (sym (the_node.rolls-Integer z)) ∙ para-roll-TypedNode Found Found Found Found Found Found Found Found Found Found Found in_argument in_declaration in_declarator in_full_expression in_initializer in_node in_printed in_statement in_typed in_block in_lambda (TypedNode-F.Integer z)

pub node_Character : (z : ℤ) → of_node (the_node.Character z) ≡ []
node_Character z = ap of_node (sym (the_node.rolls-Character z)) ∙ para-roll-TypedNode Found Found Found Found Found Found Found Found Found Found Found in_argument in_declaration in_declarator in_full_expression in_initializer in_node in_printed in_statement in_typed in_block in_lambda (TypedNode-F.Character z)

pub node_Boolean : (b : Bool) → of_node (the_node.Boolean b) ≡ []
node_Boolean b = ap of_node (sym (the_node.rolls-Boolean b)) ∙ para-roll-TypedNode Found Found Found Found Found Found Found Found Found Found Found in_argument in_declaration in_declarator in_full_expression in_initializer in_node in_printed in_statement in_typed in_block in_lambda (TypedNode-F.Boolean b)

pub node_Name : (n : ℕ) → of_node (the_node.Name n) ≡ []
node_Name n = ap of_node (sym (the_node.rolls-Name n)) ∙ para-roll-TypedNode Found Found Found Found Found Found Found Found Found Found Found in_argument in_declaration in_declarator in_full_expression in_initializer in_node in_printed in_statement in_typed in_block in_lambda (TypedNode-F.Name n)

pub node_Reference : (n : ℕ) → of_node (the_node.Reference n) ≡ []
node_Reference n = ap of_node (sym (the_node.rolls-Reference n)) ∙ para-roll-TypedNode Found Found Found Found Found Found Found Found Found Found Found in_argument in_declaration in_declarator in_full_expression in_initializer in_node in_printed in_statement in_typed in_block in_lambda (TypedNode-F.Reference n)

pub node_Call : (f : ℕ) (xs : List Typed) (last : Spot) → of_node (the_node.Call f xs last) ≡ of_all of_typed xs
node_Call f xs last = ap of_node (sym (the_node.rolls-Call f xs last)) ∙ para-roll-TypedNode Found Found Found Found Found Found Found Found Found Found Found in_argument in_declaration in_declarator in_full_expression in_initializer in_node in_printed in_statement in_typed in_block in_lambda (TypedNode-F.Call f xs last) ∙ ap (λ (z : Found). z) (all_paired of_typed xs)

pub node_Parenthesized : (a : Typed) (last : Spot) → of_node (the_node.Parenthesized a last) ≡ of_typed a
node_Parenthesized a last = ap of_node (sym (the_node.rolls-Parenthesized a last)) ∙ para-roll-TypedNode Found Found Found Found Found Found Found Found Found Found Found in_argument in_declaration in_declarator in_full_expression in_initializer in_node in_printed in_statement in_typed in_block in_lambda (TypedNode-F.Parenthesized a last)

pub node_StaticCast : (a : Typed) (last : Spot) → of_node (the_node.StaticCast a last) ≡ of_typed a
node_StaticCast a last = ap of_node (sym (the_node.rolls-StaticCast a last)) ∙ para-roll-TypedNode Found Found Found Found Found Found Found Found Found Found Found in_argument in_declaration in_declarator in_full_expression in_initializer in_node in_printed in_statement in_typed in_block in_lambda (TypedNode-F.StaticCast a last)

pub node_FunctionalCast : (a : Typed) (last : Spot) → of_node (the_node.FunctionalCast a last) ≡ of_typed a
node_FunctionalCast a last = ap of_node (sym (the_node.rolls-FunctionalCast a last)) ∙ para-roll-TypedNode Found Found Found Found Found Found Found Found Found Found Found in_argument in_declaration in_declarator in_full_expression in_initializer in_node in_printed in_statement in_typed in_block in_lambda (TypedNode-F.FunctionalCast a last)

pub node_Construct : (xs : List TypedArgument) (last : Spot) → of_node (the_node.Construct xs last) ≡ of_all of_argument xs
node_Construct xs last = ap of_node (sym (the_node.rolls-Construct xs last)) ∙ para-roll-TypedNode Found Found Found Found Found Found Found Found Found Found Found in_argument in_declaration in_declarator in_full_expression in_initializer in_node in_printed in_statement in_typed in_block in_lambda (TypedNode-F.Construct xs last) ∙ ap (λ (z : Found). z) (all_paired of_argument xs)

pub node_GroupBarrier : (a : Typed) (last : Spot) → of_node (the_node.GroupBarrier a last) ≡ of_typed a
node_GroupBarrier a last = ap of_node (sym (the_node.rolls-GroupBarrier a last)) ∙ para-roll-TypedNode Found Found Found Found Found Found Found Found Found Found Found in_argument in_declaration in_declarator in_full_expression in_initializer in_node in_printed in_statement in_typed in_block in_lambda (TypedNode-F.GroupBarrier a last)

pub node_AccessTag : (t : AccessTag) → of_node (the_node.AccessTag t) ≡ []
node_AccessTag t = ap of_node (sym (the_node.rolls-AccessTag t)) ∙ para-roll-TypedNode Found Found Found Found Found Found Found Found Found Found Found in_argument in_declaration in_declarator in_full_expression in_initializer in_node in_printed in_statement in_typed in_block in_lambda (TypedNode-F.AccessTag t)

pub node_InOrder : (last : Spot) → of_node (the_node.InOrder last) ≡ []
node_InOrder last = ap of_node (sym (the_node.rolls-InOrder last)) ∙ para-roll-TypedNode Found Found Found Found Found Found Found Found Found Found Found in_argument in_declaration in_declarator in_full_expression in_initializer in_node in_printed in_statement in_typed in_block in_lambda (TypedNode-F.InOrder last)

pub node_ErrorCode : (x : ErrorName) (last : Spot) → of_node (the_node.ErrorCode x last) ≡ []
node_ErrorCode x last = ap of_node (sym (the_node.rolls-ErrorCode x last)) ∙ para-roll-TypedNode Found Found Found Found Found Found Found Found Found Found Found in_argument in_declaration in_declarator in_full_expression in_initializer in_node in_printed in_statement in_typed in_block in_lambda (TypedNode-F.ErrorCode x last)

pub node_InitializeToIdentity : (last : Spot) → of_node (the_node.InitializeToIdentity last) ≡ []
node_InitializeToIdentity last = ap of_node (sym (the_node.rolls-InitializeToIdentity last)) ∙ para-roll-TypedNode Found Found Found Found Found Found Found Found Found Found Found in_argument in_declaration in_declarator in_full_expression in_initializer in_node in_printed in_statement in_typed in_block in_lambda (TypedNode-F.InitializeToIdentity last)

pub node_FunctionObject : (f : FunctionObject) (k : Option Kind) (last : Spot) → of_node (the_node.FunctionObject f k last) ≡ []
node_FunctionObject f k last = ap of_node (sym (the_node.rolls-FunctionObject f k last)) ∙ para-roll-TypedNode Found Found Found Found Found Found Found Found Found Found Found in_argument in_declaration in_declarator in_full_expression in_initializer in_node in_printed in_statement in_typed in_block in_lambda (TypedNode-F.FunctionObject f k last)

pub node_LibraryCall : (f : LibraryFunction) (xs : List TypedArgument) (last : Spot) → of_node (the_node.LibraryCall f xs last) ≡ of_all of_argument xs
node_LibraryCall f xs last = ap of_node (sym (the_node.rolls-LibraryCall f xs last)) ∙ para-roll-TypedNode Found Found Found Found Found Found Found Found Found Found Found in_argument in_declaration in_declarator in_full_expression in_initializer in_node in_printed in_statement in_typed in_block in_lambda (TypedNode-F.LibraryCall f xs last) ∙ ap (λ (z : Found). z) (all_paired of_argument xs)

pub node_Subscript : (a : Typed) (i : Typed) (last : Spot) → of_node (the_node.Subscript a i last) ≡ of_typed a ++ of_typed i
node_Subscript a i last = ap of_node (sym (the_node.rolls-Subscript a i last)) ∙ para-roll-TypedNode Found Found Found Found Found Found Found Found Found Found Found in_argument in_declaration in_declarator in_full_expression in_initializer in_node in_printed in_statement in_typed in_block in_lambda (TypedNode-F.Subscript a i last)

pub node_MemberCall : (a : Typed) (m : Member) (xs : List TypedArgument) (last : Spot) → of_node (the_node.MemberCall a m xs last) ≡ of_typed a ++ of_all of_argument xs
node_MemberCall a m xs last = ap of_node (sym (the_node.rolls-MemberCall a m xs last)) ∙ para-roll-TypedNode Found Found Found Found Found Found Found Found Found Found Found in_argument in_declaration in_declarator in_full_expression in_initializer in_node in_printed in_statement in_typed in_block in_lambda (TypedNode-F.MemberCall a m xs last) ∙ ap (λ (z : Found). of_typed a ++ z) (all_paired of_argument xs)

pub node_Postfix : (a : Typed) (p : Step) → of_node (the_node.Postfix a p) ≡ of_typed a
node_Postfix a p = ap of_node (sym (the_node.rolls-Postfix a p)) ∙ para-roll-TypedNode Found Found Found Found Found Found Found Found Found Found Found in_argument in_declaration in_declarator in_full_expression in_initializer in_node in_printed in_statement in_typed in_block in_lambda (TypedNode-F.Postfix a p)

pub node_Prefix : (p : Step) (a : Typed) → of_node (the_node.Prefix p a) ≡ of_typed a
node_Prefix p a = ap of_node (sym (the_node.rolls-Prefix p a)) ∙ para-roll-TypedNode Found Found Found Found Found Found Found Found Found Found Found in_argument in_declaration in_declarator in_full_expression in_initializer in_node in_printed in_statement in_typed in_block in_lambda (TypedNode-F.Prefix p a)

pub node_Unary : (u : UnOp) (a : Typed) → of_node (the_node.Unary u a) ≡ of_typed a
node_Unary u a = ap of_node (sym (the_node.rolls-Unary u a)) ∙ para-roll-TypedNode Found Found Found Found Found Found Found Found Found Found Found in_argument in_declaration in_declarator in_full_expression in_initializer in_node in_printed in_statement in_typed in_block in_lambda (TypedNode-F.Unary u a)

pub node_Cast : (a : Typed) → of_node (the_node.Cast a) ≡ of_typed a
node_Cast a = ap of_node (sym (the_node.rolls-Cast a)) ∙ para-roll-TypedNode Found Found Found Found Found Found Found Found Found Found Found in_argument in_declaration in_declarator in_full_expression in_initializer in_node in_printed in_statement in_typed in_block in_lambda (TypedNode-F.Cast a)

pub node_Binary : (a : Typed) (o : Operator) (b : Typed) → of_node (the_node.Binary a o b) ≡ of_typed a ++ of_typed b
node_Binary a o b = ap of_node (sym (the_node.rolls-Binary a o b)) ∙ para-roll-TypedNode Found Found Found Found Found Found Found Found Found Found Found in_argument in_declaration in_declarator in_full_expression in_initializer in_node in_printed in_statement in_typed in_block in_lambda (TypedNode-F.Binary a o b)

pub node_Conditional : (c : Typed) (a : Typed) (b : Typed) → of_node (the_node.Conditional c a b) ≡ of_typed c ++ (of_typed a ++ of_typed b)
node_Conditional c a b = ap of_node (sym (the_node.rolls-Conditional c a b)) ∙ para-roll-TypedNode Found Found Found Found Found Found Found Found Found Found Found in_argument in_declaration in_declarator in_full_expression in_initializer in_node in_printed in_statement in_typed in_block in_lambda (TypedNode-F.Conditional c a b)

-- a node that none of these forms has
pub record HasNoParts (n : TypedNode) : Type 0 where
  pub not_call : (f : ℕ) (xs : List Typed) (last : Spot) → n ≡ the_node.Call f xs last → ⊥
  pub not_parenthesized : (a : Typed) (last : Spot) → n ≡ the_node.Parenthesized a last → ⊥
  pub not_staticcast : (a : Typed) (last : Spot) → n ≡ the_node.StaticCast a last → ⊥
  pub not_functionalcast : (a : Typed) (last : Spot) → n ≡ the_node.FunctionalCast a last → ⊥
  pub not_construct : (xs : List TypedArgument) (last : Spot) → n ≡ the_node.Construct xs last → ⊥
  pub not_groupbarrier : (a : Typed) (last : Spot) → n ≡ the_node.GroupBarrier a last → ⊥
  pub not_librarycall : (f : LibraryFunction) (xs : List TypedArgument) (last : Spot) → n ≡ the_node.LibraryCall f xs last → ⊥
  pub not_subscript : (a : Typed) (i : Typed) (last : Spot) → n ≡ the_node.Subscript a i last → ⊥
  pub not_membercall : (a : Typed) (m : Member) (xs : List TypedArgument) (last : Spot) → n ≡ the_node.MemberCall a m xs last → ⊥
  pub not_postfix : (a : Typed) (p : Step) → n ≡ the_node.Postfix a p → ⊥
  pub not_prefix : (p : Step) (a : Typed) → n ≡ the_node.Prefix p a → ⊥
  pub not_unary : (u : UnOp) (a : Typed) → n ≡ the_node.Unary u a → ⊥
  pub not_cast : (a : Typed) → n ≡ the_node.Cast a → ⊥
  pub not_binary : (a : Typed) (o : Operator) (b : Typed) → n ≡ the_node.Binary a o b → ⊥
  pub not_conditional : (c : Typed) (a : Typed) (b : Typed) → n ≡ the_node.Conditional c a b → ⊥

no_parts : (y : TypedNode-F TypedArgument TypedDeclaration TypedDeclarator TypedFull TypedInitializer TypedNode TypedPrinted TypedStmt Typed TypedBlock TypedLambda) → HasNoParts (roll-TypedNode y) → of_node (roll-TypedNode y) ≡ []
no_parts (TypedNode-F.Integer z) h = ap of_node (the_node.rolls-Integer z) ∙ node_Integer z
no_parts (TypedNode-F.Character z) h = ap of_node (the_node.rolls-Character z) ∙ node_Character z
no_parts (TypedNode-F.Boolean b) h = ap of_node (the_node.rolls-Boolean b) ∙ node_Boolean b
no_parts (TypedNode-F.Name n) h = ap of_node (the_node.rolls-Name n) ∙ node_Name n
no_parts (TypedNode-F.Reference n) h = ap of_node (the_node.rolls-Reference n) ∙ node_Reference n
no_parts (TypedNode-F.Call f xs last) h = absurd (h.not_call f xs last (the_node.rolls-Call f xs last))
no_parts (TypedNode-F.Parenthesized a last) h = absurd (h.not_parenthesized a last (the_node.rolls-Parenthesized a last))
no_parts (TypedNode-F.StaticCast a last) h = absurd (h.not_staticcast a last (the_node.rolls-StaticCast a last))
no_parts (TypedNode-F.FunctionalCast a last) h = absurd (h.not_functionalcast a last (the_node.rolls-FunctionalCast a last))
no_parts (TypedNode-F.Construct xs last) h = absurd (h.not_construct xs last (the_node.rolls-Construct xs last))
no_parts (TypedNode-F.GroupBarrier a last) h = absurd (h.not_groupbarrier a last (the_node.rolls-GroupBarrier a last))
no_parts (TypedNode-F.AccessTag t) h = ap of_node (the_node.rolls-AccessTag t) ∙ node_AccessTag t
no_parts (TypedNode-F.InOrder last) h = ap of_node (the_node.rolls-InOrder last) ∙ node_InOrder last
no_parts (TypedNode-F.ErrorCode x last) h = ap of_node (the_node.rolls-ErrorCode x last) ∙ node_ErrorCode x last
no_parts (TypedNode-F.InitializeToIdentity last) h = ap of_node (the_node.rolls-InitializeToIdentity last) ∙ node_InitializeToIdentity last
no_parts (TypedNode-F.FunctionObject f k last) h = ap of_node (the_node.rolls-FunctionObject f k last) ∙ node_FunctionObject f k last
no_parts (TypedNode-F.LibraryCall f xs last) h = absurd (h.not_librarycall f xs last (the_node.rolls-LibraryCall f xs last))
no_parts (TypedNode-F.Subscript a i last) h = absurd (h.not_subscript a i last (the_node.rolls-Subscript a i last))
no_parts (TypedNode-F.MemberCall a m xs last) h = absurd (h.not_membercall a m xs last (the_node.rolls-MemberCall a m xs last))
no_parts (TypedNode-F.Postfix a p) h = absurd (h.not_postfix a p (the_node.rolls-Postfix a p))
no_parts (TypedNode-F.Prefix p a) h = absurd (h.not_prefix p a (the_node.rolls-Prefix p a))
no_parts (TypedNode-F.Unary u a) h = absurd (h.not_unary u a (the_node.rolls-Unary u a))
no_parts (TypedNode-F.Cast a) h = absurd (h.not_cast a (the_node.rolls-Cast a))
no_parts (TypedNode-F.Binary a o b) h = absurd (h.not_binary a o b (the_node.rolls-Binary a o b))
no_parts (TypedNode-F.Conditional c a b) h = absurd (h.not_conditional c a b (the_node.rolls-Conditional c a b))

pub node_without_parts : (n : TypedNode) → HasNoParts n → of_node n ≡ []
node_without_parts n h = subst (λ m. HasNoParts m → of_node m ≡ []) (roll-out-TypedNode n) (no_parts (out-TypedNode n)) h

-- ---- TypedArgument

pub argument_Value : (e : Typed) → of_argument (the_argument.Value e) ≡ of_typed e
argument_Value e = ap of_argument (sym (the_argument.rolls-Value e)) ∙ para-roll-TypedArgument Found Found Found Found Found Found Found Found Found Found Found in_argument in_declaration in_declarator in_full_expression in_initializer in_node in_printed in_statement in_typed in_block in_lambda (TypedArgument-F.Value e)

pub argument_Braced : (es : List Typed) (last : Spot) → of_argument (the_argument.Braced es last) ≡ of_all of_typed es
argument_Braced es last = ap of_argument (sym (the_argument.rolls-Braced es last)) ∙ para-roll-TypedArgument Found Found Found Found Found Found Found Found Found Found Found in_argument in_declaration in_declarator in_full_expression in_initializer in_node in_printed in_statement in_typed in_block in_lambda (TypedArgument-F.Braced es last) ∙ ap (λ (z : Found). z) (all_paired of_typed es)

pub argument_Lambda : (l : TypedLambda) → of_argument (the_argument.Lambda l) ≡ of_whole l
argument_Lambda l = ap of_argument (sym (the_argument.rolls-Lambda l)) ∙ para-roll-TypedArgument Found Found Found Found Found Found Found Found Found Found Found in_argument in_declaration in_declarator in_full_expression in_initializer in_node in_printed in_statement in_typed in_block in_lambda (TypedArgument-F.Lambda l)

-- ---- TypedFull

pub full_Plain : (e : Typed) → of_full (the_full.Plain e) ≡ of_typed e
full_Plain e = ap of_full (sym (the_full.rolls-Plain e)) ∙ para-roll-TypedFull Found Found Found Found Found Found Found Found Found Found Found in_argument in_declaration in_declarator in_full_expression in_initializer in_node in_printed in_statement in_typed in_block in_lambda (TypedFull-F.Plain e)

pub full_Assignment : (a : Typed) (s : Spot) (o : AssignmentOperator) (b : Typed) → of_full (the_full.Assignment a s o b) ≡ of_typed a ++ of_typed b
full_Assignment a s o b = ap of_full (sym (the_full.rolls-Assignment a s o b)) ∙ para-roll-TypedFull Found Found Found Found Found Found Found Found Found Found Found in_argument in_declaration in_declarator in_full_expression in_initializer in_node in_printed in_statement in_typed in_block in_lambda (TypedFull-F.Assignment a s o b)

-- ---- TypedDeclarator

pub declarator_Uninitialized : (x : Variable) → of_declarator (the_declarator.Uninitialized x) ≡ []
declarator_Uninitialized x = ap of_declarator (sym (the_declarator.rolls-Uninitialized x)) ∙ para-roll-TypedDeclarator Found Found Found Found Found Found Found Found Found Found Found in_argument in_declaration in_declarator in_full_expression in_initializer in_node in_printed in_statement in_typed in_block in_lambda (TypedDeclarator-F.Uninitialized x)

pub declarator_Equal : (x : Variable) (e : Typed) → of_declarator (the_declarator.Equal x e) ≡ of_typed e
declarator_Equal x e = ap of_declarator (sym (the_declarator.rolls-Equal x e)) ∙ para-roll-TypedDeclarator Found Found Found Found Found Found Found Found Found Found Found in_argument in_declaration in_declarator in_full_expression in_initializer in_node in_printed in_statement in_typed in_block in_lambda (TypedDeclarator-F.Equal x e)

pub declarator_Bracketed : (x : Variable) (e : Typed) (close : Spot) → of_declarator (the_declarator.Bracketed x e close) ≡ of_typed e
declarator_Bracketed x e close = ap of_declarator (sym (the_declarator.rolls-Bracketed x e close)) ∙ para-roll-TypedDeclarator Found Found Found Found Found Found Found Found Found Found Found in_argument in_declaration in_declarator in_full_expression in_initializer in_node in_printed in_statement in_typed in_block in_lambda (TypedDeclarator-F.Bracketed x e close)

-- ---- TypedInitializer

pub initializer_Copy : (e : Typed) → of_initializer (the_initializer.Copy e) ≡ of_typed e
initializer_Copy e = ap of_initializer (sym (the_initializer.rolls-Copy e)) ∙ para-roll-TypedInitializer Found Found Found Found Found Found Found Found Found Found Found in_argument in_declaration in_declarator in_full_expression in_initializer in_node in_printed in_statement in_typed in_block in_lambda (TypedInitializer-F.Copy e)

pub initializer_Direct : (k : Brackets) (xs : List TypedArgument) (close : Spot) → of_initializer (the_initializer.Direct k xs close) ≡ of_all of_argument xs
initializer_Direct k xs close = ap of_initializer (sym (the_initializer.rolls-Direct k xs close)) ∙ para-roll-TypedInitializer Found Found Found Found Found Found Found Found Found Found Found in_argument in_declaration in_declarator in_full_expression in_initializer in_node in_printed in_statement in_typed in_block in_lambda (TypedInitializer-F.Direct k xs close) ∙ ap (λ (z : Found). z) (all_paired of_argument xs)

-- ---- TypedDeclaration

pub declaration_Values : (ds : List TypedDeclarator) (s : Spot) → of_declaration (the_declaration.Values ds s) ≡ of_all of_declarator ds
declaration_Values ds s = ap of_declaration (sym (the_declaration.rolls-Values ds s)) ∙ para-roll-TypedDeclaration Found Found Found Found Found Found Found Found Found Found Found in_argument in_declaration in_declarator in_full_expression in_initializer in_node in_printed in_statement in_typed in_block in_lambda (TypedDeclaration-F.Values ds s) ∙ ap (λ (z : Found). z) (all_paired of_declarator ds)

pub declaration_Vector : (x : Variable) (i : Option TypedInitializer) (s : Spot) → of_declaration (the_declaration.Vector x i s) ≡ of_maybe of_initializer i
declaration_Vector x None s = ap of_declaration (sym (the_declaration.rolls-Vector x None s)) ∙ para-roll-TypedDeclaration Found Found Found Found Found Found Found Found Found Found Found in_argument in_declaration in_declarator in_full_expression in_initializer in_node in_printed in_statement in_typed in_block in_lambda (TypedDeclaration-F.Vector x None s)
declaration_Vector x (Some i_is) s = ap of_declaration (sym (the_declaration.rolls-Vector x (Some i_is) s)) ∙ para-roll-TypedDeclaration Found Found Found Found Found Found Found Found Found Found Found in_argument in_declaration in_declarator in_full_expression in_initializer in_node in_printed in_statement in_typed in_block in_lambda (TypedDeclaration-F.Vector x (Some i_is) s)

pub declaration_DeviceVector : (x : Variable) (i : Option TypedInitializer) (s : Spot) → of_declaration (the_declaration.DeviceVector x i s) ≡ of_maybe of_initializer i
declaration_DeviceVector x None s = ap of_declaration (sym (the_declaration.rolls-DeviceVector x None s)) ∙ para-roll-TypedDeclaration Found Found Found Found Found Found Found Found Found Found Found in_argument in_declaration in_declarator in_full_expression in_initializer in_node in_printed in_statement in_typed in_block in_lambda (TypedDeclaration-F.DeviceVector x None s)
declaration_DeviceVector x (Some i_is) s = ap of_declaration (sym (the_declaration.rolls-DeviceVector x (Some i_is) s)) ∙ para-roll-TypedDeclaration Found Found Found Found Found Found Found Found Found Found Found in_argument in_declaration in_declarator in_full_expression in_initializer in_node in_printed in_statement in_typed in_block in_lambda (TypedDeclaration-F.DeviceVector x (Some i_is) s)

pub declaration_ThreadVector : (x : Variable) (s : Spot) → of_declaration (the_declaration.ThreadVector x s) ≡ []
declaration_ThreadVector x s = ap of_declaration (sym (the_declaration.rolls-ThreadVector x s)) ∙ para-roll-TypedDeclaration Found Found Found Found Found Found Found Found Found Found Found in_argument in_declaration in_declarator in_full_expression in_initializer in_node in_printed in_statement in_typed in_block in_lambda (TypedDeclaration-F.ThreadVector x s)

pub declaration_Thread : (x : Variable) (l : TypedLambda) (s : Spot) → of_declaration (the_declaration.Thread x l s) ≡ of_whole l
declaration_Thread x l s = ap of_declaration (sym (the_declaration.rolls-Thread x l s)) ∙ para-roll-TypedDeclaration Found Found Found Found Found Found Found Found Found Found Found in_argument in_declaration in_declarator in_full_expression in_initializer in_node in_printed in_statement in_typed in_block in_lambda (TypedDeclaration-F.Thread x l s)

pub declaration_Object : (x : Variable) (i : Option TypedInitializer) (s : Spot) → of_declaration (the_declaration.Object x i s) ≡ of_maybe of_initializer i
declaration_Object x None s = ap of_declaration (sym (the_declaration.rolls-Object x None s)) ∙ para-roll-TypedDeclaration Found Found Found Found Found Found Found Found Found Found Found in_argument in_declaration in_declarator in_full_expression in_initializer in_node in_printed in_statement in_typed in_block in_lambda (TypedDeclaration-F.Object x None s)
declaration_Object x (Some i_is) s = ap of_declaration (sym (the_declaration.rolls-Object x (Some i_is) s)) ∙ para-roll-TypedDeclaration Found Found Found Found Found Found Found Found Found Found Found in_argument in_declaration in_declarator in_full_expression in_initializer in_node in_printed in_statement in_typed in_block in_lambda (TypedDeclaration-F.Object x (Some i_is) s)

-- ---- TypedPrinted

pub printed_Operand : (s : Spot) (e : Typed) → of_printed (the_printed.Operand s e) ≡ of_typed e
printed_Operand s e = ap of_printed (sym (the_printed.rolls-Operand s e)) ∙ para-roll-TypedPrinted Found Found Found Found Found Found Found Found Found Found Found in_argument in_declaration in_declarator in_full_expression in_initializer in_node in_printed in_statement in_typed in_block in_lambda (TypedPrinted-F.Operand s e)

pub printed_Bytes : (s : Spot) (text : Text) (last : Spot) → of_printed (the_printed.Bytes s text last) ≡ []
printed_Bytes s text last = ap of_printed (sym (the_printed.rolls-Bytes s text last)) ∙ para-roll-TypedPrinted Found Found Found Found Found Found Found Found Found Found Found in_argument in_declaration in_declarator in_full_expression in_initializer in_node in_printed in_statement in_typed in_block in_lambda (TypedPrinted-F.Bytes s text last)

pub printed_EndLine : (s : Spot) (last : Spot) → of_printed (the_printed.EndLine s last) ≡ []
printed_EndLine s last = ap of_printed (sym (the_printed.rolls-EndLine s last)) ∙ para-roll-TypedPrinted Found Found Found Found Found Found Found Found Found Found Found in_argument in_declaration in_declarator in_full_expression in_initializer in_node in_printed in_statement in_typed in_block in_lambda (TypedPrinted-F.EndLine s last)

-- ---- TypedStmt

pub statement_Compound : (b : TypedBlock) → of_statement (the_statement.Compound b) ≡ lambdas_in b
statement_Compound b = ap of_statement (sym (the_statement.rolls-Compound b)) ∙ para-roll-TypedStmt Found Found Found Found Found Found Found Found Found Found Found in_argument in_declaration in_declarator in_full_expression in_initializer in_node in_printed in_statement in_typed in_block in_lambda (TypedStmt-F.Compound b)

pub statement_Null : (s : Spot) → of_statement (the_statement.Null s) ≡ []
statement_Null s = ap of_statement (sym (the_statement.rolls-Null s)) ∙ para-roll-TypedStmt Found Found Found Found Found Found Found Found Found Found Found in_argument in_declaration in_declarator in_full_expression in_initializer in_node in_printed in_statement in_typed in_block in_lambda (TypedStmt-F.Null s)

pub statement_Declaration : (d : TypedDeclaration) → of_statement (the_statement.Declaration d) ≡ of_declaration d
statement_Declaration d = ap of_statement (sym (the_statement.rolls-Declaration d)) ∙ para-roll-TypedStmt Found Found Found Found Found Found Found Found Found Found Found in_argument in_declaration in_declarator in_full_expression in_initializer in_node in_printed in_statement in_typed in_block in_lambda (TypedStmt-F.Declaration d)

pub statement_Expression : (f : TypedFull) (s : Spot) → of_statement (the_statement.Expression f s) ≡ of_full f
statement_Expression f s = ap of_statement (sym (the_statement.rolls-Expression f s)) ∙ para-roll-TypedStmt Found Found Found Found Found Found Found Found Found Found Found in_argument in_declaration in_declarator in_full_expression in_initializer in_node in_printed in_statement in_typed in_block in_lambda (TypedStmt-F.Expression f s)

pub statement_Print : (ps : List TypedPrinted) (s : Spot) → of_statement (the_statement.Print ps s) ≡ of_all of_printed ps
statement_Print ps s = ap of_statement (sym (the_statement.rolls-Print ps s)) ∙ para-roll-TypedStmt Found Found Found Found Found Found Found Found Found Found Found in_argument in_declaration in_declarator in_full_expression in_initializer in_node in_printed in_statement in_typed in_block in_lambda (TypedStmt-F.Print ps s) ∙ ap (λ (z : Found). z) (all_paired of_printed ps)

pub statement_Break : (s : Spot) (last : Spot) → of_statement (the_statement.Break s last) ≡ []
statement_Break s last = ap of_statement (sym (the_statement.rolls-Break s last)) ∙ para-roll-TypedStmt Found Found Found Found Found Found Found Found Found Found Found in_argument in_declaration in_declarator in_full_expression in_initializer in_node in_printed in_statement in_typed in_block in_lambda (TypedStmt-F.Break s last)

pub statement_Continue : (s : Spot) (last : Spot) → of_statement (the_statement.Continue s last) ≡ []
statement_Continue s last = ap of_statement (sym (the_statement.rolls-Continue s last)) ∙ para-roll-TypedStmt Found Found Found Found Found Found Found Found Found Found Found in_argument in_declaration in_declarator in_full_expression in_initializer in_node in_printed in_statement in_typed in_block in_lambda (TypedStmt-F.Continue s last)

pub statement_Return : (s : Spot) (e : Option Typed) (last : Spot) → of_statement (the_statement.Return s e last) ≡ of_maybe of_typed e
statement_Return s None last = ap of_statement (sym (the_statement.rolls-Return s None last)) ∙ para-roll-TypedStmt Found Found Found Found Found Found Found Found Found Found Found in_argument in_declaration in_declarator in_full_expression in_initializer in_node in_printed in_statement in_typed in_block in_lambda (TypedStmt-F.Return s None last)
statement_Return s (Some e_is) last = ap of_statement (sym (the_statement.rolls-Return s (Some e_is) last)) ∙ para-roll-TypedStmt Found Found Found Found Found Found Found Found Found Found Found in_argument in_declaration in_declarator in_full_expression in_initializer in_node in_printed in_statement in_typed in_block in_lambda (TypedStmt-F.Return s (Some e_is) last)

pub statement_If : (s : Spot) (c : Typed) (a : TypedStmt) (b : Option TypedStmt) → of_statement (the_statement.If s c a b) ≡ of_typed c ++ (of_statement a ++ of_maybe of_statement b)
statement_If s c a None = ap of_statement (sym (the_statement.rolls-If s c a None)) ∙ para-roll-TypedStmt Found Found Found Found Found Found Found Found Found Found Found in_argument in_declaration in_declarator in_full_expression in_initializer in_node in_printed in_statement in_typed in_block in_lambda (TypedStmt-F.If s c a None)
statement_If s c a (Some b_is) = ap of_statement (sym (the_statement.rolls-If s c a (Some b_is))) ∙ para-roll-TypedStmt Found Found Found Found Found Found Found Found Found Found Found in_argument in_declaration in_declarator in_full_expression in_initializer in_node in_printed in_statement in_typed in_block in_lambda (TypedStmt-F.If s c a (Some b_is))

pub statement_While : (s : Spot) (c : Typed) (b : TypedStmt) → of_statement (the_statement.While s c b) ≡ of_typed c ++ of_statement b
statement_While s c b = ap of_statement (sym (the_statement.rolls-While s c b)) ∙ para-roll-TypedStmt Found Found Found Found Found Found Found Found Found Found Found in_argument in_declaration in_declarator in_full_expression in_initializer in_node in_printed in_statement in_typed in_block in_lambda (TypedStmt-F.While s c b)

pub statement_Do : (s : Spot) (b : TypedStmt) (c : Typed) (last : Spot) → of_statement (the_statement.Do s b c last) ≡ of_statement b ++ of_typed c
statement_Do s b c last = ap of_statement (sym (the_statement.rolls-Do s b c last)) ∙ para-roll-TypedStmt Found Found Found Found Found Found Found Found Found Found Found in_argument in_declaration in_declarator in_full_expression in_initializer in_node in_printed in_statement in_typed in_block in_lambda (TypedStmt-F.Do s b c last)

pub statement_For : (s : Spot) (head : TypedStmt) (c : Option Typed) (step : Option TypedFull) (b : TypedStmt) → of_statement (the_statement.For s head c step b) ≡ of_statement head ++ (of_maybe of_typed c ++ (of_maybe of_full step ++ of_statement b))
statement_For s head None None b = ap of_statement (sym (the_statement.rolls-For s head None None b)) ∙ para-roll-TypedStmt Found Found Found Found Found Found Found Found Found Found Found in_argument in_declaration in_declarator in_full_expression in_initializer in_node in_printed in_statement in_typed in_block in_lambda (TypedStmt-F.For s head None None b)
statement_For s head None (Some step_is) b = ap of_statement (sym (the_statement.rolls-For s head None (Some step_is) b)) ∙ para-roll-TypedStmt Found Found Found Found Found Found Found Found Found Found Found in_argument in_declaration in_declarator in_full_expression in_initializer in_node in_printed in_statement in_typed in_block in_lambda (TypedStmt-F.For s head None (Some step_is) b)
statement_For s head (Some c_is) None b = ap of_statement (sym (the_statement.rolls-For s head (Some c_is) None b)) ∙ para-roll-TypedStmt Found Found Found Found Found Found Found Found Found Found Found in_argument in_declaration in_declarator in_full_expression in_initializer in_node in_printed in_statement in_typed in_block in_lambda (TypedStmt-F.For s head (Some c_is) None b)
statement_For s head (Some c_is) (Some step_is) b = ap of_statement (sym (the_statement.rolls-For s head (Some c_is) (Some step_is) b)) ∙ para-roll-TypedStmt Found Found Found Found Found Found Found Found Found Found Found in_argument in_declaration in_declarator in_full_expression in_initializer in_node in_printed in_statement in_typed in_block in_lambda (TypedStmt-F.For s head (Some c_is) (Some step_is) b)

pub statement_RangeFor : (s : Spot) (x : Variable) (by_reference : Bool) (v : Variable) (b : TypedStmt) → of_statement (the_statement.RangeFor s x by_reference v b) ≡ of_statement b
statement_RangeFor s x by_reference v b = ap of_statement (sym (the_statement.rolls-RangeFor s x by_reference v b)) ∙ para-roll-TypedStmt Found Found Found Found Found Found Found Found Found Found Found in_argument in_declaration in_declarator in_full_expression in_initializer in_node in_printed in_statement in_typed in_block in_lambda (TypedStmt-F.RangeFor s x by_reference v b)

pub statement_Try : (s : Spot) (b : TypedBlock) (x : Variable) (h : TypedBlock) → of_statement (the_statement.Try s b x h) ≡ lambdas_in b ++ lambdas_in h
statement_Try s b x h = ap of_statement (sym (the_statement.rolls-Try s b x h)) ∙ para-roll-TypedStmt Found Found Found Found Found Found Found Found Found Found Found in_argument in_declaration in_declarator in_full_expression in_initializer in_node in_printed in_statement in_typed in_block in_lambda (TypedStmt-F.Try s b x h)
