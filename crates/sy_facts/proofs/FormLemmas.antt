-- What each form of an expression means: the definition's fold, at each variant of the tree.
use Rattle.std.proofs.Common.{◌≡◌, ◌||◌, ◌∷◌, ◌+◌, ◌<◌, ◌≤◌, drop, get_or, length, ℕ, ℤ, Bool, true, false, List, Option, None, Some, Result, IfOk, map, ap, refl, subst, sym, ◌∙◌}
use Rattle.std.proofs.lemmas.List.{drop_all, drop_more}
use Rattle.std.specs.List.{list_any}
use Rattle.sy_facts.specs.Parts.{argument, declaration, full_statement, lambda, node, printing}
use Rattle.sy_lex.specs.declared.Text.{Text}
use Rattle.sy_meaning.specs.Expressions.{Argument, Block, Calls, Exp, Lambda, indexed, reference}
use Rattle.sy_meaning.specs.Locations.{element_of}
use Rattle.sy_meaning.specs.Meaning.{Node, argument_step, block, block_step, declaration_step, declarator_step, full_step, initializer_step, lambda_step, node_step, printed_step, stmt_step, typed_step}
use Rattle.sy_meaning.specs.Outcomes.{Ex, St}
use Rattle.sy_meaning.specs.declared.runs.Location.{Location}
use Rattle.sy_meaning.specs.Statements.{Initializer, Printing, Statement, argument_last, arguments_last}
use Rattle.sy_meaning.specs.Turns.{expression, statement}
use Rattle.sy_note.specs.declared.Spot.{Spot}
use Rattle.sy_num.specs.declared.Kind.{Kind}
use Rattle.sy_num.specs.declared.UnOp.{UnOp}
use Rattle.sy_tree.specs.declared.operators.AssignmentOperator.{AssignmentOperator}
use Rattle.sy_tree.specs.declared.operators.Operator.{Operator}
use Rattle.sy_tree.specs.declared.parts.AccessTag.{AccessTag}
use Rattle.sy_tree.specs.declared.parts.FunctionObject.{FunctionObject}
use Rattle.sy_tree.specs.declared.parts.LibraryFunction.{LibraryFunction}
use Rattle.sy_tree.specs.declared.parts.Step.{Step}
use Rattle.sy_typed.specs.declared.things.ErrorName.{ErrorName}
use Rattle.sy_typed.specs.declared.things.Member.{Member}
use Rattle.sy_typed.specs.declared.things.Thing.{Thing}
use Rattle.sy_typed.specs.declared.things.Thing.TheVariants as thing
use Rattle.sy_typed.specs.declared.tree.Typed.{Typed, out-Typed, roll-out-Typed, fold-roll-Typed}
use Rattle.sy_typed.specs.declared.tree.TypedArgument.TheOpen.{TypedArgument-F, TypedFull-F, TypedNode-F, TypedPrinted-F, TypedStmt-F}
use Rattle.sy_typed.specs.declared.tree.TypedArgument.{TypedArgument, fold-roll-TypedArgument}
use Rattle.sy_typed.specs.declared.tree.TypedArgument.TheVariants as the_argument
use Rattle.sy_typed.specs.declared.tree.TypedLambda.{TypedLambda}
use Rattle.sy_typed.specs.declared.tree.TypedBlock.{TypedBlock}
use Rattle.sy_typed.specs.declared.tree.TypedDeclaration.{TypedDeclaration}
use Rattle.sy_typed.specs.declared.tree.TypedDeclarator.{TypedDeclarator}
use Rattle.sy_typed.specs.declared.tree.TypedFull.{TypedFull, fold-roll-TypedFull}
use Rattle.sy_typed.specs.declared.tree.TypedFull.TheVariants as the_full
use Rattle.sy_typed.specs.declared.tree.TypedInitializer.{TypedInitializer}
use Rattle.sy_typed.specs.declared.tree.TypedNode.{TypedNode, fold-roll-TypedNode, out-TypedNode, roll-TypedNode, roll-out-TypedNode}
use Rattle.sy_typed.specs.declared.tree.TypedNode.TheVariants as the_node
use Rattle.sy_typed.specs.declared.tree.TypedPrinted.{TypedPrinted, fold-roll-TypedPrinted}
use Rattle.sy_typed.specs.declared.tree.TypedPrinted.TheVariants as the_printed
use Rattle.sy_typed.specs.declared.tree.TypedStmt.{TypedStmt, fold-roll-TypedStmt}
use Rattle.sy_typed.specs.declared.tree.TypedStmt.TheVariants as the_statement
use Rattle.sy_typed.specs.declared.tree.Variable.{Variable}

-- names by reference and indexes have the type that they are given
reference_what : (t : Thing) (line n : ℕ) → (reference t line n).what ≡ t
reference_what (thing.Integer k) line n = refl
reference_what t line n = refl

indexed_what : (t : Thing) (line last : ℕ) (m : Bool) (l : Location) (f : Ex) → (indexed t line last m l f).what ≡ t
indexed_what (thing.Integer k) line last m l f = refl
indexed_what t line last m l f = refl

pub indexed_location : (t : Thing) (line last : ℕ) (m : Bool) (l : Location) (f : Ex) → (indexed t line last m l f).location ≡ l
indexed_location (thing.Integer k) line last m l f = refl
indexed_location t line last m l f = refl

indexed_makes : (t : Thing) (line last : ℕ) (m : Bool) (l : Location) (f : Ex) → (indexed t line last m l f).makes ≡ m
indexed_makes (thing.Integer k) line last m l f = refl
indexed_makes t line last m l f = refl

-- ---- a list that is looked through from an index on

from_index : {X : Type 0} (xs : List X) (i : ℕ) (x : X) → i < length xs → x ≡ get_or xs i x → drop i xs ≡ x ∷ drop (i + 1) xs
from_index xs i x below is = drop_more xs i x below ∙ ap (λ y. y ∷ drop (i + 1) xs) (sym is)

pub any_next : {X Y : Type 0} (f : Y → Bool) (g : X → Y) (xs : List X) (i : ℕ) (x : X) (b : Bool) →
    i < length xs → x ≡ get_or xs i x → b ≡ f (g x) → b ≡ false → list_any f (map g (drop (i + 1) xs)) ≡ list_any f (map g (drop i xs))
any_next f g xs i x b below is h k =
    sym (ap (λ l. list_any f (map g l)) (from_index xs i x below is) ∙ ap (λ z. z || list_any f (map g (drop (i + 1) xs))) (sym h ∙ k))

pub any_here : {X Y : Type 0} (f : Y → Bool) (g : X → Y) (xs : List X) (i : ℕ) (x : X) (b : Bool) →
    i < length xs → x ≡ get_or xs i x → b ≡ f (g x) → b ≡ true → true ≡ list_any f (map g (drop i xs))
any_here f g xs i x b below is h k =
    sym (ap (λ l. list_any f (map g l)) (from_index xs i x below is) ∙ ap (λ z. z || list_any f (map g (drop (i + 1) xs))) (sym h ∙ k))

pub any_nowhere : {X Y : Type 0} (f : Y → Bool) (g : X → Y) (xs : List X) (i : ℕ) → length xs ≤ i → false ≡ list_any f (map g (drop i xs))
any_nowhere f g xs i over = sym (ap (λ l. list_any f (map g l)) (drop_all i xs over))

pub last_next : {X : Type 0} (g : X → Argument) (xs : List X) (i : ℕ) (x : X) (now n : ℕ) →
    i < length xs → x ≡ get_or xs i x → n ≡ argument_last (g x) → arguments_last n (map g (drop (i + 1) xs)) ≡ arguments_last now (map g (drop i xs))
last_next g xs i x now n below is h =
    ap (λ k. arguments_last k (map g (drop (i + 1) xs))) h ∙ sym (ap (λ l. arguments_last now (map g l)) (from_index xs i x below is))

pub last_ends : {X : Type 0} (g : X → Argument) (xs : List X) (i now : ℕ) → length xs ≤ i → now ≡ arguments_last now (map g (drop i xs))
last_ends g xs i now over = sym (ap (λ l. arguments_last now (map g l)) (drop_all i xs over))

module _ (calls : Calls) (limit : ℕ) where
  pub typed_is : (x : Typed) → expression calls limit x ≡ node calls limit (out-Typed x).node (out-Typed x).what (out-Typed x).spot
  typed_is x = ap (expression calls limit) (sym (roll-out-Typed x)) ∙ fold-roll-Typed Argument Statement St Statement Initializer Node Printing Statement Exp Block Lambda (argument_step calls limit) (declaration_step calls limit) (declarator_step calls limit) (full_step calls limit) (initializer_step calls limit) (node_step calls limit) (printed_step calls limit) (stmt_step calls limit) (typed_step calls limit) (block_step calls limit) (lambda_step calls limit) (out-Typed x)

  pub node_Integer : (z : ℤ) → node calls limit (the_node.Integer z) ≡ node_step calls limit (TypedNode-F.Integer z)
  node_Integer z = ap (node calls limit) (sym (the_node.rolls-Integer z)) ∙ fold-roll-TypedNode Argument Statement St Statement Initializer Node Printing Statement Exp Block Lambda (argument_step calls limit) (declaration_step calls limit) (declarator_step calls limit) (full_step calls limit) (initializer_step calls limit) (node_step calls limit) (printed_step calls limit) (stmt_step calls limit) (typed_step calls limit) (block_step calls limit) (lambda_step calls limit) (TypedNode-F.Integer z)

  pub node_Character : (z : ℤ) → node calls limit (the_node.Character z) ≡ node_step calls limit (TypedNode-F.Character z)
  node_Character z = ap (node calls limit) (sym (the_node.rolls-Character z)) ∙ fold-roll-TypedNode Argument Statement St Statement Initializer Node Printing Statement Exp Block Lambda (argument_step calls limit) (declaration_step calls limit) (declarator_step calls limit) (full_step calls limit) (initializer_step calls limit) (node_step calls limit) (printed_step calls limit) (stmt_step calls limit) (typed_step calls limit) (block_step calls limit) (lambda_step calls limit) (TypedNode-F.Character z)

  pub node_Boolean : (b : Bool) → node calls limit (the_node.Boolean b) ≡ node_step calls limit (TypedNode-F.Boolean b)
  node_Boolean b = ap (node calls limit) (sym (the_node.rolls-Boolean b)) ∙ fold-roll-TypedNode Argument Statement St Statement Initializer Node Printing Statement Exp Block Lambda (argument_step calls limit) (declaration_step calls limit) (declarator_step calls limit) (full_step calls limit) (initializer_step calls limit) (node_step calls limit) (printed_step calls limit) (stmt_step calls limit) (typed_step calls limit) (block_step calls limit) (lambda_step calls limit) (TypedNode-F.Boolean b)

  pub node_Name : (n : ℕ) → node calls limit (the_node.Name n) ≡ node_step calls limit (TypedNode-F.Name n)
  node_Name n = ap (node calls limit) (sym (the_node.rolls-Name n)) ∙ fold-roll-TypedNode Argument Statement St Statement Initializer Node Printing Statement Exp Block Lambda (argument_step calls limit) (declaration_step calls limit) (declarator_step calls limit) (full_step calls limit) (initializer_step calls limit) (node_step calls limit) (printed_step calls limit) (stmt_step calls limit) (typed_step calls limit) (block_step calls limit) (lambda_step calls limit) (TypedNode-F.Name n)

  pub node_Reference : (n : ℕ) → node calls limit (the_node.Reference n) ≡ node_step calls limit (TypedNode-F.Reference n)
  node_Reference n = ap (node calls limit) (sym (the_node.rolls-Reference n)) ∙ fold-roll-TypedNode Argument Statement St Statement Initializer Node Printing Statement Exp Block Lambda (argument_step calls limit) (declaration_step calls limit) (declarator_step calls limit) (full_step calls limit) (initializer_step calls limit) (node_step calls limit) (printed_step calls limit) (stmt_step calls limit) (typed_step calls limit) (block_step calls limit) (lambda_step calls limit) (TypedNode-F.Reference n)

  pub node_Call : (f : ℕ) (xs : List Typed) (last : Spot) → node calls limit (the_node.Call f xs last) ≡ node_step calls limit (TypedNode-F.Call f (map (expression calls limit) xs) last)
  node_Call f xs last = ap (node calls limit) (sym (the_node.rolls-Call f xs last)) ∙ fold-roll-TypedNode Argument Statement St Statement Initializer Node Printing Statement Exp Block Lambda (argument_step calls limit) (declaration_step calls limit) (declarator_step calls limit) (full_step calls limit) (initializer_step calls limit) (node_step calls limit) (printed_step calls limit) (stmt_step calls limit) (typed_step calls limit) (block_step calls limit) (lambda_step calls limit) (TypedNode-F.Call f xs last)

  pub node_Parenthesized : (a : Typed) (last : Spot) → node calls limit (the_node.Parenthesized a last) ≡ node_step calls limit (TypedNode-F.Parenthesized (expression calls limit a) last)
  node_Parenthesized a last = ap (node calls limit) (sym (the_node.rolls-Parenthesized a last)) ∙ fold-roll-TypedNode Argument Statement St Statement Initializer Node Printing Statement Exp Block Lambda (argument_step calls limit) (declaration_step calls limit) (declarator_step calls limit) (full_step calls limit) (initializer_step calls limit) (node_step calls limit) (printed_step calls limit) (stmt_step calls limit) (typed_step calls limit) (block_step calls limit) (lambda_step calls limit) (TypedNode-F.Parenthesized a last)

  pub node_StaticCast : (a : Typed) (last : Spot) → node calls limit (the_node.StaticCast a last) ≡ node_step calls limit (TypedNode-F.StaticCast (expression calls limit a) last)
  node_StaticCast a last = ap (node calls limit) (sym (the_node.rolls-StaticCast a last)) ∙ fold-roll-TypedNode Argument Statement St Statement Initializer Node Printing Statement Exp Block Lambda (argument_step calls limit) (declaration_step calls limit) (declarator_step calls limit) (full_step calls limit) (initializer_step calls limit) (node_step calls limit) (printed_step calls limit) (stmt_step calls limit) (typed_step calls limit) (block_step calls limit) (lambda_step calls limit) (TypedNode-F.StaticCast a last)

  pub node_FunctionalCast : (a : Typed) (last : Spot) → node calls limit (the_node.FunctionalCast a last) ≡ node_step calls limit (TypedNode-F.FunctionalCast (expression calls limit a) last)
  node_FunctionalCast a last = ap (node calls limit) (sym (the_node.rolls-FunctionalCast a last)) ∙ fold-roll-TypedNode Argument Statement St Statement Initializer Node Printing Statement Exp Block Lambda (argument_step calls limit) (declaration_step calls limit) (declarator_step calls limit) (full_step calls limit) (initializer_step calls limit) (node_step calls limit) (printed_step calls limit) (stmt_step calls limit) (typed_step calls limit) (block_step calls limit) (lambda_step calls limit) (TypedNode-F.FunctionalCast a last)

  pub node_Construct : (xs : List TypedArgument) (last : Spot) → node calls limit (the_node.Construct xs last) ≡ node_step calls limit (TypedNode-F.Construct (map (argument calls limit) xs) last)
  node_Construct xs last = ap (node calls limit) (sym (the_node.rolls-Construct xs last)) ∙ fold-roll-TypedNode Argument Statement St Statement Initializer Node Printing Statement Exp Block Lambda (argument_step calls limit) (declaration_step calls limit) (declarator_step calls limit) (full_step calls limit) (initializer_step calls limit) (node_step calls limit) (printed_step calls limit) (stmt_step calls limit) (typed_step calls limit) (block_step calls limit) (lambda_step calls limit) (TypedNode-F.Construct xs last)

  pub node_GroupBarrier : (a : Typed) (last : Spot) → node calls limit (the_node.GroupBarrier a last) ≡ node_step calls limit (TypedNode-F.GroupBarrier (expression calls limit a) last)
  node_GroupBarrier a last = ap (node calls limit) (sym (the_node.rolls-GroupBarrier a last)) ∙ fold-roll-TypedNode Argument Statement St Statement Initializer Node Printing Statement Exp Block Lambda (argument_step calls limit) (declaration_step calls limit) (declarator_step calls limit) (full_step calls limit) (initializer_step calls limit) (node_step calls limit) (printed_step calls limit) (stmt_step calls limit) (typed_step calls limit) (block_step calls limit) (lambda_step calls limit) (TypedNode-F.GroupBarrier a last)

  pub node_AccessTag : (t : AccessTag) → node calls limit (the_node.AccessTag t) ≡ node_step calls limit (TypedNode-F.AccessTag t)
  node_AccessTag t = ap (node calls limit) (sym (the_node.rolls-AccessTag t)) ∙ fold-roll-TypedNode Argument Statement St Statement Initializer Node Printing Statement Exp Block Lambda (argument_step calls limit) (declaration_step calls limit) (declarator_step calls limit) (full_step calls limit) (initializer_step calls limit) (node_step calls limit) (printed_step calls limit) (stmt_step calls limit) (typed_step calls limit) (block_step calls limit) (lambda_step calls limit) (TypedNode-F.AccessTag t)

  pub node_InOrder : (last : Spot) → node calls limit (the_node.InOrder last) ≡ node_step calls limit (TypedNode-F.InOrder last)
  node_InOrder last = ap (node calls limit) (sym (the_node.rolls-InOrder last)) ∙ fold-roll-TypedNode Argument Statement St Statement Initializer Node Printing Statement Exp Block Lambda (argument_step calls limit) (declaration_step calls limit) (declarator_step calls limit) (full_step calls limit) (initializer_step calls limit) (node_step calls limit) (printed_step calls limit) (stmt_step calls limit) (typed_step calls limit) (block_step calls limit) (lambda_step calls limit) (TypedNode-F.InOrder last)

  pub node_ErrorCode : (x : ErrorName) (last : Spot) → node calls limit (the_node.ErrorCode x last) ≡ node_step calls limit (TypedNode-F.ErrorCode x last)
  node_ErrorCode x last = ap (node calls limit) (sym (the_node.rolls-ErrorCode x last)) ∙ fold-roll-TypedNode Argument Statement St Statement Initializer Node Printing Statement Exp Block Lambda (argument_step calls limit) (declaration_step calls limit) (declarator_step calls limit) (full_step calls limit) (initializer_step calls limit) (node_step calls limit) (printed_step calls limit) (stmt_step calls limit) (typed_step calls limit) (block_step calls limit) (lambda_step calls limit) (TypedNode-F.ErrorCode x last)

  pub node_InitializeToIdentity : (last : Spot) → node calls limit (the_node.InitializeToIdentity last) ≡ node_step calls limit (TypedNode-F.InitializeToIdentity last)
  node_InitializeToIdentity last = ap (node calls limit) (sym (the_node.rolls-InitializeToIdentity last)) ∙ fold-roll-TypedNode Argument Statement St Statement Initializer Node Printing Statement Exp Block Lambda (argument_step calls limit) (declaration_step calls limit) (declarator_step calls limit) (full_step calls limit) (initializer_step calls limit) (node_step calls limit) (printed_step calls limit) (stmt_step calls limit) (typed_step calls limit) (block_step calls limit) (lambda_step calls limit) (TypedNode-F.InitializeToIdentity last)

  pub node_FunctionObject : (f : FunctionObject) (k : Option Kind) (last : Spot) → node calls limit (the_node.FunctionObject f k last) ≡ node_step calls limit (TypedNode-F.FunctionObject f k last)
  node_FunctionObject f k last = ap (node calls limit) (sym (the_node.rolls-FunctionObject f k last)) ∙ fold-roll-TypedNode Argument Statement St Statement Initializer Node Printing Statement Exp Block Lambda (argument_step calls limit) (declaration_step calls limit) (declarator_step calls limit) (full_step calls limit) (initializer_step calls limit) (node_step calls limit) (printed_step calls limit) (stmt_step calls limit) (typed_step calls limit) (block_step calls limit) (lambda_step calls limit) (TypedNode-F.FunctionObject f k last)

  pub node_LibraryCall : (f : LibraryFunction) (xs : List TypedArgument) (last : Spot) → node calls limit (the_node.LibraryCall f xs last) ≡ node_step calls limit (TypedNode-F.LibraryCall f (map (argument calls limit) xs) last)
  node_LibraryCall f xs last = ap (node calls limit) (sym (the_node.rolls-LibraryCall f xs last)) ∙ fold-roll-TypedNode Argument Statement St Statement Initializer Node Printing Statement Exp Block Lambda (argument_step calls limit) (declaration_step calls limit) (declarator_step calls limit) (full_step calls limit) (initializer_step calls limit) (node_step calls limit) (printed_step calls limit) (stmt_step calls limit) (typed_step calls limit) (block_step calls limit) (lambda_step calls limit) (TypedNode-F.LibraryCall f xs last)

  pub node_Subscript : (a : Typed) (i : Typed) (last : Spot) → node calls limit (the_node.Subscript a i last) ≡ node_step calls limit (TypedNode-F.Subscript (expression calls limit a) (expression calls limit i) last)
  node_Subscript a i last = ap (node calls limit) (sym (the_node.rolls-Subscript a i last)) ∙ fold-roll-TypedNode Argument Statement St Statement Initializer Node Printing Statement Exp Block Lambda (argument_step calls limit) (declaration_step calls limit) (declarator_step calls limit) (full_step calls limit) (initializer_step calls limit) (node_step calls limit) (printed_step calls limit) (stmt_step calls limit) (typed_step calls limit) (block_step calls limit) (lambda_step calls limit) (TypedNode-F.Subscript a i last)

  pub node_MemberCall : (a : Typed) (m : Member) (xs : List TypedArgument) (last : Spot) → node calls limit (the_node.MemberCall a m xs last) ≡ node_step calls limit (TypedNode-F.MemberCall (expression calls limit a) m (map (argument calls limit) xs) last)
  node_MemberCall a m xs last = ap (node calls limit) (sym (the_node.rolls-MemberCall a m xs last)) ∙ fold-roll-TypedNode Argument Statement St Statement Initializer Node Printing Statement Exp Block Lambda (argument_step calls limit) (declaration_step calls limit) (declarator_step calls limit) (full_step calls limit) (initializer_step calls limit) (node_step calls limit) (printed_step calls limit) (stmt_step calls limit) (typed_step calls limit) (block_step calls limit) (lambda_step calls limit) (TypedNode-F.MemberCall a m xs last)

  pub node_Postfix : (a : Typed) (s : Step) → node calls limit (the_node.Postfix a s) ≡ node_step calls limit (TypedNode-F.Postfix (expression calls limit a) s)
  node_Postfix a s = ap (node calls limit) (sym (the_node.rolls-Postfix a s)) ∙ fold-roll-TypedNode Argument Statement St Statement Initializer Node Printing Statement Exp Block Lambda (argument_step calls limit) (declaration_step calls limit) (declarator_step calls limit) (full_step calls limit) (initializer_step calls limit) (node_step calls limit) (printed_step calls limit) (stmt_step calls limit) (typed_step calls limit) (block_step calls limit) (lambda_step calls limit) (TypedNode-F.Postfix a s)

  pub node_Prefix : (s : Step) (a : Typed) → node calls limit (the_node.Prefix s a) ≡ node_step calls limit (TypedNode-F.Prefix s (expression calls limit a))
  node_Prefix s a = ap (node calls limit) (sym (the_node.rolls-Prefix s a)) ∙ fold-roll-TypedNode Argument Statement St Statement Initializer Node Printing Statement Exp Block Lambda (argument_step calls limit) (declaration_step calls limit) (declarator_step calls limit) (full_step calls limit) (initializer_step calls limit) (node_step calls limit) (printed_step calls limit) (stmt_step calls limit) (typed_step calls limit) (block_step calls limit) (lambda_step calls limit) (TypedNode-F.Prefix s a)

  pub node_Unary : (op : UnOp) (a : Typed) → node calls limit (the_node.Unary op a) ≡ node_step calls limit (TypedNode-F.Unary op (expression calls limit a))
  node_Unary op a = ap (node calls limit) (sym (the_node.rolls-Unary op a)) ∙ fold-roll-TypedNode Argument Statement St Statement Initializer Node Printing Statement Exp Block Lambda (argument_step calls limit) (declaration_step calls limit) (declarator_step calls limit) (full_step calls limit) (initializer_step calls limit) (node_step calls limit) (printed_step calls limit) (stmt_step calls limit) (typed_step calls limit) (block_step calls limit) (lambda_step calls limit) (TypedNode-F.Unary op a)

  pub node_Cast : (a : Typed) → node calls limit (the_node.Cast a) ≡ node_step calls limit (TypedNode-F.Cast (expression calls limit a))
  node_Cast a = ap (node calls limit) (sym (the_node.rolls-Cast a)) ∙ fold-roll-TypedNode Argument Statement St Statement Initializer Node Printing Statement Exp Block Lambda (argument_step calls limit) (declaration_step calls limit) (declarator_step calls limit) (full_step calls limit) (initializer_step calls limit) (node_step calls limit) (printed_step calls limit) (stmt_step calls limit) (typed_step calls limit) (block_step calls limit) (lambda_step calls limit) (TypedNode-F.Cast a)

  pub node_Binary : (a : Typed) (op : Operator) (b : Typed) → node calls limit (the_node.Binary a op b) ≡ node_step calls limit (TypedNode-F.Binary (expression calls limit a) op (expression calls limit b))
  node_Binary a op b = ap (node calls limit) (sym (the_node.rolls-Binary a op b)) ∙ fold-roll-TypedNode Argument Statement St Statement Initializer Node Printing Statement Exp Block Lambda (argument_step calls limit) (declaration_step calls limit) (declarator_step calls limit) (full_step calls limit) (initializer_step calls limit) (node_step calls limit) (printed_step calls limit) (stmt_step calls limit) (typed_step calls limit) (block_step calls limit) (lambda_step calls limit) (TypedNode-F.Binary a op b)

  pub node_Conditional : (c : Typed) (a : Typed) (b : Typed) → node calls limit (the_node.Conditional c a b) ≡ node_step calls limit (TypedNode-F.Conditional (expression calls limit c) (expression calls limit a) (expression calls limit b))
  node_Conditional c a b = ap (node calls limit) (sym (the_node.rolls-Conditional c a b)) ∙ fold-roll-TypedNode Argument Statement St Statement Initializer Node Printing Statement Exp Block Lambda (argument_step calls limit) (declaration_step calls limit) (declarator_step calls limit) (full_step calls limit) (initializer_step calls limit) (node_step calls limit) (printed_step calls limit) (stmt_step calls limit) (typed_step calls limit) (block_step calls limit) (lambda_step calls limit) (TypedNode-F.Conditional c a b)

  pub argument_Value : (e : Typed) → argument calls limit (the_argument.Value e) ≡ argument_step calls limit (TypedArgument-F.Value (expression calls limit e))
  argument_Value e = ap (argument calls limit) (sym (the_argument.rolls-Value e)) ∙ fold-roll-TypedArgument Argument Statement St Statement Initializer Node Printing Statement Exp Block Lambda (argument_step calls limit) (declaration_step calls limit) (declarator_step calls limit) (full_step calls limit) (initializer_step calls limit) (node_step calls limit) (printed_step calls limit) (stmt_step calls limit) (typed_step calls limit) (block_step calls limit) (lambda_step calls limit) (TypedArgument-F.Value e)

  pub argument_Braced : (es : List Typed) (last : Spot) → argument calls limit (the_argument.Braced es last) ≡ argument_step calls limit (TypedArgument-F.Braced (map (expression calls limit) es) last)
  argument_Braced es last = ap (argument calls limit) (sym (the_argument.rolls-Braced es last)) ∙ fold-roll-TypedArgument Argument Statement St Statement Initializer Node Printing Statement Exp Block Lambda (argument_step calls limit) (declaration_step calls limit) (declarator_step calls limit) (full_step calls limit) (initializer_step calls limit) (node_step calls limit) (printed_step calls limit) (stmt_step calls limit) (typed_step calls limit) (block_step calls limit) (lambda_step calls limit) (TypedArgument-F.Braced es last)

  pub statement_While : (s : Spot) (c : Typed) (b : TypedStmt) → statement calls limit (the_statement.While s c b) ≡ stmt_step calls limit (TypedStmt-F.While s (expression calls limit c) (statement calls limit b))
  statement_While s c b = ap (statement calls limit) (sym (the_statement.rolls-While s c b)) ∙ fold-roll-TypedStmt Argument Statement St Statement Initializer Node Printing Statement Exp Block Lambda (argument_step calls limit) (declaration_step calls limit) (declarator_step calls limit) (full_step calls limit) (initializer_step calls limit) (node_step calls limit) (printed_step calls limit) (stmt_step calls limit) (typed_step calls limit) (block_step calls limit) (lambda_step calls limit) (TypedStmt-F.While s c b)

  pub statement_RangeFor : (s : Spot) (x : Variable) (r : Bool) (v : Variable) (b : TypedStmt) → statement calls limit (the_statement.RangeFor s x r v b) ≡ stmt_step calls limit (TypedStmt-F.RangeFor s x r v (statement calls limit b))
  statement_RangeFor s x r v b = ap (statement calls limit) (sym (the_statement.rolls-RangeFor s x r v b)) ∙ fold-roll-TypedStmt Argument Statement St Statement Initializer Node Printing Statement Exp Block Lambda (argument_step calls limit) (declaration_step calls limit) (declarator_step calls limit) (full_step calls limit) (initializer_step calls limit) (node_step calls limit) (printed_step calls limit) (stmt_step calls limit) (typed_step calls limit) (block_step calls limit) (lambda_step calls limit) (TypedStmt-F.RangeFor s x r v b)

  pub statement_Declaration : (d : TypedDeclaration) → statement calls limit (the_statement.Declaration d) ≡ stmt_step calls limit (TypedStmt-F.Declaration (declaration calls limit d))
  statement_Declaration d = ap (statement calls limit) (sym (the_statement.rolls-Declaration d)) ∙ fold-roll-TypedStmt Argument Statement St Statement Initializer Node Printing Statement Exp Block Lambda (argument_step calls limit) (declaration_step calls limit) (declarator_step calls limit) (full_step calls limit) (initializer_step calls limit) (node_step calls limit) (printed_step calls limit) (stmt_step calls limit) (typed_step calls limit) (block_step calls limit) (lambda_step calls limit) (TypedStmt-F.Declaration d)

  pub if_without_else : (s : Spot) (c : Typed) (a : TypedStmt) → (statement calls limit (the_statement.If s c a None)).last ≡ (statement calls limit a).last
  if_without_else s c a = ap (λ (x : Statement). x.last) (ap (statement calls limit) (sym (the_statement.rolls-If s c a None)) ∙ fold-roll-TypedStmt Argument Statement St Statement Initializer Node Printing Statement Exp Block Lambda (argument_step calls limit) (declaration_step calls limit) (declarator_step calls limit) (full_step calls limit) (initializer_step calls limit) (node_step calls limit) (printed_step calls limit) (stmt_step calls limit) (typed_step calls limit) (block_step calls limit) (lambda_step calls limit) (TypedStmt-F.If s c a None))

  pub if_with_else : (s : Spot) (c : Typed) (a b : TypedStmt) → (statement calls limit (the_statement.If s c a (Some b))).last ≡ (statement calls limit b).last
  if_with_else s c a b = ap (λ (x : Statement). x.last) (ap (statement calls limit) (sym (the_statement.rolls-If s c a (Some b))) ∙ fold-roll-TypedStmt Argument Statement St Statement Initializer Node Printing Statement Exp Block Lambda (argument_step calls limit) (declaration_step calls limit) (declarator_step calls limit) (full_step calls limit) (initializer_step calls limit) (node_step calls limit) (printed_step calls limit) (stmt_step calls limit) (typed_step calls limit) (block_step calls limit) (lambda_step calls limit) (TypedStmt-F.If s c a (Some b)))

  pub for_last : (s : Spot) (head : TypedStmt) (c : Option Typed) (step : Option TypedFull) (b : TypedStmt) → (statement calls limit (the_statement.For s head c step b)).last ≡ (statement calls limit b).last
  for_last s head c step b = ap (λ (x : Statement). x.last) (ap (statement calls limit) (sym (the_statement.rolls-For s head c step b)) ∙ fold-roll-TypedStmt Argument Statement St Statement Initializer Node Printing Statement Exp Block Lambda (argument_step calls limit) (declaration_step calls limit) (declarator_step calls limit) (full_step calls limit) (initializer_step calls limit) (node_step calls limit) (printed_step calls limit) (stmt_step calls limit) (typed_step calls limit) (block_step calls limit) (lambda_step calls limit) (TypedStmt-F.For s head c step b))

  -- ---- fields of what an expression means

  pub form_is : (x : Typed) (n : TypedNode) (m : Node) → (out-Typed x).node ≡ n → node calls limit n ≡ m → expression calls limit x ≡ m (out-Typed x).what (out-Typed x).spot
  form_is x n m h k = typed_is x ∙ ap (λ (z : TypedNode). node calls limit z (out-Typed x).what (out-Typed x).spot) h ∙ ap (λ (z : Node). z (out-Typed x).what (out-Typed x).spot) k

  -- one that is that of a part
  pub field_is : {A E : Type 0} (f : Exp → A) (e a b : Typed) (n : TypedNode) (m : Node) (r : Result A E) →
      (out-Typed e).node ≡ n → node calls limit n ≡ m → f (m (out-Typed e).what (out-Typed e).spot) ≡ f (expression calls limit a) → b ≡ a →
      IfOk r (λ k. k ≡ f (expression calls limit b)) → IfOk r (λ k. k ≡ f (expression calls limit e))
  field_is f e a b n m r h k ef eb =
      subst (λ z. IfOk r (λ x. x ≡ z)) (ap (λ (x : Typed). f (expression calls limit x)) eb ∙ sym ef ∙ sym (ap f (form_is e n m h k)))

  pub last_is : {E : Type 0} (s a b : TypedStmt) (r : Result ℕ E) → (statement calls limit s).last ≡ (statement calls limit a).last → b ≡ a →
      IfOk r (λ k. k ≡ (statement calls limit b).last) → IfOk r (λ k. k ≡ (statement calls limit s).last)
  last_is s a b r es eb = subst (λ z. IfOk r (λ x. x ≡ z)) (ap (λ (x : TypedStmt). (statement calls limit x).last) eb ∙ sym es)

  own_what_of : (y : TypedNode-F TypedArgument TypedDeclaration TypedDeclarator TypedFull TypedInitializer TypedNode TypedPrinted TypedStmt Typed TypedBlock TypedLambda) (t : Thing) (s : Spot) → ((a : Typed) (last : Spot) → roll-TypedNode y ≡ the_node.Parenthesized a last → ⊥) → (node calls limit (roll-TypedNode y) t s).what ≡ t
  own_what_of (TypedNode-F.Integer z) t s h = ap (λ (m : Node). (m t s).what) (ap (node calls limit) (the_node.rolls-Integer z) ∙ node_Integer z)
  own_what_of (TypedNode-F.Character z) t s h = ap (λ (m : Node). (m t s).what) (ap (node calls limit) (the_node.rolls-Character z) ∙ node_Character z)
  own_what_of (TypedNode-F.Boolean b) t s h = ap (λ (m : Node). (m t s).what) (ap (node calls limit) (the_node.rolls-Boolean b) ∙ node_Boolean b)
  own_what_of (TypedNode-F.Name n) t s h = ap (λ (m : Node). (m t s).what) (ap (node calls limit) (the_node.rolls-Name n) ∙ node_Name n)
  own_what_of (TypedNode-F.Reference n) t s h = ap (λ (m : Node). (m t s).what) (ap (node calls limit) (the_node.rolls-Reference n) ∙ node_Reference n) ∙ reference_what t s.line n
  own_what_of (TypedNode-F.Call f xs last) t s h = ap (λ (m : Node). (m t s).what) (ap (node calls limit) (the_node.rolls-Call f xs last) ∙ node_Call f xs last)
  own_what_of (TypedNode-F.Parenthesized a last) t s h = absurd (h a last (the_node.rolls-Parenthesized a last))
  own_what_of (TypedNode-F.StaticCast a last) t s h = ap (λ (m : Node). (m t s).what) (ap (node calls limit) (the_node.rolls-StaticCast a last) ∙ node_StaticCast a last)
  own_what_of (TypedNode-F.FunctionalCast a last) t s h = ap (λ (m : Node). (m t s).what) (ap (node calls limit) (the_node.rolls-FunctionalCast a last) ∙ node_FunctionalCast a last)
  own_what_of (TypedNode-F.Construct xs last) t s h = ap (λ (m : Node). (m t s).what) (ap (node calls limit) (the_node.rolls-Construct xs last) ∙ node_Construct xs last)
  own_what_of (TypedNode-F.GroupBarrier a last) t s h = ap (λ (m : Node). (m t s).what) (ap (node calls limit) (the_node.rolls-GroupBarrier a last) ∙ node_GroupBarrier a last)
  own_what_of (TypedNode-F.AccessTag tag) t s h = ap (λ (m : Node). (m t s).what) (ap (node calls limit) (the_node.rolls-AccessTag tag) ∙ node_AccessTag tag)
  own_what_of (TypedNode-F.InOrder last) t s h = ap (λ (m : Node). (m t s).what) (ap (node calls limit) (the_node.rolls-InOrder last) ∙ node_InOrder last)
  own_what_of (TypedNode-F.ErrorCode x last) t s h = ap (λ (m : Node). (m t s).what) (ap (node calls limit) (the_node.rolls-ErrorCode x last) ∙ node_ErrorCode x last)
  own_what_of (TypedNode-F.InitializeToIdentity last) t s h = ap (λ (m : Node). (m t s).what) (ap (node calls limit) (the_node.rolls-InitializeToIdentity last) ∙ node_InitializeToIdentity last)
  own_what_of (TypedNode-F.FunctionObject f k last) t s h = ap (λ (m : Node). (m t s).what) (ap (node calls limit) (the_node.rolls-FunctionObject f k last) ∙ node_FunctionObject f k last)
  own_what_of (TypedNode-F.LibraryCall f xs last) t s h = ap (λ (m : Node). (m t s).what) (ap (node calls limit) (the_node.rolls-LibraryCall f xs last) ∙ node_LibraryCall f xs last)
  own_what_of (TypedNode-F.Subscript a i last) t s h = ap (λ (m : Node). (m t s).what) (ap (node calls limit) (the_node.rolls-Subscript a i last) ∙ node_Subscript a i last) ∙ indexed_what t s.line last.line _ _ _
  own_what_of (TypedNode-F.MemberCall a m xs last) t s h = ap (λ (m : Node). (m t s).what) (ap (node calls limit) (the_node.rolls-MemberCall a m xs last) ∙ node_MemberCall a m xs last)
  own_what_of (TypedNode-F.Postfix a way) t s h = ap (λ (m : Node). (m t s).what) (ap (node calls limit) (the_node.rolls-Postfix a way) ∙ node_Postfix a way)
  own_what_of (TypedNode-F.Prefix way a) t s h = ap (λ (m : Node). (m t s).what) (ap (node calls limit) (the_node.rolls-Prefix way a) ∙ node_Prefix way a)
  own_what_of (TypedNode-F.Unary op a) t s h = ap (λ (m : Node). (m t s).what) (ap (node calls limit) (the_node.rolls-Unary op a) ∙ node_Unary op a)
  own_what_of (TypedNode-F.Cast a) t s h = ap (λ (m : Node). (m t s).what) (ap (node calls limit) (the_node.rolls-Cast a) ∙ node_Cast a)
  own_what_of (TypedNode-F.Binary a op b) t s h = ap (λ (m : Node). (m t s).what) (ap (node calls limit) (the_node.rolls-Binary a op b) ∙ node_Binary a op b)
  own_what_of (TypedNode-F.Conditional c a b) t s h = ap (λ (m : Node). (m t s).what) (ap (node calls limit) (the_node.rolls-Conditional c a b) ∙ node_Conditional c a b)

  -- all but what stands in parentheses have their own type
  pub own_what : (x : Typed) → ((a : Typed) (last : Spot) → (out-Typed x).node ≡ the_node.Parenthesized a last → ⊥) → (out-Typed x).what ≡ (expression calls limit x).what
  own_what x h =
      sym (ap (λ (e : Exp). e.what) (typed_is x)
      ∙ subst (λ n. ((a : Typed) (last : Spot) → n ≡ the_node.Parenthesized a last → ⊥) → (node calls limit n (out-Typed x).what (out-Typed x).spot).what ≡ (out-Typed x).what)
      (roll-out-TypedNode (out-Typed x).node) (own_what_of (out-TypedNode (out-Typed x).node) (out-Typed x).what (out-Typed x).spot) h)

  -- what is designated at an index
  pub subscript_location : (e a i : Typed) (last : Spot) → (out-Typed e).node ≡ the_node.Subscript a i last →
      element_of (expression calls limit a).what (expression calls limit a).location ≡ (expression calls limit e).location
  subscript_location e a i last h =
      sym (ap (λ (x : Exp). x.location) (form_is e _ _ h (node_Subscript a i last)) ∙ indexed_location _ _ _ _ _ _)

  pub told_is : {A E : Type 0} (r : Result A E) (x y : A) → x ≡ y → IfOk r (λ k. k ≡ y) → IfOk r (λ k. k ≡ x)
  told_is r x y h = subst (λ z. IfOk r (λ k. k ≡ z)) (sym h)

  pub full_statement_Plain : (e : Typed) → full_statement calls limit (the_full.Plain e) ≡ full_step calls limit (TypedFull-F.Plain (expression calls limit e))
  full_statement_Plain e = ap (full_statement calls limit) (sym (the_full.rolls-Plain e)) ∙ fold-roll-TypedFull Argument Statement St Statement Initializer Node Printing Statement Exp Block Lambda (argument_step calls limit) (declaration_step calls limit) (declarator_step calls limit) (full_step calls limit) (initializer_step calls limit) (node_step calls limit) (printed_step calls limit) (stmt_step calls limit) (typed_step calls limit) (block_step calls limit) (lambda_step calls limit) (TypedFull-F.Plain e)

  pub full_statement_Assignment : (a : Typed) (s : Spot) (op : AssignmentOperator) (b : Typed) → full_statement calls limit (the_full.Assignment a s op b) ≡ full_step calls limit (TypedFull-F.Assignment (expression calls limit a) s op (expression calls limit b))
  full_statement_Assignment a s op b = ap (full_statement calls limit) (sym (the_full.rolls-Assignment a s op b)) ∙ fold-roll-TypedFull Argument Statement St Statement Initializer Node Printing Statement Exp Block Lambda (argument_step calls limit) (declaration_step calls limit) (declarator_step calls limit) (full_step calls limit) (initializer_step calls limit) (node_step calls limit) (printed_step calls limit) (stmt_step calls limit) (typed_step calls limit) (block_step calls limit) (lambda_step calls limit) (TypedFull-F.Assignment a s op b)

  pub printing_Operand : (s : Spot) (e : Typed) → printing calls limit (the_printed.Operand s e) ≡ printed_step calls limit (TypedPrinted-F.Operand s (expression calls limit e))
  printing_Operand s e = ap (printing calls limit) (sym (the_printed.rolls-Operand s e)) ∙ fold-roll-TypedPrinted Argument Statement St Statement Initializer Node Printing Statement Exp Block Lambda (argument_step calls limit) (declaration_step calls limit) (declarator_step calls limit) (full_step calls limit) (initializer_step calls limit) (node_step calls limit) (printed_step calls limit) (stmt_step calls limit) (typed_step calls limit) (block_step calls limit) (lambda_step calls limit) (TypedPrinted-F.Operand s e)

  pub field_told : {A E : Type 0} (f : Exp → A) (e : Typed) (n : TypedNode) (m : Node) (r : Result A E) (y : A) →
      (out-Typed e).node ≡ n → node calls limit n ≡ m → f (m (out-Typed e).what (out-Typed e).spot) ≡ y →
      IfOk r (λ k. k ≡ y) → IfOk r (λ k. k ≡ f (expression calls limit e))
  field_told f e n m r y h k ef = told_is r (f (expression calls limit e)) y (ap f (form_is e n m h k) ∙ ef)

  pub subscript_makes : (e a i : Typed) (last : Spot) → (out-Typed e).node ≡ the_node.Subscript a i last →
      (expression calls limit e).makes ≡ ((expression calls limit a).makes || (expression calls limit i).makes)
  subscript_makes e a i last h = ap (λ (x : Exp). x.makes) (form_is e _ _ h (node_Subscript a i last)) ∙ indexed_makes _ _ _ _ _ _
