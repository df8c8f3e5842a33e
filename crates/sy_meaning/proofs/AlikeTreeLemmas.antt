-- What a typed tree means is alike, whatever it calls: an induction over the tree.
use Rattle.std.proofs.Common.{ap, refl, subst, sym}
use Rattle.std.specs.Prelude.{List, None, Some, [], false, map, ℕ, ◌∷◌, ◌≡◌}
use Rattle.sy_note.specs.declared.Spot.{Spot}
use Rattle.sy_typed.specs.declared.things.Thing.{Thing}
use Rattle.sy_typed.specs.declared.tree.TypedArgument.TheOpen.{Typed-F, TypedArgument-F, TypedBlock-F, TypedDeclaration-F, TypedDeclarator-F, TypedFull-F, TypedInitializer-F, TypedLambda-F, TypedNode-F, TypedPrinted-F, TypedStmt-F}
use Rattle.sy_typed.specs.declared.tree.TypedArgument.{TypedArgument, fold-roll-TypedArgument, map-TypedArgument, roll-TypedArgument}
use Rattle.sy_typed.specs.declared.tree.TypedDeclaration.{TypedDeclaration, fold-roll-TypedDeclaration, map-TypedDeclaration, roll-TypedDeclaration}
use Rattle.sy_typed.specs.declared.tree.TypedDeclarator.{TypedDeclarator, fold-roll-TypedDeclarator, map-TypedDeclarator, roll-TypedDeclarator}
use Rattle.sy_typed.specs.declared.tree.TypedFull.{TypedFull, fold-roll-TypedFull, map-TypedFull, roll-TypedFull}
use Rattle.sy_typed.specs.declared.tree.TypedInitializer.{TypedInitializer, fold-roll-TypedInitializer, map-TypedInitializer, roll-TypedInitializer}
use Rattle.sy_typed.specs.declared.tree.TypedNode.{TypedNode, fold-roll-TypedNode, map-TypedNode, roll-TypedNode}
use Rattle.sy_typed.specs.declared.tree.TypedPrinted.{TypedPrinted, fold-roll-TypedPrinted, map-TypedPrinted, roll-TypedPrinted}
use Rattle.sy_typed.specs.declared.tree.TypedStmt.{TypedStmt, fold-roll-TypedStmt, map-TypedStmt, roll-TypedStmt}
use Rattle.sy_typed.specs.declared.tree.Typed.{Typed, fold-roll-Typed, map-Typed, roll-Typed}
use Rattle.sy_typed.specs.declared.tree.TypedBlock.{TypedBlock, fold-roll-TypedBlock, map-TypedBlock, roll-TypedBlock, ind-TypedBlock}
use Rattle.sy_typed.specs.declared.tree.TypedLambda.{TypedLambda, fold-roll-TypedLambda, map-TypedLambda, roll-TypedLambda}
use Rattle.sy_meaning.specs.Words.{nothing}
use Rattle.sy_meaning.specs.Outcomes.{St, gives, in_turn}
use Rattle.sy_meaning.specs.Ends.{in_scope}
use Rattle.sy_meaning.specs.Expressions.{Argument, Block, Calls, Exp, Lambda, literal}
use Rattle.sy_meaning.specs.declared.outcomes.Flow.TheVariants as flow
use Rattle.sy_meaning.specs.declared.runs.Location.TheVariants as location
use Rattle.sy_meaning.specs.Statements.{Initializer, Printing, Statement, choose, declare_object, declare_team, declare_thread, declare_vector, do_loop, for_loop, normal, print_all, range_for, returned, scoped, scoped_or_nothing, try_block, while_loop}
use Rattle.sy_meaning.specs.Meaning.{Node, argument_step, block_step, declaration_step, declarator_step, full_step, initializer_step, lambda_step, last_of_if, node_step, printed_step, statement_run, stmt_step, typed_step}
use Rattle.sy_meaning.proofs.TreeLemmas.{argument_of, block_of, declaration_of, declarator_of, full_of, initializer_of, lambda_of, node_of, printed_of, statement_of, typed_of}
use Rattle.sy_meaning.proofs.AlikeLemmas.{AllStAlike, Bound, StAlike, flows, gave, in_turn_alike}
use Rattle.sy_meaning.proofs.AlikeRunLemmas.{AllTwins, CallsAlike, Twin, in_scope_alike, located_twin, reference_twin}
use Rattle.sy_meaning.proofs.AlikeStatementLemmas.{AllArguments, AllPrinted, ArgumentTwin, BlockTwin, InitializerTwin, LambdaTwin, PrintingTwin, StatementTwin, choice_alike, declare_object_alike, declare_team_alike, declare_thread_alike, declare_value_alike, declare_vector_alike, declare_zero_alike, do_alike, for_alike, of_run, print_all_alike, range_for_alike, returned_alike, statement_is, try_alike, while_alike}
use Rattle.sy_meaning.proofs.AlikeFormLemmas.{assignment_twin, barrier_twin, binary_twin, block_is, block_last, call_twin, cast_twin, conditional_twin, construct_twin, if_last, leaf_twin, library_twin, member_twin, operand_twin, parenthesized_twin, plain_cast_twin, plain_full_twin, postfix_twin, prefix_twin, statement_last, subscript_twin, text_twin, twin_of, unary_twin}

module _ (k : Bound) (c d : Calls) (limit : ℕ) where
  abbrev ArgumentClaim : TypedArgument → Type 0
  ArgumentClaim x = ArgumentTwin k (argument_of c limit x) (argument_of d limit x)

  abbrev AnArgument : Type 0
  AnArgument = (x : TypedArgument) × ArgumentClaim x

  abbrev DeclarationClaim : TypedDeclaration → Type 0
  DeclarationClaim x = StatementTwin k (declaration_of c limit x) (declaration_of d limit x)

  abbrev ADeclaration : Type 0
  ADeclaration = (x : TypedDeclaration) × DeclarationClaim x

  abbrev DeclaratorClaim : TypedDeclarator → Type 0
  DeclaratorClaim x = StAlike k (declarator_of c limit x) (declarator_of d limit x)

  abbrev ADeclarator : Type 0
  ADeclarator = (x : TypedDeclarator) × DeclaratorClaim x

  abbrev FullClaim : TypedFull → Type 0
  FullClaim x = StatementTwin k (full_of c limit x) (full_of d limit x)

  abbrev AFull : Type 0
  AFull = (x : TypedFull) × FullClaim x

  abbrev InitializerClaim : TypedInitializer → Type 0
  InitializerClaim x = InitializerTwin k (initializer_of c limit x) (initializer_of d limit x)

  abbrev AnInitializer : Type 0
  AnInitializer = (x : TypedInitializer) × InitializerClaim x

  abbrev NodeClaim : TypedNode → Type 0
  NodeClaim x = (t : Thing) (s : Spot) → Twin k (node_of c limit x t s) (node_of d limit x t s)

  abbrev ANode : Type 0
  ANode = (x : TypedNode) × NodeClaim x

  abbrev PrintedClaim : TypedPrinted → Type 0
  PrintedClaim x = PrintingTwin k (printed_of c limit x) (printed_of d limit x)

  abbrev APrinted : Type 0
  APrinted = (x : TypedPrinted) × PrintedClaim x

  abbrev StatementClaim : TypedStmt → Type 0
  StatementClaim x = StatementTwin k (statement_of c limit x) (statement_of d limit x)

  abbrev AStatement : Type 0
  AStatement = (x : TypedStmt) × StatementClaim x

  abbrev TypedClaim : Typed → Type 0
  TypedClaim x = Twin k (typed_of c limit x) (typed_of d limit x)

  abbrev ATyped : Type 0
  ATyped = (x : Typed) × TypedClaim x

  abbrev BlockClaim : TypedBlock → Type 0
  BlockClaim x = BlockTwin k (block_of c limit x) (block_of d limit x)

  abbrev ABlock : Type 0
  ABlock = (x : TypedBlock) × BlockClaim x

  abbrev LambdaClaim : TypedLambda → Type 0
  LambdaClaim x = LambdaTwin k (lambda_of c limit x) (lambda_of d limit x)

  abbrev ALambda : Type 0
  ALambda = (x : TypedLambda) × LambdaClaim x

  abbrev first-TypedArgument : TypedArgument-F AnArgument ADeclaration ADeclarator AFull AnInitializer ANode APrinted AStatement ATyped ABlock ALambda → Argument
  first-TypedArgument y = argument_step c limit (map-TypedArgument TypedArgument TypedDeclaration TypedDeclarator TypedFull TypedInitializer TypedNode TypedPrinted TypedStmt Typed TypedBlock TypedLambda Argument Statement St Statement Initializer Node Printing Statement Exp Block Lambda (argument_of c limit) (declaration_of c limit) (declarator_of c limit) (full_of c limit) (initializer_of c limit) (node_of c limit) (printed_of c limit) (statement_of c limit) (typed_of c limit) (block_of c limit) (lambda_of c limit) (map-TypedArgument AnArgument ADeclaration ADeclarator AFull AnInitializer ANode APrinted AStatement ATyped ABlock ALambda TypedArgument TypedDeclaration TypedDeclarator TypedFull TypedInitializer TypedNode TypedPrinted TypedStmt Typed TypedBlock TypedLambda (λ e. e.0) (λ e. e.0) (λ e. e.0) (λ e. e.0) (λ e. e.0) (λ e. e.0) (λ e. e.0) (λ e. e.0) (λ e. e.0) (λ e. e.0) (λ e. e.0) y))

  abbrev first-TypedDeclaration : TypedDeclaration-F AnArgument ADeclaration ADeclarator AFull AnInitializer ANode APrinted AStatement ATyped ABlock ALambda → Statement
  first-TypedDeclaration y = declaration_step c limit (map-TypedDeclaration TypedArgument TypedDeclaration TypedDeclarator TypedFull TypedInitializer TypedNode TypedPrinted TypedStmt Typed TypedBlock TypedLambda Argument Statement St Statement Initializer Node Printing Statement Exp Block Lambda (argument_of c limit) (declaration_of c limit) (declarator_of c limit) (full_of c limit) (initializer_of c limit) (node_of c limit) (printed_of c limit) (statement_of c limit) (typed_of c limit) (block_of c limit) (lambda_of c limit) (map-TypedDeclaration AnArgument ADeclaration ADeclarator AFull AnInitializer ANode APrinted AStatement ATyped ABlock ALambda TypedArgument TypedDeclaration TypedDeclarator TypedFull TypedInitializer TypedNode TypedPrinted TypedStmt Typed TypedBlock TypedLambda (λ e. e.0) (λ e. e.0) (λ e. e.0) (λ e. e.0) (λ e. e.0) (λ e. e.0) (λ e. e.0) (λ e. e.0) (λ e. e.0) (λ e. e.0) (λ e. e.0) y))

  abbrev first-TypedDeclarator : TypedDeclarator-F AnArgument ADeclaration ADeclarator AFull AnInitializer ANode APrinted AStatement ATyped ABlock ALambda → St
  first-TypedDeclarator y = declarator_step c limit (map-TypedDeclarator TypedArgument TypedDeclaration TypedDeclarator TypedFull TypedInitializer TypedNode TypedPrinted TypedStmt Typed TypedBlock TypedLambda Argument Statement St Statement Initializer Node Printing Statement Exp Block Lambda (argument_of c limit) (declaration_of c limit) (declarator_of c limit) (full_of c limit) (initializer_of c limit) (node_of c limit) (printed_of c limit) (statement_of c limit) (typed_of c limit) (block_of c limit) (lambda_of c limit) (map-TypedDeclarator AnArgument ADeclaration ADeclarator AFull AnInitializer ANode APrinted AStatement ATyped ABlock ALambda TypedArgument TypedDeclaration TypedDeclarator TypedFull TypedInitializer TypedNode TypedPrinted TypedStmt Typed TypedBlock TypedLambda (λ e. e.0) (λ e. e.0) (λ e. e.0) (λ e. e.0) (λ e. e.0) (λ e. e.0) (λ e. e.0) (λ e. e.0) (λ e. e.0) (λ e. e.0) (λ e. e.0) y))

  abbrev first-TypedFull : TypedFull-F AnArgument ADeclaration ADeclarator AFull AnInitializer ANode APrinted AStatement ATyped ABlock ALambda → Statement
  first-TypedFull y = full_step c limit (map-TypedFull TypedArgument TypedDeclaration TypedDeclarator TypedFull TypedInitializer TypedNode TypedPrinted TypedStmt Typed TypedBlock TypedLambda Argument Statement St Statement Initializer Node Printing Statement Exp Block Lambda (argument_of c limit) (declaration_of c limit) (declarator_of c limit) (full_of c limit) (initializer_of c limit) (node_of c limit) (printed_of c limit) (statement_of c limit) (typed_of c limit) (block_of c limit) (lambda_of c limit) (map-TypedFull AnArgument ADeclaration ADeclarator AFull AnInitializer ANode APrinted AStatement ATyped ABlock ALambda TypedArgument TypedDeclaration TypedDeclarator TypedFull TypedInitializer TypedNode TypedPrinted TypedStmt Typed TypedBlock TypedLambda (λ e. e.0) (λ e. e.0) (λ e. e.0) (λ e. e.0) (λ e. e.0) (λ e. e.0) (λ e. e.0) (λ e. e.0) (λ e. e.0) (λ e. e.0) (λ e. e.0) y))

  abbrev first-TypedInitializer : TypedInitializer-F AnArgument ADeclaration ADeclarator AFull AnInitializer ANode APrinted AStatement ATyped ABlock ALambda → Initializer
  first-TypedInitializer y = initializer_step c limit (map-TypedInitializer TypedArgument TypedDeclaration TypedDeclarator TypedFull TypedInitializer TypedNode TypedPrinted TypedStmt Typed TypedBlock TypedLambda Argument Statement St Statement Initializer Node Printing Statement Exp Block Lambda (argument_of c limit) (declaration_of c limit) (declarator_of c limit) (full_of c limit) (initializer_of c limit) (node_of c limit) (printed_of c limit) (statement_of c limit) (typed_of c limit) (block_of c limit) (lambda_of c limit) (map-TypedInitializer AnArgument ADeclaration ADeclarator AFull AnInitializer ANode APrinted AStatement ATyped ABlock ALambda TypedArgument TypedDeclaration TypedDeclarator TypedFull TypedInitializer TypedNode TypedPrinted TypedStmt Typed TypedBlock TypedLambda (λ e. e.0) (λ e. e.0) (λ e. e.0) (λ e. e.0) (λ e. e.0) (λ e. e.0) (λ e. e.0) (λ e. e.0) (λ e. e.0) (λ e. e.0) (λ e. e.0) y))

  abbrev first-TypedNode : TypedNode-F AnArgument ADeclaration ADeclarator AFull AnInitializer ANode APrinted AStatement ATyped ABlock ALambda → Node
  first-TypedNode y = node_step c limit (map-TypedNode TypedArgument TypedDeclaration TypedDeclarator TypedFull TypedInitializer TypedNode TypedPrinted TypedStmt Typed TypedBlock TypedLambda Argument Statement St Statement Initializer Node Printing Statement Exp Block Lambda (argument_of c limit) (declaration_of c limit) (declarator_of c limit) (full_of c limit) (initializer_of c limit) (node_of c limit) (printed_of c limit) (statement_of c limit) (typed_of c limit) (block_of c limit) (lambda_of c limit) (map-TypedNode AnArgument ADeclaration ADeclarator AFull AnInitializer ANode APrinted AStatement ATyped ABlock ALambda TypedArgument TypedDeclaration TypedDeclarator TypedFull TypedInitializer TypedNode TypedPrinted TypedStmt Typed TypedBlock TypedLambda (λ e. e.0) (λ e. e.0) (λ e. e.0) (λ e. e.0) (λ e. e.0) (λ e. e.0) (λ e. e.0) (λ e. e.0) (λ e. e.0) (λ e. e.0) (λ e. e.0) y))

  abbrev first-TypedPrinted : TypedPrinted-F AnArgument ADeclaration ADeclarator AFull AnInitializer ANode APrinted AStatement ATyped ABlock ALambda → Printing
  first-TypedPrinted y = printed_step c limit (map-TypedPrinted TypedArgument TypedDeclaration TypedDeclarator TypedFull TypedInitializer TypedNode TypedPrinted TypedStmt Typed TypedBlock TypedLambda Argument Statement St Statement Initializer Node Printing Statement Exp Block Lambda (argument_of c limit) (declaration_of c limit) (declarator_of c limit) (full_of c limit) (initializer_of c limit) (node_of c limit) (printed_of c limit) (statement_of c limit) (typed_of c limit) (block_of c limit) (lambda_of c limit) (map-TypedPrinted AnArgument ADeclaration ADeclarator AFull AnInitializer ANode APrinted AStatement ATyped ABlock ALambda TypedArgument TypedDeclaration TypedDeclarator TypedFull TypedInitializer TypedNode TypedPrinted TypedStmt Typed TypedBlock TypedLambda (λ e. e.0) (λ e. e.0) (λ e. e.0) (λ e. e.0) (λ e. e.0) (λ e. e.0) (λ e. e.0) (λ e. e.0) (λ e. e.0) (λ e. e.0) (λ e. e.0) y))

  abbrev first-TypedStmt : TypedStmt-F AnArgument ADeclaration ADeclarator AFull AnInitializer ANode APrinted AStatement ATyped ABlock ALambda → Statement
  first-TypedStmt y = stmt_step c limit (map-TypedStmt TypedArgument TypedDeclaration TypedDeclarator TypedFull TypedInitializer TypedNode TypedPrinted TypedStmt Typed TypedBlock TypedLambda Argument Statement St Statement Initializer Node Printing Statement Exp Block Lambda (argument_of c limit) (declaration_of c limit) (declarator_of c limit) (full_of c limit) (initializer_of c limit) (node_of c limit) (printed_of c limit) (statement_of c limit) (typed_of c limit) (block_of c limit) (lambda_of c limit) (map-TypedStmt AnArgument ADeclaration ADeclarator AFull AnInitializer ANode APrinted AStatement ATyped ABlock ALambda TypedArgument TypedDeclaration TypedDeclarator TypedFull TypedInitializer TypedNode TypedPrinted TypedStmt Typed TypedBlock TypedLambda (λ e. e.0) (λ e. e.0) (λ e. e.0) (λ e. e.0) (λ e. e.0) (λ e. e.0) (λ e. e.0) (λ e. e.0) (λ e. e.0) (λ e. e.0) (λ e. e.0) y))

  abbrev first-Typed : Typed-F AnArgument ADeclaration ADeclarator AFull AnInitializer ANode APrinted AStatement ATyped ABlock ALambda → Exp
  first-Typed y = typed_step c limit (map-Typed TypedArgument TypedDeclaration TypedDeclarator TypedFull TypedInitializer TypedNode TypedPrinted TypedStmt Typed TypedBlock TypedLambda Argument Statement St Statement Initializer Node Printing Statement Exp Block Lambda (argument_of c limit) (declaration_of c limit) (declarator_of c limit) (full_of c limit) (initializer_of c limit) (node_of c limit) (printed_of c limit) (statement_of c limit) (typed_of c limit) (block_of c limit) (lambda_of c limit) (map-Typed AnArgument ADeclaration ADeclarator AFull AnInitializer ANode APrinted AStatement ATyped ABlock ALambda TypedArgument TypedDeclaration TypedDeclarator TypedFull TypedInitializer TypedNode TypedPrinted TypedStmt Typed TypedBlock TypedLambda (λ e. e.0) (λ e. e.0) (λ e. e.0) (λ e. e.0) (λ e. e.0) (λ e. e.0) (λ e. e.0) (λ e. e.0) (λ e. e.0) (λ e. e.0) (λ e. e.0) y))

  abbrev first-TypedBlock : TypedBlock-F AnArgument ADeclaration ADeclarator AFull AnInitializer ANode APrinted AStatement ATyped ABlock ALambda → Block
  first-TypedBlock y = block_step c limit (map-TypedBlock TypedArgument TypedDeclaration TypedDeclarator TypedFull TypedInitializer TypedNode TypedPrinted TypedStmt Typed TypedBlock TypedLambda Argument Statement St Statement Initializer Node Printing Statement Exp Block Lambda (argument_of c limit) (declaration_of c limit) (declarator_of c limit) (full_of c limit) (initializer_of c limit) (node_of c limit) (printed_of c limit) (statement_of c limit) (typed_of c limit) (block_of c limit) (lambda_of c limit) (map-TypedBlock AnArgument ADeclaration ADeclarator AFull AnInitializer ANode APrinted AStatement ATyped ABlock ALambda TypedArgument TypedDeclaration TypedDeclarator TypedFull TypedInitializer TypedNode TypedPrinted TypedStmt Typed TypedBlock TypedLambda (λ e. e.0) (λ e. e.0) (λ e. e.0) (λ e. e.0) (λ e. e.0) (λ e. e.0) (λ e. e.0) (λ e. e.0) (λ e. e.0) (λ e. e.0) (λ e. e.0) y))

  abbrev first-TypedLambda : TypedLambda-F AnArgument ADeclaration ADeclarator AFull AnInitializer ANode APrinted AStatement ATyped ABlock ALambda → Lambda
  first-TypedLambda y = lambda_step c limit (map-TypedLambda TypedArgument TypedDeclaration TypedDeclarator TypedFull TypedInitializer TypedNode TypedPrinted TypedStmt Typed TypedBlock TypedLambda Argument Statement St Statement Initializer Node Printing Statement Exp Block Lambda (argument_of c limit) (declaration_of c limit) (declarator_of c limit) (full_of c limit) (initializer_of c limit) (node_of c limit) (printed_of c limit) (statement_of c limit) (typed_of c limit) (block_of c limit) (lambda_of c limit) (map-TypedLambda AnArgument ADeclaration ADeclarator AFull AnInitializer ANode APrinted AStatement ATyped ABlock ALambda TypedArgument TypedDeclaration TypedDeclarator TypedFull TypedInitializer TypedNode TypedPrinted TypedStmt Typed TypedBlock TypedLambda (λ e. e.0) (λ e. e.0) (λ e. e.0) (λ e. e.0) (λ e. e.0) (λ e. e.0) (λ e. e.0) (λ e. e.0) (λ e. e.0) (λ e. e.0) (λ e. e.0) y))

  abbrev second-TypedArgument : TypedArgument-F AnArgument ADeclaration ADeclarator AFull AnInitializer ANode APrinted AStatement ATyped ABlock ALambda → Argument
  second-TypedArgument y = argument_step d limit (map-TypedArgument TypedArgument TypedDeclaration TypedDeclarator TypedFull TypedInitializer TypedNode TypedPrinted TypedStmt Typed TypedBlock TypedLambda Argument Statement St Statement Initializer Node Printing Statement Exp Block Lambda (argument_of d limit) (declaration_of d limit) (declarator_of d limit) (full_of d limit) (initializer_of d limit) (node_of d limit) (printed_of d limit) (statement_of d limit) (typed_of d limit) (block_of d limit) (lambda_of d limit) (map-TypedArgument AnArgument ADeclaration ADeclarator AFull AnInitializer ANode APrinted AStatement ATyped ABlock ALambda TypedArgument TypedDeclaration TypedDeclarator TypedFull TypedInitializer TypedNode TypedPrinted TypedStmt Typed TypedBlock TypedLambda (λ e. e.0) (λ e. e.0) (λ e. e.0) (λ e. e.0) (λ e. e.0) (λ e. e.0) (λ e. e.0) (λ e. e.0) (λ e. e.0) (λ e. e.0) (λ e. e.0) y))

  abbrev second-TypedDeclaration : TypedDeclaration-F AnArgument ADeclaration ADeclarator AFull AnInitializer ANode APrinted AStatement ATyped ABlock ALambda → Statement
  second-TypedDeclaration y = declaration_step d limit (map-TypedDeclaration TypedArgument TypedDeclaration TypedDeclarator TypedFull TypedInitializer TypedNode TypedPrinted TypedStmt Typed TypedBlock TypedLambda Argument Statement St Statement Initializer Node Printing Statement Exp Block Lambda (argument_of d limit) (declaration_of d limit) (declarator_of d limit) (full_of d limit) (initializer_of d limit) (node_of d limit) (printed_of d limit) (statement_of d limit) (typed_of d limit) (block_of d limit) (lambda_of d limit) (map-TypedDeclaration AnArgument ADeclaration ADeclarator AFull AnInitializer ANode APrinted AStatement ATyped ABlock ALambda TypedArgument TypedDeclaration TypedDeclarator TypedFull TypedInitializer TypedNode TypedPrinted TypedStmt Typed TypedBlock TypedLambda (λ e. e.0) (λ e. e.0) (λ e. e.0) (λ e. e.0) (λ e. e.0) (λ e. e.0) (λ e. e.0) (λ e. e.0) (λ e. e.0) (λ e. e.0) (λ e. e.0) y))

  abbrev second-TypedDeclarator : TypedDeclarator-F AnArgument ADeclaration ADeclarator AFull AnInitializer ANode APrinted AStatement ATyped ABlock ALambda → St
  second-TypedDeclarator y = declarator_step d limit (map-TypedDeclarator TypedArgument TypedDeclaration TypedDeclarator TypedFull TypedInitializer TypedNode TypedPrinted TypedStmt Typed TypedBlock TypedLambda Argument Statement St Statement Initializer Node Printing Statement Exp Block Lambda (argument_of d limit) (declaration_of d limit) (declarator_of d limit) (full_of d limit) (initializer_of d limit) (node_of d limit) (printed_of d limit) (statement_of d limit) (typed_of d limit) (block_of d limit) (lambda_of d limit) (map-TypedDeclarator AnArgument ADeclaration ADeclarator AFull AnInitializer ANode APrinted AStatement ATyped ABlock ALambda TypedArgument TypedDeclaration TypedDeclarator TypedFull TypedInitializer TypedNode TypedPrinted TypedStmt Typed TypedBlock TypedLambda (λ e. e.0) (λ e. e.0) (λ e. e.0) (λ e. e.0) (λ e. e.0) (λ e. e.0) (λ e. e.0) (λ e. e.0) (λ e. e.0) (λ e. e.0) (λ e. e.0) y))

  abbrev second-TypedFull : TypedFull-F AnArgument ADeclaration ADeclarator AFull AnInitializer ANode APrinted AStatement ATyped ABlock ALambda → Statement
  second-TypedFull y = full_step d limit (map-TypedFull TypedArgument TypedDeclaration TypedDeclarator TypedFull TypedInitializer TypedNode TypedPrinted TypedStmt Typed TypedBlock TypedLambda Argument Statement St Statement Initializer Node Printing Statement Exp Block Lambda (argument_of d limit) (declaration_of d limit) (declarator_of d limit) (full_of d limit) (initializer_of d limit) (node_of d limit) (printed_of d limit) (statement_of d limit) (typed_of d limit) (block_of d limit) (lambda_of d limit) (map-TypedFull AnArgument ADeclaration ADeclarator AFull AnInitializer ANode APrinted AStatement ATyped ABlock ALambda TypedArgument TypedDeclaration TypedDeclarator TypedFull TypedInitializer TypedNode TypedPrinted TypedStmt Typed TypedBlock TypedLambda (λ e. e.0) (λ e. e.0) (λ e. e.0) (λ e. e.0) (λ e. e.0) (λ e. e.0) (λ e. e.0) (λ e. e.0) (λ e. e.0) (λ e. e.0) (λ e. e.0) y))

  abbrev second-TypedInitializer : TypedInitializer-F AnArgument ADeclaration ADeclarator AFull AnInitializer ANode APrinted AStatement ATyped ABlock ALambda → Initializer
  second-TypedInitializer y = initializer_step d limit (map-TypedInitializer TypedArgument TypedDeclaration TypedDeclarator TypedFull TypedInitializer TypedNode TypedPrinted TypedStmt Typed TypedBlock TypedLambda Argument Statement St Statement Initializer Node Printing Statement Exp Block Lambda (argument_of d limit) (declaration_of d limit) (declarator_of d limit) (full_of d limit) (initializer_of d limit) (node_of d limit) (printed_of d limit) (statement_of d limit) (typed_of d limit) (block_of d limit) (lambda_of d limit) (map-TypedInitializer AnArgument ADeclaration ADeclarator AFull AnInitializer ANode APrinted AStatement ATyped ABlock ALambda TypedArgument TypedDeclaration TypedDeclarator TypedFull TypedInitializer TypedNode TypedPrinted TypedStmt Typed TypedBlock TypedLambda (λ e. e.0) (λ e. e.0) (λ e. e.0) (λ e. e.0) (λ e. e.0) (λ e. e.0) (λ e. e.0) (λ e. e.0) (λ e. e.0) (λ e. e.0) (λ e. e.0) y))

  abbrev second-TypedNode : TypedNode-F AnArgument ADeclaration ADeclarator AFull AnInitializer ANode APrinted AStatement ATyped ABlock ALambda → Node
  second-TypedNode y = node_step d limit (map-TypedNode TypedArgument TypedDeclaration TypedDeclarator TypedFull TypedInitializer TypedNode TypedPrinted TypedStmt Typed TypedBlock TypedLambda Argument Statement St Statement Initializer Node Printing Statement Exp Block Lambda (argument_of d limit) (declaration_of d limit) (declarator_of d limit) (full_of d limit) (initializer_of d limit) (node_of d limit) (printed_of d limit) (statement_of d limit) (typed_of d limit) (block_of d limit) (lambda_of d limit) (map-TypedNode AnArgument ADeclaration ADeclarator AFull AnInitializer ANode APrinted AStatement ATyped ABlock ALambda TypedArgument TypedDeclaration TypedDeclarator TypedFull TypedInitializer TypedNode TypedPrinted TypedStmt Typed TypedBlock TypedLambda (λ e. e.0) (λ e. e.0) (λ e. e.0) (λ e. e.0) (λ e. e.0) (λ e. e.0) (λ e. e.0) (λ e. e.0) (λ e. e.0) (λ e. e.0) (λ e. e.0) y))

  abbrev second-TypedPrinted : TypedPrinted-F AnArgument ADeclaration ADeclarator AFull AnInitializer ANode APrinted AStatement ATyped ABlock ALambda → Printing
  second-TypedPrinted y = printed_step d limit (map-TypedPrinted TypedArgument TypedDeclaration TypedDeclarator TypedFull TypedInitializer TypedNode TypedPrinted TypedStmt Typed TypedBlock TypedLambda Argument Statement St Statement Initializer Node Printing Statement Exp Block Lambda (argument_of d limit) (declaration_of d limit) (declarator_of d limit) (full_of d limit) (initializer_of d limit) (node_of d limit) (printed_of d limit) (statement_of d limit) (typed_of d limit) (block_of d limit) (lambda_of d limit) (map-TypedPrinted AnArgument ADeclaration ADeclarator AFull AnInitializer ANode APrinted AStatement ATyped ABlock ALambda TypedArgument TypedDeclaration TypedDeclarator TypedFull TypedInitializer TypedNode TypedPrinted TypedStmt Typed TypedBlock TypedLambda (λ e. e.0) (λ e. e.0) (λ e. e.0) (λ e. e.0) (λ e. e.0) (λ e. e.0) (λ e. e.0) (λ e. e.0) (λ e. e.0) (λ e. e.0) (λ e. e.0) y))

  abbrev second-TypedStmt : TypedStmt-F AnArgument ADeclaration ADeclarator AFull AnInitializer ANode APrinted AStatement ATyped ABlock ALambda → Statement
  second-TypedStmt y = stmt_step d limit (map-TypedStmt TypedArgument TypedDeclaration TypedDeclarator TypedFull TypedInitializer TypedNode TypedPrinted TypedStmt Typed TypedBlock TypedLambda Argument Statement St Statement Initializer Node Printing Statement Exp Block Lambda (argument_of d limit) (declaration_of d limit) (declarator_of d limit) (full_of d limit) (initializer_of d limit) (node_of d limit) (printed_of d limit) (statement_of d limit) (typed_of d limit) (block_of d limit) (lambda_of d limit) (map-TypedStmt AnArgument ADeclaration ADeclarator AFull AnInitializer ANode APrinted AStatement ATyped ABlock ALambda TypedArgument TypedDeclaration TypedDeclarator TypedFull TypedInitializer TypedNode TypedPrinted TypedStmt Typed TypedBlock TypedLambda (λ e. e.0) (λ e. e.0) (λ e. e.0) (λ e. e.0) (λ e. e.0) (λ e. e.0) (λ e. e.0) (λ e. e.0) (λ e. e.0) (λ e. e.0) (λ e. e.0) y))

  abbrev second-Typed : Typed-F AnArgument ADeclaration ADeclarator AFull AnInitializer ANode APrinted AStatement ATyped ABlock ALambda → Exp
  second-Typed y = typed_step d limit (map-Typed TypedArgument TypedDeclaration TypedDeclarator TypedFull TypedInitializer TypedNode TypedPrinted TypedStmt Typed TypedBlock TypedLambda Argument Statement St Statement Initializer Node Printing Statement Exp Block Lambda (argument_of d limit) (declaration_of d limit) (declarator_of d limit) (full_of d limit) (initializer_of d limit) (node_of d limit) (printed_of d limit) (statement_of d limit) (typed_of d limit) (block_of d limit) (lambda_of d limit) (map-Typed AnArgument ADeclaration ADeclarator AFull AnInitializer ANode APrinted AStatement ATyped ABlock ALambda TypedArgument TypedDeclaration TypedDeclarator TypedFull TypedInitializer TypedNode TypedPrinted TypedStmt Typed TypedBlock TypedLambda (λ e. e.0) (λ e. e.0) (λ e. e.0) (λ e. e.0) (λ e. e.0) (λ e. e.0) (λ e. e.0) (λ e. e.0) (λ e. e.0) (λ e. e.0) (λ e. e.0) y))

  abbrev second-TypedBlock : TypedBlock-F AnArgument ADeclaration ADeclarator AFull AnInitializer ANode APrinted AStatement ATyped ABlock ALambda → Block
  second-TypedBlock y = block_step d limit (map-TypedBlock TypedArgument TypedDeclaration TypedDeclarator TypedFull TypedInitializer TypedNode TypedPrinted TypedStmt Typed TypedBlock TypedLambda Argument Statement St Statement Initializer Node Printing Statement Exp Block Lambda (argument_of d limit) (declaration_of d limit) (declarator_of d limit) (full_of d limit) (initializer_of d limit) (node_of d limit) (printed_of d limit) (statement_of d limit) (typed_of d limit) (block_of d limit) (lambda_of d limit) (map-TypedBlock AnArgument ADeclaration ADeclarator AFull AnInitializer ANode APrinted AStatement ATyped ABlock ALambda TypedArgument TypedDeclaration TypedDeclarator TypedFull TypedInitializer TypedNode TypedPrinted TypedStmt Typed TypedBlock TypedLambda (λ e. e.0) (λ e. e.0) (λ e. e.0) (λ e. e.0) (λ e. e.0) (λ e. e.0) (λ e. e.0) (λ e. e.0) (λ e. e.0) (λ e. e.0) (λ e. e.0) y))

  abbrev second-TypedLambda : TypedLambda-F AnArgument ADeclaration ADeclarator AFull AnInitializer ANode APrinted AStatement ATyped ABlock ALambda → Lambda
  second-TypedLambda y = lambda_step d limit (map-TypedLambda TypedArgument TypedDeclaration TypedDeclarator TypedFull TypedInitializer TypedNode TypedPrinted TypedStmt Typed TypedBlock TypedLambda Argument Statement St Statement Initializer Node Printing Statement Exp Block Lambda (argument_of d limit) (declaration_of d limit) (declarator_of d limit) (full_of d limit) (initializer_of d limit) (node_of d limit) (printed_of d limit) (statement_of d limit) (typed_of d limit) (block_of d limit) (lambda_of d limit) (map-TypedLambda AnArgument ADeclaration ADeclarator AFull AnInitializer ANode APrinted AStatement ATyped ABlock ALambda TypedArgument TypedDeclaration TypedDeclarator TypedFull TypedInitializer TypedNode TypedPrinted TypedStmt Typed TypedBlock TypedLambda (λ e. e.0) (λ e. e.0) (λ e. e.0) (λ e. e.0) (λ e. e.0) (λ e. e.0) (λ e. e.0) (λ e. e.0) (λ e. e.0) (λ e. e.0) (λ e. e.0) y))

  all_typed : (es : List ATyped) → AllTwins k (map (typed_of c limit) (map (λ e. e.0) es)) (map (typed_of d limit) (map (λ e. e.0) es))
  all_typed [] = tt
  all_typed (e ∷ es) = (e.1, all_typed es)

  all_arguments : (xs : List AnArgument) → AllArguments k (map (argument_of c limit) (map (λ e. e.0) xs)) (map (argument_of d limit) (map (λ e. e.0) xs))
  all_arguments [] = tt
  all_arguments (x ∷ xs) = (x.1, all_arguments xs)

  all_printed : (ps : List APrinted) → AllPrinted k (map (printed_of c limit) (map (λ e. e.0) ps)) (map (printed_of d limit) (map (λ e. e.0) ps))
  all_printed [] = tt
  all_printed (p ∷ ps) = (p.1, all_printed ps)

  all_declarators : (ds : List ADeclarator) → AllStAlike k (map (declarator_of c limit) (map (λ e. e.0) ds)) (map (declarator_of d limit) (map (λ e. e.0) ds))
  all_declarators [] = tt
  all_declarators (x ∷ xs) = (x.1, all_declarators xs)

  all_statements : (ss : List AStatement) → AllStAlike k (map (statement_run c limit) (map (statement_of c limit) (map (λ e. e.0) ss))) (map (statement_run d limit) (map (statement_of d limit) (map (λ e. e.0) ss)))
  all_statements [] = tt
  all_statements (x ∷ xs) = (statement_is (statement_of c limit x.0) (statement_of d limit x.0) x.1, all_statements xs)

  argument_shows : (y : TypedArgument-F AnArgument ADeclaration ADeclarator AFull AnInitializer ANode APrinted AStatement ATyped ABlock ALambda) → ArgumentTwin k (first-TypedArgument y) (second-TypedArgument y)
  argument_shows (TypedArgument-F.Value e) = e.1
  argument_shows (TypedArgument-F.Braced es last) = (all_typed es, refl)
  argument_shows (TypedArgument-F.Lambda l) = l.1

  declaration_shows : (y : TypedDeclaration-F AnArgument ADeclaration ADeclarator AFull AnInitializer ANode APrinted AStatement ATyped ABlock ALambda) → StatementTwin k (first-TypedDeclaration y) (second-TypedDeclaration y)
  declaration_shows (TypedDeclaration-F.Values ds s) = of_run (in_turn (map (declarator_of c limit) (map (λ e. e.0) ds))) (in_turn (map (declarator_of d limit) (map (λ e. e.0) ds))) s.line (in_turn_alike (map (declarator_of c limit) (map (λ e. e.0) ds)) (map (declarator_of d limit) (map (λ e. e.0) ds)) (all_declarators ds))
  declaration_shows (TypedDeclaration-F.Vector x None s) = of_run (declare_vector x None) (declare_vector x None) s.line (declare_vector_alike x None None tt)
  declaration_shows (TypedDeclaration-F.Vector x (Some i) s) = of_run (declare_vector x (Some (initializer_of c limit i.0))) (declare_vector x (Some (initializer_of d limit i.0))) s.line (declare_vector_alike x (Some (initializer_of c limit i.0)) (Some (initializer_of d limit i.0)) i.1)
  declaration_shows (TypedDeclaration-F.DeviceVector x None s) = of_run (declare_object x None) (declare_object x None) s.line (declare_object_alike x None None tt)
  declaration_shows (TypedDeclaration-F.DeviceVector x (Some i) s) = of_run (declare_object x (Some (initializer_of c limit i.0))) (declare_object x (Some (initializer_of d limit i.0))) s.line (declare_object_alike x (Some (initializer_of c limit i.0)) (Some (initializer_of d limit i.0)) i.1)
  declaration_shows (TypedDeclaration-F.ThreadVector x s) = of_run (declare_team x) (declare_team x) s.line (declare_team_alike x)
  declaration_shows (TypedDeclaration-F.Thread x l s) = of_run (declare_thread x (lambda_of c limit l.0)) (declare_thread x (lambda_of d limit l.0)) s.line (declare_thread_alike x (lambda_of c limit l.0) (lambda_of d limit l.0) l.1)
  declaration_shows (TypedDeclaration-F.Object x None s) = of_run (declare_object x None) (declare_object x None) s.line (declare_object_alike x None None tt)
  declaration_shows (TypedDeclaration-F.Object x (Some i) s) = of_run (declare_object x (Some (initializer_of c limit i.0))) (declare_object x (Some (initializer_of d limit i.0))) s.line (declare_object_alike x (Some (initializer_of c limit i.0)) (Some (initializer_of d limit i.0)) i.1)

  declarator_shows : (y : TypedDeclarator-F AnArgument ADeclaration ADeclarator AFull AnInitializer ANode APrinted AStatement ATyped ABlock ALambda) → StAlike k (first-TypedDeclarator y) (second-TypedDeclarator y)
  declarator_shows (TypedDeclarator-F.Uninitialized x) = declare_zero_alike x
  declarator_shows (TypedDeclarator-F.Equal x e) = declare_value_alike x (typed_of c limit e.0) (typed_of d limit e.0) e.1
  declarator_shows (TypedDeclarator-F.Bracketed x e close) = declare_value_alike x (typed_of c limit e.0) (typed_of d limit e.0) e.1

  full_shows : (y : TypedFull-F AnArgument ADeclaration ADeclarator AFull AnInitializer ANode APrinted AStatement ATyped ABlock ALambda) → StatementTwin k (first-TypedFull y) (second-TypedFull y)
  full_shows (TypedFull-F.Plain e) = plain_full_twin (typed_of c limit e.0) (typed_of d limit e.0) e.1
  full_shows (TypedFull-F.Assignment a s op b) = assignment_twin s.line op (typed_of c limit a.0) (typed_of c limit b.0) (typed_of d limit a.0) (typed_of d limit b.0) a.1 b.1

  initializer_shows : (y : TypedInitializer-F AnArgument ADeclaration ADeclarator AFull AnInitializer ANode APrinted AStatement ATyped ABlock ALambda) → InitializerTwin k (first-TypedInitializer y) (second-TypedInitializer y)
  initializer_shows (TypedInitializer-F.Copy e) = e.1
  initializer_shows (TypedInitializer-F.Direct b xs close) = (refl, all_arguments xs)

  printed_shows : (y : TypedPrinted-F AnArgument ADeclaration ADeclarator AFull AnInitializer ANode APrinted AStatement ATyped ABlock ALambda) → PrintingTwin k (first-TypedPrinted y) (second-TypedPrinted y)
  printed_shows (TypedPrinted-F.Operand s e) = operand_twin s.line (typed_of c limit e.0) (typed_of d limit e.0) e.1
  printed_shows (TypedPrinted-F.Bytes s text last) = text_twin s.line text last.line
  printed_shows (TypedPrinted-F.EndLine s last) = text_twin s.line (10 ∷ []) last.line

  statement_shows : (y : TypedStmt-F AnArgument ADeclaration ADeclarator AFull AnInitializer ANode APrinted AStatement ATyped ABlock ALambda) → StatementTwin k (first-TypedStmt y) (second-TypedStmt y)
  statement_shows (TypedStmt-F.Compound b) = twin_of (block_of c limit b.0).run (block_of d limit b.0).run (block_of c limit b.0).last (block_of d limit b.0).last (block_is (block_of c limit b.0) (block_of d limit b.0) b.1) (block_last (block_of c limit b.0) (block_of d limit b.0) b.1)
  statement_shows (TypedStmt-F.Null s) = of_run normal normal s.line (λ r h. flows h)
  statement_shows (TypedStmt-F.Declaration x) = x.1
  statement_shows (TypedStmt-F.Expression f s) = of_run (full_of c limit f.0).run (full_of d limit f.0).run s.line (statement_is (full_of c limit f.0) (full_of d limit f.0) f.1)
  statement_shows (TypedStmt-F.Print ps s) = of_run (print_all (map (printed_of c limit) (map (λ e. e.0) ps))) (print_all (map (printed_of d limit) (map (λ e. e.0) ps))) s.line (print_all_alike (map (printed_of c limit) (map (λ e. e.0) ps)) (map (printed_of d limit) (map (λ e. e.0) ps)) (all_printed ps))
  statement_shows (TypedStmt-F.Break s e) = of_run (λ r. (flow.Broke s.line, r)) (λ r. (flow.Broke s.line, r)) e.line (λ r h. flows h)
  statement_shows (TypedStmt-F.Continue s e) = of_run (λ r. (flow.Continued s.line, r)) (λ r. (flow.Continued s.line, r)) e.line (λ r h. flows h)
  statement_shows (TypedStmt-F.Return s None last) = of_run (returned s.line None) (returned s.line None) last.line (returned_alike s.line None None tt)
  statement_shows (TypedStmt-F.Return s (Some e) last) = of_run (returned s.line (Some (typed_of c limit e.0))) (returned s.line (Some (typed_of d limit e.0))) last.line (returned_alike s.line (Some (typed_of c limit e.0)) (Some (typed_of d limit e.0)) e.1)
  statement_shows (TypedStmt-F.If s e a None) =
      twin_of (choose (typed_of c limit e.0) (scoped (statement_of c limit a.0)) (scoped_or_nothing None)) (choose (typed_of d limit e.0) (scoped (statement_of d limit a.0)) (scoped_or_nothing None)) (last_of_if c limit (statement_of c limit a.0) None) (last_of_if d limit (statement_of d limit a.0) None) (choice_alike (typed_of c limit e.0) (typed_of d limit e.0) (statement_of c limit a.0) (statement_of d limit a.0) None None e.1 a.1 tt) (if_last c d limit (statement_of c limit a.0) (statement_of d limit a.0) None None a.1 tt)
  statement_shows (TypedStmt-F.If s e a (Some b)) =
      twin_of (choose (typed_of c limit e.0) (scoped (statement_of c limit a.0)) (scoped_or_nothing (Some (statement_of c limit b.0)))) (choose (typed_of d limit e.0) (scoped (statement_of d limit a.0)) (scoped_or_nothing (Some (statement_of d limit b.0)))) (last_of_if c limit (statement_of c limit a.0) (Some (statement_of c limit b.0))) (last_of_if d limit (statement_of d limit a.0) (Some (statement_of d limit b.0))) (choice_alike (typed_of c limit e.0) (typed_of d limit e.0) (statement_of c limit a.0) (statement_of d limit a.0) (Some (statement_of c limit b.0)) (Some (statement_of d limit b.0)) e.1 a.1 b.1) (if_last c d limit (statement_of c limit a.0) (statement_of d limit a.0) (Some (statement_of c limit b.0)) (Some (statement_of d limit b.0)) a.1 b.1)
  statement_shows (TypedStmt-F.While s e b) =
      twin_of (while_loop s.line (typed_of c limit e.0) (statement_of c limit b.0)) (while_loop s.line (typed_of d limit e.0) (statement_of d limit b.0)) (statement_of c limit b.0).last (statement_of d limit b.0).last (while_alike s.line (typed_of c limit e.0) (typed_of d limit e.0) (statement_of c limit b.0) (statement_of d limit b.0) e.1 b.1) (statement_last (statement_of c limit b.0) (statement_of d limit b.0) b.1)
  statement_shows (TypedStmt-F.Do s b e last) =
      of_run (do_loop s.line (typed_of c limit e.0) (statement_of c limit b.0)) (do_loop s.line (typed_of d limit e.0) (statement_of d limit b.0)) last.line (do_alike s.line (typed_of c limit e.0) (typed_of d limit e.0) (statement_of c limit b.0) (statement_of d limit b.0) e.1 b.1)
  statement_shows (TypedStmt-F.For s head None None b) =
      twin_of (for_loop s.line (statement_of c limit head.0) None None (statement_of c limit b.0)) (for_loop s.line (statement_of d limit head.0) None None (statement_of d limit b.0)) (statement_of c limit b.0).last (statement_of d limit b.0).last (for_alike s.line (statement_of c limit head.0) (statement_of d limit head.0) None None None None (statement_of c limit b.0) (statement_of d limit b.0) head.1 tt tt b.1) (statement_last (statement_of c limit b.0) (statement_of d limit b.0) b.1)
  statement_shows (TypedStmt-F.For s head None (Some step) b) =
      twin_of (for_loop s.line (statement_of c limit head.0) None (Some (full_of c limit step.0)) (statement_of c limit b.0)) (for_loop s.line (statement_of d limit head.0) None (Some (full_of d limit step.0)) (statement_of d limit b.0)) (statement_of c limit b.0).last (statement_of d limit b.0).last (for_alike s.line (statement_of c limit head.0) (statement_of d limit head.0) None None (Some (full_of c limit step.0)) (Some (full_of d limit step.0)) (statement_of c limit b.0) (statement_of d limit b.0) head.1 tt step.1 b.1) (statement_last (statement_of c limit b.0) (statement_of d limit b.0) b.1)
  statement_shows (TypedStmt-F.For s head (Some e) None b) =
      twin_of (for_loop s.line (statement_of c limit head.0) (Some (typed_of c limit e.0)) None (statement_of c limit b.0)) (for_loop s.line (statement_of d limit head.0) (Some (typed_of d limit e.0)) None (statement_of d limit b.0)) (statement_of c limit b.0).last (statement_of d limit b.0).last (for_alike s.line (statement_of c limit head.0) (statement_of d limit head.0) (Some (typed_of c limit e.0)) (Some (typed_of d limit e.0)) None None (statement_of c limit b.0) (statement_of d limit b.0) head.1 e.1 tt b.1) (statement_last (statement_of c limit b.0) (statement_of d limit b.0) b.1)
  statement_shows (TypedStmt-F.For s head (Some e) (Some step) b) =
      twin_of (for_loop s.line (statement_of c limit head.0) (Some (typed_of c limit e.0)) (Some (full_of c limit step.0)) (statement_of c limit b.0)) (for_loop s.line (statement_of d limit head.0) (Some (typed_of d limit e.0)) (Some (full_of d limit step.0)) (statement_of d limit b.0)) (statement_of c limit b.0).last (statement_of d limit b.0).last (for_alike s.line (statement_of c limit head.0) (statement_of d limit head.0) (Some (typed_of c limit e.0)) (Some (typed_of d limit e.0)) (Some (full_of c limit step.0)) (Some (full_of d limit step.0)) (statement_of c limit b.0) (statement_of d limit b.0) head.1 e.1 step.1 b.1) (statement_last (statement_of c limit b.0) (statement_of d limit b.0) b.1)
  statement_shows (TypedStmt-F.RangeFor s x by_reference v b) =
      twin_of (range_for s.line x by_reference v (statement_of c limit b.0)) (range_for s.line x by_reference v (statement_of d limit b.0)) (statement_of c limit b.0).last (statement_of d limit b.0).last (range_for_alike s.line x by_reference v (statement_of c limit b.0) (statement_of d limit b.0) b.1) (statement_last (statement_of c limit b.0) (statement_of d limit b.0) b.1)
  statement_shows (TypedStmt-F.Try s b x g) =
      twin_of (try_block (block_of c limit b.0).run x (block_of c limit g.0).run) (try_block (block_of d limit b.0).run x (block_of d limit g.0).run) (block_of c limit g.0).last (block_of d limit g.0).last (try_alike (block_of c limit b.0).run (block_of d limit b.0).run x (block_of c limit g.0).run (block_of d limit g.0).run (block_is (block_of c limit b.0) (block_of d limit b.0) b.1) (block_is (block_of c limit g.0) (block_of d limit g.0) g.1)) (block_last (block_of c limit g.0) (block_of d limit g.0) g.1)

  typed_shows : (y : Typed-F AnArgument ADeclaration ADeclarator AFull AnInitializer ANode APrinted AStatement ATyped ABlock ALambda) → Twin k (first-Typed y) (second-Typed y)
  typed_shows y = y.node.1 y.what y.spot

  block_shows : (y : TypedBlock-F AnArgument ADeclaration ADeclarator AFull AnInitializer ANode APrinted AStatement ATyped ABlock ALambda) → BlockTwin k (first-TypedBlock y) (second-TypedBlock y)
  block_shows y =
      let f = map (statement_run c limit) (map (statement_of c limit) (map (λ e. e.0) y.statements)) in
      let g = map (statement_run d limit) (map (statement_of d limit) (map (λ e. e.0) y.statements)) in
      record { run = in_scope y.close.line (in_turn g); is = refl; runs = in_scope_alike y.close.line (in_turn f) (in_turn g) (in_turn_alike f g (all_statements y.statements)) }

  lambda_shows : (y : TypedLambda-F AnArgument ADeclaration ADeclarator AFull AnInitializer ANode APrinted AStatement ATyped ABlock ALambda) → LambdaTwin k (first-TypedLambda y) (second-TypedLambda y)
  lambda_shows y =
      let b = block_of c limit y.body.0 in
      let t : BlockTwin k b (block_of d limit y.body.0) = y.body.1 in
      let inside_of : Block → Lambda = λ b. record { number = y.number; spot = y.spot; captures = y.captures; parameters = y.parameters; body = b } in
      record { run = t.run; is = ap inside_of t.is; runs = t.runs }

  module _ (calls_alike : CallsAlike k c d) where
    node_shows : (y : TypedNode-F AnArgument ADeclaration ADeclarator AFull AnInitializer ANode APrinted AStatement ATyped ABlock ALambda) (t : Thing) (s : Spot) → Twin k (first-TypedNode y t s) (second-TypedNode y t s)
    node_shows (TypedNode-F.Integer z) t s = leaf_twin (literal t s.line z) (λ r h. gave h) (λ r h. gave h)
    node_shows (TypedNode-F.Character z) t s = leaf_twin (literal t s.line z) (λ r h. gave h) (λ r h. gave h)
    node_shows (TypedNode-F.Boolean b) t s = leaf_twin _ (λ r h. gave h) (λ r h. gave h)
    node_shows (TypedNode-F.Name i) t s = located_twin t s.line s.line false (location.Local i) (gives nothing) (gives nothing) (λ r h. gave h)
    node_shows (TypedNode-F.Reference i) t s = reference_twin t s.line i
    node_shows (TypedNode-F.Call f es last) t s = call_twin c d calls_alike t s.line last.line f (map (typed_of c limit) (map (λ e. e.0) es)) (map (typed_of d limit) (map (λ e. e.0) es)) (all_typed es)
    node_shows (TypedNode-F.Parenthesized a last) t s = parenthesized_twin (typed_of c limit a.0) (typed_of d limit a.0) last.line a.1
    node_shows (TypedNode-F.StaticCast a last) t s = cast_twin t s.line last.line (typed_of c limit a.0) (typed_of d limit a.0) a.1
    node_shows (TypedNode-F.FunctionalCast a last) t s = cast_twin t s.line last.line (typed_of c limit a.0) (typed_of d limit a.0) a.1
    node_shows (TypedNode-F.Construct xs last) t s = construct_twin t s last (map (argument_of c limit) (map (λ e. e.0) xs)) (map (argument_of d limit) (map (λ e. e.0) xs)) (all_arguments xs)
    node_shows (TypedNode-F.GroupBarrier a last) t s = barrier_twin t s last.line (typed_of c limit a.0) (typed_of d limit a.0) a.1
    node_shows (TypedNode-F.AccessTag g) t s = leaf_twin _ (λ r h. gave h) (λ r h. gave h)
    node_shows (TypedNode-F.InOrder last) t s = leaf_twin _ (λ r h. gave h) (λ r h. gave h)
    node_shows (TypedNode-F.ErrorCode e last) t s = leaf_twin _ (λ r h. gave h) (λ r h. gave h)
    node_shows (TypedNode-F.InitializeToIdentity last) t s = leaf_twin _ (λ r h. gave h) (λ r h. gave h)
    node_shows (TypedNode-F.FunctionObject f i last) t s = leaf_twin _ (λ r h. gave h) (λ r h. gave h)
    node_shows (TypedNode-F.LibraryCall f xs last) t s = library_twin f t s last (map (argument_of c limit) (map (λ e. e.0) xs)) (map (argument_of d limit) (map (λ e. e.0) xs)) (all_arguments xs)
    node_shows (TypedNode-F.Subscript a i last) t s = subscript_twin t s.line last.line (typed_of c limit a.0) (typed_of c limit i.0) (typed_of d limit a.0) (typed_of d limit i.0) a.1 i.1
    node_shows (TypedNode-F.MemberCall a m xs last) t s = member_twin c d limit t s.line last.line (typed_of c limit a.0) (typed_of d limit a.0) m (map (argument_of c limit) (map (λ e. e.0) xs)) (map (argument_of d limit) (map (λ e. e.0) xs)) a.1 (all_arguments xs)
    node_shows (TypedNode-F.Postfix a step) t s = postfix_twin t s.line step (typed_of c limit a.0) (typed_of d limit a.0) a.1
    node_shows (TypedNode-F.Prefix step a) t s = prefix_twin t s.line step (typed_of c limit a.0) (typed_of d limit a.0) a.1
    node_shows (TypedNode-F.Unary op a) t s = unary_twin t s.line op (typed_of c limit a.0) (typed_of d limit a.0) a.1
    node_shows (TypedNode-F.Cast a) t s = plain_cast_twin t s.line (typed_of c limit a.0) (typed_of d limit a.0) a.1
    node_shows (TypedNode-F.Binary a op b) t s = binary_twin t s.line op (typed_of c limit a.0) (typed_of c limit b.0) (typed_of d limit a.0) (typed_of d limit b.0) a.1 b.1
    node_shows (TypedNode-F.Conditional e a b) t s = conditional_twin t s.line (typed_of c limit e.0) (typed_of c limit a.0) (typed_of c limit b.0) (typed_of d limit e.0) (typed_of d limit a.0) (typed_of d limit b.0) e.1 a.1 b.1

    rolled-TypedArgument : (x : TypedArgument-F TypedArgument TypedDeclaration TypedDeclarator TypedFull TypedInitializer TypedNode TypedPrinted TypedStmt Typed TypedBlock TypedLambda) (y : TypedArgument-F AnArgument ADeclaration ADeclarator AFull AnInitializer ANode APrinted AStatement ATyped ABlock ALambda) → map-TypedArgument AnArgument ADeclaration ADeclarator AFull AnInitializer ANode APrinted AStatement ATyped ABlock ALambda TypedArgument TypedDeclaration TypedDeclarator TypedFull TypedInitializer TypedNode TypedPrinted TypedStmt Typed TypedBlock TypedLambda (λ e. e.0) (λ e. e.0) (λ e. e.0) (λ e. e.0) (λ e. e.0) (λ e. e.0) (λ e. e.0) (λ e. e.0) (λ e. e.0) (λ e. e.0) (λ e. e.0) y ≡ x → ArgumentClaim (roll-TypedArgument x)
    rolled-TypedArgument x y is =
        let shown : ArgumentClaim (roll-TypedArgument (map-TypedArgument AnArgument ADeclaration ADeclarator AFull AnInitializer ANode APrinted AStatement ATyped ABlock ALambda TypedArgument TypedDeclaration TypedDeclarator TypedFull TypedInitializer TypedNode TypedPrinted TypedStmt Typed TypedBlock TypedLambda (λ e. e.0) (λ e. e.0) (λ e. e.0) (λ e. e.0) (λ e. e.0) (λ e. e.0) (λ e. e.0) (λ e. e.0) (λ e. e.0) (λ e. e.0) (λ e. e.0) y)) = subst (λ m. ArgumentTwin k (m) (argument_of d limit (roll-TypedArgument (map-TypedArgument AnArgument ADeclaration ADeclarator AFull AnInitializer ANode APrinted AStatement ATyped ABlock ALambda TypedArgument TypedDeclaration TypedDeclarator TypedFull TypedInitializer TypedNode TypedPrinted TypedStmt Typed TypedBlock TypedLambda (λ e. e.0) (λ e. e.0) (λ e. e.0) (λ e. e.0) (λ e. e.0) (λ e. e.0) (λ e. e.0) (λ e. e.0) (λ e. e.0) (λ e. e.0) (λ e. e.0) y)))) (sym (fold-roll-TypedArgument Argument Statement St Statement Initializer Node Printing Statement Exp Block Lambda (argument_step c limit) (declaration_step c limit) (declarator_step c limit) (full_step c limit) (initializer_step c limit) (node_step c limit) (printed_step c limit) (stmt_step c limit) (typed_step c limit) (block_step c limit) (lambda_step c limit) (map-TypedArgument AnArgument ADeclaration ADeclarator AFull AnInitializer ANode APrinted AStatement ATyped ABlock ALambda TypedArgument TypedDeclaration TypedDeclarator TypedFull TypedInitializer TypedNode TypedPrinted TypedStmt Typed TypedBlock TypedLambda (λ e. e.0) (λ e. e.0) (λ e. e.0) (λ e. e.0) (λ e. e.0) (λ e. e.0) (λ e. e.0) (λ e. e.0) (λ e. e.0) (λ e. e.0) (λ e. e.0) y))) (subst (λ m. ArgumentTwin k (first-TypedArgument y) (m)) (sym (fold-roll-TypedArgument Argument Statement St Statement Initializer Node Printing Statement Exp Block Lambda (argument_step d limit) (declaration_step d limit) (declarator_step d limit) (full_step d limit) (initializer_step d limit) (node_step d limit) (printed_step d limit) (stmt_step d limit) (typed_step d limit) (block_step d limit) (lambda_step d limit) (map-TypedArgument AnArgument ADeclaration ADeclarator AFull AnInitializer ANode APrinted AStatement ATyped ABlock ALambda TypedArgument TypedDeclaration TypedDeclarator TypedFull TypedInitializer TypedNode TypedPrinted TypedStmt Typed TypedBlock TypedLambda (λ e. e.0) (λ e. e.0) (λ e. e.0) (λ e. e.0) (λ e. e.0) (λ e. e.0) (λ e. e.0) (λ e. e.0) (λ e. e.0) (λ e. e.0) (λ e. e.0) y))) (argument_shows y)) in
        subst (λ z. ArgumentClaim (roll-TypedArgument z)) is shown

    rolled-TypedDeclaration : (x : TypedDeclaration-F TypedArgument TypedDeclaration TypedDeclarator TypedFull TypedInitializer TypedNode TypedPrinted TypedStmt Typed TypedBlock TypedLambda) (y : TypedDeclaration-F AnArgument ADeclaration ADeclarator AFull AnInitializer ANode APrinted AStatement ATyped ABlock ALambda) → map-TypedDeclaration AnArgument ADeclaration ADeclarator AFull AnInitializer ANode APrinted AStatement ATyped ABlock ALambda TypedArgument TypedDeclaration TypedDeclarator TypedFull TypedInitializer TypedNode TypedPrinted TypedStmt Typed TypedBlock TypedLambda (λ e. e.0) (λ e. e.0) (λ e. e.0) (λ e. e.0) (λ e. e.0) (λ e. e.0) (λ e. e.0) (λ e. e.0) (λ e. e.0) (λ e. e.0) (λ e. e.0) y ≡ x → DeclarationClaim (roll-TypedDeclaration x)
    rolled-TypedDeclaration x y is =
        let shown : DeclarationClaim (roll-TypedDeclaration (map-TypedDeclaration AnArgument ADeclaration ADeclarator AFull AnInitializer ANode APrinted AStatement ATyped ABlock ALambda TypedArgument TypedDeclaration TypedDeclarator TypedFull TypedInitializer TypedNode TypedPrinted TypedStmt Typed TypedBlock TypedLambda (λ e. e.0) (λ e. e.0) (λ e. e.0) (λ e. e.0) (λ e. e.0) (λ e. e.0) (λ e. e.0) (λ e. e.0) (λ e. e.0) (λ e. e.0) (λ e. e.0) y)) = subst (λ m. StatementTwin k (m) (declaration_of d limit (roll-TypedDeclaration (map-TypedDeclaration AnArgument ADeclaration ADeclarator AFull AnInitializer ANode APrinted AStatement ATyped ABlock ALambda TypedArgument TypedDeclaration TypedDeclarator TypedFull TypedInitializer TypedNode TypedPrinted TypedStmt Typed TypedBlock TypedLambda (λ e. e.0) (λ e. e.0) (λ e. e.0) (λ e. e.0) (λ e. e.0) (λ e. e.0) (λ e. e.0) (λ e. e.0) (λ e. e.0) (λ e. e.0) (λ e. e.0) y)))) (sym (fold-roll-TypedDeclaration Argument Statement St Statement Initializer Node Printing Statement Exp Block Lambda (argument_step c limit) (declaration_step c limit) (declarator_step c limit) (full_step c limit) (initializer_step c limit) (node_step c limit) (printed_step c limit) (stmt_step c limit) (typed_step c limit) (block_step c limit) (lambda_step c limit) (map-TypedDeclaration AnArgument ADeclaration ADeclarator AFull AnInitializer ANode APrinted AStatement ATyped ABlock ALambda TypedArgument TypedDeclaration TypedDeclarator TypedFull TypedInitializer TypedNode TypedPrinted TypedStmt Typed TypedBlock TypedLambda (λ e. e.0) (λ e. e.0) (λ e. e.0) (λ e. e.0) (λ e. e.0) (λ e. e.0) (λ e. e.0) (λ e. e.0) (λ e. e.0) (λ e. e.0) (λ e. e.0) y))) (subst (λ m. StatementTwin k (first-TypedDeclaration y) (m)) (sym (fold-roll-TypedDeclaration Argument Statement St Statement Initializer Node Printing Statement Exp Block Lambda (argument_step d limit) (declaration_step d limit) (declarator_step d limit) (full_step d limit) (initializer_step d limit) (node_step d limit) (printed_step d limit) (stmt_step d limit) (typed_step d limit) (block_step d limit) (lambda_step d limit) (map-TypedDeclaration AnArgument ADeclaration ADeclarator AFull AnInitializer ANode APrinted AStatement ATyped ABlock ALambda TypedArgument TypedDeclaration TypedDeclarator TypedFull TypedInitializer TypedNode TypedPrinted TypedStmt Typed TypedBlock TypedLambda (λ e. e.0) (λ e. e.0) (λ e. e.0) (λ e. e.0) (λ e. e.0) (λ e. e.0) (λ e. e.0) (λ e. e.0) (λ e. e.0) (λ e. e.0) (λ e. e.0) y))) (declaration_shows y)) in
        subst (λ z. DeclarationClaim (roll-TypedDeclaration z)) is shown

    rolled-TypedDeclarator : (x : TypedDeclarator-F TypedArgument TypedDeclaration TypedDeclarator TypedFull TypedInitializer TypedNode TypedPrinted TypedStmt Typed TypedBlock TypedLambda) (y : TypedDeclarator-F AnArgument ADeclaration ADeclarator AFull AnInitializer ANode APrinted AStatement ATyped ABlock ALambda) → map-TypedDeclarator AnArgument ADeclaration ADeclarator AFull AnInitializer ANode APrinted AStatement ATyped ABlock ALambda TypedArgument TypedDeclaration TypedDeclarator TypedFull TypedInitializer TypedNode TypedPrinted TypedStmt Typed TypedBlock TypedLambda (λ e. e.0) (λ e. e.0) (λ e. e.0) (λ e. e.0) (λ e. e.0) (λ e. e.0) (λ e. e.0) (λ e. e.0) (λ e. e.0) (λ e. e.0) (λ e. e.0) y ≡ x → DeclaratorClaim (roll-TypedDeclarator x)
    rolled-TypedDeclarator x y is =
        let shown : DeclaratorClaim (roll-TypedDeclarator (map-TypedDeclarator AnArgument ADeclaration ADeclarator AFull AnInitializer ANode APrinted AStatement ATyped ABlock ALambda TypedArgument TypedDeclaration TypedDeclarator TypedFull TypedInitializer TypedNode TypedPrinted TypedStmt Typed TypedBlock TypedLambda (λ e. e.0) (λ e. e.0) (λ e. e.0) (λ e. e.0) (λ e. e.0) (λ e. e.0) (λ e. e.0) (λ e. e.0) (λ e. e.0) (λ e. e.0) (λ e. e.0) y)) = subst (λ m. StAlike k (m) (declarator_of d limit (roll-TypedDeclarator (map-TypedDeclarator AnArgument ADeclaration ADeclarator AFull AnInitializer ANode APrinted AStatement ATyped ABlock ALambda TypedArgument TypedDeclaration TypedDeclarator TypedFull TypedInitializer TypedNode TypedPrinted TypedStmt Typed TypedBlock TypedLambda (λ e. e.0) (λ e. e.0) (λ e. e.0) (λ e. e.0) (λ e. e.0) (λ e. e.0) (λ e. e.0) (λ e. e.0) (λ e. e.0) (λ e. e.0) (λ e. e.0) y)))) (sym (fold-roll-TypedDeclarator Argument Statement St Statement Initializer Node Printing Statement Exp Block Lambda (argument_step c limit) (declaration_step c limit) (declarator_step c limit) (full_step c limit) (initializer_step c limit) (node_step c limit) (printed_step c limit) (stmt_step c limit) (typed_step c limit) (block_step c limit) (lambda_step c limit) (map-TypedDeclarator AnArgument ADeclaration ADeclarator AFull AnInitializer ANode APrinted AStatement ATyped ABlock ALambda TypedArgument TypedDeclaration TypedDeclarator TypedFull TypedInitializer TypedNode TypedPrinted TypedStmt Typed TypedBlock TypedLambda (λ e. e.0) (λ e. e.0) (λ e. e.0) (λ e. e.0) (λ e. e.0) (λ e. e.0) (λ e. e.0) (λ e. e.0) (λ e. e.0) (λ e. e.0) (λ e. e.0) y))) (subst (λ m. StAlike k (first-TypedDeclarator y) (m)) (sym (fold-roll-TypedDeclarator Argument Statement St Statement Initializer Node Printing Statement Exp Block Lambda (argument_step d limit) (declaration_step d limit) (declarator_step d limit) (full_step d limit) (initializer_step d limit) (node_step d limit) (printed_step d limit) (stmt_step d limit) (typed_step d limit) (block_step d limit) (lambda_step d limit) (map-TypedDeclarator AnArgument ADeclaration ADeclarator AFull AnInitializer ANode APrinted AStatement ATyped ABlock ALambda TypedArgument TypedDeclaration TypedDeclarator TypedFull TypedInitializer TypedNode TypedPrinted TypedStmt Typed TypedBlock TypedLambda (λ e. e.0) (λ e. e.0) (λ e. e.0) (λ e. e.0) (λ e. e.0) (λ e. e.0) (λ e. e.0) (λ e. e.0) (λ e. e.0) (λ e. e.0) (λ e. e.0) y))) (declarator_shows y)) in
        subst (λ z. DeclaratorClaim (roll-TypedDeclarator z)) is shown

    rolled-TypedFull : (x : TypedFull-F TypedArgument TypedDeclaration TypedDeclarator TypedFull TypedInitializer TypedNode TypedPrinted TypedStmt Typed TypedBlock TypedLambda) (y : TypedFull-F AnArgument ADeclaration ADeclarator AFull AnInitializer ANode APrinted AStatement ATyped ABlock ALambda) → map-TypedFull AnArgument ADeclaration ADeclarator AFull AnInitializer ANode APrinted AStatement ATyped ABlock ALambda TypedArgument TypedDeclaration TypedDeclarator TypedFull TypedInitializer TypedNode TypedPrinted TypedStmt Typed TypedBlock TypedLambda (λ e. e.0) (λ e. e.0) (λ e. e.0) (λ e. e.0) (λ e. e.0) (λ e. e.0) (λ e. e.0) (λ e. e.0) (λ e. e.0) (λ e. e.0) (λ e. e.0) y ≡ x → FullClaim (roll-TypedFull x)
    rolled-TypedFull x y is =
        let shown : FullClaim (roll-TypedFull (map-TypedFull AnArgument ADeclaration ADeclarator AFull AnInitializer ANode APrinted AStatement ATyped ABlock ALambda TypedArgument TypedDeclaration TypedDeclarator TypedFull TypedInitializer TypedNode TypedPrinted TypedStmt Typed TypedBlock TypedLambda (λ e. e.0) (λ e. e.0) (λ e. e.0) (λ e. e.0) (λ e. e.0) (λ e. e.0) (λ e. e.0) (λ e. e.0) (λ e. e.0) (λ e. e.0) (λ e. e.0) y)) = subst (λ m. StatementTwin k (m) (full_of d limit (roll-TypedFull (map-TypedFull AnArgument ADeclaration ADeclarator AFull AnInitializer ANode APrinted AStatement ATyped ABlock ALambda TypedArgument TypedDeclaration TypedDeclarator TypedFull TypedInitializer TypedNode TypedPrinted TypedStmt Typed TypedBlock TypedLambda (λ e. e.0) (λ e. e.0) (λ e. e.0) (λ e. e.0) (λ e. e.0) (λ e. e.0) (λ e. e.0) (λ e. e.0) (λ e. e.0) (λ e. e.0) (λ e. e.0) y)))) (sym (fold-roll-TypedFull Argument Statement St Statement Initializer Node Printing Statement Exp Block Lambda (argument_step c limit) (declaration_step c limit) (declarator_step c limit) (full_step c limit) (initializer_step c limit) (node_step c limit) (printed_step c limit) (stmt_step c limit) (typed_step c limit) (block_step c limit) (lambda_step c limit) (map-TypedFull AnArgument ADeclaration ADeclarator AFull AnInitializer ANode APrinted AStatement ATyped ABlock ALambda TypedArgument TypedDeclaration TypedDeclarator TypedFull TypedInitializer TypedNode TypedPrinted TypedStmt Typed TypedBlock TypedLambda (λ e. e.0) (λ e. e.0) (λ e. e.0) (λ e. e.0) (λ e. e.0) (λ e. e.0) (λ e. e.0) (λ e. e.0) (λ e. e.0) (λ e. e.0) (λ e. e.0) y))) (subst (λ m. StatementTwin k (first-TypedFull y) (m)) (sym (fold-roll-TypedFull Argument Statement St Statement Initializer Node Printing Statement Exp Block Lambda (argument_step d limit) (declaration_step d limit) (declarator_step d limit) (full_step d limit) (initializer_step d limit) (node_step d limit) (printed_step d limit) (stmt_step d limit) (typed_step d limit) (block_step d limit) (lambda_step d limit) (map-TypedFull AnArgument ADeclaration ADeclarator AFull AnInitializer ANode APrinted AStatement ATyped ABlock ALambda TypedArgument TypedDeclaration TypedDeclarator TypedFull TypedInitializer TypedNode TypedPrinted TypedStmt Typed TypedBlock TypedLambda (λ e. e.0) (λ e. e.0) (λ e. e.0) (λ e. e.0) (λ e. e.0) (λ e. e.0) (λ e. e.0) (λ e. e.0) (λ e. e.0) (λ e. e.0) (λ e. e.0) y))) (full_shows y)) in
        subst (λ z. FullClaim (roll-TypedFull z)) is shown

    rolled-TypedInitializer : (x : TypedInitializer-F TypedArgument TypedDeclaration TypedDeclarator TypedFull TypedInitializer TypedNode TypedPrinted TypedStmt Typed TypedBlock TypedLambda) (y : TypedInitializer-F AnArgument ADeclaration ADeclarator AFull AnInitializer ANode APrinted AStatement ATyped ABlock ALambda) → map-TypedInitializer AnArgument ADeclaration ADeclarator AFull AnInitializer ANode APrinted AStatement ATyped ABlock ALambda TypedArgument TypedDeclaration TypedDeclarator TypedFull TypedInitializer TypedNode TypedPrinted TypedStmt Typed TypedBlock TypedLambda (λ e. e.0) (λ e. e.0) (λ e. e.0) (λ e. e.0) (λ e. e.0) (λ e. e.0) (λ e. e.0) (λ e. e.0) (λ e. e.0) (λ e. e.0) (λ e. e.0) y ≡ x → InitializerClaim (roll-TypedInitializer x)
    rolled-TypedInitializer x y is =
        let shown : InitializerClaim (roll-TypedInitializer (map-TypedInitializer AnArgument ADeclaration ADeclarator AFull AnInitializer ANode APrinted AStatement ATyped ABlock ALambda TypedArgument TypedDeclaration TypedDeclarator TypedFull TypedInitializer TypedNode TypedPrinted TypedStmt Typed TypedBlock TypedLambda (λ e. e.0) (λ e. e.0) (λ e. e.0) (λ e. e.0) (λ e. e.0) (λ e. e.0) (λ e. e.0) (λ e. e.0) (λ e. e.0) (λ e. e.0) (λ e. e.0) y)) = subst (λ m. InitializerTwin k (m) (initializer_of d limit (roll-TypedInitializer (map-TypedInitializer AnArgument ADeclaration ADeclarator AFull AnInitializer ANode APrinted AStatement ATyped ABlock ALambda TypedArgument TypedDeclaration TypedDeclarator TypedFull TypedInitializer TypedNode TypedPrinted TypedStmt Typed TypedBlock TypedLambda (λ e. e.0) (λ e. e.0) (λ e. e.0) (λ e. e.0) (λ e. e.0) (λ e. e.0) (λ e. e.0) (λ e. e.0) (λ e. e.0) (λ e. e.0) (λ e. e.0) y)))) (sym (fold-roll-TypedInitializer Argument Statement St Statement Initializer Node Printing Statement Exp Block Lambda (argument_step c limit) (declaration_step c limit) (declarator_step c limit) (full_step c limit) (initializer_step c limit) (node_step c limit) (printed_step c limit) (stmt_step c limit) (typed_step c limit) (block_step c limit) (lambda_step c limit) (map-TypedInitializer AnArgument ADeclaration ADeclarator AFull AnInitializer ANode APrinted AStatement ATyped ABlock ALambda TypedArgument TypedDeclaration TypedDeclarator TypedFull TypedInitializer TypedNode TypedPrinted TypedStmt Typed TypedBlock TypedLambda (λ e. e.0) (λ e. e.0) (λ e. e.0) (λ e. e.0) (λ e. e.0) (λ e. e.0) (λ e. e.0) (λ e. e.0) (λ e. e.0) (λ e. e.0) (λ e. e.0) y))) (subst (λ m. InitializerTwin k (first-TypedInitializer y) (m)) (sym (fold-roll-TypedInitializer Argument Statement St Statement Initializer Node Printing Statement Exp Block Lambda (argument_step d limit) (declaration_step d limit) (declarator_step d limit) (full_step d limit) (initializer_step d limit) (node_step d limit) (printed_step d limit) (stmt_step d limit) (typed_step d limit) (block_step d limit) (lambda_step d limit) (map-TypedInitializer AnArgument ADeclaration ADeclarator AFull AnInitializer ANode APrinted AStatement ATyped ABlock ALambda TypedArgument TypedDeclaration TypedDeclarator TypedFull TypedInitializer TypedNode TypedPrinted TypedStmt Typed TypedBlock TypedLambda (λ e. e.0) (λ e. e.0) (λ e. e.0) (λ e. e.0) (λ e. e.0) (λ e. e.0) (λ e. e.0) (λ e. e.0) (λ e. e.0) (λ e. e.0) (λ e. e.0) y))) (initializer_shows y)) in
        subst (λ z. InitializerClaim (roll-TypedInitializer z)) is shown

    rolled-TypedNode : (x : TypedNode-F TypedArgument TypedDeclaration TypedDeclarator TypedFull TypedInitializer TypedNode TypedPrinted TypedStmt Typed TypedBlock TypedLambda) (y : TypedNode-F AnArgument ADeclaration ADeclarator AFull AnInitializer ANode APrinted AStatement ATyped ABlock ALambda) → map-TypedNode AnArgument ADeclaration ADeclarator AFull AnInitializer ANode APrinted AStatement ATyped ABlock ALambda TypedArgument TypedDeclaration TypedDeclarator TypedFull TypedInitializer TypedNode TypedPrinted TypedStmt Typed TypedBlock TypedLambda (λ e. e.0) (λ e. e.0) (λ e. e.0) (λ e. e.0) (λ e. e.0) (λ e. e.0) (λ e. e.0) (λ e. e.0) (λ e. e.0) (λ e. e.0) (λ e. e.0) y ≡ x → NodeClaim (roll-TypedNode x)
    rolled-TypedNode x y is =
        let shown : NodeClaim (roll-TypedNode (map-TypedNode AnArgument ADeclaration ADeclarator AFull AnInitializer ANode APrinted AStatement ATyped ABlock ALambda TypedArgument TypedDeclaration TypedDeclarator TypedFull TypedInitializer TypedNode TypedPrinted TypedStmt Typed TypedBlock TypedLambda (λ e. e.0) (λ e. e.0) (λ e. e.0) (λ e. e.0) (λ e. e.0) (λ e. e.0) (λ e. e.0) (λ e. e.0) (λ e. e.0) (λ e. e.0) (λ e. e.0) y)) = λ t s. subst (λ m. Twin k (m t s) (node_of d limit (roll-TypedNode (map-TypedNode AnArgument ADeclaration ADeclarator AFull AnInitializer ANode APrinted AStatement ATyped ABlock ALambda TypedArgument TypedDeclaration TypedDeclarator TypedFull TypedInitializer TypedNode TypedPrinted TypedStmt Typed TypedBlock TypedLambda (λ e. e.0) (λ e. e.0) (λ e. e.0) (λ e. e.0) (λ e. e.0) (λ e. e.0) (λ e. e.0) (λ e. e.0) (λ e. e.0) (λ e. e.0) (λ e. e.0) y)) t s)) (sym (fold-roll-TypedNode Argument Statement St Statement Initializer Node Printing Statement Exp Block Lambda (argument_step c limit) (declaration_step c limit) (declarator_step c limit) (full_step c limit) (initializer_step c limit) (node_step c limit) (printed_step c limit) (stmt_step c limit) (typed_step c limit) (block_step c limit) (lambda_step c limit) (map-TypedNode AnArgument ADeclaration ADeclarator AFull AnInitializer ANode APrinted AStatement ATyped ABlock ALambda TypedArgument TypedDeclaration TypedDeclarator TypedFull TypedInitializer TypedNode TypedPrinted TypedStmt Typed TypedBlock TypedLambda (λ e. e.0) (λ e. e.0) (λ e. e.0) (λ e. e.0) (λ e. e.0) (λ e. e.0) (λ e. e.0) (λ e. e.0) (λ e. e.0) (λ e. e.0) (λ e. e.0) y))) (subst (λ m. Twin k (first-TypedNode y t s) (m t s)) (sym (fold-roll-TypedNode Argument Statement St Statement Initializer Node Printing Statement Exp Block Lambda (argument_step d limit) (declaration_step d limit) (declarator_step d limit) (full_step d limit) (initializer_step d limit) (node_step d limit) (printed_step d limit) (stmt_step d limit) (typed_step d limit) (block_step d limit) (lambda_step d limit) (map-TypedNode AnArgument ADeclaration ADeclarator AFull AnInitializer ANode APrinted AStatement ATyped ABlock ALambda TypedArgument TypedDeclaration TypedDeclarator TypedFull TypedInitializer TypedNode TypedPrinted TypedStmt Typed TypedBlock TypedLambda (λ e. e.0) (λ e. e.0) (λ e. e.0) (λ e. e.0) (λ e. e.0) (λ e. e.0) (λ e. e.0) (λ e. e.0) (λ e. e.0) (λ e. e.0) (λ e. e.0) y))) (node_shows y t s)) in
        subst (λ z. NodeClaim (roll-TypedNode z)) is shown

    rolled-TypedPrinted : (x : TypedPrinted-F TypedArgument TypedDeclaration TypedDeclarator TypedFull TypedInitializer TypedNode TypedPrinted TypedStmt Typed TypedBlock TypedLambda) (y : TypedPrinted-F AnArgument ADeclaration ADeclarator AFull AnInitializer ANode APrinted AStatement ATyped ABlock ALambda) → map-TypedPrinted AnArgument ADeclaration ADeclarator AFull AnInitializer ANode APrinted AStatement ATyped ABlock ALambda TypedArgument TypedDeclaration TypedDeclarator TypedFull TypedInitializer TypedNode TypedPrinted TypedStmt Typed TypedBlock TypedLambda (λ e. e.0) (λ e. e.0) (λ e. e.0) (λ e. e.0) (λ e. e.0) (λ e. e.0) (λ e. e.0) (λ e. e.0) (λ e. e.0) (λ e. e.0) (λ e. e.0) y ≡ x → PrintedClaim (roll-TypedPrinted x)
    rolled-TypedPrinted x y is =
        let shown : PrintedClaim (roll-TypedPrinted (map-TypedPrinted AnArgument ADeclaration ADeclarator AFull AnInitializer ANode APrinted AStatement ATyped ABlock ALambda TypedArgument TypedDeclaration TypedDeclarator TypedFull TypedInitializer TypedNode TypedPrinted TypedStmt Typed TypedBlock TypedLambda (λ e. e.0) (λ e. e.0) (λ e. e.0) (λ e. e.0) (λ e. e.0) (λ e. e.0) (λ e. e.0) (λ e. e.0) (λ e. e.0) (λ e. e.0) (λ e. e.0) y)) = subst (λ m. PrintingTwin k (m) (printed_of d limit (roll-TypedPrinted (map-TypedPrinted AnArgument ADeclaration ADeclarator AFull AnInitializer ANode APrinted AStatement ATyped ABlock ALambda TypedArgument TypedDeclaration TypedDeclarator TypedFull TypedInitializer TypedNode TypedPrinted TypedStmt Typed TypedBlock TypedLambda (λ e. e.0) (λ e. e.0) (λ e. e.0) (λ e. e.0) (λ e. e.0) (λ e. e.0) (λ e. e.0) (λ e. e.0) (λ e. e.0) (λ e. e.0) (λ e. e.0) y)))) (sym (fold-roll-TypedPrinted Argument Statement St Statement Initializer Node Printing Statement Exp Block Lambda (argument_step c limit) (declaration_step c limit) (declarator_step c limit) (full_step c limit) (initializer_step c limit) (node_step c limit) (printed_step c limit) (stmt_step c limit) (typed_step c limit) (block_step c limit) (lambda_step c limit) (map-TypedPrinted AnArgument ADeclaration ADeclarator AFull AnInitializer ANode APrinted AStatement ATyped ABlock ALambda TypedArgument TypedDeclaration TypedDeclarator TypedFull TypedInitializer TypedNode TypedPrinted TypedStmt Typed TypedBlock TypedLambda (λ e. e.0) (λ e. e.0) (λ e. e.0) (λ e. e.0) (λ e. e.0) (λ e. e.0) (λ e. e.0) (λ e. e.0) (λ e. e.0) (λ e. e.0) (λ e. e.0) y))) (subst (λ m. PrintingTwin k (first-TypedPrinted y) (m)) (sym (fold-roll-TypedPrinted Argument Statement St Statement Initializer Node Printing Statement Exp Block Lambda (argument_step d limit) (declaration_step d limit) (declarator_step d limit) (full_step d limit) (initializer_step d limit) (node_step d limit) (printed_step d limit) (stmt_step d limit) (typed_step d limit) (block_step d limit) (lambda_step d limit) (map-TypedPrinted AnArgument ADeclaration ADeclarator AFull AnInitializer ANode APrinted AStatement ATyped ABlock ALambda TypedArgument TypedDeclaration TypedDeclarator TypedFull TypedInitializer TypedNode TypedPrinted TypedStmt Typed TypedBlock TypedLambda (λ e. e.0) (λ e. e.0) (λ e. e.0) (λ e. e.0) (λ e. e.0) (λ e. e.0) (λ e. e.0) (λ e. e.0) (λ e. e.0) (λ e. e.0) (λ e. e.0) y))) (printed_shows y)) in
        subst (λ z. PrintedClaim (roll-TypedPrinted z)) is shown

    rolled-TypedStmt : (x : TypedStmt-F TypedArgument TypedDeclaration TypedDeclarator TypedFull TypedInitializer TypedNode TypedPrinted TypedStmt Typed TypedBlock TypedLambda) (y : TypedStmt-F AnArgument ADeclaration ADeclarator AFull AnInitializer ANode APrinted AStatement ATyped ABlock ALambda) → map-TypedStmt AnArgument ADeclaration ADeclarator AFull AnInitializer ANode APrinted AStatement ATyped ABlock ALambda TypedArgument TypedDeclaration TypedDeclarator TypedFull TypedInitializer TypedNode TypedPrinted TypedStmt Typed TypedBlock TypedLambda (λ e. e.0) (λ e. e.0) (λ e. e.0) (λ e. e.0) (λ e. e.0) (λ e. e.0) (λ e. e.0) (λ e. e.0) (λ e. e.0) (λ e. e.0) (λ e. e.0) y ≡ x → StatementClaim (roll-TypedStmt x)
    rolled-TypedStmt x y is =
        let shown : StatementClaim (roll-TypedStmt (map-TypedStmt AnArgument ADeclaration ADeclarator AFull AnInitializer ANode APrinted AStatement ATyped ABlock ALambda TypedArgument TypedDeclaration TypedDeclarator TypedFull TypedInitializer TypedNode TypedPrinted TypedStmt Typed TypedBlock TypedLambda (λ e. e.0) (λ e. e.0) (λ e. e.0) (λ e. e.0) (λ e. e.0) (λ e. e.0) (λ e. e.0) (λ e. e.0) (λ e. e.0) (λ e. e.0) (λ e. e.0) y)) = subst (λ m. StatementTwin k (m) (statement_of d limit (roll-TypedStmt (map-TypedStmt AnArgument ADeclaration ADeclarator AFull AnInitializer ANode APrinted AStatement ATyped ABlock ALambda TypedArgument TypedDeclaration TypedDeclarator TypedFull TypedInitializer TypedNode TypedPrinted TypedStmt Typed TypedBlock TypedLambda (λ e. e.0) (λ e. e.0) (λ e. e.0) (λ e. e.0) (λ e. e.0) (λ e. e.0) (λ e. e.0) (λ e. e.0) (λ e. e.0) (λ e. e.0) (λ e. e.0) y)))) (sym (fold-roll-TypedStmt Argument Statement St Statement Initializer Node Printing Statement Exp Block Lambda (argument_step c limit) (declaration_step c limit) (declarator_step c limit) (full_step c limit) (initializer_step c limit) (node_step c limit) (printed_step c limit) (stmt_step c limit) (typed_step c limit) (block_step c limit) (lambda_step c limit) (map-TypedStmt AnArgument ADeclaration ADeclarator AFull AnInitializer ANode APrinted AStatement ATyped ABlock ALambda TypedArgument TypedDeclaration TypedDeclarator TypedFull TypedInitializer TypedNode TypedPrinted TypedStmt Typed TypedBlock TypedLambda (λ e. e.0) (λ e. e.0) (λ e. e.0) (λ e. e.0) (λ e. e.0) (λ e. e.0) (λ e. e.0) (λ e. e.0) (λ e. e.0) (λ e. e.0) (λ e. e.0) y))) (subst (λ m. StatementTwin k (first-TypedStmt y) (m)) (sym (fold-roll-TypedStmt Argument Statement St Statement Initializer Node Printing Statement Exp Block Lambda (argument_step d limit) (declaration_step d limit) (declarator_step d limit) (full_step d limit) (initializer_step d limit) (node_step d limit) (printed_step d limit) (stmt_step d limit) (typed_step d limit) (block_step d limit) (lambda_step d limit) (map-TypedStmt AnArgument ADeclaration ADeclarator AFull AnInitializer ANode APrinted AStatement ATyped ABlock ALambda TypedArgument TypedDeclaration TypedDeclarator TypedFull TypedInitializer TypedNode TypedPrinted TypedStmt Typed TypedBlock TypedLambda (λ e. e.0) (λ e. e.0) (λ e. e.0) (λ e. e.0) (λ e. e.0) (λ e. e.0) (λ e. e.0) (λ e. e.0) (λ e. e.0) (λ e. e.0) (λ e. e.0) y))) (statement_shows y)) in
        subst (λ z. StatementClaim (roll-TypedStmt z)) is shown

    rolled-Typed : (x : Typed-F TypedArgument TypedDeclaration TypedDeclarator TypedFull TypedInitializer TypedNode TypedPrinted TypedStmt Typed TypedBlock TypedLambda) (y : Typed-F AnArgument ADeclaration ADeclarator AFull AnInitializer ANode APrinted AStatement ATyped ABlock ALambda) → map-Typed AnArgument ADeclaration ADeclarator AFull AnInitializer ANode APrinted AStatement ATyped ABlock ALambda TypedArgument TypedDeclaration TypedDeclarator TypedFull TypedInitializer TypedNode TypedPrinted TypedStmt Typed TypedBlock TypedLambda (λ e. e.0) (λ e. e.0) (λ e. e.0) (λ e. e.0) (λ e. e.0) (λ e. e.0) (λ e. e.0) (λ e. e.0) (λ e. e.0) (λ e. e.0) (λ e. e.0) y ≡ x → TypedClaim (roll-Typed x)
    rolled-Typed x y is =
        let shown : TypedClaim (roll-Typed (map-Typed AnArgument ADeclaration ADeclarator AFull AnInitializer ANode APrinted AStatement ATyped ABlock ALambda TypedArgument TypedDeclaration TypedDeclarator TypedFull TypedInitializer TypedNode TypedPrinted TypedStmt Typed TypedBlock TypedLambda (λ e. e.0) (λ e. e.0) (λ e. e.0) (λ e. e.0) (λ e. e.0) (λ e. e.0) (λ e. e.0) (λ e. e.0) (λ e. e.0) (λ e. e.0) (λ e. e.0) y)) = subst (λ m. Twin k (m) (typed_of d limit (roll-Typed (map-Typed AnArgument ADeclaration ADeclarator AFull AnInitializer ANode APrinted AStatement ATyped ABlock ALambda TypedArgument TypedDeclaration TypedDeclarator TypedFull TypedInitializer TypedNode TypedPrinted TypedStmt Typed TypedBlock TypedLambda (λ e. e.0) (λ e. e.0) (λ e. e.0) (λ e. e.0) (λ e. e.0) (λ e. e.0) (λ e. e.0) (λ e. e.0) (λ e. e.0) (λ e. e.0) (λ e. e.0) y)))) (sym (fold-roll-Typed Argument Statement St Statement Initializer Node Printing Statement Exp Block Lambda (argument_step c limit) (declaration_step c limit) (declarator_step c limit) (full_step c limit) (initializer_step c limit) (node_step c limit) (printed_step c limit) (stmt_step c limit) (typed_step c limit) (block_step c limit) (lambda_step c limit) (map-Typed AnArgument ADeclaration ADeclarator AFull AnInitializer ANode APrinted AStatement ATyped ABlock ALambda TypedArgument TypedDeclaration TypedDeclarator TypedFull TypedInitializer TypedNode TypedPrinted TypedStmt Typed TypedBlock TypedLambda (λ e. e.0) (λ e. e.0) (λ e. e.0) (λ e. e.0) (λ e. e.0) (λ e. e.0) (λ e. e.0) (λ e. e.0) (λ e. e.0) (λ e. e.0) (λ e. e.0) y))) (subst (λ m. Twin k (first-Typed y) (m)) (sym (fold-roll-Typed Argument Statement St Statement Initializer Node Printing Statement Exp Block Lambda (argument_step d limit) (declaration_step d limit) (declarator_step d limit) (full_step d limit) (initializer_step d limit) (node_step d limit) (printed_step d limit) (stmt_step d limit) (typed_step d limit) (block_step d limit) (lambda_step d limit) (map-Typed AnArgument ADeclaration ADeclarator AFull AnInitializer ANode APrinted AStatement ATyped ABlock ALambda TypedArgument TypedDeclaration TypedDeclarator TypedFull TypedInitializer TypedNode TypedPrinted TypedStmt Typed TypedBlock TypedLambda (λ e. e.0) (λ e. e.0) (λ e. e.0) (λ e. e.0) (λ e. e.0) (λ e. e.0) (λ e. e.0) (λ e. e.0) (λ e. e.0) (λ e. e.0) (λ e. e.0) y))) (typed_shows y)) in
        subst (λ z. TypedClaim (roll-Typed z)) is shown

    rolled-TypedBlock : (x : TypedBlock-F TypedArgument TypedDeclaration TypedDeclarator TypedFull TypedInitializer TypedNode TypedPrinted TypedStmt Typed TypedBlock TypedLambda) (y : TypedBlock-F AnArgument ADeclaration ADeclarator AFull AnInitializer ANode APrinted AStatement ATyped ABlock ALambda) → map-TypedBlock AnArgument ADeclaration ADeclarator AFull AnInitializer ANode APrinted AStatement ATyped ABlock ALambda TypedArgument TypedDeclaration TypedDeclarator TypedFull TypedInitializer TypedNode TypedPrinted TypedStmt Typed TypedBlock TypedLambda (λ e. e.0) (λ e. e.0) (λ e. e.0) (λ e. e.0) (λ e. e.0) (λ e. e.0) (λ e. e.0) (λ e. e.0) (λ e. e.0) (λ e. e.0) (λ e. e.0) y ≡ x → BlockClaim (roll-TypedBlock x)
    rolled-TypedBlock x y is =
        let shown : BlockClaim (roll-TypedBlock (map-TypedBlock AnArgument ADeclaration ADeclarator AFull AnInitializer ANode APrinted AStatement ATyped ABlock ALambda TypedArgument TypedDeclaration TypedDeclarator TypedFull TypedInitializer TypedNode TypedPrinted TypedStmt Typed TypedBlock TypedLambda (λ e. e.0) (λ e. e.0) (λ e. e.0) (λ e. e.0) (λ e. e.0) (λ e. e.0) (λ e. e.0) (λ e. e.0) (λ e. e.0) (λ e. e.0) (λ e. e.0) y)) = subst (λ m. BlockTwin k (m) (block_of d limit (roll-TypedBlock (map-TypedBlock AnArgument ADeclaration ADeclarator AFull AnInitializer ANode APrinted AStatement ATyped ABlock ALambda TypedArgument TypedDeclaration TypedDeclarator TypedFull TypedInitializer TypedNode TypedPrinted TypedStmt Typed TypedBlock TypedLambda (λ e. e.0) (λ e. e.0) (λ e. e.0) (λ e. e.0) (λ e. e.0) (λ e. e.0) (λ e. e.0) (λ e. e.0) (λ e. e.0) (λ e. e.0) (λ e. e.0) y)))) (sym (fold-roll-TypedBlock Argument Statement St Statement Initializer Node Printing Statement Exp Block Lambda (argument_step c limit) (declaration_step c limit) (declarator_step c limit) (full_step c limit) (initializer_step c limit) (node_step c limit) (printed_step c limit) (stmt_step c limit) (typed_step c limit) (block_step c limit) (lambda_step c limit) (map-TypedBlock AnArgument ADeclaration ADeclarator AFull AnInitializer ANode APrinted AStatement ATyped ABlock ALambda TypedArgument TypedDeclaration TypedDeclarator TypedFull TypedInitializer TypedNode TypedPrinted TypedStmt Typed TypedBlock TypedLambda (λ e. e.0) (λ e. e.0) (λ e. e.0) (λ e. e.0) (λ e. e.0) (λ e. e.0) (λ e. e.0) (λ e. e.0) (λ e. e.0) (λ e. e.0) (λ e. e.0) y))) (subst (λ m. BlockTwin k (first-TypedBlock y) (m)) (sym (fold-roll-TypedBlock Argument Statement St Statement Initializer Node Printing Statement Exp Block Lambda (argument_step d limit) (declaration_step d limit) (declarator_step d limit) (full_step d limit) (initializer_step d limit) (node_step d limit) (printed_step d limit) (stmt_step d limit) (typed_step d limit) (block_step d limit) (lambda_step d limit) (map-TypedBlock AnArgument ADeclaration ADeclarator AFull AnInitializer ANode APrinted AStatement ATyped ABlock ALambda TypedArgument TypedDeclaration TypedDeclarator TypedFull TypedInitializer TypedNode TypedPrinted TypedStmt Typed TypedBlock TypedLambda (λ e. e.0) (λ e. e.0) (λ e. e.0) (λ e. e.0) (λ e. e.0) (λ e. e.0) (λ e. e.0) (λ e. e.0) (λ e. e.0) (λ e. e.0) (λ e. e.0) y))) (block_shows y)) in
        subst (λ z. BlockClaim (roll-TypedBlock z)) is shown

    rolled-TypedLambda : (x : TypedLambda-F TypedArgument TypedDeclaration TypedDeclarator TypedFull TypedInitializer TypedNode TypedPrinted TypedStmt Typed TypedBlock TypedLambda) (y : TypedLambda-F AnArgument ADeclaration ADeclarator AFull AnInitializer ANode APrinted AStatement ATyped ABlock ALambda) → map-TypedLambda AnArgument ADeclaration ADeclarator AFull AnInitializer ANode APrinted AStatement ATyped ABlock ALambda TypedArgument TypedDeclaration TypedDeclarator TypedFull TypedInitializer TypedNode TypedPrinted TypedStmt Typed TypedBlock TypedLambda (λ e. e.0) (λ e. e.0) (λ e. e.0) (λ e. e.0) (λ e. e.0) (λ e. e.0) (λ e. e.0) (λ e. e.0) (λ e. e.0) (λ e. e.0) (λ e. e.0) y ≡ x → LambdaClaim (roll-TypedLambda x)
    rolled-TypedLambda x y is =
        let shown : LambdaClaim (roll-TypedLambda (map-TypedLambda AnArgument ADeclaration ADeclarator AFull AnInitializer ANode APrinted AStatement ATyped ABlock ALambda TypedArgument TypedDeclaration TypedDeclarator TypedFull TypedInitializer TypedNode TypedPrinted TypedStmt Typed TypedBlock TypedLambda (λ e. e.0) (λ e. e.0) (λ e. e.0) (λ e. e.0) (λ e. e.0) (λ e. e.0) (λ e. e.0) (λ e. e.0) (λ e. e.0) (λ e. e.0) (λ e. e.0) y)) = subst (λ m. LambdaTwin k (m) (lambda_of d limit (roll-TypedLambda (map-TypedLambda AnArgument ADeclaration ADeclarator AFull AnInitializer ANode APrinted AStatement ATyped ABlock ALambda TypedArgument TypedDeclaration TypedDeclarator TypedFull TypedInitializer TypedNode TypedPrinted TypedStmt Typed TypedBlock TypedLambda (λ e. e.0) (λ e. e.0) (λ e. e.0) (λ e. e.0) (λ e. e.0) (λ e. e.0) (λ e. e.0) (λ e. e.0) (λ e. e.0) (λ e. e.0) (λ e. e.0) y)))) (sym (fold-roll-TypedLambda Argument Statement St Statement Initializer Node Printing Statement Exp Block Lambda (argument_step c limit) (declaration_step c limit) (declarator_step c limit) (full_step c limit) (initializer_step c limit) (node_step c limit) (printed_step c limit) (stmt_step c limit) (typed_step c limit) (block_step c limit) (lambda_step c limit) (map-TypedLambda AnArgument ADeclaration ADeclarator AFull AnInitializer ANode APrinted AStatement ATyped ABlock ALambda TypedArgument TypedDeclaration TypedDeclarator TypedFull TypedInitializer TypedNode TypedPrinted TypedStmt Typed TypedBlock TypedLambda (λ e. e.0) (λ e. e.0) (λ e. e.0) (λ e. e.0) (λ e. e.0) (λ e. e.0) (λ e. e.0) (λ e. e.0) (λ e. e.0) (λ e. e.0) (λ e. e.0) y))) (subst (λ m. LambdaTwin k (first-TypedLambda y) (m)) (sym (fold-roll-TypedLambda Argument Statement St Statement Initializer Node Printing Statement Exp Block Lambda (argument_step d limit) (declaration_step d limit) (declarator_step d limit) (full_step d limit) (initializer_step d limit) (node_step d limit) (printed_step d limit) (stmt_step d limit) (typed_step d limit) (block_step d limit) (lambda_step d limit) (map-TypedLambda AnArgument ADeclaration ADeclarator AFull AnInitializer ANode APrinted AStatement ATyped ABlock ALambda TypedArgument TypedDeclaration TypedDeclarator TypedFull TypedInitializer TypedNode TypedPrinted TypedStmt Typed TypedBlock TypedLambda (λ e. e.0) (λ e. e.0) (λ e. e.0) (λ e. e.0) (λ e. e.0) (λ e. e.0) (λ e. e.0) (λ e. e.0) (λ e. e.0) (λ e. e.0) (λ e. e.0) y))) (lambda_shows y)) in
        subst (λ z. LambdaClaim (roll-TypedLambda z)) is shown

    pub block_alike : (b : TypedBlock) → BlockTwin k (block_of c limit b) (block_of d limit b)
    block_alike = ind-TypedBlock ArgumentClaim DeclarationClaim DeclaratorClaim FullClaim InitializerClaim NodeClaim PrintedClaim StatementClaim TypedClaim BlockClaim LambdaClaim rolled-TypedArgument rolled-TypedDeclaration rolled-TypedDeclarator rolled-TypedFull rolled-TypedInitializer rolled-TypedNode rolled-TypedPrinted rolled-TypedStmt rolled-Typed rolled-TypedBlock rolled-TypedLambda
