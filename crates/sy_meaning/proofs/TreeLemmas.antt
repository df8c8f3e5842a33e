-- What a typed tree means leads on: an induction over the tree.
use Rattle.std.proofs.Common.{sym, subst}
use Rattle.std.specs.Prelude.{List, None, Option, Some, [], false, map, ℕ, ◌||◌, ◌∷◌, ◌≡◌, ⊤}
use Rattle.sy_note.specs.declared.Spot.{Spot}
use Rattle.sy_typed.specs.declared.things.Member.{Member}
use Rattle.sy_typed.specs.declared.things.Member.TheVariants as member
use Rattle.sy_typed.specs.declared.things.Thing.{Thing}
use Rattle.sy_typed.specs.declared.things.Thing.TheVariants as thing
use Rattle.sy_typed.specs.declared.tree.TypedArgument.TheOpen.{Typed-F, TypedArgument-F, TypedBlock-F, TypedDeclaration-F, TypedDeclarator-F, TypedFull-F, TypedInitializer-F, TypedLambda-F, TypedNode-F, TypedPrinted-F, TypedStmt-F}
use Rattle.sy_typed.specs.declared.tree.TypedArgument.{TypedArgument, fold-TypedArgument, fold-roll-TypedArgument, map-TypedArgument, roll-TypedArgument}
use Rattle.sy_typed.specs.declared.tree.TypedDeclaration.{TypedDeclaration, fold-TypedDeclaration, fold-roll-TypedDeclaration, map-TypedDeclaration, roll-TypedDeclaration}
use Rattle.sy_typed.specs.declared.tree.TypedDeclarator.{TypedDeclarator, fold-TypedDeclarator, fold-roll-TypedDeclarator, map-TypedDeclarator, roll-TypedDeclarator}
use Rattle.sy_typed.specs.declared.tree.TypedFull.{TypedFull, fold-TypedFull, fold-roll-TypedFull, map-TypedFull, roll-TypedFull}
use Rattle.sy_typed.specs.declared.tree.TypedInitializer.{TypedInitializer, fold-TypedInitializer, fold-roll-TypedInitializer, map-TypedInitializer, roll-TypedInitializer}
use Rattle.sy_typed.specs.declared.tree.TypedNode.{TypedNode, fold-TypedNode, fold-roll-TypedNode, map-TypedNode, roll-TypedNode}
use Rattle.sy_typed.specs.declared.tree.TypedPrinted.{TypedPrinted, fold-TypedPrinted, fold-roll-TypedPrinted, map-TypedPrinted, roll-TypedPrinted}
use Rattle.sy_typed.specs.declared.tree.TypedStmt.{TypedStmt, fold-TypedStmt, fold-roll-TypedStmt, ind-TypedStmt, map-TypedStmt, roll-TypedStmt}
use Rattle.sy_typed.specs.declared.tree.Typed.{Typed, fold-Typed, fold-roll-Typed, ind-Typed, map-Typed, roll-Typed}
use Rattle.sy_typed.specs.declared.tree.TypedBlock.{TypedBlock, fold-TypedBlock, fold-roll-TypedBlock, map-TypedBlock, roll-TypedBlock, ind-TypedBlock}
use Rattle.sy_typed.specs.declared.tree.TypedLambda.{TypedLambda, fold-TypedLambda, fold-roll-TypedLambda, map-TypedLambda, roll-TypedLambda}
use Rattle.sy_meaning.specs.Words.{Object, nothing}
use Rattle.sy_meaning.specs.Outcomes.{Ex, St, gives, in_turn, inside, with_list}
use Rattle.sy_meaning.specs.Ends.{in_full}
use Rattle.sy_meaning.specs.Locations.{element_of}
use Rattle.sy_meaning.specs.Expressions.{Argument, Block, Calls, Exp, Lambda, assignment, full, lambda, subscript}
use Rattle.sy_meaning.specs.declared.runs.Location.TheVariants as location
use Rattle.sy_meaning.specs.Making.{Given, make_temporary}
use Rattle.sy_meaning.specs.Lambdas.{captures_of, parallel_for, single_task}
use Rattle.sy_meaning.specs.Statements.{Initializer, Printing, Statement, prints, with_arguments}
use Rattle.sy_meaning.specs.Meaning.{Node, argument_step, block_step, called_member, combine_member, declaration_step, declarator_step, first_lambda, full_step, initializer_step, lambda_member, lambda_step, library_call, member_call, node_step, plain_member, printed_step, statement_run, stmt_step, typed_step, with_kernel}
use Rattle.sy_meaning.specs.Turns.{ExLeads, ExpLeads, StLeads}
use Rattle.sy_meaning.proofs.OutcomeLemmas.{AllLeadOn, goes, in_turn_leads, listed, same}
use Rattle.sy_meaning.proofs.MakingLemmas.{barrier_leads, copy_leads, fill_leads, library_call_leads, member_leads, parallel_for_leads, prints_leads, single_task_leads, temporary_leads}
use Rattle.sy_meaning.proofs.RunLemmas.{AllExps, CallsLead, assignment_leads, binary_leads, call_leads, captures_lead, cast_leads, combines_leads, conditional_leads, emplace_leads, full_leads, in_full_leads, in_scope_leads, indexed_exp, located_exp, postfix_leads, prefix_leads, reference_exp, submit_leads, subscript_leads, unary_leads}
use Rattle.sy_meaning.proofs.StatementLemmas.{AllArguments, AllPrinted, ArgumentLeads, InitializerLeads, choose_leads, declare_object_leads, declare_team_leads, declare_thread_leads, declare_value_leads, declare_vector_leads, declare_zero_leads, discarded_leads, do_leads, for_leads, print_all_leads, print_operand_leads, range_for_leads, returned_leads, try_leads, while_leads, with_arguments_leads}

-- ---- members

plain_member_leads : (m : Member) (line : ℕ) (a : Exp) (o : Object) (xs : List Given) → ExLeads (plain_member m line a o xs)
plain_member_leads member.Fill line a o xs r = fill_leads line xs r.world
plain_member_leads member.Copy line a o xs r = copy_leads line xs r.world
plain_member_leads member.DependsOn line a o xs r = same
plain_member_leads m line a o xs r = member_leads m line a.what o xs r.world

combine_member_leads : (line : ℕ) (a : Exp) → ExpLeads a → (t : Thing) (xs : List Given) → ExLeads (combine_member line a t xs)
combine_member_leads line a h (thing.Reducer k f) xs r = let x = h.0 in search (goes, combines_leads, x)
combine_member_leads line a h t xs r = same

called_member_leads : (m : Member) (line : ℕ) (a : Exp) (xs : List Argument) → ExpLeads a → AllArguments xs → ExLeads (called_member m line a xs)
called_member_leads member.Combine line a xs h p r = with_arguments_leads xs (combine_member line a a.what) p (combine_member_leads line a h a.what) r
called_member_leads m line a xs h p r =
    goes (a.run r) (λ o. with_arguments xs (plain_member m line a o)) (h.1 r) (λ o. with_arguments_leads xs (plain_member m line a o) p (plain_member_leads m line a o))

with_kernel_leads : (l : Lambda) (xs : List Argument) (go : List Given → List Object → Ex) → AllArguments xs → ((ys : List Given) (os : List Object) → ExLeads (go ys os)) → ExLeads (with_kernel l xs go)
with_kernel_leads l xs go h p =
    with_arguments_leads xs (λ ys r. with_list (captures_of l r) (go ys)) h (λ ys r. listed (captures_of l r) (go ys) (captures_lead l r) (p ys))

lambda_member_leads : (limit : ℕ) (m : Member) (line : ℕ) (xs : List Argument) (l : Lambda) (o : Object) → AllArguments xs → StLeads l.body.run → ExLeads (lambda_member limit m line xs l o)
lambda_member_leads limit member.Submit line xs l o h p r = submit_leads line l o p r
lambda_member_leads limit member.EmplaceBack line xs l o h p r = emplace_leads line l o r
lambda_member_leads limit member.SingleTask line xs l o h p r =
    with_kernel_leads l [] (λ ys os. inside (single_task limit line l os)) tt (λ ys os s. single_task_leads limit line l os s.world) r
lambda_member_leads limit member.ParallelFor line xs l o h p r =
    with_kernel_leads l xs (λ ys os. inside (parallel_for limit line l ys os)) h (λ ys os s. parallel_for_leads limit line l ys os s.world) r
lambda_member_leads limit m line xs l o h p r = same

abbrev MaybeLambda : Option Lambda → Type 0
MaybeLambda None = ⊤
MaybeLambda (Some l) = StLeads l.body.run

first_lambda_leads : (xs : List Argument) → AllArguments xs → MaybeLambda (first_lambda xs)
first_lambda_leads [] h = tt
first_lambda_leads (lambda l ∷ xs) h = h.0
first_lambda_leads (x ∷ xs) h = first_lambda_leads xs h.1

member_call_leads : (calls : Calls) (limit : ℕ) (l : Option Lambda) → MaybeLambda l → (a : Exp) (m : Member) (line : ℕ) (xs : List Argument) → ExpLeads a → AllArguments xs → ExLeads (member_call calls limit l a m line xs)
member_call_leads calls limit (Some l) q a m line xs h p r =
    goes (a.run r) (lambda_member limit m line xs l) (h.1 r) (λ o. lambda_member_leads limit m line xs l o p q)
member_call_leads calls limit None q a m line xs h p r = called_member_leads m line a xs h p r

-- ---- the tree

module _ (calls : Calls) (limit : ℕ) where
  abbrev pub argument_of : TypedArgument → Argument
  argument_of = fold-TypedArgument Argument Statement St Statement Initializer Node Printing Statement Exp Block Lambda (argument_step calls limit) (declaration_step calls limit) (declarator_step calls limit) (full_step calls limit) (initializer_step calls limit) (node_step calls limit) (printed_step calls limit) (stmt_step calls limit) (typed_step calls limit) (block_step calls limit) (lambda_step calls limit)

  abbrev pub declaration_of : TypedDeclaration → Statement
  declaration_of = fold-TypedDeclaration Argument Statement St Statement Initializer Node Printing Statement Exp Block Lambda (argument_step calls limit) (declaration_step calls limit) (declarator_step calls limit) (full_step calls limit) (initializer_step calls limit) (node_step calls limit) (printed_step calls limit) (stmt_step calls limit) (typed_step calls limit) (block_step calls limit) (lambda_step calls limit)

  abbrev pub declarator_of : TypedDeclarator → St
  declarator_of = fold-TypedDeclarator Argument Statement St Statement Initializer Node Printing Statement Exp Block Lambda (argument_step calls limit) (declaration_step calls limit) (declarator_step calls limit) (full_step calls limit) (initializer_step calls limit) (node_step calls limit) (printed_step calls limit) (stmt_step calls limit) (typed_step calls limit) (block_step calls limit) (lambda_step calls limit)

  abbrev pub full_of : TypedFull → Statement
  full_of = fold-TypedFull Argument Statement St Statement Initializer Node Printing Statement Exp Block Lambda (argument_step calls limit) (declaration_step calls limit) (declarator_step calls limit) (full_step calls limit) (initializer_step calls limit) (node_step calls limit) (printed_step calls limit) (stmt_step calls limit) (typed_step calls limit) (block_step calls limit) (lambda_step calls limit)

  abbrev pub initializer_of : TypedInitializer → Initializer
  initializer_of = fold-TypedInitializer Argument Statement St Statement Initializer Node Printing Statement Exp Block Lambda (argument_step calls limit) (declaration_step calls limit) (declarator_step calls limit) (full_step calls limit) (initializer_step calls limit) (node_step calls limit) (printed_step calls limit) (stmt_step calls limit) (typed_step calls limit) (block_step calls limit) (lambda_step calls limit)

  abbrev pub node_of : TypedNode → Node
  node_of = fold-TypedNode Argument Statement St Statement Initializer Node Printing Statement Exp Block Lambda (argument_step calls limit) (declaration_step calls limit) (declarator_step calls limit) (full_step calls limit) (initializer_step calls limit) (node_step calls limit) (printed_step calls limit) (stmt_step calls limit) (typed_step calls limit) (block_step calls limit) (lambda_step calls limit)

  abbrev pub printed_of : TypedPrinted → Printing
  printed_of = fold-TypedPrinted Argument Statement St Statement Initializer Node Printing Statement Exp Block Lambda (argument_step calls limit) (declaration_step calls limit) (declarator_step calls limit) (full_step calls limit) (initializer_step calls limit) (node_step calls limit) (printed_step calls limit) (stmt_step calls limit) (typed_step calls limit) (block_step calls limit) (lambda_step calls limit)

  abbrev pub statement_of : TypedStmt → Statement
  statement_of = fold-TypedStmt Argument Statement St Statement Initializer Node Printing Statement Exp Block Lambda (argument_step calls limit) (declaration_step calls limit) (declarator_step calls limit) (full_step calls limit) (initializer_step calls limit) (node_step calls limit) (printed_step calls limit) (stmt_step calls limit) (typed_step calls limit) (block_step calls limit) (lambda_step calls limit)

  abbrev pub typed_of : Typed → Exp
  typed_of = fold-Typed Argument Statement St Statement Initializer Node Printing Statement Exp Block Lambda (argument_step calls limit) (declaration_step calls limit) (declarator_step calls limit) (full_step calls limit) (initializer_step calls limit) (node_step calls limit) (printed_step calls limit) (stmt_step calls limit) (typed_step calls limit) (block_step calls limit) (lambda_step calls limit)

  abbrev pub block_of : TypedBlock → Block
  block_of = fold-TypedBlock Argument Statement St Statement Initializer Node Printing Statement Exp Block Lambda (argument_step calls limit) (declaration_step calls limit) (declarator_step calls limit) (full_step calls limit) (initializer_step calls limit) (node_step calls limit) (printed_step calls limit) (stmt_step calls limit) (typed_step calls limit) (block_step calls limit) (lambda_step calls limit)

  abbrev pub lambda_of : TypedLambda → Lambda
  lambda_of = fold-TypedLambda Argument Statement St Statement Initializer Node Printing Statement Exp Block Lambda (argument_step calls limit) (declaration_step calls limit) (declarator_step calls limit) (full_step calls limit) (initializer_step calls limit) (node_step calls limit) (printed_step calls limit) (stmt_step calls limit) (typed_step calls limit) (block_step calls limit) (lambda_step calls limit)

  abbrev ArgumentClaim : TypedArgument → Type 0
  ArgumentClaim x = ArgumentLeads (argument_of x)

  abbrev AnArgument : Type 0
  AnArgument = (x : TypedArgument) × ArgumentClaim x

  abbrev DeclarationClaim : TypedDeclaration → Type 0
  DeclarationClaim x = StLeads (declaration_of x).run

  abbrev ADeclaration : Type 0
  ADeclaration = (x : TypedDeclaration) × DeclarationClaim x

  abbrev DeclaratorClaim : TypedDeclarator → Type 0
  DeclaratorClaim x = StLeads (declarator_of x)

  abbrev ADeclarator : Type 0
  ADeclarator = (x : TypedDeclarator) × DeclaratorClaim x

  abbrev FullClaim : TypedFull → Type 0
  FullClaim x = StLeads (full_of x).run

  abbrev AFull : Type 0
  AFull = (x : TypedFull) × FullClaim x

  abbrev InitializerClaim : TypedInitializer → Type 0
  InitializerClaim x = InitializerLeads (initializer_of x)

  abbrev AnInitializer : Type 0
  AnInitializer = (x : TypedInitializer) × InitializerClaim x

  abbrev NodeClaim : TypedNode → Type 0
  NodeClaim x = (t : Thing) (s : Spot) → ExpLeads (node_of x t s)

  abbrev ANode : Type 0
  ANode = (x : TypedNode) × NodeClaim x

  abbrev PrintedClaim : TypedPrinted → Type 0
  PrintedClaim x = StLeads (printed_of x).run

  abbrev APrinted : Type 0
  APrinted = (x : TypedPrinted) × PrintedClaim x

  abbrev StatementClaim : TypedStmt → Type 0
  StatementClaim x = StLeads (statement_of x).run

  abbrev AStatement : Type 0
  AStatement = (x : TypedStmt) × StatementClaim x

  abbrev TypedClaim : Typed → Type 0
  TypedClaim x = ExpLeads (typed_of x)

  abbrev ATyped : Type 0
  ATyped = (x : Typed) × TypedClaim x

  abbrev BlockClaim : TypedBlock → Type 0
  BlockClaim x = StLeads (block_of x).run

  abbrev ABlock : Type 0
  ABlock = (x : TypedBlock) × BlockClaim x

  abbrev LambdaClaim : TypedLambda → Type 0
  LambdaClaim x = StLeads (lambda_of x).body.run

  abbrev ALambda : Type 0
  ALambda = (x : TypedLambda) × LambdaClaim x

  abbrev opened-TypedArgument : TypedArgument-F AnArgument ADeclaration ADeclarator AFull AnInitializer ANode APrinted AStatement ATyped ABlock ALambda → Argument
  opened-TypedArgument y = argument_step calls limit (map-TypedArgument TypedArgument TypedDeclaration TypedDeclarator TypedFull TypedInitializer TypedNode TypedPrinted TypedStmt Typed TypedBlock TypedLambda Argument Statement St Statement Initializer Node Printing Statement Exp Block Lambda argument_of declaration_of declarator_of full_of initializer_of node_of printed_of statement_of typed_of block_of lambda_of (map-TypedArgument AnArgument ADeclaration ADeclarator AFull AnInitializer ANode APrinted AStatement ATyped ABlock ALambda TypedArgument TypedDeclaration TypedDeclarator TypedFull TypedInitializer TypedNode TypedPrinted TypedStmt Typed TypedBlock TypedLambda (λ e. e.0) (λ e. e.0) (λ e. e.0) (λ e. e.0) (λ e. e.0) (λ e. e.0) (λ e. e.0) (λ e. e.0) (λ e. e.0) (λ e. e.0) (λ e. e.0) y))

  abbrev opened-TypedDeclaration : TypedDeclaration-F AnArgument ADeclaration ADeclarator AFull AnInitializer ANode APrinted AStatement ATyped ABlock ALambda → Statement
  opened-TypedDeclaration y = declaration_step calls limit (map-TypedDeclaration TypedArgument TypedDeclaration TypedDeclarator TypedFull TypedInitializer TypedNode TypedPrinted TypedStmt Typed TypedBlock TypedLambda Argument Statement St Statement Initializer Node Printing Statement Exp Block Lambda argument_of declaration_of declarator_of full_of initializer_of node_of printed_of statement_of typed_of block_of lambda_of (map-TypedDeclaration AnArgument ADeclaration ADeclarator AFull AnInitializer ANode APrinted AStatement ATyped ABlock ALambda TypedArgument TypedDeclaration TypedDeclarator TypedFull TypedInitializer TypedNode TypedPrinted TypedStmt Typed TypedBlock TypedLambda (λ e. e.0) (λ e. e.0) (λ e. e.0) (λ e. e.0) (λ e. e.0) (λ e. e.0) (λ e. e.0) (λ e. e.0) (λ e. e.0) (λ e. e.0) (λ e. e.0) y))

  abbrev opened-TypedDeclarator : TypedDeclarator-F AnArgument ADeclaration ADeclarator AFull AnInitializer ANode APrinted AStatement ATyped ABlock ALambda → St
  opened-TypedDeclarator y = declarator_step calls limit (map-TypedDeclarator TypedArgument TypedDeclaration TypedDeclarator TypedFull TypedInitializer TypedNode TypedPrinted TypedStmt Typed TypedBlock TypedLambda Argument Statement St Statement Initializer Node Printing Statement Exp Block Lambda argument_of declaration_of declarator_of full_of initializer_of node_of printed_of statement_of typed_of block_of lambda_of (map-TypedDeclarator AnArgument ADeclaration ADeclarator AFull AnInitializer ANode APrinted AStatement ATyped ABlock ALambda TypedArgument TypedDeclaration TypedDeclarator TypedFull TypedInitializer TypedNode TypedPrinted TypedStmt Typed TypedBlock TypedLambda (λ e. e.0) (λ e. e.0) (λ e. e.0) (λ e. e.0) (λ e. e.0) (λ e. e.0) (λ e. e.0) (λ e. e.0) (λ e. e.0) (λ e. e.0) (λ e. e.0) y))

  abbrev opened-TypedFull : TypedFull-F AnArgument ADeclaration ADeclarator AFull AnInitializer ANode APrinted AStatement ATyped ABlock ALambda → Statement
  opened-TypedFull y = full_step calls limit (map-TypedFull TypedArgument TypedDeclaration TypedDeclarator TypedFull TypedInitializer TypedNode TypedPrinted TypedStmt Typed TypedBlock TypedLambda Argument Statement St Statement Initializer Node Printing Statement Exp Block Lambda argument_of declaration_of declarator_of full_of initializer_of node_of printed_of statement_of typed_of block_of lambda_of (map-TypedFull AnArgument ADeclaration ADeclarator AFull AnInitializer ANode APrinted AStatement ATyped ABlock ALambda TypedArgument TypedDeclaration TypedDeclarator TypedFull TypedInitializer TypedNode TypedPrinted TypedStmt Typed TypedBlock TypedLambda (λ e. e.0) (λ e. e.0) (λ e. e.0) (λ e. e.0) (λ e. e.0) (λ e. e.0) (λ e. e.0) (λ e. e.0) (λ e. e.0) (λ e. e.0) (λ e. e.0) y))

  abbrev opened-TypedInitializer : TypedInitializer-F AnArgument ADeclaration ADeclarator AFull AnInitializer ANode APrinted AStatement ATyped ABlock ALambda → Initializer
  opened-TypedInitializer y = initializer_step calls limit (map-TypedInitializer TypedArgument TypedDeclaration TypedDeclarator TypedFull TypedInitializer TypedNode TypedPrinted TypedStmt Typed TypedBlock TypedLambda Argument Statement St Statement Initializer Node Printing Statement Exp Block Lambda argument_of declaration_of declarator_of full_of initializer_of node_of printed_of statement_of typed_of block_of lambda_of (map-TypedInitializer AnArgument ADeclaration ADeclarator AFull AnInitializer ANode APrinted AStatement ATyped ABlock ALambda TypedArgument TypedDeclaration TypedDeclarator TypedFull TypedInitializer TypedNode TypedPrinted TypedStmt Typed TypedBlock TypedLambda (λ e. e.0) (λ e. e.0) (λ e. e.0) (λ e. e.0) (λ e. e.0) (λ e. e.0) (λ e. e.0) (λ e. e.0) (λ e. e.0) (λ e. e.0) (λ e. e.0) y))

  abbrev opened-TypedNode : TypedNode-F AnArgument ADeclaration ADeclarator AFull AnInitializer ANode APrinted AStatement ATyped ABlock ALambda → Node
  opened-TypedNode y = node_step calls limit (map-TypedNode TypedArgument TypedDeclaration TypedDeclarator TypedFull TypedInitializer TypedNode TypedPrinted TypedStmt Typed TypedBlock TypedLambda Argument Statement St Statement Initializer Node Printing Statement Exp Block Lambda argument_of declaration_of declarator_of full_of initializer_of node_of printed_of statement_of typed_of block_of lambda_of (map-TypedNode AnArgument ADeclaration ADeclarator AFull AnInitializer ANode APrinted AStatement ATyped ABlock ALambda TypedArgument TypedDeclaration TypedDeclarator TypedFull TypedInitializer TypedNode TypedPrinted TypedStmt Typed TypedBlock TypedLambda (λ e. e.0) (λ e. e.0) (λ e. e.0) (λ e. e.0) (λ e. e.0) (λ e. e.0) (λ e. e.0) (λ e. e.0) (λ e. e.0) (λ e. e.0) (λ e. e.0) y))

  abbrev opened-TypedPrinted : TypedPrinted-F AnArgument ADeclaration ADeclarator AFull AnInitializer ANode APrinted AStatement ATyped ABlock ALambda → Printing
  opened-TypedPrinted y = printed_step calls limit (map-TypedPrinted TypedArgument TypedDeclaration TypedDeclarator TypedFull TypedInitializer TypedNode TypedPrinted TypedStmt Typed TypedBlock TypedLambda Argument Statement St Statement Initializer Node Printing Statement Exp Block Lambda argument_of declaration_of declarator_of full_of initializer_of node_of printed_of statement_of typed_of block_of lambda_of (map-TypedPrinted AnArgument ADeclaration ADeclarator AFull AnInitializer ANode APrinted AStatement ATyped ABlock ALambda TypedArgument TypedDeclaration TypedDeclarator TypedFull TypedInitializer TypedNode TypedPrinted TypedStmt Typed TypedBlock TypedLambda (λ e. e.0) (λ e. e.0) (λ e. e.0) (λ e. e.0) (λ e. e.0) (λ e. e.0) (λ e. e.0) (λ e. e.0) (λ e. e.0) (λ e. e.0) (λ e. e.0) y))

  abbrev opened-TypedStmt : TypedStmt-F AnArgument ADeclaration ADeclarator AFull AnInitializer ANode APrinted AStatement ATyped ABlock ALambda → Statement
  opened-TypedStmt y = stmt_step calls limit (map-TypedStmt TypedArgument TypedDeclaration TypedDeclarator TypedFull TypedInitializer TypedNode TypedPrinted TypedStmt Typed TypedBlock TypedLambda Argument Statement St Statement Initializer Node Printing Statement Exp Block Lambda argument_of declaration_of declarator_of full_of initializer_of node_of printed_of statement_of typed_of block_of lambda_of (map-TypedStmt AnArgument ADeclaration ADeclarator AFull AnInitializer ANode APrinted AStatement ATyped ABlock ALambda TypedArgument TypedDeclaration TypedDeclarator TypedFull TypedInitializer TypedNode TypedPrinted TypedStmt Typed TypedBlock TypedLambda (λ e. e.0) (λ e. e.0) (λ e. e.0) (λ e. e.0) (λ e. e.0) (λ e. e.0) (λ e. e.0) (λ e. e.0) (λ e. e.0) (λ e. e.0) (λ e. e.0) y))

  abbrev opened-Typed : Typed-F AnArgument ADeclaration ADeclarator AFull AnInitializer ANode APrinted AStatement ATyped ABlock ALambda → Exp
  opened-Typed y = typed_step calls limit (map-Typed TypedArgument TypedDeclaration TypedDeclarator TypedFull TypedInitializer TypedNode TypedPrinted TypedStmt Typed TypedBlock TypedLambda Argument Statement St Statement Initializer Node Printing Statement Exp Block Lambda argument_of declaration_of declarator_of full_of initializer_of node_of printed_of statement_of typed_of block_of lambda_of (map-Typed AnArgument ADeclaration ADeclarator AFull AnInitializer ANode APrinted AStatement ATyped ABlock ALambda TypedArgument TypedDeclaration TypedDeclarator TypedFull TypedInitializer TypedNode TypedPrinted TypedStmt Typed TypedBlock TypedLambda (λ e. e.0) (λ e. e.0) (λ e. e.0) (λ e. e.0) (λ e. e.0) (λ e. e.0) (λ e. e.0) (λ e. e.0) (λ e. e.0) (λ e. e.0) (λ e. e.0) y))

  abbrev opened-TypedBlock : TypedBlock-F AnArgument ADeclaration ADeclarator AFull AnInitializer ANode APrinted AStatement ATyped ABlock ALambda → Block
  opened-TypedBlock y = block_step calls limit (map-TypedBlock TypedArgument TypedDeclaration TypedDeclarator TypedFull TypedInitializer TypedNode TypedPrinted TypedStmt Typed TypedBlock TypedLambda Argument Statement St Statement Initializer Node Printing Statement Exp Block Lambda argument_of declaration_of declarator_of full_of initializer_of node_of printed_of statement_of typed_of block_of lambda_of (map-TypedBlock AnArgument ADeclaration ADeclarator AFull AnInitializer ANode APrinted AStatement ATyped ABlock ALambda TypedArgument TypedDeclaration TypedDeclarator TypedFull TypedInitializer TypedNode TypedPrinted TypedStmt Typed TypedBlock TypedLambda (λ e. e.0) (λ e. e.0) (λ e. e.0) (λ e. e.0) (λ e. e.0) (λ e. e.0) (λ e. e.0) (λ e. e.0) (λ e. e.0) (λ e. e.0) (λ e. e.0) y))

  abbrev opened-TypedLambda : TypedLambda-F AnArgument ADeclaration ADeclarator AFull AnInitializer ANode APrinted AStatement ATyped ABlock ALambda → Lambda
  opened-TypedLambda y = lambda_step calls limit (map-TypedLambda TypedArgument TypedDeclaration TypedDeclarator TypedFull TypedInitializer TypedNode TypedPrinted TypedStmt Typed TypedBlock TypedLambda Argument Statement St Statement Initializer Node Printing Statement Exp Block Lambda argument_of declaration_of declarator_of full_of initializer_of node_of printed_of statement_of typed_of block_of lambda_of (map-TypedLambda AnArgument ADeclaration ADeclarator AFull AnInitializer ANode APrinted AStatement ATyped ABlock ALambda TypedArgument TypedDeclaration TypedDeclarator TypedFull TypedInitializer TypedNode TypedPrinted TypedStmt Typed TypedBlock TypedLambda (λ e. e.0) (λ e. e.0) (λ e. e.0) (λ e. e.0) (λ e. e.0) (λ e. e.0) (λ e. e.0) (λ e. e.0) (λ e. e.0) (λ e. e.0) (λ e. e.0) y))

  all_typed : (es : List ATyped) → AllExps (map typed_of (map (λ e. e.0) es))
  all_typed [] = tt
  all_typed (e ∷ es) = (e.1, all_typed es)

  all_arguments : (xs : List AnArgument) → AllArguments (map argument_of (map (λ e. e.0) xs))
  all_arguments [] = tt
  all_arguments (x ∷ xs) = (x.1, all_arguments xs)

  all_printed : (ps : List APrinted) → AllPrinted (map printed_of (map (λ e. e.0) ps))
  all_printed [] = tt
  all_printed (p ∷ ps) = (p.1, all_printed ps)

  all_declarators : (ds : List ADeclarator) → AllLeadOn (map declarator_of (map (λ e. e.0) ds))
  all_declarators [] = tt
  all_declarators (d ∷ ds) = (d.1, all_declarators ds)

  all_statements : (ss : List AStatement) → AllLeadOn (map (statement_run calls limit) (map statement_of (map (λ e. e.0) ss)))
  all_statements [] = tt
  all_statements (s ∷ ss) = (s.1, all_statements ss)

  argument_shows : (y : TypedArgument-F AnArgument ADeclaration ADeclarator AFull AnInitializer ANode APrinted AStatement ATyped ABlock ALambda) → ArgumentLeads (opened-TypedArgument y)
  argument_shows (TypedArgument-F.Value e) = e.1
  argument_shows (TypedArgument-F.Braced es last) = all_typed es
  argument_shows (TypedArgument-F.Lambda l) = l.1

  declaration_shows : (y : TypedDeclaration-F AnArgument ADeclaration ADeclarator AFull AnInitializer ANode APrinted AStatement ATyped ABlock ALambda) → StLeads (opened-TypedDeclaration y).run
  declaration_shows (TypedDeclaration-F.Values ds s) r = in_turn_leads (map declarator_of (map (λ e. e.0) ds)) (all_declarators ds) r
  declaration_shows (TypedDeclaration-F.Vector x None s) r = declare_vector_leads x None tt r
  declaration_shows (TypedDeclaration-F.Vector x (Some i) s) r = declare_vector_leads x (Some (initializer_of i.0)) i.1 r
  declaration_shows (TypedDeclaration-F.DeviceVector x None s) r = declare_object_leads x None tt r
  declaration_shows (TypedDeclaration-F.DeviceVector x (Some i) s) r = declare_object_leads x (Some (initializer_of i.0)) i.1 r
  declaration_shows (TypedDeclaration-F.ThreadVector x s) r = declare_team_leads x r
  declaration_shows (TypedDeclaration-F.Thread x l s) r = declare_thread_leads x (lambda_of l.0) r
  declaration_shows (TypedDeclaration-F.Object x None s) r = declare_object_leads x None tt r
  declaration_shows (TypedDeclaration-F.Object x (Some i) s) r = declare_object_leads x (Some (initializer_of i.0)) i.1 r

  declarator_shows : (y : TypedDeclarator-F AnArgument ADeclaration ADeclarator AFull AnInitializer ANode APrinted AStatement ATyped ABlock ALambda) → StLeads (opened-TypedDeclarator y)
  declarator_shows (TypedDeclarator-F.Uninitialized x) r = declare_zero_leads x r
  declarator_shows (TypedDeclarator-F.Equal x e) r = declare_value_leads x (typed_of e.0) e.1 r
  declarator_shows (TypedDeclarator-F.Bracketed x e close) r = declare_value_leads x (typed_of e.0) e.1 r

  full_shows : (y : TypedFull-F AnArgument ADeclaration ADeclarator AFull AnInitializer ANode APrinted AStatement ATyped ABlock ALambda) → StLeads (opened-TypedFull y).run
  full_shows (TypedFull-F.Plain e) r = discarded_leads (full (typed_of e.0)) (full_leads (typed_of e.0) e.1) r
  full_shows (TypedFull-F.Assignment a s op b) r =
      let x = typed_of a.0 in
      let y = typed_of b.0 in
      let go = assignment x.what op s.line x y in
      discarded_leads (in_full (x.makes || y.makes) y.last go) (in_full_leads (x.makes || y.makes) y.last go (assignment_leads x.what op s.line x y a.1 b.1)) r

  initializer_shows : (y : TypedInitializer-F AnArgument ADeclaration ADeclarator AFull AnInitializer ANode APrinted AStatement ATyped ABlock ALambda) → InitializerLeads (opened-TypedInitializer y)
  initializer_shows (TypedInitializer-F.Copy e) = e.1
  initializer_shows (TypedInitializer-F.Direct b xs close) = all_arguments xs

  printed_shows : (y : TypedPrinted-F AnArgument ADeclaration ADeclarator AFull AnInitializer ANode APrinted AStatement ATyped ABlock ALambda) → StLeads (opened-TypedPrinted y).run
  printed_shows (TypedPrinted-F.Operand s e) r = print_operand_leads s.line (typed_of e.0) e.1 r
  printed_shows (TypedPrinted-F.Bytes s text last) r = discarded_leads (inside (prints s.line text)) (λ q. prints_leads s.line text q.world) r
  printed_shows (TypedPrinted-F.EndLine s last) r = discarded_leads (inside (prints s.line (10 ∷ []))) (λ q. prints_leads s.line (10 ∷ []) q.world) r

  statement_shows : (y : TypedStmt-F AnArgument ADeclaration ADeclarator AFull AnInitializer ANode APrinted AStatement ATyped ABlock ALambda) → StLeads (opened-TypedStmt y).run
  statement_shows (TypedStmt-F.Compound b) r = b.1 r
  statement_shows (TypedStmt-F.Null s) r = same
  statement_shows (TypedStmt-F.Declaration d) r = d.1 r
  statement_shows (TypedStmt-F.Expression f s) r = f.1 r
  statement_shows (TypedStmt-F.Print ps s) r = print_all_leads (map printed_of (map (λ e. e.0) ps)) (all_printed ps) r
  statement_shows (TypedStmt-F.Break s e) r = same
  statement_shows (TypedStmt-F.Continue s e) r = same
  statement_shows (TypedStmt-F.Return s None last) r = same
  statement_shows (TypedStmt-F.Return s (Some e) last) r = returned_leads s.line (Some (typed_of e.0)) e.1 r
  statement_shows (TypedStmt-F.If s c a None) r = choose_leads (typed_of c.0) (statement_of a.0) None c.1 a.1 tt r
  statement_shows (TypedStmt-F.If s c a (Some b)) r = choose_leads (typed_of c.0) (statement_of a.0) (Some (statement_of b.0)) c.1 a.1 b.1 r
  statement_shows (TypedStmt-F.While s c b) r = while_leads s.line (typed_of c.0) (statement_of b.0) c.1 b.1 r
  statement_shows (TypedStmt-F.Do s b c last) r = do_leads s.line (typed_of c.0) (statement_of b.0) c.1 b.1 r
  statement_shows (TypedStmt-F.For s head None None b) r = for_leads s.line (statement_of head.0) None None (statement_of b.0) head.1 tt tt b.1 r
  statement_shows (TypedStmt-F.For s head (Some c) None b) r = for_leads s.line (statement_of head.0) (Some (typed_of c.0)) None (statement_of b.0) head.1 c.1 tt b.1 r
  statement_shows (TypedStmt-F.For s head None (Some step) b) r = for_leads s.line (statement_of head.0) None (Some (full_of step.0)) (statement_of b.0) head.1 tt step.1 b.1 r
  statement_shows (TypedStmt-F.For s head (Some c) (Some step) b) r = for_leads s.line (statement_of head.0) (Some (typed_of c.0)) (Some (full_of step.0)) (statement_of b.0) head.1 c.1 step.1 b.1 r
  statement_shows (TypedStmt-F.RangeFor s x by_reference v b) r = range_for_leads s.line x by_reference v (statement_of b.0) b.1 r
  statement_shows (TypedStmt-F.Try s b x h) r = try_leads (block_of b.0).run x (block_of h.0).run b.1 h.1 r

  typed_shows : (y : Typed-F AnArgument ADeclaration ADeclarator AFull AnInitializer ANode APrinted AStatement ATyped ABlock ALambda) → ExpLeads (opened-Typed y)
  typed_shows y = y.node.1 y.what y.spot

  block_shows : (y : TypedBlock-F AnArgument ADeclaration ADeclarator AFull AnInitializer ANode APrinted AStatement ATyped ABlock ALambda) → StLeads (opened-TypedBlock y).run
  block_shows y r =
      let ss = map (statement_run calls limit) (map statement_of (map (λ e. e.0) y.statements)) in
      in_scope_leads y.close.line (in_turn ss) (in_turn_leads ss (all_statements y.statements)) r

  lambda_shows : (y : TypedLambda-F AnArgument ADeclaration ADeclarator AFull AnInitializer ANode APrinted AStatement ATyped ABlock ALambda) → StLeads (opened-TypedLambda y).body.run
  lambda_shows y = y.body.1

  module _ (calls_lead : CallsLead calls) where
    node_shows : (y : TypedNode-F AnArgument ADeclaration ADeclarator AFull AnInitializer ANode APrinted AStatement ATyped ABlock ALambda) (t : Thing) (s : Spot) → ExpLeads (opened-TypedNode y t s)
    node_shows (TypedNode-F.Integer z) t s = (λ r. same, λ r. same)
    node_shows (TypedNode-F.Character z) t s = (λ r. same, λ r. same)
    node_shows (TypedNode-F.Boolean b) t s = (λ r. same, λ r. same)
    node_shows (TypedNode-F.Name n) t s = located_exp t s.line s.line false (location.Local n) (gives nothing) (λ r. same)
    node_shows (TypedNode-F.Reference n) t s = reference_exp t s.line n
    node_shows (TypedNode-F.Call f es last) t s =
        let h = call_leads calls calls_lead s.line f (map typed_of (map (λ e. e.0) es)) (all_typed es) in (h, h)
    node_shows (TypedNode-F.Parenthesized a last) t s = a.1
    node_shows (TypedNode-F.StaticCast a last) t s = let h = cast_leads t (typed_of a.0) a.1 in (h, h)
    node_shows (TypedNode-F.FunctionalCast a last) t s = let h = cast_leads t (typed_of a.0) a.1 in (h, h)
    node_shows (TypedNode-F.Construct xs last) t s =
        let h = with_arguments_leads (map argument_of (map (λ e. e.0) xs)) (λ ys. inside (make_temporary t s.line ys)) (all_arguments xs) (λ ys r. temporary_leads t s.line ys r.world) in (h, h)
    node_shows (TypedNode-F.GroupBarrier a last) t s = (λ r. barrier_leads s r.world, λ r. barrier_leads s r.world)
    node_shows (TypedNode-F.AccessTag g) t s = (λ r. same, λ r. same)
    node_shows (TypedNode-F.InOrder last) t s = (λ r. same, λ r. same)
    node_shows (TypedNode-F.ErrorCode e last) t s = (λ r. same, λ r. same)
    node_shows (TypedNode-F.InitializeToIdentity last) t s = (λ r. same, λ r. same)
    node_shows (TypedNode-F.FunctionObject f k last) t s = (λ r. same, λ r. same)
    node_shows (TypedNode-F.LibraryCall f xs last) t s =
        let h = with_arguments_leads (map argument_of (map (λ e. e.0) xs)) (λ ys. inside (library_call f s t ys)) (all_arguments xs) (λ ys r. library_call_leads f s t ys r.world) in (h, h)
    node_shows (TypedNode-F.Subscript a i last) t s =
        let x = typed_of a.0 in
        let y = typed_of i.0 in
        indexed_exp t s.line last.line (x.makes || y.makes) (element_of x.what x.location) (subscript s.line x y) (subscript_leads s.line x y a.1 i.1)
    node_shows (TypedNode-F.MemberCall a m xs last) t s =
        let ys = map argument_of (map (λ e. e.0) xs) in
        let h = member_call_leads calls limit (first_lambda ys) (first_lambda_leads ys (all_arguments xs)) (typed_of a.0) m s.line ys a.1 (all_arguments xs) in (h, h)
    node_shows (TypedNode-F.Postfix a step) t s = let h = postfix_leads step s.line (typed_of a.0) a.1 in (h, h)
    node_shows (TypedNode-F.Prefix step a) t s = let h = prefix_leads step s.line (typed_of a.0) a.1 in (h, h)
    node_shows (TypedNode-F.Unary op a) t s = let h = unary_leads op s.line (typed_of a.0) a.1 in (h, h)
    node_shows (TypedNode-F.Cast a) t s = let h = cast_leads t (typed_of a.0) a.1 in (h, h)
    node_shows (TypedNode-F.Binary a op b) t s = let h = binary_leads op s.line (typed_of a.0) (typed_of b.0) a.1 b.1 in (h, h)
    node_shows (TypedNode-F.Conditional c a b) t s = let h = conditional_leads t (typed_of c.0) (typed_of a.0) (typed_of b.0) c.1 a.1 b.1 in (h, h)

    rolled-TypedArgument : (x : TypedArgument-F TypedArgument TypedDeclaration TypedDeclarator TypedFull TypedInitializer TypedNode TypedPrinted TypedStmt Typed TypedBlock TypedLambda) (y : TypedArgument-F AnArgument ADeclaration ADeclarator AFull AnInitializer ANode APrinted AStatement ATyped ABlock ALambda) → map-TypedArgument AnArgument ADeclaration ADeclarator AFull AnInitializer ANode APrinted AStatement ATyped ABlock ALambda TypedArgument TypedDeclaration TypedDeclarator TypedFull TypedInitializer TypedNode TypedPrinted TypedStmt Typed TypedBlock TypedLambda (λ e. e.0) (λ e. e.0) (λ e. e.0) (λ e. e.0) (λ e. e.0) (λ e. e.0) (λ e. e.0) (λ e. e.0) (λ e. e.0) (λ e. e.0) (λ e. e.0) y ≡ x → ArgumentClaim (roll-TypedArgument x)
    rolled-TypedArgument x y is =
        let shown : ArgumentClaim (roll-TypedArgument (map-TypedArgument AnArgument ADeclaration ADeclarator AFull AnInitializer ANode APrinted AStatement ATyped ABlock ALambda TypedArgument TypedDeclaration TypedDeclarator TypedFull TypedInitializer TypedNode TypedPrinted TypedStmt Typed TypedBlock TypedLambda (λ e. e.0) (λ e. e.0) (λ e. e.0) (λ e. e.0) (λ e. e.0) (λ e. e.0) (λ e. e.0) (λ e. e.0) (λ e. e.0) (λ e. e.0) (λ e. e.0) y)) = subst (λ m. ArgumentLeads m) (sym (fold-roll-TypedArgument Argument Statement St Statement Initializer Node Printing Statement Exp Block Lambda (argument_step calls limit) (declaration_step calls limit) (declarator_step calls limit) (full_step calls limit) (initializer_step calls limit) (node_step calls limit) (printed_step calls limit) (stmt_step calls limit) (typed_step calls limit) (block_step calls limit) (lambda_step calls limit) (map-TypedArgument AnArgument ADeclaration ADeclarator AFull AnInitializer ANode APrinted AStatement ATyped ABlock ALambda TypedArgument TypedDeclaration TypedDeclarator TypedFull TypedInitializer TypedNode TypedPrinted TypedStmt Typed TypedBlock TypedLambda (λ e. e.0) (λ e. e.0) (λ e. e.0) (λ e. e.0) (λ e. e.0) (λ e. e.0) (λ e. e.0) (λ e. e.0) (λ e. e.0) (λ e. e.0) (λ e. e.0) y))) (argument_shows y) in
        subst (λ z. ArgumentClaim (roll-TypedArgument z)) is shown

    rolled-TypedDeclaration : (x : TypedDeclaration-F TypedArgument TypedDeclaration TypedDeclarator TypedFull TypedInitializer TypedNode TypedPrinted TypedStmt Typed TypedBlock TypedLambda) (y : TypedDeclaration-F AnArgument ADeclaration ADeclarator AFull AnInitializer ANode APrinted AStatement ATyped ABlock ALambda) → map-TypedDeclaration AnArgument ADeclaration ADeclarator AFull AnInitializer ANode APrinted AStatement ATyped ABlock ALambda TypedArgument TypedDeclaration TypedDeclarator TypedFull TypedInitializer TypedNode TypedPrinted TypedStmt Typed TypedBlock TypedLambda (λ e. e.0) (λ e. e.0) (λ e. e.0) (λ e. e.0) (λ e. e.0) (λ e. e.0) (λ e. e.0) (λ e. e.0) (λ e. e.0) (λ e. e.0) (λ e. e.0) y ≡ x → DeclarationClaim (roll-TypedDeclaration x)
    rolled-TypedDeclaration x y is =
        let shown : DeclarationClaim (roll-TypedDeclaration (map-TypedDeclaration AnArgument ADeclaration ADeclarator AFull AnInitializer ANode APrinted AStatement ATyped ABlock ALambda TypedArgument TypedDeclaration TypedDeclarator TypedFull TypedInitializer TypedNode TypedPrinted TypedStmt Typed TypedBlock TypedLambda (λ e. e.0) (λ e. e.0) (λ e. e.0) (λ e. e.0) (λ e. e.0) (λ e. e.0) (λ e. e.0) (λ e. e.0) (λ e. e.0) (λ e. e.0) (λ e. e.0) y)) = subst (λ m. StLeads m.run) (sym (fold-roll-TypedDeclaration Argument Statement St Statement Initializer Node Printing Statement Exp Block Lambda (argument_step calls limit) (declaration_step calls limit) (declarator_step calls limit) (full_step calls limit) (initializer_step calls limit) (node_step calls limit) (printed_step calls limit) (stmt_step calls limit) (typed_step calls limit) (block_step calls limit) (lambda_step calls limit) (map-TypedDeclaration AnArgument ADeclaration ADeclarator AFull AnInitializer ANode APrinted AStatement ATyped ABlock ALambda TypedArgument TypedDeclaration TypedDeclarator TypedFull TypedInitializer TypedNode TypedPrinted TypedStmt Typed TypedBlock TypedLambda (λ e. e.0) (λ e. e.0) (λ e. e.0) (λ e. e.0) (λ e. e.0) (λ e. e.0) (λ e. e.0) (λ e. e.0) (λ e. e.0) (λ e. e.0) (λ e. e.0) y))) (declaration_shows y) in
        subst (λ z. DeclarationClaim (roll-TypedDeclaration z)) is shown

    rolled-TypedDeclarator : (x : TypedDeclarator-F TypedArgument TypedDeclaration TypedDeclarator TypedFull TypedInitializer TypedNode TypedPrinted TypedStmt Typed TypedBlock TypedLambda) (y : TypedDeclarator-F AnArgument ADeclaration ADeclarator AFull AnInitializer ANode APrinted AStatement ATyped ABlock ALambda) → map-TypedDeclarator AnArgument ADeclaration ADeclarator AFull AnInitializer ANode APrinted AStatement ATyped ABlock ALambda TypedArgument TypedDeclaration TypedDeclarator TypedFull TypedInitializer TypedNode TypedPrinted TypedStmt Typed TypedBlock TypedLambda (λ e. e.0) (λ e. e.0) (λ e. e.0) (λ e. e.0) (λ e. e.0) (λ e. e.0) (λ e. e.0) (λ e. e.0) (λ e. e.0) (λ e. e.0) (λ e. e.0) y ≡ x → DeclaratorClaim (roll-TypedDeclarator x)
    rolled-TypedDeclarator x y is =
        let shown : DeclaratorClaim (roll-TypedDeclarator (map-TypedDeclarator AnArgument ADeclaration ADeclarator AFull AnInitializer ANode APrinted AStatement ATyped ABlock ALambda TypedArgument TypedDeclaration TypedDeclarator TypedFull TypedInitializer TypedNode TypedPrinted TypedStmt Typed TypedBlock TypedLambda (λ e. e.0) (λ e. e.0) (λ e. e.0) (λ e. e.0) (λ e. e.0) (λ e. e.0) (λ e. e.0) (λ e. e.0) (λ e. e.0) (λ e. e.0) (λ e. e.0) y)) = subst (λ m. StLeads m) (sym (fold-roll-TypedDeclarator Argument Statement St Statement Initializer Node Printing Statement Exp Block Lambda (argument_step calls limit) (declaration_step calls limit) (declarator_step calls limit) (full_step calls limit) (initializer_step calls limit) (node_step calls limit) (printed_step calls limit) (stmt_step calls limit) (typed_step calls limit) (block_step calls limit) (lambda_step calls limit) (map-TypedDeclarator AnArgument ADeclaration ADeclarator AFull AnInitializer ANode APrinted AStatement ATyped ABlock ALambda TypedArgument TypedDeclaration TypedDeclarator TypedFull TypedInitializer TypedNode TypedPrinted TypedStmt Typed TypedBlock TypedLambda (λ e. e.0) (λ e. e.0) (λ e. e.0) (λ e. e.0) (λ e. e.0) (λ e. e.0) (λ e. e.0) (λ e. e.0) (λ e. e.0) (λ e. e.0) (λ e. e.0) y))) (declarator_shows y) in
        subst (λ z. DeclaratorClaim (roll-TypedDeclarator z)) is shown

    rolled-TypedFull : (x : TypedFull-F TypedArgument TypedDeclaration TypedDeclarator TypedFull TypedInitializer TypedNode TypedPrinted TypedStmt Typed TypedBlock TypedLambda) (y : TypedFull-F AnArgument ADeclaration ADeclarator AFull AnInitializer ANode APrinted AStatement ATyped ABlock ALambda) → map-TypedFull AnArgument ADeclaration ADeclarator AFull AnInitializer ANode APrinted AStatement ATyped ABlock ALambda TypedArgument TypedDeclaration TypedDeclarator TypedFull TypedInitializer TypedNode TypedPrinted TypedStmt Typed TypedBlock TypedLambda (λ e. e.0) (λ e. e.0) (λ e. e.0) (λ e. e.0) (λ e. e.0) (λ e. e.0) (λ e. e.0) (λ e. e.0) (λ e. e.0) (λ e. e.0) (λ e. e.0) y ≡ x → FullClaim (roll-TypedFull x)
    rolled-TypedFull x y is =
        let shown : FullClaim (roll-TypedFull (map-TypedFull AnArgument ADeclaration ADeclarator AFull AnInitializer ANode APrinted AStatement ATyped ABlock ALambda TypedArgument TypedDeclaration TypedDeclarator TypedFull TypedInitializer TypedNode TypedPrinted TypedStmt Typed TypedBlock TypedLambda (λ e. e.0) (λ e. e.0) (λ e. e.0) (λ e. e.0) (λ e. e.0) (λ e. e.0) (λ e. e.0) (λ e. e.0) (λ e. e.0) (λ e. e.0) (λ e. e.0) y)) = subst (λ m. StLeads m.run) (sym (fold-roll-TypedFull Argument Statement St Statement Initializer Node Printing Statement Exp Block Lambda (argument_step calls limit) (declaration_step calls limit) (declarator_step calls limit) (full_step calls limit) (initializer_step calls limit) (node_step calls limit) (printed_step calls limit) (stmt_step calls limit) (typed_step calls limit) (block_step calls limit) (lambda_step calls limit) (map-TypedFull AnArgument ADeclaration ADeclarator AFull AnInitializer ANode APrinted AStatement ATyped ABlock ALambda TypedArgument TypedDeclaration TypedDeclarator TypedFull TypedInitializer TypedNode TypedPrinted TypedStmt Typed TypedBlock TypedLambda (λ e. e.0) (λ e. e.0) (λ e. e.0) (λ e. e.0) (λ e. e.0) (λ e. e.0) (λ e. e.0) (λ e. e.0) (λ e. e.0) (λ e. e.0) (λ e. e.0) y))) (full_shows y) in
        subst (λ z. FullClaim (roll-TypedFull z)) is shown

    rolled-TypedInitializer : (x : TypedInitializer-F TypedArgument TypedDeclaration TypedDeclarator TypedFull TypedInitializer TypedNode TypedPrinted TypedStmt Typed TypedBlock TypedLambda) (y : TypedInitializer-F AnArgument ADeclaration ADeclarator AFull AnInitializer ANode APrinted AStatement ATyped ABlock ALambda) → map-TypedInitializer AnArgument ADeclaration ADeclarator AFull AnInitializer ANode APrinted AStatement ATyped ABlock ALambda TypedArgument TypedDeclaration TypedDeclarator TypedFull TypedInitializer TypedNode TypedPrinted TypedStmt Typed TypedBlock TypedLambda (λ e. e.0) (λ e. e.0) (λ e. e.0) (λ e. e.0) (λ e. e.0) (λ e. e.0) (λ e. e.0) (λ e. e.0) (λ e. e.0) (λ e. e.0) (λ e. e.0) y ≡ x → InitializerClaim (roll-TypedInitializer x)
    rolled-TypedInitializer x y is =
        let shown : InitializerClaim (roll-TypedInitializer (map-TypedInitializer AnArgument ADeclaration ADeclarator AFull AnInitializer ANode APrinted AStatement ATyped ABlock ALambda TypedArgument TypedDeclaration TypedDeclarator TypedFull TypedInitializer TypedNode TypedPrinted TypedStmt Typed TypedBlock TypedLambda (λ e. e.0) (λ e. e.0) (λ e. e.0) (λ e. e.0) (λ e. e.0) (λ e. e.0) (λ e. e.0) (λ e. e.0) (λ e. e.0) (λ e. e.0) (λ e. e.0) y)) = subst (λ m. InitializerLeads m) (sym (fold-roll-TypedInitializer Argument Statement St Statement Initializer Node Printing Statement Exp Block Lambda (argument_step calls limit) (declaration_step calls limit) (declarator_step calls limit) (full_step calls limit) (initializer_step calls limit) (node_step calls limit) (printed_step calls limit) (stmt_step calls limit) (typed_step calls limit) (block_step calls limit) (lambda_step calls limit) (map-TypedInitializer AnArgument ADeclaration ADeclarator AFull AnInitializer ANode APrinted AStatement ATyped ABlock ALambda TypedArgument TypedDeclaration TypedDeclarator TypedFull TypedInitializer TypedNode TypedPrinted TypedStmt Typed TypedBlock TypedLambda (λ e. e.0) (λ e. e.0) (λ e. e.0) (λ e. e.0) (λ e. e.0) (λ e. e.0) (λ e. e.0) (λ e. e.0) (λ e. e.0) (λ e. e.0) (λ e. e.0) y))) (initializer_shows y) in
        subst (λ z. InitializerClaim (roll-TypedInitializer z)) is shown

    rolled-TypedNode : (x : TypedNode-F TypedArgument TypedDeclaration TypedDeclarator TypedFull TypedInitializer TypedNode TypedPrinted TypedStmt Typed TypedBlock TypedLambda) (y : TypedNode-F AnArgument ADeclaration ADeclarator AFull AnInitializer ANode APrinted AStatement ATyped ABlock ALambda) → map-TypedNode AnArgument ADeclaration ADeclarator AFull AnInitializer ANode APrinted AStatement ATyped ABlock ALambda TypedArgument TypedDeclaration TypedDeclarator TypedFull TypedInitializer TypedNode TypedPrinted TypedStmt Typed TypedBlock TypedLambda (λ e. e.0) (λ e. e.0) (λ e. e.0) (λ e. e.0) (λ e. e.0) (λ e. e.0) (λ e. e.0) (λ e. e.0) (λ e. e.0) (λ e. e.0) (λ e. e.0) y ≡ x → NodeClaim (roll-TypedNode x)
    rolled-TypedNode x y is =
        let shown : NodeClaim (roll-TypedNode (map-TypedNode AnArgument ADeclaration ADeclarator AFull AnInitializer ANode APrinted AStatement ATyped ABlock ALambda TypedArgument TypedDeclaration TypedDeclarator TypedFull TypedInitializer TypedNode TypedPrinted TypedStmt Typed TypedBlock TypedLambda (λ e. e.0) (λ e. e.0) (λ e. e.0) (λ e. e.0) (λ e. e.0) (λ e. e.0) (λ e. e.0) (λ e. e.0) (λ e. e.0) (λ e. e.0) (λ e. e.0) y)) = λ t s. subst (λ m. ExpLeads (m t s)) (sym (fold-roll-TypedNode Argument Statement St Statement Initializer Node Printing Statement Exp Block Lambda (argument_step calls limit) (declaration_step calls limit) (declarator_step calls limit) (full_step calls limit) (initializer_step calls limit) (node_step calls limit) (printed_step calls limit) (stmt_step calls limit) (typed_step calls limit) (block_step calls limit) (lambda_step calls limit) (map-TypedNode AnArgument ADeclaration ADeclarator AFull AnInitializer ANode APrinted AStatement ATyped ABlock ALambda TypedArgument TypedDeclaration TypedDeclarator TypedFull TypedInitializer TypedNode TypedPrinted TypedStmt Typed TypedBlock TypedLambda (λ e. e.0) (λ e. e.0) (λ e. e.0) (λ e. e.0) (λ e. e.0) (λ e. e.0) (λ e. e.0) (λ e. e.0) (λ e. e.0) (λ e. e.0) (λ e. e.0) y))) (node_shows y t s) in
        subst (λ z. NodeClaim (roll-TypedNode z)) is shown

    rolled-TypedPrinted : (x : TypedPrinted-F TypedArgument TypedDeclaration TypedDeclarator TypedFull TypedInitializer TypedNode TypedPrinted TypedStmt Typed TypedBlock TypedLambda) (y : TypedPrinted-F AnArgument ADeclaration ADeclarator AFull AnInitializer ANode APrinted AStatement ATyped ABlock ALambda) → map-TypedPrinted AnArgument ADeclaration ADeclarator AFull AnInitializer ANode APrinted AStatement ATyped ABlock ALambda TypedArgument TypedDeclaration TypedDeclarator TypedFull TypedInitializer TypedNode TypedPrinted TypedStmt Typed TypedBlock TypedLambda (λ e. e.0) (λ e. e.0) (λ e. e.0) (λ e. e.0) (λ e. e.0) (λ e. e.0) (λ e. e.0) (λ e. e.0) (λ e. e.0) (λ e. e.0) (λ e. e.0) y ≡ x → PrintedClaim (roll-TypedPrinted x)
    rolled-TypedPrinted x y is =
        let shown : PrintedClaim (roll-TypedPrinted (map-TypedPrinted AnArgument ADeclaration ADeclarator AFull AnInitializer ANode APrinted AStatement ATyped ABlock ALambda TypedArgument TypedDeclaration TypedDeclarator TypedFull TypedInitializer TypedNode TypedPrinted TypedStmt Typed TypedBlock TypedLambda (λ e. e.0) (λ e. e.0) (λ e. e.0) (λ e. e.0) (λ e. e.0) (λ e. e.0) (λ e. e.0) (λ e. e.0) (λ e. e.0) (λ e. e.0) (λ e. e.0) y)) = subst (λ m. StLeads m.run) (sym (fold-roll-TypedPrinted Argument Statement St Statement Initializer Node Printing Statement Exp Block Lambda (argument_step calls limit) (declaration_step calls limit) (declarator_step calls limit) (full_step calls limit) (initializer_step calls limit) (node_step calls limit) (printed_step calls limit) (stmt_step calls limit) (typed_step calls limit) (block_step calls limit) (lambda_step calls limit) (map-TypedPrinted AnArgument ADeclaration ADeclarator AFull AnInitializer ANode APrinted AStatement ATyped ABlock ALambda TypedArgument TypedDeclaration TypedDeclarator TypedFull TypedInitializer TypedNode TypedPrinted TypedStmt Typed TypedBlock TypedLambda (λ e. e.0) (λ e. e.0) (λ e. e.0) (λ e. e.0) (λ e. e.0) (λ e. e.0) (λ e. e.0) (λ e. e.0) (λ e. e.0) (λ e. e.0) (λ e. e.0) y))) (printed_shows y) in
        subst (λ z. PrintedClaim (roll-TypedPrinted z)) is shown

    rolled-TypedStmt : (x : TypedStmt-F TypedArgument TypedDeclaration TypedDeclarator TypedFull TypedInitializer TypedNode TypedPrinted TypedStmt Typed TypedBlock TypedLambda) (y : TypedStmt-F AnArgument ADeclaration ADeclarator AFull AnInitializer ANode APrinted AStatement ATyped ABlock ALambda) → map-TypedStmt AnArgument ADeclaration ADeclarator AFull AnInitializer ANode APrinted AStatement ATyped ABlock ALambda TypedArgument TypedDeclaration TypedDeclarator TypedFull TypedInitializer TypedNode TypedPrinted TypedStmt Typed TypedBlock TypedLambda (λ e. e.0) (λ e. e.0) (λ e. e.0) (λ e. e.0) (λ e. e.0) (λ e. e.0) (λ e. e.0) (λ e. e.0) (λ e. e.0) (λ e. e.0) (λ e. e.0) y ≡ x → StatementClaim (roll-TypedStmt x)
    rolled-TypedStmt x y is =
        let shown : StatementClaim (roll-TypedStmt (map-TypedStmt AnArgument ADeclaration ADeclarator AFull AnInitializer ANode APrinted AStatement ATyped ABlock ALambda TypedArgument TypedDeclaration TypedDeclarator TypedFull TypedInitializer TypedNode TypedPrinted TypedStmt Typed TypedBlock TypedLambda (λ e. e.0) (λ e. e.0) (λ e. e.0) (λ e. e.0) (λ e. e.0) (λ e. e.0) (λ e. e.0) (λ e. e.0) (λ e. e.0) (λ e. e.0) (λ e. e.0) y)) = subst (λ m. StLeads m.run) (sym (fold-roll-TypedStmt Argument Statement St Statement Initializer Node Printing Statement Exp Block Lambda (argument_step calls limit) (declaration_step calls limit) (declarator_step calls limit) (full_step calls limit) (initializer_step calls limit) (node_step calls limit) (printed_step calls limit) (stmt_step calls limit) (typed_step calls limit) (block_step calls limit) (lambda_step calls limit) (map-TypedStmt AnArgument ADeclaration ADeclarator AFull AnInitializer ANode APrinted AStatement ATyped ABlock ALambda TypedArgument TypedDeclaration TypedDeclarator TypedFull TypedInitializer TypedNode TypedPrinted TypedStmt Typed TypedBlock TypedLambda (λ e. e.0) (λ e. e.0) (λ e. e.0) (λ e. e.0) (λ e. e.0) (λ e. e.0) (λ e. e.0) (λ e. e.0) (λ e. e.0) (λ e. e.0) (λ e. e.0) y))) (statement_shows y) in
        subst (λ z. StatementClaim (roll-TypedStmt z)) is shown

    rolled-Typed : (x : Typed-F TypedArgument TypedDeclaration TypedDeclarator TypedFull TypedInitializer TypedNode TypedPrinted TypedStmt Typed TypedBlock TypedLambda) (y : Typed-F AnArgument ADeclaration ADeclarator AFull AnInitializer ANode APrinted AStatement ATyped ABlock ALambda) → map-Typed AnArgument ADeclaration ADeclarator AFull AnInitializer ANode APrinted AStatement ATyped ABlock ALambda TypedArgument TypedDeclaration TypedDeclarator TypedFull TypedInitializer TypedNode TypedPrinted TypedStmt Typed TypedBlock TypedLambda (λ e. e.0) (λ e. e.0) (λ e. e.0) (λ e. e.0) (λ e. e.0) (λ e. e.0) (λ e. e.0) (λ e. e.0) (λ e. e.0) (λ e. e.0) (λ e. e.0) y ≡ x → TypedClaim (roll-Typed x)
    rolled-Typed x y is =
        let shown : TypedClaim (roll-Typed (map-Typed AnArgument ADeclaration ADeclarator AFull AnInitializer ANode APrinted AStatement ATyped ABlock ALambda TypedArgument TypedDeclaration TypedDeclarator TypedFull TypedInitializer TypedNode TypedPrinted TypedStmt Typed TypedBlock TypedLambda (λ e. e.0) (λ e. e.0) (λ e. e.0) (λ e. e.0) (λ e. e.0) (λ e. e.0) (λ e. e.0) (λ e. e.0) (λ e. e.0) (λ e. e.0) (λ e. e.0) y)) = subst (λ m. ExpLeads m) (sym (fold-roll-Typed Argument Statement St Statement Initializer Node Printing Statement Exp Block Lambda (argument_step calls limit) (declaration_step calls limit) (declarator_step calls limit) (full_step calls limit) (initializer_step calls limit) (node_step calls limit) (printed_step calls limit) (stmt_step calls limit) (typed_step calls limit) (block_step calls limit) (lambda_step calls limit) (map-Typed AnArgument ADeclaration ADeclarator AFull AnInitializer ANode APrinted AStatement ATyped ABlock ALambda TypedArgument TypedDeclaration TypedDeclarator TypedFull TypedInitializer TypedNode TypedPrinted TypedStmt Typed TypedBlock TypedLambda (λ e. e.0) (λ e. e.0) (λ e. e.0) (λ e. e.0) (λ e. e.0) (λ e. e.0) (λ e. e.0) (λ e. e.0) (λ e. e.0) (λ e. e.0) (λ e. e.0) y))) (typed_shows y) in
        subst (λ z. TypedClaim (roll-Typed z)) is shown

    rolled-TypedBlock : (x : TypedBlock-F TypedArgument TypedDeclaration TypedDeclarator TypedFull TypedInitializer TypedNode TypedPrinted TypedStmt Typed TypedBlock TypedLambda) (y : TypedBlock-F AnArgument ADeclaration ADeclarator AFull AnInitializer ANode APrinted AStatement ATyped ABlock ALambda) → map-TypedBlock AnArgument ADeclaration ADeclarator AFull AnInitializer ANode APrinted AStatement ATyped ABlock ALambda TypedArgument TypedDeclaration TypedDeclarator TypedFull TypedInitializer TypedNode TypedPrinted TypedStmt Typed TypedBlock TypedLambda (λ e. e.0) (λ e. e.0) (λ e. e.0) (λ e. e.0) (λ e. e.0) (λ e. e.0) (λ e. e.0) (λ e. e.0) (λ e. e.0) (λ e. e.0) (λ e. e.0) y ≡ x → BlockClaim (roll-TypedBlock x)
    rolled-TypedBlock x y is =
        let shown : BlockClaim (roll-TypedBlock (map-TypedBlock AnArgument ADeclaration ADeclarator AFull AnInitializer ANode APrinted AStatement ATyped ABlock ALambda TypedArgument TypedDeclaration TypedDeclarator TypedFull TypedInitializer TypedNode TypedPrinted TypedStmt Typed TypedBlock TypedLambda (λ e. e.0) (λ e. e.0) (λ e. e.0) (λ e. e.0) (λ e. e.0) (λ e. e.0) (λ e. e.0) (λ e. e.0) (λ e. e.0) (λ e. e.0) (λ e. e.0) y)) = subst (λ m. StLeads m.run) (sym (fold-roll-TypedBlock Argument Statement St Statement Initializer Node Printing Statement Exp Block Lambda (argument_step calls limit) (declaration_step calls limit) (declarator_step calls limit) (full_step calls limit) (initializer_step calls limit) (node_step calls limit) (printed_step calls limit) (stmt_step calls limit) (typed_step calls limit) (block_step calls limit) (lambda_step calls limit) (map-TypedBlock AnArgument ADeclaration ADeclarator AFull AnInitializer ANode APrinted AStatement ATyped ABlock ALambda TypedArgument TypedDeclaration TypedDeclarator TypedFull TypedInitializer TypedNode TypedPrinted TypedStmt Typed TypedBlock TypedLambda (λ e. e.0) (λ e. e.0) (λ e. e.0) (λ e. e.0) (λ e. e.0) (λ e. e.0) (λ e. e.0) (λ e. e.0) (λ e. e.0) (λ e. e.0) (λ e. e.0) y))) (block_shows y) in
        subst (λ z. BlockClaim (roll-TypedBlock z)) is shown

    rolled-TypedLambda : (x : TypedLambda-F TypedArgument TypedDeclaration TypedDeclarator TypedFull TypedInitializer TypedNode TypedPrinted TypedStmt Typed TypedBlock TypedLambda) (y : TypedLambda-F AnArgument ADeclaration ADeclarator AFull AnInitializer ANode APrinted AStatement ATyped ABlock ALambda) → map-TypedLambda AnArgument ADeclaration ADeclarator AFull AnInitializer ANode APrinted AStatement ATyped ABlock ALambda TypedArgument TypedDeclaration TypedDeclarator TypedFull TypedInitializer TypedNode TypedPrinted TypedStmt Typed TypedBlock TypedLambda (λ e. e.0) (λ e. e.0) (λ e. e.0) (λ e. e.0) (λ e. e.0) (λ e. e.0) (λ e. e.0) (λ e. e.0) (λ e. e.0) (λ e. e.0) (λ e. e.0) y ≡ x → LambdaClaim (roll-TypedLambda x)
    rolled-TypedLambda x y is =
        let shown : LambdaClaim (roll-TypedLambda (map-TypedLambda AnArgument ADeclaration ADeclarator AFull AnInitializer ANode APrinted AStatement ATyped ABlock ALambda TypedArgument TypedDeclaration TypedDeclarator TypedFull TypedInitializer TypedNode TypedPrinted TypedStmt Typed TypedBlock TypedLambda (λ e. e.0) (λ e. e.0) (λ e. e.0) (λ e. e.0) (λ e. e.0) (λ e. e.0) (λ e. e.0) (λ e. e.0) (λ e. e.0) (λ e. e.0) (λ e. e.0) y)) = subst (λ m. StLeads m.body.run) (sym (fold-roll-TypedLambda Argument Statement St Statement Initializer Node Printing Statement Exp Block Lambda (argument_step calls limit) (declaration_step calls limit) (declarator_step calls limit) (full_step calls limit) (initializer_step calls limit) (node_step calls limit) (printed_step calls limit) (stmt_step calls limit) (typed_step calls limit) (block_step calls limit) (lambda_step calls limit) (map-TypedLambda AnArgument ADeclaration ADeclarator AFull AnInitializer ANode APrinted AStatement ATyped ABlock ALambda TypedArgument TypedDeclaration TypedDeclarator TypedFull TypedInitializer TypedNode TypedPrinted TypedStmt Typed TypedBlock TypedLambda (λ e. e.0) (λ e. e.0) (λ e. e.0) (λ e. e.0) (λ e. e.0) (λ e. e.0) (λ e. e.0) (λ e. e.0) (λ e. e.0) (λ e. e.0) (λ e. e.0) y))) (lambda_shows y) in
        subst (λ z. LambdaClaim (roll-TypedLambda z)) is shown

    pub block_leads : (b : TypedBlock) → StLeads (block_of b).run
    block_leads = ind-TypedBlock ArgumentClaim DeclarationClaim DeclaratorClaim FullClaim InitializerClaim NodeClaim PrintedClaim StatementClaim TypedClaim BlockClaim LambdaClaim rolled-TypedArgument rolled-TypedDeclaration rolled-TypedDeclarator rolled-TypedFull rolled-TypedInitializer rolled-TypedNode rolled-TypedPrinted rolled-TypedStmt rolled-Typed rolled-TypedBlock rolled-TypedLambda

    pub typed_leads : (e : Typed) → ExpLeads (typed_of e)
    typed_leads = ind-Typed ArgumentClaim DeclarationClaim DeclaratorClaim FullClaim InitializerClaim NodeClaim PrintedClaim StatementClaim TypedClaim BlockClaim LambdaClaim rolled-TypedArgument rolled-TypedDeclaration rolled-TypedDeclarator rolled-TypedFull rolled-TypedInitializer rolled-TypedNode rolled-TypedPrinted rolled-TypedStmt rolled-Typed rolled-TypedBlock rolled-TypedLambda

    pub statement_leads : (s : TypedStmt) → StLeads (statement_of s).run
    statement_leads = ind-TypedStmt ArgumentClaim DeclarationClaim DeclaratorClaim FullClaim InitializerClaim NodeClaim PrintedClaim StatementClaim TypedClaim BlockClaim LambdaClaim rolled-TypedArgument rolled-TypedDeclaration rolled-TypedDeclarator rolled-TypedFull rolled-TypedInitializer rolled-TypedNode rolled-TypedPrinted rolled-TypedStmt rolled-Typed rolled-TypedBlock rolled-TypedLambda
