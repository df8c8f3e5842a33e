-- Whole programs, computed: a tree is evaluated as its forms are.
use Rattle.std.proofs.Common.{refl}
use Rattle.std.specs.Prelude.{map, slice_get, ◌++◌, List, None, Some, [], pos, ℕ, ℤ, ◌∷◌, ◌≡◌}
use Rattle.sy_num.specs.Scalars as scalars
use Rattle.sy_num.specs.declared.Kind.TheVariants as kinds
use Rattle.sy_note.specs.declared.Spot.{Spot}
use Rattle.sy_typed.specs.declared.things.Thing.{Thing}
use Rattle.sy_typed.specs.declared.things.Thing.TheVariants as thing
use Rattle.sy_typed.specs.declared.tree.Program.{Program as TypedProgram}
use Rattle.sy_typed.specs.declared.tree.Typed.{Typed, fold-roll-Typed, roll-Typed}
use Rattle.sy_typed.specs.declared.tree.TypedArgument.{TypedArgument, fold-roll-TypedArgument}
use Rattle.sy_typed.specs.declared.tree.TypedArgument.TheOpen.{TypedDeclaration-F, TypedNode-F, TypedStmt-F}
use Rattle.sy_typed.specs.declared.tree.TypedBlock.{para-roll-TypedBlock, TypedBlock, fold-roll-TypedBlock, roll-TypedBlock}
use Rattle.sy_typed.specs.declared.tree.TypedDeclaration.{para-roll-TypedDeclaration, TypedDeclaration, fold-roll-TypedDeclaration, roll-TypedDeclaration}
use Rattle.sy_typed.specs.declared.tree.TypedDeclarator.{TypedDeclarator, fold-roll-TypedDeclarator}
use Rattle.sy_typed.specs.declared.tree.TypedFull.{TypedFull, fold-roll-TypedFull}
use Rattle.sy_typed.specs.declared.tree.TypedFunction.{TypedFunction}
use Rattle.sy_typed.specs.declared.tree.TypedInitializer.{TypedInitializer, fold-roll-TypedInitializer}
use Rattle.sy_typed.specs.declared.tree.TypedLambda.{para-roll-TypedLambda, TypedLambda, fold-roll-TypedLambda, roll-TypedLambda}
use Rattle.sy_typed.specs.declared.tree.TypedNode.{TypedNode, fold-TypedNode, fold-roll-TypedNode, roll-TypedNode}
use Rattle.sy_typed.specs.declared.tree.TypedPrinted.{TypedPrinted, fold-roll-TypedPrinted}
use Rattle.sy_typed.specs.declared.tree.TypedStmt.{para-roll-TypedStmt, TypedStmt, fold-roll-TypedStmt, roll-TypedStmt}
use Rattle.sy_typed.specs.declared.tree.Variable.{Variable}
use Rattle.sy_work.specs.declared.asks.Ask.{Ask}
use Rattle.sy_work.specs.declared.asks.Ask.TheVariants as asks
use Rattle.sy_meaning.specs.Outcomes.{St}
use Rattle.sy_meaning.specs.Expressions.{Argument, Block, Calls, Exp, Lambda}
use Rattle.sy_meaning.specs.Statements.{Initializer, Printing, Statement}
use Rattle.sy_meaning.specs.Meaning.{Node, argument_step, block, block_step, declaration_step, declarator_step, full_step, initializer_step, lambda_step, node_step, printed_step, stmt_step, typed_step}
use Rattle.sy_meaning.specs.Bodies.{Body, function_body, lambda_body, bodies_of, lambdas_in}
use Rattle.sy_meaning.specs.Next.{next_in, ask_of, calls_of, start}
use Rattle.sy_meaning.specs.Programs.{program_of}
use Rattle.std.proofs.Common.{ap, ◌∙◌}

abbrev Nodes : Type 0
Nodes = TypedNode-F TypedArgument TypedDeclaration TypedDeclarator TypedFull TypedInitializer TypedNode TypedPrinted TypedStmt Typed TypedBlock TypedLambda

abbrev Stmts : Type 0
Stmts = TypedStmt-F TypedArgument TypedDeclaration TypedDeclarator TypedFull TypedInitializer TypedNode TypedPrinted TypedStmt Typed TypedBlock TypedLambda

abbrev at : ℕ → Spot
at l = record { line = l; column = 1 }

abbrev typed : Nodes → Thing → ℕ → Typed
typed n t l = roll-Typed (record { node = roll-TypedNode n; what = t; spot = at l })

abbrev statement : Stmts → TypedStmt
statement s = roll-TypedStmt s

abbrev in_braces : List TypedStmt → ℕ → TypedBlock
in_braces ss l = roll-TypedBlock (record { statements = ss; close = at l })

abbrev integer : Thing
integer = thing.Integer kinds.Int

abbrev literal_at : ℤ → ℕ → Typed
literal_at z l = typed (TypedNode-F.Integer z) integer l

abbrev function : List Variable → TypedBlock → TypedFunction
function xs y = record { spot = at 1; returned = Some kinds.Int; parameters = xs; body = y }

abbrev program : List TypedFunction → ℕ → TypedProgram
program fs main = record { constants = []; functions = fs; main = main }

abbrev asks_first : TypedProgram → Ask
asks_first p = (program_of p 99).next (program_of p 99).main [] []

ruleset folds = (fold-roll-TypedArgument, fold-roll-TypedBlock, fold-roll-TypedDeclaration, fold-roll-TypedDeclarator, fold-roll-TypedFull, fold-roll-TypedInitializer, fold-roll-Typed, fold-roll-TypedNode, fold-roll-TypedPrinted, fold-roll-TypedStmt, fold-roll-TypedLambda)

-- the calls of a program with so many levels left
abbrev calls_in : TypedProgram → ℕ → Calls
calls_in p n = calls_of (bodies_of p) 99 n

-- main is the first function
abbrev of_main : TypedBlock → List TypedFunction → TypedProgram
of_main b fs = program (function [] b ∷ fs) 0

main_by : (b : TypedBlock) (fs : List TypedFunction) (y : Block) → block (calls_in (of_main b fs) 99) 99 b ≡ y → asks_first (of_main b fs) ≡ ask_of (Some kinds.Int) (y.run (start 99 []))
main_by b fs y h = ap (λ (z : Block). ask_of (Some kinds.Int) (z.run (start 99 []))) h

-- int main() { return 300; }
abbrev returns_300 : TypedBlock
returns_300 = in_braces (statement (TypedStmt-F.Return (at 1) (Some (literal_at (pos 300) 1)) (at 1)) ∷ []) 1

abbrev returns_300_by : Calls → Block
returns_300_by calls =
    block_step calls 99 (record { statements = stmt_step calls 99 (TypedStmt-F.Return (at 1) (Some (typed_step calls 99 (record { node = node_step calls 99 (TypedNode-F.Integer (pos 300)); what = integer; spot = at 1 }))) (at 1)) ∷ []; close = at 1 })

-- what a node means in a program with these calls
abbrev node_meaning : Calls → TypedNode → Node
node_meaning calls = fold-TypedNode Argument Statement St Statement Initializer Node Printing Statement Exp Block Lambda (argument_step calls 99) (declaration_step calls 99) (declarator_step calls 99) (full_step calls 99) (initializer_step calls 99) (node_step calls 99) (printed_step calls 99) (stmt_step calls 99) (typed_step calls 99) (block_step calls 99) (lambda_step calls 99)

integer_meaning : (calls : Calls) (z : ℤ) (t : Thing) (s : Spot) → node_meaning calls (roll-TypedNode (TypedNode-F.Integer z)) t s ≡ node_step calls 99 (TypedNode-F.Integer z) t s
integer_meaning calls z t s = ap (λ (m : Node). m t s) (fold-roll-TypedNode Argument Statement St Statement Initializer Node Printing Statement Exp Block Lambda (argument_step calls 99) (declaration_step calls 99) (declarator_step calls 99) (full_step calls 99) (initializer_step calls 99) (node_step calls 99) (printed_step calls 99) (stmt_step calls 99) (typed_step calls 99) (block_step calls 99) (lambda_step calls 99) (TypedNode-F.Integer z))

returns_300_is : (calls : Calls) → block calls 99 returns_300 ≡ returns_300_by calls
returns_300_is calls = simp (folds, integer_meaning) refl

main_returns : asks_first (of_main returns_300 []) ≡ asks.Finish (pos 300)
unfolding scalars.converted_num scalars.reduced
main_returns = main_by returns_300 [] (returns_300_by (calls_in (of_main returns_300 []) 99)) (returns_300_is (calls_in (of_main returns_300 []) 99)) ∙ refl

-- int main() { std::thread t([] { return; }); }
abbrev thread_lambda : TypedLambda
thread_lambda =
    roll-TypedLambda (record { spot = at 2; number = 1; captures = []; parameters = []; body = in_braces (statement (TypedStmt-F.Return (at 2) None (at 2)) ∷ []) 2 })

abbrev starts_thread : TypedBlock
starts_thread =
    in_braces (statement (TypedStmt-F.Declaration (roll-TypedDeclaration (TypedDeclaration-F.Thread (record { number = 0; what = thing.Thread; spot = at 2 }) thread_lambda (at 2)))) ∷ []) 3

abbrev return_at : Calls → Block
return_at calls =
    block_step calls 99 (record { statements = stmt_step calls 99 (TypedStmt-F.Return (at 2) None (at 2)) ∷ []; close = at 2 })

abbrev starts_thread_by : Calls → Block
starts_thread_by calls =
    let l = lambda_step calls 99 (record { spot = at 2; number = 1; captures = []; parameters = []; body = return_at calls }) in
    block_step calls 99 (record { statements = stmt_step calls 99 (TypedStmt-F.Declaration (declaration_step calls 99 (TypedDeclaration-F.Thread (record { number = 0; what = thing.Thread; spot = at 2 }) l (at 2)))) ∷ []; close = at 3 })

starts_thread_is : (calls : Calls) → block calls 99 starts_thread ≡ starts_thread_by calls
starts_thread_is calls = simp folds refl

main_spawns : asks_first (of_main starts_thread []) ≡ asks.Spawn 1 []
main_spawns = main_by starts_thread [] (starts_thread_by (calls_in (of_main starts_thread []) 99)) (starts_thread_is (calls_in (of_main starts_thread []) 99)) ∙ refl

ruleset walks = (para-roll-TypedBlock, para-roll-TypedStmt, para-roll-TypedDeclaration, para-roll-TypedLambda)

one_lambda : lambdas_in starts_thread ≡ thread_lambda ∷ []
one_lambda = simp walks refl

-- what the body asks that is the program's only lambda
thread_by : (b : TypedBlock) (l : TypedLambda) (m : Body) → lambdas_in b ≡ l ∷ [] → lambda_body l ≡ m → (program_of (of_main b []) 99).next 1 [] [] ≡ next_in (bodies_of (of_main b [])) 99 (Some m) [] []
thread_by b l m h k =
    ap (λ (ls : List TypedLambda). next_in (bodies_of (of_main b [])) 99 (slice_get (function_body (function [] b) ∷ map lambda_body (ls ++ [])) 1) [] []) h ∙ ap (λ (x : Body). next_in (bodies_of (of_main b [])) 99 (Some x) [] []) k

abbrev thread_body : Body
thread_body =
    record { captures = []; parameters = []; returned = None; block = in_braces (statement (TypedStmt-F.Return (at 2) None (at 2)) ∷ []) 2 }

thread_body_is : lambda_body thread_lambda ≡ thread_body
thread_body_is = refl

return_is : (calls : Calls) → block calls 99 (in_braces (statement (TypedStmt-F.Return (at 2) None (at 2)) ∷ []) 2) ≡ return_at calls
return_is calls = simp folds refl

thread_finishes : (program_of (of_main starts_thread []) 99).next 1 [] [] ≡ asks.Finish (pos 0)
thread_finishes =
    thread_by starts_thread thread_lambda thread_body one_lambda thread_body_is ∙ ap (λ (y : Block). ask_of None (y.run (start 99 []))) (return_is (calls_in (of_main starts_thread []) 99))
