-- The bodies of a program, by their numbers: its functions, and then its lambdas in the order of the source.
use Rattle.std.specs.Prelude.{List, None, Option, Some, [], flat_map, map, ◌++◌, ◌∷◌}
use Rattle.sy_num.specs.declared.Kind.{Kind}
use Rattle.sy_typed.specs.declared.tree.Program.{Program as TypedProgram}
use Rattle.sy_typed.specs.declared.tree.Typed.{Typed}
use Rattle.sy_typed.specs.declared.tree.TypedArgument.{TypedArgument}
use Rattle.sy_typed.specs.declared.tree.TypedArgument.TheOpen.{Typed-F, TypedArgument-F, TypedBlock-F, TypedDeclaration-F, TypedDeclarator-F, TypedFull-F, TypedInitializer-F, TypedLambda-F, TypedNode-F, TypedPrinted-F, TypedStmt-F}
use Rattle.sy_typed.specs.declared.tree.TypedBlock.{TypedBlock, para-TypedBlock}
use Rattle.sy_typed.specs.declared.tree.TypedDeclaration.{TypedDeclaration}
use Rattle.sy_typed.specs.declared.tree.TypedDeclarator.{TypedDeclarator}
use Rattle.sy_typed.specs.declared.tree.TypedFull.{TypedFull}
use Rattle.sy_typed.specs.declared.tree.TypedFunction.{TypedFunction}
use Rattle.sy_typed.specs.declared.tree.TypedInitializer.{TypedInitializer}
use Rattle.sy_typed.specs.declared.tree.TypedLambda.{TypedLambda, out-TypedLambda}
use Rattle.sy_typed.specs.declared.tree.TypedNode.{TypedNode}
use Rattle.sy_typed.specs.declared.tree.TypedPrinted.{TypedPrinted}
use Rattle.sy_typed.specs.declared.tree.TypedStmt.{TypedStmt}
use Rattle.sy_typed.specs.declared.tree.Variable.{Variable}
use Rattle.sy_work.specs.Reductions.{step}
use Rattle.sy_meaning.specs.Lambdas.{variable_of}

-- ---- the lambdas in a part of a tree, the outer before the inner

abbrev pub Found : Type 0
Found = List TypedLambda

-- a part with the lambdas in it
abbrev pub With : Type 0 → Type 0
With X = X × Found

abbrev pub found : {X : Type 0} → With X → Found
found x = x.1

abbrev pub found_all : {X : Type 0} → List (With X) → Found
found_all xs = flat_map found xs

abbrev pub found_maybe : {X : Type 0} → Option (With X) → Found
found_maybe None = []
found_maybe (Some x) = x.1

abbrev pub itself : With TypedLambda → Found
itself l = l.0 ∷ l.1

abbrev pub in_call : TypedNode-F (With TypedArgument) (With TypedDeclaration) (With TypedDeclarator) (With TypedFull) (With TypedInitializer) (With TypedNode) (With TypedPrinted) (With TypedStmt) (With Typed) (With TypedBlock) (With TypedLambda) → Found
in_call (TypedNode-F.Call f es last) = found_all es
in_call (TypedNode-F.Construct xs last) = found_all xs
in_call (TypedNode-F.GroupBarrier a last) = found a
in_call (TypedNode-F.LibraryCall f xs last) = found_all xs
in_call (TypedNode-F.Subscript a i last) = found a ++ found i
in_call (TypedNode-F.MemberCall a m xs last) = found a ++ found_all xs
in_call n = []

abbrev pub in_node : TypedNode-F (With TypedArgument) (With TypedDeclaration) (With TypedDeclarator) (With TypedFull) (With TypedInitializer) (With TypedNode) (With TypedPrinted) (With TypedStmt) (With Typed) (With TypedBlock) (With TypedLambda) → Found
in_node (TypedNode-F.Parenthesized a last) = found a
in_node (TypedNode-F.StaticCast a last) = found a
in_node (TypedNode-F.FunctionalCast a last) = found a
in_node (TypedNode-F.Postfix a step) = found a
in_node (TypedNode-F.Prefix step a) = found a
in_node (TypedNode-F.Unary op a) = found a
in_node (TypedNode-F.Cast a) = found a
in_node (TypedNode-F.Binary a op b) = found a ++ found b
in_node (TypedNode-F.Conditional c a b) = found c ++ (found a ++ found b)
in_node n = in_call n

abbrev pub in_typed : Typed-F (With TypedArgument) (With TypedDeclaration) (With TypedDeclarator) (With TypedFull) (With TypedInitializer) (With TypedNode) (With TypedPrinted) (With TypedStmt) (With Typed) (With TypedBlock) (With TypedLambda) → Found
in_typed x = found x.node

abbrev pub in_argument : TypedArgument-F (With TypedArgument) (With TypedDeclaration) (With TypedDeclarator) (With TypedFull) (With TypedInitializer) (With TypedNode) (With TypedPrinted) (With TypedStmt) (With Typed) (With TypedBlock) (With TypedLambda) → Found
in_argument (TypedArgument-F.Value e) = found e
in_argument (TypedArgument-F.Braced es last) = found_all es
in_argument (TypedArgument-F.Lambda l) = itself l

abbrev pub in_lambda : TypedLambda-F (With TypedArgument) (With TypedDeclaration) (With TypedDeclarator) (With TypedFull) (With TypedInitializer) (With TypedNode) (With TypedPrinted) (With TypedStmt) (With Typed) (With TypedBlock) (With TypedLambda) → Found
in_lambda l = found l.body

abbrev pub in_block : TypedBlock-F (With TypedArgument) (With TypedDeclaration) (With TypedDeclarator) (With TypedFull) (With TypedInitializer) (With TypedNode) (With TypedPrinted) (With TypedStmt) (With Typed) (With TypedBlock) (With TypedLambda) → Found
in_block b = found_all b.statements

abbrev pub in_full_expression : TypedFull-F (With TypedArgument) (With TypedDeclaration) (With TypedDeclarator) (With TypedFull) (With TypedInitializer) (With TypedNode) (With TypedPrinted) (With TypedStmt) (With Typed) (With TypedBlock) (With TypedLambda) → Found
in_full_expression (TypedFull-F.Plain e) = found e
in_full_expression (TypedFull-F.Assignment a s op b) = found a ++ found b

abbrev pub in_declarator : TypedDeclarator-F (With TypedArgument) (With TypedDeclaration) (With TypedDeclarator) (With TypedFull) (With TypedInitializer) (With TypedNode) (With TypedPrinted) (With TypedStmt) (With Typed) (With TypedBlock) (With TypedLambda) → Found
in_declarator (TypedDeclarator-F.Uninitialized x) = []
in_declarator (TypedDeclarator-F.Equal x e) = found e
in_declarator (TypedDeclarator-F.Bracketed x e close) = found e

abbrev pub in_initializer : TypedInitializer-F (With TypedArgument) (With TypedDeclaration) (With TypedDeclarator) (With TypedFull) (With TypedInitializer) (With TypedNode) (With TypedPrinted) (With TypedStmt) (With Typed) (With TypedBlock) (With TypedLambda) → Found
in_initializer (TypedInitializer-F.Copy e) = found e
in_initializer (TypedInitializer-F.Direct b xs close) = found_all xs

abbrev pub in_declaration : TypedDeclaration-F (With TypedArgument) (With TypedDeclaration) (With TypedDeclarator) (With TypedFull) (With TypedInitializer) (With TypedNode) (With TypedPrinted) (With TypedStmt) (With Typed) (With TypedBlock) (With TypedLambda) → Found
in_declaration (TypedDeclaration-F.Values ds s) = found_all ds
in_declaration (TypedDeclaration-F.Vector x i s) = found_maybe i
in_declaration (TypedDeclaration-F.DeviceVector x i s) = found_maybe i
in_declaration (TypedDeclaration-F.ThreadVector x s) = []
in_declaration (TypedDeclaration-F.Thread x l s) = itself l
in_declaration (TypedDeclaration-F.Object x i s) = found_maybe i

abbrev pub in_printed : TypedPrinted-F (With TypedArgument) (With TypedDeclaration) (With TypedDeclarator) (With TypedFull) (With TypedInitializer) (With TypedNode) (With TypedPrinted) (With TypedStmt) (With Typed) (With TypedBlock) (With TypedLambda) → Found
in_printed (TypedPrinted-F.Operand s e) = found e
in_printed p = []

abbrev pub in_statement : TypedStmt-F (With TypedArgument) (With TypedDeclaration) (With TypedDeclarator) (With TypedFull) (With TypedInitializer) (With TypedNode) (With TypedPrinted) (With TypedStmt) (With Typed) (With TypedBlock) (With TypedLambda) → Found
in_statement (TypedStmt-F.Compound b) = found b
in_statement (TypedStmt-F.Declaration d) = found d
in_statement (TypedStmt-F.Expression f s) = found f
in_statement (TypedStmt-F.Print ps s) = found_all ps
in_statement (TypedStmt-F.Return s e last) = found_maybe e
in_statement (TypedStmt-F.If s c a b) = found c ++ (found a ++ found_maybe b)
in_statement (TypedStmt-F.While s c b) = found c ++ found b
in_statement (TypedStmt-F.Do s b c last) = found b ++ found c
in_statement (TypedStmt-F.For s head c step b) = found head ++ (found_maybe c ++ (found_maybe step ++ found b))
in_statement (TypedStmt-F.RangeFor s x by_reference v b) = found b
in_statement (TypedStmt-F.Try s b x h) = found b ++ found h
in_statement s = []

abbrev pub lambdas_in : TypedBlock → Found
lambdas_in =
    para-TypedBlock Found Found Found Found Found Found Found Found Found Found Found in_argument in_declaration in_declarator in_full_expression in_initializer in_node in_printed in_statement in_typed in_block in_lambda

-- ---- bodies

-- the declarations whose objects the body is given, those of a work item, what it returns, and its block
pub record Body : Type 0 where
  pub captures : List Variable
  pub parameters : List Variable
  pub returned : Option Kind
  pub block : TypedBlock

abbrev pub function_body : TypedFunction → Body
function_body f = record { captures = f.parameters; parameters = []; returned = f.returned; block = f.body }

abbrev pub lambda_body : TypedLambda → Body
lambda_body l =
    let t = out-TypedLambda l in
    record { captures = map variable_of t.captures; parameters = t.parameters; returned = None; block = t.body }

abbrev pub lambdas_of : TypedProgram → Found
lambdas_of p = flat_map (λ f. lambdas_in f.body) p.functions

-- a body's number is its index here
abbrev pub bodies_of : TypedProgram → List Body
bodies_of p = map function_body p.functions ++ map lambda_body (lambdas_of p)
