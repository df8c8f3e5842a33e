-- The lambdas in each part of a tree, and what a walk over a part adds to those that it has found.
use Rattle.std.specs.Prelude.{◌≡◌, ◌++◌, ◌∷◌, List, Option, Result, Ok, Err, flat_map, map, None, Some, []}
use denote.Ref.{Bor}
use Rattle.sy_meaning.specs.Bodies.{Found, in_argument, in_block, in_declaration, in_declarator, in_full_expression, in_initializer, in_lambda, in_node, in_printed, in_statement, in_typed}
use Rattle.sy_typed.specs.declared.tree.Typed.{Typed, para-Typed}
use Rattle.sy_typed.specs.declared.tree.TypedArgument.{TypedArgument, para-TypedArgument}
use Rattle.sy_typed.specs.declared.tree.TypedDeclaration.{TypedDeclaration, para-TypedDeclaration}
use Rattle.sy_typed.specs.declared.tree.TypedDeclarator.{TypedDeclarator, para-TypedDeclarator}
use Rattle.sy_typed.specs.declared.tree.TypedFull.{TypedFull, para-TypedFull}
use Rattle.sy_typed.specs.declared.tree.TypedInitializer.{TypedInitializer, para-TypedInitializer}
use Rattle.sy_typed.specs.declared.tree.TypedLambda.{TypedLambda, para-TypedLambda}
use Rattle.sy_typed.specs.declared.tree.TypedNode.{TypedNode, para-TypedNode}
use Rattle.sy_typed.specs.declared.tree.TypedPrinted.{TypedPrinted, para-TypedPrinted}
use Rattle.sy_typed.specs.declared.tree.TypedStmt.{TypedStmt, para-TypedStmt}

abbrev pub of_argument : TypedArgument → Found
of_argument = para-TypedArgument Found Found Found Found Found Found Found Found Found Found Found in_argument in_declaration in_declarator in_full_expression in_initializer in_node in_printed in_statement in_typed in_block in_lambda

abbrev pub of_declaration : TypedDeclaration → Found
of_declaration = para-TypedDeclaration Found Found Found Found Found Found Found Found Found Found Found in_argument in_declaration in_declarator in_full_expression in_initializer in_node in_printed in_statement in_typed in_block in_lambda

abbrev pub of_declarator : TypedDeclarator → Found
of_declarator = para-TypedDeclarator Found Found Found Found Found Found Found Found Found Found Found in_argument in_declaration in_declarator in_full_expression in_initializer in_node in_printed in_statement in_typed in_block in_lambda

abbrev pub of_full : TypedFull → Found
of_full = para-TypedFull Found Found Found Found Found Found Found Found Found Found Found in_argument in_declaration in_declarator in_full_expression in_initializer in_node in_printed in_statement in_typed in_block in_lambda

abbrev pub of_initializer : TypedInitializer → Found
of_initializer = para-TypedInitializer Found Found Found Found Found Found Found Found Found Found Found in_argument in_declaration in_declarator in_full_expression in_initializer in_node in_printed in_statement in_typed in_block in_lambda

abbrev pub of_node : TypedNode → Found
of_node = para-TypedNode Found Found Found Found Found Found Found Found Found Found Found in_argument in_declaration in_declarator in_full_expression in_initializer in_node in_printed in_statement in_typed in_block in_lambda

abbrev pub of_printed : TypedPrinted → Found
of_printed = para-TypedPrinted Found Found Found Found Found Found Found Found Found Found Found in_argument in_declaration in_declarator in_full_expression in_initializer in_node in_printed in_statement in_typed in_block in_lambda

abbrev pub of_statement : TypedStmt → Found
of_statement = para-TypedStmt Found Found Found Found Found Found Found Found Found Found Found in_argument in_declaration in_declarator in_full_expression in_initializer in_node in_printed in_statement in_typed in_block in_lambda

abbrev pub of_typed : Typed → Found
of_typed = para-Typed Found Found Found Found Found Found Found Found Found Found Found in_argument in_declaration in_declarator in_full_expression in_initializer in_node in_printed in_statement in_typed in_block in_lambda

abbrev pub of_lambda : TypedLambda → Found
of_lambda = para-TypedLambda Found Found Found Found Found Found Found Found Found Found Found in_argument in_declaration in_declarator in_full_expression in_initializer in_node in_printed in_statement in_typed in_block in_lambda

abbrev pub of_all : {X : Type 0} → (X → Found) → List X → Found
of_all f xs = flat_map f xs

abbrev pub of_maybe : {X : Type 0} → (X → Found) → Option X → Found
of_maybe f None = []
of_maybe f (Some x) = f x

-- a lambda and those in it
abbrev pub of_whole : TypedLambda → Found
of_whole l = l ∷ of_lambda l

abbrev pub pointed : List (Bor TypedLambda) → Found
pointed ls = map (λ l. l.now) ls

-- unless memory is wanting, these lambdas stand behind those that were found before
abbrev pub Added : {U Stop : Type 0} → List (Bor TypedLambda) → Result U Stop → List (Bor TypedLambda) → Found → Type 0
Added old (Ok x) new ls = pointed new ≡ pointed old ++ ls
Added old (Err e) new ls = Unit {0}
