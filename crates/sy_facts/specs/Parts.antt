-- What the other sorts of parts of a typed tree mean.
use Rattle.std.specs.Prelude.{ℕ}
use Rattle.sy_meaning.specs.Expressions.{Argument, Block, Calls, Exp, Lambda}
use Rattle.sy_meaning.specs.Meaning.{Node, argument_step, block_step, declaration_step, declarator_step, full_step, initializer_step, lambda_step, node_step, printed_step, stmt_step, typed_step}
use Rattle.sy_meaning.specs.Outcomes.{St}
use Rattle.sy_meaning.specs.Statements.{Initializer, Printing, Statement}
use Rattle.sy_typed.specs.declared.tree.TypedArgument.{TypedArgument, fold-TypedArgument}
use Rattle.sy_typed.specs.declared.tree.TypedDeclaration.{TypedDeclaration, fold-TypedDeclaration}
use Rattle.sy_typed.specs.declared.tree.TypedFull.{TypedFull, fold-TypedFull}
use Rattle.sy_typed.specs.declared.tree.TypedLambda.{TypedLambda, fold-TypedLambda}
use Rattle.sy_typed.specs.declared.tree.TypedNode.{TypedNode, fold-TypedNode}
use Rattle.sy_typed.specs.declared.tree.TypedPrinted.{TypedPrinted, fold-TypedPrinted}

module _ (calls : Calls) (limit : ℕ) where
  abbrev pub node : TypedNode → Node
  node =
      fold-TypedNode Argument Statement St Statement Initializer Node Printing Statement Exp Block Lambda (argument_step calls limit) (declaration_step calls limit) (declarator_step calls limit) (full_step calls limit) (initializer_step calls limit) (node_step calls limit) (printed_step calls limit) (stmt_step calls limit) (typed_step calls limit) (block_step calls limit) (lambda_step calls limit)

  abbrev pub argument : TypedArgument → Argument
  argument =
      fold-TypedArgument Argument Statement St Statement Initializer Node Printing Statement Exp Block Lambda (argument_step calls limit) (declaration_step calls limit) (declarator_step calls limit) (full_step calls limit) (initializer_step calls limit) (node_step calls limit) (printed_step calls limit) (stmt_step calls limit) (typed_step calls limit) (block_step calls limit) (lambda_step calls limit)

  abbrev pub lambda : TypedLambda → Lambda
  lambda =
      fold-TypedLambda Argument Statement St Statement Initializer Node Printing Statement Exp Block Lambda (argument_step calls limit) (declaration_step calls limit) (declarator_step calls limit) (full_step calls limit) (initializer_step calls limit) (node_step calls limit) (printed_step calls limit) (stmt_step calls limit) (typed_step calls limit) (block_step calls limit) (lambda_step calls limit)

  abbrev pub full_statement : TypedFull → Statement
  full_statement =
      fold-TypedFull Argument Statement St Statement Initializer Node Printing Statement Exp Block Lambda (argument_step calls limit) (declaration_step calls limit) (declarator_step calls limit) (full_step calls limit) (initializer_step calls limit) (node_step calls limit) (printed_step calls limit) (stmt_step calls limit) (typed_step calls limit) (block_step calls limit) (lambda_step calls limit)

  abbrev pub declaration : TypedDeclaration → Statement
  declaration =
      fold-TypedDeclaration Argument Statement St Statement Initializer Node Printing Statement Exp Block Lambda (argument_step calls limit) (declaration_step calls limit) (declarator_step calls limit) (full_step calls limit) (initializer_step calls limit) (node_step calls limit) (printed_step calls limit) (stmt_step calls limit) (typed_step calls limit) (block_step calls limit) (lambda_step calls limit)

  abbrev pub printing : TypedPrinted → Printing
  printing =
      fold-TypedPrinted Argument Statement St Statement Initializer Node Printing Statement Exp Block Lambda (argument_step calls limit) (declaration_step calls limit) (declarator_step calls limit) (full_step calls limit) (initializer_step calls limit) (node_step calls limit) (printed_step calls limit) (stmt_step calls limit) (typed_step calls limit) (block_step calls limit) (lambda_step calls limit)
