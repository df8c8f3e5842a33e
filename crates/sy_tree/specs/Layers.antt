-- One level of each sort of tree, as `out-` opens it.
use Rattle.sy_tree.specs.declared.tree.Argument.{Argument}
use Rattle.sy_tree.specs.declared.tree.Block.{Block}
use Rattle.sy_tree.specs.declared.tree.Declaration.{Declaration}
use Rattle.sy_tree.specs.declared.tree.Declarator.{Declarator}
use Rattle.sy_tree.specs.declared.tree.Expr.{Expr}
use Rattle.sy_tree.specs.declared.tree.FullExpression.{FullExpression}
use Rattle.sy_tree.specs.declared.tree.Initializer.{Initializer}
use Rattle.sy_tree.specs.declared.tree.Lambda.{Lambda}
use Rattle.sy_tree.specs.declared.tree.Printed.{Printed}
use Rattle.sy_tree.specs.declared.tree.Stmt.{Stmt}
use Rattle.sy_tree.specs.declared.tree.Argument.TheOpen.{Argument-F, Block-F, Declaration-F, Declarator-F, Expr-F, FullExpression-F, Initializer-F, Lambda-F, Printed-F, Stmt-F}

abbrev pub ArgumentLayer : Type 0
ArgumentLayer = Argument-F Argument Declaration Declarator Expr FullExpression Initializer Printed Stmt Block Lambda

abbrev pub BlockLayer : Type 0
BlockLayer = Block-F Argument Declaration Declarator Expr FullExpression Initializer Printed Stmt Block Lambda

abbrev pub DeclarationLayer : Type 0
DeclarationLayer = Declaration-F Argument Declaration Declarator Expr FullExpression Initializer Printed Stmt Block Lambda

abbrev pub DeclaratorLayer : Type 0
DeclaratorLayer = Declarator-F Argument Declaration Declarator Expr FullExpression Initializer Printed Stmt Block Lambda

abbrev pub ExprLayer : Type 0
ExprLayer = Expr-F Argument Declaration Declarator Expr FullExpression Initializer Printed Stmt Block Lambda

abbrev pub FullExpressionLayer : Type 0
FullExpressionLayer = FullExpression-F Argument Declaration Declarator Expr FullExpression Initializer Printed Stmt Block Lambda

abbrev pub InitializerLayer : Type 0
InitializerLayer = Initializer-F Argument Declaration Declarator Expr FullExpression Initializer Printed Stmt Block Lambda

abbrev pub LambdaLayer : Type 0
LambdaLayer = Lambda-F Argument Declaration Declarator Expr FullExpression Initializer Printed Stmt Block Lambda

abbrev pub PrintedLayer : Type 0
PrintedLayer = Printed-F Argument Declaration Declarator Expr FullExpression Initializer Printed Stmt Block Lambda

abbrev pub StmtLayer : Type 0
StmtLayer = Stmt-F Argument Declaration Declarator Expr FullExpression Initializer Printed Stmt Block Lambda
