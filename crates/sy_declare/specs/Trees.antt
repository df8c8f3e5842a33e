-- What declarations, full expressions, printed items and initializers are looked at as.
use Rattle.std.specs.Prelude.{Option, Some, None}
use Rattle.sy_rules.specs.Walk.{Ar, De, Dr, Ex, Fu, In, Pr, St, Bl, La, argument_step, declaration_step, declarator_step, expr_step, full_step, initializer_step, printed_step, stmt_step, block_step, lambda_step}
use Rattle.sy_tree.specs.declared.tree.Declaration.{Declaration, fold-Declaration}
use Rattle.sy_tree.specs.declared.tree.FullExpression.{FullExpression, fold-FullExpression}
use Rattle.sy_tree.specs.declared.tree.Initializer.{Initializer, fold-Initializer}
use Rattle.sy_tree.specs.declared.tree.Printed.{Printed, fold-Printed}

abbrev pub declaration : Declaration → De
declaration = fold-Declaration Ar De Dr Ex Fu In Pr St Bl La argument_step declaration_step declarator_step expr_step full_step initializer_step printed_step stmt_step block_step lambda_step

abbrev pub full : FullExpression → Fu
full = fold-FullExpression Ar De Dr Ex Fu In Pr St Bl La argument_step declaration_step declarator_step expr_step full_step initializer_step printed_step stmt_step block_step lambda_step

abbrev pub printed : Printed → Pr
printed = fold-Printed Ar De Dr Ex Fu In Pr St Bl La argument_step declaration_step declarator_step expr_step full_step initializer_step printed_step stmt_step block_step lambda_step

abbrev pub initializer_of : Initializer → In
initializer_of = fold-Initializer Ar De Dr Ex Fu In Pr St Bl La argument_step declaration_step declarator_step expr_step full_step initializer_step printed_step stmt_step block_step lambda_step

abbrev pub maybe_initializer : Option Initializer → Option In
maybe_initializer None = None
maybe_initializer (Some i) = Some (initializer_of i)
