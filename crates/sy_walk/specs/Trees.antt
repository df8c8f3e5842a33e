-- What the other sorts of trees are looked at as.
use Rattle.sy_rules.specs.Walk.{Ar, De, Dr, Ex, Fu, In, Pr, St, Bl, La, argument_step, declaration_step, declarator_step, expr_step, full_step, initializer_step, printed_step, stmt_step, block_step, lambda_step}
use Rattle.sy_tree.specs.declared.tree.Argument.{Argument, fold-Argument}
use Rattle.sy_tree.specs.declared.tree.Lambda.{Lambda, fold-Lambda}

abbrev pub argument : Argument → Ar
argument = fold-Argument Ar De Dr Ex Fu In Pr St Bl La argument_step declaration_step declarator_step expr_step full_step initializer_step printed_step stmt_step block_step lambda_step

abbrev pub lambda : Lambda → La
lambda = fold-Lambda Ar De Dr Ex Fu In Pr St Bl La argument_step declaration_step declarator_step expr_step full_step initializer_step printed_step stmt_step block_step lambda_step
