use Rattle.sy_reading.specs.Stmts.{direct_arguments}
use Rattle.sy_decls.proofs.declarations.Declarations.direct_arguments.Goals as goal

pub returns-in-Parentheses : goal.returns-in-Parentheses
unfolding direct_arguments
returns-in-Parentheses g c = rw c.in-Parentheses.is c.argument_list.ensures

pub returns-in-Braces : goal.returns-in-Braces
unfolding direct_arguments
returns-in-Braces g c = rw c.in-Braces.is c.arguments.ensures
