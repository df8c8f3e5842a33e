use Rattle.sy_statements.proofs.Wholes.{declarator_told}
use Rattle.sy_statements.proofs.declarations.declarator.Goals as goal

pub returns : goal.returns
returns c =
    declarator_told c.args.names.now c.args.d.is_constant c.args.d.specifier c.args.d.of c.args.first c.args.x.now c.args.given
    c.args.findings.now c.redeclaration.new.findings c.bad_constant.new.findings c.bad_declaration.new.findings c.wrong_initializer.new.findings c.unread_initializer.new.findings
    c.redeclaration.ensures c.bad_constant.ensures c.bad_declaration.ensures c.wrong_initializer.ensures c.unread_initializer.ensures
