use Rattle.sy_lambdas.proofs.Wholes.{parameter_told}
use Rattle.sy_lambdas.proofs.parameters.parameter.Goals as goal

pub returns : goal.returns
returns c =
    parameter_told c.args.names.now c.args.p.now c.args.findings.now c.redeclaration.new.findings c.wide_in_parameter.new.findings c.no_dimension_in_parameter.new.findings
    c.redeclaration.ensures c.wide_in_parameter.ensures c.no_dimension_in_parameter.ensures
