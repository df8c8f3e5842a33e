-- What is told rule by rule of a parameter is all that it breaks.
use Rattle.std.proofs.Common.{◌≡◌, ◌++◌, Option}
use Rattle.sy_note.specs.declared.Code.TheVariants as code
use Rattle.sy_note.specs.declared.Diagnostic.{Diagnostic}
use Rattle.sy_tree.specs.declared.parts.LambdaParameter.{LambdaParameter}
use Rattle.sy_rules.specs.declared.names.Names.{Names}
use Rattle.sy_rules.specs.ExprRules.{wide_literal, no_dimension}
use Rattle.sy_rules.specs.Faults.{at}
use Rattle.sy_rules.specs.Lambdas.{in_parameter, lambda_parameter_faults}
use Rattle.sy_rules.specs.StmtRules.{redeclared}
use Rattle.sy_findings.specs.Told.{told}
use Rattle.sy_statements.proofs.Steps.{then_told}

pub parameter_told : (n : Names) (p : LambdaParameter) (f a b c : Option Diagnostic)
    → a ≡ told f (at code.Redeclared (redeclared n p.name))
    → b ≡ told a (at code.BadLiteral (in_parameter wide_literal p.of))
    → c ≡ told b (at code.BadDimension (in_parameter no_dimension p.of))
    → c ≡ told f (lambda_parameter_faults n p)
parameter_told n p f a b c h i j =
    let literals = at code.BadLiteral (in_parameter wide_literal p.of) in
    let dimensions = at code.BadDimension (in_parameter no_dimension p.of) in
    then_told f a c (at code.Redeclared (redeclared n p.name)) (literals ++ dimensions) h (then_told a b c literals dimensions i j)
