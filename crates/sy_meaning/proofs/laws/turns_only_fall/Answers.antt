use Rattle.sy_meaning.proofs.BodyLemmas.{body_leads, expression_falls, statement_falls}
use Rattle.sy_meaning.proofs.laws.turns_only_fall.Goals as goal

pub returns-clause-body : goal.returns-clause-body
returns-clause-body c = body_leads

pub returns-clause-statement : goal.returns-clause-statement
returns-clause-statement c = statement_falls

pub returns-clause-expression : goal.returns-clause-expression
returns-clause-expression c = expression_falls
