use Rattle.std.proofs.Common.{◌∙◌, ap}
use Rattle.sy_facts.proofs.FormLemmas.{full_statement_Assignment, full_statement_Plain, told_is}
use Rattle.sy_facts.specs.Parts.{full_statement}
use Rattle.sy_meaning.specs.Statements.{Statement}
use Rattle.sy_typed.specs.declared.tree.TypedFull.{TypedFull}
use Rattle.sy_facts.proofs.statements.full_last.Goals as goal

pub returns-in-Plain : goal.returns-in-Plain
returns-in-Plain c = λ calls limit.
    told_is calls limit c.last_of.result _ _ (ap (λ (x : TypedFull). (full_statement calls limit x).last) c.in-Plain.is ∙ ap (λ (x : Statement). x.last) (full_statement_Plain calls limit _)) (c.last_of.ensures calls limit)

pub returns-in-Assignment : goal.returns-in-Assignment
returns-in-Assignment c = λ calls limit.
    told_is calls limit c.last_of-in-Assignment.result _ _ (ap (λ (x : TypedFull). (full_statement calls limit x).last) c.in-Assignment.is ∙ ap (λ (x : Statement). x.last) (full_statement_Assignment calls limit _ _ _ _)) (c.last_of-in-Assignment.ensures calls limit)
