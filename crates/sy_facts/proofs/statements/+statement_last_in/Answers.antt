use Rattle.std.proofs.Common.{Option, ◌∙◌, ap, sym}
use Rattle.sy_facts.proofs.FormLemmas.{for_last, if_with_else, if_without_else, last_is, statement_Declaration, statement_RangeFor, statement_While}
use Rattle.sy_facts.specs.Parts.{declaration}
use Rattle.sy_meaning.specs.Statements.{Statement}
use Rattle.sy_meaning.specs.Turns.{statement}
use Rattle.sy_typed.specs.declared.tree.TypedStmt.{TypedStmt}
use Rattle.sy_typed.specs.declared.tree.TypedStmt.TheVariants as the_statement
use Rattle.sy_facts.proofs.statements.+statement_last_in.Goals as goal

pub returns-in-Declaration : goal.returns-in-Declaration
returns-in-Declaration t c = λ calls limit.
    c.declaration_last.ensures calls limit ∙ sym (ap (λ x. (statement calls limit x).last) c.in-Declaration.is ∙ ap (λ (x : Statement). x.last) (statement_Declaration calls limit _))

pub returns-in-While : goal.returns-in-While
returns-in-While t c = λ calls limit.
    last_is calls limit c.args.s.now _ c.get-in-While.result.now c.statement_last_in-in-While.result (ap (λ x. (statement calls limit x).last) c.in-While.is ∙ ap (λ (x : Statement). x.last) (statement_While calls limit _ _ _)) c.get-in-While.ensures (c.statement_last_in-in-While.ensures calls limit)

pub returns-in-For : goal.returns-in-For
returns-in-For t c = λ calls limit.
    last_is calls limit c.args.s.now _ c.get-in-For.result.now c.statement_last_in-in-For.result (ap (λ x. (statement calls limit x).last) c.in-For.is ∙ for_last calls limit _ _ _ _ _) c.get-in-For.ensures (c.statement_last_in-in-For.ensures calls limit)

pub returns-in-RangeFor : goal.returns-in-RangeFor
returns-in-RangeFor t c = λ calls limit.
    last_is calls limit c.args.s.now _ c.get-in-RangeFor.result.now c.statement_last_in-in-RangeFor.result (ap (λ x. (statement calls limit x).last) c.in-RangeFor.is ∙ ap (λ (x : Statement). x.last) (statement_RangeFor calls limit _ _ _ _ _)) c.get-in-RangeFor.ensures (c.statement_last_in-in-RangeFor.ensures calls limit)

pub returns-in-Some : goal.returns-in-Some
returns-in-Some t c = λ calls limit.
    last_is calls limit c.args.s.now _ c.get.result.now c.statement_last_in.result
    (ap (λ x. (statement calls limit x).last) (c.in-If.is ∙ ap (λ (b : Option TypedStmt). the_statement.If c.in-If.field-0 c.in-If.field-1 c.in-If.a b) c.in-Some.is) ∙ if_with_else calls limit _ _ _ _)
    c.get.ensures (c.statement_last_in.ensures calls limit)

pub returns-in-None : goal.returns-in-None
returns-in-None t c = λ calls limit.
    last_is calls limit c.args.s.now _ c.get-in-None.result.now c.statement_last_in-in-None.result
    (ap (λ x. (statement calls limit x).last) (c.in-If.is ∙ ap (λ (b : Option TypedStmt). the_statement.If c.in-If.field-0 c.in-If.field-1 c.in-If.a b) c.in-None.is) ∙ if_without_else calls limit _ _ _)
    c.get-in-None.ensures (c.statement_last_in-in-None.ensures calls limit)
