use Rattle.std.proofs.Common.{◌∙◌, ap}
use Rattle.sy_facts.proofs.FormLemmas.{argument_Value, told_is}
use Rattle.sy_facts.specs.Parts.{argument}
use Rattle.sy_meaning.specs.Statements.{argument_last}
use Rattle.sy_typed.specs.declared.tree.TypedArgument.{TypedArgument}
use Rattle.sy_facts.proofs.arguments.argument_last.Goals as goal

pub returns-in-Value : goal.returns-in-Value
returns-in-Value c = λ calls limit.
    told_is calls limit c.last_of.result _ _ (ap (λ (x : TypedArgument). argument_last (argument calls limit x)) c.in-Value.is ∙ ap argument_last (argument_Value calls limit _)) (c.last_of.ensures calls limit)
