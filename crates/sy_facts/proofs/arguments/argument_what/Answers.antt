use Rattle.std.proofs.Common.{◌∙◌, ap}
use Rattle.sy_facts.proofs.FormLemmas.{argument_Value, told_is}
use Rattle.sy_facts.specs.Parts.{argument}
use Rattle.sy_meaning.specs.Statements.{argument_what}
use Rattle.sy_typed.specs.declared.tree.TypedArgument.{TypedArgument}
use Rattle.sy_facts.proofs.arguments.argument_what.Goals as goal

pub returns-in-Value : goal.returns-in-Value
returns-in-Value c = λ calls limit.
    told_is calls limit c.what_of.result _ _ (ap (λ (x : TypedArgument). argument_what (argument calls limit x)) c.in-Value.is ∙ ap argument_what (argument_Value calls limit _)) (c.what_of.ensures calls limit)
