use Rattle.std.proofs.Common.{◌∙◌, ap, Some}
use Rattle.sy_check.proofs.CheckLemmas.{broken_first, nothing_broken}
use Rattle.sy_check.proofs.ExpressionLemmas.{refused_as_told}
use Rattle.sy_check.proofs.expressions.type_of.Goals as goal
use Rattle.sy_check.specs.Breaks.{broken_in}

pub returns-in-Ok-default-None-clause-unbroken : goal.returns-in-Ok-default-None-clause-unbroken
returns-in-Ok-default-None-clause-unbroken c =
    let at = c.in-Ok-default-None in
    nothing_broken (broken_in c.args.names c.args.statement c.args.e.now) at.field-0-1 at.ensures.first at.field-0-1-is

pub returns-in-Ok-default-Some-clause-refused : goal.returns-in-Ok-default-Some-clause-refused
returns-in-Ok-default-Some-clause-refused c d h =
    let at = c.in-Ok-default-Some in
    broken_first (broken_in c.args.names c.args.statement c.args.e.now) at.field-0-1 d at.ensures.first
    (at.field-0-1-is ∙ ap (λ x. Some x) (refused_as_told at.d d h))
