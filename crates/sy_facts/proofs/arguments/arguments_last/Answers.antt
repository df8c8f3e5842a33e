use Rattle.std.proofs.Common.{◌∙◌}
use Rattle.sy_facts.proofs.FormLemmas.{last_ends, last_next}
use Rattle.sy_facts.specs.Parts.{argument}
use Rattle.sy_facts.proofs.arguments.arguments_last.Goals as goal

pub loop-x-preserved : goal.loop-x-preserved
loop-x-preserved c = λ calls limit.
    last_next (argument calls limit) c.args.xs.now c.loop-x.x-index c.x-item.result c.loop-x.last c.in_ok-last.last c.loop-x-test.true c.x-item.is (c.in_ok-last.ensures calls limit)
    ∙ c.loop-x.invariant calls limit

pub returns : goal.returns
returns c = λ calls limit.
    last_ends (argument calls limit) c.args.xs.now c.loop-x.x-index c.loop-x.last c.loop-x-test.false ∙ c.loop-x.invariant calls limit
