use Rattle.sy_looks.proofs.LookLemmas.{judged_against}
use Rattle.sy_looks.proofs.settle.judge_foreign.Goals as goal
use Rattle.sy_rules.specs.ExprRules.{faults}

pub returns : goal.returns
returns c = λ x es eo eg eh.
    let w = c.args.w.now in
    judged_against x c.args.node c.args.spot w c.args.seen _ _ _ c.args.foreign es c.typed-tree.ensures
    (c.add.ensures w.place (faults w.names x) eo) c.add_foreign.ensures eg eh
