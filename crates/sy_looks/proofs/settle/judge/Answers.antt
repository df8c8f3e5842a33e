use Rattle.sy_looks.proofs.LookLemmas.{judged_plainly}
use Rattle.sy_looks.proofs.settle.judge.Goals as goal
use Rattle.sy_rules.specs.ExprRules.{faults}

pub returns : goal.returns
returns c = λ x es eo eg eh.
    let w = c.args.w.now in
    judged_plainly x c.args.node c.args.spot w c.args.seen _ _ es c.typed-tree.ensures (c.add.ensures w.place (faults w.names x) eo) eg eh
