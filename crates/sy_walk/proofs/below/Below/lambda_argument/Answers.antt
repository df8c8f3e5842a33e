use Rattle.sy_walk.proofs.ArgumentLemmas.{taken_looked, untaken_looked}
use Rattle.sy_walk.proofs.below.Below.lambda_argument.Goals as goal
use Rattle.sy_walk.specs.Trees.{lambda}

pub returns-in-None : goal.returns-in-None
returns-in-None g c = λ k. untaken_looked k c.args.role (lambda c.args.l.now) c.args.w.now c.untaken.result c.in-None.is c.untaken.ensures

pub returns-in_ok-seen-in-Some : goal.returns-in_ok-seen-in-Some
returns-in_ok-seen-in-Some g c = λ k. taken_looked k c.args.role _ (lambda c.args.l.now) c.args.w.now _ _ c.in-Some.is c.in_ok-seen-in-Some.ensures
