use Rattle.sy_walk.proofs.ArgumentLemmas.{braced_looked, lambda_looked, value_looked}
use Rattle.sy_walk.proofs.below.Below.one_argument.Goals as goal

pub returns-in_ok-seen-in-Value : goal.returns-in_ok-seen-in-Value
returns-in_ok-seen-in-Value g c = value_looked c.args.taken c.args.role c.args.x.now _ c.args.w.now _ _ c.in-Value.is c.in_ok-seen-in-Value.ensures

pub returns-in_ok-seen-in-Braced : goal.returns-in_ok-seen-in-Braced
returns-in_ok-seen-in-Braced g c = braced_looked c.args.taken c.args.role c.args.x.now _ _ _ _ c.args.w.now _ _ c.in-Braced.is c.as_slice.ensures c.in_ok-seen-in-Braced.ensures

pub returns-in-Lambda : goal.returns-in-Lambda
returns-in-Lambda g c = lambda_looked c.args.taken c.args.role c.args.x.now _ c.args.w.now _ _ c.in-Lambda.is (c.lambda_argument.ensures c.args.taken)
