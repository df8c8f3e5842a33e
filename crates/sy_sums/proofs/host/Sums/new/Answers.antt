use Rattle.sy_sums.proofs.Hosts.{all_ahead, begins_ahead}
use Rattle.sy_sums.specs.Sums.{statements_of}
use Rattle.sy_sums.proofs.host.Sums.new.Goals as goal

pub returns-clause-begins : goal.returns-clause-begins
returns-clause-begins c = λ next at captures stands. begins_ahead next _ _ _ stands (all_ahead (statements_of c.args.unit.now.items))
