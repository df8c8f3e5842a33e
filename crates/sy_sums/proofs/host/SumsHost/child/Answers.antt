use Rattle.sy_sums.proofs.Hosts.{starts_none}
use Rattle.sy_sums.proofs.host.SumsHost.child.Goals as goal

pub returns-clause-begins : goal.returns-clause-begins
returns-clause-begins c = λ n parent captures answers stands. starts_none _ _ _ _ stands.last c.requires
