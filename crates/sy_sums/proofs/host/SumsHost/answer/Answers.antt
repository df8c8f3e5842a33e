use Rattle.sy_sums.proofs.Hosts.{stands_after}
use Rattle.sy_sums.proofs.host.SumsHost.answer.Goals as goal

pub returns-clause-longer : goal.returns-clause-longer
returns-clause-longer c = λ n at captures answers stands. stands_after n _ _ _ _ answers c.args._a stands c.requires.fits c.saturating_sub-self.ensures
