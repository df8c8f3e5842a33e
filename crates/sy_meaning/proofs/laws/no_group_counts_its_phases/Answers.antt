use Rattle.sy_meaning.specs.Next.{item}
use Rattle.sy_meaning.proofs.AskLemmas.{item_by_turns}
use Rattle.sy_meaning.proofs.PhaseLemmas.{group_same}
use Rattle.sy_meaning.proofs.laws.no_group_counts_its_phases.Goals as goal

pub returns : goal.returns
returns c = λ bodies limit body captures n ps inputs h. group_same (item bodies limit body captures) limit n ps inputs (item_by_turns bodies limit body captures) h
