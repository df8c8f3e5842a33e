use Rattle.sy_footlaws.proofs.NumberLemmas.{read-number, store-goes-on}
use Rattle.sy_footlaws.proofs.laws.a_read_sees_the_phases_store.Goals as goal

pub returns : goal.returns
returns c = record { number = read-number; store = store-goes-on }
