use Rattle.sy_foot.specs.Footprints.{kept}
use Rattle.sy_footlaws.proofs.StandingLemmas.{read-clash, write-clash}
use Rattle.sy_footlaws.proofs.laws.a_clash_is_with_an_earlier_item.Goals as goal

pub returns : goal.returns
returns c = record {
  read = λ m opening f r d n line stands at. read-clash f (opening d) d line r (kept f n) (stands.cells d n at);
  write = λ m opening f r d n line x stands at. write-clash f (opening d) x d line r (kept f n) (stands.cells d n at);
}
