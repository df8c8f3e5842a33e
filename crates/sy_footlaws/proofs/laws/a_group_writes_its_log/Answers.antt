use Rattle.sy_footlaws.specs.Courses.{item_ended, phase_ended}
use Rattle.sy_footlaws.proofs.CourseLemmas.{all-item, all-phase}
use Rattle.sy_footlaws.proofs.GroupLemmas.{log-begins, log-kept, log-reads-on, log-writes-on}
use Rattle.sy_footlaws.proofs.laws.a_group_writes_its_log.Goals as goal

pub returns : goal.returns
returns c = record {
  begins = log-begins;
  read = log-reads-on;
  write = log-writes-on;
  item = λ m f g r start turn. log-kept m f g r (item_ended r) start turn (all-item r);
  phase = λ m f g r start turn. log-kept m f g r (phase_ended r) start turn (all-phase r);
}
