use Rattle.sy_bodies.proofs.StartLemmas.{assignment_begins, plain_begins}
use Rattle.sy_bodies.proofs.starts.full_start.Goals as goal

pub returns-in_ok-start-in-Plain : goal.returns-in_ok-start-in-Plain
returns-in_ok-start-in-Plain c = plain_begins c.args.f.now c.in-Plain.a c.in_ok-start-in-Plain.start c.in-Plain.is c.in_ok-start-in-Plain.ensures

pub returns-in_ok-start-in-Assignment : goal.returns-in_ok-start-in-Assignment
returns-in_ok-start-in-Assignment c = assignment_begins c.args.f.now c.in-Assignment.a c.in-Assignment.field-1 c.in-Assignment.field-2 c.in-Assignment.field-3 c.in_ok-start-in-Assignment.start c.in-Assignment.is c.in_ok-start-in-Assignment.ensures
