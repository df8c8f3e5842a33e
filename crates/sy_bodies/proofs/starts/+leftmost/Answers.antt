use Rattle.std.proofs.Common.{ap, sym, ◌∙◌}
use Rattle.std.specs.Option.{option_copied}
use Rattle.sy_bodies.proofs.StartLemmas.{starts_here, starts_left}
use Rattle.sy_bodies.proofs.starts.+leftmost.Goals as goal

pub returns-in_ok-start-in-Some : goal.returns-in_ok-start-in-Some
returns-in_ok-start-in-Some t c = starts_left c.args.e.now c.in-Some.part.now c.in_ok-start-in-Some.start (sym c.left_part.ensures ∙ ap option_copied c.in-Some.is) c.in_ok-start-in-Some.ensures

pub returns-in-None : goal.returns-in-None
returns-in-None t c = starts_here c.args.e.now c.own_start.result (sym c.left_part.ensures ∙ ap option_copied c.in-None.is) c.own_start.ensures
