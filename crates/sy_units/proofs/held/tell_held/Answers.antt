use Rattle.std.proofs.Common.{◌++◌, false, get_or, ap, subst, ◌∙◌}
use Rattle.std.specs.Prelude.{flat_map}
use Rattle.sy_found.specs.Noted.{Notes}
use Rattle.sy_rules.specs.Units.{called_in}
use Rattle.sy_units.specs.Calls.{within_of, Agrees}
use Rattle.sy_units.proofs.HeldLemmas.{agrees_on}
use Rattle.sy_units.proofs.held.tell_held.Goals as goal

pub returns-clause-marked : goal.returns-clause-marked
returns-clause-marked c = λ is xs e agrees.
    subst (λ b. Agrees c.mark_calls.new.called (flat_map (called_in (within_of c.args.in_kernels) b) xs ++ is)) (agrees c.args.i c.requires)
    (agrees_on c.args.in_kernels (get_or c.args.called.now c.args.i false) c.args.called.now c.mark_calls.new.called c.calls.result.now is xs
    (c.calls.ensures ∙ ap (λ (t : Notes). t.calls) e) c.mark_calls.ensures.len c.mark_calls.ensures.marked agrees)
