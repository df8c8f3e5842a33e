use Rattle.std.proofs.Common.{ap, sym, ◌∙◌}
use Rattle.sy_findings.specs.Told.{told}
use Rattle.sy_rules.specs.Units.{held_if}
use Rattle.sy_units.specs.Calls.{within_of}
use Rattle.sy_units.proofs.HeldLemmas.{nothing_held, one_held}
use Rattle.sy_units.proofs.held.tell_if_called.Goals as goal

pub returns-in-None : goal.returns-in-None
returns-in-None c = λ xs e.
    nothing_held c.args.in_kernels c.args.findings.now c.args.f.now xs c.in-None.ensures e
    ∙ ap (λ b. told c.args.findings.now (held_if b (within_of c.args.in_kernels) xs)) (sym c.if-not-is_called.false)

pub returns-in-Some : goal.returns-in-Some
returns-in-Some c = λ xs e.
    c.tell.ensures
    ∙ one_held c.args.in_kernels c.args.findings.now c.in-Some.d c.args.f.now xs c.in-Some.ensures e
    ∙ ap (λ b. told c.args.findings.now (held_if b (within_of c.args.in_kernels) xs)) (sym c.if-not-is_called.false)
