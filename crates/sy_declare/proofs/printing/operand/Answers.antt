use Rattle.std.proofs.Common.{ap, ◌∙◌}
use Rattle.sy_declare.proofs.DeclareLemmas.{operand_printed}
use Rattle.sy_declare.proofs.printing.operand.Goals as goal
use Rattle.sy_findings.specs.Told.{told}
use Rattle.sy_rules.specs.Walk.{expr, printed_faults}

pub returns : goal.returns
returns g c =
    let m = c.part.new.w in
    let x = c.in_ok-seen in
    let ds = printed_faults x.seen in
    operand_printed c.args.s (expr c.args.a.now) c.args.w.now m (x.seen, x.tree) _ x.ensures
    (c.add.ensures m.place ds (c.operand_faults.ensures ∙ ap (λ f. told f ds) c.new-own.ensures))
