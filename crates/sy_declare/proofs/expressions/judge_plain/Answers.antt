use Rattle.std.proofs.Common.{ap, ◌∙◌}
use Rattle.sy_declare.proofs.DeclareLemmas.{full_told}
use Rattle.sy_declare.proofs.expressions.judge_plain.Goals as goal
use Rattle.sy_findings.specs.Told.{told}
use Rattle.sy_rules.specs.StmtRules.{full_faults}
use Rattle.sy_tree.specs.declared.tree.Argument.TheOpen.{FullExpression-F}
use Rattle.sy_typed.specs.declared.tree.TypedFull.TheVariants as full

pub returns : goal.returns
returns c =
    let w = c.args.w.now in
    let a = c.args.a in
    let ds = full_faults (FullExpression-F.Plain a.0) in
    full_told a.0.first (FullExpression-F.Plain a.0) (full.Plain a.1) w _
    (c.add.ensures w.place ds (c.expression.ensures ∙ ap (λ f. told f ds) c.new-own.ensures))
