use Rattle.std.proofs.Common.{ap, ◌∙◌}
use Rattle.sy_declare.proofs.DeclareLemmas.{full_told}
use Rattle.sy_declare.proofs.expressions.judge_assignment.Goals as goal
use Rattle.sy_findings.specs.Told.{told}
use Rattle.sy_rules.specs.Layers.{SeenFull}
use Rattle.sy_rules.specs.StmtRules.{full_faults}
use Rattle.sy_tree.specs.declared.tree.Argument.TheOpen.{FullExpression-F}
use Rattle.sy_typed.specs.declared.tree.TypedFull.TheVariants as full

pub returns : goal.returns
returns c =
    let w = c.args.w.now in
    let t = c.args.t in
    let v = c.args.v in
    let s = c.args.s in
    let x : SeenFull = FullExpression-F.Assignment t.0 s c.args.op v.0 in
    full_told t.0.first x (full.Assignment t.1 s c.args.op v.1) w _
    (c.add.ensures w.place (full_faults x) (c.assignment.ensures s ∙ ap (λ f. told f (full_faults x)) c.new-own.ensures))
