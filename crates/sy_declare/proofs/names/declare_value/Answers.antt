use Rattle.std.proofs.Common.{None, is_some, ap, ◌∙◌}
use Rattle.sy_declare.proofs.DeclareLemmas.{value_declared}
use Rattle.sy_declare.proofs.names.declare_value.Goals as goal
use Rattle.sy_findings.specs.Told.{told}
use Rattle.sy_rules.specs.Names.{declared}
use Rattle.sy_rules.specs.StmtRules.{declarator_faults}

pub returns : goal.returns
returns c =
    let w = c.args.w.now in
    let d = c.args.d in
    let x = c.args.x.now in
    let i = c.args.given in
    let ds = declarator_faults w.names d.is_constant d.specifier d.of c.args.first x i in
    value_declared d.is_constant d.specifier d.of c.args.first x i w c.declared_type-what.result _ c.in_ok-number.number _ _
    c.declared_type-what.ensures c.variable.ensures c.in_ok-number.ensures.number
    (c.in_ok-number.ensures.ok ∙ ap (λ b. declared x c.declared_type-what.result b c.declared_constant.result w.names) c.is_some.ensures
    ∙ ap (λ k. declared x c.declared_type-what.result (is_some d.specifier) k w.names) c.declared_constant.ensures)
    (c.add.ensures w.place ds (c.declarator.ensures ∙ ap (λ f. told f ds) c.new-own.ensures))
