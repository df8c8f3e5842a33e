use Rattle.std.proofs.Common.{ap, ◌∙◌}
use Rattle.sy_declare.proofs.objects.thread_vector_declaration.Goals as goal
use Rattle.sy_findings.specs.Told.{told}
use Rattle.sy_rules.specs.StmtRules.{plain_faults}
use Rattle.sy_typed.specs.declared.tree.TypedDeclaration.TheVariants as declaration

pub returns : goal.returns
returns c =
    let ds = plain_faults c.args.w.now.names c.args.x.now in
    c.in_ok-v.ensures ds c.args.q.namespace (λ v. declaration.ThreadVector v c.args.e) (c.redeclaration.ensures ∙ ap (λ f. told f ds) c.new-own.ensures)
