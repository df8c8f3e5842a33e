use Rattle.std.proofs.Common.{Some, ap, ◌∙◌}
use Rattle.sy_declare.proofs.DeclareLemmas.{made_beside}
use Rattle.sy_declare.proofs.objects.vector_declaration.Goals as goal
use Rattle.sy_declare.specs.Trees.{maybe_initializer}
use Rattle.sy_findings.specs.Told.{told}
use Rattle.sy_looks.proofs.LookLemmas.{chained}
use Rattle.sy_rules.specs.declared.names.Taken.TheVariants as takes
use Rattle.sy_rules.specs.Foreign.{foreign_everywhere, is_host}
use Rattle.sy_rules.specs.StmtRules.{vector_faults}
use Rattle.sy_rules.specs.Walk.{declared_object, initialized}
use Rattle.sy_typed.specs.declared.things.Thing.TheVariants as thing
use Rattle.sy_typed.specs.declared.tree.TypedDeclaration.TheVariants as declaration

pub returns : goal.returns
returns g c =
    let q = c.args.q.namespace in
    let x = c.args.x.now in
    let e = c.args.e in
    let m = c.maybe_initializer.new.w in
    let k = c.declare_in_host.new.w in
    let i = c.in_ok-seen in
    let two = c.in_ok-tree in
    let ds = vector_faults m.names c.args.t.kind x i.seen in
    chained (initialized takes.Nothing (maybe_initializer c.args.i.now)) (λ p n. declared_object (is_host n.setting.within) (vector_faults n c.args.t.kind x p.0) foreign_everywhere (Some (thing.Vector c.args.t.kind)) q x (λ v. declaration.Vector v p.1 e) n) c.args.w.now m k (i.seen, two.tree) _
    (ap (λ y. ((i.seen, y), m)) two.ensures.ok.0 ∙ i.ensures)
    (made_beside (λ n. declared_object (is_host n.setting.within) ds foreign_everywhere (Some (thing.Vector c.args.t.kind)) q x (λ v. declaration.Vector v two.tree e) n) q (λ v. declaration.Vector v two.tree e) m k c.declare_in_host.result two.v two.ensures.ok.1
    (c.declare_in_host.ensures ds q (λ v. declaration.Vector v two.tree e) (c.vector.ensures ∙ ap (λ f. told f ds) c.new-own.ensures)))
