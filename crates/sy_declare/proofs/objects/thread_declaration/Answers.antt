use Rattle.std.proofs.Common.{Some, ap, ◌∙◌}
use Rattle.std.specs.Prelude.{Ok}
use Rattle.sy_declare.proofs.DeclareLemmas.{made_beside}
use Rattle.sy_declare.proofs.objects.thread_declaration.Goals as goal
use Rattle.sy_findings.specs.Told.{told}
use Rattle.sy_looks.proofs.LookLemmas.{chained}
use Rattle.sy_looks.specs.Looked.{looked}
use Rattle.sy_rules.specs.declared.library.Role.TheVariants as role
use Rattle.sy_rules.specs.Foreign.{foreign_everywhere, is_host}
use Rattle.sy_rules.specs.StmtRules.{plain_faults}
use Rattle.sy_rules.specs.Walk.{declared_object}
use Rattle.sy_typed.specs.declared.things.Thing.TheVariants as thing
use Rattle.sy_typed.specs.declared.tree.TypedDeclaration.TheVariants as declaration
use Rattle.sy_walk.specs.Trees.{lambda}

pub returns : goal.returns
returns g c =
    let w = c.args.w.now in
    let q = c.args.q.namespace in
    let x = c.args.x.now in
    let e = c.args.e in
    let l = c.args.l.now in
    let m = c.sub_lambda.new.w in
    let k = c.declare_in_host.new.w in
    let i = c.in_ok-_seen in
    let two = c.in_ok-tree in
    let ds = plain_faults m.names x in
    chained (λ n. lambda l (role.Thread n.next) n) (λ p n. declared_object (is_host n.setting.within) (plain_faults n x) foreign_everywhere (Some thing.Thread) q x (λ v. declaration.Thread v p.1 e) n) w m k (i._seen, two.tree) _
    (ap (λ y. ((i._seen, y), m)) two.ensures.ok.0 ∙ i.ensures ∙ ap (λ j. looked (lambda l (role.Thread j)) w) c.next.ensures)
    (made_beside (λ n. declared_object (is_host n.setting.within) ds foreign_everywhere (Some thing.Thread) q x (λ v. declaration.Thread v two.tree e) n) q (λ v. declaration.Thread v two.tree e) m k c.declare_in_host.result two.v two.ensures.ok.1
    (c.declare_in_host.ensures ds q (λ v. declaration.Thread v two.tree e) (c.redeclaration.ensures ∙ ap (λ f. told f ds) c.new-own.ensures)))
