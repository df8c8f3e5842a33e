use Rattle.std.proofs.Common.{◌≡◌, ap, ◌∙◌}
use Rattle.sy_declare.proofs.DeclareLemmas.{made_beside}
use Rattle.sy_declare.proofs.objects.object_declaration.Goals as goal
use Rattle.sy_declare.specs.Trees.{maybe_initializer}
use Rattle.sy_looks.proofs.LookLemmas.{chained}
use Rattle.sy_looks.specs.Looked.{looked}
use Rattle.sy_rules.specs.Foreign.{is_made_in, type_start}
use Rattle.sy_rules.specs.Objects.{arguments_of, object_row}
use Rattle.sy_rules.specs.StmtRules.{object_faults}
use Rattle.sy_rules.specs.Walk.{declared_object, foreign_object, initialized, taken_by_object}
use Rattle.sy_typed.specs.declared.tree.TypedDeclaration.TheVariants as declaration

pub returns : goal.returns
returns g c =
    let w = c.args.w.now in
    let t = c.args.t.now in
    let x = c.args.x.now in
    let e = c.args.e in
    let m = c.maybe_initializer.new.w in
    let k = c.declare_library_object.new.w in
    let i = c.in_ok-seen in
    let two = c.in_ok-tree in
    let d = declaration.Object two.v two.tree e in
    ap (λ s. ((s, d), k)) c.type_start.ensures
    ∙ chained (initialized (taken_by_object t) (maybe_initializer c.args.i.now)) (λ p n. declared_object (is_made_in n.setting.within t) (object_faults n t x p.0) (foreign_object t) (object_row t (arguments_of p.0)).gives (type_start t) x (λ v. declaration.Object v p.1 e) n) w m k (i.seen, two.tree) (type_start t, d)
    (ap (λ y. ((i.seen, y), m)) two.ensures.ok.0 ∙ i.ensures ∙ ap (λ b. looked (initialized b (maybe_initializer c.args.i.now)) w) c.taken_by_object.ensures)
    (made_beside (λ n. declared_object (is_made_in n.setting.within t) (object_faults n t x i.seen) (foreign_object t) (object_row t (arguments_of i.seen)).gives (type_start t) x (λ v. declaration.Object v two.tree e) n) (type_start t) (λ v. declaration.Object v two.tree e) m k c.declare_library_object.result two.v two.ensures.ok.1
    (c.declare_library_object.ensures (type_start t) (λ v. declaration.Object v two.tree e)))
