use Rattle.std.proofs.Common.{false, Some, ap, ◌∙◌}
use Rattle.sy_declare.proofs.DeclareLemmas.{initialized_value}
use Rattle.sy_declare.proofs.declarators.bracketed_declarator.Goals as goal
use Rattle.sy_looks.proofs.LookLemmas.{found_beside}
use Rattle.sy_rules.specs.Walk.{declared_value, expr}
use Rattle.sy_typed.specs.declared.tree.TypedDeclarator.TheVariants as declarator

pub returns : goal.returns
returns g c = λ b s.
    let d = c.args.d in
    let m = c.part.new.w in
    let k = c.declare_value.new.w in
    let seen = c.in_ok-seen.seen in
    let two = c.in_ok-tree in
    initialized_value d.is_constant d.specifier d.of c.args.first c.args.x.now false (λ v a. declarator.Bracketed v a c.args.e) (expr c.args.a.now) c.args.w.now m k seen two.tree two.what two.v
    (ap (λ y. ((seen, y), m)) two.ensures.ok.0 ∙ c.in_ok-seen.ensures)
    (found_beside (declared_value d.is_constant d.specifier d.of c.args.first c.args.x.now (Some (seen, false)) (λ v. v)) m k c.declare_value.result (two.what, two.v) two.ensures.ok.1 c.declare_value.ensures)
