use Rattle.std.proofs.Common.{None}
use Rattle.sy_declare.proofs.DeclareLemmas.{declarator_of_value}
use Rattle.sy_declare.proofs.declarators.plain_declarator.Goals as goal
use Rattle.sy_typed.specs.declared.tree.TypedDeclarator.TheVariants as declarator

pub returns : goal.returns
returns c =
    let d = c.args.d in
    let x = c.in_ok-what in
    declarator_of_value d.is_constant d.specifier d.of c.args.first c.args.x.now None (λ v. declarator.Uninitialized v) c.args.w.now _ x.what x.v x.ensures
