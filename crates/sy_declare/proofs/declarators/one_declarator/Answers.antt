use Rattle.std.proofs.Common.{ap, ◌∙◌}
use Rattle.sy_declare.proofs.FormLemmas.{declarator_Uninitialized, declarator_Equal, declarator_Bracketed}
use Rattle.sy_declare.proofs.declarators.one_declarator.Goals as goal
use Rattle.sy_looks.proofs.LookLemmas.{looked_as}
use Rattle.sy_rules.specs.Walk.{declarator_of, expr, one_declarator}
use Rattle.sy_tree.specs.declared.tree.Argument.TheOpen.{Declarator-F}

pub returns-in-Uninitialized : goal.returns-in-Uninitialized
returns-in-Uninitialized g c =
    let d = c.args.d in
    let i = c.in-Uninitialized in
    let one = one_declarator d.is_constant d.specifier d.of c.args.first in
    looked_as (one (declarator_of c.args.x.now)) (one (Declarator-F.Uninitialized i.x)) c.args.w.now _ _
    (ap (λ l. one (declarator_of l)) i.is ∙ ap one (declarator_Uninitialized i.x)) c.plain_declarator.ensures

pub returns-in-Equal : goal.returns-in-Equal
returns-in-Equal g c =
    let d = c.args.d in
    let i = c.in-Equal in
    let one = one_declarator d.is_constant d.specifier d.of c.args.first in
    looked_as (one (declarator_of c.args.x.now)) (one (Declarator-F.Equal i.x i.field-1 (expr i.a))) c.args.w.now _ _
    (ap (λ l. one (declarator_of l)) i.is ∙ ap one (declarator_Equal i.x i.field-1 i.a)) (c.equal_declarator.ensures i.field-1)

pub returns-in-Bracketed : goal.returns-in-Bracketed
returns-in-Bracketed g c =
    let d = c.args.d in
    let i = c.in-Bracketed in
    let one = one_declarator d.is_constant d.specifier d.of c.args.first in
    looked_as (one (declarator_of c.args.x.now)) (one (Declarator-F.Bracketed i.x i.field-1 i.field-2 (expr i.a) i.e)) c.args.w.now _ _
    (ap (λ l. one (declarator_of l)) i.is ∙ ap one (declarator_Bracketed i.x i.field-1 i.field-2 i.a i.e)) (c.bracketed_declarator.ensures i.field-1 i.field-2)
