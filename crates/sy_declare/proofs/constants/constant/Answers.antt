use Rattle.std.proofs.Common.{ap, ◌∙◌}
use Rattle.sy_declare.proofs.FormLemmas.{declarator_Uninitialized, declarator_Equal, declarator_Bracketed}
use Rattle.sy_declare.proofs.constants.constant.Goals as goal
use Rattle.sy_looks.proofs.LookLemmas.{looked_as}
use Rattle.sy_rules.specs.Units.{constant_by}
use Rattle.sy_rules.specs.Walk.{declarator_of, expr}
use Rattle.sy_tree.specs.declared.tree.Argument.TheOpen.{Declarator-F}

pub returns-in-Uninitialized : goal.returns-in-Uninitialized
returns-in-Uninitialized g c =
    let i = c.in-Uninitialized in
    let by = constant_by c.args.c.now in
    looked_as (by (declarator_of c.args.c.now.declarator)) (by (Declarator-F.Uninitialized i.x)) c.args.w.now _ _
    (ap (λ l. by (declarator_of l)) i.is ∙ ap by (declarator_Uninitialized i.x)) c.undefined_constant.ensures

pub returns-in-Equal : goal.returns-in-Equal
returns-in-Equal g c =
    let i = c.in-Equal in
    let by = constant_by c.args.c.now in
    looked_as (by (declarator_of c.args.c.now.declarator)) (by (Declarator-F.Equal i.x i.field-1 (expr i.a))) c.args.w.now _ _
    (ap (λ l. by (declarator_of l)) i.is ∙ ap by (declarator_Equal i.x i.field-1 i.a)) c.defined_constant.ensures

pub returns-in-Bracketed : goal.returns-in-Bracketed
returns-in-Bracketed g c =
    let i = c.in-Bracketed in
    let by = constant_by c.args.c.now in
    looked_as (by (declarator_of c.args.c.now.declarator)) (by (Declarator-F.Bracketed i.x i.field-1 i.field-2 (expr i.a) i.field-4)) c.args.w.now _ _
    (ap (λ l. by (declarator_of l)) i.is ∙ ap by (declarator_Bracketed i.x i.field-1 i.field-2 i.a i.field-4)) c.defined_constant-in-Bracketed.ensures
