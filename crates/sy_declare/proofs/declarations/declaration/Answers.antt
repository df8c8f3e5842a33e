use Rattle.std.proofs.Common.{map, ap, sym, ◌∙◌}
use Rattle.sy_declare.proofs.FormLemmas.{declaration_Integers, declaration_Vector, declaration_DeviceVector, declaration_ThreadVector, declaration_Thread, declaration_Object}
use Rattle.sy_declare.proofs.declarations.declaration.Goals as goal
use Rattle.sy_declare.specs.Trees.{declaration, maybe_initializer}
use Rattle.sy_looks.proofs.LookLemmas.{looked_as}
use Rattle.sy_rules.specs.Walk.{declaration_step, declarator_of}
use Rattle.sy_tree.specs.declared.tree.Argument.TheOpen.{Declaration-F}
use Rattle.sy_walk.specs.Trees.{lambda}

pub returns-in-Integers : goal.returns-in-Integers
returns-in-Integers g c =
    let i = c.in-Integers in
    looked_as (declaration c.args.d.now) (declaration_step (Declaration-F.Integers i.c i.t (map declarator_of c.as_slice.result.now) i.e)) c.args.w.now _ _
    (ap declaration i.is ∙ declaration_Integers i.c i.t i.xs i.e ∙ ap (λ l. declaration_step (Declaration-F.Integers i.c i.t (map declarator_of l) i.e)) (sym c.as_slice.ensures)) c.integer_declaration.ensures

pub returns-in-Vector : goal.returns-in-Vector
returns-in-Vector g c =
    let i = c.in-Vector in
    looked_as (declaration c.args.d.now) (declaration_step (Declaration-F.Vector i.q i.t i.x (maybe_initializer i.i) i.e)) c.args.w.now _ _ (ap declaration i.is ∙ declaration_Vector i.q i.t i.x i.i i.e) c.vector_declaration.ensures

pub returns-in-DeviceVector : goal.returns-in-DeviceVector
returns-in-DeviceVector g c =
    let i = c.in-DeviceVector in
    looked_as (declaration c.args.d.now) (declaration_step (Declaration-F.DeviceVector i.q i.x (maybe_initializer i.i) i.e)) c.args.w.now _ _ (ap declaration i.is ∙ declaration_DeviceVector i.q i.x i.i i.e) c.device_vector_declaration.ensures

pub returns-in-ThreadVector : goal.returns-in-ThreadVector
returns-in-ThreadVector g c =
    let i = c.in-ThreadVector in
    looked_as (declaration c.args.d.now) (declaration_step (Declaration-F.ThreadVector i.q i.x i.e)) c.args.w.now _ _ (ap declaration i.is ∙ declaration_ThreadVector i.q i.x i.e) c.thread_vector_declaration.ensures

pub returns-in-Thread : goal.returns-in-Thread
returns-in-Thread g c =
    let i = c.in-Thread in
    looked_as (declaration c.args.d.now) (declaration_step (Declaration-F.Thread i.q i.x i.b (lambda i.l) i.e)) c.args.w.now _ _ (ap declaration i.is ∙ declaration_Thread i.q i.x i.b i.l i.e) c.thread_declaration.ensures

pub returns-in-Object : goal.returns-in-Object
returns-in-Object g c =
    let i = c.in-Object in
    looked_as (declaration c.args.d.now) (declaration_step (Declaration-F.Object i.t i.x (maybe_initializer i.i) i.e)) c.args.w.now _ _ (ap declaration i.is ∙ declaration_Object i.t i.x i.i i.e) c.object_declaration.ensures
