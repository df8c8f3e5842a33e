use Rattle.std.proofs.Common.{map, ap, sym, ◌∙◌}
use Rattle.sy_declare.proofs.FormLemmas.{initializer_Copy, initializer_Direct}
use Rattle.sy_declare.proofs.initializers.one_initializer.Goals as goal
use Rattle.sy_declare.specs.Trees.{initializer_of}
use Rattle.sy_looks.proofs.LookLemmas.{looked_as}
use Rattle.sy_rules.specs.Walk.{expr, one_initializer}
use Rattle.sy_tree.specs.declared.tree.Argument.TheOpen.{Initializer-F}
use Rattle.sy_walk.specs.Trees.{argument}

pub returns-in-Copy : goal.returns-in-Copy
returns-in-Copy g c =
    let i = c.in-Copy in
    let one = one_initializer c.args.taken in
    looked_as (one (initializer_of c.args.i.now)) (one (Initializer-F.Copy i.field-0 (expr i.a))) c.args.w.now _ _
    (ap (λ l. one (initializer_of l)) i.is ∙ ap one (initializer_Copy i.field-0 i.a)) (c.copy_initializer.ensures i.field-0)

pub returns-in-Direct : goal.returns-in-Direct
returns-in-Direct g c =
    let i = c.in-Direct in
    let one = one_initializer c.args.taken in
    let xs = c.as_slice.result.now in
    looked_as (one (initializer_of c.args.i.now)) (one (Initializer-F.Direct i.b i.field-1 (map argument xs) i.e)) c.args.w.now _ _
    (ap (λ l. one (initializer_of l)) i.is ∙ ap one (initializer_Direct i.b i.field-1 i.xs i.e) ∙ ap (λ l. one (Initializer-F.Direct i.b i.field-1 (map argument l) i.e)) (sym c.as_slice.ensures))
    (c.direct_initializer.ensures i.field-1)
