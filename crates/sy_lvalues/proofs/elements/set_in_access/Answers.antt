use Rattle.std.proofs.Common.{◌≡◌, List, ap, slice_index_or, slice_set, ◌∙◌, ℤ}
use Rattle.std.specs.Int.{w128}
use Rattle.std.proofs.lemmas.Int.{to_z-of_z}
use Rattle.sy_meaning.specs.Words.{Object}
use Rattle.sy_state.proofs.PlaceLemmas.{written_over}
use Rattle.sy_lvalues.proofs.elements.set_in_access.Goals as goal

pub returns : goal.returns
returns c =
    let made : c.replaced.result ≡ slice_set c.exchange-held.result c.args.index c.args.num =
    c.replaced.ensures ∙ ap (λ (z : ℤ). slice_set c.exchange-held.result c.args.index z) (to_z-of_z w128 c.args.num c.ranges.num) in
    ap (λ (accesses : List Object). record c.args.world.now { accesses = accesses })
    (written_over c.args.world.now.accesses _ _ c.args.k _ _ c.exchange-held.ensures.kept c.set.ensures
    ∙ ap (λ (o : Object). slice_set c.args.world.now.accesses c.args.k o)
    (made
    ∙ ap (λ (o : Object). slice_set o c.args.index c.args.num)
    (c.exchange-held.ensures.taken ∙ ap (λ (o : Object). slice_index_or c.args.world.now.accesses c.args.k o) c.nothing.ensures)))
