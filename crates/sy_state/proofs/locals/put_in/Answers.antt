use Rattle.std.proofs.Common.{rules, ◌≤◌, ◌<◌, ◌++◌, ◌∷◌, [], ap, length, ◌∙◌}
use Rattle.sy_meaning.specs.Frame.{put_at}
use Rattle.sy_meaning.specs.Words.{Object}
use Rattle.sy_state.proofs.PlaceLemmas.{filled_up, put_inside}
use Rattle.sy_state.proofs.locals.put_in.Goals as goal

pub loop-alloc-preserved : goal.loop-alloc-preserved
loop-alloc-preserved c =
    let short : length c.loop-alloc.frame ≤ c.args.n = search rules in
    ap (put_at c.args.n c.args.object) (c.in_ok-push.ensures.ok ∙ ap (λ (o : Object). c.loop-alloc.frame ++ o ∷ []) c.no_words.ensures)
    ∙ filled_up c.args.n c.args.object c.loop-alloc.frame short
    ∙ c.loop-alloc.invariant

pub returns : goal.returns
returns c =
    let inside : c.args.n < length c.loop-alloc.frame = search rules in
    c.set.ensures ∙ put_inside c.args.n c.args.object c.loop-alloc.frame inside ∙ c.loop-alloc.invariant
