use Rattle.std.proofs.Common.{◌≡◌, List, ap, rules, ◌∙◌, sym, ℤ}
use Rattle.std.specs.Prelude.{Result}
use Rattle.sy_making.specs.Answers.{contents_on}
use Rattle.sy_meaning.specs.declared.outcomes.Evaluated.{Evaluated}
use Rattle.sy_meaning.specs.declared.outcomes.Evaluated.TheVariants.{Gives}
use Rattle.sy_meaning.specs.declared.runs.World.{World}
use Rattle.sy_meaning.specs.Library.{next_phase}
use Rattle.sy_meaning.specs.Outcomes.{Op, gives}
use Rattle.sy_meaning.specs.Words.{Object, taken_as, word}
use Rattle.sy_num.specs.declared.Kind.{Kind}
use Rattle.sy_library.proofs.phases.collect.Goals as goal

-- how it goes on
abbrev behind : Kind → List ℤ → Op
behind k zs w = gives (taken_as k (word 0 zs)) (next_phase w)

pub returns-in_ok-object-in-Ok : goal.returns-in_ok-object-in-Ok
returns-in_ok-object-in-Ok c =
    let seen : c.in_ok-object-in-Ok.object ≡ taken_as c.args.call.kind (word 0 c.in-Ok.values) = search rules in
    ap (λ (o : Object). (Gives o, c.next_phase.new.world)) seen
    ∙ ap (λ (w : World). (Gives (taken_as c.args.call.kind (word 0 c.in-Ok.values)), w)) c.next_phase.ensures
    ∙ sym
    (c.in_ok-values.ensures (behind c.args.call.kind)
    ∙ ap (λ (r : Result (List ℤ) Evaluated). contents_on r (behind c.args.call.kind) c.asked_contents.new.world) c.in-Ok.is)

pub returns-in-Err : goal.returns-in-Err
returns-in-Err c =
    sym
    (c.in_ok-values.ensures (behind c.args.call.kind)
    ∙ ap (λ (r : Result (List ℤ) Evaluated). contents_on r (behind c.args.call.kind) c.asked_contents.new.world) c.in-Err.is)
