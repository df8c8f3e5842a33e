use Rattle.std.proofs.Common.{◌≡◌, ◌++◌, List, [], ◌∷◌, Option, length, take, drop, sym, ◌∙◌, subst, arith}
use Rattle.std.proofs.lemmas.Grind.{common_steps}
use Rattle.sy_copies.specs.declared.buffer.Buffer.{Buffer}
use Rattle.sy_needs.specs.Each.{each_from}
use Rattle.sy_work.specs.Moves.{writes_from}
use Rattle.sy_copies.specs.Current.{Sound, Agree, publish_at}
use Rattle.sy_copies.specs.Calls.{MayPublish, Publishes}
use Rattle.sy_copies.proofs.CallLemmas.{publishes}
use Rattle.sy_copies.proofs.AgreementLemmas.{agree_publishes}
use Rattle.sy_copies.proofs.copies.Copies.put_back.Goals as goal

pub invariant_of-self : goal.invariant_of-self
invariant_of-self c =
    let old : List (Option Buffer) = c.self.inside.buffers.items in
    let made : List (Option Buffer) = each_from (publish_at c.args.place (c.args.need.now ∷ []) (writes_from c.args.need.now.buffer c.args.need.now.from c.args.values.now) (c.args.need.now ∷ [])) 0 old in
    let all : take c.self.inside.buffers.len (c.publish_all.new.buffers ++ drop (length c.publish_all.new.buffers) old) ≡ c.publish_all.new.buffers = grind (arith, common_steps) in
    let new : take c.self.inside.buffers.len (c.publish_all.new.buffers ++ drop (length c.publish_all.new.buffers) old) ≡ made = all ∙ (rw (c.as_mut_slice.ensures.value, c.by_run.ensures) at c.publish_all.ensures) in
    let may : MayPublish old c.args.place (c.args.need.now ∷ []) = subst (λ (l : List (Option Buffer)). MayPublish l c.args.place (c.args.need.now ∷ [])) (sym c.self.view_is) c.requires.may in
    let both = publishes old c.args.place (c.args.need.now ∷ []) (writes_from c.args.need.now.buffer c.args.need.now.from c.args.values.now) may c.self.invariant in
    subst Sound (sym new) both.1

pub returns-clause-put : goal.returns-clause-put
returns-clause-put c =
    let old : List (Option Buffer) = c.self.inside.buffers.items in
    let made : List (Option Buffer) = each_from (publish_at c.args.place (c.args.need.now ∷ []) (writes_from c.args.need.now.buffer c.args.need.now.from c.args.values.now) (c.args.need.now ∷ [])) 0 old in
    let all : take c.self.inside.buffers.len (c.publish_all.new.buffers ++ drop (length c.publish_all.new.buffers) old) ≡ c.publish_all.new.buffers = grind (arith, common_steps) in
    let new : take c.self.inside.buffers.len (c.publish_all.new.buffers ++ drop (length c.publish_all.new.buffers) old) ≡ made = all ∙ (rw (c.as_mut_slice.ensures.value, c.by_run.ensures) at c.publish_all.ensures) in
    let may : MayPublish old c.args.place (c.args.need.now ∷ []) = subst (λ (l : List (Option Buffer)). MayPublish l c.args.place (c.args.need.now ∷ [])) (sym c.self.view_is) c.requires.may in
    let both = publishes old c.args.place (c.args.need.now ∷ []) (writes_from c.args.need.now.buffer c.args.need.now.from c.args.values.now) may c.self.invariant in
    rw new (subst (λ (l : List (Option Buffer)). Publishes l made c.args.place (c.args.need.now ∷ []) (writes_from c.args.need.now.buffer c.args.need.now.from c.args.values.now)) c.self.view_is both.0)

pub returns-clause-agree : goal.returns-clause-agree
returns-clause-agree c = λ agree.
    let old : List (Option Buffer) = c.self.inside.buffers.items in
    let made : List (Option Buffer) = each_from (publish_at c.args.place (c.args.need.now ∷ []) (writes_from c.args.need.now.buffer c.args.need.now.from c.args.values.now) (c.args.need.now ∷ [])) 0 old in
    let all : take c.self.inside.buffers.len (c.publish_all.new.buffers ++ drop (length c.publish_all.new.buffers) old) ≡ c.publish_all.new.buffers = grind (arith, common_steps) in
    let new : take c.self.inside.buffers.len (c.publish_all.new.buffers ++ drop (length c.publish_all.new.buffers) old) ≡ made = all ∙ (rw (c.as_mut_slice.ensures.value, c.by_run.ensures) at c.publish_all.ensures) in
    let may : MayPublish old c.args.place (c.args.need.now ∷ []) = subst (λ (l : List (Option Buffer)). MayPublish l c.args.place (c.args.need.now ∷ [])) (sym c.self.view_is) c.requires.may in
    let both = publishes old c.args.place (c.args.need.now ∷ []) (writes_from c.args.need.now.buffer c.args.need.now.from c.args.values.now) may c.self.invariant in
    subst Agree (sym new) (agree_publishes old made c.args.place (c.args.need.now ∷ []) (writes_from c.args.need.now.buffer c.args.need.now.from c.args.values.now) may both.0 (subst Agree (sym c.self.view_is) agree))
