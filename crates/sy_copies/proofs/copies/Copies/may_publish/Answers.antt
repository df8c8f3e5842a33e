use Rattle.std.proofs.Common.{◌≡◌, ◌+◌, ◌++◌, ◌∷◌, [], ℕ, List, true, false, take, get_or, sym, ap, ◌∙◌, subst, ⊎_elim}
use Rattle.std.proofs.lemmas.List.{take_more}
use Rattle.sy_access.specs.declared.access.Need.{Need}
use Rattle.sy_access.specs.declared.access.Mode.TheVariants.{Read}
use Rattle.sy_needs.specs.Versions.{renews}
use Rattle.sy_copies.specs.Calls.{MayRenew}
use Rattle.sy_copies.proofs.ConditionLemmas.{writer_renews}
use Rattle.sy_copies.proofs.RootLemmas.{renews_more, renews_none}
use Rattle.sy_copies.proofs.copies.Copies.may_publish.Goals as goal
use Rattle.sy_copies.proofs.copies.Copies.may_publish.Goals.{else-writes-via-then-writes+else-not-may_renew, else-writes-via-else-writes}

pub loop-need-init : goal.loop-need-init
loop-need-init c = λ b h. absurd (let z : false ≡ true = sym (renews_none b) ∙ h in cc)

pub loop-need-preserved : goal.loop-need-preserved
loop-need-preserved c = λ b h.
    let needs : List Need = c.args.needs.now in
    let k : ℕ = c.loop-need.need-index in
    let none : Need = record { buffer = 0; mode = Read; no_init = false; from = 0; to = 0 } in
    let n : Need = get_or needs k none in
    let more : take (k + 1) needs ≡ take k needs ++ n ∷ [] = take_more needs k none c.loop-need-test.true in
    ⊎_elim
    (c.loop-need.invariant b)
    (λ t. elim c.else-writes.branch [
      | else-writes-via-then-writes+else-not-may_renew w ↦
          subst (MayRenew c.args.self.now c.args.place needs) t.0 (w.may_renew.ensures.may w.if-not-may_renew.false)
      | else-writes-via-else-writes w ↦ absurd (let z : false ≡ true = sym w.if-writes.false ∙ c.writes.ensures ∙ t.1 in cc)
    ])
    (renews_more (take k needs) n b (ap (λ l. renews l b) (sym more) ∙ h))

pub returns-then-not-may_renew-clause-may_not : goal.returns-then-not-may_renew-clause-may_not
returns-then-not-may_renew-clause-may_not c = λ h may.
    let needs : List Need = c.args.needs.now in
    let none : Need = record { buffer = 0; mode = Read; no_init = false; from = 0; to = 0 } in
    c.may_renew.ensures.may_not c.if-not-may_renew.true (may _ (writer_renews needs c.loop-need.need-index none c.loop-need-test.true (sym c.writes.ensures ∙ c.if-writes.true)))
