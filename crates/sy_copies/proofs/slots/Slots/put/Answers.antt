use Rattle.std.proofs.Common.{◌++◌, ◌∷◌, [], List, ap, ◌∙◌}
use Rattle.sy_copies.specs.declared.slots.Slot.{Slot}
use Rattle.sy_copies.proofs.SlotLemmas.{slot_added}
use Rattle.sy_copies.proofs.slots.Slots.put.Goals as goal
use Rattle.sy_copies.proofs.slots.Slots.put.Goals.{in-Ok, in-Err}

pub returns-after-push-clause-ok : goal.returns-after-push-clause-ok
returns-after-push-clause-ok c =
    elim c.match-push.branch [
      | in-Ok w ↦ (rw w.result-is (w.in-Ok.ensures.items ∙ ap (λ (l : List Slot). l ++ c.args.slot ∷ []) c.self.view_is ∙ slot_added c.args.self.now c.args.slot.place c.args.slot c.in-None.ensures))
      | in-Err w ↦ (rw w.result-is tt)
    ]
