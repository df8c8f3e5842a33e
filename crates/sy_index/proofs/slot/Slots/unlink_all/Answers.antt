use Rattle.std.proofs.Common.{ℕ, ◌∷◌, [], Bor}
use Rattle.std.proofs.lemmas.List.{map-append}
use Rattle.sy_index.proofs.SlotLemmas.{unlinked_more}
use Rattle.sy_index.proofs.slot.Slots.unlink_all.Goals as goal

pub loop-m-preserved : goal.loop-m-preserved
loop-m-preserved c = rw (map-append (λ (m : Bor ℕ). m.now) c.loop-m.yielded (c.in-Some.m ∷ [])) (rw unlinked_more cc)
