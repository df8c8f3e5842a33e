use Rattle.std.proofs.Common.{◌≡◌, drop}
use Rattle.sy_needs.specs.Each.{each_from}
use Rattle.sy_copies.specs.Parts.{clear_at}
use Rattle.sy_copies.proofs.cells.clear_unwanted.Given as goal

abbrev pub invariant-loop-need : goal.invariant-loop-need
invariant-loop-need l = each_from (clear_at (drop l.need-index l.needs) l.needs l.root) 0 l.cells ≡ each_from (clear_at l.needs l.needs l.root) 0 l.initial.cells
