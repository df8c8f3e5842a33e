use Rattle.std.proofs.Common.{◌≡◌, drop, map}
use Rattle.sy_items.proofs.items.FileItems.all.Given as goal
use Rattle.sy_items.specs.Files.{HasBegun, kept_of, with_pieces}
use Rattle.sy_rules.specs.Outcome.{in_turn}
use Rattle.sy_rules.specs.Units.{one_item}

abbrev pub invariant-loop-i : goal.invariant-loop-i
invariant-loop-i g l = record {
  begun : HasBegun l.w;
  kept : with_pieces (in_turn (map one_item (drop l.i-index l.items)) l.w.names) (kept_of l.file) ≡ with_pieces (in_turn (map one_item l.items) l.fn.w.names) (kept_of l.fn.file);
}
