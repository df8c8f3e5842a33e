use Rattle.std.proofs.Common.{◌≡◌, ◌-◌, []}
use Rattle.sy_punit.specs.Reader.{each, some_left, file_item}
use Rattle.sy_punit.proofs.unit.file_items.Given as goal

abbrev pub invariant-loop-turn : goal.invariant-loop-turn
invariant-loop-turn l = each some_left file_item l._turn-end [] l.fn.tokens.rest.now ≡ each some_left file_item (l._turn-end - l._turn) l.items l.tokens.rest.now
