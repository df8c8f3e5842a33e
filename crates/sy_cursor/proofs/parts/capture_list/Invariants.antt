use Rattle.std.proofs.Common.{◌≡◌, ◌-◌, []}
use Rattle.sy_reading.specs.Input.{comma_list_from}
use Rattle.sy_reading.specs.Parts.{one_capture}
use Rattle.sy_cursor.proofs.parts.capture_list.Given as goal

abbrev pub invariant-loop-turn : goal.invariant-loop-turn
invariant-loop-turn l = comma_list_from one_capture l._turn-end [] 0 l.fn.tokens.rest.now ≡ comma_list_from one_capture (l._turn-end - l._turn) l.items l.height l.tokens.rest.now
