use Rattle.std.proofs.Common.{◌≡◌, ◌-◌, []}
use Rattle.sy_lex.specs.declared.Row.TheVariants as row
use Rattle.sy_reading.specs.Input.{sees_row, advance}
use Rattle.sy_punit.specs.Reader.{each}
use Rattle.sy_punit.proofs.unit.include_lines.Given as goal

abbrev pub invariant-loop-turn : goal.invariant-loop-turn
invariant-loop-turn l = each (sees_row row.Include) advance l._turn-end [] l.fn.tokens.rest.now ≡ each (sees_row row.Include) advance (l._turn-end - l._turn) l.lines l.tokens.rest.now
