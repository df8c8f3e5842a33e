use Rattle.std.proofs.Common.{◌≡◌, ◌-◌, [], codes}
use Rattle.sy_lex.specs.declared.Row.TheVariants as row
use Rattle.sy_reading.specs.Input.{sees}
use Rattle.sy_punit.specs.Reader.{each, using_line}
use Rattle.sy_punit.proofs.unit.using_lines.Given as goal

abbrev pub invariant-loop-turn : goal.invariant-loop-turn
invariant-loop-turn l = each (sees row.Reserved (codes "using")) using_line l._turn-end [] l.fn.tokens.rest.now ≡ each (sees row.Reserved (codes "using")) using_line (l._turn-end - l._turn) l.lines l.tokens.rest.now
