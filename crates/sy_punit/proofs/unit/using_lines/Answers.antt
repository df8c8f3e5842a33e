use Rattle.std.proofs.Common.{rules, arith, codes}
use Rattle.std.proofs.lemmas.Grind.{common_steps}
use Rattle.sy_lex.specs.declared.Row.TheVariants as row
use Rattle.sy_reading.specs.Input.{sees}
use Rattle.sy_punit.specs.Reader.{each, using_line}
use Rattle.sy_cursor.proofs.TurnLemmas.{one_more, no_more}
use Rattle.sy_punit.proofs.unit.using_lines.Goals as goal

pub returns-then-not-sees : goal.returns-then-not-sees
unfolding each
returns-then-not-sees c =
    let e = one_more (λ n. each (sees row.Reserved (codes "using")) using_line n c.loop-turn.lines c.loop-turn.tokens.rest.now) _ c.loop-turn._turn c.loop-turn-test.true c.loop-turn.invariant in
    first_of (search rules, grind (arith, common_steps))

pub returns-in_err-line : goal.returns-in_err-line
unfolding each
returns-in_err-line c =
    let e = one_more (λ n. each (sees row.Reserved (codes "using")) using_line n c.loop-turn.lines c.loop-turn.tokens.rest.now) _ c.loop-turn._turn c.loop-turn-test.true c.loop-turn.invariant in
    first_of (search rules, grind (arith, common_steps))

pub loop-turn-preserved : goal.loop-turn-preserved
unfolding each
loop-turn-preserved c =
    let e = one_more (λ n. each (sees row.Reserved (codes "using")) using_line n c.loop-turn.lines c.loop-turn.tokens.rest.now) _ c.loop-turn._turn c.loop-turn-test.true c.loop-turn.invariant in
    first_of (search rules, grind (arith, common_steps))

pub returns : goal.returns
unfolding each
returns c =
    let e = no_more (λ n. each (sees row.Reserved (codes "using")) using_line n c.loop-turn.lines c.loop-turn.tokens.rest.now) _ c.loop-turn._turn c.loop-turn-test.false c.loop-turn.invariant in
    first_of (search rules, grind (arith, common_steps))
