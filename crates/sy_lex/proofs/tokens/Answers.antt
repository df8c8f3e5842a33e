use Rattle.std.proofs.Common.{◌≡◌, length, sym, ap, ◌∙◌, arith, length-drop, length-take, false-eqb, true-eqb}
use Rattle.sy_lex.specs.declared.scan.Front.TheVariants.{Skip, Found}
use Rattle.sy_lex.proofs.Readings.{at_start, says, skip_kept, token_kept, ended, only, refused, stuck}
use Rattle.sy_lex.proofs.tokens.Goals as goal

pub loop-rest-init : goal.loop-rest-init
loop-rest-init c = record { at = rw c.new-out.ensures.items (at_start c.args.bytes.now); count = omega arith; line = omega arith; column = omega arith }

pub split_at-requires : goal.split_at-requires
split_at-requires c = (says c.loop-rest.rest.now (Skip c.in-Skip.len) c.in-Skip.ensures).0

pub split_at-requires-in-Found : goal.split_at-requires-in-Found
split_at-requires-in-Found c = (says c.loop-rest.rest.now (Found c.in-Found.row c.in-Found.len) c.in-Found.ensures).0

pub loop-rest-smaller-in-Skip : goal.loop-rest-smaller-in-Skip
loop-rest-smaller-in-Skip c =
    let there = says c.loop-rest.rest.now (Skip c.in-Skip.len) c.in-Skip.ensures in
    let some = there.1 in
    let fits = there.0 in
    let b = c.split_at.ensures.back in
    omega (arith, ap length b, length-drop c.in-Skip.len c.loop-rest.rest.now)

pub loop-rest-preserved-in-Skip : goal.loop-rest-preserved-in-Skip
loop-rest-preserved-in-Skip c =
    let there = says c.loop-rest.rest.now (Skip c.in-Skip.len) c.in-Skip.ensures in
    let fits = there.0 in
    let f = c.split_at.ensures.front in
    let b = c.split_at.ensures.back in
    let v = c.advance-spot.ensures in
    record {
      at = skip_kept c.args.bytes.now c.loop-rest.rest.now c.loop-rest.out.items c.loop-rest.from c.loop-rest.spot c.advance-spot.result c.in-Skip.len _ _ there c.loop-rest.invariant.at f b v.value;
      count = omega (arith, ap length b, length-drop c.in-Skip.len c.loop-rest.rest.now, c.loop-rest.invariant.count);
      line = omega (arith, v.line, c.loop-rest.invariant.line, ap length f, ap length b, length-drop c.in-Skip.len c.loop-rest.rest.now, length-take c.in-Skip.len c.loop-rest.rest.now);
      column = omega (arith, v.column, c.loop-rest.invariant.column, ap length f, ap length b, length-drop c.in-Skip.len c.loop-rest.rest.now, length-take c.in-Skip.len c.loop-rest.rest.now);
    }

pub loop-rest-smaller : goal.loop-rest-smaller
loop-rest-smaller c =
    let there = says c.loop-rest.rest.now (Found c.in-Found.row c.in-Found.len) c.in-Found.ensures in
    let some = there.1 in
    let fits = there.0 in
    let b = c.split_at-in-Found.ensures.back in
    omega (arith, ap length b, length-drop c.in-Found.len c.loop-rest.rest.now)

pub loop-rest-preserved : goal.loop-rest-preserved
loop-rest-preserved c =
    let there = says c.loop-rest.rest.now (Found c.in-Found.row c.in-Found.len) c.in-Found.ensures in
    let fits = there.0 in
    let f = c.split_at-in-Found.ensures.front in
    let b = c.split_at-in-Found.ensures.back in
    let v = c.advance-spot-in-Found.ensures in
    record {
      at = token_kept c.args.bytes.now c.loop-rest.rest.now c.loop-rest.out.items _ c.in-Found.row c.loop-rest.from c.loop-rest.spot c.advance-spot-in-Found.result c.in-Found.len _ _ there c.loop-rest.invariant.at f b v.value c.in-Ok.ensures;
      count = omega (arith, ap length b, length-drop c.in-Found.len c.loop-rest.rest.now, c.loop-rest.invariant.count);
      line = omega (arith, v.line, c.loop-rest.invariant.line, ap length f, ap length b, length-drop c.in-Found.len c.loop-rest.rest.now, length-take c.in-Found.len c.loop-rest.rest.now);
      column = omega (arith, v.column, c.loop-rest.invariant.column, ap length f, ap length b, length-drop c.in-Found.len c.loop-rest.rest.now, length-take c.in-Found.len c.loop-rest.rest.now);
    }

pub returns-in-Stuck-clause-refused : goal.returns-in-Stuck-clause-refused
returns-in-Stuck-clause-refused c = λ d is. refused c.args.bytes.now c.loop-rest.rest.now c.loop-rest.out.items c.loop-rest.from c.loop-rest.spot c.loop-rest.invariant.at c.in-Stuck.ensures
    (false-eqb (length c.loop-rest.rest.now) 0 (sym (sym c.is_empty.ensures ∙ c.loop-rest-test.true)))

pub returns-in-Stuck-clause-place : goal.returns-in-Stuck-clause-place
returns-in-Stuck-clause-place c = λ d is. stuck c.args.bytes.now c.loop-rest.rest.now c.loop-rest.out.items c.loop-rest.from c.loop-rest.spot d.spot c.loop-rest.invariant.at c.in-Stuck.ensures
    (false-eqb (length c.loop-rest.rest.now) 0 (sym (sym c.is_empty.ensures ∙ c.loop-rest-test.true))) (let same : c.loop-rest.spot ≡ d.spot = cc in same)

pub returns-clause-only : goal.returns-clause-only
returns-clause-only c = λ others b. only c.args.bytes.now c.loop-rest.out.items others
    (ended c.args.bytes.now c.loop-rest.rest.now c.loop-rest.out.items c.loop-rest.from c.loop-rest.spot c.loop-rest.invariant.at (true-eqb (length c.loop-rest.rest.now) 0 (sym (sym c.is_empty.ensures ∙ c.loop-rest-test.false)))) b

pub returns-clause-found : goal.returns-clause-found
returns-clause-found c = ended c.args.bytes.now c.loop-rest.rest.now c.loop-rest.out.items c.loop-rest.from c.loop-rest.spot c.loop-rest.invariant.at
    (true-eqb (length c.loop-rest.rest.now) 0 (sym (sym c.is_empty.ensures ∙ c.loop-rest-test.false)))
