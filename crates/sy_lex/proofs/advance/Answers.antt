use Rattle.std.proofs.Common.{◌+◌, drop, sym, ap, ◌∙◌, arith}
use Rattle.std.proofs.lemmas.List.{at_drop_more, at_drop_all}
use Rattle.sy_lex.specs.Front.{after}
use Rattle.sy_lex.proofs.advance.Goals as goal

pub loop-b-preserved : goal.loop-b-preserved
loop-b-preserved c = record {
  same = c.loop-b.invariant.same ∙ at_drop_more (after c.loop-b.at) c.args.bytes.now c.loop-b.b-index 0 (omega arith) ∙ ap (λ k. after k (drop (c.loop-b.b-index + 1) c.args.bytes.now)) (sym c.after_byte-at.ensures.value);
  line = omega (arith, c.after_byte-at.ensures.line, c.loop-b.invariant.line);
  column = omega (arith, c.after_byte-at.ensures.column, c.loop-b.invariant.column);
}

pub returns-clause-value : goal.returns-clause-value
returns-clause-value c = sym (c.loop-b.invariant.same ∙ at_drop_all (after c.loop-b.at) c.args.bytes.now c.loop-b.b-index (omega arith))
