use Rattle.std.proofs.Common.{sym, ◌∙◌}
use Rattle.sy_lex.proofs.Strings.{plain_step, escape_step, plain_count, escape_count}
use Rattle.sy_lex.proofs.scan.string_len.Goals as goal

pub loop-rest-preserved-then-is_string_byte : goal.loop-rest-preserved-then-is_string_byte
loop-rest-preserved-then-is_string_byte c = record {
  same = c.loop-rest.invariant.same ∙ plain_step c.loop-rest.len c.loop-rest.rest.now c.in-len1-up.len_at_least c.if-first-eq34.false (sym c.is_string_byte.ensures ∙ c.if-is_string_byte.true);
  count = plain_count c.loop-rest.len _ c.loop-rest.rest.now c.in-len1-up.len_at_least c.loop-rest.invariant.count;
}

pub loop-rest-preserved : goal.loop-rest-preserved
loop-rest-preserved c = record {
  same = c.loop-rest.invariant.same ∙ escape_step c.loop-rest.len c.loop-rest.rest.now c.in-len1-up-others.len_at_least c.if-first-eq92.true (sym c.is_escape_code.ensures ∙ c.if-is_escape_code.true);
  count = escape_count c.loop-rest.len _ c.loop-rest.rest.now c.in-len1-up-others.len_at_least c.loop-rest.invariant.count;
}
