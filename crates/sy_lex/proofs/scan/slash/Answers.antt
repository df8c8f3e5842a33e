use Rattle.std.proofs.Common.{◌-◌, arith, length, take, drop, length-take}
use Rattle.std.proofs.lemmas.List.Sums.{prefix_len-le-length}
use Rattle.sy_lex.specs.Tokens.{in_line}
use Rattle.sy_lex.proofs.scan.slash.Goals as goal

pub overflow_add-result : goal.overflow_add-result
overflow_add-result c = omega (
  arith,
  c.line_len.ensures,
  prefix_len-le-length in_line (take (length c.args.rest.now - 1) (drop 1 c.args.rest.now)),
  length-take (length c.args.rest.now - 1) (drop 1 c.args.rest.now),
)
