use Rattle.std.proofs.Common.{◌++◌, ◌∷◌, []}
use Rattle.sy_plain.proofs.hosts.tell.Goals as goal

pub returns : goal.returns
returns g c = record {
  open_ask = c.in_ok-ask.ensures.open_ask;
  next = λ n body captures answers st. c.in_ok-ask.ensures.next n body captures (answers ++ c.args.a ∷ []) (c.in_ok-answer.ensures.longer n body captures answers st);
}
