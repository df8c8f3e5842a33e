use Rattle.std.proofs.Common.{drop, ap, ◌∙◌, arith}
use Rattle.std.specs.Prelude.{filter_map}
use Rattle.sy_sums.specs.Sums.{operand_of}
use Rattle.sy_sums.proofs.Hosts.{none_here, none_taken}
use Rattle.sy_sums.proofs.places.next_operand.Goals as goal

pub loop-k-preserved : goal.loop-k-preserved
loop-k-preserved c =
    none_here c.args.statements.now c.loop-k.k c.index-statements-k.result c.loop-k.done (omega arith) c.index-statements-k.is
    (none_taken _ _ _ c.in_default.is c.next_printed-taken.ensures ∙ ap (λ ps. filter_map operand_of (drop c.loop-k.done ps)) c.printed_by.ensures)
    ∙ c.loop-k.invariant
