use Rattle.std.proofs.Common.{◌≡◌, length}
use Rattle.sy_tree.specs.Qualification.{qualified, without_std, with_namespaces}
use Rattle.sy_punit.proofs.names.is_written_out.Given as goal

abbrev pub invariant-loop-rest : goal.invariant-loop-rest
invariant-loop-rest l = with_namespaces l.used l.selected (without_std l.rest) ≡ l.rest → qualified l.fn.toks ≡ l.fn.toks

abbrev pub decreases-loop-rest : goal.decreases-loop-rest
decreases-loop-rest l = length l.rest
