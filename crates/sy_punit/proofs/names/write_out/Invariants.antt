use Rattle.std.proofs.Common.{◌≡◌, ◌++◌, length}
use Rattle.sy_tree.specs.Qualification.{qualified, without_std, with_namespaces}
use Rattle.sy_punit.proofs.names.write_out.Given as goal

abbrev pub invariant-loop-token : goal.invariant-loop-token
invariant-loop-token l = qualified l.fn.toks.items ≡ l.out.items ++ with_namespaces l.used l.selected (without_std l.rest.items)

abbrev pub decreases-loop-token : goal.decreases-loop-token
decreases-loop-token l = length l.rest.items
