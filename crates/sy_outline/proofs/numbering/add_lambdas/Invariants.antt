use Rattle.std.proofs.Common.{◌≡◌, ◌++◌, drop, map}
use Rattle.sy_meaning.specs.Bodies.{lambda_body}
use Rattle.sy_outline.specs.Parts.{pointed}
use Rattle.sy_outline.specs.Views.{body_of}
use Rattle.sy_outline.proofs.numbering.add_lambdas.Given as goal

abbrev pub invariant-loop-l : goal.invariant-loop-l
invariant-loop-l l =
    map body_of l.bodies.items ++ map lambda_body (pointed (drop l.l-index l.lambdas)) ≡ map body_of l.fn.bodies.items ++ map lambda_body (pointed l.lambdas)
