use Rattle.std.proofs.Common.{◌≡◌, ◌++◌, drop, map}
use Rattle.sy_meaning.specs.Bodies.{function_body}
use Rattle.sy_outline.specs.Views.{body_of}
use Rattle.sy_outline.proofs.numbering.add_functions.Given as goal

abbrev pub invariant-loop-f : goal.invariant-loop-f
invariant-loop-f l =
    map body_of l.bodies.items ++ map function_body (drop l.f-index l.functions) ≡ map body_of l.fn.bodies.items ++ map function_body l.functions
