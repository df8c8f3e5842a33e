use Rattle.std.proofs.Common.{◌≡◌, ◌++◌, drop}
use Rattle.sy_meaning.specs.Bodies.{lambdas_in}
use Rattle.sy_outline.specs.Parts.{of_all, pointed}
use Rattle.sy_typed.specs.declared.tree.TypedFunction.{TypedFunction}
use Rattle.sy_outline.proofs.lambdas.in_functions.Given as goal

abbrev pub invariant-loop-f : goal.invariant-loop-f
invariant-loop-f l =
    pointed l.found.items ++ of_all (λ (f : TypedFunction). lambdas_in f.body) (drop l.f-index l.functions) ≡ pointed l.fn.found.items ++ of_all (λ (f : TypedFunction). lambdas_in f.body) l.functions
