use Rattle.std.proofs.Common.{◌≡◌, ℕ, drop, map}
use Rattle.sy_facts.specs.Parts.{argument}
use Rattle.sy_meaning.specs.Expressions.{Calls}
use Rattle.sy_meaning.specs.Statements.{arguments_last}
use Rattle.sy_facts.proofs.arguments.arguments_last.Given as goal

abbrev pub invariant-loop-x : goal.invariant-loop-x
invariant-loop-x l =
    (calls : Calls) (limit : ℕ) → arguments_last l.last (map (argument calls limit) (drop l.x-index l.xs)) ≡ arguments_last l.line (map (argument calls limit) l.xs)
