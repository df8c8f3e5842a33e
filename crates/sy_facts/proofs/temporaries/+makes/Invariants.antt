use Rattle.std.proofs.Common.{◌≡◌, ◌+◌, ◌*◌, ℕ, drop, map}
use Rattle.std.specs.List.{list_any}
use Rattle.sy_facts.specs.Parts.{argument}
use Rattle.sy_meaning.specs.Expressions.{Calls, makes_of}
use Rattle.sy_meaning.specs.Statements.{any_makes}
use Rattle.sy_meaning.specs.Turns.{expression}
use Rattle.sy_facts.proofs.temporaries.+makes.Given as goal

-- the depth, and then the order of those that hand it on as it is

abbrev pub decreases-makes_in : goal.decreases-makes_in
decreases-makes_in l = 4 * l.depth + 0

abbrev pub decreases-either_makes : goal.decreases-either_makes
decreases-either_makes l = 4 * l.depth + 1

abbrev pub decreases-any_makes_in : goal.decreases-any_makes_in
decreases-any_makes_in l = 4 * l.depth + 1

abbrev pub decreases-argument_makes_in : goal.decreases-argument_makes_in
decreases-argument_makes_in l = 4 * l.depth + 2

abbrev pub decreases-arguments_make_in : goal.decreases-arguments_make_in
decreases-arguments_make_in l = 4 * l.depth + 3

abbrev pub invariant-any_makes_in-loop-x : goal.invariant-any_makes_in-loop-x
invariant-any_makes_in-loop-x l =
    (calls : Calls) (limit : ℕ) → list_any makes_of (map (expression calls limit) (drop l.x-index l.xs)) ≡ list_any makes_of (map (expression calls limit) l.xs)

abbrev pub invariant-arguments_make_in-loop-x : goal.invariant-arguments_make_in-loop-x
invariant-arguments_make_in-loop-x l =
    (calls : Calls) (limit : ℕ) → any_makes (map (argument calls limit) (drop l.x-index l.xs)) ≡ any_makes (map (argument calls limit) l.xs)
