use Rattle.std.proofs.Common.{◌≡◌, ◌+◌, ◌*◌, ◌++◌, drop}
use Rattle.sy_outline.specs.Parts.{of_all, of_argument, of_declarator, of_printed, of_statement, of_typed, pointed}
use Rattle.sy_outline.proofs.lambdas.+walk.Given as goal

-- the depth, and then the order of those that hand it on as it is

abbrev pub decreases-in_typed : goal.decreases-in_typed
decreases-in_typed l = 8 * l.depth + 0

abbrev pub decreases-in_statement : goal.decreases-in_statement
decreases-in_statement l = 8 * l.depth + 0

abbrev pub decreases-in_lambda : goal.decreases-in_lambda
decreases-in_lambda l = 8 * l.depth + 0

abbrev pub decreases-in_two : goal.decreases-in_two
decreases-in_two l = 8 * l.depth + 1

abbrev pub decreases-in_all_typed : goal.decreases-in_all_typed
decreases-in_all_typed l = 8 * l.depth + 1

abbrev pub decreases-in_maybe_typed : goal.decreases-in_maybe_typed
decreases-in_maybe_typed l = 8 * l.depth + 1

abbrev pub decreases-in_argument : goal.decreases-in_argument
decreases-in_argument l = 8 * l.depth + 2

abbrev pub decreases-in_arguments : goal.decreases-in_arguments
decreases-in_arguments l = 8 * l.depth + 3

abbrev pub decreases-in_node : goal.decreases-in_node
decreases-in_node l = 8 * l.depth + 4

abbrev pub decreases-in_statements : goal.decreases-in_statements
decreases-in_statements l = 8 * l.depth + 1

abbrev pub decreases-in_block : goal.decreases-in_block
decreases-in_block l = 8 * l.depth + 2

abbrev pub decreases-in_full : goal.decreases-in_full
decreases-in_full l = 8 * l.depth + 2

abbrev pub decreases-in_maybe_full : goal.decreases-in_maybe_full
decreases-in_maybe_full l = 8 * l.depth + 3

abbrev pub decreases-in_declarators : goal.decreases-in_declarators
decreases-in_declarators l = 8 * l.depth + 2

abbrev pub decreases-in_initializer : goal.decreases-in_initializer
decreases-in_initializer l = 8 * l.depth + 4

abbrev pub decreases-in_maybe_initializer : goal.decreases-in_maybe_initializer
decreases-in_maybe_initializer l = 8 * l.depth + 5

abbrev pub decreases-in_declaration : goal.decreases-in_declaration
decreases-in_declaration l = 8 * l.depth + 6

abbrev pub decreases-in_all_printed : goal.decreases-in_all_printed
decreases-in_all_printed l = 8 * l.depth + 2

abbrev pub decreases-in_else : goal.decreases-in_else
decreases-in_else l = 8 * l.depth + 1

abbrev pub decreases-in_form : goal.decreases-in_form
decreases-in_form l = 8 * l.depth + 7

-- what was found so far, and what the rest has

abbrev pub invariant-in_all_typed-loop-x : goal.invariant-in_all_typed-loop-x
invariant-in_all_typed-loop-x l = pointed l.found.items ++ of_all of_typed (drop l.x-index l.xs) ≡ pointed l.fn.found.items ++ of_all of_typed l.xs

abbrev pub invariant-in_arguments-loop-x : goal.invariant-in_arguments-loop-x
invariant-in_arguments-loop-x l = pointed l.found.items ++ of_all of_argument (drop l.x-index l.xs) ≡ pointed l.fn.found.items ++ of_all of_argument l.xs

abbrev pub invariant-in_statements-loop-s : goal.invariant-in_statements-loop-s
invariant-in_statements-loop-s l = pointed l.found.items ++ of_all of_statement (drop l.s-index l.ss) ≡ pointed l.fn.found.items ++ of_all of_statement l.ss

abbrev pub invariant-in_declarators-loop-d : goal.invariant-in_declarators-loop-d
invariant-in_declarators-loop-d l = pointed l.found.items ++ of_all of_declarator (drop l.d-index l.ds) ≡ pointed l.fn.found.items ++ of_all of_declarator l.ds

abbrev pub invariant-in_all_printed-loop-p : goal.invariant-in_all_printed-loop-p
invariant-in_all_printed-loop-p l = pointed l.found.items ++ of_all of_printed (drop l.p-index l.ps) ≡ pointed l.fn.found.items ++ of_all of_printed l.ps
