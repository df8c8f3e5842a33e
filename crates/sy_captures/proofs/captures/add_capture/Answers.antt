use Rattle.std.proofs.Common.{◌++◌, ap, sym, ◌∙◌}
use Rattle.sy_found.specs.Noted.{found_in}
use Rattle.sy_rules.specs.Walk.{one_capture}
use Rattle.sy_captures.proofs.captures.add_capture.Goals as goal

pub returns-in_ok-add_listed-in-Reference-clause-found : goal.returns-in_ok-add_listed-in-Reference-clause-found
returns-in_ok-add_listed-in-Reference-clause-found c = λ p n.
    c.in_ok-add_listed-in-Reference.ensures.found p n
    ∙ ap (λ k. found_in p c.args.found.now (one_capture c.args.names.now c.args.t k n).found) (sym c.in-Reference.is)

pub returns-in_ok-add_listed-in-Reference-clause-taken : goal.returns-in_ok-add_listed-in-Reference-clause-taken
returns-in_ok-add_listed-in-Reference-clause-taken c = λ n.
    c.in_ok-add_listed-in-Reference.ensures.taken n
    ∙ ap (λ k. c.args.captures.now.items ++ (one_capture c.args.names.now c.args.t k n).what) (sym c.in-Reference.is)

pub returns-in_ok-add_listed-in-Copy-clause-found : goal.returns-in_ok-add_listed-in-Copy-clause-found
returns-in_ok-add_listed-in-Copy-clause-found c = λ p n.
    c.in_ok-add_listed-in-Copy.ensures.found p n
    ∙ ap (λ k. found_in p c.args.found.now (one_capture c.args.names.now c.args.t k n).found) (sym c.in-Copy.is)

pub returns-in_ok-add_listed-in-Copy-clause-taken : goal.returns-in_ok-add_listed-in-Copy-clause-taken
returns-in_ok-add_listed-in-Copy-clause-taken c = λ n.
    c.in_ok-add_listed-in-Copy.ensures.taken n
    ∙ ap (λ k. c.args.captures.now.items ++ (one_capture c.args.names.now c.args.t k n).what) (sym c.in-Copy.is)
