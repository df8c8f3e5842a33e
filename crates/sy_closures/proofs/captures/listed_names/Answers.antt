use Rattle.std.proofs.Common.{◌≡◌, [], ◌++◌, ap, ◌∙◌, rules}
use Rattle.sy_closures.proofs.captures.listed_names.Goals as goal
use Rattle.sy_looks.specs.declared.walk.Walk.{Walk}
use Rattle.sy_rules.specs.Walk.{all_captures}

pub returns-clause-walk : goal.returns-clause-walk
returns-clause-walk c = λ n.
    let w : Walk = c.args.w.now in
    ap (λ f. record w { found = f }) (c.in_ok-add_captures.ensures.found w.place n)

pub returns-clause-taken : goal.returns-clause-taken
returns-clause-taken c = λ n.
    let none : c.new-captures.result.items ≡ [] = search rules in
    c.in_ok-add_captures.ensures.taken n ∙ ap (λ l. l ++ (all_captures c.args.w.now.names c.args.t c.args.cs.now n).what) none
