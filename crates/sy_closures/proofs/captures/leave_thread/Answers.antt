use Rattle.std.proofs.Common.{drop, ap, ◌∙◌}
use Rattle.sy_closures.proofs.captures.leave_thread.Goals as goal
use Rattle.sy_rules.specs.declared.names.Names.{Names}
use Rattle.sy_rules.specs.Walk.{within_thread}

pub returns-in-None : goal.returns-in-None
returns-in-None c = λ n e.
    let names : Names = c.args.names.now in
    ap (λ ts. record names { threads = ts }) (e ∙ ap (λ u. (within_thread u n).threads) c.in-None.is)

pub returns-in-Some : goal.returns-in-Some
returns-in-Some c = λ n e.
    let names : Names = c.args.names.now in
    c.leave_thread.ensures ∙ ap (λ ts. record names { threads = drop 1 ts }) (e ∙ ap (λ u. (within_thread u n).threads) c.in-Some.is)
