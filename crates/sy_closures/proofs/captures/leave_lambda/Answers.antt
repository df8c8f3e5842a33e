use Rattle.std.proofs.Common.{ap, ◌∙◌}
use Rattle.sy_closures.proofs.captures.leave_lambda.Goals as goal
use Rattle.sy_looks.specs.declared.walk.Walk.{Walk}
use Rattle.sy_rules.specs.declared.names.Names.{Names}

pub returns : goal.returns
returns c = λ n e.
    let w : Walk = c.args.w.now in
    ap (λ z. record w { names = z })
    (c.leave_thread.ensures n (ap (λ (z : Names). z.threads) c.leave.ensures ∙ e) ∙ ap (λ (z : Names). record z { threads = n.threads }) c.leave.ensures)
