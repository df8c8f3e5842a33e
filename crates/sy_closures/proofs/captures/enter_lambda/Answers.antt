use Rattle.std.proofs.Common.{ap, ◌∙◌}
use Rattle.sy_closures.proofs.captures.enter_lambda.Goals as goal
use Rattle.sy_looks.specs.declared.walk.Walk.{Walk}
use Rattle.sy_rules.specs.Walk.{all_captures, within_thread}

pub returns : goal.returns
returns c = λ n e.
    let w : Walk = c.args.w.now in
    ap (λ z. record w { names = z })
    (c.in_ok-enter_thread.ensures
    ∙ ap (within_thread c.args.t) (c.in_ok-declare_captures.ensures.ok n e ∙ ap (λ z. (all_captures n c.args.t c.args.cs.now z).names) c.in_ok-enter.ensures.ok))
