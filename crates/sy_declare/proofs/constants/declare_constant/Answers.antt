use Rattle.std.proofs.Common.{ap, ◌∙◌}
use Rattle.sy_declare.proofs.DeclareLemmas.{constant_declared}
use Rattle.sy_declare.proofs.constants.declare_constant.Goals as goal
use Rattle.sy_looks.specs.Looked.{looked}
use Rattle.sy_rules.specs.Units.{constant_as}

pub returns : goal.returns
returns c =
    let two = c.in_ok-initializer in
    constant_declared c.args.c.now c.args.x.now c.args.given c.args.w.now c.constant.result two.initializer two.variable _ _ two.ensures.ok.1
    (c.constant.ensures.value) (c.constant.ensures.names) (c.constant.ensures.found c.args.w.now.place two.initializer)
    ∙ ap (λ a. looked (constant_as c.args.c.now c.args.x.now c.args.given a) c.args.w.now) two.ensures.ok.0
