use Rattle.std.proofs.Common.{None, ap, sym}
use Rattle.sy_declare.proofs.constants.undefined_constant.Goals as goal
use Rattle.sy_looks.proofs.LookLemmas.{looked_as}
use Rattle.sy_rules.specs.Units.{constant_as, no_initializer}

pub returns : goal.returns
returns c =
    let x = c.args.x.now in
    looked_as (constant_as c.args.c.now x None (no_initializer x.spot)) (constant_as c.args.c.now x None c.typed-nothing.result) c.args.w.now _ _
    (ap (constant_as c.args.c.now x None) (sym c.typed-nothing.ensures)) c.declare_constant.ensures
