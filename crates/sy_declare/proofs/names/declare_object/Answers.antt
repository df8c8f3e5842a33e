use Rattle.std.proofs.Common.{[], if◌then◌else◌, ◌∙◌}
use Rattle.sy_declare.proofs.DeclareLemmas.{object_declared}
use Rattle.sy_declare.proofs.names.declare_object.Goals as goal

pub returns : goal.returns
returns c = λ ds s make e.
    let w = c.args.w.now in
    let own = c.count_if-counted.ensures ds e in
    object_declared c.args.allowed ds c.args.foreign c.args.what s c.args.x.now make w c.type_if_none-known.result _ c.in_ok-number.number c.add.new.self _ _
    (c.type_if_none-known.ensures (if c.args.allowed then ds else []) own) c.variable.ensures c.in_ok-number.ensures.number
    (c.add.ensures w.place (if c.args.allowed then ds else []) own) c.add_foreign.ensures c.in_ok-number.ensures.ok
