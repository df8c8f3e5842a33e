use Rattle.std.proofs.Common.{Some, ap, ◌∙◌}
use Rattle.sy_declare.proofs.names.declare_in_host.Goals as goal
use Rattle.sy_declare.specs.Declared.{made}
use Rattle.sy_looks.proofs.LookLemmas.{with_known}
use Rattle.sy_rules.specs.Foreign.{is_host, foreign_everywhere}
use Rattle.sy_rules.specs.Walk.{declared_object}

pub returns : goal.returns
returns c = λ ds s make e.
    let w = c.args.w.now in
    with_known (λ b. declared_object b ds foreign_everywhere (Some c.args.what) s c.args.x.now make) (λ n. is_host n.setting.within) w c.declare_object.new.w (made s make c.declare_object.result) c.is_host-allowed.result
    (c.is_host-allowed.ensures ∙ ap (λ z. is_host z.within) c.setting.ensures)
    (c.declare_object.ensures ds s make e)
