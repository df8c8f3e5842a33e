use Rattle.std.proofs.Common.{ap, ◌∙◌}
use Rattle.sy_bodies.proofs.inner.Inner.boxed_stmt.Goals as goal
use Rattle.sy_looks.specs.Looked.{looked}
use Rattle.sy_rules.specs.Walk.{stmt}

pub returns : goal.returns
returns g c = ap (λ t. (t, c.sub_stmt.new.w)) c.in_ok-boxed.ensures ∙ c.in_ok-tree.ensures ∙ ap (λ z. looked (stmt z c.args.own) c.args.w.now) c.get.ensures
