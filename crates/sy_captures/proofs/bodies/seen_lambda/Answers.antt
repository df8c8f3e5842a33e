use Rattle.std.proofs.Common.{Option, true, ap, sym, ◌∙◌}
use Rattle.sy_typed.specs.declared.things.Dimensions.{Dimensions}
use Rattle.sy_rules.specs.declared.seen.SeenLambda.{SeenLambda}
use Rattle.sy_captures.proofs.CaptureLemmas.{seen_in_sound}
use Rattle.sy_captures.proofs.bodies.seen_lambda.Goals as goal

pub returns-in-None : goal.returns-in-None
returns-in-None c = λ ds e.
    let seen : Option Dimensions → SeenLambda = λ d. record { is_sound = true; dimensions = d } in
    ap seen c.first_dimensions.ensures ∙ seen_in_sound c.args.ps.now ds (sym c.in-None.is ∙ e)
