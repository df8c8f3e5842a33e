use Rattle.std.specs.Prelude.{◌≡◌, Some, None}
use Rattle.std.proofs.Common.{sym, ap, ◌∙◌}
use Rattle.sy_reading.specs.Exprs.{prefix}
use Rattle.sy_reading.specs.Input.{mark_text}
use Rattle.sy_reading.specs.Tables.{step_of, unary_of}
use Rattle.sy_grammar.proofs.OptionLemmas.{not_some}
use Rattle.sy_pexpr.proofs.expressions.Expressions.prefix.Goals as goal

pub returns-in-Some : goal.returns-in-Some
unfolding prefix
returns-in-Some g c =
    let a_step : step_of (mark_text c.args.tokens.now.rest.now) ≡ Some c.in-Some.step = ap step_of (sym c.mark-mark.ensures) ∙ sym c.step_of.ensures ∙ c.in-Some.is in
    rw (a_step) c.prefix_step.ensures

pub returns-in-Some-unary_of : goal.returns-in-Some-unary_of
unfolding prefix
returns-in-Some-unary_of g c =
    let no_step : step_of (mark_text c.args.tokens.now.rest.now) ≡ None = ap step_of (sym c.mark-mark.ensures) ∙ sym c.step_of.ensures ∙ not_some c.step_of.result c.in_default.not-Some in
    let an_operator : unary_of (mark_text c.args.tokens.now.rest.now) ≡ Some c.in-Some-unary_of.operator = ap unary_of (sym c.mark-mark.ensures) ∙ sym c.unary_of.ensures ∙ c.in-Some-unary_of.is in
    rw (no_step, an_operator) c.unary.ensures

pub returns-in-None : goal.returns-in-None
unfolding prefix
returns-in-None g c =
    let no_step : step_of (mark_text c.args.tokens.now.rest.now) ≡ None = ap step_of (sym c.mark-mark.ensures) ∙ sym c.step_of.ensures ∙ not_some c.step_of.result c.in_default.not-Some in
    let no_operator : unary_of (mark_text c.args.tokens.now.rest.now) ≡ None = ap unary_of (sym c.mark-mark.ensures) ∙ sym c.unary_of.ensures ∙ c.in-None.is in
    rw (no_step, no_operator) c.cast_or_postfix.ensures
