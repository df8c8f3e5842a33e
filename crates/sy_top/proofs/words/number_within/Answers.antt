use Rattle.std.proofs.Common.{sym, ◌∙◌}
use Rattle.sy_top.proofs.Numerals.{no_numeral, no_number, a_number, too_little}
use Rattle.sy_top.proofs.words.number_within.Goals as goal

pub returns-then-not-is_numeral : goal.returns-then-not-is_numeral
returns-then-not-is_numeral c = no_numeral c.args.least c.args.greatest c.args.text.now (sym c.is_numeral.ensures ∙ c.if-not-is_numeral.true)

pub returns-in_err-number : goal.returns-in_err-number
returns-in_err-number c = c.from_residual.ensures ∙ no_number c.args.least c.args.greatest c.args.text.now (sym c.is_numeral.ensures ∙ c.if-not-is_numeral.false) (sym c.number_up_to.ensures ∙ c.in_err-number.was)

pub returns-then-least-number : goal.returns-then-least-number
returns-then-least-number c =
    a_number c.args.least c.args.greatest c.in_ok-number.number c.args.text.now (sym c.is_numeral.ensures ∙ c.if-not-is_numeral.false) (sym c.number_up_to.ensures ∙ c.in_ok-number.was) c.if-least-number.true

pub returns-else-least-number : goal.returns-else-least-number
returns-else-least-number c =
    too_little c.args.least c.args.greatest c.in_ok-number.number c.args.text.now (sym c.is_numeral.ensures ∙ c.if-not-is_numeral.false) (sym c.number_up_to.ensures ∙ c.in_ok-number.was) c.if-least-number.false
