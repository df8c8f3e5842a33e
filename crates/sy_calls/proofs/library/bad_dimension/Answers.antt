use Rattle.std.proofs.Common.{sym, ap, ◌∙◌}
use Rattle.sy_note.specs.declared.Code.TheVariants as code
use Rattle.sy_rules.specs.ExprRules.{in_type, no_dimension, is_wrong_dimension}
use Rattle.sy_rules.specs.Faults.{at}
use Rattle.sy_rules.specs.Foreign.{type_word}
use Rattle.sy_rules.specs.Seen.{when}
use Rattle.sy_findings.specs.Told.{told}
use Rattle.sy_findings.proofs.ToldLemmas.{told_at}
use Rattle.sy_calls.proofs.library.bad_dimension.Goals as goal

pub returns : goal.returns
returns c =
    let written = in_type no_dimension c.args.t.now in
    c.wrong_dimension.ensures
    ∙ ap (λ f. told f (at code.BadDimension (when (is_wrong_dimension c.args.fit) c.type_word.result))) c.no_dimension_in_type.ensures
    ∙ ap (λ s. told (told c.args.findings.now (at code.BadDimension written)) (at code.BadDimension (when (is_wrong_dimension c.args.fit) s))) c.type_word.ensures
    ∙ sym (told_at c.args.findings.now code.BadDimension written (when (is_wrong_dimension c.args.fit) (type_word c.args.t.now)))
