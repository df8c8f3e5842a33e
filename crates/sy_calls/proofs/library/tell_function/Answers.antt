use Rattle.std.proofs.Common.{◌≡◌, ap, ◌∙◌, [], ◌++◌}
use Rattle.sy_note.specs.declared.Code.TheVariants as code
use Rattle.sy_rules.specs.ExprRules.{is_wrong_dimension, is_wrong_arguments, is_wrong_element, unread_arguments}
use Rattle.sy_rules.specs.Faults.{at}
use Rattle.sy_rules.specs.Seen.{when}
use Rattle.sy_findings.specs.Told.{told}
use Rattle.sy_calls.specs.Library.{not_for_host}
use Rattle.sy_constructs.proofs.SoundLemmas.{told_on, told_last}
use Rattle.sy_calls.proofs.library.tell_function.Goals as goal

pub returns : goal.returns
returns c =
    let w = c.args.within in
    let q = c.args.q in
    let fit = c.args.fit in
    let xs = c.args.xs.now in
    let before = c.args.findings.now in
    let past_dimension = c.wrong_dimension.new.findings in
    let past_arguments = c.wrong_arguments.new.findings in
    let past_element = c.wrong_element.new.findings in
    let past_reads = c.arguments_read.new.findings in
    let after = c.tell_if.new.self in
    let dimension = at code.BadDimension (when (is_wrong_dimension fit) q.name) in
    let arguments = at code.WrongArguments (when (is_wrong_arguments fit) q.name) in
    let element = at code.BadElement (when (is_wrong_element fit) q.name) in
    let reads = at code.ModeBroken (unread_arguments xs) in
    let outside = at code.NotInHost (when (not_for_host w c.args.function) q.namespace) in
    let last : after ≡ told past_reads outside = c.tell_if.ensures ∙ ap (λ b. told past_reads (at code.NotInHost (when b q.namespace))) c.not_for_host-is_outside.ensures in
    told_on before past_dimension after dimension (arguments ++ (element ++ (reads ++ (outside ++ [])))) c.wrong_dimension.ensures
    (told_on past_dimension past_arguments after arguments (element ++ (reads ++ (outside ++ []))) c.wrong_arguments.ensures
    (told_on past_arguments past_element after element (reads ++ (outside ++ [])) c.wrong_element.ensures
    (told_on past_element past_reads after reads (outside ++ []) c.arguments_read.ensures (told_last past_reads after outside last))))
