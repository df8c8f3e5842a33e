use Rattle.std.proofs.Common.{◌≡◌, ap, ◌∙◌, [], ◌++◌, ◌&&◌, not}
use Rattle.sy_note.specs.declared.Code.TheVariants as code
use Rattle.sy_tree.specs.declared.tree.Argument.TheOpen.{Expr-F}
use Rattle.sy_rules.specs.ExprRules.{in_type, wide_literal, no_dimension, bad_declaration, is_wrong_dimension, is_wrong_arguments, is_wrong_element, unread_arguments}
use Rattle.sy_rules.specs.Faults.{at}
use Rattle.sy_rules.specs.Foreign.{is_host, made_in_host, type_start, type_word}
use Rattle.sy_rules.specs.Objects.{object_row}
use Rattle.sy_rules.specs.Seen.{when}
use Rattle.sy_findings.specs.Told.{told}
use Rattle.sy_constructs.proofs.SoundLemmas.{told_on, told_last}
use Rattle.sy_calls.proofs.library.tell_object.Goals as goal

pub returns : goal.returns
returns c = λ b s e.
    let n = c.args.names.now in
    let t = c.args.t.now in
    let xs = c.args.xs.now in
    let fit = (object_row t xs).fit in
    let before = c.args.findings.now in
    let past_literal = c.wide_in_type.new.findings in
    let past_dimension = c.bad_dimension.new.findings in
    let past_event = c.bad_event.new.findings in
    let past_arguments = c.wrong_arguments.new.findings in
    let past_element = c.wrong_element.new.findings in
    let past_reads = c.arguments_read.new.findings in
    let after = c.made_outside.new.findings in
    let literal = at code.BadLiteral (in_type wide_literal t) in
    let dimension = at code.BadDimension (in_type no_dimension t ++ when (is_wrong_dimension fit) (type_word t)) in
    let event = at code.BadDeclaration (bad_declaration (Expr-F.Construct t b s xs e)) in
    let arguments = at code.WrongArguments (when (is_wrong_arguments fit) (type_word t)) in
    let element = at code.BadElement (when (is_wrong_element fit) (type_word t)) in
    let reads = at code.ModeBroken (unread_arguments xs) in
    let outside = at code.NotInHost (when (is_host n.setting.within && not (made_in_host t)) (type_start t)) in
    let dimension_told : past_dimension ≡ told past_literal dimension = c.bad_dimension.ensures ∙ ap (λ k. told past_literal (at code.BadDimension (in_type no_dimension t ++ when (is_wrong_dimension k) (type_word t)))) c.requires in
    let arguments_told : past_arguments ≡ told past_event arguments =
    c.wrong_arguments.ensures ∙ ap (λ k. told past_event (at code.WrongArguments (when (is_wrong_arguments k) c.type_word.result))) c.requires
    ∙ ap (λ w. told past_event (at code.WrongArguments (when (is_wrong_arguments fit) w))) c.type_word.ensures in
    let element_told : past_element ≡ told past_arguments element =
    c.wrong_element.ensures ∙ ap (λ k. told past_arguments (at code.BadElement (when (is_wrong_element k) c.type_word-2.result))) c.requires
    ∙ ap (λ w. told past_arguments (at code.BadElement (when (is_wrong_element fit) w))) c.type_word-2.ensures in
    let outside_told : after ≡ told past_reads outside =
    c.made_outside.ensures ∙ ap (λ z. told past_reads (at code.NotInHost (when (is_host z.within && not (made_in_host t)) (type_start t)))) c.setting.ensures in
    told_on before past_literal after literal (dimension ++ (event ++ (arguments ++ (element ++ (reads ++ (outside ++ [])))))) c.wide_in_type.ensures
    (told_on past_literal past_dimension after dimension (event ++ (arguments ++ (element ++ (reads ++ (outside ++ []))))) dimension_told
    (told_on past_dimension past_event after event (arguments ++ (element ++ (reads ++ (outside ++ [])))) (c.bad_event.ensures b s e xs)
    (told_on past_event past_arguments after arguments (element ++ (reads ++ (outside ++ []))) arguments_told
    (told_on past_arguments past_element after element (reads ++ (outside ++ [])) element_told
    (told_on past_element past_reads after reads (outside ++ []) c.arguments_read.ensures
    (told_last past_reads after outside outside_told))))))
