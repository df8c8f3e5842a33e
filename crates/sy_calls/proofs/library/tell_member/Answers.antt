use Rattle.std.proofs.Common.{◌≡◌, ap, ◌∙◌, [], ◌++◌}
use Rattle.sy_note.specs.declared.Code.TheVariants as code
use Rattle.sy_rules.specs.ExprRules.{is_wrong_dimension, is_wrong_arguments, is_wrong_element, fit_in, is_no_member, unread_arguments}
use Rattle.sy_rules.specs.Faults.{at}
use Rattle.sy_rules.specs.Seen.{when}
use Rattle.sy_findings.specs.Told.{told}
use Rattle.sy_calls.specs.Library.{is_lone_code, changes_constant}
use Rattle.sy_constructs.proofs.SoundLemmas.{told_on, told_last}
use Rattle.sy_calls.proofs.library.tell_member.Goals as goal

pub returns : goal.returns
returns c =
    let t = c.args.taken in
    let a = c.args.a in
    let r = c.args.row in
    let m = c.args.member in
    let x = c.args.word in
    let xs = c.args.xs.now in
    let before = c.args.findings.now in
    let past_dimension = c.wrong_dimension.new.findings in
    let past_arguments = c.wrong_arguments.new.findings in
    let past_member = c.tell_if.new.self in
    let past_code = c.tell_if-2.new.self in
    let past_element = c.wrong_element.new.findings in
    let past_constant = c.tell_if-3.new.self in
    let after = c.arguments_read.new.findings in
    let dimension = at code.BadDimension (when (is_wrong_dimension (fit_in r)) x) in
    let arguments = at code.WrongArguments (when (is_wrong_arguments (fit_in r)) x) in
    let member = at code.UnknownMember (when (is_no_member t a.what r) x) in
    let lone_code = at code.WrongOperand (when (is_lone_code t r) a.first) in
    let element = at code.BadElement (when (is_wrong_element (fit_in r)) x) in
    let constant = at code.NotAssignable (when (changes_constant m r a) a.first) in
    let reads = at code.ModeBroken (unread_arguments xs) in
    let dimension_told : past_dimension ≡ told before dimension = c.wrong_dimension.ensures ∙ ap (λ k. told before (at code.BadDimension (when (is_wrong_dimension k) x))) c.fit_in.ensures in
    let arguments_told : past_arguments ≡ told past_dimension arguments = c.wrong_arguments.ensures ∙ ap (λ k. told past_dimension (at code.WrongArguments (when (is_wrong_arguments k) x))) c.fit_in-2.ensures in
    let member_told : past_member ≡ told past_arguments member = c.tell_if.ensures ∙ ap (λ b. told past_arguments (at code.UnknownMember (when b x))) c.is_no_member.ensures in
    let lone_code_told : past_code ≡ told past_member lone_code = c.tell_if-2.ensures ∙ ap (λ b. told past_member (at code.WrongOperand (when b a.first))) c.is_lone_code.ensures in
    let element_told : past_element ≡ told past_code element = c.wrong_element.ensures ∙ ap (λ k. told past_code (at code.BadElement (when (is_wrong_element k) x))) c.fit_in-3.ensures in
    let constant_told : past_constant ≡ told past_element constant = c.tell_if-3.ensures ∙ ap (λ b. told past_element (at code.NotAssignable (when b a.first))) c.changes_constant.ensures in
    told_on before past_dimension after dimension (arguments ++ (member ++ (lone_code ++ (element ++ (constant ++ (reads ++ [])))))) dimension_told
    (told_on past_dimension past_arguments after arguments (member ++ (lone_code ++ (element ++ (constant ++ (reads ++ []))))) arguments_told
    (told_on past_arguments past_member after member (lone_code ++ (element ++ (constant ++ (reads ++ [])))) member_told
    (told_on past_member past_code after lone_code (element ++ (constant ++ (reads ++ []))) lone_code_told
    (told_on past_code past_element after element (constant ++ (reads ++ [])) element_told
    (told_on past_element past_constant after constant (reads ++ []) constant_told
    (told_last past_constant after reads c.arguments_read.ensures))))))
