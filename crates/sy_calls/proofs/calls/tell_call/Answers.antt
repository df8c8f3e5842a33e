use Rattle.std.proofs.Common.{◌≡◌, sym, ap, ◌∙◌}
use Rattle.std.specs.Prelude.{is_none, flat_map}
use Rattle.sy_note.specs.declared.Code.TheVariants as code
use Rattle.sy_rules.specs.ExprRules.{is_wrong_call, is_bad_call}
use Rattle.sy_rules.specs.Faults.{at}
use Rattle.sy_rules.specs.Seen.{when, unread}
use Rattle.sy_findings.specs.Told.{told}
use Rattle.sy_constructs.proofs.SoundLemmas.{told_four}
use Rattle.sy_calls.proofs.calls.tell_call.Goals as goal

pub returns : goal.returns
returns c =
    let n = c.args.names.now in
    let v = c.args.found in
    let s = c.args.spot in
    let xs = c.args.arguments.now in
    let f = c.args.findings.now in
    let unknown = at code.UnknownName (when (is_none v) s) in
    let wrong = at code.WrongArguments (when (is_wrong_call n v xs) s) in
    let unread_all = at code.ModeBroken (flat_map unread xs) in
    let bad = at code.BadCall (when (is_bad_call n v) s) in
    let first : c.tell_if.new.self ≡ told f unknown = c.tell_if.ensures ∙ ap (λ b. told f (at code.UnknownName (when b s))) c.is_unknown.ensures in
    let second : c.tell_if-2.new.self ≡ told (told f unknown) wrong =
    c.tell_if-2.ensures ∙ ap (λ g. told g (at code.WrongArguments (when c.is_wrong_call.result s))) first
    ∙ ap (λ b. told (told f unknown) (at code.WrongArguments (when b s))) c.is_wrong_call.ensures in
    c.tell_if-3.ensures
    ∙ ap (λ b. told c.all_read.new.findings (at code.BadCall (when b s))) c.is_bad_call.ensures
    ∙ ap (λ g. told g bad) (c.all_read.ensures ∙ ap (λ g. told g unread_all) second)
    ∙ sym (told_four f unknown wrong unread_all bad)
