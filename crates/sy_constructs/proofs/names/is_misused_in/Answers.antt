use Rattle.std.proofs.Common.{sym, ap, ◌∙◌}
use Rattle.std.specs.List.{list_any}
use Rattle.sy_rules.specs.ExprRules.{is_misused, is_misused_in}
use Rattle.sy_constructs.proofs.ThreadLemmas.{any_reverse}
use Rattle.sy_constructs.proofs.names.is_misused_in.Goals as goal

pub returns-in-Some : goal.returns-in-Some
returns-in-Some c =
    let p = is_misused c.in-Some.v in
    c.is_misused_in_any.ensures ∙ sym (any_reverse p c.threads.result.now) ∙ ap (list_any p) c.threads.ensures ∙ ap (is_misused_in c.args.names.now.threads) (sym c.in-Some.is)
