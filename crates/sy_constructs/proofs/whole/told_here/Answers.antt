use Rattle.std.proofs.Common.{sym, ◌∙◌}
use Rattle.sy_constructs.proofs.SoundLemmas.{nothing_told, one_told, none_is_empty}
use Rattle.sy_constructs.proofs.whole.told_here.Goals as goal

pub returns-in-None-clause-found : goal.returns-in-None-clause-found
returns-in-None-clause-found c = λ ds e. nothing_told c.args.findings.now ds (c.in-None.ensures ∙ e)

pub returns-in-None-clause-nothing : goal.returns-in-None-clause-nothing
returns-in-None-clause-nothing c = λ ds e. sym (none_is_empty ds (c.in-None.ensures ∙ e))

pub returns-in-Some-clause-found : goal.returns-in-Some-clause-found
returns-in-Some-clause-found c = λ ds e. c.tell.ensures ∙ one_told c.args.findings.now c.in-Some.d ds (c.in-Some.ensures ∙ e)
