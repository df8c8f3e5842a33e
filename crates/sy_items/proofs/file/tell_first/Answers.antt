use Rattle.std.proofs.Common.{◌∙◌}
use Rattle.sy_constructs.proofs.SoundLemmas.{nothing_told, one_told}
use Rattle.sy_items.proofs.file.tell_first.Goals as goal

pub returns-in-None : goal.returns-in-None
returns-in-None c = λ ds e. nothing_told c.args.findings.now ds (c.in-None.ensures ∙ e)

pub returns-in-Some : goal.returns-in-Some
returns-in-Some c = λ ds e. c.tell.ensures ∙ one_told c.args.findings.now c.in-Some.d ds (c.in-Some.ensures ∙ e)
