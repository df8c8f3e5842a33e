use Rattle.std.proofs.Common.{Bool, None, ap, if◌then◌else◌, sym, ◌∙◌}
use Rattle.sy_constructs.proofs.SoundLemmas.{none_is_empty, some_is_not_empty}
use Rattle.sy_declare.proofs.names.type_if_none.Goals as goal

pub returns-in-None : goal.returns-in-None
returns-in-None c = λ ds e. sym (ap (λ (b : Bool). if b then c.args.what else None) (none_is_empty ds (c.in-None.ensures ∙ e)))

pub returns-in-Some : goal.returns-in-Some
returns-in-Some c = λ ds e. sym (ap (λ (b : Bool). if b then c.args.what else None) (some_is_not_empty _ ds (c.in-Some.ensures ∙ e)))
