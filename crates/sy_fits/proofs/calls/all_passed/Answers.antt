use Rattle.std.proofs.Common.{◌≡◌, sym, ◌∙◌}
use Rattle.std.proofs.lemmas.List.{drop_more}
use Rattle.sy_rules.specs.declared.names.Passed.TheVariants.{Integer}
use Rattle.sy_fits.proofs.CallLemmas.{too_few}
use Rattle.sy_fits.proofs.calls.all_passed.Goals as goal

pub returns-in_default : goal.returns-in_default
returns-in_default c =
    sym (too_few _ _ _ _ (drop_more c.args.ps.now c.loop-p.p-index Integer c.loop-p-test.true) c.in_default.len_below) ∙ c.loop-p.invariant
