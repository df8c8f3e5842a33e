use Rattle.std.proofs.Common.{rules, ◌≤◌, ◌^◌, sym, ◌∙◌, subst}
use Rattle.std.proofs.lemmas.List.{drop_more}
use Rattle.sy_constants.proofs.LiteralLemmas.{too_many}
use Rattle.sy_constants.proofs.literals.to_base.Goals as goal

pub returns-in_default-clause-none : goal.returns-in_default-clause-none
returns-in_default-clause-none c =
    subst (λ v. 2 ^ 64 ≤ v) c.loop-b.invariant
    (too_many _ _ _ _ _ c.requires (drop_more c.args.bytes.now c.loop-b.b-index 0 c.loop-b-test.true) (sym c.is_suffix.ensures ∙ c.if-is_suffix.false) (search rules))
