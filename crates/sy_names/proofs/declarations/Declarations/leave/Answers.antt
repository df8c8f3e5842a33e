use Rattle.std.proofs.Common.{sym, ap, ◌∙◌}
use Rattle.sy_rules.specs.Names.{outside}
use Rattle.sy_names.proofs.IndexLemmas.{outside-within}
use Rattle.sy_names.proofs.declarations.Declarations.leave.Goals as goal

pub loop-self-preserved : goal.loop-self-preserved
loop-self-preserved c =
    ap (outside c.args.depth) c.pop.ensures
    ∙ outside-within c.args.depth c.loop-self.self (sym c.is_within.ensures ∙ c.loop-self-test.true)
    ∙ c.loop-self.invariant
