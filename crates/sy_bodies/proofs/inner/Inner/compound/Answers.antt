use Rattle.sy_bodies.proofs.inner.Inner.compound.Goals as goal
use Rattle.sy_looks.proofs.LookLemmas.{known_there}
use Rattle.sy_rules.specs.Walk.{block, block_as}
use Rattle.sy_typed.specs.declared.tree.TypedStmt.TheVariants as typed

pub returns : goal.returns
returns g c = known_there (λ b. typed.Compound b) (block_as c.args.own (block c.args.b.now)) c.args.w.now _ _ c.in_ok-tree.ensures
