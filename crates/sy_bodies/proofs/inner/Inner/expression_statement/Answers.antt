use Rattle.std.proofs.Common.{true}
use Rattle.sy_bodies.proofs.StepLemmas.{placed_whole}
use Rattle.sy_bodies.proofs.inner.Inner.expression_statement.Goals as goal
use Rattle.sy_declare.specs.Trees.{full}
use Rattle.sy_typed.specs.declared.tree.TypedStmt.TheVariants as typed

pub returns : goal.returns
returns g c = placed_whole (λ p. typed.Expression p.1 c.args.e) c.args.own c.in_ok-start.start (full c.args.f.now true) c.args.w.now _ _ _ _ (c.in_ok-start.ensures true) c.begin_statement-outside.ensures.there c.begin_statement-outside.ensures.outside c.in_ok-found.ensures
