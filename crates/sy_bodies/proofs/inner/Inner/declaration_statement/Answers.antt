use Rattle.sy_bodies.proofs.StartLemmas.{declaration_begins}
use Rattle.sy_bodies.proofs.StepLemmas.{placed_whole}
use Rattle.sy_bodies.proofs.inner.Inner.declaration_statement.Goals as goal
use Rattle.sy_declare.specs.Trees.{declaration}
use Rattle.sy_typed.specs.declared.tree.TypedStmt.TheVariants as typed

pub returns : goal.returns
returns g c = placed_whole (λ p. typed.Declaration p.1) c.args.own c.declaration_start.result (declaration c.args.d.now) c.args.w.now _ _ _ _ (declaration_begins c.args.d.now _ c.declaration_start.ensures) c.begin_statement-outside.ensures.there c.begin_statement-outside.ensures.outside c.in_ok-found.ensures
