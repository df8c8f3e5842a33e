use Rattle.std.proofs.Common.{Some}
use Rattle.sy_declare.proofs.initializers.copy_initializer.Goals as goal
use Rattle.sy_looks.proofs.LookLemmas.{known_there}
use Rattle.sy_rules.specs.declared.seen.SeenInitializer.TheVariants as seen_initializer
use Rattle.sy_rules.specs.Names.{where_taken}
use Rattle.sy_rules.specs.Walk.{expr}
use Rattle.sy_typed.specs.declared.tree.TypedInitializer.TheVariants as initializer

pub returns : goal.returns
returns g c = λ s.
    known_there (λ p. (Some (seen_initializer.Copy p.0), Some (initializer.Copy p.1))) (where_taken c.args.taken (expr c.args.a.now)) c.args.w.now _ (c.in_ok-seen.seen, c.in_ok-seen.tree) c.in_ok-seen.ensures
