use Rattle.std.proofs.Common.{Some, [], map}
use Rattle.sy_declare.proofs.initializers.direct_initializer.Goals as goal
use Rattle.sy_looks.proofs.LookLemmas.{known_there}
use Rattle.sy_rules.specs.declared.seen.SeenInitializer.TheVariants as seen_initializer
use Rattle.sy_rules.specs.Walk.{arguments, no_role}
use Rattle.sy_typed.specs.declared.tree.TypedInitializer.TheVariants as initializer
use Rattle.sy_walk.specs.Trees.{argument}

pub returns : goal.returns
returns g c = λ s.
    let b = c.args.b in
    known_there (λ p. (Some (seen_initializer.Direct b p.0), Some (initializer.Direct b p.1 c.args.e))) (arguments c.args.taken no_role [] (map argument c.args.xs.now)) c.args.w.now _ (c.in_ok-seen.seen, c.in_ok-seen.trees) c.in_ok-seen.ensures
