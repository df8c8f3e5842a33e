use Rattle.std.proofs.Common.{◌≡◌, ap, rules}
use Rattle.std.specs.Prelude.{None, slice_get}
use Rattle.sy_meaning.specs.Making.{Given}
use Rattle.sy_meaning.specs.Words.{nothing}
use Rattle.sy_state.proofs.PlaceLemmas.{not_there}
use Rattle.sy_typed.specs.declared.things.Thing.TheVariants as thing
use Rattle.sy_making.proofs.arguments.value_at.Goals as goal

pub returns-in-None : goal.returns-in-None
returns-in-None c =
    let none : None ≡ slice_get c.args.given.now c.args.k = search rules in
    ap (λ (one : Given). one.1) (not_there c.args.given.now c.args.k (thing.Void, nothing) none)
