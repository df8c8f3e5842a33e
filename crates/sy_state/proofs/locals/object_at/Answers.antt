use Rattle.std.proofs.Common.{◌≡◌, rules}
use Rattle.std.specs.Prelude.{None, slice_get}
use Rattle.sy_meaning.specs.Words.{nothing}
use Rattle.sy_state.proofs.PlaceLemmas.{not_there}
use Rattle.sy_state.proofs.locals.object_at.Goals as goal

pub returns-in-None : goal.returns-in-None
returns-in-None c =
    let none : None ≡ slice_get c.args.objects.now c.args.n = search rules in
    not_there c.args.objects.now c.args.n nothing none
