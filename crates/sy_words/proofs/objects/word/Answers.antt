use Rattle.std.proofs.Common.{◌≡◌, pos, rules}
use Rattle.std.specs.Prelude.{None, slice_get}
use Rattle.sy_words.proofs.ObjectLemmas.{not_there}
use Rattle.sy_words.proofs.objects.word.Goals as goal

pub returns-in-None : goal.returns-in-None
returns-in-None c =
    let none : None ≡ slice_get c.args.object.now c.args.k = search rules in
    not_there c.args.object.now c.args.k (pos 0) none
