use Rattle.std.proofs.Common.{◌≡◌, rules}
use Rattle.sy_meaning.specs.Library.{library_member, one_or_all}
use Rattle.sy_meaning.specs.Words.{extents_of}
use Rattle.sy_library.proofs.WorldLemmas.{there}
use Rattle.sy_library.proofs.members.library_member.Goals as goal

pub returns-in-Get : goal.returns-in-Get
returns-in-Get c =
    let same : one_or_all c.args.line (extents_of c.args.what c.args.object.now) c.args.given.now c.args.world.now ≡ library_member c.args.member c.args.line c.args.what c.args.object.now c.args.given.now c.args.world.now = search rules in
    there c.get.result
    (one_or_all c.args.line (extents_of c.args.what c.args.object.now) c.args.given.now)
    (library_member c.args.member c.args.line c.args.what c.args.object.now c.args.given.now)
    c.args.world.now
    c.get.ensures
    same
