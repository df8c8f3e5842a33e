use Rattle.std.proofs.Common.{refl}
use Rattle.sy_members.proofs.words.error_named.Goals as goal

pub returns : goal.returns
returns c = rw (c.error_or.ensures, c.error_or-second.ensures, c.error_or-third.ensures, c.error_or-fourth.ensures, c.error_or-fifth.ensures) refl
