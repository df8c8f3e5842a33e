use Rattle.std.proofs.Common.{refl}
use Rattle.sy_members.proofs.words.member_named.Goals as goal

pub returns : goal.returns
returns c = rw (c.member_or.ensures, c.member_or-second.ensures, c.member_or-third.ensures, c.member_or-fourth.ensures, c.member_or-fifth.ensures, c.member_or-sixth.ensures, c.member_or-seventh.ensures, c.member_or-eighth.ensures, c.handler_word-others.ensures) refl
