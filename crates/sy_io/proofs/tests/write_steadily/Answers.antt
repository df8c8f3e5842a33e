use Rattle.std.proofs.Common.{⊎_elim}
use Rattle.sy_io.proofs.Steady.{IsOk-from_no_err}
use Rattle.sy_io.proofs.tests.write_steadily.Goals as goal

pub unwrap-requires : goal.unwrap-requires
unwrap-requires c = IsOk-from_no_err _ (λ err. ⊎_elim (λ listed. c.requires.unlisted _ listed) (λ full. c.requires.room full.1) (c.write.ensures.fails.0 err))
