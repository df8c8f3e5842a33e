use Rattle.sy_io.proofs.Steady.{IsOk-from_no_err}
use Rattle.sy_io.proofs.tests.read_steadily.Goals as goal

pub unwrap-requires : goal.unwrap-requires
unwrap-requires c = IsOk-from_no_err _ (λ err. c.requires _ (c.read.ensures.fails.0 err))
