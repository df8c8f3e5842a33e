-- What makes the numbers of a board fit their types.
use Rattle.std.specs.Prelude.{◌+◌, ◌<◌, ◌^◌, length}
use Rattle.sy_onecopy.specs.State.{Board}
use Rattle.sy_entries.specs.Sizes.{AreNumbered}

-- one more of everything still has a number of 32 bits
pub record HasRoom (b : Board) : Type 0 where
  pub buffers : AreNumbered b.buffers
  pub more_buffers : length b.buffers < 2 ^ 32
  pub queues : length b.queues < 2 ^ 32
  pub entries : length b.entries < 2 ^ 32
  pub nodes : b.nodes + 1 < 2 ^ 32
  pub places : b.places + 1 < 2 ^ 32
