use Rattle.std.proofs.Common.{ap, length}
use Rattle.sy_io.proofs.Steady.{none_in_empty}
use Rattle.sy_io.proofs.tests.never_fails_unasked.Goals as goal

pub read_steadily-requires : goal.read_steadily-requires
read_steadily-requires g c number there =
    none_in_empty c.new.result.items number (ap length c.new.ensures.items) ((c.new-source.ensures.fails number).0 there)

pub write_steadily-requires-clause-unlisted : goal.write_steadily-requires-clause-unlisted
write_steadily-requires-clause-unlisted g c number there =
    none_in_empty c.new-2.result.items number (ap length c.new-2.ensures.items) ((c.in_ok-sink.ensures.fails number).0 there)
