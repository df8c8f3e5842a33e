use Rattle.sy_entries.proofs.SizeLemmas.{live_fits}
use Rattle.sy_entries.proofs.needs.fitting.Goals as goal

pub live_elements-requires : goal.live_elements-requires
live_elements-requires c = live_fits c.args.buffers.now c.requires
