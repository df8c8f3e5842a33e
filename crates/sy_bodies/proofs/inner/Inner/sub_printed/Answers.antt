use Rattle.sy_bodies.proofs.inner.Inner.sub_printed.Goals as goal

pub printed-requires : goal.printed-requires
printed-requires g c = c.requires.below
