use Rattle.sy_bodies.proofs.inner.Inner.sub_full.Goals as goal

pub full-requires : goal.full-requires
full-requires g c = c.requires.below
