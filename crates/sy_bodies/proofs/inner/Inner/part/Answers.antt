use Rattle.sy_bodies.proofs.inner.Inner.part.Goals as goal

pub part-requires : goal.part-requires
part-requires g c = c.requires.below
