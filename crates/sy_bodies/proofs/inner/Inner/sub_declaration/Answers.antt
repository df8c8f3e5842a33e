use Rattle.sy_bodies.proofs.inner.Inner.sub_declaration.Goals as goal

pub declaration-requires : goal.declaration-requires
declaration-requires g c = c.requires.below
