use Rattle.std.proofs.Common.{◌≡◌, ◌∷◌, [], rules}
use Rattle.std.specs.Prelude.{slice_get}
use Rattle.sy_meaning.specs.declared.runs.World.{World}
use Rattle.sy_meaning.specs.Locations.{coordinate, index_accessor, index_into, indexes}
use Rattle.sy_meaning.specs.Outcomes.{gives}
use Rattle.sy_meaning.specs.Words.{accessor_extents, accessor_first, accessor_owner, count_of, natural, naturals, of_naturals}
use Rattle.sy_lvalues.proofs.WorldLemmas.{there}
use Rattle.sy_lvalues.proofs.indexes.index_into.Goals as goal

pub returns-in_ok-count_of-in-Vector : goal.returns-in_ok-count_of-in-Vector
returns-in_ok-count_of-in-Vector c =
    let same : gives {S = World} (of_naturals (natural 0 c.args.object.now ∷ c.in_ok-count_of-in-Vector.field-0 ∷ [])) c.args.world.now ≡ index_into c.args.line c.args.what c.args.index_type c.args.object.now c.args.index.now c.args.world.now = search rules in
    there c.element_in.result
    (gives {S = World} (of_naturals (natural 0 c.args.object.now ∷ c.in_ok-count_of-in-Vector.field-0 ∷ [])))
    (index_into c.args.line c.args.what c.args.index_type c.args.object.now c.args.index.now)
    c.args.world.now
    c.element_in.ensures
    same

pub returns-in-Range : goal.returns-in-Range
returns-in-Range c =
    let same : coordinate c.args.line (slice_get (naturals 0 c.args.object.now) (count_of c.args.index.now)) c.args.world.now ≡ index_into c.args.line c.args.what c.args.index_type c.args.object.now c.args.index.now c.args.world.now = search rules in
    there c.coordinate.result
    (coordinate c.args.line (slice_get (naturals 0 c.args.object.now) (count_of c.args.index.now)))
    (index_into c.args.line c.args.what c.args.index_type c.args.object.now c.args.index.now)
    c.args.world.now
    c.coordinate.ensures
    same

pub returns-in-Id : goal.returns-in-Id
returns-in-Id c =
    let same : coordinate c.args.line (slice_get (naturals 0 c.args.object.now) (count_of c.args.index.now)) c.args.world.now ≡ index_into c.args.line c.args.what c.args.index_type c.args.object.now c.args.index.now c.args.world.now = search rules in
    there c.coordinate-in-Id.result
    (coordinate c.args.line (slice_get (naturals 0 c.args.object.now) (count_of c.args.index.now)))
    (index_into c.args.line c.args.what c.args.index_type c.args.object.now c.args.index.now)
    c.args.world.now
    c.coordinate-in-Id.ensures
    same

pub returns-in-Item : goal.returns-in-Item
returns-in-Item c =
    let same : coordinate c.args.line (slice_get (naturals 0 c.args.object.now) (count_of c.args.index.now)) c.args.world.now ≡ index_into c.args.line c.args.what c.args.index_type c.args.object.now c.args.index.now c.args.world.now = search rules in
    there c.coordinate-in-Item.result
    (coordinate c.args.line (slice_get (naturals 0 c.args.object.now) (count_of c.args.index.now)))
    (index_into c.args.line c.args.what c.args.index_type c.args.object.now c.args.index.now)
    c.args.world.now
    c.coordinate-in-Item.ensures
    same

pub returns-in_default : goal.returns-in_default
returns-in_default c =
    let same : index_accessor c.args.line (accessor_owner c.args.object.now) (accessor_first c.args.object.now) (accessor_extents c.args.object.now) (indexes c.args.index_type c.args.index.now) c.args.world.now ≡ index_into c.args.line c.args.what c.args.index_type c.args.object.now c.args.index.now c.args.world.now = search rules in
    there c.accessor_at.result
    (index_accessor c.args.line (accessor_owner c.args.object.now) (accessor_first c.args.object.now) (accessor_extents c.args.object.now) (indexes c.args.index_type c.args.index.now))
    (index_into c.args.line c.args.what c.args.index_type c.args.object.now c.args.index.now)
    c.args.world.now
    c.accessor_at.ensures
    same
