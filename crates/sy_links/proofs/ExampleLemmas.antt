-- A command with a need that has no_init and doesn't write, computed.
use Rattle.std.proofs.Common.{◌≡◌, pos, [], ◌∷◌, true, None, refl}
use Rattle.sy_access.specs.Needs.{has_cell}
use Rattle.sy_needs.specs.Elements.{cell_after, is_written, starts_zero, at_start}
use Rattle.sy_needs.specs.Versions.{replaces, covers, forgoes}
use Rattle.sy_onecopy.specs.Outcome.{values_at, buffers_after, buffer_after}
use Rattle.sy_copies.specs.Calls.{version}
use Rattle.sy_copies.specs.Commands.{start_of, cells_after}
use Rattle.sy_links.specs.Example.{odd_needs, sevens}

pub replaced : replaces odd_needs 0 2 ≡ true
unfolding replaces covers forgoes
replaced = refl

pub kept : values_at (buffers_after odd_needs [] sevens) 0 ≡ pos 0 ∷ pos 7 ∷ []
unfolding buffers_after buffer_after cell_after is_written starts_zero at_start has_cell
kept = refl

pub lost : version odd_needs [] 0 2 None ≡ pos 0 ∷ pos 0 ∷ []
unfolding version cells_after start_of replaces covers forgoes cell_after is_written starts_zero at_start has_cell
lost = refl
