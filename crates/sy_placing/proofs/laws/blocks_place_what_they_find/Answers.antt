use Rattle.sy_placing.proofs.PlacingLemmas.{block_has_places, statement_places, fault_places, places_append}
use Rattle.sy_placing.proofs.laws.blocks_place_what_they_find.Goals as goal

pub returns-clause-in_blocks : goal.returns-clause-in_blocks
returns-clause-in_blocks c = block_has_places

pub returns-clause-in_statements : goal.returns-clause-in_statements
returns-clause-in_statements c = statement_places

pub returns-clause-faults : goal.returns-clause-faults
returns-clause-faults c = fault_places

pub returns-clause-together : goal.returns-clause-together
returns-clause-together c = places_append
