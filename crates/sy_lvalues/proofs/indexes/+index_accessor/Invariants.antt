use Rattle.std.proofs.Common.{length}
use Rattle.sy_lvalues.proofs.indexes.+index_accessor.Given as goal

abbrev pub decreases-index_accessor : goal.decreases-index_accessor
decreases-index_accessor l = length l.extents.now
