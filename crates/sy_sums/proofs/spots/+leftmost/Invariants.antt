use Rattle.sy_sums.proofs.spots.+leftmost.Given as goal

abbrev pub decreases-leftmost : goal.decreases-leftmost
decreases-leftmost l = l.depth
