use Rattle.sy_bodies.proofs.starts.+leftmost.Given as goal

abbrev pub decreases-leftmost : goal.decreases-leftmost
decreases-leftmost l = l.depth
