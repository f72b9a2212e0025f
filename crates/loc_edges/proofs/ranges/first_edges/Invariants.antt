use Rattle.loc_edges.proofs.Firsts.{AreCounted}
use Rattle.loc_edges.proofs.ranges.first_edges.Given as goal

-- the edges before are counted
abbrev pub invariant-loop-n : goal.invariant-loop-n
invariant-loop-n l = AreCounted l.ends l.corners l.n l.firsts.items
