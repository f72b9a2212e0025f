use Rattle.std.proofs.Common.{◌≡◌, take}
use Rattle.std.specs.List.{dedup}
use Rattle.loc_spec_plane.specs.Points.{same_edge}
use Rattle.loc_edges.specs.Tagged.{segments_in}
use Rattle.loc_edges.proofs.grouped.distinct_edges.Given as goal

-- the edges of the segments before stand there, each once
abbrev pub invariant-loop-n : goal.invariant-loop-n
invariant-loop-n l = l.edges.items ≡ dedup same_edge (segments_in (take l.n l.tagged))
