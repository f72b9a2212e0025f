use Rattle.std.proofs.Common.{length}
use Rattle.loc_spec_plane.specs.HalfEdges.{half_edge_count, way_to}
use Rattle.loc_half.specs.HalfEdgeLists.{next_in}
use Rattle.loc_dissolve.proofs.Rings.{IsWalkedTo}
use Rattle.loc_dissolve.proofs.polygons.ring_from.Given as goal

-- the corners before stand there
abbrev pub invariant-round : goal.invariant-round
invariant-round l = IsWalkedTo l.table l.half l.leader l.corners.items l.h

abbrev pub decreases-round : goal.decreases-round
decreases-round l = length (way_to (next_in l.half) l.leader (half_edge_count l.table) l.h)
