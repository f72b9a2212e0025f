use Rattle.std.proofs.Common.{length}
use Rattle.loc_spec_plane.specs.HalfEdges.{half_edge_count, way_to}
use Rattle.loc_half.specs.HalfEdgeLists.{next_in}
use Rattle.loc_faces.proofs.CycleTexts.{IsPutTo}
use Rattle.loc_faces.proofs.texts.put_cycle.Given as goal

-- the corners before are put
abbrev pub invariant-round : goal.invariant-round
invariant-round g l = IsPutTo l.scale l.table l.half l.leader (g.O.Sink.meaning l.fn.sink) (g.O.Sink.meaning l.sink) l.fn.page l.page l.h

abbrev pub decreases-round : goal.decreases-round
decreases-round g l = length (way_to (next_in l.half) l.leader (half_edge_count l.table) l.h)
