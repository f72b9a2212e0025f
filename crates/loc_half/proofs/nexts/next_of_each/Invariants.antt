use Rattle.std.proofs.Common.{◌≡◌, ℕ, ◌<◌, length, get_or}
use Rattle.loc_spec_plane.specs.HalfEdges.{half_edge_count, target, IsNext}
use Rattle.loc_half.proofs.nexts.next_of_each.Given as goal

-- the half-edges that arrive at the corners before have their nexts
abbrev pub invariant-loop-corner : goal.invariant-loop-corner
invariant-loop-corner l = record {
  as_many : length l.nexts.items ≡ half_edge_count l.table;
  each : (h : ℕ) → h < half_edge_count l.table → target l.table h < l.corner → IsNext l.table h (get_or l.nexts.items h 0);
}
