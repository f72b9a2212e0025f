use Rattle.std.proofs.Common.{◌≡◌, ℕ, ◌*◌, ◌<◌, length, get_or}
use Rattle.loc_spec_plane.specs.HalfEdges.{origin}
use Rattle.loc_half.proofs.nexts.origin_of_each.Given as goal

-- the half-edges of the edges before have their origins
abbrev pub invariant-loop-edge : goal.invariant-loop-edge
invariant-loop-edge l = record {
  as_many : length l.origins.items ≡ 2 * l.edge;
  each : (h : ℕ) → h < 2 * l.edge → get_or l.origins.items h 0 ≡ origin l.table h;
}
