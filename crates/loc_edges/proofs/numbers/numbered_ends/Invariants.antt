use Rattle.std.proofs.Common.{◌≡◌, ◌≤◌, ◌^◌, take, map}
use Rattle.loc_spec_plane.specs.{Points.Edge, Tables.number_of}
use Rattle.loc_edges.proofs.numbers.numbered_ends.Given as goal

-- the ends of the edges before have their numbers
abbrev pub invariant-loop-edge : goal.invariant-loop-edge
invariant-loop-edge l = (l.ends.items ≡ map (λ (e : Edge). (number_of l.corners e.lo, number_of l.corners e.hi)) (take l.edge-index l.edges)) × (l.lo ≤ 2 ^ 20)
