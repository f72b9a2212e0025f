use Rattle.std.proofs.Common.{◌≡◌, take, map}
use Rattle.loc_spec_plane.specs.Tables.{edge}
use Rattle.loc_dissolve.proofs.chosen.edges_by_points.Given as goal

-- the edges before stand there
abbrev pub invariant-loop-edge : goal.invariant-loop-edge
invariant-loop-edge l = l.edges.items ≡ map (edge l.table) (take l.edge-index l.kept)
