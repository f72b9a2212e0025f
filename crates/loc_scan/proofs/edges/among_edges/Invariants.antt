use Rattle.std.proofs.Common.{◌≡◌, ℕ, ◌+◌, ◌<◌, ◌≤◌, false}
use Rattle.loc_spec_plane.specs.{Points.lies_on, Tables.edge}
use Rattle.loc_place.proofs.Highest.{IsHighestAmong}
use Rattle.loc_scan.proofs.edges.among_edges.Given as goal

-- p lies on none of the edges looked at, the floor is the highest of those under p, and each took a step at most
abbrev pub invariant-loop-edge : goal.invariant-loop-edge
invariant-loop-edge g l = record {
  highest : IsHighestAmong l.views l.p l.edge l.floor;
  clear : (e : ℕ) → e < l.edge → lies_on (edge l.views e) l.p ≡ false;
  counted : l.fn.steps ≤ l.steps;
  within : l.steps ≤ l.fn.steps + l.edge;
}
