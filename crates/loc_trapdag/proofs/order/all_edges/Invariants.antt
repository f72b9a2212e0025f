use Rattle.std.proofs.Common.{◌≡◌}
use Rattle.loc_spec_plane.specs.Lists.{numbers}
use Rattle.loc_trapdag.proofs.order.all_edges.Given as goal

-- the first edges
abbrev pub invariant-loop-edge : goal.invariant-loop-edge
invariant-loop-edge l = l.order.items ≡ numbers l.edge
