use Rattle.std.proofs.Common.{◌≡◌}
use Rattle.loc_spec_plane.specs.Lists.{numbers}
use Rattle.loc_valid.specs.Pinches.{ring_ends_of}
use Rattle.loc_valid.proofs.pinches.ends_of_rings.Given as goal

abbrev pub invariant-loop-edge : goal.invariant-loop-edge
invariant-loop-edge l = l.all.items ≡ ring_ends_of l.table (numbers l.edge)
