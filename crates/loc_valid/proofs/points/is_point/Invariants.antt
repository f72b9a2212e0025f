use Rattle.std.proofs.Common.{◌≡◌, ◌-◌, drop}
use Rattle.loc_spec_plane.specs.Rings.{ring_segments}
use Rattle.loc_valid.proofs.points.is_point.Given as goal

abbrev pub invariant-loop-i : goal.invariant-loop-i
invariant-loop-i l = ring_segments l.ring ≡ ring_segments (drop (l.i - 1) l.ring)
