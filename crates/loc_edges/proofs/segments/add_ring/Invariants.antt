use Rattle.std.proofs.Common.{◌≡◌, ◌-◌, ◌++◌, drop}
use Rattle.loc_spec_plane.specs.Rings.{ring_segments}
use Rattle.loc_edges.specs.Tagged.{tagged_by}
use Rattle.loc_edges.proofs.segments.add_ring.Given as goal

-- the segments of what is left of the ring complete those that stand there
abbrev pub invariant-loop-n : goal.invariant-loop-n
invariant-loop-n l = l.tagged.items ++ tagged_by l.feature (ring_segments (drop (l.n - 1) l.ring)) ≡ l.fn.tagged.items ++ tagged_by l.feature (ring_segments l.ring)
