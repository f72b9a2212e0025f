use Rattle.std.proofs.Common.{◌≡◌, ◌++◌}
use Rattle.loc_spec_plane.specs.Rings.{ring_segments}
use Rattle.loc_spans.proofs.segments.add_ring.Given as goal

-- pairs of points are taken, and the segments of what is left of the ring complete those that stand there
abbrev pub invariant-loop-pair : goal.invariant-loop-pair
invariant-loop-pair l = (l.pair-iterator.size ≡ 2) × (l.edges.items ++ ring_segments l.pair-iterator.rest.now ≡ l.fn.edges.items ++ ring_segments l.ring)
