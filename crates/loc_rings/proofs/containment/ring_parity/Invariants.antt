use Rattle.std.proofs.Common.{◌-◌, drop}
use Rattle.loc_spec_plane.specs.Rings.{ring_segments}
use Rattle.loc_rings.proofs.Passes.{IsPassed}
use Rattle.loc_rings.proofs.containment.ring_parity.Given as goal

abbrev pub invariant-loop-i : goal.invariant-loop-i
invariant-loop-i l = IsPassed (ring_segments l.ring) (ring_segments (drop (l.i - 1) l.ring)) l.p l.odd
