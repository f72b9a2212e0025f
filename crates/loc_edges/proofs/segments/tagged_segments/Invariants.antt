use Rattle.std.proofs.Common.{◌≡◌, take}
use Rattle.std.specs.Prelude.{All}
use Rattle.loc_rings.specs.Values.{IsRing}
use Rattle.loc_edges.specs.{Layers.layer_rings, Tagged.tagged_from}
use Rattle.loc_edges.proofs.segments.tagged_segments.Given as goal

-- the segments of the features before have been put there, and their rings are closed
abbrev pub invariant-loop-n : goal.invariant-loop-n
invariant-loop-n l = (All (All IsRing) (layer_rings (take l.n l.features))) × (l.tagged.items ≡ tagged_from 0 (layer_rings (take l.n l.features)))
