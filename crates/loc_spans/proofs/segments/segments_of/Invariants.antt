use Rattle.std.proofs.Common.{◌≡◌, ℕ, ◌<◌, get_or, take}
use Rattle.loc_rings.specs.Values.{IsRing}
use Rattle.loc_spec_plane.specs.Rings.{Ring, segments}
use Rattle.loc_spec_text.specs.Reading.{all_rings}
use Rattle.loc_spans.proofs.segments.segments_of.Given as goal

-- the segments of the rings before stand there, and each of those is closed
abbrev pub invariant-loop-n : goal.invariant-loop-n
invariant-loop-n l = (l.edges.items ≡ segments (take l.n (all_rings l.rings))) × ((k : ℕ) (d : Ring) → k < l.n → IsRing (get_or (all_rings l.rings) k d))
