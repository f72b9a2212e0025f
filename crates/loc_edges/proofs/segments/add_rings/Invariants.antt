use Rattle.loc_spec_text.specs.Reading.{all_rings}
use Rattle.std.proofs.Common.{◌≡◌, ℕ, ◌<◌, ◌++◌, get_or, take}
use Rattle.loc_rings.specs.Values.{IsRing}
use Rattle.loc_spec_plane.specs.Rings.{Ring, segments}
use Rattle.loc_edges.specs.Tagged.{tagged_by}
use Rattle.loc_edges.proofs.segments.add_rings.Given as goal

-- the segments of the rings before have been put there, and each of those is closed
abbrev pub invariant-loop-n : goal.invariant-loop-n
invariant-loop-n l = (l.tagged.items ≡ l.fn.tagged.items ++ tagged_by l.feature (segments (take l.n (all_rings l.rings)))) × ((k : ℕ) (d : Ring) → k < l.n → IsRing (get_or (all_rings l.rings) k d))
