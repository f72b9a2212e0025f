use Rattle.std.proofs.Common.{◌<◌, length}
use Rattle.loc_wkt.specs.{Lists.wide_ring_at, Passes.after_ring}
use Rattle.loc_wkt.proofs.LoopLemmas.{IsListSoFar}
use Rattle.loc_wkt.proofs.values.Values.behind_rings.Given as goal

abbrev pub invariant-loop-more : goal.invariant-loop-more
invariant-loop-more l = record { list : IsListSoFar wide_ring_at after_ring l.fn.self l.self l.fn.text l.rest; started : 0 < length l.self.built }

abbrev pub decreases-loop-more : goal.decreases-loop-more
decreases-loop-more l = length l.rest
