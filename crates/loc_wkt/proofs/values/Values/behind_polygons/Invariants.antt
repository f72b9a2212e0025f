use Rattle.std.proofs.Common.{length}
use Rattle.loc_wkt.specs.{Lists.wide_polygon_at, Passes.after_polygon}
use Rattle.loc_wkt.proofs.LoopLemmas.{IsListSoFar}
use Rattle.loc_wkt.proofs.values.Values.behind_polygons.Given as goal

abbrev pub invariant-loop-more : goal.invariant-loop-more
invariant-loop-more l = IsListSoFar wide_polygon_at after_polygon l.fn.self l.self l.fn.text l.rest

abbrev pub decreases-loop-more : goal.decreases-loop-more
decreases-loop-more l = length l.rest
