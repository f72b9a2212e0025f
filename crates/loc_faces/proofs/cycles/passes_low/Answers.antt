use Rattle.std.proofs.Common.{◌≡◌, arith}
use Rattle.loc_half.specs.HalfEdgeLists.{next_in}
use Rattle.loc_half.proofs.Orbits.{next_within}
use Rattle.loc_faces.proofs.cycles.passes_low.Goals as goal

pub edge-requires-else-from-to : goal.edge-requires-else-from-to
edge-requires-else-from-to c =
    let is : c.next.result ≡ next_in c.args.half.now c.args.h = c.next.ensures in
    omega (arith, next_within c.args.table.now c.law.ensures.in_order c.args.half.now c.requires.half c.args.h c.requires.in_range, is)
