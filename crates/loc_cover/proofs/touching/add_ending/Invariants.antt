use Rattle.std.proofs.Common.{take}
use Rattle.loc_cover.proofs.Gathered.{Gathers}
use Rattle.loc_cover.proofs.touching.add_ending.Given as goal

-- the edges before are gathered
abbrev pub invariant-loop-edge : goal.invariant-loop-edge
invariant-loop-edge l = Gathers l.table l.fn.row.items l.row.items (take l.edge-index l.edge-items)
