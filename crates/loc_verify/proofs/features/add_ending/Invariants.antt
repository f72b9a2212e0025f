use Rattle.std.proofs.Common.{take}
use Rattle.loc_verify.proofs.Odd.{GathersOdd}
use Rattle.loc_verify.proofs.features.add_ending.Given as goal

abbrev pub invariant-loop-edge : goal.invariant-loop-edge
invariant-loop-edge l = GathersOdd l.table l.fn.row.items l.row.items (take l.edge-index l.edge-items)
