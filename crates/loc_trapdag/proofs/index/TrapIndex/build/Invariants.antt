use Rattle.std.proofs.Common.{◌≡◌, take}
use Rattle.loc_trapdag.specs.Graphs.{IsGraphOf}
use Rattle.loc_trapdag.proofs.index.TrapIndex.build.Given as goal

-- the edges so far are added
abbrev pub invariant-loop-edge : goal.invariant-loop-edge
invariant-loop-edge l = record { graph : IsGraphOf l.ranks l.index; added : l.index.map.added ≡ take l.edge-index l.edge-items }
