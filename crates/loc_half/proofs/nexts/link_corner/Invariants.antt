use Rattle.loc_half.proofs.Linked.{IsLinking}
use Rattle.loc_half.proofs.nexts.link_corner.Given as goal

-- the half-edges that arrive by the edges before are linked
abbrev pub invariant-loop-edge : goal.invariant-loop-edge
invariant-loop-edge l = IsLinking l.table l.corner l.turns l.initial.nexts l.nexts l.edge-index l.before
