use Rattle.loc_cover.proofs.{Descending.IsDescent, Ranked.rank}
use Rattle.loc_cover.proofs.covers.path_down.Given as goal

abbrev pub invariant-loop-next : goal.invariant-loop-next
invariant-loop-next l = IsDescent l.table l.below l.edge l.path.items l.last

abbrev pub decreases-loop-next : goal.decreases-loop-next
decreases-loop-next l = rank l.table l.last
