use Rattle.loc_half.proofs.Marking.{IsWalk, unmarked}
use Rattle.loc_half.proofs.leaders.mark_cycle.Given as goal

-- the half-edges on the way are marked
abbrev pub invariant-round : goal.invariant-round
invariant-round l = IsWalk l.nexts l.initial.marks l.marks l.first l.h

abbrev pub decreases-round : goal.decreases-round
decreases-round l = unmarked l.nexts l.marks
