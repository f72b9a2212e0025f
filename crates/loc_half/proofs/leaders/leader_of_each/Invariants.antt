use Rattle.loc_half.specs.Rounds.{AreMarked}
use Rattle.loc_half.proofs.leaders.leader_of_each.Given as goal

-- the half-edges before are marked
abbrev pub invariant-loop-h : goal.invariant-loop-h
invariant-loop-h l = AreMarked l.nexts l.leaders.items l.h
