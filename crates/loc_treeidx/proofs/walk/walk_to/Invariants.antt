use Rattle.std.proofs.Common.{length, ◌-◌}
use Rattle.loc_status.specs.Targets.{is_passed}
use Rattle.loc_treeidx.specs.Gaps.{IsWay}
use Rattle.loc_treeidx.proofs.walk.walk_to.Given as goal

abbrev pub invariant-down : goal.invariant-down
invariant-down l = IsWay (is_passed l.ranks l.target) l.stop l.versions l.path.items l.way

abbrev pub decreases-down : goal.decreases-down
decreases-down l = 44 - length l.path.items
