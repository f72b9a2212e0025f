use Rattle.std.proofs.Common.{Some}
use Rattle.loc_persist.specs.Meaning.{present_nodes}
use Rattle.loc_treeidx.specs.Gaps.{HangsBetween}
use Rattle.loc_treeidx.proofs.Heights.{height}
use Rattle.loc_treeidx.proofs.neighbours.next_above.Given as goal

abbrev pub invariant-down : goal.invariant-down
invariant-down l = HangsBetween l.versions l.next (Some l.edge) l.above

abbrev pub decreases-down : goal.decreases-down
decreases-down l = height 42 (present_nodes l.versions) l.next
