use Rattle.std.proofs.Common.{◌+◌}
use Rattle.loc_verify.proofs.LevelSteps.{AreChildrenTo}
use Rattle.loc_verify.proofs.levels.next_level.Given as goal

abbrev pub invariant-loop-before : goal.invariant-loop-before
invariant-loop-before l = AreChildrenTo l.held.content.nodes l.version l.level (l.before + 1) l.next.items
