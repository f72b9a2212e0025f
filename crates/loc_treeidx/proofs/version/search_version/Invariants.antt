use Rattle.std.proofs.Common.{[], get_or, ◌-◌}
use Rattle.loc_treeidx.proofs.Searching.{IsSearch}
use Rattle.loc_treeidx.proofs.version.search_version.Given as goal

-- the walk goes down the tree of the version, one node each step
abbrev pub invariant-down : goal.invariant-down
invariant-down g l = IsSearch l.views l.p l.versions l.version (get_or l.versions.sealed_lists l.version []) l.fn.steps l.steps l.next l.floor

abbrev pub decreases-down : goal.decreases-down
decreases-down g l = 42 - (l.steps - l.fn.steps)
