use Rattle.loc_dissolve.specs.Keeping.{AreKeptTo}
use Rattle.loc_dissolve.proofs.kept.kept_pairs.Given as goal

-- the edges before stand behind the groups that keep them
abbrev pub invariant-loop-edge : goal.invariant-loop-edge
invariant-loop-edge l = AreKeptTo l.table l.groups l.count l.edge l.kept.items
