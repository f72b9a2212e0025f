use Rattle.std.proofs.Common.{◌-◌, length, take}
use Rattle.loc_laws_traps.specs.Sets.{behind_left}
use Rattle.loc_traps.specs.Walks.{IsNumbered}
use Rattle.loc_traps.proofs.pieces.splits.Given as goal

-- the cut rows so far have their splits
abbrev pub invariant-loop-cut : goal.invariant-loop-cut
invariant-loop-cut l = IsNumbered l.rows l.ends.0 l.ends.1 (length l.walk.overs.items - 1) (length l.walk.unders.items - 1) (behind_left l.fn.first.left l.ends.0) (take l.cut-index l.walk.cuts.items) l.splits.items
