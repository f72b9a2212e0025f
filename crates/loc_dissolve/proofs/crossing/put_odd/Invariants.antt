use Rattle.std.proofs.Common.{◌≡◌, take}
use Rattle.loc_dissolve.specs.Keeping.{odd_features}
use Rattle.loc_dissolve.proofs.crossing.put_odd.Given as goal

-- the features of the odd marks before stand there
abbrev pub invariant-loop-mark : goal.invariant-loop-mark
invariant-loop-mark l = l.row.items ≡ odd_features (take l.mark-index l.marks)
