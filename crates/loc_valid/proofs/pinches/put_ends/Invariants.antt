use Rattle.std.proofs.Common.{◌≡◌, ◌++◌, take}
use Rattle.loc_valid.specs.Pinches.{ends_by}
use Rattle.loc_valid.proofs.pinches.put_ends.Given as goal

abbrev pub invariant-loop-mark : goal.invariant-loop-mark
invariant-loop-mark l = l.all.items ≡ l.initial.all.items ++ ends_by l.ends (take l.mark-index l.marks)
