use Rattle.std.proofs.Common.{◌≡◌, length}
use Rattle.loc_parts.proofs.parting.with_fate.Given as goal

-- a flag for each fate so far
abbrev pub invariant-loop-one : goal.invariant-loop-one
invariant-loop-one l = length l.flags.items ≡ l.one-index
