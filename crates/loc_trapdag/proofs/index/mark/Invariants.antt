use Rattle.loc_trapdag.specs.Graphs.{Marks}
use Rattle.loc_trapdag.proofs.index.mark.Given as goal

-- the splits so far are noted
abbrev pub invariant-loop-split : goal.invariant-loop-split
invariant-loop-split l = Marks l.edge l.splits l.split-index l.fn.cuts l.cuts
