use Rattle.loc_trapdag.proofs.Growing.{marks_none, marks_more}
use Rattle.loc_trapdag.proofs.index.mark.Goals as goal

pub loop-split-init : goal.loop-split-init
loop-split-init c = marks_none c.args.edge c.args.splits.now c.args.cuts.now

pub loop-split-preserved : goal.loop-split-preserved
loop-split-preserved c = marks_more c.args.edge c.args.splits.now c.args.cuts.now c.loop-split.split-index c.loop-split.cuts c.loop-split.invariant c.loop-split-test.true c.requires.in_range c.requires.single
