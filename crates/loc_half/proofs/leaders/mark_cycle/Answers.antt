use Rattle.std.proofs.Common.{arith}
use Rattle.loc_half.proofs.Marking.{marked-more, walk-falls, walk-more, walk-start}
use Rattle.loc_half.proofs.leaders.mark_cycle.Goals as goal

pub round-init : goal.round-init
round-init c = walk-start c.args.nexts.now c.args.marks.now c.requires.permuting c.args.first c.requires.in_range c.requires.marked.as_many

pub round-preserved : goal.round-preserved
round-preserved c = walk-more c.args.nexts.now c.args.marks.now c.requires.permuting c.args.first c.requires.in_range c.round.marks c.round.h c.round.invariant c.round-test.true

pub round-smaller : goal.round-smaller
round-smaller c = let less = walk-falls c.args.nexts.now c.args.marks.now c.requires.permuting c.args.first c.requires.in_range c.round.marks c.round.h c.round.invariant c.round-test.true in omega (arith, less)

pub returns : goal.returns
returns c = marked-more c.args.nexts.now c.args.marks.now c.requires.permuting c.args.first c.requires.in_range c.round.marks c.round.h c.round.invariant c.requires.marked c.round-test.false
