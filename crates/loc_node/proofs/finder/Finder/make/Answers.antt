use Rattle.loc_node.proofs.Neighbours.{moved_sorted}
use Rattle.loc_node.proofs.finder.Finder.make.Goals as goal

pub returns : goal.returns
returns c = moved_sorted c.args.corners.now c.in_ok-points.points.items c.requires.in_order c.in_ok-points.ensures
