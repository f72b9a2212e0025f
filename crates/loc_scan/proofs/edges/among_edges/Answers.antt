use Rattle.std.proofs.{Common.below_more, Common.arith, lemmas.Bool.not-true}
use Rattle.loc_place.proofs.Highest.{highest_rises, highest_stays}
use Rattle.loc_scan.proofs.edges.among_edges.Goals as goal
use Rattle.loc_scan.proofs.edges.among_edges.Goals.{in-Under, in-Neither}

pub loop-edge-preserved : goal.loop-edge-preserved
loop-edge-preserved g c = elim c.match-look_at.branch [
  | in-Under w ↦ record {
    highest = rw (w.floor-is, w.higher.ensures) (highest_rises c.args.views.now c.args.p c.requires.planar c.loop-edge.edge c.loop-edge.floor w.in-Under.ensures.look.1 c.loop-edge.invariant.highest);
    clear = below_more _ _ c.loop-edge.invariant.clear (not-true _ w.in-Under.ensures.look.0);
    counted = omega arith;
    within = omega arith;
  }
  | in-Neither w ↦ record {
    highest = rw w.floor-is (highest_stays c.args.views.now c.args.p c.loop-edge.edge c.loop-edge.floor (not-true _ w.in-Neither.ensures.look.1) c.loop-edge.invariant.highest);
    clear = below_more _ _ c.loop-edge.invariant.clear (not-true _ w.in-Neither.ensures.look.0);
    counted = omega arith;
    within = omega arith;
  }
]
