use Rattle.std.proofs.{Common.length, Common.arith, lemmas.Bool.and_from, lemmas.Bool.lt-ltb}
use Rattle.loc_place.proofs.Behind.{before_later, stands_behind}
use Rattle.loc_scan.proofs.corners.among_corners.Goals as goal

pub returns-in-Greater-clause-standing : goal.returns-in-Greater-clause-standing
returns-in-Greater-clause-standing g c = stands_behind c.args.views.now c.requires.in_order c.args.p c.loop-corner.corner (omega arith) c.loop-corner.invariant.passed (before_later c.args.views.now c.requires.in_order c.args.p c.loop-corner.corner c.in-Greater.ensures.value)

pub returns-in-Equal-clause-standing : goal.returns-in-Equal-clause-standing
returns-in-Equal-clause-standing g c = and_from _ _ (lt-ltb c.loop-corner.corner (length c.args.views.now.corners) (omega arith)) c.in-Equal.ensures.value
