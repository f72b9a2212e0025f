use Rattle.std.proofs.Common.{arith}
use Rattle.loc_scan.proofs.Looks.{begins_later, ended, on_look, above_look, below_look}
use Rattle.loc_scan.proofs.edges.look_at.Goals as goal
use Rattle.loc_scan.proofs.edges.look_at.Goals.{then-passed-lo-via-then-passed-lo, then-passed-lo-via-else-passed-lo+then-hi-passed}

pub returns-then-passed-lo-clause-look : goal.returns-then-passed-lo-clause-look
returns-then-passed-lo-clause-look g c = elim c.then-passed-lo.branch [
  | then-passed-lo-via-then-passed-lo w ↦ begins_later c.args.views.now c.requires.in_order c.args.p c.args.passed c.requires.behind c.args.edge c.requires.in_range (omega arith)
  | then-passed-lo-via-else-passed-lo+then-hi-passed w ↦ ended c.args.views.now c.requires.in_order c.args.p c.args.passed c.requires.behind c.args.edge c.requires.in_range (omega arith)
]

pub returns-in-On-clause-look : goal.returns-in-On-clause-look
returns-in-On-clause-look g c = on_look c.args.views.now c.requires.in_order c.args.p c.args.passed c.requires.behind c.args.edge c.requires.in_range (omega arith) (omega arith) c.in-On.ensures.value

pub returns-in-Above-clause-look : goal.returns-in-Above-clause-look
returns-in-Above-clause-look g c = above_look c.args.views.now c.requires.in_order c.args.p c.args.passed c.requires.behind c.args.edge c.requires.in_range (omega arith) (omega arith) c.in-Above.ensures.value

pub returns-in-Below-clause-look : goal.returns-in-Below-clause-look
returns-in-Below-clause-look g c = below_look c.args.views.now c.requires.in_order c.args.p c.args.passed c.requires.behind c.args.edge c.requires.in_range (omega arith) (omega arith) c.in-Below.ensures.value
