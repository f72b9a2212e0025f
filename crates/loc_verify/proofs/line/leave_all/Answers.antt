use Rattle.std.proofs.Common.{arith, subst, ◌∙◌}
use Rattle.std.proofs.lemmas.List.{take_all}
use Rattle.loc_sweep.proofs.EdgesLeaving.{IsLeaving, all_gone, next_chain, next_ends, next_gone, next_there}
use Rattle.loc_verify.proofs.line.leave_all.Goals as goal

pub leave-requires-clause-in_range : goal.leave-requires-clause-in_range
leave-requires-clause-in_range c = (next_ends c.args.table.now c.law.ensures.in_order c.args.corner c.ending-edge-items.result.now c.ending-edge-items.ensures c.loop-edge.edge-index c.loop-edge-test.true).0

pub leave-requires-clause-chain : goal.leave-requires-clause-chain
leave-requires-clause-chain c = next_chain c.args.table.now c.law.ensures.in_order c.args.corner c.ending-edge-items.result.now c.ending-edge-items.ensures c.loop-edge.edge-index c.loop-edge-test.true c.args.status.now c.loop-edge.status c.loop-edge.invariant

pub leave-requires-clause-listed : goal.leave-requires-clause-listed
leave-requires-clause-listed c = next_there c.args.table.now c.law.ensures.in_order c.args.corner c.ending-edge-items.result.now c.ending-edge-items.ensures c.loop-edge.edge-index c.loop-edge-test.true c.args.status.now c.loop-edge.status c.loop-edge.invariant

pub loop-edge-preserved : goal.loop-edge-preserved
loop-edge-preserved c = next_gone c.args.table.now c.law.ensures.in_order c.args.corner c.ending-edge-items.result.now c.ending-edge-items.ensures c.loop-edge.edge-index c.loop-edge-test.true c.args.status.now c.loop-edge.status c.loop-edge.invariant
    c.leave.new.status c.in_ok-leave.ensures.gone c.in_ok-leave.ensures.chain c.in_ok-leave.ensures.others

pub returns : goal.returns
returns c = all_gone c.args.table.now c.law.ensures.in_order c.args.corner c.args.status.now c.loop-edge.status
    (subst (λ es. IsLeaving c.args.table.now c.args.corner es c.args.status.now c.loop-edge.status) (take_all c.loop-edge.edge-index c.ending-edge-items.result.now (omega (arith, c.loop-edge-test.false)) ∙ c.ending-edge-items.ensures) c.loop-edge.invariant)
