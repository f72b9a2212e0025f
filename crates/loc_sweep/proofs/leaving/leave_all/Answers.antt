use Rattle.std.proofs.Common.{arith, get_or, subst, ◌∙◌}
use Rattle.std.proofs.lemmas.List.{take_all}
use Rattle.loc_sweep.proofs.BesideCorner.{lies_above}
use Rattle.loc_sweep.proofs.EdgesLeaving.{IsLeaving, all_gone, next_chain, next_ends, next_gone, next_there}
use Rattle.loc_sweep.proofs.leaving.leave_all.Goals as goal

pub leave-requires-clause-in_range : goal.leave-requires-clause-in_range
leave-requires-clause-in_range g c = (next_ends c.args.table.now c.law.ensures.in_order c.args.corner c.ending-edge-items.result.now c.ending-edge-items.ensures c.loop-edge.edge-index c.loop-edge-test.true).0

pub leave-requires-clause-chain : goal.leave-requires-clause-chain
leave-requires-clause-chain g c = next_chain c.args.table.now c.law.ensures.in_order c.args.corner c.ending-edge-items.result.now c.ending-edge-items.ensures c.loop-edge.edge-index c.loop-edge-test.true (g.S.Status.meaning c.args.status.now) (g.S.Status.meaning c.loop-edge.status) c.loop-edge.invariant.leaving

pub leave-requires-clause-listed : goal.leave-requires-clause-listed
leave-requires-clause-listed g c = next_there c.args.table.now c.law.ensures.in_order c.args.corner c.ending-edge-items.result.now c.ending-edge-items.ensures c.loop-edge.edge-index c.loop-edge-test.true (g.S.Status.meaning c.args.status.now) (g.S.Status.meaning c.loop-edge.status) c.loop-edge.invariant.leaving

pub loop-edge-preserved : goal.loop-edge-preserved
loop-edge-preserved g c =
    let t = c.args.table.now in
    let ends = next_ends t c.law.ensures.in_order c.args.corner c.ending-edge-items.result.now c.ending-edge-items.ensures c.loop-edge.edge-index c.loop-edge-test.true in
    record {
      leaving = next_gone t c.law.ensures.in_order c.args.corner c.ending-edge-items.result.now c.ending-edge-items.ensures c.loop-edge.edge-index c.loop-edge-test.true (g.S.Status.meaning c.args.status.now) (g.S.Status.meaning c.loop-edge.status) c.loop-edge.invariant.leaving
          (g.S.Status.meaning c.leave.new.status) c.in_ok-leave.ensures.gone c.in_ok-leave.ensures.chain c.in_ok-leave.ensures.others;
      last = record {
        number = get_or c.ending-edge-items.result.now c.loop-edge.edge-index 0;
        earlier = (g.S.Status.meaning c.loop-edge.status).list;
        fits = ends.0;
        ends = ends.1;
        chain = next_chain t c.law.ensures.in_order c.args.corner c.ending-edge-items.result.now c.ending-edge-items.ensures c.loop-edge.edge-index c.loop-edge-test.true (g.S.Status.meaning c.args.status.now) (g.S.Status.meaning c.loop-edge.status) c.loop-edge.invariant.leaving;
        gone = c.in_ok-leave.ensures.gone.list;
        stood = c.in_ok-leave.ensures.beside;
      };
    }

pub returns-clause-left : goal.returns-clause-left
returns-clause-left g c = all_gone c.args.table.now c.law.ensures.in_order c.args.corner (g.S.Status.meaning c.args.status.now) (g.S.Status.meaning c.loop-edge.status)
    (subst (λ es. IsLeaving c.args.table.now c.args.corner es (g.S.Status.meaning c.args.status.now) (g.S.Status.meaning c.loop-edge.status)) (take_all c.loop-edge.edge-index c.ending-edge-items.result.now (omega (arith, c.loop-edge-test.false)) ∙ c.ending-edge-items.ensures) c.loop-edge.invariant.leaving)

pub returns-clause-between : goal.returns-clause-between
returns-clause-between g c =
    let left = all_gone c.args.table.now c.law.ensures.in_order c.args.corner (g.S.Status.meaning c.args.status.now) (g.S.Status.meaning c.loop-edge.status)
    (subst (λ es. IsLeaving c.args.table.now c.args.corner es (g.S.Status.meaning c.args.status.now) (g.S.Status.meaning c.loop-edge.status)) (take_all c.loop-edge.edge-index c.ending-edge-items.result.now (omega (arith, c.loop-edge-test.false)) ∙ c.ending-edge-items.ensures) c.loop-edge.invariant.leaving) in
    lies_above c.args.table.now c.law.ensures.in_order c.args.corner (g.S.Status.meaning c.loop-edge.status).list left.list.exact c.loop-edge.between c.loop-edge.invariant.last
