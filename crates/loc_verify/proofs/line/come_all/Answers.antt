use Rattle.std.proofs.Common.{◌≡◌, true, sym, subst, arith}
use Rattle.loc_status.specs.Lists.{is_chain_at}
use Rattle.loc_sweep.proofs.EdgesComing.{IsComing, all_came, begins_here, none_came, not_yet, one_came}
use Rattle.loc_verify.proofs.line.come_all.Goals as goal

pub come-requires-clause-chain : goal.come-requires-clause-chain
come-requires-clause-chain c =
    let here = begins_here c.args.table.now c.law.ensures.in_order c.args.corner c.beginning-first.result.0 c.beginning-first.result.1 c.beginning-first.ensures c.loop-edge.edge c.loop-edge.invariant.behind c.loop-edge-test.true in
    subst (λ b. is_chain_at c.args.table.now b c.loop-edge.status.list ≡ true) (sym here.1) c.loop-edge.invariant.coming.chain

pub come-requires-clause-is_new : goal.come-requires-clause-is_new
come-requires-clause-is_new c = not_yet c.args.table.now c.law.ensures.in_order c.args.corner c.beginning-first.result.0 c.beginning-first.result.1 c.beginning-first.ensures c.loop-edge.edge c.args.status.now c.loop-edge.status c.loop-edge.invariant.behind c.loop-edge-test.true c.loop-edge.invariant.coming

pub loop-edge-init : goal.loop-edge-init
loop-edge-init c = record { behind = omega arith; coming = none_came c.args.table.now c.args.corner c.beginning-first.result.0 c.args.status.now c.requires.line c.requires.greatest }

pub loop-edge-preserved : goal.loop-edge-preserved
loop-edge-preserved c =
    let i = c.loop-edge.invariant in
    record {
      behind = omega (arith, i.behind);
      coming = one_came c.args.table.now c.law.ensures.in_order c.args.corner c.beginning-first.result.0 c.beginning-first.result.1 c.beginning-first.ensures c.loop-edge.edge c.args.status.now c.loop-edge.status c.come.new.status i.behind c.loop-edge-test.true i.coming
          c.in_ok-come.ensures.here c.in_ok-come.ensures.chain c.in_ok-come.ensures.others;
    }

pub returns : goal.returns
returns c = all_came c.args.table.now c.law.ensures.in_order c.args.corner c.beginning-first.result.0 c.beginning-first.result.1 c.beginning-first.ensures c.args.status.now c.loop-edge.status c.requires.in_range c.requires.begun
    (subst (λ k. IsComing c.args.table.now c.args.corner c.beginning-first.result.0 k c.args.status.now c.loop-edge.status) (let past : c.loop-edge.edge ≡ c.beginning-first.result.1 = omega (arith, c.loop-edge-test.false, c.loop-edge.auto.edge-end, c.beginning-first.ensures.in_order) in past) c.loop-edge.invariant.coming)
