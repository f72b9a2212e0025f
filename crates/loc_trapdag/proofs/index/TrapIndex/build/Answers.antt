use Rattle.std.proofs.Common.{sym, ◌∙◌}
use Rattle.std.proofs.lemmas.List.{take_all}
use Rattle.loc_trapdag.proofs.Starting.{next_real, next_new, next_added, all_added}
use Rattle.loc_trapdag.proofs.index.TrapIndex.build.Goals as goal

pub loop-edge-init : goal.loop-edge-init
loop-edge-init c = record { graph = c.in_ok-index.ensures.graph c.args.ranks.now c.law.ensures.in_order; added = c.in_ok-index.ensures.added }

pub add-requires-clause-in_range : goal.add-requires-clause-in_range
add-requires-clause-in_range c =
    next_real c.args.ranks.now c.args.order.now c.requires.permutation c.edges-edge-items.result.now c.edges-edge-items.ensures c.loop-edge.index.map.added c.loop-edge.edge-index c.loop-edge.invariant.added c.loop-edge-test.true

pub add-requires-clause-is_new : goal.add-requires-clause-is_new
add-requires-clause-is_new c =
    next_new c.args.ranks.now c.args.order.now c.requires.permutation c.edges-edge-items.result.now c.edges-edge-items.ensures c.loop-edge.index.map.added c.loop-edge.edge-index c.loop-edge.invariant.added c.loop-edge-test.true

pub add-requires-clause-apart : goal.add-requires-clause-apart
add-requires-clause-apart c =
    λ a is_a. c.requires.apart a _ (c.loop-edge.invariant.graph.map.calm.within a is_a) (next_real c.args.ranks.now c.args.order.now c.requires.permutation c.edges-edge-items.result.now c.edges-edge-items.ensures c.loop-edge.index.map.added c.loop-edge.edge-index c.loop-edge.invariant.added c.loop-edge-test.true)

pub loop-edge-preserved : goal.loop-edge-preserved
loop-edge-preserved c =
    record { graph = c.in_ok-add.ensures.graph; added = c.in_ok-add.ensures.added ∙ sym (next_added c.args.ranks.now c.args.order.now c.requires.permutation c.edges-edge-items.result.now c.edges-edge-items.ensures c.loop-edge.index.map.added c.loop-edge.edge-index c.loop-edge.invariant.added c.loop-edge-test.true) }

pub returns : goal.returns
returns c =
    all_added c.args.ranks.now c.loop-edge.index c.args.order.now c.requires.permutation c.law.ensures.in_order c.requires.apart c.requires.ends c.loop-edge.invariant.graph (c.loop-edge.invariant.added ∙ (take_all c.loop-edge.edge-index c.edges-edge-items.result.now c.loop-edge-test.false ∙ c.edges-edge-items.ensures))
