use Rattle.std.proofs.Common.{ℕ, ◌∙◌, ap, Vec, Global}
use Rattle.std.specs.List.{dedup}
use Rattle.std.proofs.{lemmas.Bool.both_ways, lemmas.List.take_all}
use Rattle.loc_spec_plane.specs.Points.{Edge, same_edge}
use Rattle.loc_laws_order.proofs.TableOrder.{origin_point}
use Rattle.loc_edges.specs.Tagged.{segments_in}
use Rattle.loc_edges.proofs.EdgeRows.{edges_left, edges_more}
use Rattle.loc_edges.proofs.grouped.distinct_edges.Goals as goal
use Rattle.loc_edges.proofs.grouped.distinct_edges.Goals.{then-is_new+in_ok-push, else-is_new}

pub loop-n-preserved : goal.loop-n-preserved
loop-n-preserved c =
    let tagged = c.args.tagged.now in
    let n = c.loop-n.n in
    let edges = c.loop-n.edges.items in
    elim c.if-is_new.branch [
      | then-is_new+in_ok-push w ↦ (let t = w.index-tagged-n.result in edges_more tagged n t c.is_new.result edges _ c.loop-n-test.true c.loop-n.invariant c.is_new.ensures.first (λ lt. c.is_new.ensures.later lt t)
          (λ _. ap (λ (v : Vec Edge Global). v.items) w.edges-is ∙ w.in_ok-push.ensures.items)
          (λ no. absurd (both_ways _ no w.if-is_new.true)))
      | else-is_new w ↦ (let t : Edge × ℕ = (record { lo = origin_point; hi = origin_point }, 0) in edges_more tagged n t c.is_new.result edges _ c.loop-n-test.true c.loop-n.invariant c.is_new.ensures.first (λ lt. c.is_new.ensures.later lt t)
          (λ yes. absurd (both_ways _ w.if-is_new.false yes))
          (λ _. ap (λ (v : Vec Edge Global). v.items) w.edges-is))
    ]

pub returns : goal.returns
returns c = c.shrink_to_fit.ensures.items ∙ (c.loop-n.invariant ∙ (ap (λ ts. dedup same_edge (segments_in ts)) (take_all c.loop-n.n c.args.tagged.now c.loop-n-test.false) ∙ edges_left c.args.tagged.now c.requires.in_order))
