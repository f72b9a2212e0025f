use Rattle.std.proofs.Common.{◌≡◌, ◌+◌, ◌<◌, get_or, set, min, refl, sym, ◌∙◌, ap, subst, inl, arith}
use Rattle.std.proofs.lemmas.List.{get_or_read}
use Rattle.loc_spec_plane.specs.HalfEdges.{half_edge_count, target}
use Rattle.loc_half.specs.HalfEdgeLists.{leader_in}
use Rattle.loc_faces.proofs.{Leaders.leads_within, Least.IsLeastSoFar, Least.least_more, Least.least_all}
use Rattle.loc_faces.proofs.cycles.least_corners.Goals as goal

pub loop-h-preserved : goal.loop-h-preserved
loop-h-preserved c =
    let leader : c.leader-leader.result ≡ leader_in c.args.half.now c.loop-h.h = c.leader-leader.ensures in
    let i : c.index.result.now ≡ get_or c.loop-h.least.items c.leader-leader.result 0 = get_or_read c.loop-h.least.items _ _ (omega (arith, leader, leads_within c.args.table.now c.law.ensures.in_order c.args.half.now c.requires.half c.loop-h.h (omega arith), c.loop-h.invariant.as_many)) c.index.ensures 0 in
    let v : c.min.result ≡ min (get_or c.loop-h.least.items (leader_in c.args.half.now c.loop-h.h) 0) (target c.args.table.now c.loop-h.h) =
    c.min.ensures ∙ (ap (λ n. min n c.target.result) (i ∙ ap (λ l. get_or c.loop-h.least.items l 0) leader) ∙ ap (min (get_or c.loop-h.least.items (leader_in c.args.half.now c.loop-h.h) 0)) c.target.ensures) in
    subst (λ l. IsLeastSoFar c.args.table.now c.args.half.now (set c.loop-h.least.items l c.min.result) (c.loop-h.h + 1)) (sym leader)
    (least_more c.args.table.now c.law.ensures.in_order c.args.half.now c.requires.half c.loop-h.least.items c.loop-h.h c.min.result (omega arith) v c.loop-h.invariant)

pub returns : goal.returns
returns c = least_all c.args.table.now c.law.ensures.in_order c.args.half.now c.requires.half c.loop-h.least.items c.loop-h.h (omega arith) (omega arith) c.loop-h.invariant

pub loop-h-init : goal.loop-h-init
loop-h-init c = record {
  as_many = omega (arith, c.in_ok-resize.ensures.len, c.resize.new.self.ok.0, c.edge_count-count.ensures.value);
  under = λ g less. absurd (omega (arith, less));
  met = λ l lt. inl (c.in_ok-resize.ensures.by_index.1 l 0 refl (omega (arith, c.new-least.ensures.len)) (omega (arith, lt, c.edge_count-count.ensures.value)) ∙ c.corner_count.ensures.value);
}

pub leader-leader-requires : goal.leader-leader-requires
leader-leader-requires c = omega (arith, c.requires.half.as_many_leaders, c.loop-h-test.true, c.edge_count-count.ensures.value)

pub index-requires : goal.index-requires
index-requires c =
    let fits : c.loop-h.h < half_edge_count c.args.table.now = omega (arith, c.loop-h-test.true, c.edge_count-count.ensures.value) in
    let leads : c.leader-leader.result < half_edge_count c.args.table.now = subst (λ l. l < half_edge_count c.args.table.now) (sym c.leader-leader.ensures) (leads_within c.args.table.now c.law.ensures.in_order c.args.half.now c.requires.half c.loop-h.h fits) in
    omega (arith, leads, c.loop-h.invariant.as_many, c.loop-h.least.ok.0)

pub target-requires : goal.target-requires
target-requires c = omega (arith, c.loop-h-test.true, c.edge_count-count.ensures.value)

pub index_mut-requires : goal.index_mut-requires
index_mut-requires c =
    let fits : c.loop-h.h < half_edge_count c.args.table.now = omega (arith, c.loop-h-test.true, c.edge_count-count.ensures.value) in
    let leads : c.leader-leader.result < half_edge_count c.args.table.now = subst (λ l. l < half_edge_count c.args.table.now) (sym c.leader-leader.ensures) (leads_within c.args.table.now c.law.ensures.in_order c.args.half.now c.requires.half c.loop-h.h fits) in
    omega (arith, leads, c.loop-h.invariant.as_many, c.loop-h.least.ok.0)
