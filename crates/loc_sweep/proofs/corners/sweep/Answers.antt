use Rattle.std.proofs.Common.{◌≡◌, ◌<◌, ◌≤◌, ℕ, List, Option, length, arith, sym, subst, ap₂}
use Rattle.loc_sweep.specs.Line.{IsBegun}
use Rattle.loc_edges.specs.Floors.{FloorLists, AreFloors}
use Rattle.loc_sweep.proofs.UnderWay.{all_apart, all_floors, all_swept, goes_on, under_way}
use Rattle.loc_sweep.proofs.corners.sweep.Goals as goal

pub loop-corner-init : goal.loop-corner-init
loop-corner-init g c = rw (c.in_ok-of_corner.ensures.items) (under_way c.args.table.now (g.S.Status.meaning c.args.status) c.in_ok-of_edge.of_edge.items c.requires.fresh (let len = c.in_ok-of_edge.ensures.len in omega (arith, len, c.edge_count.ensures.value)))

pub come_all-requires-clause-as_many : goal.come_all-requires-clause-as_many
come_all-requires-clause-as_many g c = c.loop-corner.invariant.noted.as_many_edges

pub come_all-requires-clause-begun : goal.come_all-requires-clause-begun
come_all-requires-clause-begun g c = subst (λ n. IsBegun c.args.table.now c.loop-corner.corner n) (sym c.in_ok-left.ensures.left.inserted) c.loop-corner.invariant.before.begun

pub come_all-requires-clause-greatest : goal.come_all-requires-clause-greatest
come_all-requires-clause-greatest g c = subst (λ n. n ≤ length c.args.table.now.ends) (sym c.in_ok-left.ensures.left.past_greatest) c.loop-corner.invariant.before.in_range

pub seal-requires : goal.seal-requires
seal-requires g c = omega (arith, c.in_ok-left.ensures.left.kept.sealed, c.in_ok-between.ensures.here.kept.sealed)

pub loop-corner-preserved : goal.loop-corner-preserved
loop-corner-preserved g c = goes_on c.args.table.now c.law.ensures.in_order c.loop-corner.corner (subst (λ n. c.loop-corner.corner < n) c.corner_count-corner-end.ensures.value c.loop-corner-test.true)
    (g.S.Status.meaning c.loop-corner.status) (g.S.Status.meaning c.leave_all.new.status) (g.S.Status.meaning c.come_all.new.status) (g.S.Status.meaning c.seal.new.self)
    c.loop-corner.of_corner.items c.note_floor.new.of_corner.items c.loop-corner.of_edge.items c.come_all.new.of_edge.items c.loop-corner.invariant
    c.in_ok-left.ensures.left c.in_ok-between.ensures.here c.in_ok-note_floor.ensures c.in_ok-between.ensures.below c.in_ok-seal.ensures.ok

pub returns-clause-apart : goal.returns-clause-apart
returns-clause-apart g c = all_apart c.args.table.now c.law.ensures.in_order c.loop-corner.corner (g.S.Status.meaning c.loop-corner.status) c.loop-corner.of_corner.items c.loop-corner.of_edge.items (let end : c.loop-corner.corner ≡ length c.args.table.now.corners = omega (arith, c.loop-corner-test.false, c.loop-corner.auto.corner-end, c.corner_count-corner-end.ensures.value) in end) c.loop-corner.invariant

pub returns-clause-swept : goal.returns-clause-swept
returns-clause-swept g c = all_swept c.args.table.now c.law.ensures.in_order c.loop-corner.corner (g.S.Status.meaning c.loop-corner.status) c.loop-corner.of_corner.items c.loop-corner.of_edge.items (let end : c.loop-corner.corner ≡ length c.args.table.now.corners = omega (arith, c.loop-corner-test.false, c.loop-corner.auto.corner-end, c.corner_count-corner-end.ensures.value) in end) c.loop-corner.invariant

pub returns-clause-floors : goal.returns-clause-floors
returns-clause-floors g c =
    let build : List (Option ℕ) → List (Option ℕ) → FloorLists = λ xs ys. record { of_corner = xs; of_edge = ys } in
    let same : c.of.result ≡ build c.loop-corner.of_corner.items c.loop-corner.of_edge.items = ap₂ build c.of.ensures.corners c.of.ensures.edges in
    subst (λ f. AreFloors c.args.table.now f) (sym same) (all_floors c.args.table.now c.law.ensures.in_order c.loop-corner.corner (g.S.Status.meaning c.loop-corner.status) c.loop-corner.of_corner.items c.loop-corner.of_edge.items (let end : c.loop-corner.corner ≡ length c.args.table.now.corners = omega (arith, c.loop-corner-test.false, c.loop-corner.auto.corner-end, c.corner_count-corner-end.ensures.value) in end) c.loop-corner.invariant)

pub leave_all-requires-clause-before : goal.leave_all-requires-clause-before
leave_all-requires-clause-before g c = c.loop-corner.invariant.before
