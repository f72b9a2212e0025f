use Rattle.std.proofs.Common.{◌≡◌, ℕ, ◌+◌, ◌*◌, ◌<◌, false, List, Option, None, length, get_or, set, refl, sym, ◌∙◌, ap, subst, arith}
use Rattle.std.specs.Prelude.{◌==◌, IfSome}
use Rattle.std.proofs.lemmas.Bool.{and_parts, eqb-true}
use Rattle.loc_spec_plane.specs.{Tables.lo_of, HalfEdges.half_edge_count, Faces.face_above}
use Rattle.loc_half.specs.HalfEdgeLists.{leader_in}
use Rattle.loc_faces.specs.Cycles.{face_by}
use Rattle.loc_faces.proofs.Leaders.{leads_within}
use Rattle.loc_faces.proofs.Nested.{IsNestedSoFar, floor_fits, nested_passed, nested_more, nested_all}
use Rattle.loc_faces.proofs.nesting.number_hanging.Goals as goal
use Rattle.loc_faces.proofs.nesting.number_hanging.Goals.{then-comes_low, else-comes_low}

pub loop-edge-preserved : goal.loop-edge-preserved
loop-edge-preserved c = elim c.if-comes_low.branch [
  | then-comes_low w ↦ (let both = and_parts (get_or c.args.hanging.now (leader_in c.args.half.now (2 * c.loop-edge.edge + 1)) false) (get_or c.args.least.now (leader_in c.args.half.now (2 * c.loop-edge.edge + 1)) 0 == lo_of c.args.table.now c.loop-edge.edge) (sym c.comes_low.ensures ∙ w.if-comes_low.true) in
      let is : w.face_over.result ≡ face_above (face_by c.args.half.now c.loop-edge.of_cycle.items) (get_or c.args.floors.now.of_corner (lo_of c.args.table.now c.loop-edge.edge) None) =
      w.face_over.ensures ∙ (ap (λ (l : List ℕ). face_above (face_by c.args.half.now l) (get_or w.of_corner.result.now w.ends-corner.result.0 None)) w.deref.ensures.value ∙ (ap (λ l. face_above (face_by c.args.half.now c.loop-edge.of_cycle.items) (get_or l w.ends-corner.result.0 None)) w.of_corner.ensures ∙ ap (λ k. face_above (face_by c.args.half.now c.loop-edge.of_cycle.items) (get_or c.args.floors.now.of_corner k None)) w.ends-corner.ensures.lower)) in
      let numbered : c.if-comes_low.of_cycle.items ≡ set c.loop-edge.of_cycle.items (leader_in c.args.half.now (2 * c.loop-edge.edge + 1)) w.face_over.result = ap (λ v. v.items) w.of_cycle-is ∙ ap (λ l. set c.loop-edge.of_cycle.items l w.face_over.result) w.leader-leader.ensures in
      subst (λ (of_cycle : List ℕ). IsNestedSoFar c.args.table.now c.args.half.now c.args.floors.now c.args.of_cycle.items of_cycle (c.loop-edge.edge + 1)) (sym numbered)
      (nested_more c.args.table.now c.law.ensures.in_order c.args.half.now c.requires.half c.args.least.now c.requires.least c.args.hanging.now c.requires.hanging c.args.floors.now c.requires.floors c.args.of_cycle.items c.loop-edge.of_cycle.items c.loop-edge.edge w.face_over.result (omega arith) both.0 (eqb-true (get_or c.args.least.now (leader_in c.args.half.now (2 * c.loop-edge.edge + 1)) 0) (lo_of c.args.table.now c.loop-edge.edge) both.1) is c.loop-edge.invariant))
  | else-comes_low w ↦ subst (λ (of_cycle : List ℕ). IsNestedSoFar c.args.table.now c.args.half.now c.args.floors.now c.args.of_cycle.items of_cycle (c.loop-edge.edge + 1)) (sym (ap (λ v. v.items) w.of_cycle-is))
      (nested_passed c.args.table.now c.law.ensures.in_order c.args.half.now c.requires.half c.args.least.now c.requires.least c.args.hanging.now c.requires.hanging c.args.floors.now c.requires.floors c.args.of_cycle.items c.loop-edge.of_cycle.items c.loop-edge.edge (omega arith) (sym c.comes_low.ensures ∙ w.if-comes_low.false) c.loop-edge.invariant)
]

pub returns-clause-hanging : goal.returns-clause-hanging
returns-clause-hanging c = nested_all c.args.table.now c.law.ensures.in_order c.args.half.now c.requires.half c.args.least.now c.requires.least c.args.hanging.now c.requires.hanging c.args.floors.now c.requires.floors c.args.of_cycle.items c.loop-edge.of_cycle.items c.loop-edge.edge (omega arith) c.loop-edge.invariant

pub loop-edge-init : goal.loop-edge-init
loop-edge-init c = record {
  as_many = c.requires.as_many;
  outer = λ h lt off. refl;
  nested = λ h e lt hung less. absurd (omega (arith, less));
  within = λ most low. low;
}

pub comes_low-requires-clause-half : goal.comes_low-requires-clause-half
comes_low-requires-clause-half c = c.requires.half

pub comes_low-requires-clause-least : goal.comes_low-requires-clause-least
comes_low-requires-clause-least c = c.requires.least

pub comes_low-requires-clause-hanging : goal.comes_low-requires-clause-hanging
comes_low-requires-clause-hanging c = c.requires.hanging

pub comes_low-requires-clause-in_range : goal.comes_low-requires-clause-in_range
comes_low-requires-clause-in_range c = omega (arith, c.loop-edge-test.true, c.edge_count-edge-end.ensures.value)

pub ends-corner-requires : goal.ends-corner-requires
ends-corner-requires c = omega (arith, c.loop-edge-test.true, c.edge_count-edge-end.ensures.value)

pub leader-leader-requires : goal.leader-leader-requires
leader-leader-requires c = omega (arith, c.requires.half.as_many_leaders, c.loop-edge-test.true, c.edge_count-edge-end.ensures.value)

pub bounds-of_corner-corner : goal.bounds-of_corner-corner
bounds-of_corner-corner c = omega (arith, ap length c.of_corner.ensures, c.requires.floors.as_many_corners, c.ends-corner.ensures.goes_up, c.ends-corner.ensures.in_range)

pub face_over-requires-clause-half : goal.face_over-requires-clause-half
face_over-requires-clause-half c = c.requires.half

pub face_over-requires-clause-as_many : goal.face_over-requires-clause-as_many
face_over-requires-clause-as_many c = ap length c.deref.ensures.value ∙ c.loop-edge.invariant.as_many

pub face_over-requires-clause-in_range : goal.face_over-requires-clause-in_range
face_over-requires-clause-in_range c =
    let fits : c.ends-corner.result.0 < length c.args.table.now.corners = omega (arith, c.ends-corner.ensures.goes_up, c.ends-corner.ensures.in_range) in
    subst (λ (of_corner : List (Option ℕ)). IfSome (get_or of_corner c.ends-corner.result.0 None) (λ e. e < length c.args.table.now.ends)) (sym c.of_corner.ensures) (floor_fits c.args.table.now c.law.ensures.in_order c.ends-corner.result.0 (get_or c.args.floors.now.of_corner c.ends-corner.result.0 None) fits (c.requires.floors.of_corner c.ends-corner.result.0 fits))

pub index_mut-requires : goal.index_mut-requires
index_mut-requires c =
    let fits : 2 * c.loop-edge.edge + 1 < half_edge_count c.args.table.now = omega (arith, c.loop-edge-test.true, c.edge_count-edge-end.ensures.value) in
    let leads : c.leader-leader.result < half_edge_count c.args.table.now = subst (λ l. l < half_edge_count c.args.table.now) (sym c.leader-leader.ensures) (leads_within c.args.table.now c.law.ensures.in_order c.args.half.now c.requires.half (2 * c.loop-edge.edge + 1) fits) in
    omega (arith, leads, c.loop-edge.invariant.as_many, c.loop-edge.of_cycle.ok.0)

pub returns-clause-as_many : goal.returns-clause-as_many
returns-clause-as_many c = c.loop-edge.invariant.as_many

pub returns-clause-outer : goal.returns-clause-outer
returns-clause-outer c = c.loop-edge.invariant.outer

pub returns-clause-within : goal.returns-clause-within
returns-clause-within c = c.loop-edge.invariant.within
