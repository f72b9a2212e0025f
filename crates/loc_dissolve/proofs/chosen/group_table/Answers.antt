use Rattle.std.proofs.Common.{◌≡◌, ◌<◌, true, List, sym, ◌∙◌, ap, ap₂, arith, length, map, subst}
use Rattle.std.specs.Prelude.{All}
use Rattle.std.proofs.lemmas.Result.{IfOk-weaker}
use Rattle.loc_spec_plane.specs.Points.{Edge, Point, before}
use Rattle.loc_spec_plane.specs.{Lists.is_rising, Lists.numbers, Lists.sorted_set, Tables.edge}
use Rattle.loc_spec_groups.specs.Groups.{group_table, is_kept}
use Rattle.loc_laws_noding.specs.Laws.{ends_of}
use Rattle.loc_edges.specs.Parts.{GoesUpBelow, table_of_parts}
use Rattle.loc_dissolve.specs.Grouping.{in_group}
use Rattle.loc_dissolve.proofs.Tabled.{IsMade, all_in_range, corners_rise, ends_by, ends_go_up, ends_rise, few_corners, few_edges, many_ends, marked, marks_on, marks_up, points_of_chosen, table_is}
use Rattle.loc_dissolve.proofs.chosen.group_table.Goals as goal
use Rattle.loc_dissolve.proofs.chosen.group_table.Goals.{After-deref-3, In_ok-sources}

pub edges_by_points-requires : goal.edges_by_points-requires
edges_by_points-requires c = subst (All (λ e. e < length c.args.table.now.ends)) (sym c.requires.kept) (all_in_range c.args.table.now c.law.ensures.in_order (is_kept c.args.table.now (in_group c.args.groups.now c.args.group)))

edges_are : (c : After-deref-3) → c.in_ok-edges.edges.items ≡ points_of_chosen c.args.table.now c.law.ensures.in_order (is_kept c.args.table.now (in_group c.args.groups.now c.args.group))
edges_are c = c.in_ok-edges.ensures ∙ ap (map (edge c.args.table.now)) c.requires.kept

corners_are : (c : After-deref-3) → c.in_ok-corners.corners.items ≡ sorted_set before (ends_of c.in_ok-edges.edges.items)
corners_are c = c.in_ok-corners.ensures.value ∙ ap (λ (es : List Edge). sorted_set before (ends_of es)) c.deref.ensures.value

pub numbered_ends-requires-clause-in_order : goal.numbered_ends-requires-clause-in_order
numbered_ends-requires-clause-in_order c = subst (λ (ps : List Point). is_rising before ps ≡ true) (sym c.deref-2.ensures.value)
    (corners_rise c.args.table.now c.law.ensures.in_order (is_kept c.args.table.now (in_group c.args.groups.now c.args.group)) c.in_ok-edges.edges.items c.in_ok-corners.corners.items (edges_are c) (corners_are c))

pub numbered_ends-requires-clause-few : goal.numbered_ends-requires-clause-few
numbered_ends-requires-clause-few c = omega (
  arith,
  ap length c.deref-2.ensures.value,
  c.law.ensures.small.few_corners,
  few_corners c.args.table.now c.law.ensures.in_order (is_kept c.args.table.now (in_group c.args.groups.now c.args.group)) c.in_ok-edges.edges.items c.in_ok-corners.corners.items (edges_are c) (corners_are c),
)

pub overflow_cast-len : goal.overflow_cast-len
overflow_cast-len c =
    let are : c.in_ok-edges.edges.items ≡ points_of_chosen c.args.table.now c.law.ensures.in_order (is_kept c.args.table.now (in_group c.args.groups.now c.args.group)) = c.in_ok-edges.ensures ∙ ap (map (edge c.args.table.now)) c.requires.kept in
    let few = few_edges c.args.table.now c.law.ensures.in_order (is_kept c.args.table.now (in_group c.args.groups.now c.args.group)) c.in_ok-edges.edges.items are in
    omega (arith, c.len.ensures, few.1, c.law.ensures.small.few_edges)

made : (c : In_ok-sources) → IsMade c.args.table.now c.law.ensures.in_order (is_kept c.args.table.now (in_group c.args.groups.now c.args.group)) c.in_ok-edges.edges.items c.in_ok-corners.corners.items c.in_ok-ends.ends.items c.in_ok-marks.marks.items
made c = record {
  edges_are = c.in_ok-edges.ensures ∙ ap (map (edge c.args.table.now)) c.requires.kept;
  corners_are = c.in_ok-corners.ensures.value ∙ ap (λ (es : List Edge). sorted_set before (ends_of es)) c.deref.ensures.value;
  ends_are = c.in_ok-ends.ensures ∙ ap₂ (λ (ps : List Point) (es : List Edge). map (ends_by c.args.table.now c.law.ensures.in_order (is_kept c.args.table.now (in_group c.args.groups.now c.args.group)) ps) es) c.deref-2.ensures.value c.deref-3.ensures.value;
  marks_are = c.in_ok-marks.ensures ∙ ap (λ n. map marked (numbers n)) (let many : c.len.result ≡ length c.in_ok-edges.edges.items = omega (arith, c.len.ensures, c.in_ok-edges.edges.ok) in many);
}

pub of_parts-requires-clause-corners_rise : goal.of_parts-requires-clause-corners_rise
of_parts-requires-clause-corners_rise c = corners_rise c.args.table.now c.law.ensures.in_order (is_kept c.args.table.now (in_group c.args.groups.now c.args.group)) c.in_ok-edges.edges.items c.in_ok-corners.corners.items (made c).edges_are (made c).corners_are

pub of_parts-requires-clause-few_corners : goal.of_parts-requires-clause-few_corners
of_parts-requires-clause-few_corners c = omega (
  arith,
  c.law.ensures.small.few_corners,
  few_corners c.args.table.now c.law.ensures.in_order (is_kept c.args.table.now (in_group c.args.groups.now c.args.group)) c.in_ok-edges.edges.items c.in_ok-corners.corners.items (made c).edges_are (made c).corners_are,
)

pub of_parts-requires-clause-edges_rise : goal.of_parts-requires-clause-edges_rise
of_parts-requires-clause-edges_rise c = ends_rise c.args.table.now c.law.ensures.in_order (is_kept c.args.table.now (in_group c.args.groups.now c.args.group)) c.in_ok-edges.edges.items c.in_ok-corners.corners.items c.in_ok-ends.ends.items c.in_ok-marks.marks.items (made c)

pub of_parts-requires-clause-edges_go_up : goal.of_parts-requires-clause-edges_go_up
of_parts-requires-clause-edges_go_up c = ends_go_up c.args.table.now c.law.ensures.in_order (is_kept c.args.table.now (in_group c.args.groups.now c.args.group)) c.in_ok-edges.edges.items c.in_ok-corners.corners.items c.in_ok-ends.ends.items c.in_ok-marks.marks.items (made c)

pub of_parts-requires-clause-few_edges : goal.of_parts-requires-clause-few_edges
of_parts-requires-clause-few_edges c =
    let few = few_edges c.args.table.now c.law.ensures.in_order (is_kept c.args.table.now (in_group c.args.groups.now c.args.group)) c.in_ok-edges.edges.items (made c).edges_are in
    omega (arith, few.1, c.law.ensures.small.few_edges, many_ends c.args.table.now c.law.ensures.in_order (is_kept c.args.table.now (in_group c.args.groups.now c.args.group)) c.in_ok-edges.edges.items c.in_ok-corners.corners.items c.in_ok-ends.ends.items c.in_ok-marks.marks.items (made c))

pub of_parts-requires-clause-marks_rise : goal.of_parts-requires-clause-marks_rise
of_parts-requires-clause-marks_rise c = marks_up c.args.table.now c.law.ensures.in_order (is_kept c.args.table.now (in_group c.args.groups.now c.args.group)) c.in_ok-edges.edges.items c.in_ok-corners.corners.items c.in_ok-ends.ends.items c.in_ok-marks.marks.items (made c)

pub of_parts-requires-clause-marks_on_edges : goal.of_parts-requires-clause-marks_on_edges
of_parts-requires-clause-marks_on_edges c = marks_on c.args.table.now c.law.ensures.in_order (is_kept c.args.table.now (in_group c.args.groups.now c.args.group)) c.in_ok-edges.edges.items c.in_ok-corners.corners.items c.in_ok-ends.ends.items c.in_ok-marks.marks.items (made c)

pub of_parts-requires-clause-sources_fit : goal.of_parts-requires-clause-sources_fit
of_parts-requires-clause-sources_fit c = ap length (c.in_ok-sources.ensures.items ∙ c.deref-4.ensures.value)

pub of_parts-requires-clause-sources_go_up : goal.of_parts-requires-clause-sources_go_up
of_parts-requires-clause-sources_go_up c = subst (All (GoesUpBelow (length c.in_ok-corners.corners.items))) (sym (c.in_ok-sources.ensures.items ∙ c.deref-4.ensures.value))
    (ends_go_up c.args.table.now c.law.ensures.in_order (is_kept c.args.table.now (in_group c.args.groups.now c.args.group)) c.in_ok-edges.edges.items c.in_ok-corners.corners.items c.in_ok-ends.ends.items c.in_ok-marks.marks.items (made c))

pub returns : goal.returns
returns c =
    let t = c.args.table.now in
    let keep = is_kept c.args.table.now (in_group c.args.groups.now c.args.group) in
    IfOk-weaker c.of_parts.result (λ table. table ≡ table_of_parts c.in_ok-corners.corners.items c.in_ok-ends.ends.items c.in_ok-marks.marks.items c.in_ok-sources.sources.items) (λ table. table ≡ group_table c.args.table.now (in_group c.args.groups.now c.args.group))
    (λ table is. is ∙ table_is c.args.table.now c.law.ensures.in_order (is_kept c.args.table.now (in_group c.args.groups.now c.args.group)) c.in_ok-edges.edges.items c.in_ok-corners.corners.items c.in_ok-ends.ends.items c.in_ok-marks.marks.items (record {
      edges_are = c.in_ok-edges.ensures ∙ ap (map (edge t)) c.requires.kept;
      corners_are = c.in_ok-corners.ensures.value ∙ ap (λ (es : List Edge). sorted_set before (ends_of es)) c.deref.ensures.value;
      ends_are = c.in_ok-ends.ensures ∙ ap₂ (λ (ps : List Point) (es : List Edge). map (ends_by c.args.table.now c.law.ensures.in_order (is_kept c.args.table.now (in_group c.args.groups.now c.args.group)) ps) es) c.deref-2.ensures.value c.deref-3.ensures.value;
      marks_are = c.in_ok-marks.ensures ∙ ap (λ n. map marked (numbers n)) (let many : c.len.result ≡ length c.in_ok-edges.edges.items = omega (arith, c.len.ensures, c.in_ok-edges.edges.ok) in many);
    }) c.in_ok-sources.sources.items (c.in_ok-sources.ensures.items ∙ c.deref-4.ensures.value)) c.of_parts.ensures.table
