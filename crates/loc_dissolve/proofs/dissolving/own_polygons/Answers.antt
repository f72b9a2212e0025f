use Rattle.std.proofs.Common.{◌≡◌, ◌-◌, ◌<◌, false, filter, get_or, length, map, sym, ◌∙◌, ap, subst, arith}
use Rattle.std.specs.{Prelude.All, List.range_with_len}
use Rattle.std.proofs.lemmas.List.FromFn.{length-range_with_len}
use Rattle.std.proofs.{lemmas.List.Sums.count_by-le-length, lemmas.List.Sums.length-filter, lemmas.Result.IfOk-weaker}
use Rattle.loc_spec_plane.specs.Tables.{Table, edge_numbers}
use Rattle.loc_place.specs.Planar.{IsPlanar}
use Rattle.loc_half.specs.HalfEdgeLists.{next_in}
use Rattle.loc_faces.specs.{FaceLists.face_in, Subdivision.face_at, Subdivision.next_at}
use Rattle.loc_spec_groups.specs.Groups.{face_rings, group_polygons, group_table, is_kept}
use Rattle.loc_laws_dissolve.proofs.{Chosen.length-chosen, Grouped.table_law}
use Rattle.loc_dissolve.specs.Grouping.{in_group}
use Rattle.loc_dissolve.proofs.{Grouped.polygons_are, Tabled.all_in_range}
use Rattle.loc_dissolve.proofs.dissolving.own_polygons.Goals as goal

pub covered_faces-requires-clause-kept : goal.covered_faces-requires-clause-kept
covered_faces-requires-clause-kept c = subst (All (λ e. e < length c.args.table.now.ends)) (sym c.requires.kept) (all_in_range c.args.table.now c.law.ensures.in_order (is_kept c.args.table.now (in_group c.args.groups.now c.args.group)))

pub covered_faces-requires-clause-few : goal.covered_faces-requires-clause-few
covered_faces-requires-clause-few c =
    let keep = is_kept c.args.table.now (in_group c.args.groups.now c.args.group) in
    omega (arith, ap length c.requires.kept, length-filter keep (edge_numbers c.args.table.now), count_by-le-length keep (edge_numbers c.args.table.now), length-range_with_len 0 (length c.args.table.now.ends), c.law.ensures.small.few_edges)

pub covered_faces-requires-clause-halves : goal.covered_faces-requires-clause-halves
covered_faces-requires-clause-halves c =
    omega (
      arith,
      ap length c.requires.kept,
      c.requires.faces.as_many,
      ap (λ (t : Table). length t.ends) c.requires.own,
      length-chosen c.args.table.now c.law.ensures.in_order (is_kept c.args.table.now (in_group c.args.groups.now c.args.group)),
    )

pub returns : goal.returns
returns c =
    let t = c.args.table.now in
    let member = in_group c.args.groups.now c.args.group in
    let own = c.args.own.now.table in
    let own_is : c.args.own.now.table ≡ group_table c.args.table.now (in_group c.args.groups.now c.args.group) = c.requires.own in
    let stands = table_law c.args.table.now c.law.ensures.in_order c.requires.all_ends c.requires.all_even c.requires.apart (in_group c.args.groups.now c.args.group) in
    record {
      polygons = IfOk-weaker c.polygons_of.result
          (λ ps. ps.items ≡ map (face_rings c.args.own.now.table (next_in c.args.own.now.half) (face_in c.args.own.now.faces)) (filter (λ f. get_or c.deref.result.now f false) (range_with_len 1 (c.args.own.now.faces.count - 1))))
          (λ ps. ps.items ≡ group_polygons c.args.table.now (in_group c.args.groups.now c.args.group) (next_at (group_table c.args.table.now (in_group c.args.groups.now c.args.group))) (face_at (group_table c.args.table.now (in_group c.args.groups.now c.args.group))))
          (λ ps is. is ∙ polygons_are t member c.args.kept.now c.requires.kept own own_is (subst IsPlanar (sym own_is) (record { in_order = stands.0; apart = stands.3 })) c.args.own.now.half c.requires.half c.args.own.now.faces c.requires.faces
          c.deref.result.now (λ f. ap (λ l. get_or l f false) c.deref.ensures.value ∙ c.in_ok-covered.ensures.each f))
          c.polygons_of.ensures;
    }
