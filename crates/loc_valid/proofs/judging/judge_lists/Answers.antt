use Rattle.std.proofs.Common.{◌+◌, List, length, sym, ◌∙◌, ap, subst, arith}
use Rattle.std.specs.Prelude.{Some}
use Rattle.loc_spec_plane.specs.Rings.{Rings}
use Rattle.loc_spec_valid.specs.Breaches.{IsBreachOf, feature_rings, is_nested, is_outside, is_overlap, is_parted, parts, ring_table}
use Rattle.loc_faces.specs.Subdivision.{face_at, next_at}
use Rattle.loc_valid.proofs.Found.{apart_each, few_each, inside_found, nested_found, none_of, outside_at, overlap_found, parted_at, whole_all}
use Rattle.loc_valid.proofs.Order.{nested_first, none_first, outside_first, overlap_first, parteds, parts_first}
use Rattle.loc_valid.proofs.Within.{found_within, pair_within}
use Rattle.loc_valid.proofs.judging.judge_lists.Goals as goal

-- ---- a hole outside
pub overflow_add-result : goal.overflow_add-result
overflow_add-result c =
    let polygons = c.args.feature.now.polygons in
    let found = outside_at polygons c.rings-rings.result.now c.rings-rings.ensures c.args.homes.now c.args.table.now c.requires.of_rings c.args.legend.now c.requires.laid_out c.first_misplaced.result c.first_misplaced.ensures c.in-Some.ring c.in-Some.field-0-1 c.in-Some.is in
    let within = found_within (is_outside polygons (ring_table polygons)) (length (feature_rings polygons)) c.in-Some.ring found in
    omega (arith, within.0, ap (λ (ps : List Rings). length (feature_rings ps)) c.rings-rings.ensures, c.len-rings.ensures.value, c.len-rings.ensures.within)

pub returns-in-Some-clause-breach : goal.returns-in-Some-clause-breach
returns-in-Some-clause-breach c =
    let polygons = c.args.feature.now.polygons in
    outside_first polygons c.requires.unpinched c.in-Some.ring
    (outside_at polygons c.rings-rings.result.now c.rings-rings.ensures c.args.homes.now c.args.table.now c.requires.of_rings c.args.legend.now c.requires.laid_out c.first_misplaced.result c.first_misplaced.ensures c.in-Some.ring c.in-Some.field-0-1 c.in-Some.is)

-- ---- a hole in another
pub overflow_add-result-in-Some-first_misplaced : goal.overflow_add-result-in-Some-first_misplaced
overflow_add-result-in-Some-first_misplaced c =
    let polygons = c.args.feature.now.polygons in
    let found = nested_found polygons c.rings-rings.result.now c.rings-rings.ensures c.args.homes.now c.args.table.now c.requires.of_rings c.args.legend.now c.requires.laid_out c.first_misplaced-2.result c.first_misplaced-2.ensures ∙ c.in-Some-first_misplaced.is in
    let within = pair_within (is_nested polygons (ring_table polygons)) (length (feature_rings polygons)) (length (feature_rings polygons)) (c.in-Some-first_misplaced.ring, c.in-Some-first_misplaced.inside) found in
    omega (arith, within.0, ap (λ (ps : List Rings). length (feature_rings ps)) c.rings-rings.ensures, c.len-rings.ensures.value, c.len-rings.ensures.within)

pub overflow_add-result-in-Some-first_misplaced-2 : goal.overflow_add-result-in-Some-first_misplaced-2
overflow_add-result-in-Some-first_misplaced-2 c =
    let polygons = c.args.feature.now.polygons in
    let found = nested_found polygons c.rings-rings.result.now c.rings-rings.ensures c.args.homes.now c.args.table.now c.requires.of_rings c.args.legend.now c.requires.laid_out c.first_misplaced-2.result c.first_misplaced-2.ensures ∙ c.in-Some-first_misplaced.is in
    let within = pair_within (is_nested polygons (ring_table polygons)) (length (feature_rings polygons)) (length (feature_rings polygons)) (c.in-Some-first_misplaced.ring, c.in-Some-first_misplaced.inside) found in
    omega (arith, within.1, ap (λ (ps : List Rings). length (feature_rings ps)) c.rings-rings.ensures, c.len-rings.ensures.value, c.len-rings.ensures.within)

pub returns-in-Some-first_misplaced-clause-breach : goal.returns-in-Some-first_misplaced-clause-breach
returns-in-Some-first_misplaced-clause-breach c =
    let polygons = c.args.feature.now.polygons in
    nested_first polygons c.requires.unpinched
    (inside_found polygons c.rings-rings.result.now c.rings-rings.ensures c.args.homes.now c.args.table.now c.requires.of_rings c.args.legend.now c.requires.laid_out c.first_misplaced.result c.first_misplaced.ensures (none_of c.first_misplaced.result c.in_default.not-Some))
    (c.in-Some-first_misplaced.ring, c.in-Some-first_misplaced.inside)
    (nested_found polygons c.rings-rings.result.now c.rings-rings.ensures c.args.homes.now c.args.table.now c.requires.of_rings c.args.legend.now c.requires.laid_out c.first_misplaced-2.result c.first_misplaced-2.ensures ∙ c.in-Some-first_misplaced.is)

-- ---- a polygon in parts
pub first_parted-requires-clause-few_pieces : goal.first_parted-requires-clause-few_pieces
first_parted-requires-clause-few_pieces c = few_each c.args.feature.now.polygons c.requires.few_pieces

pub first_parted-requires-clause-apart : goal.first_parted-requires-clause-apart
first_parted-requires-clause-apart c =
    let polygons = c.args.feature.now.polygons in
    apart_each polygons c.args.table.now c.requires.of_rings c.requires.all_even c.requires.unpinched
    (inside_found polygons c.rings-rings.result.now c.rings-rings.ensures c.args.homes.now c.args.table.now c.requires.of_rings c.args.legend.now c.requires.laid_out c.first_misplaced.result c.first_misplaced.ensures (none_of c.first_misplaced.result c.in_default.not-Some))
    (nested_found polygons c.rings-rings.result.now c.rings-rings.ensures c.args.homes.now c.args.table.now c.requires.of_rings c.args.legend.now c.requires.laid_out c.first_misplaced-2.result c.first_misplaced-2.ensures ∙ none_of c.first_misplaced-2.result c.in_default-first_misplaced.not-Some)

pub overflow_add-result-in-Some-2 : goal.overflow_add-result-in-Some-2
overflow_add-result-in-Some-2 c =
    let polygons = c.args.feature.now.polygons in
    let found = (parted_at polygons (parteds polygons) c.in-Some-2.polygon c.in-Some-2.parts (sym c.in_ok-polygon.ensures.found ∙ c.in-Some-2.is)).0 in
    let within = found_within (is_parted next_at face_at polygons) (length polygons) c.in-Some-2.polygon found in
    omega (arith, within.0, ap (λ (ps : List Rings). length ps) c.rings-rings.ensures, c.polygons-polygons.ensures.value, c.polygons-polygons.ensures.within)

pub returns-in-Some-2-clause-breach : goal.returns-in-Some-2-clause-breach
returns-in-Some-2-clause-breach c =
    let polygons = c.args.feature.now.polygons in
    let found = parted_at polygons (parteds polygons) c.in-Some-2.polygon c.in-Some-2.parts (sym c.in_ok-polygon.ensures.found ∙ c.in-Some-2.is) in
    subst (λ count. IsBreachOf next_at face_at polygons (Some (parts (c.in-Some-2.polygon + 1) count))) (sym found.1)
    (parts_first polygons c.requires.unpinched
    (inside_found polygons c.rings-rings.result.now c.rings-rings.ensures c.args.homes.now c.args.table.now c.requires.of_rings c.args.legend.now c.requires.laid_out c.first_misplaced.result c.first_misplaced.ensures (none_of c.first_misplaced.result c.in_default.not-Some))
    (nested_found polygons c.rings-rings.result.now c.rings-rings.ensures c.args.homes.now c.args.table.now c.requires.of_rings c.args.legend.now c.requires.laid_out c.first_misplaced-2.result c.first_misplaced-2.ensures ∙ none_of c.first_misplaced-2.result c.in_default-first_misplaced.not-Some)
    c.in-Some-2.polygon found.0)

-- ---- a polygon in another
pub overflow_add-result-in-Some-3 : goal.overflow_add-result-in-Some-3
overflow_add-result-in-Some-3 c =
    let polygons = c.args.feature.now.polygons in
    let found = overlap_found polygons c.rings-rings.result.now c.rings-rings.ensures c.args.homes.now c.args.table.now c.requires.of_rings c.args.legend.now c.requires.laid_out c.in_ok-polygon-2.field-0 c.in_ok-polygon-2.ensures ∙ c.in-Some-3.is in
    let within = pair_within (is_overlap polygons (ring_table polygons)) (length polygons) (length polygons) (c.in-Some-3.polygon, c.in-Some-3.other) found in
    omega (arith, within.0, ap (λ (ps : List Rings). length ps) c.rings-rings.ensures, c.polygons-polygons.ensures.value, c.polygons-polygons.ensures.within)

pub overflow_add-result-in-Some-3-2 : goal.overflow_add-result-in-Some-3-2
overflow_add-result-in-Some-3-2 c =
    let polygons = c.args.feature.now.polygons in
    let found = overlap_found polygons c.rings-rings.result.now c.rings-rings.ensures c.args.homes.now c.args.table.now c.requires.of_rings c.args.legend.now c.requires.laid_out c.in_ok-polygon-2.field-0 c.in_ok-polygon-2.ensures ∙ c.in-Some-3.is in
    let within = pair_within (is_overlap polygons (ring_table polygons)) (length polygons) (length polygons) (c.in-Some-3.polygon, c.in-Some-3.other) found in
    omega (arith, within.1, ap (λ (ps : List Rings). length ps) c.rings-rings.ensures, c.polygons-polygons.ensures.value, c.polygons-polygons.ensures.within)

pub returns-in-Some-3-clause-breach : goal.returns-in-Some-3-clause-breach
returns-in-Some-3-clause-breach c =
    let polygons = c.args.feature.now.polygons in
    overlap_first polygons c.requires.unpinched
    (inside_found polygons c.rings-rings.result.now c.rings-rings.ensures c.args.homes.now c.args.table.now c.requires.of_rings c.args.legend.now c.requires.laid_out c.first_misplaced.result c.first_misplaced.ensures (none_of c.first_misplaced.result c.in_default.not-Some))
    (nested_found polygons c.rings-rings.result.now c.rings-rings.ensures c.args.homes.now c.args.table.now c.requires.of_rings c.args.legend.now c.requires.laid_out c.first_misplaced-2.result c.first_misplaced-2.ensures ∙ none_of c.first_misplaced-2.result c.in_default-first_misplaced.not-Some)
    (whole_all polygons (parteds polygons) (sym c.in_ok-polygon.ensures.found ∙ none_of c.in_ok-polygon.field-0 c.in_default-2.not-Some))
    (c.in-Some-3.polygon, c.in-Some-3.other)
    (overlap_found polygons c.rings-rings.result.now c.rings-rings.ensures c.args.homes.now c.args.table.now c.requires.of_rings c.args.legend.now c.requires.laid_out c.in_ok-polygon-2.field-0 c.in_ok-polygon-2.ensures ∙ c.in-Some-3.is)

pub returns-in-None-clause-breach : goal.returns-in-None-clause-breach
returns-in-None-clause-breach c =
    let polygons = c.args.feature.now.polygons in
    none_first polygons c.requires.unpinched
    (inside_found polygons c.rings-rings.result.now c.rings-rings.ensures c.args.homes.now c.args.table.now c.requires.of_rings c.args.legend.now c.requires.laid_out c.first_misplaced.result c.first_misplaced.ensures (none_of c.first_misplaced.result c.in_default.not-Some))
    (nested_found polygons c.rings-rings.result.now c.rings-rings.ensures c.args.homes.now c.args.table.now c.requires.of_rings c.args.legend.now c.requires.laid_out c.first_misplaced-2.result c.first_misplaced-2.ensures ∙ none_of c.first_misplaced-2.result c.in_default-first_misplaced.not-Some)
    (whole_all polygons (parteds polygons) (sym c.in_ok-polygon.ensures.found ∙ none_of c.in_ok-polygon.field-0 c.in_default-2.not-Some))
    (overlap_found polygons c.rings-rings.result.now c.rings-rings.ensures c.args.homes.now c.args.table.now c.requires.of_rings c.args.legend.now c.requires.laid_out c.in_ok-polygon-2.field-0 c.in_ok-polygon-2.ensures ∙ c.in-None.is)
