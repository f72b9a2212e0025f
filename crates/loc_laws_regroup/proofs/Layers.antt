-- What the text of groups reads as: its records are the header and a row for each group, and no row has a fault.
use Rattle.std.proofs.Common.{◌≡◌, ◌≢◌, ℕ, ◌+◌, ◌^◌, ◌≤◌, false, List, [], ◌∷◌, ◌++◌, length, map, append_assoc, append-nil, length-append, Some, Ok, refl, sym, ◌∙◌, ap, arith}
use Rattle.std.specs.{Prelude.codes, Prelude.nat_le, Prelude.nat_lt, List.AllByRecursion, List.enumerate_from}
use Rattle.std.proofs.lemmas.Bool.{le-ltb, lt-leb}
use Rattle.std.proofs.lemmas.List.Sums.{sum_by-cons, sum_by_push}
use Rattle.loc_spec_plane.specs.{Points.IsGridPoint, Rings.Rings}
use Rattle.loc_spec_text.specs.{Bytes.result_and_then, Reading.reading, Limits.most_id_bytes}
use Rattle.loc_rings.specs.{Values.Feature, Layers.layer_points, Layers.point_count}
use Rattle.loc_csvform.specs.Layer.{csv_row, features_from, layer_of, with_row}
use Rattle.loc_csvform.proofs.Layers.{under_header}
use Rattle.loc_spec_groups.specs.Groups.{Group}
use Rattle.loc_laws_grouptext.specs.Laws.{AreOnGrid, fields_of, geometry_of}
use Rattle.loc_laws_grouptext.proofs.Rows.{groups_read}
use Rattle.loc_laws_regroup.specs.Laws.{ArePolygons, feature_of, IsId, IsOpenRing, LayerReads}
use Rattle.loc_laws_regroup.proofs.{Lists.all_by_number, Lists.all_to, Values.geometry_reads}

all_on_grid : (polygons : List Rings) → ArePolygons polygons → AreOnGrid polygons
all_on_grid polygons good = all_to (λ q. (q ≢ []) × AllByRecursion IsOpenRing q) (AllByRecursion (AllByRecursion IsGridPoint))
    (λ q each. all_to IsOpenRing (AllByRecursion IsGridPoint) (λ r one. one.on_grid) q each.1) polygons good

-- the row of a group
row_is : (scale k : ℕ) (group : Group) → IsId group.id → csv_row 2 0 (Some 1) (k, fields_of scale group) ≡ Ok (record { number = k; id = group.id; text = geometry_of scale group })
row_is scale k group id = rw (id.utf8, le-ltb most_id_bytes (length group.id) id.short) refl

-- the features of rows, behind those that were read
features_are : (scale k : ℕ) (groups : List Group) (done : List Feature) → AllByRecursion (λ group. ArePolygons group.polygons × IsId group.id) groups
    → length done + length groups ≤ 2 ^ 18 → layer_points done + layer_points (map feature_of groups) ≤ 2 ^ 20
    → features_from (reading scale) (map (csv_row 2 0 (Some 1)) (enumerate_from k (map (fields_of scale) groups))) done ≡ Ok (done ++ map feature_of groups)
features_are scale k [] done good few points = ap Ok (sym (append-nil done))
features_are scale k (group ∷ groups) done good few points =
    let parts = sum_by-cons point_count (feature_of group) (map feature_of groups) in
    let room : nat_le (2 ^ 18) (length done) ≡ false = lt-leb (2 ^ 18) (length done) (omega (arith, few)) in
    let within : nat_lt (2 ^ 20) (layer_points done + point_count (feature_of group)) ≡ false = le-ltb (2 ^ 20) (layer_points done + point_count (feature_of group)) (omega (arith, points, parts)) in
    let next : layer_points (done ++ feature_of group ∷ []) ≡ layer_points done + point_count (feature_of group) = sum_by_push point_count done (feature_of group) in
    ap (λ r. features_from (reading scale) (r ∷ map (csv_row 2 0 (Some 1)) (enumerate_from (k + 1) (map (fields_of scale) groups))) done) (row_is scale k group good.0.1)
    ∙ ap (λ q. result_and_then (with_row done (record { number = k; id = group.id; text = geometry_of scale group }) q) (features_from (reading scale) (map (csv_row 2 0 (Some 1)) (enumerate_from (k + 1) (map (fields_of scale) groups))))) (geometry_reads scale group good.0.0)
    ∙ rw (room, within) (features_are scale (k + 1) groups (done ++ feature_of group ∷ []) good.1 (omega (arith, few, length-append done (feature_of group ∷ []))) (omega (arith, points, parts, next)))
    ∙ ap Ok (append_assoc done (feature_of group ∷ []) (map feature_of groups))

mapped : (groups : List Group) → length (map feature_of groups) ≡ length groups
mapped [] = refl
mapped (group ∷ groups) = omega (arith, mapped groups)

pub layer_reads : LayerReads
unfolding layer_of
layer_reads scale groups good limits =
    let grid = all_by_number (λ (group : Group). AreOnGrid group.polygons) groups (all_to (λ (group : Group). ArePolygons group.polygons × IsId group.id) (λ (group : Group). AreOnGrid group.polygons) (λ group each. all_on_grid group.polygons each.0) groups good) in
    let records_are = groups_read scale groups grid in
    under_header scale _ (codes "wkt" ∷ codes "id" ∷ []) (map (fields_of scale) groups) 0 records_are refl
    ∙ features_are scale 1 groups [] good (omega (arith, limits.few_features, mapped groups)) (omega (arith, limits.few_points))
