-- A plain table in which no two edges conflict is the table of its layer, whose pieces are few.
use Rattle.std.proofs.Common.{◌≡◌, ◌≤◌, true, List, [], ◌∷◌, ◌++◌, length, refl, sym, ◌∙◌, ap, ap₂, subst, arith}
use Rattle.std.specs.List.{list_any, flat_map}
use Rattle.std.proofs.lemmas.Bool.{or_left, or_right}
use Rattle.loc_spec_plane.specs.{Covers.feature_count, Points.Edge, Points.same_edge}
use Rattle.loc_spec_plane.specs.Tables.{Table, AllEnds, AllEven, NoConflict, cut_at, layer_corners, layer_segments, table_of, whole}
use Rattle.loc_laws_order.proofs.Tests.{same_edge_decides}
use Rattle.loc_laws_noding.proofs.Noded.{plain_is_noded, uncut}
use Rattle.loc_rings.specs.{Layers.IsLayer, Values.Feature}
use Rattle.loc_edges.specs.Layers.{layer_rings}
use Rattle.loc_edges.proofs.{Counts.few_pieces, SmallLayers.few_written_points}
use Rattle.loc_maps.specs.{Located.table_in, Maps.HasFewPieces, Maps.IsTableOf}

-- segments that are their own one pieces have as many pieces as if nothing were cut
as_whole : (cut : Edge → List Edge) (ss : List Edge) → ((s : Edge) → list_any (same_edge s) ss ≡ true → cut s ≡ whole s) → flat_map cut ss ≡ flat_map whole ss
as_whole cut [] same = refl
as_whole cut (s ∷ ss) same =
    ap₂ (λ (xs ys : List Edge). xs ++ ys) (same s (or_left (same_edge s s) (list_any (same_edge s) ss) ((same_edge_decides s s).1 refl)))
    (as_whole cut ss (λ r there. same r (or_right (same_edge r s) (list_any (same_edge r) ss) there)))

-- so there are no more of them than points
few : (features : List Feature) → IsLayer features → NoConflict (table_of (layer_rings features)) → HasFewPieces features
few features within calm =
    let layer = layer_rings features in
    let same = as_whole (cut_at (layer_corners layer)) (layer_segments layer) (uncut layer calm) in
    omega (arith, ap length same, few_pieces layer, few_written_points features within)

pub plain_table : (features : List Feature) (t : Table) → IsLayer features → t ≡ table_of (layer_rings features) → AllEnds t → AllEven t → feature_count t ≤ length features → NoConflict t → IsTableOf features t
unfolding table_in
plain_table features t within is ended even marked apart =
    let calm = subst NoConflict is apart in record {
      table = is ∙ sym (plain_is_noded (layer_rings features) calm);
      few_pieces = few features within calm;
      ended = ended;
      even = even;
      features = marked;
    }
