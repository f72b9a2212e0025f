-- What the groups of an accepted layer are, and what their text reads as.
use Rattle.std.proofs.Common.{List, refl}
use Rattle.std.proofs.lemmas.Bool.{false_from_ne_true, not-true, not_from_false}
use Rattle.loc_spec_plane.specs.Points.{conflict}
use Rattle.loc_spec_plane.specs.Tables.{NoConflict, cut_at, edge, layer_corners, noded_table_of}
use Rattle.loc_spec_text.specs.Bytes.{Text}
use Rattle.loc_rings.specs.Values.{Feature}
use Rattle.loc_edges.specs.{Conflicts.has_conflict, Layers.layer_rings}
use Rattle.loc_edges.proofs.EdgeLists.{edges_conflict}
use Rattle.loc_laws_noding.proofs.{Counted.few_marks, Noded.cutting_noded}
use Rattle.loc_laws_noding.proofs.Tables.{all_ends, covers_is, few_ends, few_features, is_table, touches_is}
use Rattle.loc_dissolve.proofs.Layered.{all_covering, all_once}
use Rattle.loc_laws_regroup.proofs.Dissolved.{accepted_reads, read_even}
use Rattle.loc_maps.specs.{Conflicts.Accepts, Located.edges_of, Located.table_in, MapCourses.LayerFile}
use Rattle.loc_query.specs.Headline.{IsAccepted}
use Rattle.loc_groups.specs.{Dissolves.AreDissolved, GroupCourses.groups_text}

-- in a layer none of whose edges conflict no two edges of the table do
pub no_conflict : (layer : List Feature) → Accepts layer → NoConflict (noded_table_of (layer_rings layer))
unfolding table_in
no_conflict layer accepts a b a_fits b_fits =
    let t = noded_table_of (layer_rings layer) in
    let meet = conflict (edge t a) (edge t b) in
    not_from_false meet (false_from_ne_true meet (λ meets. (let has = edges_conflict t a b a_fits b_fits meets in let none = not-true (has_conflict (edges_of layer)) accepts in cc (has, none))))

-- what the groups of an accepted layer are
pub are_dissolved : (file : LayerFile) (text : Text) (layer : List Feature) → IsAccepted file text layer → AreDissolved file.scale layer
unfolding groups_text table_in
are_dissolved file text layer a =
    let rings = layer_rings layer in
    let cut = cut_at (layer_corners rings) in
    let cutting = cutting_noded rings in
    let ok = is_table cut rings cutting in
    let ended = all_ends cut rings cutting in
    let even = read_even file.form file.scale text layer a.within a.reads in
    let apart = no_conflict layer a.apart in
    record {
      segments = all_once layer (noded_table_of rings) refl ok ended even apart;
      covering = all_covering layer (noded_table_of rings) refl ok ended even apart (λ l. (few_ends (cut_at (layer_corners l)) l, few_marks (cut_at (layer_corners l)) l, few_features (cut_at (layer_corners l)) l))
          (λ l f p. (touches_is (cut_at (layer_corners l)) l (cutting_noded l) f p, covers_is (cut_at (layer_corners l)) l (cutting_noded l) f p));
      reads_back = accepted_reads file.form file.scale text layer a.within a.reads apart;
    }
