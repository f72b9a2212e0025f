-- Examples, computed: counts, conflicts and the lines that name what is wrong with a layer.
use Rattle.std.proofs.Common.{◌≡◌, List, [], ◌∷◌, true, false, refl, codes}
use Rattle.std.specs.{Prelude.pos, Prelude.neg_ℤ, Fmt.digits}
use Rattle.loc_spec_plane.specs.{Points.Edge, Points.point_at, Points.turn, Rings.Ring, Tables.table_by}
use Rattle.loc_spec_text.specs.declared.Form.TheVariants as form
use Rattle.loc_spec_text.specs.declared.TextFault.TheVariants as t
use Rattle.loc_csvform.specs.declared.faults.LayerFault.TheVariants as l
use Rattle.loc_geom.specs.declared.kinds.Meeting.TheVariants as m
use Rattle.loc_rings.specs.Values.{Feature}
use Rattle.loc_edges.specs.Conflicts.{has_conflict}
use Rattle.loc_maps.specs.LineTexts.{conflict_text, layer_fault_text}
use Rattle.loc_maps.specs.Located.{counts_of, edges_of, table_in}

-- a square from 0 0 to 4 4, and a bow-tie
abbrev square : Ring
square = point_at (pos 0) (pos 0) ∷ point_at (pos 4) (pos 0) ∷ point_at (pos 4) (pos 4) ∷ point_at (pos 0) (pos 4) ∷ point_at (pos 0) (pos 0) ∷ []

abbrev bow_tie : Ring
bow_tie = point_at (pos 0) (pos 0) ∷ point_at (pos 4) (pos 4) ∷ point_at (pos 4) (pos 0) ∷ point_at (pos 0) (pos 4) ∷ point_at (pos 0) (pos 0) ∷ []

-- the layer of one ring
abbrev layer : Ring → List Feature
layer ring = record { id = codes "1"; polygons = (ring ∷ []) ∷ [] } ∷ []

counts : counts_of (layer square) ≡ codes "features 1 corners 4 edges 4\n"
unfolding counts_of table_in table_by turn digits
counts = refl

conflicts : (has_conflict (edges_of (layer square)) ≡ false) × (has_conflict (edges_of (layer bow_tie)) ≡ true)
unfolding table_in table_by turn
conflicts = (refl, refl)

faults : (layer_fault_text form.Lines (l.Text 3 t.Syntax) ≡ codes "layer line 3: syntax")
    × (layer_fault_text form.Csv (l.Ragged 2) ≡ codes "layer row 2: fields")
    × (layer_fault_text form.Lines (l.ManyPoints 7) ≡ codes "layer line 7: too many points")
unfolding digits
faults = (refl, refl, refl)

abbrev rising : Edge
rising = record { lo = point_at (pos 0) (pos 0); hi = point_at (pos 4) (pos 4) }

abbrev falling : Edge
falling = record { lo = point_at (pos 0) (pos 4); hi = point_at (pos 4) (pos 0) }

named : (conflict_text 0 rising falling m.Cross ≡ codes "layer: edges 0 0, 4 4 and 0 4, 4 0 cross")
    × (conflict_text 1 (record { lo = point_at (pos 0) (pos 0); hi = point_at (pos 40) (pos 5) }) (record { lo = point_at (pos 0) (neg_ℤ (pos 4)); hi = point_at (pos 40) (pos 0) }) m.Touch ≡ codes "layer: edges 0.0 0.0, 4.0 0.5 and 0.0 -0.4, 4.0 0.0 touch")
unfolding digits
named = (refl, refl)
