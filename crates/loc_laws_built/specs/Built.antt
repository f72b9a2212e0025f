-- What is written of a layer is a true index of it. The words:
--   IsPlaneOf      a legend and versions are those of a layer
--   ContentIsTrue  as a law: what holds them is a true index of the layer
--   LayerFits      as a law: a layer of few pieces has few edges and marks
--   BytesOf        as a law: what is written of a content is bytes
use Rattle.std.specs.Prelude.{◌≡◌, ℕ, ◌≤◌, All, List, length, sum_by}
use Rattle.loc_spec_text.specs.Limits.{most_pieces}
use Rattle.loc_spec_plane.specs.Rings.{Rings}
use Rattle.loc_spec_plane.specs.Tables.{AllEnds, AllEven, NoConflict, noded_table_of, piece_count}
use Rattle.loc_spec_index.specs.{Content.Content, TrueIndex.IsIndexOf, TrueIndex.IsTrueIndex, IndexFile.bytes_of}
use Rattle.loc_laws_index.specs.IndexReading.{AreBytes}
use Rattle.loc_rings.specs.Values.{Feature}
use Rattle.loc_edges.specs.Layers.{layer_rings}
use Rattle.loc_status.specs.Versions.{AreVersions}
use Rattle.loc_persist.specs.Meaning.{VersionsMeaning, IsMeaning}
use Rattle.loc_cover.specs.Legends.{LegendRows, IsSound, IsTrueLegend}
use Rattle.loc_write.specs.Written.{HoldsParts, IsContentOf}

-- in the table of the layer every corner is an end, marks are even and no two edges conflict; the legend is true of it, and the sealed lists are its versions
pub record IsPlaneOf (layer : List Rings) (rows : LegendRows) (m : VersionsMeaning) : Type 0 where
  pub ended : AllEnds (noded_table_of layer)
  pub even : AllEven (noded_table_of layer)
  pub apart : NoConflict (noded_table_of layer)
  pub sound : IsSound rows
  pub as_many : length rows.on_edge ≡ length (noded_table_of layer).ends
  pub legend : IsTrueLegend (noded_table_of layer) rows
  pub meaning : IsMeaning m
  pub versions : AreVersions (noded_table_of layer) m.sealed_lists

-- a content of the table, the legend and the versions of a layer is a true index of it
abbrev pub ContentIsTrue : Type 0
ContentIsTrue =
    (scale : ℕ) (layer : List Rings) (rows : LegendRows) (m : VersionsMeaning) (c : Content) → IsPlaneOf layer rows m → IsContentOf scale (noded_table_of layer) rows m c
    → HoldsParts (noded_table_of layer) rows c → IsTrueIndex c × IsIndexOf 2 scale rows.ids layer c

-- a layer of at most 2^21 pieces has no more edges, and no more marks
abbrev pub LayerFits : Type 0
LayerFits = (layer : List Feature) → piece_count (layer_rings layer) ≤ most_pieces → (length (noded_table_of (layer_rings layer)).ends ≤ most_pieces) × (sum_by length (noded_table_of (layer_rings layer)).marks ≤ most_pieces)

-- where the ids are bytes, all that is written of a content is
abbrev pub BytesOf : Type 0
BytesOf = (c : Content) → All AreBytes c.ids → AreBytes (bytes_of 2 c)
