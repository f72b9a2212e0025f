-- The map of a layer: its table, and the legend of the answers. The words: `has_many_pieces`, `HasFewPieces`,
-- `has_many_covers`, `AreIdsOf`, `IsTableOf`, `IsMapOf`.
use Rattle.std.specs.Prelude.{◌≡◌, ◌≤◌, ℕ, Bool, List, length, map, nat_lt}
use Rattle.loc_spec_plane.specs.Covers.{cover_sum, feature_count}
use Rattle.loc_spec_plane.specs.Tables.{Table, AllEnds, AllEven, NoConflict, piece_count}
use Rattle.loc_rings.specs.Values.{Feature}
use Rattle.loc_edges.specs.Layers.{layer_rings}
use Rattle.loc_spec_text.specs.Limits.{most_members, most_pieces}
use Rattle.loc_cover.specs.Legends.{LegendRows, FitsTable, IsTrueLegend}
use Rattle.loc_maps.specs.Located.{table_in}

-- the segments of the layer have more pieces together than a table may have
abbrev pub has_many_pieces : List Feature → Bool
has_many_pieces layer = nat_lt most_pieces (piece_count (layer_rings layer))

-- they have no more
abbrev pub HasFewPieces : List Feature → Type 0
HasFewPieces layer = piece_count (layer_rings layer) ≤ most_pieces

-- the distinct cover lists have more members together than a legend holds
abbrev pub has_many_covers : Table → Bool
has_many_covers t = nat_lt most_members (cover_sum t)

-- the ids are those of the layer's features, in order
abbrev pub AreIdsOf : List Feature → List (List ℕ) → Type 0
AreIdsOf layer ids = ids ≡ map (λ (f : Feature). f.id) layer

-- the table is that of the layer, whose pieces are few, every corner is an end, marks are even, and they name features of the layer
pub record IsTableOf (layer : List Feature) (t : Table) : Type 0 where
  pub table : t ≡ table_in layer
  pub few_pieces : HasFewPieces layer
  pub ended : AllEnds t
  pub even : AllEven t
  pub features : feature_count t ≤ length layer

-- the table is that of the layer, whose pieces are few, every corner is an end, marks are even, no two edges conflict, and the legend is true of the
-- table and has the ids of the layer
pub record IsMapOf (layer : List Feature) (t : Table) (rows : LegendRows) : Type 0 where
  pub table : t ≡ table_in layer
  pub few_pieces : HasFewPieces layer
  pub ended : AllEnds t
  pub even : AllEven t
  pub apart : NoConflict t
  pub ids : rows.ids ≡ map (λ (f : Feature). f.id) layer
  pub fits : FitsTable t rows
  pub is_true : IsTrueLegend t rows
