-- Why a layer has no plane. The words: `HasConflict`, `IsFaultOf`, `IsRefusedBy`.
use Rattle.std.specs.Prelude.{◌≡◌, ℕ, ◌<◌, List, length, IsTrue}
use Rattle.loc_spec_plane.specs.{Covers.cover_sum, Points.conflict}
use Rattle.loc_spec_plane.specs.Tables.{Table, NoConflict, edge, piece_count}
use Rattle.loc_rings.specs.Values.{Feature}
use Rattle.loc_edges.specs.Layers.{layer_rings}
use Rattle.loc_spec_text.specs.Limits.{most_members, most_pieces}
use Rattle.loc_maps.specs.Located.{table_in}
use Rattle.loc_parts.specs.declared.fault.PlaneFault.{PlaneFault}
use Rattle.loc_parts.specs.declared.fault.PlaneFault.TheVariants as f

-- two edges of the table conflict
pub record HasConflict (t : Table) : Type 0 where
  pub first : ℕ
  pub second : ℕ
  pub in_order : first < second
  pub in_range : second < length t.ends
  pub conflict : IsTrue (conflict (edge t first) (edge t second))

-- what a fault says of the table that is judged, and hands back; want of memory may come at any time
abbrev pub IsFaultOf : Table → PlaneFault → Type 0
IsFaultOf t (f.Conflict table) = (table ≡ t) × HasConflict t
IsFaultOf t (f.Covers table) = (table ≡ t) × (NoConflict t × (most_members < cover_sum t))
IsFaultOf t f.Pieces = ⊥
IsFaultOf t f.NoMemory = Unit {0}

-- why a layer has no plane, with its table; want of memory may come at any time
abbrev pub IsRefusedBy : List Feature → PlaneFault → Type 0
IsRefusedBy layer (f.Conflict table) = (table ≡ table_in layer) × HasConflict (table_in layer)
IsRefusedBy layer (f.Covers table) = (table ≡ table_in layer) × (most_members < cover_sum (table_in layer))
IsRefusedBy layer f.Pieces = most_pieces < piece_count (layer_rings layer)
IsRefusedBy layer f.NoMemory = Unit {0}
