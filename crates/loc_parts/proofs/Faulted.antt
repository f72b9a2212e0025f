-- Why a layer has no plane, from what is wrong with its table.
use Rattle.std.proofs.Common.{◌≡◌, ◌∙◌, ◌<◌, ◌≤◌, List, length, subst}
use Rattle.loc_spec_plane.specs.Covers.{cover_sum, feature_count}
use Rattle.loc_spec_plane.specs.Tables.{Table, AllEnds, AllEven, noded_table_of, piece_count}
use Rattle.loc_rings.specs.Values.{Feature}
use Rattle.loc_edges.specs.Layers.{layer_rings}
use Rattle.loc_spec_text.specs.Limits.{most_members, most_pieces}
use Rattle.loc_maps.specs.{Located.table_in, Maps.IsTableOf}
use Rattle.loc_parts.specs.Faults.{HasConflict, IsFaultOf, IsRefusedBy}
use Rattle.loc_parts.specs.declared.fault.PlaneFault.{PlaneFault}
use Rattle.loc_parts.specs.declared.fault.PlaneFault.TheVariants as f

-- a noded table is the table of its layer
pub noded_is : (layer : List Feature) (t : Table) → t ≡ noded_table_of (layer_rings layer) → piece_count (layer_rings layer) ≤ most_pieces → AllEnds t → AllEven t → feature_count t ≤ length layer → IsTableOf layer t
unfolding table_in
noded_is layer t is few ended even features = record {
  table = is;
  few_pieces = few;
  ended = ended;
  even = even;
  features = features;
}

-- what is wrong with the table of a layer
pub by_table : (layer : List Feature) (t : Table) (fault : PlaneFault) → t ≡ table_in layer → IsFaultOf t fault → IsRefusedBy layer fault
by_table layer t (f.Conflict table) is wrong = (wrong.0 ∙ is, subst HasConflict is wrong.1)
by_table layer t (f.Covers table) is wrong = (wrong.0 ∙ is, subst (λ (s : Table). most_members < cover_sum s) is wrong.1.1)
by_table layer t f.Pieces is wrong = absurd wrong
by_table layer t f.NoMemory is wrong = wrong
