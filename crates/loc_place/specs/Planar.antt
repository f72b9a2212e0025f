-- Tables in which every point has one place. The word: `IsPlanar`.
use Rattle.loc_spec_plane.specs.Tables.{Table, IsTable, NoConflict}

-- a planar straight-line graph: the rows stand in order, and no two edges conflict (de Berg et al., chapter 2)
pub record IsPlanar (t : Table) : Type 0 where
  pub in_order : IsTable t
  pub apart : NoConflict t
