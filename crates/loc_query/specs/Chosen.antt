-- The index that was chosen. The words:
--   index_of      which one it is
--   HasIndex      what it keeps of a table
--   IsIndexFor    it is an index of a table
--   nodes_of      the number of its nodes, where it is a tree
--   HasFewNodes   a tree has at least one node and at most 24 for each edge
use Rattle.std.specs.Prelude.{ℕ, ◌*◌, ◌≤◌, length, Option, Some, None, ⊤}
use Rattle.loc_spec_asked.specs.declared.Index.{Index}
use Rattle.loc_spec_asked.specs.declared.Index.TheVariants as by
use Rattle.loc_spec_plane.specs.Tables.{Table}
use Rattle.loc_place.specs.Planar.{IsPlanar}
use Rattle.loc_treeidx.specs.Standing.{AreVersionsOf}
use Rattle.loc_trapdag.specs.Graphs.{IsIndexOf}
use Rattle.loc_query.specs.declared.chosen.Chosen.{Chosen}
use Rattle.loc_query.specs.declared.chosen.Chosen.TheVariants.{Scan, Tree, Trap}

-- which index it is
abbrev pub index_of : Chosen → Index
index_of Scan = by.Scan
index_of (Tree versions) = by.Tree
index_of (Trap graph) = by.Trap

-- what an index keeps of a table: nothing, the versions of the table, or its trapezoids
abbrev pub HasIndex : Table → Chosen → Type 0
HasIndex t Scan = ⊤
HasIndex t (Tree versions) = AreVersionsOf t versions
HasIndex t (Trap graph) = IsIndexOf t graph

-- the table is planar, and the index is one of it
pub record IsIndexFor (t : Table) (index : Chosen) : Type 0 where
  pub planar : IsPlanar t
  pub kept : HasIndex t index

-- the number of the nodes of a tree
abbrev pub nodes_of : Chosen → Option ℕ
nodes_of Scan = None
nodes_of (Tree versions) = Some (length versions.rows)
nodes_of (Trap graph) = None

-- a tree has at least one node and at most 24 for each edge
abbrev pub HasFewNodes : Table → Chosen → Type 0
HasFewNodes t Scan = ⊤
HasFewNodes t (Tree versions) = (length t.ends ≤ length versions.rows) × (length versions.rows ≤ 24 * length t.ends)
HasFewNodes t (Trap graph) = ⊤
