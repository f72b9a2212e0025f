-- The store of all versions: `Stored`, the nodes that it stands for, and what holds of it, `IsStored`.
use Rattle.std.specs.Prelude.{◌≡◌, ℕ, ◌+◌, ◌-◌, ◌*◌, ◌^◌, ◌<◌, ◌≤◌, not, List, [], ◌∷◌, length, take, Option, Some, slice_get}
use Rattle.loc_pool.specs.{declared.Link.Link, Maps.Map, Maps.found, Rows.Row}
use Rattle.loc_rb.specs.{Trees.Tree, Trees.top, Trees.items, Nodes.Nodes, Balance.depth}
use Rattle.loc_persist.specs.Present.{found_in, is_among, IsPresent, IsFreshAfter}
use Rattle.loc_persist.specs.{Reading.IsThere, Reading.list_in, Use.in_use}

-- the rows, the root of each sealed version and the newest root, how many nodes there were at the last seal, the links that were copied, the counts of `make` and of `change`, and the room
pub record Stored : Type 0 where
  pub rows : Map Row
  pub roots : List (Option Link)
  pub root : Option Link
  pub sealed_nodes : ℕ
  pub copied : List Link
  pub made : ℕ
  pub changed : ℕ
  pub room : ℕ

-- the lists and the roots of the versions from one on
unfoldable pub kept_from : ℕ → Map Row → List (Option Link) → List (List ℕ × Option Link)
kept_from version rows [] = []
kept_from version rows (root ∷ roots) = (list_in version rows root, root) ∷ kept_from (version + 1) rows roots

-- the nodes of the newest version, which comes after the sealed ones; kept are these
abbrev pub nodes_of : Stored → Nodes
nodes_of s = record {
  rows = λ link. found_in (length s.roots) (found s.rows link);
  current = λ link. not (is_among s.copied link);
  root = s.root;
  made = s.made;
  changed = s.changed;
  spare = s.room;
  kept = kept_from 0 s.rows s.roots;
}

-- a tree stands in the version at this root: with k items it has no path of d nodes where 2^d > (k + 1)^2, and none of more than 42
pub record IsVersion (version : ℕ) (rows : Map Row) (root : Option Link) : Type 0 where
  pub tree : Tree
  pub there : IsThere version rows tree
  pub here : root ≡ top tree
  pub shallow : 2 ^ depth tree ≤ (length (items tree) + 1) * (length (items tree) + 1)
  pub deep : depth tree ≤ 42

-- each sealed version has its tree
abbrev pub AreVersions : Map Row → List (Option Link) → Type 0
AreVersions rows roots = (version : ℕ) (root : Option Link) → slice_get roots version ≡ Some root → IsVersion version rows root

-- what holds of a store; the extras in use and the nodes together are no more than the calls
pub record IsStored (s : Stored) (spare : ℕ) : Type 0 where
  pub present : IsPresent (length s.roots) s.rows s.root s.copied
  pub fresh : IsFreshAfter s.sealed_nodes s.rows
  -- the sealed versions stand in the nodes that there were at the last seal
  pub versions : AreVersions (take s.sealed_nodes s.rows) s.roots
  pub room : s.room ≤ spare
  pub paid : length s.rows + in_use s.copied s.rows ≤ s.made + s.changed
  pub made : s.made ≤ length s.rows
  pub counted : s.made + s.changed + s.room < 2 ^ 32 - 1
  pub few : length s.roots < 2 ^ 32
