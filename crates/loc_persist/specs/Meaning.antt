-- What versions mean, `VersionsMeaning`; what holds of them, `IsMeaning`; and what each call does to them: `Inserts`, `Removes`, `Seals`.
use Rattle.std.specs.Prelude.{◌≡◌, ℕ, ◌+◌, ◌*◌, ◌^◌, ◌<◌, ◌≤◌, max, Bool, true, false, List, [], ◌∷◌, ◌++◌, length, map, Option, None, Some, slice_get}
use Rattle.loc_pool.specs.{declared.Link.Link, declared.Extra.Extra, declared.Turn.Turn, Maps.Map, Maps.has, Maps.found}
use Rattle.loc_pool.specs.Rows.{Row, row}
use Rattle.loc_rb.specs.{Trees.Tree, Trees.top, Trees.items, Nodes.Nodes, Balance.depth}
use Rattle.loc_rb.specs.Places.{Holds, LeadsToGap, LeadsTo}
use Rattle.loc_persist.specs.{Present.found_in, Reading.IsThere, Reading.list_in}
use Rattle.loc_persist.specs.Stored.{Stored, kept_from, nodes_of}

-- what can be said of versions at one moment
pub record VersionsMeaning : Type 0 where
  -- the rows of the nodes by their links, in the order of making
  pub rows : Map Row
  -- the root of each sealed version, and of the present tree
  pub roots : List (Option Link)
  pub root : Option Link
  -- the sealed lists, and the present one
  pub sealed_lists : List (List ℕ)
  pub list : List ℕ
  -- how many items were inserted and removed
  pub inserted : ℕ
  pub removed : ℕ
  -- one more than the greatest item inserted, 0 before the first
  pub past_greatest : ℕ
  -- whether an item was inserted or removed since the last seal
  pub is_changed : Bool

-- nothing was sealed, inserted or removed
abbrev pub fresh : VersionsMeaning
fresh = record { rows = []; roots = []; root = None; sealed_lists = []; list = []; inserted = 0; removed = 0; past_greatest = 0; is_changed = false }

-- the nodes of the present tree, as the steps of a red-black tree see them
abbrev pub present_nodes : VersionsMeaning → Nodes
present_nodes m = record { rows = λ link. found_in (length m.roots) (found m.rows link); current = λ link. true; root = m.root; made = 0; changed = 0; spare = 0; kept = [] }

-- the list is what is read from the root in a version, left child, item, right child: with k items no path from there has d nodes where 2^d > (k + 1)^2
pub record Reads (version : ℕ) (rows : Map Row) (root : Option Link) (list : List ℕ) : Type 0 where
  pub tree : Tree
  pub there : IsThere version rows tree
  pub here : root ≡ top tree
  pub whole : items tree ≡ list
  pub shallow : 2 ^ depth tree ≤ (length list + 1) * (length list + 1)
  pub deep : depth tree ≤ 42

-- the list of a sealed version is read from its root
pub record ReadsSealed (m : VersionsMeaning) (version : ℕ) (root : Option Link) : Type 0 where
  pub list : List ℕ
  pub sealed : slice_get m.sealed_lists version ≡ Some list
  pub reads : Reads version m.rows root list

-- what holds of versions at every moment
pub record IsMeaning (m : VersionsMeaning) : Type 0 where
  -- each sealed version reads as its list, and there are as many lists as roots
  pub sealed : (version : ℕ) (root : Option Link) → slice_get m.roots version ≡ Some root → ReadsSealed m version root
  pub as_many : length m.sealed_lists ≡ length m.roots
  -- the present list is that of a red-black tree, which is read in the version that comes next
  pub present : Holds (present_nodes m) m.list
  pub newest : Reads (length m.roots) m.rows m.root m.list
  -- the items of the rows, and their stamps
  pub items : (link : Link) → has m.rows link ≡ true → (row m.rows link).item < m.past_greatest
  pub stamps : (link : Link) (extra : Extra) → has m.rows link ≡ true → (row m.rows link).extra ≡ Some extra → extra.version ≤ length m.roots
  pub settled : m.is_changed ≡ false → (link : Link) (extra : Extra) → has m.rows link ≡ true → (row m.rows link).extra ≡ Some extra → extra.version < length m.roots
  -- how many items and nodes there are
  pub small : length m.list ≤ 2 ^ 21
  pub counted : length m.list + m.removed ≡ m.inserted
  pub least : m.inserted ≤ length m.rows
  pub most : length m.rows ≤ 8 * m.inserted + 14 * m.removed

-- the item has come into the list, at the missing child to which the path leads; what was sealed is as it was
pub record Inserts (path : List (Link × Turn)) (item : ℕ) (old new : VersionsMeaning) : Type 0 where
  pub list : (preceding following : List ℕ) → LeadsToGap (present_nodes old) path preceding following → new.list ≡ preceding ++ item ∷ following
  pub roots : new.roots ≡ old.roots
  pub sealed_lists : new.sealed_lists ≡ old.sealed_lists
  pub inserted : new.inserted ≡ old.inserted + 1
  pub removed : new.removed ≡ old.removed
  pub past_greatest : new.past_greatest ≡ max old.past_greatest (item + 1)
  pub is_changed : new.is_changed ≡ true

-- the item of the node to which the path leads has gone from the list; what was sealed is as it was
pub record Removes (path : List (Link × Turn)) (at : Link) (old new : VersionsMeaning) : Type 0 where
  pub list : (preceding : List ℕ) (item : ℕ) (following : List ℕ) → LeadsTo (present_nodes old) path at preceding item following → new.list ≡ preceding ++ following
  pub roots : new.roots ≡ old.roots
  pub sealed_lists : new.sealed_lists ≡ old.sealed_lists
  pub inserted : new.inserted ≡ old.inserted
  pub removed : new.removed ≡ old.removed + 1
  pub past_greatest : new.past_greatest ≡ old.past_greatest
  pub is_changed : new.is_changed ≡ true

-- the present list has come to the sealed ones
pub record Seals (old new : VersionsMeaning) : Type 0 where
  pub rows : new.rows ≡ old.rows
  pub roots : new.roots ≡ old.roots ++ old.root ∷ []
  pub root : new.root ≡ old.root
  pub sealed_lists : new.sealed_lists ≡ old.sealed_lists ++ old.list ∷ []
  pub list : new.list ≡ old.list
  pub inserted : new.inserted ≡ old.inserted
  pub removed : new.removed ≡ old.removed
  pub past_greatest : new.past_greatest ≡ old.past_greatest
  pub is_changed : new.is_changed ≡ false

-- the sealed lists of a store
abbrev pub lists_of : Stored → List (List ℕ)
lists_of s = map (λ kept. kept.0) (kept_from 0 s.rows s.roots)

-- the present list of a store
abbrev pub list_of : Stored → List ℕ
list_of s = list_in (length s.roots) s.rows s.root

-- the meaning of versions, by their store and what is counted beside it
abbrev pub meaning : Stored → ℕ → ℕ → ℕ → Bool → VersionsMeaning
meaning s inserted removed past_greatest is_changed = record {
  rows = s.rows;
  roots = s.roots;
  root = s.root;
  sealed_lists = lists_of s;
  list = list_of s;
  inserted = inserted;
  removed = removed;
  past_greatest = past_greatest;
  is_changed = is_changed;
}

-- what is kept of a store and of what is counted beside it
pub record IsKept (s : Stored) (inserted removed past_greatest : ℕ) (is_changed : Bool) : Type 0 where
  pub present : Holds (nodes_of s) (list_of s)
  pub small : length (list_of s) ≤ 2 ^ 21
  pub counted : length (list_of s) + removed ≡ inserted
  pub few : inserted ≤ 2 ^ 26
  pub calls : s.made + s.changed ≤ 8 * inserted + 14 * removed
  pub made : inserted ≤ s.made
  pub items : (link : Link) → has s.rows link ≡ true → (row s.rows link).item < past_greatest
  pub settled : is_changed ≡ false → (link : Link) (extra : Extra) → has s.rows link ≡ true → (row s.rows link).extra ≡ Some extra → extra.version < length s.roots
