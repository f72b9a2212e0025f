-- What the reading calls tell of the present tree and of a tree that stands in a version: what a search may cite.
use Rattle.std.proofs.Common.{◌≡◌, ℕ, true, length, sym, ap, ◌∙◌, Option, Some}
use Rattle.loc_pool.specs.{declared.Link.Link, declared.Turn.Turn, Maps.has}
use Rattle.loc_pool.specs.Rows as pool
use Rattle.loc_rb.specs.{Trees.Row, Trees.child_of, Nodes.HasRow}
use Rattle.loc_persist.specs.Meaning.{VersionsMeaning, present_nodes}
use Rattle.loc_persist.proofs.{NewestRows.row-is, Stores.child-in}

-- a row of the present tree is one of the rows
pub present-row : (m : VersionsMeaning) (at : Link) → HasRow (present_nodes m) at → has m.rows at ≡ true
present-row m at h = (row-is (length m.roots) m.rows at h.0 h.1).0

-- what `newest_child` answers is the child of the present tree
pub present-child : (m : VersionsMeaning) (at : Link) (turn : Turn) (o : Option Link) → o ≡ pool.child_at (length m.roots) turn (pool.row m.rows at) → (y : Row) → (present_nodes m).rows at ≡ Some y → o ≡ child_of turn y
present-child m at turn o e y q = e ∙ sym (child-in (length m.roots) turn (pool.row m.rows at)) ∙ ap (child_of turn) (sym (row-is (length m.roots) m.rows at y q).1)

-- what `item` answers is the item of the present tree
pub present-item : (m : VersionsMeaning) (at : Link) (x : ℕ) → x ≡ (pool.row m.rows at).item → (y : Row) → (present_nodes m).rows at ≡ Some y → x ≡ y.item
present-item m at x e y q = e ∙ ap (λ (z : Row). z.item) (sym (row-is (length m.roots) m.rows at y q).1)
