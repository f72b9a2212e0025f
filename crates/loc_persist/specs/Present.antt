-- The rows as the steps of a tree see them in the newest version: `nodes_at`, and what holds of them, `IsPresent`.
use Rattle.std.specs.Prelude.{◌≡◌, ℕ, ◌≤◌, Bool, true, false, not, ◌||◌, List, [], ◌∷◌, length, take, Option, None, Some}
use Rattle.loc_pool.specs.{declared.Link.Link, declared.Extra.Extra, declared.Turn.Turn}
use Rattle.loc_pool.specs.{declared.Turn.TheVariants.Left, declared.Turn.TheVariants.Right, Same.same}
use Rattle.loc_pool.specs.Maps.{Map, has, found}
use Rattle.loc_pool.specs.Rows as pool
use Rattle.loc_rb.specs.{Trees.Row, Trees.with_child, Nodes.Nodes}

-- a row as it is in a version
abbrev pub row_in : ℕ → pool.Row → Row
row_in version x = record { item = x.item; left = pool.child_at version Left x; right = pool.child_at version Right x; colour = x.colour }

-- the row of what was found, as it is in a version
abbrev pub found_in : ℕ → Option pool.Row → Option Row
found_in version None = None
found_in version (Some x) = Some (row_in version x)

-- a new row of the pool
abbrev pub as_new : Row → pool.Row
as_new x = pool.new_row x.item x.left x.right x.colour

-- the row of a copy: as it is in a version, with one child exchanged
abbrev pub copy_of : ℕ → Turn → Option Link → pool.Row → pool.Row
copy_of version turn to x = as_new (with_child turn to (row_in version x))

-- whether a link is in a list
unfoldable pub is_among : List Link → Link → Bool
is_among [] link = false
is_among (l ∷ ls) link = same l link || is_among ls link

-- the nodes in a version: those that were copied are current no longer
abbrev pub nodes_at : ℕ → Map pool.Row → Option Link → List Link → Nodes
nodes_at version rows root copied = record {
  rows = λ link. found_in version (found rows link);
  current = λ link. not (is_among copied link);
  root = root;
  made = 0;
  changed = 0;
  spare = 0;
  kept = [];
}

-- the links to which a row leads have rows
pub record IsClosed (rows : Map pool.Row) (x : pool.Row) : Type 0 where
  pub left : (link : Link) → x.left ≡ Some link → has rows link ≡ true
  pub right : (link : Link) → x.right ≡ Some link → has rows link ≡ true
  pub extra : (extra : Extra) (link : Link) → x.extra ≡ Some extra → extra.to ≡ Some link → has rows link ≡ true

-- no stamp is of a later version, and the links to which the rows lead, those that were copied and the root have rows
pub record IsPresent (version : ℕ) (rows : Map pool.Row) (root : Option Link) (copied : List Link) : Type 0 where
  pub stamps : (link : Link) (extra : Extra) → has rows link ≡ true → (pool.row rows link).extra ≡ Some extra → extra.version ≤ version
  pub closed : (link : Link) → has rows link ≡ true → IsClosed rows (pool.row rows link)
  pub known : (link : Link) → is_among copied link ≡ true → has rows link ≡ true
  pub rooted : (link : Link) → root ≡ Some link → has rows link ≡ true

-- there are at least this many nodes, and those that come after them have no extra
pub record IsFreshAfter (nodes : ℕ) (rows : Map pool.Row) : Type 0 where
  pub within : nodes ≤ length rows
  pub fresh : (link : Link) → has rows link ≡ true → has (take nodes rows) link ≡ false → (pool.row rows link).extra ≡ None
