-- What is read from the rows of all versions: `IsThere`, a tree that stands in a version, and `reading`, its list.
use Rattle.std.specs.Prelude.{◌≡◌, ℕ, zero, suc, true, cond, List, [], ◌∷◌, ◌++◌, Option, None, Some}
use Rattle.loc_pool.specs.{declared.Link.Link, declared.Turn.TheVariants.Left, declared.Turn.TheVariants.Right}
use Rattle.loc_pool.specs.{Maps.Map, Maps.has, Rows.Row, Rows.row, Rows.child_at}
use Rattle.loc_rb.specs.Trees.{Tree, leaf, node, top}

-- the tree stands in the rows in a version: each link has a row, with the item, and its children there. Colours play no part
abbrev pub IsThere : ℕ → Map Row → Tree → Type 0
IsThere version rows leaf = Unit {0}
IsThere version rows (node link left item colour right) =
    (has rows link ≡ true) × ((row rows link).item ≡ item) × (child_at version Left (row rows link) ≡ top left) × (child_at version Right (row rows link) ≡ top right) × IsThere version rows left
    × IsThere version rows right

-- the list of two parts and the item between them, where both parts are read
abbrev pub between : Option (List ℕ) → ℕ → Option (List ℕ) → Option (List ℕ)
between None item right = None
between (Some left) item None = None
between (Some left) item (Some right) = Some (left ++ item ∷ right)

-- the list that is read from a node in a version: none where a way down has more than `deep` nodes, or leads to a link without a row
unfoldable pub reading : ℕ → ℕ → Map Row → Option Link → Option (List ℕ)
reading zero version rows None = Some []
reading zero version rows (Some link) = None
reading (suc deep) version rows None = Some []
reading (suc deep) version rows (Some link) =
    cond (has rows link) (between (reading deep version rows (child_at version Left (row rows link))) (row rows link).item (reading deep version rows (child_at version Right (row rows link)))) None

-- the list of a reading, or no items where there is none
abbrev pub listed : Option (List ℕ) → List ℕ
listed None = []
listed (Some list) = list

-- the list that is read from a root in a version, where no way down has more than 42 nodes
abbrev pub list_in : ℕ → Map Row → Option Link → List ℕ
list_in version rows root = listed (reading 42 version rows root)
