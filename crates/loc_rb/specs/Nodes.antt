-- What the nodes are, and what each call does to them. The words: `Nodes`, `live`, `HasRow`, `IsLive`, `IsLiveOrNone`, `IsOld`, `KeepsItems`, `Makes`,
-- `Colours`, `Roots`, `IsFrom`, `CanChange`, `StandsFor`, `StandFor`, `Exchanges`, `Changes`, `Within`.
use Rattle.std.specs.Prelude.{◌≡◌, ◌≢◌, ◌⊎◌, ℕ, Bool, true, List, [], ◌∷◌, Option, None, Some, cond, ◌+◌, ◌*◌, ◌≤◌}
use Rattle.std.specs.List.{AllByRecursion}
use Rattle.loc_pool.specs.{declared.Link.Link, declared.Turn.Turn, declared.Colour.Colour}
use Rattle.loc_rb.specs.Trees.{Row, Reading, with_child, links_of, next, Once, Leads, Carried}

-- the nodes: the newest row of each link, whether it is the newest name of its node, the newest root, the counts of `make` and of `change`, the room, and the sealed lists with their roots
pub record Nodes : Type 0 where
  pub rows : Reading
  pub current : Link → Bool
  pub root : Option Link
  pub made : ℕ
  pub changed : ℕ
  pub spare : ℕ
  pub kept : List (List ℕ × Option Link)

-- the row of a link that is current
abbrev pub live : Nodes → Reading
live nodes link = cond (nodes.current link) (nodes.rows link) None

-- the link has a row
abbrev pub HasRow : Nodes → Link → Type 0
HasRow nodes link = (row : Row) × (nodes.rows link ≡ Some row)

-- the link has a row and is the newest name of its node
abbrev pub IsLive : Nodes → Link → Type 0
IsLive nodes link = (row : Row) × (live nodes link ≡ Some row)

-- no link, or a live one
abbrev pub IsLiveOrNone : Nodes → Option Link → Type 0
IsLiveOrNone nodes to = (link : Link) → to ≡ Some link → IsLive nodes link

-- some row has the item
abbrev pub IsOld : Nodes → ℕ → Type 0
IsOld nodes item = (link : Link) × (row : Row) × (nodes.rows link ≡ Some row) × (row.item ≡ item)

-- no row has an item that no row had before
abbrev pub KeepsItems : Nodes → Nodes → Type 0
KeepsItems old now = (link : Link) (row : Row) → now.rows link ≡ Some row → IsOld old row.item

-- what a call of `make` does
pub record Makes (old now : Nodes) (item : ℕ) (colour : Colour) (result : Link) : Type 0 where
  pub fresh : old.rows result ≡ None
  pub here : now.rows result ≡ Some (record { item = item; left = None; right = None; colour = colour })
  pub others : (link : Link) → link ≢ result → now.rows link ≡ old.rows link
  pub current : now.current result ≡ true
  pub others_current : (link : Link) → link ≢ result → now.current link ≡ old.current link
  pub root : now.root ≡ old.root
  pub made : now.made ≡ old.made + 1
  pub changed : now.changed ≡ old.changed
  pub spare : old.spare ≤ now.spare + 1
  pub kept : now.kept ≡ old.kept

-- what a call of `set_colour` does
pub record Colours (old now : Nodes) (at : Link) (colour : Colour) : Type 0 where
  pub here : (row : Row) → old.rows at ≡ Some row → now.rows at ≡ Some (record row { colour = colour })
  pub others : (link : Link) → link ≢ at → now.rows link ≡ old.rows link
  pub current : (link : Link) → now.current link ≡ old.current link
  pub root : now.root ≡ old.root
  pub made : now.made ≡ old.made
  pub changed : now.changed ≡ old.changed
  pub spare : now.spare ≡ old.spare
  pub kept : now.kept ≡ old.kept

-- what a call of `put_root` does
pub record Roots (old now : Nodes) (to : Option Link) : Type 0 where
  pub root : now.root ≡ to
  pub rows : (link : Link) → now.rows link ≡ old.rows link
  pub current : (link : Link) → now.current link ≡ old.current link
  pub made : now.made ≡ old.made
  pub changed : now.changed ≡ old.changed
  pub spare : now.spare ≡ old.spare
  pub kept : now.kept ≡ old.kept

-- the path begins at the newest root, or the newest root is not on it
abbrev pub IsFrom : Option Link → List (Link × Turn) → Link → Type 0
IsFrom root path at = (root ≡ Some (next path at)) ⊎ AllByRecursion (λ link. root ≢ Some link) (at ∷ links_of path)

-- what `change` asks for: the path leads to `at`, no link stands twice on it, it begins at the newest root or that is not on it, and the child may be hung
pub record CanChange (nodes : Nodes) (path : List (Link × Turn)) (at : Link) (child : Option Link) : Type 0 where
  pub leads : Leads (live nodes) path at
  pub once : Once (at ∷ links_of path)
  pub from : IsFrom nodes.root path at
  pub to : IsLiveOrNone nodes child

-- the second link stands for the first: it is the first, or a new one
abbrev pub StandsFor : Nodes → Link → Link → Type 0
StandsFor nodes link link' = (link' ≡ link) ⊎ (nodes.rows link' ≡ None)

-- each of the second links stands for the one in its place among the first
abbrev pub StandFor : Nodes → List Link → List Link → Type 0
StandFor nodes [] [] = Unit {0}
StandFor nodes [] (link' ∷ links') = ⊥
StandFor nodes (link ∷ links) [] = ⊥
StandFor nodes (link ∷ links) (link' ∷ links') = StandsFor nodes link link' × StandFor nodes links links'

-- what a call of `change` does to rows, current links and the newest root: the result is the link of `at` afterwards, and path' the path afterwards
pub record Exchanges (old now : Nodes) (path path' : List (Link × Turn)) (at result : Link) (turn : Turn) (to : Option Link) : Type 0 where
  pub here : (row : Row) → live old at ≡ Some row → live now result ≡ Some (with_child turn to row)
  pub above : Carried (live old) (live now) path path' result
  pub stand_for : StandFor old (at ∷ links_of path) (result ∷ links_of path')
  pub once : Once (result ∷ links_of path')
  pub others : (link : Link) → AllByRecursion (λ other. link ≢ other) (result ∷ links_of path') → (row : Row) → old.rows link ≡ Some row → now.rows link ≡ Some row
  pub current : (link : Link) → AllByRecursion (λ other. link ≢ other) (at ∷ links_of path) → old.current link ≡ true → now.current link ≡ true
  pub from_root : old.root ≡ Some (next path at) → now.root ≡ Some (next path' result)
  pub other_root : AllByRecursion (λ link. old.root ≢ Some link) (at ∷ links_of path) → now.root ≡ old.root
  pub items : KeepsItems old now

-- what a call of `change` does: it exchanges, and is counted
pub record Changes (old now : Nodes) (path path' : List (Link × Turn)) (at result : Link) (turn : Turn) (to : Option Link) : Type 0 where
  pub rows : Exchanges old now path path' at result turn to
  pub made : now.made ≡ old.made
  pub changed : now.changed ≡ old.changed + 1
  pub spare : old.spare ≤ now.spare + 45
  pub kept : now.kept ≡ old.kept

-- this many calls of `make`, at most this many of `change`, the room that they take, and what stays
pub record Within (makes changes : ℕ) (old now : Nodes) : Type 0 where
  pub made : now.made ≡ old.made + makes
  pub changed : now.changed ≤ old.changed + changes
  pub spare : old.spare ≤ now.spare + (makes + 45 * changes)
  pub kept : now.kept ≡ old.kept
  pub items : KeepsItems old now
