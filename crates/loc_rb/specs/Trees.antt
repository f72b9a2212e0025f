-- Trees over rows: which links stand where. The words: `Row`, `Reading`, `with_child`, `child_of`, `flip`, `Tree`, `top`, `items`, `Fits`, `count`,
-- `IsApart`, `Frame`, `node_at`, `under`, `plug`, `entries`, `SameButLinks`, `lower`, `higher`, `before`, `after`, `links_of`, `next`, `Once`, `Leads`,
-- `Carried`.
use Rattle.std.specs.Prelude.{◌≡◌, ◌≢◌, ℕ, List, [], ◌∷◌, ◌++◌, map, Option, None, Some, cond, ◌+◌, ◌≤◌}
use Rattle.std.specs.List.{AllByRecursion}
use Rattle.loc_pool.specs.{declared.Link.Link, declared.Turn.Turn}
use Rattle.loc_pool.specs.{declared.Turn.TheVariants.Left, declared.Turn.TheVariants.Right, declared.Colour.Colour}
use Rattle.loc_pool.specs.Same.{same}

-- the newest row of a node
pub record Row : Type 0 where
  pub item : ℕ
  pub left : Option Link
  pub right : Option Link
  pub colour : Colour

-- the newest row of each link
abbrev pub Reading : Type 0
Reading = Link → Option Row

-- a row with one child exchanged
abbrev pub with_child : Turn → Option Link → Row → Row
with_child Left to row = record row { left = to }
with_child Right to row = record row { right = to }

-- the child of a row on a side
abbrev pub child_of : Turn → Row → Option Link
child_of Left row = row.left
child_of Right row = row.right

-- the other side
abbrev pub flip : Turn → Turn
flip Left = Right
flip Right = Left

-- a binary tree: at each node its link, the left tree, the item, the colour and the right tree
pub data Tree : Type 0 where
  leaf : Tree
  node : Link → Tree → ℕ → Colour → Tree → Tree

-- the link of the node at the top
abbrev pub top : Tree → Option Link
top leaf = None
top (node link left item colour right) = Some link

-- the items from left to right
abbrev pub items : Tree → List ℕ
items leaf = []
items (node link left item colour right) = items left ++ item ∷ items right

-- the rows are those of the tree
abbrev pub Fits : Reading → Tree → Type 0
Fits reading leaf = Unit {0}
Fits reading (node link left item colour right) =
    (reading link ≡ Some (record { item = item; left = top left; right = top right; colour = colour })) × Fits reading left × Fits reading right

-- how often a link stands in a tree
unfoldable pub count : Link → Tree → ℕ
count link leaf = 0
count link (node here left item colour right) = cond (same here link) 1 0 + (count link left + count link right)

-- no link stands twice
abbrev pub IsApart : Tree → Type 0
IsApart tree = (link : Link) → count link tree ≤ 1

-- a node on a path, with the child that the path does not take
pub record Frame : Type 0 where
  pub link : Link
  pub turn : Turn
  pub item : ℕ
  pub colour : Colour
  pub other : Tree

-- a node by its children on the side `turn` and on the other side
abbrev pub node_at : Turn → Link → Tree → ℕ → Colour → Tree → Tree
node_at Left link tree item colour other = node link tree item colour other
node_at Right link tree item colour other = node link other item colour tree

-- the node of a frame, with this tree as the child that the path takes
abbrev pub under : Frame → Tree → Tree
under frame tree = node_at frame.turn frame.link tree frame.item frame.colour frame.other

-- the whole tree, of the frames of a path and the tree at its end
abbrev pub plug : List Frame → Tree → Tree
plug [] tree = tree
plug (frame ∷ frames) tree = under frame (plug frames tree)

-- the path of which these are the frames
abbrev pub entries : List Frame → List (Link × Turn)
entries = map (λ frame. (frame.link, frame.turn))

-- the same frames but for their links
abbrev pub SameButLinks : List Frame → List Frame → Type 0
SameButLinks [] [] = Unit {0}
SameButLinks [] (frame' ∷ frames') = ⊥
SameButLinks (frame ∷ frames) [] = ⊥
SameButLinks (frame ∷ frames) (frame' ∷ frames') =
    (frame'.turn ≡ frame.turn) × (frame'.item ≡ frame.item) × (frame'.colour ≡ frame.colour) × (frame'.other ≡ frame.other) × SameButLinks frames frames'

-- the items of a frame that stand before what hangs there
abbrev pub lower : Turn → ℕ → Tree → List ℕ
lower Left item other = []
lower Right item other = items other ++ item ∷ []

-- the items of a frame that stand after what hangs there
abbrev pub higher : Turn → ℕ → Tree → List ℕ
higher Left item other = item ∷ items other
higher Right item other = []

-- the items before what hangs at the end of a path
abbrev pub before : List Frame → List ℕ
before [] = []
before (frame ∷ frames) = lower frame.turn frame.item frame.other ++ before frames

-- the items after what hangs at the end of a path
abbrev pub after : List Frame → List ℕ
after [] = []
after (frame ∷ frames) = after frames ++ higher frame.turn frame.item frame.other

-- the links of a path
abbrev pub links_of : List (Link × Turn) → List Link
links_of = map (λ entry. entry.0)

-- the first link of a path that ends at `last`
abbrev pub next : List (Link × Turn) → Link → Link
next [] last = last
next (entry ∷ path) last = entry.0

-- no link stands twice in the list
abbrev pub Once : List Link → Type 0
Once [] = Unit {0}
Once (link ∷ links) = AllByRecursion (λ other. link ≢ other) links × Once links

-- the path leads to `at`
abbrev pub Leads : Reading → List (Link × Turn) → Link → Type 0
Leads reading [] at = (row : Row) × (reading at ≡ Some row)
Leads reading (entry ∷ path) at = ((row : Row) × (reading entry.0 ≡ Some row) × (child_of entry.1 row ≡ Some (next path at))) × Leads reading path at

-- each entry of the path stands, under its new link, as it stood, but for the child that the path takes
abbrev pub Carried : Reading → Reading → List (Link × Turn) → List (Link × Turn) → Link → Type 0
Carried old now [] [] last = Unit {0}
Carried old now [] (entry' ∷ path') last = ⊥
Carried old now (entry ∷ path) [] last = ⊥
Carried old now (entry ∷ path) (entry' ∷ path') last =
    (entry'.1 ≡ entry.1) × ((row : Row) → old entry.0 ≡ Some row → now entry'.0 ≡ Some (with_child entry.1 (Some (next path' last)) row)) × Carried old now path path' last
