-- What the steps inside an insertion or a removal start from and lead to. The words: `CanTransplant`, `ToRotate`, `NodeAt`, `Replaced`, `IsRedTop`,
-- `RedViolation`, `RedPair`, `OuterPair`, `LacksBlack`, `Uneven`, `Siblings`, `MissesChild`, `remaining`, `ToSpliceOut`, `LeftmostPath`.
use Rattle.std.specs.Prelude.{◌≡◌, ◌⊎◌, ℕ, ◌+◌, List, [], ◌∷◌, ◌++◌, Option, Some}
use Rattle.loc_pool.specs.{declared.Link.Link, declared.Turn.Turn, declared.Colour.Colour}
use Rattle.loc_pool.specs.declared.Colour.TheVariants.{Red, Black}
use Rattle.loc_rb.specs.Trees.{Tree, leaf, node, top, items, Fits, IsApart, Frame, plug, node_at, flip, SameButLinks, before, after}
use Rattle.loc_rb.specs.{Nodes.Nodes, Nodes.live, Places.Spot, Places.LeadsTo}
use Rattle.loc_rb.specs.Balance.{HasBlackHeight, IsBlackTop, MayBe, MayHang, Awaits, black}

-- the tree `replacement`, of which this is the top, can be hung in the place of `present`
pub record CanTransplant (nodes : Nodes) (path : List (Link × Turn)) (frames : List Frame) (present replacement : Tree) (link : Option Link) : Type 0 where
  pub spot : Spot nodes path frames present
  pub fits : Fits (live nodes) replacement
  pub apart : IsApart (plug frames replacement)
  pub to : link ≡ top replacement

-- the path leads to `child`, which is to rise over the last node of the path
pub record ToRotate (nodes : Nodes) (path : List (Link × Turn)) (child : Link) : Type 0 where
  pub above : List (Link × Turn)
  pub at : Link
  pub turn : Turn
  pub entry : path ≡ above ++ (at, turn) ∷ []
  pub frames : List Frame
  pub outer : Tree
  pub item : ℕ
  pub colour : Colour
  pub inner : Tree
  pub child_item : ℕ
  pub child_colour : Colour
  pub far : Tree
  pub spot : Spot nodes above frames (node_at turn at (node_at (flip turn) child inner child_item child_colour far) item colour outer)

-- the path leads to the node `at`, with what hangs there
pub record NodeAt (nodes : Nodes) (path : List (Link × Turn)) (at : Link) : Type 0 where
  pub frames : List Frame
  pub left : Tree
  pub item : ℕ
  pub colour : Colour
  pub right : Tree
  pub spot : Spot nodes path frames (node at left item colour right)

-- the path of these frames, but for the links, with this tree at its end
abbrev pub Replaced : Nodes → List (Link × Turn) → List Frame → Tree → Type 0
Replaced nodes path frames tree = (frames' : List Frame) × SameButLinks frames frames' × Spot nodes path frames' tree

-- the link of a red top
abbrev pub IsRedTop : Link → Tree → Type 0
IsRedTop link leaf = ⊥
IsRedTop link (node here left item Red right) = here ≡ link
IsRedTop link (node here left item Black right) = ⊥

-- the red node to which the path leads may hang under a red one, or be the root: else the tree is red-black
pub record RedViolation (nodes : Nodes) (path : List (Link × Turn)) (red : Link) (content : List ℕ) : Type 0 where
  pub frames : List Frame
  pub tree : Tree
  pub red_top : IsRedTop red tree
  pub spot : Spot nodes path frames tree
  pub height : ℕ
  pub awaits : Awaits frames height
  pub balanced : HasBlackHeight tree height
  pub list : items (plug frames tree) ≡ content

-- the black node `up` has the red child `at`, which has the red child `red`: else the tree is red-black
pub record RedPair (nodes : Nodes) (path : List (Link × Turn)) (up : Link) (side : Turn) (at : Link) (turn : Turn) (red : Link) (content : List ℕ) : Type 0 where
  pub frames : List Frame
  pub tree : Tree
  pub item : ℕ
  pub other : Tree
  pub up_item : ℕ
  pub uncle : Tree
  pub red_top : IsRedTop red tree
  pub spot : Spot nodes path frames (node_at side up (node_at turn at tree item Red other) up_item Black uncle)
  pub height : ℕ
  pub awaits : Awaits frames (1 + height)
  pub balanced : HasBlackHeight tree height
  pub other_balanced : HasBlackHeight other height
  pub other_black : IsBlackTop other
  pub uncle_balanced : HasBlackHeight uncle height
  pub list : items (plug frames (node_at side up (node_at turn at tree item Red other) up_item Black uncle)) ≡ content

-- the last node of the path is black, its red child `middle` has a child on the same side that may be red
pub record OuterPair (nodes : Nodes) (path : List (Link × Turn)) (middle : Link) (content : List ℕ) : Type 0 where
  pub above : List (Link × Turn)
  pub up : Link
  pub side : Turn
  pub entry : path ≡ above ++ (up, side) ∷ []
  pub frames : List Frame
  pub outer : Tree
  pub item : ℕ
  pub inner : Tree
  pub up_item : ℕ
  pub uncle : Tree
  pub spot : Spot nodes above frames (node_at side up (node_at side middle outer item Red inner) up_item Black uncle)
  pub height : ℕ
  pub awaits : Awaits frames (1 + height)
  pub outer_balanced : HasBlackHeight outer height
  pub inner_balanced : HasBlackHeight inner height
  pub inner_black : IsBlackTop inner
  pub uncle_balanced : HasBlackHeight uncle height
  pub uncle_black : IsBlackTop uncle
  pub list : items (plug frames (node_at side up (node_at side middle outer item Red inner) up_item Black uncle)) ≡ content

-- the tree at the end of the path lacks a black node on each way down: else the tree is red-black
pub record LacksBlack (nodes : Nodes) (path : List (Link × Turn)) (content : List ℕ) : Type 0 where
  pub frames : List Frame
  pub tree : Tree
  pub spot : Spot nodes path frames tree
  pub height : ℕ
  pub awaits : Awaits frames (1 + height)
  pub balanced : HasBlackHeight tree height
  pub black_top : IsBlackTop tree
  pub list : items (plug frames tree) ≡ content

-- the child of `at` on the side `turn` lacks a black node on each way down: else the tree is red-black
pub record Uneven (nodes : Nodes) (path : List (Link × Turn)) (at : Link) (turn : Turn) (content : List ℕ) : Type 0 where
  pub frames : List Frame
  pub tree : Tree
  pub item : ℕ
  pub colour : Colour
  pub other : Tree
  pub spot : Spot nodes path frames (node_at turn at tree item colour other)
  pub height : ℕ
  pub awaits : Awaits frames (black colour + (1 + height))
  pub may : MayBe awaits.parent colour
  pub balanced : HasBlackHeight tree height
  pub black_top : IsBlackTop tree
  pub other_may : MayHang colour other
  pub other_balanced : HasBlackHeight other (1 + height)
  pub list : items (plug frames (node_at turn at tree item colour other)) ≡ content

-- the same where the sibling is black, with the sibling's children
pub record Siblings (nodes : Nodes) (path : List (Link × Turn)) (at : Link) (turn : Turn) (sibling : Link) (content : List ℕ) : Type 0 where
  pub frames : List Frame
  pub tree : Tree
  pub item : ℕ
  pub colour : Colour
  pub near : Tree
  pub sibling_item : ℕ
  pub far : Tree
  pub spot : Spot nodes path frames (node_at turn at tree item colour (node_at turn sibling near sibling_item Black far))
  pub height : ℕ
  pub awaits : Awaits frames (black colour + (1 + height))
  pub may : MayBe awaits.parent colour
  pub balanced : HasBlackHeight tree height
  pub black_top : IsBlackTop tree
  pub near_balanced : HasBlackHeight near height
  pub far_balanced : HasBlackHeight far height
  pub list : items (plug frames (node_at turn at tree item colour (node_at turn sibling near sibling_item Black far))) ≡ content

-- one of the two children is missing
abbrev pub MissesChild : Tree → Tree → Type 0
MissesChild left right = (left ≡ leaf) ⊎ (right ≡ leaf)

-- what takes the place of a node of which a child is missing
abbrev pub remaining : Tree → Tree → Tree
remaining leaf right = right
remaining (node link left item colour right) other = node link left item colour right

-- the node to be cut out: its place may be another, but without its item the list is this one
pub record ToSpliceOut (nodes : Nodes) (path : List (Link × Turn)) (at : Link) (content : List ℕ) : Type 0 where
  pub low : List ℕ
  pub item : ℕ
  pub high : List ℕ
  pub place : LeadsTo nodes path at low item high
  pub spare : MissesChild place.left place.right
  pub list : low ++ high ≡ content

-- the path goes on from where `start` hangs to the node `at`, down left sides
pub record LeftmostPath (nodes : Nodes) (path : List (Link × Turn)) (start_frames : List Frame) (start : Tree) (at : Link) : Type 0 where
  pub frames : List Frame
  pub tree : Tree
  pub spot : Spot nodes path frames tree
  pub here : top tree ≡ Some at
  pub same : plug frames tree ≡ plug start_frames start
  pub low : before frames ≡ before start_frames
  pub high : items tree ++ after frames ≡ items start ++ after start_frames
