-- The list of the nodes, and places in it. The words: `Spot`, `Holds`, `LeadsToGap`, `LeadsTo`, `Walk`, `Found`.
use Rattle.std.specs.Prelude.{◌≡◌, ℕ, List, ◌∷◌, ◌++◌, Option, None, Some}
use Rattle.loc_pool.specs.{declared.Link.Link, declared.Turn.Turn, declared.Colour.Colour}
use Rattle.loc_rb.specs.Trees.{Tree, leaf, node, top, items, Fits, IsApart, Frame, plug, entries, before, after}
use Rattle.loc_rb.specs.{Nodes.Nodes, Nodes.live, Balance.IsRedBlack}

-- a path from the newest root, by its frames, and the tree at its end
pub record Spot (nodes : Nodes) (steps : List (Link × Turn)) (frames : List Frame) (tree : Tree) : Type 0 where
  pub path : entries frames ≡ steps
  pub fits : Fits (live nodes) (plug frames tree)
  pub apart : IsApart (plug frames tree)
  pub root : nodes.root ≡ top (plug frames tree)

-- the tree of the newest root is red-black, and has these items
pub record Holds (nodes : Nodes) (content : List ℕ) : Type 0 where
  pub tree : Tree
  pub fits : Fits (live nodes) tree
  pub apart : IsApart tree
  pub root : nodes.root ≡ top tree
  pub balanced : IsRedBlack tree
  pub list : items tree ≡ content

-- in a red-black tree the path leads to a missing child, between these items
pub record LeadsToGap (nodes : Nodes) (path : List (Link × Turn)) (preceding following : List ℕ) : Type 0 where
  pub frames : List Frame
  pub spot : Spot nodes path frames leaf
  pub balanced : IsRedBlack (plug frames leaf)
  pub low : before frames ≡ preceding
  pub high : after frames ≡ following

-- in a red-black tree the path leads to `at`, which has this item and stands between these
pub record LeadsTo (nodes : Nodes) (path : List (Link × Turn)) (at : Link) (preceding : List ℕ) (item : ℕ) (following : List ℕ) : Type 0 where
  pub frames : List Frame
  pub left : Tree
  pub colour : Colour
  pub right : Tree
  pub spot : Spot nodes path frames (node at left item colour right)
  pub balanced : IsRedBlack (plug frames (node at left item colour right))
  pub low : before frames ++ items left ≡ preceding
  pub high : items right ++ after frames ≡ following

-- a walk down the tree that has these items: the path so far, and the top of what hangs at its end
pub record Walk (nodes : Nodes) (path : List (Link × Turn)) (reached : Option Link) (content : List ℕ) : Type 0 where
  pub frames : List Frame
  pub tree : Tree
  pub spot : Spot nodes path frames tree
  pub here : top tree ≡ reached
  pub balanced : IsRedBlack (plug frames tree)
  pub whole : items (plug frames tree) ≡ content

-- where a search in the tree that has these items ended: at a missing child, or at a node
abbrev pub Found : Nodes → List (Link × Turn) → Option Link → List ℕ → Type 0
Found nodes path None content = (preceding : List ℕ) × (following : List ℕ) × LeadsToGap nodes path preceding following × (preceding ++ following ≡ content)
Found nodes path (Some at) content =
    (preceding : List ℕ) × (item : ℕ) × (following : List ℕ) × LeadsTo nodes path at preceding item following × (preceding ++ item ∷ following ≡ content)
