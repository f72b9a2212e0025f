-- Red-black trees and their depth. The words: `IsBlackTop`, `MayHang`, `black`, `HasBlackHeight`, `IsRedBlack`, `depth`, `MayBe`, `Takes`, `Awaits`.
use Rattle.std.specs.Prelude.{◌≡◌, ℕ, ◌+◌, max, List, [], ◌∷◌}
use Rattle.loc_pool.specs.{declared.Colour.Colour, declared.Colour.TheVariants.Red, declared.Colour.TheVariants.Black}
use Rattle.loc_rb.specs.Trees.{Tree, leaf, node, Frame}

-- the tree may hang under a red node: it has no top, or a black one
abbrev pub IsBlackTop : Tree → Type 0
IsBlackTop leaf = Unit {0}
IsBlackTop (node link left item Red right) = ⊥
IsBlackTop (node link left item Black right) = Unit {0}

-- the tree may hang under a node of this colour
abbrev pub MayHang : Colour → Tree → Type 0
MayHang Red tree = IsBlackTop tree
MayHang Black tree = Unit {0}

-- the black nodes that a node of this colour adds to a way down
abbrev pub black : Colour → ℕ
black Red = 0
black Black = 1

-- no red node under a red one, and this many black nodes on each way down
abbrev pub HasBlackHeight : Tree → ℕ → Type 0
HasBlackHeight leaf height = height ≡ 0
HasBlackHeight (node link left item colour right) height =
    MayHang colour left × MayHang colour right × ((below : ℕ) × (height ≡ black colour + below) × HasBlackHeight left below × HasBlackHeight right below)

-- a red-black tree: no red node at the top or under a red one, and as many black nodes on each way down (Guibas and Sedgewick 1978; Cormen et al., chapter 13)
abbrev pub IsRedBlack : Tree → Type 0
IsRedBlack tree = IsBlackTop tree × ((height : ℕ) × HasBlackHeight tree height)

-- the nodes on the longest way down
abbrev pub depth : Tree → ℕ
depth leaf = 0
depth (node link left item colour right) = max (depth left) (depth right) + 1

-- a node of the second colour may hang under one of the first
abbrev pub MayBe : Colour → Colour → Type 0
MayBe Red colour = colour ≡ Black
MayBe Black colour = Unit {0}

-- with a tree of this black height that may hang under `parent` at the end of the path, the whole has the black height `whole` and may hang under `over`
abbrev pub Takes : Colour → ℕ → List Frame → Colour → ℕ → Type 0
Takes over whole [] parent height = (over ≡ parent) × (whole ≡ height)
Takes over whole (frame ∷ frames) parent height =
    MayBe over frame.colour × MayHang frame.colour frame.other × ((below : ℕ) × (whole ≡ black frame.colour + below) × HasBlackHeight frame.other below × Takes frame.colour below frames parent height)

-- with a tree of this black height that may hang under `parent` at the end of the path the whole is red-black
pub record Awaits (frames : List Frame) (height : ℕ) : Type 0 where
  pub whole : ℕ
  pub parent : Colour
  pub takes : Takes Red whole frames parent height
