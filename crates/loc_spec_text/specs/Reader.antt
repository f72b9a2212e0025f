-- A plain reader of the grammar, which computes a text's tree. Its law is that it gives exactly the tree that the grammar gives. The words:
--   Reader                         what is read at the front of the symbols, and the symbols behind it
--   onto, next, members_at, enclosed_at, list_at  lists in parentheses
--   point_at, wide_end, wide_more, wide_point_at  points of two numbers, and of two, three or four
--   one_of, all_of, tree_after, tree_of  a whole text
--   geometry_of, wide_geometry_of  the tree of a text in each grammar
use Rattle.std.specs.Prelude.{ℕ, zero, suc, Bool, true, false, List, [], ◌∷◌, length, codes, if◌then◌else◌, Option, Some, None, option_map, option_and_then}
use Rattle.std.specs.Str.{bytes_eq}
use Rattle.loc_spec_text.specs.Geometry.{Symbol, word, number, open_mark, close_mark, comma, PointText, WidePoint, two, three, four, Polygon, symbols}

-- what is read at the front of the symbols, and the symbols behind it
abbrev pub Reader : Type 0 → Type 0
Reader X = List Symbol → Option (X × List Symbol)

-- x in front of what was read
abbrev pub onto : {X : Type 0} → X → List X × List Symbol → List X × List Symbol
onto x r = (x ∷ r.0, r.1)

-- the rest of a list in parentheses behind its member x
abbrev pub next : {X : Type 0} → Reader (List X) → X → Reader (List X)
next more x (close_mark ∷ rest) = Some (x ∷ [], rest)
next more x (comma ∷ rest) = option_map (onto x) (more rest)
next more x _ = None

-- the members of a list behind its open mark, of at most so many
abbrev pub members_at : {X : Type 0} → Reader X → ℕ → Reader (List X)
members_at read zero ps = None
members_at read (suc k) ps = option_and_then (λ p. next (members_at read k) p.0 p.1) (read ps)

-- a list in parentheses
abbrev pub enclosed_at : {X : Type 0} → Reader X → Reader (List X)
enclosed_at read (open_mark ∷ ps) = members_at read (length ps) ps
enclosed_at read _ = None

-- a list in parentheses, or EMPTY
abbrev pub list_at : {X : Type 0} → Reader X → Reader (List X)
list_at read (word w ∷ rest) = if bytes_eq w (codes "EMPTY") then Some ([], rest) else None
list_at read (open_mark ∷ ps) = members_at read (length ps) ps
list_at read _ = None

-- points of two numbers
abbrev pub point_at : Reader PointText
point_at (number x ∷ number y ∷ ps) = Some ((x, y), ps)
point_at _ = None

-- three numbers, or four
abbrev pub wide_end : List ℕ → List ℕ → List ℕ → Reader WidePoint
wide_end x y z (number m ∷ ps) = Some (four x y z m, ps)
wide_end x y z ps = Some (three x y z, ps)

-- behind two numbers: none, one or two more
abbrev pub wide_more : List ℕ → List ℕ → Reader WidePoint
wide_more x y (number z ∷ ps) = wide_end x y z ps
wide_more x y ps = Some (two x y, ps)

-- a point of two, three or four
abbrev pub wide_point_at : Reader WidePoint
wide_point_at (number x ∷ number y ∷ ps) = wide_more x y ps
wide_point_at _ = None

-- a whole geometry text of symbols, with nothing behind it
abbrev pub one_of : {X : Type 0} → X × List Symbol → Option (List X)
one_of (x, []) = Some (x ∷ [])
one_of (x, q ∷ ps) = None

-- several polygons, with nothing behind them
abbrev pub all_of : {X : Type 0} → List X × List Symbol → Option (List X)
all_of (xs, []) = Some xs
all_of (xs, q ∷ ps) = None

-- what stands behind the first word, where that is POLYGON or MULTIPOLYGON
abbrev pub tree_after : {P : Type 0} → Reader (Polygon P) → Bool → Bool → List Symbol → Option (List (Polygon P))
tree_after read true b ps = option_and_then one_of (read ps)
tree_after read false true ps = option_and_then all_of (list_at read ps)
tree_after read false false ps = None

-- the tree of a text that is cut into symbols
abbrev pub tree_of : {P : Type 0} → Reader (Polygon P) → List Symbol → Option (List (Polygon P))
tree_of read (word w ∷ ps) = tree_after read (bytes_eq w (codes "POLYGON")) (bytes_eq w (codes "MULTIPOLYGON")) ps
tree_of read _ = None

-- the tree of a text whose points have two numbers
unfoldable pub geometry_of : List ℕ → Option (List (Polygon PointText))
geometry_of text = tree_of (list_at (enclosed_at point_at)) (symbols text)

-- the same for points of two, three or four numbers
unfoldable pub wide_geometry_of : List ℕ → Option (List (Polygon WidePoint))
wide_geometry_of text = tree_of (list_at (enclosed_at wide_point_at)) (symbols text)
