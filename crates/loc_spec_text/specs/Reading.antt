-- What a geometry text reads as at a scale: its rings on the grid, or its one fault. The words:
--   Polygons                polygons of rings of points on the grid
--   word_fault, number_fault, ring_fault  the fault of the words at the front, of a number, of a ring
--   all_rings, all_numbers  the rings and numbers of a tree in the order of the text
--   position, positions     a point and a tree with their grid values
--   value_fault, value_of   the first fault of a tree's numbers, else of its rings; or its polygons
--   reading_without, reading_of, reading  what a text reads as, computed
--   OutsideGrammar, InWideGrammar, ReadsTree, Reads  the same by the grammar alone
use Rattle.std.specs.Prelude.{◌≡◌, ◌⊎◌, ℕ, ◌||◌, not, List, [], ◌∷◌, map, length, codes, nat_lt, ◌==◌, if◌then◌else◌, Option, Some, None, Result, Err, MatchOption, slice_index_or}
use Rattle.std.specs.{List.flat_map, Str.bytes_eq}
use Rattle.loc_spec_plane.specs.Points.{Point, same_point}
use Rattle.loc_spec_text.specs.{declared.TextFault.TextFault, Number.is_on_grid, Number.is_in_range, Number.grid_value}
use Rattle.loc_spec_text.specs.declared.TextFault.TheVariants.{Syntax, Tag, Dimension, OffGrid, Range, RingShort, RingOpen}
use Rattle.loc_spec_text.specs.Bytes.{first_word, after_word, first_fault, or_else, ok_unless, err_or}
use Rattle.loc_spec_text.specs.Geometry.{PointText, Polygon, Ring, WidePoint, numbers, wide_numbers, IsTree}
use Rattle.loc_spec_text.specs.Reader.{geometry_of, wide_geometry_of}

-- polygons of rings of points on the grid
abbrev pub Polygons : Type 0
Polygons = List (Polygon Point)

-- The words at the front are wrong: there is no word, it is no tag, or a dimension stands behind it.
abbrev pub word_fault : List ℕ → Option TextFault
word_fault text = if length (first_word text) == 0 then Some Syntax
    else if not (bytes_eq (first_word text) (codes "POLYGON") || bytes_eq (first_word text) (codes "MULTIPOLYGON")) then Some Tag
    else if (bytes_eq (first_word (after_word text)) (codes "Z") || bytes_eq (first_word (after_word text)) (codes "M")) || bytes_eq (first_word (after_word text)) (codes "ZM") then Some Dimension
    else None

-- a number that is off the grid of the scale, or on it and out of range
abbrev pub number_fault : ℕ → List ℕ → Option (ℕ → TextFault)
number_fault scale text = if not (is_on_grid scale text) then Some OffGrid
    else if not (is_in_range scale text) then Some Range
    else None

-- a point list of fewer than four points, or of four or more whose first differs from its last
abbrev pub ring_fault : Ring Point → Option (ℕ → TextFault)
ring_fault [] = Some RingShort
ring_fault (p ∷ ps) = if nat_lt (length (p ∷ ps)) 4 then Some RingShort
    else if not (same_point p (slice_index_or (p ∷ ps) (length ps) p)) then Some RingOpen
    else None

-- the rings of a tree in the order of the text
abbrev pub all_rings : {P : Type 0} → List (Polygon P) → List (Ring P)
all_rings polygons = flat_map (λ rings. rings) polygons

-- the number texts of a tree in the order of the text
abbrev pub all_numbers : List (Polygon PointText) → List (List ℕ)
all_numbers polygons = flat_map (λ r. flat_map numbers r) (all_rings polygons)

-- a point of two number texts, on the grid
abbrev pub position : ℕ → PointText → Point
position scale p = record { x = grid_value scale p.0; y = grid_value scale p.1 }

-- the tree with its values
abbrev pub positions : ℕ → List (Polygon PointText) → Polygons
positions scale polygons = map (map (map (position scale))) polygons

-- the first fault of a tree's numbers, else that of its rings
abbrev pub value_fault : ℕ → List (Polygon PointText) → Option TextFault
value_fault scale polygons = or_else (first_fault (number_fault scale) 1 (all_numbers polygons))
    (first_fault ring_fault 1 (all_rings (positions scale polygons)))

-- the value of a tree, or the first fault of its numbers, else of its rings
abbrev pub value_of : ℕ → List (Polygon PointText) → Result Polygons TextFault
value_of scale polygons = ok_unless (value_fault scale polygons) (positions scale polygons)

-- What a text reads as that has no tree of points of two numbers: of another dimension where it has one of points of two, three or four, and else wrong.
abbrev pub reading_without : Option (List (Polygon WidePoint)) → Result Polygons TextFault
reading_without (Some tree) = Err Dimension
reading_without None = Err Syntax

-- what a text reads as by its tree, if it has one, and by its wide one
abbrev pub reading_of : ℕ → Option (List (Polygon PointText)) → Option (List (Polygon WidePoint)) → Result Polygons TextFault
reading_of scale (Some tree) wide = value_of scale tree
reading_of scale None wide = reading_without wide

-- What a geometry text reads as: of the six faults the first that applies, or the polygons on the grid.
unfoldable pub reading : ℕ → List ℕ → Result Polygons TextFault
reading scale text = err_or (word_fault text) (reading_of scale (geometry_of text) (wide_geometry_of text))

-- The same by the grammar alone. No tree is in the grammar; some tree is in the wide one.
abbrev pub OutsideGrammar : List ℕ → Type 0
OutsideGrammar text = (tree : List (Polygon PointText)) → IsTree numbers text tree → ⊥

-- some tree is in the grammar of points of two, three or four numbers
abbrev pub InWideGrammar : List ℕ → Type 0
InWideGrammar text = (tree : List (Polygon WidePoint)) × IsTree wide_numbers text tree

-- what a text whose words are right reads as
abbrev pub ReadsTree : ℕ → List ℕ → Result Polygons TextFault → Type 0
ReadsTree scale text read =
    ((tree : List (Polygon PointText)) × IsTree numbers text tree × (read ≡ value_of scale tree))
    ⊎ (OutsideGrammar text × InWideGrammar text × (read ≡ Err Dimension))
    ⊎ (OutsideGrammar text × (InWideGrammar text → ⊥) × (read ≡ Err Syntax))

-- what a text reads as: the fault of its words, else what its tree gives
abbrev pub Reads : ℕ → List ℕ → Result Polygons TextFault → Type 0
Reads scale text read = MatchOption (word_fault text) (ReadsTree scale text read) (λ fault. read ≡ Err fault)
