-- Geometry texts: the well-known text of POLYGON and MULTIPOLYGON (OGC 06-103r4, 7.2.2), with free white space and words in any ASCII
-- case. A text is cut into symbols, and a tree of points is spelled by symbols. The words:
--   Symbol, is_mark, is_break, ends_symbol, runs, symbol_of, symbols  a text, cut
--   separated, enclosed, enclosed_or_empty  lists, with commas between members, in parentheses, or EMPTY
--   Ring, Polygon, PointText, WidePoint  trees of number texts
--   numbers, wide_numbers         the number texts of a point
--   point, ring, polygon, Spells  how a tree is spelled
--   IsTree                        the tree of a text
use Rattle.std.specs.Prelude.{◌≡◌, ◌≢◌, ◌⊎◌, ℕ, Bool, ◌||◌, List, [], ◌∷◌, ◌++◌, map, codes, ◌==◌, if◌then◌else◌, true}
use Rattle.std.specs.{Char.is_ascii_alphabetic, List.list_all, List.onto_first, List.AllByRecursion}
use Rattle.std.specs.Str.{byte, bytes_eq}
use Rattle.loc_spec_text.specs.{Bytes.is_white, Bytes.capitals, Number.is_number}

-- what a text is made of: words in capitals, numbers, the three marks, and what is none of these
pub data Symbol : Type 0 where
  word : List ℕ → Symbol
  number : List ℕ → Symbol
  open_mark : Symbol
  close_mark : Symbol
  comma : Symbol
  other : List ℕ → Symbol

-- parentheses and the comma
abbrev pub is_mark : ℕ → Bool
is_mark b = ((b == byte "(") || (b == byte ")")) || (b == byte ",")

-- a symbol ends before white space, before a mark and at the end of the text
abbrev pub is_break : ℕ → Bool
is_break b = is_white b || is_mark b

-- no symbol goes on into what follows
abbrev pub ends_symbol : List ℕ → Bool
ends_symbol [] = true
ends_symbol (b ∷ text) = is_break b

-- The text cut: each mark by itself, and each longest run of other bytes that are no white space.
abbrev pub runs : List ℕ → List (List ℕ)
runs [] = []
runs (b ∷ text) = if is_white b then runs text
    else if is_mark b || ends_symbol text then (b ∷ []) ∷ runs text
    else onto_first b (runs text)

-- what a run is: a mark, a word in any ASCII case, a number, or none of these
abbrev pub symbol_of : List ℕ → Symbol
symbol_of run = if bytes_eq run (codes "(") then open_mark
    else if bytes_eq run (codes ")") then close_mark
    else if bytes_eq run (codes ",") then comma
    else if list_all is_ascii_alphabetic run then word (capitals run)
    else if is_number run then number run
    else other run

-- the symbols of a text
abbrev pub symbols : List ℕ → List Symbol
symbols text = map symbol_of (runs text)

-- the members of a list, with commas between them
abbrev pub separated : {X : Type 0} → (X → List Symbol) → List X → List Symbol
separated spelled [] = []
separated spelled (x ∷ []) = spelled x
separated spelled (x ∷ y ∷ xs) = spelled x ++ comma ∷ separated spelled (y ∷ xs)

-- a list in parentheses
abbrev pub enclosed : {X : Type 0} → (X → List Symbol) → List X → List Symbol
enclosed spelled xs = open_mark ∷ separated spelled xs ++ close_mark ∷ []

-- such a list, or the word EMPTY where it has no member
abbrev pub enclosed_or_empty : {X : Type 0} → (X → List Symbol) → List X → List Symbol
enclosed_or_empty spelled [] = word (codes "EMPTY") ∷ []
enclosed_or_empty spelled (x ∷ xs) = enclosed spelled (x ∷ xs)

-- a ring is its points
abbrev pub Ring : Type 0 → Type 0
Ring P = List P

-- a polygon is its rings, and EMPTY has none
abbrev pub Polygon : Type 0 → Type 0
Polygon P = List (Ring P)

-- a point of two number texts (OGC 06-103r4, 7.2.2, point)
abbrev pub PointText : Type 0
PointText = List ℕ × List ℕ

-- a point of two, three or four number texts (OGC 06-103r4, 7.2.3 to 7.2.5, the points with Z and M)
pub data WidePoint : Type 0 where
  two : List ℕ → List ℕ → WidePoint
  three : List ℕ → List ℕ → List ℕ → WidePoint
  four : List ℕ → List ℕ → List ℕ → List ℕ → WidePoint

-- the numbers of a point of two
abbrev pub numbers : PointText → List (List ℕ)
numbers p = p.0 ∷ p.1 ∷ []

-- the numbers of a point of two, three or four
abbrev pub wide_numbers : WidePoint → List (List ℕ)
wide_numbers (two x y) = x ∷ y ∷ []
wide_numbers (three x y z) = x ∷ y ∷ z ∷ []
wide_numbers (four x y z m) = x ∷ y ∷ z ∷ m ∷ []

-- How points, rings, polygons and lists of polygons are spelled.
module _ {P : Type 0} (numbers_of : P → List (List ℕ)) where
  -- a point is its numbers
  abbrev pub point : P → List Symbol
  point p = map number (numbers_of p)

  -- a ring is a list of points in parentheses (OGC 06-103r4, 7.2.2, linestring text)
  abbrev pub ring : Ring P → List Symbol
  ring r = enclosed point r

  -- a polygon is EMPTY or a list of rings (OGC 06-103r4, 7.2.2, polygon text)
  abbrev pub polygon : Polygon P → List Symbol
  polygon rings = enclosed_or_empty ring rings

  -- POLYGON and one polygon, or MULTIPOLYGON and EMPTY or a list of polygons (OGC 06-103r4, 7.2.2, multipolygon text)
  abbrev pub Spells : List Symbol → List (Polygon P) → Type 0
  Spells ps polygons =
      ((p : Polygon P) × (polygons ≡ p ∷ []) × (ps ≡ word (codes "POLYGON") ∷ polygon p))
      ⊎ (ps ≡ word (codes "MULTIPOLYGON") ∷ enclosed_or_empty polygon polygons)

  -- The text is in the grammar and has this tree, in which each ring has a point.
  pub record IsTree (text : List ℕ) (polygons : List (Polygon P)) : Type 0 where
    pub spelled : Spells (symbols text) polygons
    pub points : AllByRecursion (AllByRecursion (λ r. r ≢ [])) polygons
