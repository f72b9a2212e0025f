-- Laws of noding, as statements that the contracts of public functions cite. The words:
--   goes_up, ends_of                  an edge goes from its lower end to its upper one; the ends of edges
--   is_path                           edges that join end to end
--   IsCut                             edges that have what a segment has
--   is_good, IsCutting                a segment between corners, and a way to cut all of these
--   Pieces                            what a segment between corners in order is
--   PathLaw, OnLaw, CutLaw            the pieces of a segment join end to end, lie on it, and have what it has
--   OutsideLaw, OnePieceLaw           no corner lies inside a piece; where none lies inside a segment it is its own one piece
--   AreEven                           every feature has each point as an end an even number of times
--   NodedTable, NodedEven, NodedMarks the noded table is one, marks are even, and by its marks it has what the rings have
--   NodedCount, NodedMarked           it has no more edges and marks than there are pieces, and marks no more features than there are; every edge has a mark
--   NodedSources                      both ends of every edge of the noded table lie on its source
--   PlainSources                      in the plain table each edge is its own source
--   NeverTouch, PlainIsNoded          no two of its edges touch; where no two plain edges conflict it is the plain table
use Rattle.std.specs.Prelude.{◌≡◌, ◌≢◌, ℕ, ◌<◌, ◌≤◌, Bool, true, false, ◌&&◌, List, [], ◌∷◌, length, get_or, sum_by, IsTrue}
use Rattle.std.specs.List.{list_any, list_all, flat_map}
use Rattle.loc_laws_order.specs.Numbered.{has_ends}
use Rattle.loc_spec_plane.specs.Points.{Point, Edge, before, same_point, edge_before, is_end, lies_on, inside, touch}
use Rattle.loc_spec_plane.specs.{Lists.is_rising, Lists.odd_many, Rays.crosses_right, Covers.feature_count}
use Rattle.loc_spec_plane.specs.Rings.{Rings, segments, touches, covers}
use Rattle.loc_spec_plane.specs.Tables.{IsTable, AllEnds, AllEven, NoConflict, cut_at, edge, is_on_source, noded_table_of, piece_count, table_of, touches_by_marks, covers_by_marks, whole}

-- the edge goes up
abbrev pub goes_up : Edge → Bool
goes_up e = before e.lo e.hi

-- the ends of the edges, the lower end of each before its upper end
abbrev pub ends_of : List Edge → List Point
ends_of edges = flat_map (λ (e : Edge). e.lo ∷ e.hi ∷ []) edges

-- the edges go up from a to b, each from where the one before it ends
abbrev pub is_path : Point → Point → List Edge → Bool
is_path a b [] = same_point a b
is_path a b (e ∷ es) = (same_point a e.lo && goes_up e) && is_path e.hi b es

-- edges that a segment is cut into: they rise and go up between corners, and they have the ends of the segment, what lies on it and what it crosses
pub record IsCut (corners : List Point) (s : Edge) (es : List Edge) : Type 0 where
  pub rise : IsTrue (is_rising edge_before es)
  pub go_up : IsTrue (list_all goes_up es)
  pub between : IsTrue (list_all (has_ends corners) es)
  pub ends : (p : Point) → odd_many (λ e. is_end e p) es ≡ is_end s p
  pub touched : (p : Point) → list_any (λ e. lies_on e p) es ≡ lies_on s p
  pub crossed : (p : Point) → odd_many (λ e. crosses_right e p) es ≡ crosses_right s p

-- the segment goes up between two of the corners
abbrev pub is_good : List Point → Edge → Bool
is_good corners s = goes_up s && has_ends corners s

-- what every segment between the corners is cut into is a cut of it
abbrev pub IsCutting : List Point → (Edge → List Edge) → Type 0
IsCutting corners cut = (s : Edge) → is_good corners s ≡ true → IsCut corners s (cut s)

-- corners in order, and a segment that goes up between two of them
pub record Pieces (corners : List Point) (s : Edge) : Type 0 where
  pub in_order : IsTrue (is_rising before corners)
  pub goes_up : IsTrue (before s.lo s.hi)
  pub low : IsTrue (list_any (same_point s.lo) corners)
  pub high : IsTrue (list_any (same_point s.hi) corners)

-- the pieces of a segment join end to end, from its lower end to its upper end
abbrev pub PathLaw : Type 0
PathLaw = (corners : List Point) (s : Edge) → Pieces corners s → IsTrue (is_path s.lo s.hi (cut_at corners s))

-- both ends of a piece lie on the segment
abbrev pub OnLaw : Type 0
OnLaw = (corners : List Point) (s : Edge) → Pieces corners s → IsTrue (list_all (λ (e : Edge). lies_on s e.lo && lies_on s e.hi) (cut_at corners s))

-- the pieces have what the segment has
abbrev pub CutLaw : Type 0
CutLaw = (corners : List Point) (s : Edge) → Pieces corners s → IsCut corners s (cut_at corners s)

-- no corner lies inside a piece
abbrev pub OutsideLaw : Type 0
OutsideLaw = (corners : List Point) (s : Edge) → Pieces corners s → (c : Point) → IsTrue (list_any (same_point c) corners) → list_any (λ e. inside e c) (cut_at corners s) ≡ false

-- where no corner lies inside the segment it is its own one piece
abbrev pub OnePieceLaw : Type 0
OnePieceLaw = (corners : List Point) (s : Edge) → Pieces corners s → list_any (inside s) corners ≡ false → cut_at corners s ≡ whole s

-- every feature has each point as an end an even number of times, as where its rings are closed
abbrev pub AreEven : List Rings → Type 0
AreEven layer = (f : ℕ) (p : Point) → odd_many (λ s. is_end s p) (segments (get_or layer f [])) ≡ false

-- the noded table is a table, and every corner is an end
abbrev pub NodedTable : Type 0
NodedTable = (layer : List Rings) → IsTable (noded_table_of layer) × AllEnds (noded_table_of layer)

-- its marks are even at every corner
abbrev pub NodedEven : Type 0
NodedEven = (layer : List Rings) → AreEven layer → AllEven (noded_table_of layer)

-- a feature touches by its marks what its rings touch, and covers what they cover
abbrev pub NodedMarks : Type 0
NodedMarks =
    (layer : List Rings) (f : ℕ) (p : Point) → (touches_by_marks (noded_table_of layer) f p ≡ touches (get_or layer f []) p) × (covers_by_marks (noded_table_of layer) f p ≡ covers (get_or layer f []) p)

-- there are no more edges than pieces and no more marks, and no more features are marked than there are
abbrev pub NodedCount : Type 0
NodedCount = (layer : List Rings)
    → (length (noded_table_of layer).ends ≤ piece_count layer) × (sum_by length (noded_table_of layer).marks ≤ piece_count layer) × (feature_count (noded_table_of layer) ≤ length layer)

-- every edge has a mark
abbrev pub NodedMarked : Type 0
NodedMarked = (layer : List Rings) (e : ℕ) → e < length (noded_table_of layer).ends → get_or (noded_table_of layer).marks e [] ≢ []

-- both ends of every edge of the noded table lie on its source
abbrev pub NodedSources : Type 0
NodedSources = (layer : List Rings) (e : ℕ) → e < length (noded_table_of layer).ends → IsTrue (is_on_source (noded_table_of layer) e)

-- in the plain table each edge is its own source
abbrev pub PlainSources : Type 0
PlainSources = (layer : List Rings) → (table_of layer).sources ≡ (table_of layer).ends

-- no two edges of the noded table touch
abbrev pub NeverTouch : Type 0
NeverTouch = (layer : List Rings) (a b : ℕ) → a < length (noded_table_of layer).ends → b < length (noded_table_of layer).ends → touch (edge (noded_table_of layer) a) (edge (noded_table_of layer) b) ≡ false

-- where no two plain edges conflict the noded table is the plain one
abbrev pub PlainIsNoded : Type 0
PlainIsNoded = (layer : List Rings) → NoConflict (table_of layer) → noded_table_of layer ≡ table_of layer
