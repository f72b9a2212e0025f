-- Laws of validity, as statements that the contracts of public functions cite. The words: `HasOneRing`, `ring_of`, `NoneTwice`, `OneRing`, `InsideByList`, `GoesThrough`, `CrossingParts`, `LowerAtEnds`,
-- `CrossingSides`, `RingsCalm`, `NonePinched`, `NoneOutside`, `NoneNested`, `PolygonsCalm`,
-- `ring_pieces`, `TwiceByPieces`, `ConflictsCross`, `FewerPieces`, `ByLists`, `BreachesByLists`.
use Rattle.std.specs.Prelude.{◌≡◌, ◌⊎◌, ℕ, ◌<◌, ◌≤◌, Bool, true, false, not, ◌&&◌, List, [], ◌∷◌, length, get_or, map, find, Option, option_map, unwrap_or, ◌==◌}
use Rattle.std.specs.List.{flat_map, list_any}
use Rattle.loc_spec_plane.specs.{Lists.is_in, Lists.exactly_one, Lists.odd_many, Rings.Rings, Rings.segments}
use Rattle.loc_spec_plane.specs.Points.{Edge, before, conflict, is_above}
use Rattle.loc_spec_plane.specs.Tables.{Table, IsTable, AllEnds, AllEven, NoConflict, cut_at, edge, edge_numbers, piece_count, lo_of, hi_of, ends_at, has, has_odd}
use Rattle.loc_spec_plane.specs.{Places.lower, Places.lower_of, Covers.cover_above, Covers.is_over}
use Rattle.loc_laws_repeats.specs.Repeats.{IsFirstTwice}
use Rattle.loc_spec_valid.specs.Breaches.{HasNoCrossing, feature_rings, is_crossing, is_twice, is_hole, is_pinch, is_outside, is_nested, is_overlap, lies_inside, polygon_of, polygon_table, ring_numbers, ring_table}

-- no edge is twice: each edge has one ring, by its number, with an odd mark
pub record HasOneRing (polygons : List Rings) (t : Table) (ring_of : ℕ → ℕ) : Type 0 where
  pub is_ring : (e : ℕ) → e < length t.ends → is_in (ring_of e) (ring_numbers polygons) ≡ true
  pub one : (e r : ℕ) → e < length t.ends → has t r e ≡ (r == ring_of e)
  pub odd : (e r : ℕ) → e < length t.ends → has_odd t r e ≡ (r == ring_of e)

-- the ring of an edge: the first that has it
abbrev pub ring_of : List Rings → Table → ℕ → ℕ
ring_of polygons t e = unwrap_or (find (λ r. has t r e) (ring_numbers polygons)) 0

-- no edge is a piece of more than one segment
abbrev pub NoneTwice : List Rings → Type 0
NoneTwice polygons = (e : ℕ) → e < length (ring_table polygons).ends → is_twice polygons (ring_table polygons) e ≡ false

-- so each edge has one ring
abbrev pub OneRing : Type 0
OneRing = (polygons : List Rings) → NoneTwice polygons → HasOneRing polygons (ring_table polygons) (ring_of polygons (ring_table polygons))

-- where no edge is twice, an edge of none of some rings lies inside them exactly where the list above it names an odd number of them
abbrev pub InsideByList : Type 0
InsideByList = (polygons : List Rings) (t : Table) (ring_of : ℕ → ℕ) → HasOneRing polygons t ring_of → (among : ℕ → Bool) (e : ℕ) → e < length t.ends → among (ring_of e) ≡ false
    → lies_inside polygons t among e ≡ odd_many (λ r. among r && is_in r (cover_above t e)) (ring_numbers polygons)

-- feature r goes through corner c by edges a and b, and has no other edge there
pub record GoesThrough (t : Table) (r c a b : ℕ) : Type 0 where
  pub first : a < length t.ends
  pub second : b < length t.ends
  pub ends : hi_of t a ≡ c
  pub begins : lo_of t b ≡ c
  pub only : (e : ℕ) → e < length t.ends → ends_at t c e ≡ true → has_odd t r e ≡ true → (e ≡ a) ⊎ (e ≡ b)
  pub has_first : has_odd t r a ≡ true
  pub has_second : has_odd t r b ≡ true

-- where two edges through a corner change their order there, a feature that goes through it by the one covers exactly one of the two parts of the other
abbrev pub CrossingParts : Type 0
CrossingParts = (t : Table) → IsTable t → AllEnds t → AllEven t → NoConflict t → (r c a b d e : ℕ) → c < length t.corners → GoesThrough t r c a b
    → d < length t.ends → e < length t.ends → hi_of t d ≡ c → lo_of t e ≡ c → has_odd t r d ≡ false → has_odd t r e ≡ false
    → exactly_one (lower_of t a d) (lower_of t b e) ≡ true → exactly_one (is_over t d r) (is_over t e r) ≡ true

-- of two edges that end at one point, one is lower where the other's lower end is above it; of two that begin at one point, where the other's upper end is
pub record LowerAtEnds (a b : Edge) : Type 0 where
  pub ending : before a.lo a.hi ≡ true → before b.lo b.hi ≡ true → a.hi ≡ b.hi → lower a b ≡ is_above a b.lo
  pub beginning : a.lo ≡ b.lo → lower a b ≡ is_above a b.hi

-- the same by sides: where the two parts of a line lie on opposite sides of the other, a feature that goes through the corner by that other covers exactly one of the two
abbrev pub CrossingSides : Type 0
CrossingSides = (t : Table) → IsTable t → AllEnds t → AllEven t → NoConflict t → (r c a b d e : ℕ) → c < length t.corners → GoesThrough t r c a b
    → d < length t.ends → e < length t.ends → hi_of t d ≡ c → lo_of t e ≡ c → has_odd t r d ≡ false → has_odd t r e ≡ false
    → exactly_one (is_above (edge t a) (edge t d).lo) (is_above (edge t b) (edge t e).hi) ≡ true → exactly_one (is_over t d r) (is_over t e r) ≡ true

-- where no two edges of the ring table cross, no two conflict
abbrev pub RingsCalm : Type 0
RingsCalm = (polygons : List Rings) → HasNoCrossing polygons → NoConflict (ring_table polygons)

-- no ring has more than two edges at a corner
abbrev pub NonePinched : List Rings → Type 0
NonePinched polygons = (r c : ℕ) → r < length (feature_rings polygons) → c < length (ring_table polygons).corners → is_pinch polygons (ring_table polygons) r c ≡ false

-- no hole is outside its exterior
abbrev pub NoneOutside : List Rings → Type 0
NoneOutside polygons = (r : ℕ) → r < length (feature_rings polygons) → is_outside polygons (ring_table polygons) r ≡ false

-- no hole is in another
abbrev pub NoneNested : List Rings → Type 0
NoneNested polygons = (r q : ℕ) → r < length (feature_rings polygons) → q < length (feature_rings polygons) → is_nested polygons (ring_table polygons) r q ≡ false

-- where none of these breaches applies, no two edges conflict in the table of one polygon alone: a crossing there would be at a corner of another polygon
abbrev pub PolygonsCalm : Type 0
PolygonsCalm = (polygons : List Rings) → AllEven (ring_table polygons) → HasNoCrossing polygons → NoneTwice polygons → NonePinched polygons → NoneOutside polygons → NoneNested polygons → (n : ℕ) → n < length polygons → NoConflict (polygon_table polygons n)

-- the pieces of all segments of a feature, each as often as it stands there
abbrev pub ring_pieces : List Rings → List Edge
ring_pieces polygons = flat_map (cut_at (ring_table polygons).corners) (segments (feature_rings polygons))

-- the least edge that is twice, by all pieces
abbrev pub TwiceByPieces : Type 0
TwiceByPieces = (polygons : List Rings) (answer : Option Edge) → IsFirstTwice (ring_pieces polygons) answer
    → option_map (edge (ring_table polygons)) (find (is_twice polygons (ring_table polygons)) (edge_numbers (ring_table polygons))) ≡ answer

-- two edges of the ring table that conflict cross, and where no two conflict none cross
abbrev pub ConflictsCross : Type 0
ConflictsCross = (polygons : List Rings)
    → ((a b : ℕ) → a < b → b < length (ring_table polygons).ends → conflict (edge (ring_table polygons) a) (edge (ring_table polygons) b) ≡ true → is_crossing (ring_table polygons) a b ≡ true) × (NoConflict (ring_table polygons) → HasNoCrossing polygons)

-- a polygon alone has no more pieces than the rings of the feature: its corners are some of theirs
abbrev pub FewerPieces : Type 0
FewerPieces = (polygons : List Rings) (n : ℕ) → n < length polygons → piece_count (get_or polygons n [] ∷ []) ≤ piece_count (map (λ ring. ring ∷ []) (feature_rings polygons))

-- where no edge is twice, the later breaches by the lists above edges: of the edges of one ring, and of one polygon
pub record ByLists (polygons : List Rings) (t : Table) (ring_of : ℕ → ℕ) : Type 0 where
  pub nested : (r q : ℕ) → q < length (feature_rings polygons)
      → is_nested polygons t r q ≡ (((is_hole polygons r && is_hole polygons q) && ((polygon_of polygons r == polygon_of polygons q) && not (r == q))) && list_any (λ e. (r == ring_of e) && is_in q (cover_above t e)) (edge_numbers t))
  pub outside : (r x : ℕ) → x < length (feature_rings polygons) → is_hole polygons r ≡ true → is_hole polygons x ≡ false → polygon_of polygons x ≡ polygon_of polygons r
      → is_outside polygons t r ≡ list_any (λ e. (r == ring_of e) && not (is_in x (cover_above t e))) (edge_numbers t)
  pub overlap : (n m : ℕ) → (n ≡ m → ⊥)
      → is_overlap polygons t n m ≡ list_any (λ e. (polygon_of polygons (ring_of e) == n) && odd_many (λ q. (polygon_of polygons q == m) && is_in q (cover_above t e)) (ring_numbers polygons)) (edge_numbers t)

abbrev pub BreachesByLists : Type 0
BreachesByLists = (polygons : List Rings) (t : Table) (ring_of : ℕ → ℕ) → HasOneRing polygons t ring_of → ByLists polygons t ring_of
