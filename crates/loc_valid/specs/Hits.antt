-- What the lists above edges say of the rings of a feature. The words:
--   AreHomes                         the polygon of each ring
--   outside_in, nested_in, overlap_in  by the list above an edge of a ring: the ring is a hole and not inside an exterior, a hole inside a hole, of a polygon inside a polygon
--   misplaced_in                     by the fault that is sought: outside or nested
--   IsLeast, IsLeastOf, lesser_of    the least pair that passes a test; that passes at an edge; the lesser of two
--   AreLeast, turned_by, other_than  the two least of some numbers; with one more or less; the least that is another
--   AreClimbing                      later rings have no earlier polygons
--   AreOddLists                      the two least polygons of which each list has an odd number of rings
--   IsLaidOut                        a ring table in which no edge is twice, with its legend and the polygon of each ring
use Rattle.std.specs.Prelude.{◌≡◌, ◌⊎◌, ℕ, ◌<◌, ◌≤◌, Bool, true, false, not, ◌&&◌, List, [], length, get_or, map, nat_lt, if◌then◌else◌, Option, Some, None, ◌==◌}
use Rattle.std.specs.List.{list_any}
use Rattle.loc_spec_plane.specs.{Lists.is_in, Lists.numbers, Lists.odd_many, Rings.Rings}
use Rattle.loc_spec_plane.specs.{Tables.Table, Tables.pair_before, Covers.feature_count}
use Rattle.loc_spec_valid.specs.Breaches.{feature_rings, is_hole, polygon_of, ring_places}
use Rattle.loc_laws_valid.specs.Laws.{HasOneRing, ring_of}
use Rattle.loc_cover.specs.Legends.{FitsTable, IsTrueLegend, LegendRows}
use Rattle.loc_valid.specs.declared.hits.Fault.{Fault}
use Rattle.loc_valid.specs.declared.hits.Fault.TheVariants.{Outside, Nested}
use Rattle.loc_valid.specs.declared.least.Least.{Least}
use Rattle.loc_valid.specs.declared.least.Least.TheVariants.{Zero, One, Two}

-- the polygon of each ring
abbrev pub AreHomes : List Rings → List ℕ → Type 0
AreHomes polygons homes = homes ≡ map (λ (place : ℕ × Bool). place.0) (ring_places 0 polygons)

module _ (polygons : List Rings) (ring : ℕ) (list : List ℕ) where
  -- hole j is the ring, and the list does not have exterior k of its polygon
  abbrev pub outside_in : ℕ → ℕ → Bool
  outside_in j k = (j == ring) && ((is_hole polygons j && not (is_hole polygons k)) && ((nat_lt k (length (feature_rings polygons)) && (polygon_of polygons k == polygon_of polygons j)) && not (is_in k list)))

  -- hole j is the ring, and the list has another hole k of its polygon
  abbrev pub nested_in : ℕ → ℕ → Bool
  nested_in j k = (j == ring) && (((is_hole polygons j && is_hole polygons k) && ((polygon_of polygons j == polygon_of polygons k) && not (j == k))) && is_in k list)

  -- polygon j is that of the ring, and the list has an odd number of rings of another polygon k
  abbrev pub overlap_in : ℕ → ℕ → Bool
  overlap_in j k = (polygon_of polygons ring == j) && (not (j == k) && odd_many (λ q. polygon_of polygons q == k) list)

-- a hole and the ring against which it is misplaced so
abbrev pub misplaced_in : Fault → List Rings → ℕ → List ℕ → ℕ → ℕ → Bool
misplaced_in Outside = outside_in
misplaced_in Nested = nested_in

-- the least pair that passes, or none passes
abbrev pub IsLeast : (ℕ → ℕ → Bool) → Option (ℕ × ℕ) → Type 0
IsLeast hit None = (j k : ℕ) → hit j k ≡ false
IsLeast hit (Some p) = (hit p.0 p.1 ≡ true) × ((j k : ℕ) → hit j k ≡ true → pair_before (j, k) p ≡ false)

-- the least pair that passes at one of the first n edges
abbrev pub IsLeastOf : (ℕ → ℕ → ℕ → Bool) → ℕ → Option (ℕ × ℕ) → Type 0
IsLeastOf hits n = IsLeast (λ j k. list_any (λ e. hits e j k) (numbers n))

-- the lesser of two pairs, where there are two
abbrev pub lesser_of : Option (ℕ × ℕ) → Option (ℕ × ℕ) → Option (ℕ × ℕ)
lesser_of None b = b
lesser_of (Some a) None = Some a
lesser_of (Some a) (Some b) = if pair_before b a then Some b else Some a

-- the two least numbers that pass, as far as there are two
abbrev pub AreLeast : (ℕ → Bool) → Least → Type 0
AreLeast odd Zero = (m : ℕ) → odd m ≡ false
AreLeast odd (One a) = (m : ℕ) → odd m ≡ (a == m)
AreLeast odd (Two a b) = (a < b) × (odd a ≡ true) × (odd b ≡ true) × ((m : ℕ) → odd m ≡ true → (a ≡ m) ⊎ (b ≤ m))

-- with n more, or less where it is the greater of them
abbrev pub turned_by : Least → ℕ → Least
turned_by Zero n = One n
turned_by (One a) n = if a == n then Zero else Two a n
turned_by (Two a b) n = if b == n then One a else Two a b

-- n, and the least that is another
abbrev pub other_than : Least → ℕ → Option (ℕ × ℕ)
other_than Zero n = None
other_than (One a) n = if a == n then None else Some (n, a)
other_than (Two a b) n = if a == n then Some (n, b) else Some (n, a)

-- of the first n lists the two least polygons of which each has an odd number of rings, where the polygon of each ring is listed
abbrev pub AreOddLists : List ℕ → List (List ℕ) → ℕ → List Least → Type 0
AreOddLists homes lists n odd = (length odd ≡ n) × ((k : ℕ) → k < n → AreLeast (λ m. odd_many (λ q. get_or homes q 0 == m) (get_or lists k [])) (get_or odd k Zero))

-- later rings have no earlier polygons
abbrev pub AreClimbing : List ℕ → Type 0
AreClimbing homes = (r q : ℕ) → r ≤ q → q < length homes → get_or homes r 0 ≤ get_or homes q 0

-- a table of rings each edge of which has one ring, with its legend and the polygon of each ring
pub record IsLaidOut (polygons : List Rings) (homes : List ℕ) (t : Table) (rows : LegendRows) : Type 0 where
  pub homed : AreHomes polygons homes
  pub one : HasOneRing polygons t (ring_of polygons t)
  pub features : feature_count t ≤ length (feature_rings polygons)
  pub named : length rows.ids ≡ length (feature_rings polygons)
  pub fits : FitsTable t rows
  pub is_true : IsTrueLegend t rows
