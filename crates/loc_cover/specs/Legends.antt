-- What a legend holds and says of a place: `LegendRows`, `covering` and `touching`; what every legend owes: `IsSound`; what it owes to a table: `FitsTable`, and `IsTrueLegend`; and when a table has none: `IsFew` and `IsRefused`.
use Rattle.std.specs.Prelude.{◌≡◌, ℕ, ◌<◌, ◌≤◌, nat_lt, List, [], length, get_or, filter, not, sum_by, All, Option, Some, None, IsTrue}
use Rattle.loc_spec_text.specs.Limits.{most_features, most_members, most_pieces}
use Rattle.loc_spec_plane.specs.{Lists.IsRisingListOf, Lists.is_in, Lists.is_rising, declared.Place.Place}
use Rattle.loc_spec_plane.specs.declared.Place.TheVariants.{Corner, Border, Area}
use Rattle.loc_spec_plane.specs.{Tables.Table, Tables.corner, Tables.has, Places.IsFloor}
use Rattle.loc_spec_plane.specs.Covers.{cover_above, cover_lists, cover_sum, has_at, list_before}
use Rattle.loc_cover.specs.declared.fault.LegendFault.{LegendFault}
use Rattle.loc_cover.specs.declared.fault.LegendFault.TheVariants.{ManyCovers, NoMemory}

-- the ids of the features, the features that touch each corner and each edge, the distinct cover lists in lexicographic order, the number of the list above each edge, and the floor of each corner
pub record LegendRows : Type 0 where
  pub ids : List (List ℕ)
  pub on_corner : List (List ℕ)
  pub on_edge : List (List ℕ)
  pub lists : List (List ℕ)
  pub above : List ℕ
  pub floors : List (Option ℕ)

-- the list above an edge, by its number
abbrev pub list_above : LegendRows → ℕ → List ℕ
list_above rows e = get_or rows.lists (get_or rows.above e 0) []

-- the list above a floor; without a floor it is empty
abbrev pub list_over : LegendRows → Option ℕ → List ℕ
list_over rows None = []
list_over rows (Some e) = list_above rows e

-- the features that cover what lies at a place: those of the list above the border or the floor that do not touch it
abbrev pub covering : LegendRows → Place → List ℕ
covering rows (Corner c) = filter (λ f. not (is_in f (get_or rows.on_corner c []))) (list_over rows (get_or rows.floors c None))
covering rows (Border e) = filter (λ f. not (is_in f (get_or rows.on_edge e []))) (list_above rows e)
covering rows (Area floor) = list_over rows floor

-- the features that touch what lies at a place
abbrev pub touching : LegendRows → Place → List ℕ
touching rows (Corner c) = get_or rows.on_corner c []
touching rows (Border e) = get_or rows.on_edge e []
touching rows (Area floor) = []

-- the features of a list have ids
abbrev pub AreNamed : LegendRows → List ℕ → Type 0
AreNamed rows fs = All (λ f. f < length rows.ids) fs

-- the lists rise, and so does each of them; there are no more of them than edges, and they have few members together
pub record AreLists (edges : ℕ) (lists : List (List ℕ)) : Type 0 where
  pub rise : IsTrue (is_rising list_before lists)
  pub each_rises : (n : ℕ) → IsTrue (is_rising nat_lt (get_or lists n []))
  pub few : length lists ≤ edges
  pub few_members : sum_by length lists ≤ most_members

-- each number in the rows is that of another row or of an id, and the rows are few and in order
pub record IsSound (rows : LegendRows) : Type 0 where
  pub few_features : length rows.ids ≤ most_features
  pub few_edges : length rows.on_edge ≤ most_pieces
  pub lists : AreLists (length rows.on_edge) rows.lists
  pub as_many_floors : length rows.floors ≡ length rows.on_corner
  pub as_many_above : length rows.above ≡ length rows.on_edge
  pub floors_in_range : (c e : ℕ) → get_or rows.floors c None ≡ Some e → e < length rows.on_edge
  pub above_in_range : (e : ℕ) → e < length rows.above → get_or rows.above e 0 < length rows.lists
  pub corners_named : (c : ℕ) → AreNamed rows (get_or rows.on_corner c [])
  pub edges_named : (e : ℕ) → AreNamed rows (get_or rows.on_edge e [])
  pub corners_rise : (c : ℕ) → IsTrue (is_rising nat_lt (get_or rows.on_corner c []))
  pub edges_rise : (e : ℕ) → IsTrue (is_rising nat_lt (get_or rows.on_edge e []))
  pub lists_named : (n : ℕ) → AreNamed rows (get_or rows.lists n [])

-- a legend is of a table: the features that touch its corners and edges are those of the marks; lists and floors may be those of no sweep
pub record FitsTable (t : Table) (rows : LegendRows) : Type 0 where
  pub as_many_corners : length rows.on_corner ≡ length t.corners
  pub on_corner : (c : ℕ) → c < length t.corners → IsRisingListOf nat_lt (has_at t c) (get_or rows.on_corner c [])
  pub as_many_edges : length rows.on_edge ≡ length t.ends
  pub on_edge : (e : ℕ) → e < length t.ends → IsRisingListOf nat_lt (λ f. has t f e) (get_or rows.on_edge e [])

-- its lists are the distinct cover lists of the table, each edge has the one above it, and the floors are those of the corners
pub record IsTrueLegend (t : Table) (rows : LegendRows) : Type 0 where
  pub lists : rows.lists ≡ cover_lists t
  pub above : (e : ℕ) → e < length t.ends → list_above rows e ≡ cover_above t e
  pub floors : (c : ℕ) → c < length t.corners → IsFloor t (corner t c) (get_or rows.floors c None)

-- the distinct cover lists have at most so many members together
abbrev pub IsFew : Table → Type 0
IsFew t = cover_sum t ≤ most_members

-- why a table has no legend; want of memory may come at any time
abbrev pub IsRefused : Table → LegendFault → Type 0
IsRefused t ManyCovers = most_members < cover_sum t
IsRefused t NoMemory = Unit {0}
