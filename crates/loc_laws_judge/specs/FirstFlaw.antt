-- The first flaw of an index, computed: kind after kind in the order in which they are judged, and within a kind the least number first (this product's
-- own order). The words:
--   first_some, flaw_if  what is found at the first member at which something is; a flaw where a test passes
--   lone_corner, bare_edge, uneven_feature, conflicting_pair  what is wrong with corners, edges and marks
--   is_odd_at            a feature marks an odd number of the edges at a corner odd
--   is_under, is_floor   an edge is alive at a point and has it above; a stored floor is that of a point
--   untrue_floor, untrue_cover, spare_list, other_source  what is wrong with floors, cover lists and sources
--   greatest_fitting, room_for  the most nodes that a path may have for so many items
--   joined, read_within  what two children read with an item between; what is read from a node, or none where a path has more nodes than there is room
--   version_list         the edges alive at a corner, sorted from the lowest to the highest
--   first_difference     where two lists differ first, or none where they are one
--   reading_flaw, version_flaw, untrue_version  what is wrong with a reading, with a version, and with the first version that is untrue
--   first_flaw           the first flaw, or none
--   IsReadable           corners, edges and marks are those of a table, and roots and children are nodes that are there
--   IsOneOf              a computed flaw is this one; of two edges that conflict it is some pair
--   FilesAreReadable, NoneIsTrue, TrueHasNone, FoundIsFirst, FirstIsFound  the laws
use Rattle.std.specs.Prelude.{◌≡◌, ℕ, zero, suc, ◌*◌, ◌≤◌, Bool, not, ◌&&◌, ◌||◌, List, [], ◌∷◌, ◌++◌, length, get_or, filter, Option, Some, None, option_map, if◌then◌else◌, nat_lt, ◌==◌}
use Rattle.std.specs.{Option.option_or, List.list_any, List.list_all, Str.bytes_eq}
use Rattle.loc_spec_plane.specs.{Points.Point, Points.is_above, Points.conflict, Places.alive_at, Places.lower_of}
use Rattle.loc_spec_plane.specs.Lists.{numbers, is_in, odd_many, sorted_set}
use Rattle.loc_spec_plane.specs.Tables.{Table, IsTable, corner, edge, edge_numbers, ends_at, has_odd, is_on_source}
use Rattle.loc_spec_plane.specs.Covers.{cover_above, feature_count}
use Rattle.loc_spec_index.specs.{declared.NodeRow.NodeRow, IndexFile.IsFileOf}
use Rattle.loc_spec_index.specs.Nodes.{Side, Left, Right, row_of, child_of, is_deep}
use Rattle.loc_spec_index.specs.Content.{Content, table_in, cover_of_edge, cover_numbers, floor_of_corner, root_of}
use Rattle.loc_spec_index.specs.TrueIndex.{IsTrueIndex, alive_count}
use Rattle.loc_spec_index.specs.Flaws.{Flaw, IsFirst, lone, bare, uneven, conflicting, wrong_floor, wrong_cover, spare_cover, wrong_source, deep, wrong_list}

-- what is found at the first member at which something is
abbrev pub first_some : {X Y : Type 0} → (X → Option Y) → List X → Option Y
first_some find [] = None
first_some find (x ∷ xs) = option_or (find x) (first_some find xs)

-- the flaw where the test passes, else none
abbrev pub flaw_if : Bool → Flaw → Option Flaw
flaw_if there flaw = if there then Some flaw else None

-- ---- corners, edges and marks

-- the least corner that is the end of no edge
abbrev pub lone_corner : Content → Option Flaw
lone_corner c = first_some (λ n. flaw_if (not (list_any (ends_at (table_in c) n) (edge_numbers (table_in c)))) (lone n)) (numbers (length c.corners))

-- the least edge without a mark
abbrev pub bare_edge : Content → Option Flaw
bare_edge c = first_some (λ e. flaw_if (length (get_or (table_in c).marks e []) == 0) (bare e)) (numbers (length c.edges))

-- feature f marks an odd number of the edges at corner n odd
abbrev pub is_odd_at : Table → ℕ → ℕ → Bool
is_odd_at t n f = odd_many (λ e. ends_at t n e && has_odd t f e) (edge_numbers t)

-- the least corner at which a feature is uneven, and the least such feature there
abbrev pub uneven_feature : Content → Option Flaw
uneven_feature c = first_some (λ n. first_some (λ f. flaw_if (is_odd_at (table_in c) n f) (uneven n f)) (numbers (feature_count (table_in c)))) (numbers (length c.corners))

-- the least edge that conflicts with a greater one, and the least such
abbrev pub conflicting_pair : Content → Option Flaw
conflicting_pair c = first_some (λ a. first_some (λ b. flaw_if (nat_lt a b && conflict (edge (table_in c) a) (edge (table_in c) b)) (conflicting a b)) (numbers (length c.edges))) (numbers (length c.edges))

-- ---- floors, cover lists and sources

-- edge e is alive at p and has p above it
abbrev pub is_under : Table → Point → ℕ → Bool
is_under t p e = alive_at t p e && is_above (edge t e) p

-- the floor of p is this one: of the edges alive at p that have p above them the highest, or none where there is none
abbrev pub is_floor : Table → Point → Option ℕ → Bool
is_floor t p None = list_all (λ e. not (is_under t p e)) (edge_numbers t)
is_floor t p (Some h) = is_under t p h && list_all (λ e. (not (is_under t p e) || (e == h)) || lower_of t e h) (edge_numbers t)

-- the least corner whose stored floor is not its floor
abbrev pub untrue_floor : Content → Option Flaw
untrue_floor c = first_some (λ n. flaw_if (not (is_floor (table_in c) (corner (table_in c) n) (floor_of_corner c n))) (wrong_floor n)) (numbers (length c.corners))

-- the least edge whose cover list is not the one above it
abbrev pub untrue_cover : Content → Option Flaw
untrue_cover c = first_some (λ e. flaw_if (not (bytes_eq (cover_of_edge c e) (cover_above (table_in c) e))) (wrong_cover e)) (numbers (length c.edges))

-- the least cover list that no edge names
abbrev pub spare_list : Content → Option Flaw
spare_list c = first_some (λ n. flaw_if (not (is_in n (cover_numbers c))) (spare_cover n)) (numbers (length c.covers))

-- the least edge that is off its source
abbrev pub other_source : Content → Option Flaw
other_source c = first_some (λ e. flaw_if (not (is_on_source (table_in c) e)) (wrong_source e)) (numbers (length c.edges))

-- ---- versions

-- the greatest number of nodes, up to d, with which a path is not too long for k items
abbrev pub greatest_fitting : ℕ → ℕ → ℕ
greatest_fitting k zero = 0
greatest_fitting k (suc d) = if is_deep k (suc d) then greatest_fitting k d else suc d

-- the most nodes that a path may have for k items: never more than 2 k
abbrev pub room_for : ℕ → ℕ
room_for k = greatest_fitting k (2 * k)

-- what both children read, with the item between them, or none where one is not read
abbrev pub joined : Option (List ℕ) → ℕ → Option (List ℕ) → Option (List ℕ)
joined None item after = None
joined (Some before) item None = None
joined (Some before) item (Some after) = Some (before ++ item ∷ after)

-- what node n reads in a version, with room for so many nodes on a path, or none where a path has more
abbrev pub read_within : List NodeRow → ℕ → ℕ → ℕ → Option (List ℕ)
read_within rows version room zero = Some []
read_within rows version zero (suc n) = None
read_within rows version (suc room) (suc n) =
    joined (read_within rows version room (child_of rows version (suc n) Left)) (row_of rows (suc n)).item (read_within rows version room (child_of rows version (suc n) Right))

-- the edges alive at corner i, from the lowest to the highest
abbrev pub version_list : Table → ℕ → List ℕ
version_list t i = sorted_set (lower_of t) (filter (alive_at t (corner t i)) (edge_numbers t))

-- the first position, from 0, at which the lists differ, be it that one of them ends, or none where they are one list
abbrev pub first_difference : List ℕ → List ℕ → Option ℕ
first_difference [] [] = None
first_difference [] (y ∷ ys) = Some 0
first_difference (x ∷ xs) [] = Some 0
first_difference (x ∷ xs) (y ∷ ys) = if x == y then option_map suc (first_difference xs ys) else Some 0

-- version i is too deep where it is not read, and else wrong where it is read otherwise than its list
abbrev pub reading_flaw : ℕ → List ℕ → Option (List ℕ) → Option Flaw
reading_flaw i list None = Some (deep i)
reading_flaw i list (Some read) = option_map (wrong_list i) (first_difference read list)

-- what is wrong with version i
abbrev pub version_flaw : Content → ℕ → Option Flaw
version_flaw c i = reading_flaw i (version_list (table_in c) i) (read_within c.nodes i (room_for (alive_count (table_in c) i)) (root_of c i))

-- what is wrong with the least version with which something is
abbrev pub untrue_version : Content → Option Flaw
untrue_version c = first_some (version_flaw c) (numbers (length c.corners))

-- ---- the first flaw

-- the first flaw: the least of the first kind of which there is one, or none
unfoldable pub first_flaw : Content → Option Flaw
first_flaw c = first_some (λ (kind : Content → Option Flaw). kind c)
    (lone_corner ∷ bare_edge ∷ uneven_feature ∷ conflicting_pair ∷ untrue_floor ∷ untrue_cover ∷ spare_list ∷ other_source ∷ untrue_version ∷ [])

-- ---- the laws

-- what is asked of a content that is judged: corners, edges and marks have the orders of a table, and each root and each child is a node that is there, or 0
pub record IsReadable (c : Content) : Type 0 where
  pub table : IsTable (table_in c)
  pub roots : (i : ℕ) → root_of c i ≤ length c.nodes
  pub children : (version n : ℕ) (side : Side) → child_of c.nodes version n side ≤ length c.nodes

-- the computed flaw is this one; of two edges that conflict it is some pair
abbrev pub IsOneOf : Flaw → Option Flaw → Type 0
IsOneOf (conflicting a b) computed = (d : ℕ) × (e : ℕ) × (computed ≡ Some (conflicting d e))
IsOneOf flaw computed = computed ≡ Some flaw

-- what a file holds can be judged
abbrev pub FilesAreReadable : Type 0
FilesAreReadable = (bytes : List ℕ) (v : ℕ) (c : Content) → IsFileOf v c bytes → IsReadable c

-- where no flaw is computed, the index is true
abbrev pub NoneIsTrue : Type 0
NoneIsTrue = (c : Content) → IsReadable c → first_flaw c ≡ None → IsTrueIndex c

-- of a true index none is computed
abbrev pub TrueHasNone : Type 0
TrueHasNone = (c : Content) → IsReadable c → IsTrueIndex c → first_flaw c ≡ None

-- the computed flaw is there, and none comes before it
abbrev pub FoundIsFirst : Type 0
FoundIsFirst = (c : Content) (flaw : Flaw) → IsReadable c → first_flaw c ≡ Some flaw → IsFirst c flaw

-- the first flaw is the computed one
abbrev pub FirstIsFound : Type 0
FirstIsFound = (c : Content) (flaw : Flaw) → IsReadable c → IsFirst c flaw → IsOneOf flaw (first_flaw c)
