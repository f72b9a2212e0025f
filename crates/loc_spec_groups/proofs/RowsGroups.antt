-- Worked rows: dissolved groups, computed on small layers. The next and the face of each half-edge are listed; that the nexts are those of the group's table is checked too.
use Rattle.std.proofs.Common.{◌≡◌, ℕ, Bool, true, false, List, [], ◌∷◌, ◌++◌, map, refl, get_or}
use Rattle.std.specs.{Prelude.codes, Fmt.digits}
use Rattle.loc_spec_text.specs.{Bytes.Text, Points.ended}
use Rattle.loc_spec_plane.specs.{Points.turn, Rings.Rings, declared.Mark.Mark}
use Rattle.loc_spec_plane.specs.{Tables.Table, Tables.table_of, Tables.table_by, HalfEdges.IsNextOfAll}
use Rattle.loc_spec_plane.proofs.{Rows.at, Rows.rectangle, RowsFaces.next_by_check}
use Rattle.loc_spec_groups.specs.Groups.{covers_upper, covers_lower, kept_edges, chosen_table, group_table, group_polygons, is_member, group_names, dissolved}
use Rattle.loc_spec_groups.specs.GroupTexts.{dissolved_text}

-- the id of all features
abbrev pub id_a : Text
id_a = codes "a"

-- one odd mark
abbrev pub one_mark : List Mark
one_mark = record { feature = 0; odd = true } ∷ []

-- two squares side by side, the table of both, and the group of both
abbrev pub two : List Rings
two = (rectangle 0 0 2 2 ∷ []) ∷ (rectangle 2 0 4 2 ∷ []) ∷ []

abbrev pub both : ℕ → Bool
both f = is_member (id_a ∷ id_a ∷ []) id_a f

-- the common side, edge 3, is covered above and below; the others are kept
pub two_upper : map (covers_upper (table_of two) both) (0 ∷ 1 ∷ 2 ∷ 3 ∷ 4 ∷ 5 ∷ 6 ∷ []) ≡ false ∷ true ∷ false ∷ true ∷ true ∷ false ∷ true ∷ []
unfolding table_by turn
two_upper = refl

pub two_lower : map (covers_lower (table_of two) both) (0 ∷ 1 ∷ 2 ∷ 3 ∷ 4 ∷ 5 ∷ 6 ∷ []) ≡ true ∷ false ∷ true ∷ true ∷ false ∷ true ∷ false ∷ []
unfolding table_by turn
two_lower = refl

pub two_kept : kept_edges (table_of two) both ≡ 0 ∷ 1 ∷ 2 ∷ 4 ∷ 5 ∷ 6 ∷ []
unfolding table_by turn
two_kept = refl

pub two_table : group_table (table_of two) both ≡ record {
  corners = at 0 0 ∷ at 0 2 ∷ at 2 0 ∷ at 2 2 ∷ at 4 0 ∷ at 4 2 ∷ [];
  ends = (0, 1) ∷ (0, 2) ∷ (1, 3) ∷ (2, 4) ∷ (3, 5) ∷ (4, 5) ∷ [];
  marks = one_mark ∷ one_mark ∷ one_mark ∷ one_mark ∷ one_mark ∷ one_mark ∷ [];
  sources = (0, 1) ∷ (0, 2) ∷ (1, 3) ∷ (2, 4) ∷ (3, 5) ∷ (4, 5) ∷ [];
}
unfolding table_by turn chosen_table digits
two_table = refl

-- the next and the face of each of its half-edges
abbrev pub two_next : Table → ℕ → ℕ
two_next t h = get_or (4 ∷ 2 ∷ 6 ∷ 0 ∷ 8 ∷ 1 ∷ 10 ∷ 3 ∷ 11 ∷ 5 ∷ 9 ∷ 7 ∷ []) h 0

abbrev pub two_face : Table → ℕ → ℕ
two_face t h = get_or (0 ∷ 1 ∷ 1 ∷ 0 ∷ 0 ∷ 1 ∷ 1 ∷ 0 ∷ 0 ∷ 1 ∷ 1 ∷ 0 ∷ []) h 0

abbrev pub two_rounds : ℕ → List ℕ
two_rounds c = get_or ((1 ∷ 0 ∷ []) ∷ (2 ∷ 0 ∷ []) ∷ (3 ∷ 1 ∷ []) ∷ (4 ∷ 2 ∷ []) ∷ (5 ∷ 3 ∷ []) ∷ (4 ∷ 5 ∷ []) ∷ []) c []

pub two_is_next : IsNextOfAll (group_table (table_of two) both) (two_next (group_table (table_of two) both))
unfolding table_by turn chosen_table digits
two_is_next = next_by_check (group_table (table_of two) both) two_rounds (two_next (group_table (table_of two) both)) refl

-- one polygon, without the side between them
pub two_polygons : group_polygons (table_of two) both (two_next (group_table (table_of two) both)) (two_face (group_table (table_of two) both)) ≡ ((at 0 2 ∷ at 0 0 ∷ at 2 0 ∷ at 4 0 ∷ at 4 2 ∷ at 2 2 ∷ []) ∷ []) ∷ []
unfolding table_by turn chosen_table digits
two_polygons = refl

pub two_text : dissolved_text 0 (dissolved two_next two_face (table_of two) (id_a ∷ id_a ∷ [])) ≡ ended (codes "wkt,id") ++ ended (codes "\"MULTIPOLYGON (((0 2, 0 0, 2 0, 4 0, 4 2, 2 2, 0 2)))\",\"a\"")
unfolding table_by turn chosen_table digits
two_text = refl

-- a square with a hole stays as it is
abbrev pub holed : Rings
holed = rectangle 0 0 4 4 ∷ (at 1 1 ∷ at 1 3 ∷ at 3 3 ∷ at 3 1 ∷ at 1 1 ∷ []) ∷ []

abbrev pub holed_next : Table → ℕ → ℕ
holed_next t h = get_or (4 ∷ 2 ∷ 14 ∷ 0 ∷ 15 ∷ 1 ∷ 10 ∷ 8 ∷ 12 ∷ 6 ∷ 13 ∷ 7 ∷ 11 ∷ 9 ∷ 5 ∷ 3 ∷ []) h 0

abbrev pub holed_face : Table → ℕ → ℕ
holed_face t h = get_or (0 ∷ 1 ∷ 1 ∷ 0 ∷ 0 ∷ 1 ∷ 1 ∷ 2 ∷ 2 ∷ 1 ∷ 1 ∷ 2 ∷ 2 ∷ 1 ∷ 1 ∷ 0 ∷ []) h 0

pub holed_text : dissolved_text 0 (dissolved holed_next holed_face (table_of (holed ∷ [])) (id_a ∷ [])) ≡ ended (codes "wkt,id") ++ ended (codes "\"MULTIPOLYGON (((0 4, 0 0, 4 0, 4 4, 0 4), (1 1, 1 3, 3 3, 3 1, 1 1)))\",\"a\"")
unfolding table_by turn chosen_table digits
holed_text = refl

-- with a second feature that fills the hole the outer ring is left
abbrev pub filled : List Rings
filled = holed ∷ (rectangle 1 1 3 3 ∷ []) ∷ []

abbrev pub square_next : Table → ℕ → ℕ
square_next t h = get_or (4 ∷ 2 ∷ 6 ∷ 0 ∷ 7 ∷ 1 ∷ 5 ∷ 3 ∷ []) h 0

abbrev pub square_face : Table → ℕ → ℕ
square_face t h = get_or (0 ∷ 1 ∷ 1 ∷ 0 ∷ 0 ∷ 1 ∷ 1 ∷ 0 ∷ []) h 0

pub filled_text : dissolved_text 0 (dissolved square_next square_face (table_of filled) (id_a ∷ id_a ∷ [])) ≡ ended (codes "wkt,id") ++ ended (codes "\"MULTIPOLYGON (((0 4, 0 0, 4 0, 4 4, 0 4)))\",\"a\"")
unfolding table_by turn chosen_table digits
filled_text = refl

-- of two ids each has its own polygons: the hole of the first stays
pub filled_apart_text : map (λ (id : Text). kept_edges (table_of filled) (is_member (codes "a" ∷ codes "b" ∷ []) id)) (group_names (codes "a" ∷ codes "b" ∷ [])) ≡ (0 ∷ 1 ∷ 2 ∷ 3 ∷ 4 ∷ 5 ∷ 6 ∷ 7 ∷ []) ∷ (3 ∷ 4 ∷ 5 ∷ 6 ∷ []) ∷ []
unfolding table_by turn
filled_apart_text = refl

-- a feature without rings has no polygon, and no features make the header alone
pub bare_text : dissolved_text 0 (dissolved square_next square_face (table_of ([] ∷ [])) (id_a ∷ [])) ≡ ended (codes "wkt,id") ++ ended (codes "\"MULTIPOLYGON EMPTY\",\"a\"")
unfolding table_by turn chosen_table digits
bare_text = refl

pub none_text : dissolved_text 0 (dissolved square_next square_face (table_of []) []) ≡ ended (codes "wkt,id")
unfolding table_by turn chosen_table digits
none_text = refl
