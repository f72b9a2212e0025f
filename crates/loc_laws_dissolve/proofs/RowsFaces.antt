-- A worked row: the listed faces of the group of two squares are those of its table. It stands here since this needs that floors are unique.
use Rattle.std.proofs.Common.{ℕ, ◌<◌, true, [], ◌∷◌, refl, get_or}
use Rattle.std.specs.Prelude.{Option, Some, None}
use Rattle.std.proofs.lemmas.Bool.{agree_below_at}
use Rattle.loc_spec_plane.specs.{Points.turn, Tables.table_of, Tables.table_by, Tables.corner, Places.IsFloor}
use Rattle.loc_spec_plane.specs.Faces.{IsFaces}
use Rattle.loc_spec_plane.proofs.Checks.{floor_checked, floor_from_check}
use Rattle.loc_spec_groups.specs.Groups.{chosen_table, group_table}
use Rattle.loc_spec_groups.proofs.RowsGroups.{both, two, two_face, two_next}
use Rattle.loc_laws_order.proofs.RowsFaces.{faces_by_check}

abbrev pub two_floors : ℕ → Option ℕ
two_floors c = get_or (None ∷ Some 1 ∷ None ∷ Some 3 ∷ None ∷ None ∷ []) c None

two_are_floors : (c : ℕ) → c < 6 → IsFloor (group_table (table_of two) both) (corner (group_table (table_of two) both) c) (two_floors c)
unfolding table_by turn chosen_table
two_are_floors c lt = floor_from_check (group_table (table_of two) both) (corner (group_table (table_of two) both) c) (two_floors c) (agree_below_at (λ c. floor_checked (group_table (table_of two) both) (corner (group_table (table_of two) both) c) (two_floors c)) (λ _. true) 6 c refl lt)

pub two_faces : IsFaces (group_table (table_of two) both) (two_next (group_table (table_of two) both)) (two_face (group_table (table_of two) both))
unfolding table_by turn chosen_table
two_faces = faces_by_check (group_table (table_of two) both) (two_next (group_table (table_of two) both)) (two_face (group_table (table_of two) both)) two_floors two_are_floors refl refl refl
