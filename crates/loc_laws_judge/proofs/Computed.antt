-- Worked rows: the first flaw that is computed of the sample, and of damaged copies of it.
use Rattle.std.proofs.Common.{◌≡◌, false, [], ◌∷◌, map, set, refl}
use Rattle.std.specs.Prelude.{Some, None}
use Rattle.loc_spec_plane.specs.Points.{turn}
use Rattle.loc_spec_index.specs.Content.{table_in}
use Rattle.loc_spec_index.specs.Flaws.{wrong_floor, wrong_cover, spare_cover, wrong_source, uneven, deep, wrong_list}
use Rattle.loc_spec_index.proofs.{Sample.own, Sample.plain_row, Sample.sample, Searches.other_root, Searches.looped}
use Rattle.loc_spec_index.proofs.FileFaults.{with_source}
use Rattle.loc_laws_judge.specs.FirstFlaw.{first_flaw, room_for}

-- nothing is wrong with the sample
pub sample_has_none : first_flaw sample ≡ None
unfolding first_flaw table_in turn
sample_has_none = refl

-- the floor of corner 1 is none
pub no_floor_found : first_flaw (record sample { floors = None ∷ None ∷ None ∷ None ∷ [] }) ≡ Some (wrong_floor 1)
unfolding first_flaw table_in turn
no_floor_found = refl

-- the mark of edge 0 is even
pub even_mark_found : first_flaw (record sample { marks = set sample.marks 0 (0, record { feature = 0; odd = false }) }) ≡ Some (uneven 0 0)
unfolding first_flaw table_in turn
even_mark_found = refl

-- root 3 is 3
pub late_root_found : first_flaw (record sample { roots = 1 ∷ 1 ∷ 4 ∷ 3 ∷ [] }) ≡ Some (deep 3)
unfolding first_flaw table_in turn
late_root_found = refl

-- root 2 is 3
pub other_root_found : first_flaw other_root ≡ Some (wrong_list 2 0)
unfolding first_flaw table_in turn
other_root_found = refl

-- the left child of node 1 is node 1
pub looped_found : first_flaw looped ≡ Some (deep 0)
unfolding first_flaw table_in turn
looped_found = refl

-- neither corner 0 nor corner 1 has its own floor: the lesser is found
pub lesser_floor_found : first_flaw (record sample { floors = Some 0 ∷ None ∷ None ∷ None ∷ [] }) ≡ Some (wrong_floor 0)
unfolding first_flaw table_in turn
lesser_floor_found = refl

-- versions 1, 2 and 3 are read otherwise: the first of them is found, though a later one is too deep
pub earlier_version_found : first_flaw (record sample { roots = 1 ∷ 0 ∷ 3 ∷ 3 ∷ [] }) ≡ Some (wrong_list 1 0)
unfolding first_flaw table_in turn
earlier_version_found = refl

-- version 2 is read as edge 3 alone, which ends before position 1
pub short_list_found : first_flaw (record sample { nodes = set sample.nodes 3 (plain_row 3 0 0) }) ≡ Some (wrong_list 2 1)
unfolding first_flaw table_in turn
short_list_found = refl

-- edge 0 names list 1
pub other_cover_found : first_flaw (record sample { edges = own 0 1 1 ∷ own 0 2 1 ∷ own 1 3 0 ∷ own 2 3 1 ∷ [] }) ≡ Some (wrong_cover 0)
unfolding first_flaw table_in turn
other_cover_found = refl

-- no edge names list 2
pub spare_list_found : first_flaw (record sample { covers = [] ∷ (0 ∷ []) ∷ (0 ∷ 0 ∷ []) ∷ [] }) ≡ Some (spare_cover 2)
unfolding first_flaw table_in turn
spare_list_found = refl

-- in the second version the source of edge 0 leads to corner 2
pub other_source_found : first_flaw (with_source 2) ≡ Some (wrong_source 0)
unfolding first_flaw table_in turn
other_source_found = refl

-- the most nodes of a path for 0, 1, 2, 3 and 7 items
pub rooms : map room_for (0 ∷ 1 ∷ 2 ∷ 3 ∷ 7 ∷ []) ≡ 0 ∷ 2 ∷ 3 ∷ 4 ∷ 6 ∷ []
rooms = refl
