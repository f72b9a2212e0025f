-- How many steps a search in a held file takes at most. The words:
--   depth_from   how many nodes the paths from a node have at most, with room for so many
--   is_level     in each version two to the nodes of the longest path, of which 42 count at most, is within the bound of all edges
--   most_of      the tree's bound where the file is level, else all corners and 42 nodes
use Rattle.std.specs.Prelude.{ℕ, zero, suc, ◌+◌, ◌^◌, max, Bool, List, length, if◌then◌else◌, nat_le}
use Rattle.std.specs.List.{list_all}
use Rattle.loc_spec_plane.specs.{Lists.numbers, Tables.Table}
use Rattle.loc_spec_index.specs.{declared.NodeRow.NodeRow, Nodes.Left, Nodes.Right, Nodes.child_of}
use Rattle.loc_spec_index.specs.Content.{Content, root_of}
use Rattle.loc_place.specs.Steps.{version_bound, most_steps}

-- the nodes of the longest path from node n in a version, or the room where it is longer
unfoldable pub depth_from : List NodeRow → ℕ → ℕ → ℕ → ℕ
depth_from rows version zero n = 0
depth_from rows version (suc room) zero = 0
depth_from rows version (suc room) (suc n) = suc (max (depth_from rows version room (child_of rows version (suc n) Left)) (depth_from rows version room (child_of rows version (suc n) Right)))

-- in each version two to the nodes of the longest path, of which 42 count at most, is within the bound of all edges
unfoldable pub is_level : Content → Bool
is_level c = list_all (λ i. nat_le (2 ^ depth_from c.nodes i 42 (root_of c i)) (version_bound (length c.edges))) (numbers (length c.corners))

-- the tree's bound where the file is level, as a true index is, else all corners and 42 nodes
abbrev pub most_of : Content → Table → ℕ
most_of c t = if is_level c then most_steps t else length t.corners + 42
