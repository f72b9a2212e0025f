-- What the rings of a dissolved group are. The words:
--   by_feature        a feature with the id of a group covers a point
--   HasKeptOnce       the segments of its rings are its kept edges, each once
--   CoversAsMembers   its rings cover what its members cover
use Rattle.std.specs.Prelude.{◌≡◌, Bool, ◌&&◌, List, [], get_or, count_by, length}
use Rattle.std.specs.List.{list_any}
use Rattle.loc_spec_plane.specs.{Lists.numbers, Points.Point, Points.Edge, Places.IsBorderless}
use Rattle.loc_spec_plane.specs.{Rings.covers, Rings.segments, Tables.Table, Tables.edge}
use Rattle.loc_spec_text.specs.Bytes.{Text}
use Rattle.loc_spec_groups.specs.Groups.{Group, closed_rings, is_member, kept_edges}
use Rattle.loc_rings.specs.Values.{Feature}
use Rattle.loc_edges.specs.Layers.{layer_rings}
use Rattle.loc_dissolve.specs.Grouping.{ids_of}

-- as many segments of the group's rings pass any test as kept edges do: each kept edge stands once there, and no other segment does
abbrev pub HasKeptOnce : Table → List Text → Group → Type 0
HasKeptOnce t ids group = (test : Edge → Bool) → count_by test (segments (closed_rings group.polygons)) ≡ count_by (λ e. test (edge t e)) (kept_edges t (is_member ids group.id))

-- a feature with the group's id covers the point
abbrev pub by_feature : List Feature → Text → Point → Bool
by_feature layer id p = list_any (λ f. is_member (ids_of layer) id f && covers (get_or (layer_rings layer) f []) p) (numbers (length layer))

-- the group's rings cover a point on no edge exactly where a feature with its id does
abbrev pub CoversAsMembers : Table → List Feature → Group → Type 0
CoversAsMembers t layer group = (p : Point) → IsBorderless t p → covers (closed_rings group.polygons) p ≡ by_feature layer group.id p
