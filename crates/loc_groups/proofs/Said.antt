-- The text of the groups that were made is that of the groups of the layer.
use Rattle.std.proofs.Common.{◌≡◌, ℕ, List, Option, ap, subst}
use Rattle.loc_spec_text.specs.Bytes.{Text}
use Rattle.loc_spec_groups.specs.{Groups.Group, Groups.dissolved, GroupTexts.dissolved_text}
use Rattle.loc_rings.specs.Values.{Feature}
use Rattle.loc_faces.specs.Subdivision.{face_at, next_at}
use Rattle.loc_dissolve.specs.Grouping.{ids_of}
use Rattle.loc_course.specs.{Courses.Stopped, Courses.writes, Following.Follows, Following.Moment, Outcomes.exactly}
use Rattle.loc_maps.specs.Located.{table_in}
use Rattle.loc_groups.specs.GroupCourses.{groups_text}

-- the text by the groups
text_is : (scale : ℕ) (layer : List Feature) (groups : List Group) → groups ≡ dissolved next_at face_at (table_in layer) (ids_of layer) → dissolved_text scale groups ≡ groups_text scale layer
unfolding groups_text
text_is scale layer groups is = ap (dissolved_text scale) is

-- what follows by the one follows by the other
pub follows_text : (scale : ℕ) (layer : List Feature) (groups : List Group) {m n : Moment} {end : Option Stopped} → groups ≡ dissolved next_at face_at (table_in layer) (ids_of layer)
    → Follows (writes (exactly (dissolved_text scale groups))) m n end → Follows (writes (exactly (groups_text scale layer))) m n end
follows_text scale layer groups {m = m} {n = n} {end = end} is follows = subst (λ (text : Text). Follows (writes (exactly text)) m n end) (text_is scale layer groups is) follows
