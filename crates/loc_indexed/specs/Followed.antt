-- How the making of an index file goes along its course. The words:
--   AreShort      the ids of a layer are short, and of bytes
--   IsLaidOut     a table and a legend are those of a layer
--   MakesIndex    the index file of a layer was made, or a write failed
--   FollowsTruly  a command followed a course in which index files alone pass
use Rattle.std.specs.Prelude.{ℕ, ◌≤◌, All, Bool, List, length, Option, IsTrue}
use Rattle.loc_spec_text.specs.{Bytes.Text, Limits.most_id_bytes}
use Rattle.loc_io.specs.{Meaning.Meaning, Streams.Stream}
use Rattle.loc_spec_plane.specs.Tables.{Table}
use Rattle.loc_laws_index.specs.IndexReading.{AreBytes}
use Rattle.loc_rings.specs.{Layers.IsLayer, Values.Feature}
use Rattle.loc_cover.specs.Legends.{LegendRows}
use Rattle.loc_course.specs.{Courses.Stopped, Following.Follows, Following.MakesFile, Following.moment}
use Rattle.loc_maps.specs.{MapCourses.LayerFile, Maps.IsMapOf}
use Rattle.loc_indexed.specs.{Building.made_course, Builds.IsIndexFileOf}

-- the layer is within its limits, and each id is a short one
pub record AreShort (layer : List Feature) : Type 0 where
  pub within : IsLayer layer
  pub short : All (λ (f : Feature). length f.id ≤ most_id_bytes) layer
  pub bytes : All (λ (f : Feature). AreBytes f.id) layer

-- the table and the legend are those of a layer with such ids
pub record IsLaidOut (layer : List Feature) (t : Table) (rows : LegendRows) : Type 0 where
  pub ids : AreShort layer
  pub map : IsMapOf layer t rows

-- a text that is an index file of the layer was made, or a write failed
pub record MakesIndex (scale : ℕ) (layer : List Feature) (index : Text) (old new : Meaning) (end : Option Stopped) : Type 0 where
  pub text : Text
  pub is : IsIndexFileOf scale layer text
  pub makes : MakesFile index text old new end

-- a course was followed in which a test stands that index files of the layer alone pass
pub record FollowsTruly (file : LayerFile) (index : Text) (old new : Meaning) (end : Option Stopped) : Type 0 where
  pub passes : List Feature → Text → Bool
  pub truly : (layer : List Feature) (made : Text) → IsTrue (passes layer made) → IsIndexFileOf file.scale layer made
  pub follows : (o : Stream) (k : ℕ) → Follows (made_course passes file index) (moment old o k) (moment new o k) end
