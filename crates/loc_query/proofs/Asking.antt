-- A query follows its course where its parts do: the layer, the order of its edges, and what is asked of an index.
use Rattle.std.proofs.Common.{◌≡◌, List, Bool, Option, length, subst}
use Rattle.loc_spec_text.specs.Bytes.{Text}
use Rattle.loc_spec_asked.specs.{declared.Index.Index, Orders.AskedOrder}
use Rattle.loc_rings.specs.Values.{Feature}
use Rattle.loc_course.specs.{Courses.Course, Courses.Stopped, Following.Follows, Following.Moment}
use Rattle.loc_maps.specs.Located.{table_in}
use Rattle.loc_maps.specs.MapCourses.{LayerFile, accepted_course, layer_course, pieces_course}
use Rattle.loc_orders.specs.OrderCourses.{asked_course}
use Rattle.loc_query.specs.QueryCourses.{asked_layer, points_course, query_course}

-- a course behind a layer that was read
abbrev pub BehindLayer : LayerFile → List Feature → Moment → Moment → Type 0
BehindLayer file layer old mid = (next : List Feature → Course) (last : Moment) (end : Option Stopped) → Follows (pieces_course layer (next layer)) mid last end → Follows (layer_course file next) old last end

-- a course behind the order of its edges
abbrev pub BehindOrder : AskedOrder → List Feature → Moment → Moment → Type 0
BehindOrder order layer mid new =
    (next : Course) (last : Moment) (end : Option Stopped) → Follows (pieces_course layer next) new last end → Follows (pieces_course layer (asked_course order (length (table_in layer).ends) (λ _. next))) mid last end

-- so a query, by the index that was chosen
pub behind_order : (asked index : Index) (order : AskedOrder) (faces : Bool) (file : LayerFile) (points : Text) (layer : List Feature) (old mid new last : Moment) (end : Option Stopped)
    → index ≡ asked → BehindLayer file layer old mid → BehindOrder order layer mid new
    → Follows (pieces_course layer (accepted_course file.scale layer (points_course index faces file.scale points layer))) new last end
    → Follows (query_course asked order faces file points) old last end
behind_order asked index order faces file points layer old mid new last end is behind on follows =
    subst (λ (i : Index). Follows (query_course i order faces file points) old last end) is
    (behind (λ l. asked_layer index order faces file.scale points l) last end (on (accepted_course file.scale layer (points_course index faces file.scale points layer)) last end follows))
