-- The course of the features at points. The words:
--   features_steps   the most steps of a line
--   features_points  the lines of a points text are answered
--   features_course  a layer and then the points
use Rattle.std.specs.Prelude.{ℕ, ◌+◌, List, Ok, codes, length}
use Rattle.loc_spec_plane.specs.Tables.{layer_segments}
use Rattle.loc_spec_text.specs.{Bytes.Text, Points.ended, Limits.most_text}
use Rattle.loc_rings.specs.Values.{Feature}
use Rattle.loc_edges.specs.Layers.{layer_rings}
use Rattle.loc_batch.specs.PointLines.{is_point_line}
use Rattle.loc_course.specs.{Courses.Course, Courses.answers, Stops.source}
use Rattle.loc_maps.specs.MapCourses.{LayerFile, read_course}
use Rattle.loc_features.specs.Features.{features_line}

-- the most steps of a line: 1,008, and one for each segment of the layer
abbrev pub features_steps : List Feature → ℕ
features_steps layer = 1008 + length (layer_segments (layer_rings layer))

-- the points' file is read in pieces, its lines are answered in a layer, and those that read as points are sought
abbrev pub features_points : ℕ → Text → List Feature → Course
features_points scale points layer = answers (source points most_text (ended (codes "points: too long"))) (is_point_line scale) (features_steps layer) (λ line. Ok (features_line scale layer line))

-- The layer's file is read whole and then the points, and the lines are answered. No layer that reads is refused.
abbrev pub features_course : LayerFile → Text → Course
features_course file points = read_course file (features_points file.scale points)
