-- The courses of the commands on generated layers. The words: `past_text`, `sized_course`, `gen_course`, `counted_course`,
-- `tried_course`, `trial_course`.
use Rattle.std.specs.Prelude.{ℕ, ◌*◌, List, ◌++◌, Option, codes, length, map, nat_lt, if◌then◌else◌}
use Rattle.std.specs.Fmt.{decimal}
use Rattle.loc_spec_text.specs.{Bytes.Text, Answered.answered, Points.ended}
use Rattle.loc_spec_asked.specs.declared.Index.{Index}
use Rattle.loc_spec_plane.specs.{Lists.numbers, Tables.Table}
use Rattle.loc_rings.specs.Values.{Feature}
use Rattle.loc_batch.specs.{Batches.Answering, Batches.no_tally, Streams.tally_of}
use Rattle.loc_gen.specs.{declared.kinds.Kind.Kind, Layers.layer_text, Layers.limit_of}
use Rattle.loc_course.specs.Courses.{Course, refuses, searches, writes}
use Rattle.loc_course.specs.Outcomes.{exactly}
use Rattle.loc_maps.specs.{Located.table_in, MapCourses.accepted_course, MapCourses.pieces_course}
use Rattle.loc_query.specs.QueryCourses.{steps_by}
use Rattle.loc_trial.specs.Generated.{generated, point_line}
use Rattle.loc_trial.specs.Trials.{is_trial_line, nodes_text, sizes_text, tally_text}

-- a size is past a limit
abbrev pub past_text : ℕ → ℕ → Text
past_text n limit = codes "gen: " ++ decimal n ++ codes " past " ++ decimal limit

-- a size above the limit of its kind is refused
abbrev pub sized_course : Kind → ℕ → Course → Course
sized_course kind n next = if nat_lt (limit_of kind) n then refuses (exactly (ended (past_text n (limit_of kind)))) else next

-- the layer's text is written
abbrev pub gen_course : Kind → ℕ → ℕ → Course
gen_course kind n shift = sized_course kind n (writes (exactly (layer_text kind n shift)))

-- the points are searched by at most so many steps each, and the counts of what is answered to their lines are written, with a number of nodes where it is told
abbrev pub counted_course : ℕ → Answering → Kind → ℕ → ℕ → Table → Option ℕ → Course
counted_course most answer kind n shift t nodes = searches (n * most) (writes (exactly (ended (sizes_text kind n shift (length t.corners) (length t.ends)
    ++ tally_text (tally_of no_tally (answered answer (map (point_line n shift) (numbers n))).answers) ++ nodes_text nodes))))

-- the points are searched, and their counts are written
abbrev pub tried_course : Index → Kind → ℕ → ℕ → List Feature → Course
tried_course index kind n shift layer = searches (n * steps_by index (table_in layer)) (writes (is_trial_line index kind n shift layer))

-- a trial: the points behind the generated layer, which is judged as a layer that was read
abbrev pub trial_course : Index → Kind → ℕ → ℕ → Course
trial_course index kind n shift = sized_course kind n (pieces_course (generated kind n shift) (accepted_course 0 (generated kind n shift) (tried_course index kind n shift (generated kind n shift))))
