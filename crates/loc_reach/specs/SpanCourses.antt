-- The course of the edges on spans. The words:
--   seek_bound, span_steps, line_steps, text_steps  the most steps of a span, of a line, and of the lines of a text
--   line_answer, met_output                         the answer to a line, and the answers to the lines of a text
--   answered_course, spans_course, stab_course      a text's lines are answered, a file of spans is read, and both behind a layer
use Rattle.std.specs.Prelude.{ℕ, ◌+◌, ◌*◌, codes, length}
use Rattle.std.specs.{List.sum_by, Option.option_map_or}
use Rattle.loc_spec_plane.specs.{Points.Point, Spans.met_at, Tables.Table}
use Rattle.loc_spec_text.specs.{Bytes.Text, Bytes.lines, Points.ended}
use Rattle.loc_spec_text.specs.{Spans.span_answer, Spans.span_of, Spans.span_output, Limits.most_text}
use Rattle.loc_place.specs.Steps.{alive_count, greatest_power, search_bound}
use Rattle.loc_stab.specs.Runs.{run_at}
use Rattle.loc_course.specs.Courses.{Course, reads, searches, writes}
use Rattle.loc_course.specs.{Outcomes.exactly, Stops.source}
use Rattle.loc_maps.specs.Located.{edges_of, table_in}
use Rattle.loc_maps.specs.MapCourses.{LayerFile, apart_course, layer_course}

-- two to the number of steps of the searches for a span is at most this: two among the corners, and one down the version of its low point
abbrev pub seek_bound : Table → Point → ℕ
seek_bound t low = (2 * length t.corners + 1) * search_bound (length t.corners) (alive_count t low)

-- the most steps of a span: the greatest number of which the power of two is at most the bound, one for each edge that is met and alive at the low
-- point, and one more
abbrev pub span_steps : Table → Point × Point → ℕ
span_steps t span = greatest_power (seek_bound t span.0) (seek_bound t span.0) + length (run_at t span.0 span.1) + 1

-- the most steps of a line at a scale: none where it reads as no span
abbrev pub line_steps : ℕ → Table → Text → ℕ
line_steps scale t line = option_map_or (span_steps t) (span_of scale line) 0

-- the most steps of the lines of a text together
unfoldable pub text_steps : ℕ → Table → Text → ℕ
text_steps scale t text = sum_by (line_steps scale t) (lines text)

-- the answer to a line at a scale
abbrev pub line_answer : ℕ → Table → Text → Text
line_answer scale t line = span_answer (span_of scale) (λ span. met_at t span.0 span.1) line

-- the answers to all lines of a text at a scale
unfoldable pub met_output : ℕ → Table → Text → Text
met_output scale t text = span_output (span_of scale) (λ span. met_at t span.0 span.1) text

-- the spans of a text are sought, and the answers to its lines are written
abbrev pub answered_course : ℕ → Table → Text → Course
answered_course scale t text = searches (text_steps scale t text) (writes (exactly (met_output scale t text)))

-- a file of spans is read whole, and its lines are answered
abbrev pub spans_course : ℕ → Table → Text → Course
spans_course scale t spans = reads (source spans most_text (ended (codes "spans: too long"))) (answered_course scale t)

-- a layer, of which no two edges conflict, and then a file of spans
abbrev pub stab_course : LayerFile → Text → Course
stab_course file spans = layer_course file (λ layer. apart_course file.scale (edges_of layer) (spans_course file.scale (table_in layer) spans))
