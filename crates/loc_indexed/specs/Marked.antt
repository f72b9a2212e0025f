-- What is answered by the marks of an index alone, without its nodes, its floors and its cover lists. The words: `marked`, `marked_line`, `marked_course`.
use Rattle.std.specs.Prelude.{ℕ, List, Ok, codes}
use Rattle.loc_spec_text.specs.{Bytes.Text, Limits.most_text}
use Rattle.loc_spec_plane.specs.Points.{Point}
use Rattle.loc_spec_text.specs.Points.{Answer, answer_text, answer_to, ended, point_of}
use Rattle.loc_spec_index.specs.Content.{Content, table_in}
use Rattle.loc_place.specs.Steps.{most_steps}
use Rattle.loc_batch.specs.{Faces.unnumbered, Marked.answer_marked, PointLines.is_point_line}
use Rattle.loc_course.specs.{Courses.Course, Courses.answers, Stops.source}

-- what is answered to a point: its place in the table, and the features that touch and cover it by the marks
unfoldable pub marked : Content → Point → Answer
marked c p = answer_marked unnumbered c.ids (table_in c) p

-- the answer to a line at the scale of the content, with its LF
abbrev pub marked_line : Content → List ℕ → List ℕ
marked_line c line = ended (answer_text (answer_to (point_of c.scale) (marked c) line))

-- the lines of the points' file are answered by the marks, each that reads as a point by as many steps as in a tree
abbrev pub marked_course : Text → Content → Course
marked_course points c = answers (source points most_text (ended (codes "points: too long"))) (is_point_line c.scale) (most_steps (table_in c)) (λ line. Ok (marked_line c line))
