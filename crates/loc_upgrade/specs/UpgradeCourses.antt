-- The courses of commands on an index file of either version. The words:
--   upgrade_course  an index file is read, and the file of its content in the second version is made
--   edges_course    an index file is read, and the lines of its edges are written
use Rattle.loc_spec_text.specs.Bytes.{Text}
use Rattle.loc_spec_index.specs.IndexFile.{bytes_of}
use Rattle.loc_course.specs.{Courses.Course, Courses.makes, Courses.writes, Outcomes.exactly}
use Rattle.loc_indexed.specs.IndexedCourses.{index_course}
use Rattle.loc_upgrade.specs.EdgeTexts.{edges_text}

-- an index file is read, and the file of its content in the second version is made
abbrev pub upgrade_course : Text → Text → Course
upgrade_course old new = index_course old (λ c. makes new (exactly (bytes_of 2 c)))

-- an index file is read, and the lines of its edges are written
abbrev pub edges_course : Text → Course
edges_course index = index_course index (λ c. writes (exactly (edges_text c)))
