-- The course of the judgement of a layer's features writes at once and makes no file.
use Rattle.std.proofs.Common.{ℕ, Option, Some, None, Ok, Err}
use Rattle.loc_spec_text.specs.{Bytes.Text, Points.ended, declared.Form.Form}
use Rattle.loc_csvform.specs.Layer.{LayerRead, layer_of}
use Rattle.loc_course.specs.{Courses.Course, Courses.writes, Outcomes.exactly, Sentences.IsPlain}
use Rattle.loc_course.proofs.Plain.{plain_reads, plain_refuses, plain_writes}
use Rattle.loc_maps.specs.{LineTexts.layer_fault_text, MapCourses.LayerFile, MapCourses.read_in}
use Rattle.loc_breaches.specs.BreachCourses.{are_lines, first_refusal, judged_course, refused_or, valid_course}

refused_plain : (refusal : Option Text) (next : Course) → IsPlain next → IsPlain (refused_or refusal next)
refused_plain None next plain = plain
refused_plain (Some line) next plain = plain_refuses (exactly (ended line))

read_plain : (form : Form) (read : LayerRead) (scale : ℕ) → IsPlain (read_in form read (judged_course scale))
read_plain form (Ok layer) scale = refused_plain (first_refusal layer) (writes (are_lines scale layer)) (plain_writes (are_lines scale layer))
read_plain form (Err fault) scale = plain_refuses (exactly (ended (layer_fault_text form fault)))

pub valid_plain : (file : LayerFile) → IsPlain (valid_course file)
valid_plain file = plain_reads _ _ (λ text. read_plain file.form (layer_of file.form file.scale text) file.scale)
