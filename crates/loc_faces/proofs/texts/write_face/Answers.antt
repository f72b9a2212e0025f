use Rattle.std.proofs.Common.{arith}
use Rattle.loc_faces.proofs.texts.write_face.Goals as goal

pub write_text-requires-clause-in_range : goal.write_text-requires-clause-in_range
write_text-requires-clause-in_range g c = omega (arith, c.count.ensures, c.if-number-count.false)

pub returns-in-Ok-clause-no_face : goal.returns-in-Ok-clause-no_face
returns-in-Ok-clause-no_face g c = λ past. absurd (omega (arith, past, c.requires.faces.count, c.count.ensures, c.if-number-count.false))

pub returns-in-Ok-clause-nothing : goal.returns-in-Ok-clause-nothing
returns-in-Ok-clause-nothing g c = λ past. absurd (omega (arith, past, c.requires.faces.count, c.count.ensures, c.if-number-count.false))

pub returns-in-Err-clause-no_face : goal.returns-in-Err-clause-no_face
returns-in-Err-clause-no_face g c = λ past. absurd (omega (arith, past, c.requires.faces.count, c.count.ensures, c.if-number-count.false))

pub returns-in-Err-clause-nothing : goal.returns-in-Err-clause-nothing
returns-in-Err-clause-nothing g c = λ past. absurd (omega (arith, past, c.requires.faces.count, c.count.ensures, c.if-number-count.false))
