use Rattle.loc_face.proofs.Plainly.{face_plain}
use Rattle.loc_face.proofs.laws.face_law.Goals as goal

pub returns : goal.returns
returns c = record { plain = face_plain }
