use Rattle.std.proofs.Common.{◌∙◌, ap, arith}
use Rattle.loc_half.specs.HalfEdgeLists.{next_in}
use Rattle.loc_faces.specs.{FaceLists.face_in, FaceTexts.face_text}
use Rattle.loc_course.specs.Following.{lacks}
use Rattle.loc_course.proofs.{Going.lacks_end, Taken.cut, Taken.done, Taken.takes_same}
use Rattle.loc_face.proofs.Written.{above_below, text_is}
use Rattle.loc_face.specs.FaceCourses.{text_above}
use Rattle.loc_face.proofs.seeking.write_above.Goals as goal

pub returns-in_err-half : goal.returns-in_err-half
returns-in_err-half g c = λ shelf k. lacks_end c.from_residual.result c.from_residual.ensures.1

pub returns-in-Err : goal.returns-in-Err
returns-in-Err g c = λ shelf k. lacks

pub returns-in-Ok-written : goal.returns-in-Ok-written
returns-in-Ok-written g c = λ shelf k. done (text_above c.args.scale c.args.plane.now.table c.args.floor) shelf k _ _ c.write_face-written.result _ c.in-Ok-written.is
    (takes_same _ _ _ _ c.write_face-written.result
    (ap (λ s. face_text s c.args.plane.now.table (next_in c.in_ok-half.half) (face_in c.in-Ok.faces) c.above-number.result) c.decimals.ensures.value
    ∙ text_is c.args.scale c.args.plane.now.table (record { in_order = c.law.ensures.in_order; apart = c.requires.apart }) c.in_ok-half.half c.in_ok-half.ensures c.in-Ok.faces c.in-Ok.ensures c.args.floor c.above-number.result c.above-number.ensures)
    (c.write_face-written.ensures.face (let below = above_below c.args.plane.now.table (next_in c.in_ok-half.half) c.in-Ok.faces c.in-Ok.ensures c.args.floor in omega (arith, below, c.above-number.ensures))))

pub returns-in-Err-written : goal.returns-in-Err-written
returns-in-Err-written g c = λ shelf k. cut (text_above c.args.scale c.args.plane.now.table c.args.floor) shelf k _ _ c.write_face-written.result _ c.in-Err-written.is
    (takes_same _ _ _ _ c.write_face-written.result
    (ap (λ s. face_text s c.args.plane.now.table (next_in c.in_ok-half.half) (face_in c.in-Ok.faces) c.above-number.result) c.decimals.ensures.value
    ∙ text_is c.args.scale c.args.plane.now.table (record { in_order = c.law.ensures.in_order; apart = c.requires.apart }) c.in_ok-half.half c.in_ok-half.ensures c.in-Ok.faces c.in-Ok.ensures c.args.floor c.above-number.result c.above-number.ensures)
    (c.write_face-written.ensures.face (let below = above_below c.args.plane.now.table (next_in c.in_ok-half.half) c.in-Ok.faces c.in-Ok.ensures c.args.floor in omega (arith, below, c.above-number.ensures))))
