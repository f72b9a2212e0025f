use Rattle.std.proofs.Common.{◌*◌, ◌<◌, length, sym, ◌∙◌, ap, subst}
use Rattle.std.specs.Prelude.{IfSome}
use Rattle.std.proofs.lemmas.List.{get_or_read}
use Rattle.loc_faces.specs.FaceLists.{FaceLists, face_in}
use Rattle.loc_faces.proofs.faces.Faces.above.Goals as goal

pub returns-in-Some : goal.returns-in-Some
returns-in-Some c =
    let fits : 2 * c.in-Some.edge < length c.self.inside.of_half.items = subst (λ (faces : FaceLists). 2 * c.in-Some.edge < length faces.of_half) (sym c.self.view_is) (subst (λ floor. IfSome floor (λ e. 2 * e < length c.args.self.now.of_half)) c.in-Some.is c.requires) in
    rw c.in-Some.is (get_or_read c.self.inside.of_half.items (2 * c.in-Some.edge) c.index.result.now fits c.index.ensures 0 ∙ ap (λ (faces : FaceLists). face_in faces (2 * c.in-Some.edge)) c.self.view_is)
