use Rattle.std.proofs.lemmas.Result.{err_from_is_err_and}
use Rattle.loc_face.proofs.seeking.face.Goals as goal

pub returns-in_err-plane : goal.returns-in_err-plane
returns-in_err-plane g c =
    let p = err_from_is_err_and c.from_residual-in_err-plane.result c.from_residual-in_err-plane.ensures.1 in
    rw (p.1, p.2) (c.in_ok-layer.ensures _ _ _ _ _ (c.in_err-plane.ensures.goes_on _ _))

pub returns : goal.returns
returns g c =
    let written = c.write_for-outcome.ensures (g.F.Shelf.meaning c.read_layer_file.new.shelf) in
    c.in_ok-layer.ensures _ _ _ _ _ (c.in_ok-plane.ensures.goes_on _ _ _ _ (rw (c.in_ok-plane.ensures.map.table, c.as_bytes.ensures.value) at written))
