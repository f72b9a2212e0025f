use Rattle.loc_dissolve.proofs.Written.{closed_is}
use Rattle.std.proofs.lemmas.Result.{err_from_is_err_and}
use Rattle.loc_page.proofs.Pages.{both, put_same, stop}
use Rattle.loc_dissolve.proofs.texts.put_closed.Goals as goal

pub returns-in_err-put_corners : goal.returns-in_err-put_corners
returns-in_err-put_corners g c = put_same (closed_is c.args.scale c.args.corners.now c.in-Some.first.now c.in-Some._later.now c.in-Some.ensures.cases.0) (stop _ c.in_err-put_corners.was (err_from_is_err_and _ c.from_residual.ensures.1).1 c.put_corners.ensures)

pub returns : goal.returns
returns g c = put_same (closed_is c.args.scale c.args.corners.now c.in-Some.first.now c.in-Some._later.now c.in-Some.ensures.cases.0) (both c.in_ok-put_corners.was c.put_corners.ensures (c.put_position.ensures))
