use Rattle.std.proofs.lemmas.Result.{err_from_is_err_and}
use Rattle.loc_page.proofs.Pages.{both, stop}
use Rattle.loc_dissolve.proofs.texts.put_corner.Goals as goal

pub returns-in_err-put_position : goal.returns-in_err-put_position
returns-in_err-put_position g c = stop _ c.in_err-put_position.was (err_from_is_err_and _ c.from_residual.ensures.1).1 c.put_position.ensures

pub returns : goal.returns
returns g c = both c.in_ok-put_position.was c.put_position.ensures (c.put.ensures)
