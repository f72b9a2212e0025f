use Rattle.std.proofs.lemmas.Result.{err_from_is_err_and}
use Rattle.loc_page.proofs.Pages.{both, stop}
use Rattle.loc_faces.proofs.Writing.{same_value}
use Rattle.loc_faces.proofs.texts.put_position.Goals as goal

pub returns-in_err-put_value : goal.returns-in_err-put_value
returns-in_err-put_value g c = stop _ c.in_err-put_value.was (err_from_is_err_and _ c.from_residual.ensures.1).1 (same_value c.args.scale c.x.result c.args.point.x c.x.ensures.on_grid c.x.ensures.value c.put_value.ensures)

pub returns-in_err-put : goal.returns-in_err-put
returns-in_err-put g c =
    both c.in_ok-put_value.was (same_value c.args.scale c.x.result c.args.point.x c.x.ensures.on_grid c.x.ensures.value c.put_value.ensures)
    (stop _ c.in_err-put.was (err_from_is_err_and _ c.from_residual-in_err-put.ensures.1).1 c.put.ensures)

pub returns : goal.returns
returns g c =
    both c.in_ok-put_value.was (same_value c.args.scale c.x.result c.args.point.x c.x.ensures.on_grid c.x.ensures.value c.put_value.ensures)
    (both c.in_ok-put.was c.put.ensures (same_value c.args.scale c.y.result c.args.point.y c.y.ensures.on_grid c.y.ensures.value c.put_value-2.ensures))
