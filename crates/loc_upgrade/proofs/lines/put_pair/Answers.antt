use Rattle.std.proofs.{Common.ap, lemmas.Result.err_from_is_err_and}
use Rattle.loc_page.proofs.Pages.{both, put_same, stop}
use Rattle.loc_spec_text.specs.Points.{position_text}
use Rattle.loc_upgrade.proofs.Putting.{pair_is}
use Rattle.loc_upgrade.proofs.lines.put_pair.Goals as goal

pub returns-in_err-put_position : goal.returns-in_err-put_position
returns-in_err-put_position g c =
    put_same (pair_is c.args.scale c.args.table.now c.args.pair)
    (stop _ c.in_err-put_position.was (err_from_is_err_and _ c.from_residual.ensures.1).1 (put_same (ap (position_text c.args.scale) c.corner.ensures) c.put_position.ensures))

pub returns-in_err-put : goal.returns-in_err-put
returns-in_err-put g c =
    put_same (pair_is c.args.scale c.args.table.now c.args.pair)
    (both c.in_ok-put_position.was (put_same (ap (position_text c.args.scale) c.corner.ensures) c.put_position.ensures)
    (stop _ c.in_err-put.was (err_from_is_err_and _ c.from_residual-in_err-put.ensures.1).1 c.put.ensures))

pub returns : goal.returns
returns g c =
    put_same (pair_is c.args.scale c.args.table.now c.args.pair)
    (both c.in_ok-put_position.was (put_same (ap (position_text c.args.scale) c.corner.ensures) c.put_position.ensures)
    (both c.in_ok-put.was c.put.ensures (put_same (ap (position_text c.args.scale) c.corner-2.ensures) c.put_position-2.ensures)))
