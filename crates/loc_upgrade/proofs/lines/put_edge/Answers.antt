use Rattle.std.proofs.lemmas.Result.{err_from_is_err_and}
use Rattle.loc_page.proofs.Pages.{both, put_same, stop}
use Rattle.loc_upgrade.proofs.Putting.{line_is}
use Rattle.loc_upgrade.proofs.lines.put_edge.Goals as goal

pub returns-in_err-put : goal.returns-in_err-put
returns-in_err-put g c = put_same (line_is c.args.scale c.args.table.now c.args.edge) (stop _ c.in_err-put.was (err_from_is_err_and _ c.from_residual.ensures.1).1 c.put.ensures)

pub returns-in_err-put_number : goal.returns-in_err-put_number
returns-in_err-put_number g c =
    put_same (line_is c.args.scale c.args.table.now c.args.edge) (both c.in_ok-put.was c.put.ensures (stop _ c.in_err-put_number.was (err_from_is_err_and _ c.from_residual-in_err-put_number.ensures.1).1 c.put_number.ensures))

pub returns-in_err-put-2 : goal.returns-in_err-put-2
returns-in_err-put-2 g c =
    put_same (line_is c.args.scale c.args.table.now c.args.edge)
    (both c.in_ok-put.was c.put.ensures (both c.in_ok-put_number.was c.put_number.ensures (stop _ c.in_err-put-2.was (err_from_is_err_and _ c.from_residual-in_err-put-2.ensures.1).1 c.put-2.ensures)))

pub returns : goal.returns
returns g c =
    put_same (line_is c.args.scale c.args.table.now c.args.edge)
    (both c.in_ok-put.was c.put.ensures (both c.in_ok-put_number.was c.put_number.ensures (both c.in_ok-put-2.was c.put-2.ensures c.put_source.ensures)))
