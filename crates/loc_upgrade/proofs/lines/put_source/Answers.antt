use Rattle.std.proofs.{lemmas.Result.err_from_is_err_and}
use Rattle.loc_page.proofs.Pages.{both, put_same, stop}
use Rattle.loc_upgrade.proofs.Putting.{ends_are, source_is}
use Rattle.loc_upgrade.proofs.lines.put_source.Goals as goal

pub returns-in_err-put_pair : goal.returns-in_err-put_pair
returns-in_err-put_pair g c = stop _ c.in_err-put_pair.was (err_from_is_err_and _ c.from_residual.ensures.1).1 (put_same (ends_are c.args.scale c.args.table.now c.args.edge c.ends.result c.ends.ensures.lower c.ends.ensures.upper) c.put_pair.ensures)

pub returns-in_err-put : goal.returns-in_err-put
returns-in_err-put g c =
    both c.in_ok-put_pair.was (put_same (ends_are c.args.scale c.args.table.now c.args.edge c.ends.result c.ends.ensures.lower c.ends.ensures.upper) c.put_pair.ensures)
    (stop _ c.in_err-put.was (err_from_is_err_and _ c.from_residual-in_err-put.ensures.1).1 c.put.ensures)

pub returns-in_err-put_pair-2 : goal.returns-in_err-put_pair-2
returns-in_err-put_pair-2 g c =
    both c.in_ok-put_pair.was (put_same (ends_are c.args.scale c.args.table.now c.args.edge c.ends.result c.ends.ensures.lower c.ends.ensures.upper) c.put_pair.ensures)
    (both c.in_ok-put.was c.put.ensures
    (stop _ c.in_err-put_pair-2.was (err_from_is_err_and _ c.from_residual-in_err-put_pair-2.ensures.1).1 (put_same (source_is c.args.scale c.args.table.now c.args.edge c.source.result c.source.ensures.value) c.put_pair-2.ensures)))

pub returns : goal.returns
returns g c =
    both c.in_ok-put_pair.was (put_same (ends_are c.args.scale c.args.table.now c.args.edge c.ends.result c.ends.ensures.lower c.ends.ensures.upper) c.put_pair.ensures)
    (both c.in_ok-put.was c.put.ensures
    (both c.in_ok-put_pair-2.was (put_same (source_is c.args.scale c.args.table.now c.args.edge c.source.result c.source.ensures.value) c.put_pair-2.ensures) c.put-2.ensures))
