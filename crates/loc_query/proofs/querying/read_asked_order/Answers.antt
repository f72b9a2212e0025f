use Rattle.std.proofs.lemmas.Result.{err_from_is_err_and}
use Rattle.loc_maps.proofs.Judged.{on_few_pieces}
use Rattle.loc_query.proofs.querying.read_asked_order.Goals as goal

pub returns-in_err-table-in-File-clause-goes_on : goal.returns-in_err-table-in-File-clause-goes_on
returns-in_err-table-in-File-clause-goes_on g c next o k =
    let p = err_from_is_err_and c.from_residual.result c.from_residual.ensures.1 in
    rw (p.1, p.2) (c.in_err-table-in-File.ensures.goes_on _ _)

pub returns-in-Err-clause-goes_on : goal.returns-in-Err-clause-goes_on
returns-in-Err-clause-goes_on g c next o k = c.in_ok-table-in-File.ensures.goes_on _ _ _ _ (rw (c.edge_count.ensures.value, c.in_ok-table-in-File.ensures.table.table) at (c.in-Err.ensures.goes_on (λ _. next) o k))

pub returns-in-Ok-clause-goes_on : goal.returns-in-Ok-clause-goes_on
returns-in-Ok-clause-goes_on g c next o k last end follows =
    let given = rw (c.edge_count.ensures.value, c.in_ok-table-in-File.ensures.table.table) at (c.in-Ok.ensures.goes_on (λ _. next) o k last end) in
    c.in_ok-table-in-File.ensures.goes_on _ _ last end (given (rw (on_few_pieces c.args.layer.now next c.in_ok-table-in-File.ensures.table.few_pieces) at follows))
