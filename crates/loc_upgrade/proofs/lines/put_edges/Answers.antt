use Rattle.std.proofs.Common.{◌+◌, arith}
use Rattle.std.proofs.lemmas.Result.{err_from_is_err_and}
use Rattle.loc_page.proofs.Pages.{goes_more, stop}
use Rattle.loc_upgrade.specs.EdgeTexts.{edge_line}
use Rattle.loc_upgrade.proofs.Putting.{all_left, lines_from, next_left, none_left}
use Rattle.loc_upgrade.proofs.lines.put_edges.Goals as goal

pub loop-edge-init : goal.loop-edge-init
loop-edge-init g c = all_left c.args.scale c.args.table.now _ _

pub returns-in_err-put_edge : goal.returns-in_err-put_edge
returns-in_err-put_edge g c =
    (next_left c.args.scale c.args.table.now _ _ _ _ c.loop-edge.edge (omega arith) c.loop-edge.invariant) _ _ _ (stop _ c.in_err-put_edge.was (err_from_is_err_and _ c.from_residual.ensures.1).1 c.put_edge.ensures)

pub loop-edge-preserved : goal.loop-edge-preserved
loop-edge-preserved g c =
    goes_more _ (edge_line c.args.scale c.args.table.now c.loop-edge.edge) (lines_from c.args.scale c.args.table.now (c.loop-edge.edge + 1)) _ _ c.in_ok-put_edge.was
    (next_left c.args.scale c.args.table.now _ _ _ _ c.loop-edge.edge (omega arith) c.loop-edge.invariant) c.put_edge.ensures

pub returns : goal.returns
returns g c = none_left c.args.scale c.args.table.now _ _ _ _ c.loop-edge.edge _ (omega arith) c.loop-edge.invariant
