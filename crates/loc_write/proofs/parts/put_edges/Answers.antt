use Rattle.std.proofs.Common.{◌∙◌, arith}
use Rattle.std.proofs.lemmas.Result.{err_from_is_err_and}
use Rattle.loc_page.proofs.Growing.{goes-more, goes-stop, goes-end}
use Rattle.loc_write.specs.{Bytes.edge_bytes, Written.edge_rows}
use Rattle.loc_write.proofs.Lists.{cut-end, length-edges, cut-edge}
use Rattle.loc_write.proofs.parts.put_edges.Goals as goal

pub returns-in_err-put-clause-put : goal.returns-in_err-put-clause-put
returns-in_err-put-clause-put g c =
    goes-stop _ _ _ _ _ c.in_err-put.was (err_from_is_err_and _ c.from_residual.ensures.1).1 (cut-edge c.args.table.now.ends c.args.table.now.sources c.args.legend.now.above c.loop-edge.edge c.ends.result c.source.result c.cover_of.result _ c.requires.sourced c.requires.as_many (omega arith) c.ends.ensures.lower c.ends.ensures.upper c.source.ensures.value c.cover_of.ensures.value (c.as_slice.ensures.value ∙ c.edge_row-row.ensures))
    c.loop-edge.invariant.goes c.put.ensures.put

pub loop-edge-preserved : goal.loop-edge-preserved
loop-edge-preserved g c = record {
  making = c.in_ok-put.ensures.making;
  goes = goes-more _ _ _ _ _ c.in_ok-put.was (cut-edge c.args.table.now.ends c.args.table.now.sources c.args.legend.now.above c.loop-edge.edge c.ends.result c.source.result c.cover_of.result _ c.requires.sourced c.requires.as_many (omega arith) c.ends.ensures.lower c.ends.ensures.upper c.source.ensures.value c.cover_of.ensures.value (c.as_slice.ensures.value ∙ c.edge_row-row.ensures)) c.loop-edge.invariant.goes c.put.ensures.put;
}

pub returns-clause-put : goal.returns-clause-put
returns-clause-put g c = goes-end _ _ _ _ c.loop-edge.invariant.making (cut-end edge_bytes (edge_rows c.args.table.now.ends c.args.table.now.sources c.args.legend.now.above) c.loop-edge.edge (let many = length-edges c.args.table.now.ends c.args.table.now.sources c.args.legend.now.above c.requires.sourced c.requires.as_many in omega (arith, many))) c.loop-edge.invariant.goes
