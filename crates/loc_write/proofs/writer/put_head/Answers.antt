use Rattle.std.proofs.Common.{◌∙◌}
use Rattle.std.proofs.lemmas.Result.{err_from_is_err_and}
use Rattle.loc_page.proofs.Growing.{both, stop, put-same}
use Rattle.loc_write.proofs.Spelling.{header-text}
use Rattle.loc_write.proofs.writer.put_head.Goals as goal

pub returns-in_err-put-clause-put : goal.returns-in_err-put-clause-put
returns-in_err-put-clause-put g c =
    put-same (header-text c.args.scale c.args.table.now c.args.legend.now c.args.nodes c.features.ensures c.corner_count.ensures.value c.edge_count.ensures.value c.count_marks.ensures c.covers.ensures)
    (stop _ c.in_err-put.was (err_from_is_err_and _ c.from_residual.ensures.1).1 (put-same (c.as_slice.ensures.value ∙ c.header_row-header.ensures) c.put.ensures.put))

pub returns-in_err-put_front-clause-put : goal.returns-in_err-put_front-clause-put
returns-in_err-put_front-clause-put g c =
    put-same (header-text c.args.scale c.args.table.now c.args.legend.now c.args.nodes c.features.ensures c.corner_count.ensures.value c.edge_count.ensures.value c.count_marks.ensures c.covers.ensures)
    (both c.in_ok-put.was (put-same (c.as_slice.ensures.value ∙ c.header_row-header.ensures) c.put.ensures.put)
    (stop _ c.in_err-put_front.was (err_from_is_err_and _ c.from_residual-in_err-put_front.ensures.1).1 c.put_front.ensures.put))

pub returns-clause-put : goal.returns-clause-put
returns-clause-put g c =
    put-same (header-text c.args.scale c.args.table.now c.args.legend.now c.args.nodes c.features.ensures c.corner_count.ensures.value c.edge_count.ensures.value c.count_marks.ensures c.covers.ensures)
    (both c.in_ok-put.was (put-same (c.as_slice.ensures.value ∙ c.header_row-header.ensures) c.put.ensures.put)
    (both c.in_ok-put_front.was c.put_front.ensures.put c.put_lists.ensures.put))
