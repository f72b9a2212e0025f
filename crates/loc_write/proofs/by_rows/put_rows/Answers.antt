use Rattle.std.proofs.Common.{refl, ◌∙◌}
use Rattle.std.proofs.lemmas.Result.{err_from_is_err_and}
use Rattle.loc_page.proofs.Growing.{both, stop, put-same}
use Rattle.loc_write.proofs.Spelling.{file-text}
use Rattle.loc_write.proofs.by_rows.put_rows.Goals as goal

pub returns-in_err-put_head-clause-put : goal.returns-in_err-put_head-clause-put
returns-in_err-put_head-clause-put g c =
    put-same (file-text c.args.scale c.args.table.now c.args.legend.now c.args.roots.now c.args.nodes.now _ refl c.requires.in_order.sources_fit (c.requires.sound.as_many_above ∙ c.requires.fits.as_many_edges) refl)
    (stop _ c.in_err-put_head.was (err_from_is_err_and _ c.from_residual.ensures.1).1 c.put_head.ensures.put)

pub returns-in_err-put_numbers-clause-put : goal.returns-in_err-put_numbers-clause-put
returns-in_err-put_numbers-clause-put g c =
    put-same (file-text c.args.scale c.args.table.now c.args.legend.now c.args.roots.now c.args.nodes.now _ refl c.requires.in_order.sources_fit (c.requires.sound.as_many_above ∙ c.requires.fits.as_many_edges) refl)
    (both c.in_ok-put_head.was c.put_head.ensures.put
    (stop _ c.in_err-put_numbers.was (err_from_is_err_and _ c.from_residual-in_err-put_numbers.ensures.1).1 c.put_numbers.ensures.put))

pub returns-clause-put : goal.returns-clause-put
returns-clause-put g c =
    put-same (file-text c.args.scale c.args.table.now c.args.legend.now c.args.roots.now c.args.nodes.now _ refl c.requires.in_order.sources_fit (c.requires.sound.as_many_above ∙ c.requires.fits.as_many_edges) refl)
    (both c.in_ok-put_head.was c.put_head.ensures.put
    (both c.in_ok-put_numbers.was c.put_numbers.ensures.put c.put_node_rows.ensures.put))
