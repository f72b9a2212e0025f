use Rattle.std.proofs.Common.{sym, ◌∙◌}
use Rattle.std.proofs.lemmas.Result.{err_from_is_err_and}
use Rattle.loc_page.proofs.Growing.{both, stop, put-same}
use Rattle.loc_write.proofs.Spelling.{file-text}
use Rattle.loc_write.proofs.writer.put_parts.Goals as goal

pub returns-in_err-put_head-clause-put : goal.returns-in_err-put_head-clause-put
returns-in_err-put_head-clause-put g c k is =
    put-same (file-text c.args.scale c.args.table.now c.args.legend.now k.roots k.nodes k is.parts c.requires.in_order.sources_fit (c.requires.sound.as_many_above ∙ c.requires.fits.as_many_edges) (c.nodes.ensures.count ∙ sym is.nodes.as_many))
    (stop _ c.in_err-put_head.was (err_from_is_err_and _ c.from_residual.ensures.1).1 c.put_head.ensures.put)

pub returns-in_err-put_roots-clause-put : goal.returns-in_err-put_roots-clause-put
returns-in_err-put_roots-clause-put g c k is =
    put-same (file-text c.args.scale c.args.table.now c.args.legend.now k.roots k.nodes k is.parts c.requires.in_order.sources_fit (c.requires.sound.as_many_above ∙ c.requires.fits.as_many_edges) (c.nodes.ensures.count ∙ sym is.nodes.as_many))
    (both c.in_ok-put_head.was c.put_head.ensures.put
    (stop _ c.in_err-put_roots.was (err_from_is_err_and _ c.from_residual-in_err-put_roots.ensures.1).1 (c.put_roots.ensures.put k.roots is.roots is.as_many)))

pub returns-clause-put : goal.returns-clause-put
returns-clause-put g c k is =
    put-same (file-text c.args.scale c.args.table.now c.args.legend.now k.roots k.nodes k is.parts c.requires.in_order.sources_fit (c.requires.sound.as_many_above ∙ c.requires.fits.as_many_edges) (c.nodes.ensures.count ∙ sym is.nodes.as_many))
    (both c.in_ok-put_head.was c.put_head.ensures.put
    (both c.in_ok-put_roots.was (c.put_roots.ensures.put k.roots is.roots is.as_many) (c.put_nodes.ensures.put k.nodes is.nodes)))
