use Rattle.std.proofs.{Common.refl, Common.arith, lemmas.Result.err_from_is_err_and}
use Rattle.loc_page.proofs.Growing.{goes-more, goes-stop, goes-end}
use Rattle.loc_write.specs.Bytes.{cover_bytes}
use Rattle.loc_write.proofs.Lists.{cut-row, cut-end}
use Rattle.loc_write.proofs.parts.put_covers.Goals as goal

pub returns-in_err-put_cover-clause-put : goal.returns-in_err-put_cover-clause-put
returns-in_err-put_cover-clause-put g c =
    goes-stop _ _ _ _ _ c.in_err-put_cover.was (err_from_is_err_and _ c.from_residual.ensures.1).1 (cut-row cover_bytes c.args.legend.now.lists c.loop-list.list c.cover.result.now _ (omega arith) c.cover.ensures refl)
    c.loop-list.invariant.goes c.put_cover.ensures.put

pub loop-list-preserved : goal.loop-list-preserved
loop-list-preserved g c = record {
  making = c.in_ok-put_cover.ensures.making;
  goes = goes-more _ _ _ _ _ c.in_ok-put_cover.was (cut-row cover_bytes c.args.legend.now.lists c.loop-list.list c.cover.result.now _ (omega arith) c.cover.ensures refl) c.loop-list.invariant.goes c.put_cover.ensures.put;
}

pub returns-clause-put : goal.returns-clause-put
returns-clause-put g c = goes-end _ _ _ _ c.loop-list.invariant.making (cut-end cover_bytes c.args.legend.now.lists c.loop-list.list (omega arith)) c.loop-list.invariant.goes
