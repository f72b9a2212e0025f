use Rattle.std.proofs.Common.{◌∙◌, arith}
use Rattle.std.proofs.lemmas.Result.{err_from_is_err_and}
use Rattle.loc_page.proofs.Growing.{goes-more, goes-stop, goes-end}
use Rattle.loc_write.specs.Bytes.{number_bytes}
use Rattle.loc_write.proofs.Lists.{cut-at, cut-end}
use Rattle.loc_write.proofs.parts.put_numbers.Goals as goal

pub returns-in_err-put-clause-put : goal.returns-in_err-put-clause-put
returns-in_err-put-clause-put g c =
    goes-stop _ _ _ _ _ c.in_err-put.was (err_from_is_err_and _ c.from_residual.ensures.1).1 (cut-at number_bytes c.args.list.now c.loop-number.number-index _ _ (omega arith) (c.as_slice.ensures.value ∙ c.number_row-row.ensures))
    c.loop-number.invariant.goes c.put.ensures.put

pub loop-number-preserved : goal.loop-number-preserved
loop-number-preserved g c = record {
  making = c.in_ok-put.ensures.making;
  goes = goes-more _ _ _ _ _ c.in_ok-put.was (cut-at number_bytes c.args.list.now c.loop-number.number-index _ _ (omega arith) (c.as_slice.ensures.value ∙ c.number_row-row.ensures)) c.loop-number.invariant.goes c.put.ensures.put;
}

pub returns-clause-put : goal.returns-clause-put
returns-clause-put g c = goes-end _ _ _ _ c.loop-number.invariant.making (cut-end number_bytes c.args.list.now c.loop-number.number-index (omega arith)) c.loop-number.invariant.goes
