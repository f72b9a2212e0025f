use Rattle.std.proofs.Common.{◌∙◌}
use Rattle.std.proofs.lemmas.Result.{err_from_is_err_and}
use Rattle.loc_page.proofs.Growing.{both, stop, put-same}
use Rattle.loc_write.proofs.Covers.{cover-text}
use Rattle.loc_write.proofs.parts.put_cover.Goals as goal

pub returns-in_err-put-clause-put : goal.returns-in_err-put-clause-put
returns-in_err-put-clause-put g c =
    put-same (cover-text c.args.list.now) (stop _ c.in_err-put.was (err_from_is_err_and _ c.from_residual.ensures.1).1 (put-same (c.as_slice.ensures.value ∙ c.number_row-row.ensures) c.put.ensures.put))

pub returns-clause-put : goal.returns-clause-put
returns-clause-put g c =
    put-same (cover-text c.args.list.now) (both c.in_ok-put.was (put-same (c.as_slice.ensures.value ∙ c.number_row-row.ensures) c.put.ensures.put) c.put_numbers.ensures.put)
