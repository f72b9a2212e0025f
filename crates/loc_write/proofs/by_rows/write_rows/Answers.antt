use Rattle.std.proofs.lemmas.Result.{err_from_is_err_and}
use Rattle.loc_page.proofs.{Files.broken, Files.not-over, Growing.page-cut, Growing.page-whole}
use Rattle.loc_write.proofs.by_rows.write_rows.Goals as goal

pub returns-in_err-flush : goal.returns-in_err-flush
returns-in_err-flush g c =
    broken (err_from_is_err_and _ c.from_residual-in_err-flush.ensures.1).1 c.in_ok-create.ensures (page-cut c.in_ok-put_rows.was c.in_err-flush.was c.new-page.ensures c.put_rows.ensures.put c.flush.ensures.put)

pub returns-in_err-finish : goal.returns-in_err-finish
returns-in_err-finish g c =
    not-over (err_from_is_err_and _ c.from_residual-in_err-finish.ensures.1).1 c.in_ok-create.ensures (page-whole c.in_ok-put_rows.was c.in_ok-flush.was c.new-page.ensures c.in_ok-flush.ensures.empty c.put_rows.ensures.put c.flush.ensures.put) c.in_err-finish.ensures
