use Rattle.std.proofs.lemmas.Result.{err_from_is_err_and}
use Rattle.loc_page.proofs.Growing.{both, stop}
use Rattle.loc_page.proofs.file_page.FilePage.put_anew.Goals as goal

pub returns-in_err-flush-clause-put : goal.returns-in_err-flush-clause-put
returns-in_err-flush-clause-put g c = stop _ c.in_err-flush.was (err_from_is_err_and _ c.from_residual.ensures.1).1 c.flush.ensures.put

pub returns-clause-put : goal.returns-clause-put
returns-clause-put g c = both c.in_ok-flush.was c.flush.ensures.put c.put_first.ensures.put
