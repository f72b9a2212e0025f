use Rattle.std.proofs.lemmas.Result.{err_from_is_err_and}
use Rattle.loc_page.proofs.Pages.{both, stop}
use Rattle.loc_page.proofs.held.Page.put_anew.Goals as goal

pub returns-in_err-flush : goal.returns-in_err-flush
returns-in_err-flush g c =
    stop _ c.in_err-flush.was (err_from_is_err_and _ c.from_residual.ensures.1).1 c.flush.ensures.put

pub returns : goal.returns
returns g c = both c.in_ok-flush.was c.flush.ensures.put c.put_first.ensures
