use Rattle.std.proofs.lemmas.Result.{err_from_is_err_and}
use Rattle.loc_page.proofs.Pages.{both, stop}
use Rattle.loc_features.proofs.answering.put_line.Goals as goal

pub returns-in_err-put_lists : goal.returns-in_err-put_lists
returns-in_err-put_lists g c = stop _ c.in_err-put_lists.was (err_from_is_err_and _ c.from_residual.ensures.1).1 c.put_lists.ensures

pub returns : goal.returns
returns g c = both c.in_ok-put_lists.was c.put_lists.ensures c.put.ensures
