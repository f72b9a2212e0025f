use Rattle.std.proofs.lemmas.Result.{err_from_is_err_and}
use Rattle.loc_page.proofs.Pages.{both, stop}
use Rattle.loc_dissolve.proofs.texts.put_enclosed.Goals as goal

pub returns-in_err-put : goal.returns-in_err-put
returns-in_err-put g c = stop _ c.in_err-put.was (err_from_is_err_and _ c.from_residual.ensures.1).1 c.put.ensures

pub returns-in_err-put_listed : goal.returns-in_err-put_listed
returns-in_err-put_listed g c = both c.in_ok-put.was c.put.ensures (stop _ c.in_err-put_listed.was (err_from_is_err_and _ c.from_residual-in_err-put_listed.ensures.1).1 c.put_listed.ensures)

pub returns : goal.returns
returns g c = both c.in_ok-put.was c.put.ensures (both c.in_ok-put_listed.was c.put_listed.ensures (c.put-2.ensures))
