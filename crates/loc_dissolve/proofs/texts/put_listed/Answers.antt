use Rattle.loc_dissolve.proofs.Written.{listed_is}
use Rattle.std.proofs.lemmas.Result.{err_from_is_err_and}
use Rattle.loc_page.proofs.Pages.{both, put_same, stop}
use Rattle.loc_dissolve.proofs.texts.put_listed.Goals as goal

pub returns-in_err-put : goal.returns-in_err-put
returns-in_err-put g c = put_same (listed_is (g.T.Written.text c.args.scale) c.args.items.now c.in-Some.first.now c.in-Some.later.now c.in-Some.ensures.cases.0) (stop _ c.in_err-put.was (err_from_is_err_and _ c.from_residual.ensures.1).1 c.put.ensures)

pub returns : goal.returns
returns g c = put_same (listed_is (g.T.Written.text c.args.scale) c.args.items.now c.in-Some.first.now c.in-Some.later.now c.in-Some.ensures.cases.0) (both c.in_ok-put.was c.put.ensures (c.put_all_later.ensures))
