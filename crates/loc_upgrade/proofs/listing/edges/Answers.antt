use Rattle.std.proofs.lemmas.Result.{err_from_is_err_and}
use Rattle.loc_upgrade.proofs.{Along.listing, Making.not_listed}
use Rattle.loc_upgrade.proofs.listing.edges.Goals as goal

pub returns-in_err-held-clause-follows : goal.returns-in_err-held-clause-follows
returns-in_err-held-clause-follows g c k = let p = err_from_is_err_and c.from_residual.result c.from_residual.ensures.1 in rw (p.1, p.2) (c.in_err-held.ensures.goes_on listing _ k)

pub returns-in_err-held-clause-listed : goal.returns-in_err-held-clause-listed
returns-in_err-held-clause-listed g c = let p = err_from_is_err_and c.from_residual.result c.from_residual.ensures.1 in rw p.1 (not_listed _ _)

pub returns-clause-follows : goal.returns-clause-follows
returns-clause-follows g c k = c.in_ok-held.ensures.goes_on listing _ k _ _ (c.write_held_edges-outcome.ensures _ k)

pub returns-clause-listed : goal.returns-clause-listed
returns-clause-listed g c = λ zero. (c.in_ok-held.held.content, c.in_ok-held.ensures.told)
