use Rattle.std.proofs.lemmas.Result.{err_from_is_err_and}
use Rattle.loc_laws_judge.specs.FirstFlaw.{first_flaw}
use Rattle.loc_indexed.specs.Verifying.{judged_course}
use Rattle.loc_indexed.proofs.Judging.{judged_by, none_judged}
use Rattle.loc_indexed.proofs.verifying.verify.Goals as goal

pub returns-in_err-held-clause-follows : goal.returns-in_err-held-clause-follows
returns-in_err-held-clause-follows g c k =
    let p = err_from_is_err_and c.from_residual.result c.from_residual.ensures.1 in
    rw (p.1, p.2) (c.in_err-held.ensures.goes_on (λ k. judged_course k (first_flaw k)) _ k)

pub returns-in_err-held-clause-judged : goal.returns-in_err-held-clause-judged
returns-in_err-held-clause-judged g c = none_judged _ _ c.from_residual.result c.from_residual.ensures.1

pub returns-clause-follows : goal.returns-clause-follows
returns-clause-follows g c k = c.in_ok-held.ensures.goes_on (λ k. judged_course k (first_flaw k)) _ _ _ _ (c.tell-outcome.ensures.follows _ k)

pub returns-clause-judged : goal.returns-clause-judged
returns-clause-judged g c = judged_by _ _ c.tell-outcome.result c.in_ok-held.ensures.told c.tell-outcome.ensures.is_true
