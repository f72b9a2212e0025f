use Rattle.std.proofs.lemmas.Result.{err_from_is_err_and}
use Rattle.loc_indexed.proofs.verifying.tell.Goals as goal

pub returns-in_err-judge_held-clause-follows : goal.returns-in_err-judge_held-clause-follows
returns-in_err-judge_held-clause-follows g c shelf k =
    let p = err_from_is_err_and c.from_residual.result c.from_residual.ensures.1 in
    rw (p.1, p.2) (c.in_err-judge_held.ensures.goes_on _)

pub returns-clause-follows : goal.returns-clause-follows
returns-clause-follows g c shelf k = c.in_ok-judge_held.ensures.goes_on _ _ _ (c.write_counts.ensures shelf k)
