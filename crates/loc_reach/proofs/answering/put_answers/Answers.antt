use Rattle.std.proofs.lemmas.Result.{err_from_is_err_and}
use Rattle.loc_reach.proofs.Answered.{all_within, answered_all, answered_fail, answered_more, answered_none, fail_within}
use Rattle.loc_reach.proofs.answering.put_answers.Goals as goal

pub lines-init : goal.lines-init
lines-init g c = answered_none c.args.scale c.args.views.now c.args.text.now _ _ _

pub lines-preserved : goal.lines-preserved
lines-preserved g c = answered_more c.args.scale c.args.views.now c.args.text.now _ _ _ _ _ _ _ c.lines.invariant c.in-Some.line.now c.in-Some.more.now c.in-Some.ensures.found _ c.in_ok-put_answer.was c.put_answer.ensures.written c.put_answer.ensures.counted c.put_answer.ensures.within

pub returns-in_err-put_answer-clause-written : goal.returns-in_err-put_answer-clause-written
returns-in_err-put_answer-clause-written g c =
    answered_fail c.args.scale c.args.views.now c.args.text.now _ _ _ _ _ _ _ c.lines.invariant c.in-Some.line.now c.in-Some.more.now c.in-Some.ensures.found c.in_err-put_answer.was (err_from_is_err_and _ c.from_residual.ensures.1).1 c.put_answer.ensures.written

pub returns-in_err-put_answer-clause-counted : goal.returns-in_err-put_answer-clause-counted
returns-in_err-put_answer-clause-counted g c =
    (fail_within c.args.scale c.args.views.now c.args.text.now _ _ _ _ _ _ _ c.lines.invariant c.in-Some.line.now c.in-Some.more.now c.in-Some.ensures.found _ c.put_answer.ensures.counted c.put_answer.ensures.within).0

pub returns-in_err-put_answer-clause-within : goal.returns-in_err-put_answer-clause-within
returns-in_err-put_answer-clause-within g c =
    (fail_within c.args.scale c.args.views.now c.args.text.now _ _ _ _ _ _ _ c.lines.invariant c.in-Some.line.now c.in-Some.more.now c.in-Some.ensures.found _ c.put_answer.ensures.counted c.put_answer.ensures.within).1

pub returns-clause-written : goal.returns-clause-written
returns-clause-written g c = answered_all c.args.scale c.args.views.now c.args.text.now _ _ _ _ _ _ _ c.lines.invariant _ c.in_default.ensures.found

pub returns-clause-counted : goal.returns-clause-counted
returns-clause-counted g c = (all_within c.args.scale c.args.views.now c.args.text.now _ _ _ _ _ _ _ c.lines.invariant).0

pub returns-clause-within : goal.returns-clause-within
returns-clause-within g c = (all_within c.args.scale c.args.views.now c.args.text.now _ _ _ _ _ _ _ c.lines.invariant).1
