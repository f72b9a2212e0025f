use Rattle.std.proofs.Common.{◌+◌, Ok, drop, arith, None}
use Rattle.std.proofs.lemmas.Result.{err_from_is_err_and}
use Rattle.loc_spec_text.specs.Answered.{answered, with_answer}
use Rattle.loc_batch.specs.Told.{told_found}
use Rattle.loc_batch.proofs.Counting.{next_few, no_more_few}
use Rattle.loc_batch.proofs.Lines.{goes_off, goes_on, next_answered, no_answers, no_line, none_answered, one_line}
use Rattle.loc_batch.proofs.desk.put_block.Goals as goal

pub loop-line-init : goal.loop-line-init
loop-line-init g c = record { goes = λ t n k r p. p; up = omega arith; few = omega arith }

pub found-found-requires : goal.found-found-requires
found-found-requires g c = omega (arith, c.loop-line-test.true, c.len-line-end.ensures.count)

pub answer_found-requires-clause-known : goal.answer_found-requires-clause-known
answer_found-requires-clause-known g c = rw c.found-found.ensures (c.requires.known c.loop-line.line None (omega (arith, c.loop-line-test.true, c.len-line-end.ensures.count)))

pub returns-in_err-answer_found-clause-answers : goal.returns-in_err-answer_found-clause-answers
returns-in_err-answer_found-clause-answers g c =
    let answer = told_found (g.D.Answerer.tells c.args.by.now) in
    let founds = c.args.block.now.found in
    let is = next_answered answer founds c.loop-line.line None c.found-found.result (omega (arith, c.loop-line-test.true, c.len-line-end.ensures.count)) c.found-found.ensures in
    let p = err_from_is_err_and c.from_residual.result c.from_residual.ensures.1 in
    rw (p.1, p.2) (goes_off (answered answer founds) (with_answer (answer c.found-found.result) no_answers) (answered answer (drop (c.loop-line.line + 1) founds)) c.args.tally.now c.loop-line.tally c.answer_found.new.tally (g.O.Sink.meaning c.args.sink.now) (g.O.Sink.meaning c.loop-line.sink) (g.O.Sink.meaning c.answer_found.new.sink) c.args.page.now c.loop-line.page c.answer_found.new.page _ c.answer_found.result c.in_err-answer_found.was (rw is at c.loop-line.invariant.goes) (one_line (answer c.found-found.result) _ _ _ _ _ _ _ c.answer_found.ensures.answers))

pub loop-line-preserved : goal.loop-line-preserved
loop-line-preserved g c =
    let answer = told_found (g.D.Answerer.tells c.args.by.now) in
    let founds = c.args.block.now.found in
    let is = next_answered answer founds c.loop-line.line None c.found-found.result (omega (arith, c.loop-line-test.true, c.len-line-end.ensures.count)) c.found-found.ensures in
    record {
      goes = goes_on (answered answer founds) (with_answer (answer c.found-found.result) no_answers) (answered answer (drop (c.loop-line.line + 1) founds)) c.args.tally.now c.loop-line.tally c.answer_found.new.tally (g.O.Sink.meaning c.args.sink.now) (g.O.Sink.meaning c.loop-line.sink) (g.O.Sink.meaning c.answer_found.new.sink) c.args.page.now c.loop-line.page c.answer_found.new.page _ c.answer_found.result c.in_ok-answer_found.was (rw is at c.loop-line.invariant.goes) (one_line (answer c.found-found.result) _ _ _ _ _ _ _ c.answer_found.ensures.answers);
      up = omega (arith, c.loop-line.invariant.up, c.answer_found.ensures.counted);
      few = next_few founds c.loop-line.line c.found-found.result _ _ _ (g.D.Answerer.most_put c.args.by.now) (omega (arith, c.loop-line-test.true, c.len-line-end.ensures.count)) c.found-found.ensures c.loop-line.invariant.few c.answer_found.ensures.unsought c.answer_found.ensures.within;
    }

pub returns-clause-answers : goal.returns-clause-answers
returns-clause-answers g c =
    let answer = told_found (g.D.Answerer.tells c.args.by.now) in
    (rw (none_answered answer c.args.block.now.found c.loop-line.line (omega (arith, c.loop-line-test.false, c.len-line-end.ensures.count))) at c.loop-line.invariant.goes) _ _ _ (Ok tt) (no_line _ _ _ tt)

pub returns-in_err-answer_found-clause-within : goal.returns-in_err-answer_found-clause-within
returns-in_err-answer_found-clause-within g c =
    let founds = c.args.block.now.found in
    let last = next_few founds c.loop-line.line c.found-found.result _ _ _ (g.D.Answerer.most_put c.args.by.now) (omega (arith, c.loop-line-test.true, c.len-line-end.ensures.count)) c.found-found.ensures c.loop-line.invariant.few c.answer_found.ensures.unsought c.answer_found.ensures.within in
    no_more_few founds (c.loop-line.line + 1) _ _ (g.D.Answerer.most_put c.args.by.now) last
