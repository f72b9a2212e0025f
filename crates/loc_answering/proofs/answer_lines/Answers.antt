use Rattle.std.proofs.Common.{Ok, Err}
use Rattle.loc_answering.proofs.Bridge.{answered_source, unread_source}
use Rattle.loc_answering.proofs.answer_lines.Goals as goal

pub returns-in-Err : goal.returns-in-Err
returns-in-Err g c = unread_source (rw c.in-Err.is at c.take_up.ensures)

pub returns-in-Ok-answer_all : goal.returns-in-Ok-answer_all
returns-in-Ok-answer_all g c = answered_source (rw c.in-Ok.is at c.take_up.ensures) (Ok c.in-Ok-answer_all.field-0) (rw c.in-Ok-answer_all.is at c.answer_all.ensures.answers)

pub returns-in-Err-answer_all : goal.returns-in-Err-answer_all
returns-in-Err-answer_all g c =
    rw c.stop_of.ensures (answered_source (rw c.in-Ok.is at c.take_up.ensures) (Err c.in-Err-answer_all.fault) (rw c.in-Err-answer_all.is at c.answer_all.ensures.answers))
