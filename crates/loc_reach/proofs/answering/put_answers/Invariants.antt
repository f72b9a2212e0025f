use Rattle.std.proofs.Common.{length}
use Rattle.loc_reach.proofs.Answered.{AreAnswered}
use Rattle.loc_reach.proofs.answering.put_answers.Given as goal

-- the lines before are answered
abbrev pub invariant-lines : goal.invariant-lines
invariant-lines g l = AreAnswered l.scale l.views l.text (g.O.Sink.meaning l.fn.sink) l.fn.page l.fn.steps l.rest (g.O.Sink.meaning l.sink) l.page l.steps

abbrev pub decreases-lines : goal.decreases-lines
decreases-lines g l = length l.rest
