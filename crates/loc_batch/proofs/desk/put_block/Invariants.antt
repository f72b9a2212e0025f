use Rattle.std.proofs.Common.{◌≤◌, ◌+◌, ◌*◌, count_by, drop, take}
use Rattle.std.specs.Option.{is_some}
use Rattle.loc_spec_text.specs.Answered.{answered}
use Rattle.loc_batch.specs.Told.{told_found}
use Rattle.loc_batch.proofs.Lines.{GoesLines}
use Rattle.loc_batch.proofs.desk.put_block.Given as goal

abbrev pub invariant-loop-line : goal.invariant-loop-line
invariant-loop-line g l =
    let answer = told_found (g.D.Answerer.tells l.by) in
    record {
      goes : GoesLines (answered answer l.block.found) (answered answer (drop l.line l.block.found)) l.fn.tally l.tally (g.O.Sink.meaning l.fn.sink) (g.O.Sink.meaning l.sink) l.fn.page l.page;
      up : l.fn.steps ≤ l.steps;
      few : l.steps ≤ l.fn.steps + count_by is_some (take l.line l.block.found) * g.D.Answerer.most_put l.by;
    }
