use Rattle.std.proofs.Common.{◌≡◌, ◌≤◌, ◌+◌, ◌*◌, ◌++◌, length}
use Rattle.loc_spec_text.specs.{Answered.answered, Bytes.ended_lines, Bytes.unfinished}
use Rattle.loc_batch.specs.{Told.told_by, Kept.IsUnbroken, PointLines.point_count}
use Rattle.loc_batch.proofs.Lines.{GoesLines}
use Rattle.loc_batch.proofs.desk.Desk.put_lines.Given as goal

abbrev pub invariant-loop-more : goal.invariant-loop-more
invariant-loop-more g l =
    let answer = told_by l.scale (g.D.Answerer.finds l.by) (g.D.Answerer.tells l.by) in
    let most = g.D.Answerer.most_found l.by + g.D.Answerer.most_put l.by in
    let now = ended_lines (l.self.line.items ++ l.rest) in
    let whole = ended_lines (l.fn.self.line.items ++ l.text) in
    record {
      goes : GoesLines (answered answer whole) (answered answer now) l.fn.self.tally l.self.tally (g.O.Sink.meaning l.fn.sink) (g.O.Sink.meaning l.sink) l.fn.self.page l.self.page;
      unbroken : IsUnbroken l.self.line.items;
      left : unfinished (l.self.line.items ++ l.rest) ≡ unfinished (l.fn.self.line.items ++ l.text);
      up : l.fn.steps ≤ l.steps;
      few : l.steps + point_count l.scale now * most ≤ l.fn.steps + point_count l.scale whole * most;
    }

abbrev pub decreases-loop-more : goal.decreases-loop-more
decreases-loop-more g l = length l.rest
