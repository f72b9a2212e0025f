use Rattle.std.proofs.Common.{◌≡◌, ◌+◌, ◌*◌, ◌≤◌, length, drop}
use Rattle.loc_batch.specs.Blocks.{AreKnown, placed}
use Rattle.loc_batch.proofs.block.seek.Given as goal

abbrev pub invariant-loop-query : goal.invariant-loop-query
invariant-loop-query g l =
    record {
      goes : placed (g.D.Answerer.finds l.by) (drop l.query-index l.queries) l.found ≡ placed (g.D.Answerer.finds l.by) l.queries l.fn.found;
      as_many : length l.found ≡ length l.fn.found;
      known : AreKnown (g.D.Answerer.knows l.by) l.found;
      up : l.fn.steps ≤ l.steps;
      few : l.steps ≤ l.fn.steps + l.query-index * g.D.Answerer.most_found l.by;
    }
