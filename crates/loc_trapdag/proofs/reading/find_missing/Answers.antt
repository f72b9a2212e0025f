use Rattle.std.proofs.Common.{refl, arith}
use Rattle.loc_trapdag.proofs.reading.find_missing.Goals as goal

pub returns-then-line_of-edge-eq0-clause-err : goal.returns-then-line_of-edge-eq0-clause-err
returns-then-line_of-edge-eq0-clause-err c =
    (c.loop-edge.edge, refl, c.loop-edge-test.true, c.if-line_of-edge-eq0.true, c.loop-edge.invariant)

pub returns-clause-ok : goal.returns-clause-ok
returns-clause-ok c = λ e less. c.loop-edge.invariant e (omega arith)
