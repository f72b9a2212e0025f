use Rattle.std.proofs.Common.{arith}
use Rattle.loc_write.proofs.Numbering.{IsRowAt, one-seen, all-nodes}
use Rattle.loc_spec_index.specs.Nodes.{no_row}
use Rattle.loc_write.proofs.facts.nodes_numbered.Goals as goal

pub loop-before-preserved : goal.loop-before-preserved
loop-before-preserved c = one-seen (IsRowAt c.args.versions.now) no_row c.loop-before.before c.row-row.result c.loop-before.invariant (record { row = c.row-row.ensures.row; within = c.row-row.ensures.bounds })

pub returns : goal.returns
returns c = all-nodes c.args.versions.now c.loop-before.before (omega arith) c.loop-before.invariant
