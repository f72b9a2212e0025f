use Rattle.loc_write.proofs.Numbering.{NodesSeen}
use Rattle.loc_write.proofs.facts.nodes_numbered.Given as goal

abbrev pub invariant-loop-before : goal.invariant-loop-before
invariant-loop-before l = NodesSeen l.versions l.before
