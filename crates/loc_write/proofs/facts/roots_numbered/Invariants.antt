use Rattle.loc_write.proofs.Numbering.{RootsSeen}
use Rattle.loc_write.proofs.facts.roots_numbered.Given as goal

abbrev pub invariant-loop-version : goal.invariant-loop-version
invariant-loop-version l = RootsSeen l.versions l.version
