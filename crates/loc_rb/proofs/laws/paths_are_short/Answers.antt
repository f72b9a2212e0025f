-- A path is no longer than its tree is deep.
use Rattle.loc_rb.proofs.{Descent.bounded, Descent.at-most-42, Successor.leads-bounded, Successor.gap-bounded}
use Rattle.loc_rb.proofs.laws.paths_are_short.Goals as goal

pub returns-clause-tree : goal.returns-clause-tree
returns-clause-tree c = bounded

pub returns-clause-path : goal.returns-clause-path
returns-clause-path c = leads-bounded

pub returns-clause-gap : goal.returns-clause-gap
returns-clause-gap c = gap-bounded

pub returns-clause-few : goal.returns-clause-few
returns-clause-few c = at-most-42
