use Rattle.std.proofs.Common.{ap}
use Rattle.loc_query.specs.Chosen.{index_of}
use Rattle.loc_query.proofs.chosen.with_traps.Goals as goal

pub returns-in-Ok-clause-asked : goal.returns-in-Ok-clause-asked
returns-in-Ok-clause-asked c = ap index_of c.with_index.ensures.status

pub returns-in-Ok-clause-kept : goal.returns-in-Ok-clause-kept
returns-in-Ok-clause-kept c = rw c.with_index.ensures.status c.in-Ok.ensures
