use Rattle.std.proofs.Common.{sym}
use Rattle.loc_batch.proofs.answerer.Lists.sort.Goals as goal

pub returns-clause-touching : goal.returns-clause-touching
returns-clause-touching c = rw (sym c.self.view_is) c.sort_features.ensures.set

pub returns-clause-covering : goal.returns-clause-covering
returns-clause-covering c = rw (sym c.self.view_is) c.sort_features-2.ensures.set
