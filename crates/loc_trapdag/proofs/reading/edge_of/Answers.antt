use Rattle.std.proofs.Common.{◌<◌, subst}
use Rattle.loc_trapdag.proofs.reading.edge_of.Goals as goal

pub returns-in-Some-clause-in_range : goal.returns-in-Some-clause-in_range
returns-in-Some-clause-in_range c = subst (λ n. c.in-Some.edge < n) c.from.ensures c.if-edge-from.true
