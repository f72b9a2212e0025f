use Rattle.std.proofs.Common.{arith}
use Rattle.loc_edges.proofs.views.Views.compare.Goals as goal

pub returns-clause-counted : goal.returns-clause-counted
returns-clause-counted g c = omega arith
