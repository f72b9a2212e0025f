use Rattle.loc_laws_order.proofs.Tests.{conflict_swap, touch_swap}
use Rattle.loc_geom.proofs.laws.conflict_symmetry.Goals as goal

pub returns-clause-both : goal.returns-clause-both
returns-clause-both c = conflict_swap c.args.a c.args.b

pub returns-clause-touching : goal.returns-clause-touching
returns-clause-touching c = touch_swap c.args.a c.args.b
