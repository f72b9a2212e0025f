use Rattle.loc_parts.proofs.Answered.{part_covering, part_touching}
use Rattle.loc_parts.proofs.laws.part_law.Goals as goal

pub returns-clause-touching : goal.returns-clause-touching
returns-clause-touching c layer is = part_touching layer c.args.part.now.numbers.items c.args.part.now.plane.table c.args.part.now.plane.legend c.law.ensures is.map c.args.p c.args.place c.requires

pub returns-clause-covering : goal.returns-clause-covering
returns-clause-covering c layer is = part_covering layer c.args.part.now.numbers.items c.args.part.now.plane.table c.args.part.now.plane.legend c.law.ensures is.map c.args.p c.args.place c.requires
