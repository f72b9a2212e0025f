use Rattle.loc_faces.proofs.{Lines.no_outer, Lines.outer_many, Once.stands_once}
use Rattle.loc_faces.proofs.laws.lines_law.Goals as goal

pub returns-clause-once : goal.returns-clause-once
returns-clause-once c = λ f h lt. stands_once c.args.table.now c.law.ensures.in_order c.args.half.now c.requires.half h lt c.args.faces.now c.requires.faces f

pub returns-clause-no_outer : goal.returns-clause-no_outer
returns-clause-no_outer c = no_outer c.args.table.now _ c.args.faces.now c.requires.faces

pub returns-clause-one_outer : goal.returns-clause-one_outer
returns-clause-one_outer c = outer_many c.args.table.now _ c.args.faces.now c.requires.faces
