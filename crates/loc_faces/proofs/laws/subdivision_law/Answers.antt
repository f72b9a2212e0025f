use Rattle.loc_faces.proofs.Known.{faces_are, nexts_are}
use Rattle.loc_faces.proofs.laws.subdivision_law.Goals as goal

pub returns-clause-nexts : goal.returns-clause-nexts
returns-clause-nexts c = nexts_are c.args.table.now (record { in_order = c.law.ensures.in_order; apart = c.requires })

pub returns-clause-faces : goal.returns-clause-faces
returns-clause-faces c = faces_are c.args.table.now (record { in_order = c.law.ensures.in_order; apart = c.requires })
