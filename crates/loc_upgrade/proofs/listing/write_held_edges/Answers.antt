use Rattle.std.proofs.Common.{◌∙◌}
use Rattle.loc_course.proofs.Taken.{cut, done}
use Rattle.loc_upgrade.proofs.EdgesTold.{same_written}
use Rattle.loc_upgrade.proofs.listing.write_held_edges.Goals as goal

pub returns-in-Ok : goal.returns-in-Ok
returns-in-Ok g c = λ shelf k. same_written c.args.held.now.content c.new.result c.table.result.now (c.new.ensures ∙ c.scale.ensures.value) c.table.ensures (done _ shelf k _ _ c.write_edges.result _ c.in-Ok.is c.write_edges.ensures)

pub returns-in-Err : goal.returns-in-Err
returns-in-Err g c = λ shelf k. same_written c.args.held.now.content c.new.result c.table.result.now (c.new.ensures ∙ c.scale.ensures.value) c.table.ensures (cut _ shelf k _ _ c.write_edges.result _ c.in-Err.is c.write_edges.ensures)
