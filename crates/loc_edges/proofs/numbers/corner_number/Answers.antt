use Rattle.loc_spec_plane.specs.Points.{same_point}
use Rattle.loc_laws_order.proofs.Tests.{same_point_decides}
use Rattle.loc_laws_noding.proofs.Orders.{points_by_before}
use Rattle.loc_edges.proofs.Places.{place_if_found, place_if_not}
use Rattle.loc_edges.proofs.numbers.corner_number.Goals as goal

pub returns-in-Ok-clause-number : goal.returns-in-Ok-clause-number
returns-in-Ok-clause-number c = place_if_found points_by_before same_point same_point_decides c.args.p c.args.corners.now c.requires.in_order c.in-Ok.n c.in-Ok.ensures.bound c.in-Ok.ensures.position

pub returns-in-Err-clause-number : goal.returns-in-Err-clause-number
returns-in-Err-clause-number c = place_if_not points_by_before same_point same_point_decides c.args.p c.args.corners.now c.requires.in_order c.in-Err.field-0 c.in-Err.ensures.position
