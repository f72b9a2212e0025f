use Rattle.std.proofs.Common.{◌+◌, sym}
use Rattle.loc_spec_plane.specs.Points.{same_point}
use Rattle.loc_laws_order.proofs.Tests.{same_point_decides}
use Rattle.loc_laws_noding.proofs.Orders.{points_by_before}
use Rattle.loc_edges.proofs.Places.{place_of_member}
use Rattle.loc_edges.proofs.numbers.corner_number_near.Goals as goal

pub returns-then-is_corner_at-clause-number : goal.returns-then-is_corner_at-clause-number
returns-then-is_corner_at-clause-number c =
    let there = c.is_corner_at.ensures c.if-is_corner_at.true in
    place_of_member points_by_before same_point same_point_decides c.args.p c.args.corners.now c.requires.in_order c.args.near there.0 (λ d. sym (there.1 d))

pub returns-then-is_corner_at-2-clause-number : goal.returns-then-is_corner_at-2-clause-number
returns-then-is_corner_at-2-clause-number c =
    let there = c.is_corner_at-else-is_corner_at.ensures c.if-is_corner_at-2.true in
    place_of_member points_by_before same_point same_point_decides c.args.p c.args.corners.now c.requires.in_order (c.args.near + 1) there.0 (λ d. sym (there.1 d))
