use Rattle.std.proofs.Common.{[], ◌∷◌}
use Rattle.loc_spec_index.specs.declared.Part.TheVariants.{Corners}
use Rattle.loc_spec_index.specs.IndexFile.{order, point_fields, follows}
use Rattle.loc_file.specs.Readings.{stop}
use Rattle.loc_file.proofs.Steps.{handed, wrong-along, read-along, fault-first, front-stop, fault-behind, read-append}
use Rattle.loc_spec_plane.specs.Points.{before}
use Rattle.loc_file.proofs.corners.next_corner.Goals as goal

pub returns-in_err-corner-clause-err : goal.returns-in_err-corner-clause-err
returns-in_err-corner-clause-err c = handed c.from_residual.result _ _ c.from_residual.ensures.1 (front-stop point_fields (λ p. order Corners c.args.row (follows before c.args.last p) ∷ []) c.in_err-corner.ensures.err)

pub returns-in_err-in_order-clause-err : goal.returns-in_err-in_order-clause-err
returns-in_err-in_order-clause-err c = handed c.from_residual-in_err-in_order.result _ _ c.from_residual-in_err-in_order.ensures.1 (stop c.in_ok-corner.corner _ tt (fault-behind (point_fields c.in_ok-corner.corner) _ c.in_ok-corner.ensures.ok (fault-first _ _ (wrong-along (order Corners c.args.row) c.follows.ensures c.in_err-in_order.ensures.err))))

pub returns-clause-ok : goal.returns-clause-ok
returns-clause-ok c = read-append (point_fields c.in_ok-corner.corner) (order Corners c.args.row (follows before c.args.last c.in_ok-corner.corner) ∷ []) c.in_ok-corner.ensures.ok (read-along (order Corners c.args.row) c.follows.ensures c.in_ok-in_order.ensures.ok)
