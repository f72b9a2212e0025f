use Rattle.std.proofs.Common.{◌++◌, refl, arith}
use Rattle.std.specs.{Prelude.codes, List.flat_map}
use Rattle.loc_spec_plane.specs.Points.{Point}
use Rattle.loc_spec_text.specs.Points.{position_text}
use Rattle.std.proofs.lemmas.Result.{err_from_is_err_and}
use Rattle.loc_page.proofs.Pages.{goes_end, goes_more, stop}
use Rattle.loc_faces.proofs.Writing.{goes_item}
use Rattle.loc_dissolve.proofs.texts.put_corners.Goals as goal

pub loop-corner-init : goal.loop-corner-init
loop-corner-init g c = λ n k r p. p

pub returns-in_err-put_corner : goal.returns-in_err-put_corner
returns-in_err-put_corner g c =
    goes_item (λ (p : Point). position_text c.args.scale p ++ codes ", ") c.args.corners.now c.loop-corner.corner-index c.corner-item.result _ _ _ _ _ (omega arith) c.corner-item.is c.loop-corner.invariant _ _ _
    (stop _ c.in_err-put_corner.was (err_from_is_err_and _ c.from_residual.ensures.1).1 c.put_corner.ensures)

pub loop-corner-preserved : goal.loop-corner-preserved
loop-corner-preserved g c =
    goes_more _ ((λ (p : Point). position_text c.args.scale p ++ codes ", ") c.corner-item.result) _ _ _ c.in_ok-put_corner.was
    (goes_item (λ (p : Point). position_text c.args.scale p ++ codes ", ") c.args.corners.now c.loop-corner.corner-index c.corner-item.result _ _ _ _ _ (omega arith) c.corner-item.is c.loop-corner.invariant) c.put_corner.ensures

pub returns : goal.returns
returns g c = goes_end (λ xs. flat_map (λ (p : Point). position_text c.args.scale p ++ codes ", ") xs) c.args.corners.now c.loop-corner.corner-index _ _ _ _ _ _ (omega arith) refl c.loop-corner.invariant
