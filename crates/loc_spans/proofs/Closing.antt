-- Rings that are closed by their first and their last point.
use Rattle.std.proofs.Common.{◌≡◌, suc, ◌-◌, Some, List, [], ◌∷◌, length, refl, sym, ◌∙◌, ap, arith}
use Rattle.std.specs.Prelude.{All, slice_get}
use Rattle.loc_spec_plane.specs.{Points.Point, Rings.Ring, Rings.Rings}
use Rattle.loc_laws_rays.specs.Laws.{last_point}
use Rattle.loc_rings.specs.Values.{IsRing}
use Rattle.loc_laws_any.specs.Moments.{IsClosed, AreClosed}

last_read : (b : Point) (qs : List Point) → slice_get (b ∷ qs) (length qs) ≡ Some (last_point b qs)
last_read b [] = refl
last_read b (q ∷ qs) = last_read q qs

closed_ring : (ring : Ring) → IsRing ring → IsClosed ring
closed_ring [] is = tt
closed_ring (a ∷ ps) is =
    let place : length (a ∷ ps) - 1 ≡ length ps = omega arith in
    let e : Some a ≡ Some (last_point a ps) = is.closed ∙ (ap (slice_get (a ∷ ps)) place ∙ last_read a ps) in
    sym (cc e)

pub closed_rings : (rings : Rings) → All IsRing rings → AreClosed rings
closed_rings [] each = tt
closed_rings (ring ∷ rings) each = (closed_ring ring (each 0 ring (omega arith)), closed_rings rings (λ k d lt. each (suc k) d (omega arith)))
