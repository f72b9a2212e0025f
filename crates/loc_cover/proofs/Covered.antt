-- What touches and what covers a point, read off a legend at the point's place.
use Rattle.std.proofs.Common.{◌≡◌, ℕ, ◌<◌, not, [], length, get_or, filter, refl, ◌∙◌, ap, Option, Some, None}
use Rattle.std.specs.Prelude.{nat_lt}
use Rattle.std.proofs.{lemmas.Bool.and_parts, lemmas.Bool.ltb-true, lemmas.List.Elements.filter_agree}
use Rattle.loc_spec_plane.specs.{Lists.is_in, declared.Place.Place}
use Rattle.loc_spec_plane.specs.Points.{Point, is_above, lies_on, same_point}
use Rattle.loc_spec_plane.specs.Tables.{Table, IsTable, AllEnds, AllEven, NoConflict, corner, covers_by_marks, touches_by_marks, edge, has}
use Rattle.loc_spec_plane.specs.declared.Place.TheVariants.{Corner, Border, Area}
use Rattle.loc_spec_plane.specs.Places.{alive, alive_at, is_edge, IsFloor, IsPlace}
use Rattle.loc_spec_plane.specs.Covers.{cover_above, cover_of_floor, has_at, IsCoverOf}
use Rattle.loc_laws_rays.proofs.Covering.{cover_law, touch_law}
use Rattle.loc_laws_rays.specs.Laws.{touches_at}
use Rattle.loc_cover.specs.Legends.{LegendRows, FitsTable, IsTrueLegend, covering, touching, list_over}

module _ (t : Table) (rows : LegendRows) (fits : FitsTable t rows) where
  -- what the legend says to touch a place touches it
  touching_is : (p : Point) (place : Place) → IsPlace t p place → (f : ℕ) → is_in f (touching rows place) ≡ touches_at t place f
  touching_is p (Corner c) place f = (fits.on_corner c (ltb-true c (length t.corners) (and_parts (nat_lt c (length t.corners)) (same_point (corner t c) p) place).0)).exact f
  touching_is p (Border e) place f = (fits.on_edge e (ltb-true e (length t.ends) (and_parts (is_edge t e) (lies_on (edge t e) p) place.1).0)).exact f
  touching_is p (Area floor) place f = refl

  -- so it touches the point
  pub touching_touches : IsTable t → AllEnds t → AllEven t → NoConflict t → (p : Point) (place : Place) → IsPlace t p place → (f : ℕ) → is_in f (touching rows place) ≡ touches_by_marks t f p
  touching_touches ok ended even apart p place is f = touching_is p place is f ∙ touch_law t ok ended even apart p place is f

  module _ (legend : IsTrueLegend t rows) where
    -- the list over a floor is the one defined
    over_is : (p : Point) (floor : Option ℕ) → IsFloor t p floor → list_over rows floor ≡ cover_of_floor t floor
    over_is p None is = refl
    over_is p (Some e) is =
        let parts = and_parts (alive_at t p e) (is_above (edge t e) p) is.0 in
        legend.above e (ltb-true e (length t.ends) (and_parts (is_edge t e) (alive (edge t e) p) parts.0).0)

    -- what the legend says of a place is its cover list
    covering_is : (p : Point) (place : Place) → IsPlace t p place → IsCoverOf t place (covering rows place)
    covering_is p (Corner c) place =
        let lc : c < length t.corners = ltb-true c (length t.corners) (and_parts (nat_lt c (length t.corners)) (same_point (corner t c) p) place).0 in
        let is : IsFloor t (corner t c) (get_or rows.floors c None) = legend.floors c lc in (
          get_or rows.floors c None,
          is,
          ap (filter (λ f. not (is_in f (get_or rows.on_corner c [])))) (over_is (corner t c) (get_or rows.floors c None) is)
              ∙ filter_agree (λ f. not (is_in f (get_or rows.on_corner c []))) (λ f. not (has_at t c f)) (λ f. ap not ((fits.on_corner c lc).exact f)) (cover_of_floor t (get_or rows.floors c None)),
        )
    covering_is p (Border e) place =
        let le : e < length t.ends = ltb-true e (length t.ends) (and_parts (is_edge t e) (lies_on (edge t e) p) place.1).0 in
        ap (filter (λ f. not (is_in f (get_or rows.on_edge e [])))) (legend.above e le)
        ∙ filter_agree (λ f. not (is_in f (get_or rows.on_edge e []))) (λ f. not (has t f e)) (λ f. ap not ((fits.on_edge e le).exact f)) (cover_above t e)
    covering_is p (Area floor) place = over_is p floor place.2

    -- so it says which features cover the point
    pub covering_covers : IsTable t → AllEnds t → AllEven t → NoConflict t → (p : Point) (place : Place) → IsPlace t p place → (f : ℕ) → is_in f (covering rows place) ≡ covers_by_marks t f p
    covering_covers ok ended even apart p place is f = cover_law t ok ended even apart p place (covering rows place) is (covering_is p place is) f
