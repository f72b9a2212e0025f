-- What a point that is no corner is to the corners and the edges of a table.
use Rattle.std.proofs.Common.{◌≡◌, ℕ, ◌<◌, Bool, true, false, not, ◌&&◌, length, refl, sym, ◌∙◌, ap, ◌⊎◌, inl, inr, arith}
use Rattle.std.proofs.lemmas.Bool.{cases_Bool, not_from_true, not_from_false}
use Rattle.loc_spec_plane.specs.Points.{Point, before, up_to, same_point, is_on, lies_on}
use Rattle.loc_spec_plane.specs.Tables.{Table, IsTable, corner, edge, lo_of, hi_of}
use Rattle.loc_spec_plane.specs.Places.{alive, IsCornerless}
use Rattle.loc_laws_order.proofs.{AliveAt.not_corner, Sides.before_either, Sides.before-asym_test, Sides.same_point_sym}

-- for different points, up to is before
up_to_is_before : (p q : Point) → same_point q p ≡ false → up_to p q ≡ before p q
up_to_is_before p q differ = at (cases_Bool (before q p))
  where
    at : (before q p ≡ true) ⊎ (before q p ≡ false) → not (before q p) ≡ before p q
    at (inl behind) = not_from_true (before q p) behind ∙ sym (before-asym_test q p behind)
    at (inr ahead) = not_from_false (before q p) ahead ∙ sym (before_either q p differ ahead)

and_grouped : (a b c : Bool) → ((a && b) && c) ≡ (a && (b && c))
and_grouped true b c = refl
and_grouped false b c = refl

module _ (t : Table) (p : Point) (clear : IsCornerless t p) where
  -- a corner at or before p comes before it
  pub corner_ahead : (n : ℕ) → n < length t.corners → up_to (corner t n) p ≡ before (corner t n) p
  corner_ahead n fits = up_to_is_before (corner t n) p (same_point_sym p (corner t n) (not_corner t p clear n fits))

  module _ (ok : IsTable t) where
    -- no edge begins at p
    pub begins_elsewhere : (e : ℕ) → e < length t.ends → same_point p (edge t e).lo ≡ false
    begins_elsewhere e fits = let up = ok.goes_up e fits in same_point_sym p (corner t (lo_of t e)) (not_corner t p clear (lo_of t e) (omega arith))

    -- p lies on an edge exactly where it is on its line and the edge is alive at p
    pub lies_on_is : (e : ℕ) → e < length t.ends → lies_on (edge t e) p ≡ (is_on (edge t e) p && alive (edge t e) p)
    lies_on_is e fits =
        let up = ok.goes_up e fits in
        ap (λ b. (is_on (edge t e) p && up_to (edge t e).lo p) && b) (up_to_is_before p (corner t (hi_of t e)) (not_corner t p clear (hi_of t e) up.1))
        ∙ and_grouped (is_on (edge t e) p) (up_to (edge t e).lo p) (before p (edge t e).hi)
