-- The walk down a version, one node after another.
use Rattle.std.proofs.Common.{◌≡◌, ℕ, zero, suc, ◌-◌, ◌≤◌, Bool, true, false, List, refl, sym, ◌∙◌, ap, arith, rules, tests}
use Rattle.std.specs.Prelude.{Option, Some, Ok, if◌then◌else◌}
use Rattle.std.proofs.lemmas.Bool.{both_ways, false_from_ne_true}
use Rattle.loc_spec_plane.specs.Points.{Edge, Point, is_above, is_on, is_below}
use Rattle.loc_spec_plane.specs.Tables.{Table, edge}
use Rattle.loc_spec_plane.specs.declared.Place.TheVariants.{Border, Area}
use Rattle.loc_spec_index.specs.{declared.NodeRow.NodeRow, Search.walk}
use Rattle.loc_spec_index.specs.Nodes.{Left, Right, child, row_of}
use Rattle.loc_laws_order.proofs.Sides.{above-not_below, on-not_below, on-not_above}

-- a point that is neither on a line nor above it is below
pub below-else : (e : Edge) (p : Point) → is_on e p ≡ false → is_above e p ≡ false → is_below e p ≡ true
below-else e p off low = search (rules, tests)

module _ (t : Table) (rows : List NodeRow) (p : Point) (version : ℕ) where
  pub walk-none : (room at : ℕ) (floor : Option ℕ) → at ≡ 0 → walk t rows p version room at floor ≡ Ok (Area floor)
  walk-none room at floor e = ap (λ n. walk t rows p version room n floor) e

  module _ (room at : ℕ) (floor : Option ℕ) (row : NodeRow) (some : at ≡ 0 → ⊥) (more : 1 ≤ room) (is : row ≡ row_of rows at) where
    -- one step, by what the tests say
    step : (on above : Bool) → is_on (edge t row.item) p ≡ on → is_above (edge t row.item) p ≡ above → walk t rows p version room at floor ≡ (if on then Ok (Border row.item) else (if above then walk t rows p version (room - 1) (child row Right version) (Some row.item) else walk t rows p version (room - 1) (child row Left version) floor))
    step on above e f = by at room some more is
      where
        by : (n r : ℕ) → (n ≡ 0 → ⊥) → 1 ≤ r → row ≡ row_of rows n → walk t rows p version r n floor ≡ (if on then Ok (Border row.item) else (if above then walk t rows p version (r - 1) (child row Right version) (Some row.item) else walk t rows p version (r - 1) (child row Left version) floor))
        by zero r some more is = absurd (some refl)
        by (suc n) zero some more is = absurd (omega (arith, more))
        by (suc n) (suc r) some more is =
            let down : suc r - 1 ≡ r = omega arith in
            ap (λ (k : NodeRow). (if is_on (edge t k.item) p then Ok (Border k.item) else (if is_above (edge t k.item) p then walk t rows p version r (child k Right version) (Some k.item) else walk t rows p version r (child k Left version) floor))) (sym is)
            ∙ (ap (λ b. (if b then Ok (Border row.item) else (if is_above (edge t row.item) p then walk t rows p version r (child row Right version) (Some row.item) else walk t rows p version r (child row Left version) floor))) e
            ∙ (ap (λ b. (if on then Ok (Border row.item) else (if b then walk t rows p version r (child row Right version) (Some row.item) else walk t rows p version r (child row Left version) floor))) f
            ∙ ap (λ k. (if on then Ok (Border row.item) else (if above then walk t rows p version k (child row Right version) (Some row.item) else walk t rows p version k (child row Left version) floor))) (sym down)))

    pub walk-on : is_on (edge t row.item) p ≡ true → walk t rows p version room at floor ≡ Ok (Border row.item)
    walk-on on = step true false on (on-not_above (edge t row.item) p on)

    pub walk-right : is_above (edge t row.item) p ≡ true → walk t rows p version room at floor ≡ walk t rows p version (room - 1) (child row Right version) (Some row.item)
    walk-right above = step false true (false_from_ne_true (is_on (edge t row.item) p) (λ on. both_ways (is_above (edge t row.item) p) (on-not_above (edge t row.item) p on) above)) above

    pub walk-left : is_below (edge t row.item) p ≡ true → walk t rows p version room at floor ≡ walk t rows p version (room - 1) (child row Left version) floor
    walk-left below = step false false (false_from_ne_true (is_on (edge t row.item) p) (λ on. both_ways (is_below (edge t row.item) p) (on-not_below (edge t row.item) p on) below)) (false_from_ne_true (is_above (edge t row.item) p) (λ above. both_ways (is_below (edge t row.item) p) (above-not_below (edge t row.item) p above) below))

  pub same-walk : (r r' a a' : ℕ) (f f' : Option ℕ) → r ≡ r' → a ≡ a' → f ≡ f' → walk t rows p version r a f ≡ walk t rows p version r' a' f'
  same-walk r r' a a' f f' x y z = cc
