-- What a look at an edge shows of a point that is no corner.
use Rattle.std.proofs.Common.{◌≡◌, ℕ, ◌<◌, ◌≤◌, true, false, not, ◌&&◌, length, ◌∙◌}
use Rattle.std.specs.Prelude.{nat_lt}
use Rattle.std.proofs.lemmas.Bool.{and_from, and_left, and_right, both_ways, false_from_ne_true, not_from_true, not_from_false, lt-ltb, le-ltb}
use Rattle.loc_spec_plane.specs.Points.{Point, is_above, is_on, is_below, lies_on}
use Rattle.loc_spec_plane.specs.Tables.{Table, IsTable, edge, lo_of, hi_of}
use Rattle.loc_spec_plane.specs.Places.{alive, alive_at, is_edge}
use Rattle.loc_laws_order.proofs.Sides.{above-not_below, on-not_above, on-not_below}
use Rattle.loc_place.specs.{Found.is_under, Standing.IsBehind}
use Rattle.loc_place.proofs.{Behind.alive_is, Cornerless.lies_on_is}
use Rattle.loc_scan.specs.declared.edges.Look.TheVariants.{On, Under, Neither}
use Rattle.loc_scan.specs.Look.{IsLook}

module _ (t : Table) (ok : IsTable t) (p : Point) (n : ℕ) (behind : IsBehind t p n) (e : ℕ) (fits : e < length t.ends) where
  -- p lies on the edge exactly where it is on its line and the edge is alive
  lies_is : lies_on (edge t e) p ≡ (is_on (edge t e) p && alive (edge t e) p)
  lies_is = lies_on_is t p behind.cornerless ok e fits

  off_line : is_on (edge t e) p ≡ false → not (lies_on (edge t e) p) ≡ true
  off_line off = not_from_false (lies_on (edge t e) p) (lies_is ∙ and_left (is_on (edge t e) p) (alive (edge t e) p) off)

  not_alive : alive (edge t e) p ≡ false → IsLook t p e Neither
  not_alive off = (
    not_from_false (lies_on (edge t e) p) (lies_is ∙ and_right (is_on (edge t e) p) (alive (edge t e) p) off),
    not_from_false (is_under t p e) (and_left (alive_at t p e) (is_above (edge t e) p) (and_right (is_edge t e) (alive (edge t e) p) off)),
  )

  -- an edge that begins at or behind p, or has ended, is not alive
  pub begins_later : n ≤ lo_of t e → IsLook t p e Neither
  begins_later later = not_alive (alive_is t ok p n behind e fits ∙ and_left (nat_lt (lo_of t e) n) (not (nat_lt (hi_of t e) n)) (le-ltb (lo_of t e) n later))

  pub ended : hi_of t e < n → IsLook t p e Neither
  ended past = not_alive (alive_is t ok p n behind e fits ∙ and_right (nat_lt (lo_of t e) n) (not (nat_lt (hi_of t e) n)) (not_from_true (nat_lt (hi_of t e) n) (lt-ltb (hi_of t e) n past)))

  module _ (begun : lo_of t e < n) (ends : n ≤ hi_of t e) where
    live : alive (edge t e) p ≡ true
    live = alive_is t ok p n behind e fits ∙ and_from (nat_lt (lo_of t e) n) (not (nat_lt (hi_of t e) n)) (lt-ltb (lo_of t e) n begun) (not_from_false (nat_lt (hi_of t e) n) (le-ltb (hi_of t e) n ends))

    -- the side of p against an alive edge
    pub on_look : is_on (edge t e) p ≡ true → IsLook t p e On
    on_look on = lies_is ∙ and_from (is_on (edge t e) p) (alive (edge t e) p) on live

    pub above_look : is_above (edge t e) p ≡ true → IsLook t p e Under
    above_look above = (
      off_line (false_from_ne_true (is_on (edge t e) p) (λ on. both_ways (is_above (edge t e) p) (on-not_above (edge t e) p on) above)),
      and_from (alive_at t p e) (is_above (edge t e) p) (and_from (is_edge t e) (alive (edge t e) p) (lt-ltb e (length t.ends) fits) live) above,
    )

    pub below_look : is_below (edge t e) p ≡ true → IsLook t p e Neither
    below_look below = (
      off_line (false_from_ne_true (is_on (edge t e) p) (λ on. both_ways (is_below (edge t e) p) (on-not_below (edge t e) p on) below)),
      not_from_false (is_under t p e) (and_right (alive_at t p e) (is_above (edge t e) p) (false_from_ne_true (is_above (edge t e) p) (λ above. both_ways (is_below (edge t e) p) (above-not_below (edge t e) p above) below))),
    )
