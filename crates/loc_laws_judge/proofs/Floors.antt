-- The test of a floor tells whether it is the floor.
use Rattle.std.proofs.Common.{◌≡◌, ◌≢◌, ℕ, ◌<◌, ◌≤◌, true, false, not, ◌||◌, length, refl, sym, inl, inr}
use Rattle.std.specs.Prelude.{Bool, Option, Some, None, ◌==◌}
use Rattle.std.specs.{Bool.Decides, List.list_all}
use Rattle.std.proofs.lemmas.Bool.{and_from, and_left, and_parts, both_ways, cases_lt, eq-eqb, le-ltb, ltb-true, ne_eqb, not_from_false, true≢false}
use Rattle.loc_spec_plane.specs.{Points.Point, Points.is_above, Tables.Table, Tables.edge, Tables.edge_numbers}
use Rattle.loc_spec_plane.specs.Places.{IsFloor, alive, alive_at, is_edge, lower_of}
use Rattle.loc_laws_order.proofs.Unique.{all-at}
use Rattle.loc_laws_rays.proofs.Members.{in_numbers}
use Rattle.loc_laws_judge.specs.FirstFlaw.{is_floor, is_under}
use Rattle.loc_laws_judge.proofs.FirstSome.{all_below}

-- a test fails, or another passes, or a third
told : (a b c : Bool) → ((not a || b) || c) ≡ true → a ≡ true → b ≡ false → c ≡ true
told true false c h under other = h
told true true c h under other = absurd (true≢false other)
told false b c h under other = absurd (true≢false (sym under))

from_told : (a b c : Bool) → (a ≡ true → b ≡ false → c ≡ true) → ((not a || b) || c) ≡ true
from_told true false c h = h refl refl
from_told true true c h = refl
from_told false b c h = refl

module _ (t : Table) (p : Point) where
  is_there : (e : ℕ) → is_under t p e ≡ true → e < length t.ends
  is_there e h = ltb-true e (length t.ends) (and_parts (is_edge t e) (alive (edge t e) p) (and_parts (alive_at t p e) (is_above (edge t e) p) h).0).0

  past : (e : ℕ) → length t.ends ≤ e → is_under t p e ≡ false
  past e le = and_left (alive_at t p e) (is_above (edge t e) p) (and_left (is_edge t e) (alive (edge t e) p) (le-ltb e (length t.ends) le))

  all_at : (e : ℕ) → list_all (λ e. not (is_under t p e)) (edge_numbers t) ≡ true → not (is_under t p e) ≡ true
  all_at e all = elim (cases_lt e (length t.ends)) [
    | inl less ↦ all-at (λ e. not (is_under t p e)) (edge_numbers t) e all (in_numbers e (length t.ends) less)
    | inr le ↦ not_from_false (is_under t p e) (past e le)
  ]

  module _ (h : ℕ) where
    -- e is not under p, or is h, or lower
    abbrev yields : ℕ → Bool
    yields e = (not (is_under t p e) || (e == h)) || lower_of t e h

    lower_at : (e : ℕ) → list_all yields (edge_numbers t) ≡ true → is_under t p e ≡ true → e ≢ h → lower_of t e h ≡ true
    lower_at e all under other = told (is_under t p e) (e == h) (lower_of t e h) (all-at yields (edge_numbers t) e all (in_numbers e (length t.ends) (is_there e under))) under (ne_eqb e h other)

    yields_at : (e : ℕ) → (is_under t p e ≡ true → e ≢ h → lower_of t e h ≡ true) → yields e ≡ true
    yields_at e low = from_told (is_under t p e) (e == h) (lower_of t e h) (λ under other. low under (λ same. both_ways (e == h) other (eq-eqb e h same)))

-- the test passes exactly where it is the floor
pub floor_decides : (t : Table) (p : Point) (floor : Option ℕ) → Decides (is_floor t p floor) (IsFloor t p floor)
floor_decides t p None = (λ all e. all_at t p e all, λ none. all_below (λ e. not (is_under t p e)) (length t.ends) (λ e less. none e))
floor_decides t p (Some h) = (
  λ both. (let parts = and_parts (is_under t p h) (list_all (yields t p h) (edge_numbers t)) both in (parts.0, λ e under other. lower_at t p h e parts.1 under other)),
  λ is. and_from (is_under t p h) (list_all (yields t p h) (edge_numbers t)) is.0 (all_below (yields t p h) (length t.ends) (λ e less. yields_at t p h e (is.1 e))),
)
