-- Where a point stands among the corners of a table.
use Rattle.std.proofs.Common.{◌≡◌, ◌≢◌, ℕ, ◌<◌, ◌≤◌, true, not, ◌&&◌, length, sym, ◌∙◌, subst, inl, inr, arith}
use Rattle.std.specs.Prelude.{nat_lt}
use Rattle.std.proofs.lemmas.Bool.{and_left, and_right, cases_eq, cases_lt, lt-ltb, le-ltb, not_from_false}
use Rattle.loc_spec_plane.specs.{Points.Point, Points.before, Points.same_point, Places.is_corner_of, Places.alive}
use Rattle.loc_spec_plane.specs.Tables.{Table, IsTable, corner, edge, lo_of, hi_of}
use Rattle.loc_laws_order.proofs.AliveAt as AliveAt
use Rattle.loc_laws_order.proofs.{AliveAt.IsPassed, TableOrder.corner_before}
use Rattle.loc_laws_order.proofs.Sides.{before_trans, before-asym_test, before-differ, same_point_sym}
use Rattle.loc_place.specs.Standing.{IsBehind}
use Rattle.loc_place.proofs.Cornerless.{corner_ahead}

module _ (t : Table) (ok : IsTable t) (p : Point) where
  -- a point that comes before a corner comes before each later one
  pub before_later : (n : ℕ) → before p (corner t n) ≡ true → (c : ℕ) → n ≤ c → c < length t.corners → before p (corner t c) ≡ true
  before_later n ahead c from fits = elim (cases_eq n c) [
    | inl same ↦ subst (λ k. before p (corner t k) ≡ true) same ahead
    | inr other ↦ before_trans p (corner t n) (corner t c) ahead (corner_before t ok n c (let differ : n ≢ c = other in omega arith) fits)
  ]

  -- before a corner that comes before a point each earlier one does
  pub before_earlier : (n : ℕ) → n < length t.corners → before (corner t n) p ≡ true → (c : ℕ) → c ≤ n → before (corner t c) p ≡ true
  before_earlier n fits passed c to = elim (cases_eq c n) [
    | inl same ↦ subst (λ k. before (corner t k) p ≡ true) (sym same) passed
    | inr other ↦ before_trans (corner t c) (corner t n) p (corner_before t ok c n (let differ : c ≢ n = other in omega arith) fits) passed
  ]

  -- the first n corners come before p, and p before the others
  pub stands_behind : (n : ℕ) → n ≤ length t.corners → ((c : ℕ) → c < n → before (corner t c) p ≡ true) → ((c : ℕ) → n ≤ c → c < length t.corners → before p (corner t c) ≡ true) → IsBehind t p n
  stands_behind n within passed ahead = record {
    cornerless = λ c. not_from_false (is_corner_of t p c) (elim (cases_lt c (length t.corners)) [
      | inr past ↦ and_left (nat_lt c (length t.corners)) (same_point (corner t c) p) (le-ltb c (length t.corners) past)
      | inl fits ↦ and_right (nat_lt c (length t.corners)) (same_point (corner t c) p) (elim (cases_lt c n) [
        | inl less ↦ before-differ (corner t c) p (passed c less)
        | inr from ↦ same_point_sym (corner t c) p (before-differ p (corner t c) (ahead c from fits))
      ])
    ]);
    within = within;
    passed = λ c fits. elim (cases_lt c n) [
      | inl less ↦ passed c less ∙ sym (lt-ltb c n less)
      | inr from ↦ before-asym_test p (corner t c) (ahead c from fits) ∙ sym (le-ltb c n from)
    ];
  }

-- behind the first n corners these are passed
pub is_passed : (t : Table) (p : Point) (n : ℕ) → IsBehind t p n → IsPassed t p n
is_passed t p n behind = record { passed = λ c fits. corner_ahead t p behind.cornerless c fits ∙ behind.passed c fits }

-- and an edge is alive that begins at one of them and ends at none
pub alive_is : (t : Table) → IsTable t → (p : Point) (n : ℕ) → IsBehind t p n → (e : ℕ) → e < length t.ends → alive (edge t e) p ≡ (nat_lt (lo_of t e) n && not (nat_lt (hi_of t e) n))
alive_is t ok p n behind e fits = AliveAt.alive_is t ok p n e (is_passed t p n behind) fits
