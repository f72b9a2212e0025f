-- The facts of the vertical order from either side: as they are where `up` holds, and turned round where it does not, so that above is below and lower is higher.
use Rattle.std.proofs.Common.{◌≡◌, ℕ, ◌<◌, ◌≤◌, Bool, true, false, not, refl, sym, ◌∙◌, subst, ◌⊎◌, inl, inr, arith}
use Rattle.std.specs.Prelude.{Option, Some, None}
use Rattle.std.proofs.lemmas.Bool.{both_ways, cases_Bool, cond-true, cond-false, false_from_ne_true}
use Rattle.loc_spec_plane.specs.{declared.Trap.Trap, Points.before, Points.is_above, Points.is_below, Traps.in_order}
use Rattle.loc_spec_plane.specs.Tables.{Table, corner, edge, lo_of, hi_of, ends_at}
use Rattle.loc_laws_order.proofs.Sides.{before-asym_test, above-not_below, on-not_above, on-not_below, high_is_on, low_is_on}
use Rattle.loc_laws_order.proofs.{TableOrder.corner_before, PairLaws.lower_ends_below, PairLaws.higher_ends_above}
use Rattle.loc_laws_traps.specs.Sets.{IsCalmSet}
use Rattle.loc_laws_traps.proofs.Facts.{Live, up_of, alive_from, quiet, one_is_lower, not_both_lower, lower_passes, not_above_and_below, above_or_common, beside}

abbrev pub order_by : Table → Bool → Option ℕ → Option ℕ → Bool
order_by t true a b = in_order t a b
order_by t false a b = in_order t b a

abbrev pub lower_by : Table → Bool → ℕ → ℕ → Bool
lower_by t up a b = order_by t up (Some a) (Some b)

-- corner k is above edge a
abbrev pub above_by : Table → Bool → ℕ → ℕ → Bool
above_by t true a k = is_above (edge t a) (corner t k)
above_by t false a k = is_below (edge t a) (corner t k)

-- the bound from which one looks, and the other one: bottom and top, or top and bottom
abbrev pub near : Bool → Trap → Option ℕ
near true trap = trap.bottom
near false trap = trap.top

abbrev pub far : Bool → Trap → Option ℕ
far true trap = trap.top
far false trap = trap.bottom

-- a missing bound is in order with each other one
pub none_first : (t : Table) (up : Bool) (b : Option ℕ) → order_by t up None b ≡ true
none_first t true b = refl
none_first t false None = refl
none_first t false (Some a) = refl

pub none_last : (t : Table) (up : Bool) (b : Option ℕ) → order_by t up b None ≡ true
none_last t true None = refl
none_last t true (Some a) = refl
none_last t false b = refl

-- an edge that goes between bottom and top, goes between near and far
pub goes_between : (t : Table) (up : Bool) (e : ℕ) (trap : Trap) → (in_order t trap.bottom (Some e) ≡ true) × (in_order t (Some e) trap.top ≡ true) → (order_by t up (near up trap) (Some e) ≡ true) × (order_by t up (Some e) (far up trap) ≡ true)
goes_between t true e trap h = h
goes_between t false e trap h = (h.1, h.0)

pub between_from : (t : Table) (up : Bool) (e : ℕ) (trap : Trap) → order_by t up (near up trap) (Some e) ≡ true → order_by t up (Some e) (far up trap) ≡ true → (in_order t trap.bottom (Some e) ≡ true) × (in_order t (Some e) trap.top ≡ true)
between_from t true e trap h g = (h, g)
between_from t false e trap h g = (g, h)

module _ (t : Table) (among : ℕ → Bool) (set : IsCalmSet t among) where
  pub one_lower_by : (up : Bool) (a b k : ℕ) → Live t among set a k → Live t among set b k → (a ≡ b → ⊥) → (lower_by t up a b ≡ true) ⊎ (lower_by t up b a ≡ true)
  one_lower_by true a b k la lb other = one_is_lower t among set a b k la lb other
  one_lower_by false a b k la lb other = one_is_lower t among set b a k lb la (λ same. other (sym same))

  pub not_both_by : (up : Bool) (a b : ℕ) → lower_by t up a b ≡ true → lower_by t up b a ≡ true → ⊥
  not_both_by true a b h g = not_both_lower t among set a b h g
  not_both_by false a b h g = not_both_lower t among set a b g h

  pub passes_by : (up : Bool) (a b c k : ℕ) → Live t among set a k → Live t among set b k → Live t among set c k → lower_by t up a b ≡ true → lower_by t up b c ≡ true → lower_by t up a c ≡ true
  passes_by true a b c k la lb lc ab bc = lower_passes t among set a b c k la lb lc ab bc
  passes_by false a b c k la lb lc ab bc = lower_passes t among set c b a k lc lb la bc ab

  begins_later : (a b : ℕ) → among a ≡ true → lo_of t b < lo_of t a → before (edge t b).lo (edge t a).lo ≡ true
  begins_later a b ha less = let u = up_of t among set a ha in corner_before t set.is_table (lo_of t b) (lo_of t a) less (omega (arith, u.0, u.1))

  -- where a begins behind the begin of b, their order is the side of that begin
  pub begins_by : (up : Bool) (a b : ℕ) → among a ≡ true → lo_of t b < lo_of t a → lower_by t up a b ≡ above_by t (not up) b (lo_of t a)
  begins_by true a b ha less = let first = begins_later a b ha less in cond-false (before (edge t a).lo (edge t b).lo) _ _ (before-asym_test (edge t b).lo (edge t a).lo first) ∙ cond-true (before (edge t b).lo (edge t a).lo) _ _ first
  begins_by false a b ha less = cond-true (before (edge t b).lo (edge t a).lo) _ _ (begins_later a b ha less)

  -- no edge has its own ends above or below it
  pub low-not_by : (up : Bool) (a : ℕ) → above_by t up a (lo_of t a) ≡ false
  low-not_by true a = on-not_above (edge t a) (edge t a).lo (low_is_on (edge t a))
  low-not_by false a = on-not_below (edge t a) (edge t a).lo (low_is_on (edge t a))

  pub high-not_by : (up : Bool) (a : ℕ) → above_by t up a (hi_of t a) ≡ false
  high-not_by true a = on-not_above (edge t a) (edge t a).hi (high_is_on (edge t a))
  high-not_by false a = on-not_below (edge t a) (edge t a).hi (high_is_on (edge t a))

  pub above-not_by : (up : Bool) (a k : ℕ) → above_by t up a k ≡ true → above_by t (not up) a k ≡ false
  above-not_by true a k h = above-not_below (edge t a) (corner t k) h
  above-not_by false a k h = false_from_ne_true (is_above (edge t a) (corner t k)) (λ above. not_above_and_below t among set a k above h)

  pub below-not_by : (up : Bool) (a k : ℕ) → above_by t (not up) a k ≡ true → above_by t up a k ≡ false
  below-not_by true a k h = above-not_by false a k h
  below-not_by false a k h = above-not_by true a k h

  pub common_by : (up : Bool) (a b k j : ℕ) → Live t among set a k → Live t among set b k → lower_by t up a b ≡ true → k ≤ j → j ≤ hi_of t a → j ≤ hi_of t b → above_by t (not up) b j ≡ false
      → (above_by t up a j ≡ true) ⊎ (((j ≡ lo_of t a) × (j ≡ lo_of t b)) ⊎ ((j ≡ hi_of t a) × (j ≡ hi_of t b)))
  common_by true a b k j la lb low le ja jb side = above_or_common t among set a b k j la lb low le ja jb side
  common_by false a b k j la lb low le ja jb side = elim (cases_Bool (is_below (edge t a) (corner t j))) [
    | inl below ↦ inl below
    | inr off ↦ elim (above_or_common t among set b a k j lb la low le jb ja off) [
      | inl above ↦ absurd (both_ways (is_above (edge t b) (corner t j)) side above)
      | inr common ↦ inr (elim common [ inl begins ↦ inl (begins.1, begins.0) | inr ends ↦ inr (ends.1, ends.0) ])
    ]
  ]

  -- the side passes on to a lower edge
  pub above_on : (up : Bool) (a b k j : ℕ) → Live t among set a k → Live t among set b k → lower_by t up a b ≡ true → k ≤ j → j ≤ hi_of t a → j ≤ hi_of t b → above_by t up b j ≡ true → above_by t up a j ≡ true
  above_on up a b k j la lb low le ja jb side = elim (common_by up a b k j la lb low le ja jb (above-not_by up b j side)) [
    | inl above ↦ above
    | inr common ↦ absurd (elim common [
      | inl begins ↦ both_ways _ (low-not_by up b) (subst (λ i. above_by t up b i ≡ true) begins.1 side)
      | inr ends ↦ both_ways _ (high-not_by up b) (subst (λ i. above_by t up b i ≡ true) ends.1 side)
    ])
  ]

  -- where one ends before the other, it ends on its side
  pub ends_by : (up : Bool) (a b k : ℕ) → Live t among set a k → Live t among set b k → lower_by t up a b ≡ true → hi_of t a < hi_of t b → above_by t (not up) b (hi_of t a) ≡ true
  ends_by true a b k la lb low less = lower_ends_below (edge t a) (edge t b) (corner t k) (alive_from t among set a k la) (alive_from t among set b k lb) (quiet t among set a b la.is_among lb.is_among) low (corner_before t set.is_table (hi_of t a) (hi_of t b) less (up_of t among set b lb.is_among).1)
  ends_by false a b k la lb low less = higher_ends_above (edge t b) (edge t a) (corner t k) (alive_from t among set b k lb) (alive_from t among set a k la) (quiet t among set b a lb.is_among la.is_among) low (corner_before t set.is_table (hi_of t a) (hi_of t b) less (up_of t among set b lb.is_among).1)

  pub ends_beyond : (up : Bool) (a b k : ℕ) → Live t among set a k → Live t among set b k → lower_by t up a b ≡ true → hi_of t b < hi_of t a → above_by t up a (hi_of t b) ≡ true
  ends_beyond true a b k la lb low less = ends_by false b a k lb la low less
  ends_beyond false a b k la lb low less = ends_by true b a k lb la low less

  pub beside_by : (up : Bool) (a f k : ℕ) → among a ≡ true → among f ≡ true → ends_at t k f ≡ true → lo_of t a < k → k < hi_of t a → (above_by t up a k ≡ true) ⊎ (above_by t (not up) a k ≡ true)
  beside_by true a f k ha hf is_end_of after earlier = beside t among set a f k ha hf is_end_of after earlier
  beside_by false a f k ha hf is_end_of after earlier = elim (beside t among set a f k ha hf is_end_of after earlier) [ inl above ↦ inr above | inr below ↦ inl below ]
