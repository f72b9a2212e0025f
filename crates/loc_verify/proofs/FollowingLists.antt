-- Where each list follows from the one just below it, all lists are those above their edges: by the rank of the edges.
use Rattle.std.proofs.Common.{◌≡◌, ℕ, zero, suc, ◌+◌, ◌<◌, List, [], length, get_or, Option, None, Some, refl, subst, arith}
use Rattle.std.specs.Prelude.{nat_lt}
use Rattle.loc_spec_plane.specs.{Lists.IsRisingListOf, Lists.exactly_one, Lists.is_in, Tables.Table, Tables.IsTable}
use Rattle.loc_spec_plane.specs.{Places.IsJustBelow, Covers.cover_above, Covers.cover_of_floor}
use Rattle.loc_cover.specs.{Exchanges.is_marked_odd, Legends.LegendRows, Legends.list_above, Legends.list_over}
use Rattle.loc_cover.specs.Numbered.{AreBelow, IsEven}
use Rattle.loc_cover.proofs.{Numbering.list_is, Ranked.below_ranked, Ranked.below_within, Ranked.rank}
use Rattle.loc_verify.specs.Following.{IsNext}

module _ (t : Table) (ok : IsTable t) (even : IsEven t) (rows : LegendRows) (below : List (Option ℕ)) (are : AreBelow t below) (next : (e : ℕ) → e < length t.ends → IsNext t rows (get_or below e None) e) where
  -- the list over a floor whose rank is less
  floor_right : (n : ℕ) → ((e : ℕ) → e < length t.ends → rank t e < n → list_above rows e ≡ cover_above t e) → (e : ℕ) → e < length t.ends → rank t e < n + 1 → (floor : Option ℕ) → IsJustBelow t e floor → list_over rows floor ≡ cover_of_floor t floor
  floor_right n lesser e fits ranked None is = refl
  floor_right n lesser e fits ranked (Some d) is = lesser d (below_within t ok even.apart e d fits is) (let less = below_ranked t ok even.apart e d fits is in omega (arith, less, ranked))

  lists_to : (n : ℕ) → (e : ℕ) → e < length t.ends → rank t e < n → list_above rows e ≡ cover_above t e
  lists_to zero e fits ranked = absurd (omega (arith, ranked))
  lists_to (suc n) e fits ranked =
      let floor = get_or below e None in
      list_is t ok even.all_ends even.all_even even.apart e fits floor (list_above rows e) (are.are e fits)
      (subst (λ xs. IsRisingListOf nat_lt (λ f. exactly_one (is_marked_odd (get_or t.marks e []) f) (is_in f xs)) (list_above rows e)) (floor_right n (lists_to n) e fits (omega (arith, ranked)) floor (are.are e fits)) (next e fits))

  pub lists_right : (e : ℕ) → e < length t.ends → list_above rows e ≡ cover_above t e
  lists_right e fits = lists_to (rank t e + 1) e fits (omega arith)
