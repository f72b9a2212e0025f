-- How the edges of a chain stand to one of them at the next corner, where it ends.
use Rattle.std.proofs.Common.{◌≡◌, ℕ, ◌<◌, true, false, ◌&&◌, List, inl, inr, Some, slice_get}
use Rattle.std.specs.List.{list_all}
use Rattle.std.proofs.lemmas.Bool.{and_parts, or_cases, both_ways, false_from_ne_true}
use Rattle.loc_spec_plane.specs.Points.{Point, Edge, before, up_to, same_point, is_above}
use Rattle.loc_spec_plane.specs.Places.{lower, is_chain}
use Rattle.loc_laws_order.proofs.Sides.{above-not_below, on-not_above, on-not_below, high_is_on, same_point_refl, lower-asym}
use Rattle.loc_laws_order.proofs.ChainLaws.{chain_lower, chain_above_later, chain_ends}

module _ (es : List Edge) (p : Point) (e : Edge) (chain : is_chain p es ≡ true) (later : before p e.hi ≡ true) (reaching : list_all (λ (d : Edge). up_to e.hi d.hi) es ≡ true) (i j : ℕ) (d : Edge) where
  -- of the edges that end there an earlier one is lower
  pub ends_lower : i < j → slice_get es i ≡ Some d → slice_get es j ≡ Some e → same_point e.hi d.hi ≡ true → lower d e ≡ true
  ends_lower less at_i at_j common = chain_lower es p chain i j d e less at_i at_j (chain_ends es p chain i j d e less at_i at_j e.hi common (same_point_refl e.hi))

  pub ends_not_lower : i < j → slice_get es i ≡ Some e → slice_get es j ≡ Some d → same_point e.hi d.hi ≡ true → lower d e ≡ false
  ends_not_lower less at_i at_j common = false_from_ne_true (lower d e) (lower-asym e d (chain_lower es p chain i j e d less at_i at_j (chain_ends es p chain i j e d less at_i at_j e.hi (same_point_refl e.hi) common)))

  -- an earlier one that does not end there has the corner above it
  pub ends_above : i < j → slice_get es i ≡ Some d → slice_get es j ≡ Some e → same_point e.hi d.hi ≡ false → is_above d e.hi ≡ true
  ends_above less at_i at_j apart = elim (or_cases (is_above d e.hi) (same_point e.hi d.hi && same_point e.hi e.hi) (chain_above_later es p chain i j d e less at_i at_j e.hi later reaching (on-not_below e e.hi (high_is_on e)))) [
    | inl above ↦ above
    | inr common ↦ absurd (both_ways (same_point e.hi d.hi) apart (and_parts (same_point e.hi d.hi) (same_point e.hi e.hi) common).0)
  ]

  -- and a later one does not
  pub ends_not_above : i < j → slice_get es i ≡ Some e → slice_get es j ≡ Some d → same_point e.hi d.hi ≡ false → is_above d e.hi ≡ false
  ends_not_above less at_i at_j apart = false_from_ne_true (is_above d e.hi) (λ above.
      elim (or_cases (is_above e e.hi) (same_point e.hi e.hi && same_point e.hi d.hi) (chain_above_later es p chain i j e d less at_i at_j e.hi later reaching (above-not_below d e.hi above))) [
        | inl over ↦ both_ways (is_above e e.hi) (on-not_above e e.hi (high_is_on e)) over
        | inr common ↦ both_ways (same_point e.hi d.hi) apart (and_parts (same_point e.hi e.hi) (same_point e.hi d.hi) common).1
      ])
