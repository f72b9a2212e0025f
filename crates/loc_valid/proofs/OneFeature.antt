-- The layer and the table of one polygon alone: one feature, and cover lists of at most one member.
use Rattle.std.proofs.Common.{◌≡◌, ℕ, ◌≤◌, Bool, true, List, [], ◌∷◌, length, map, refl, ◌∙◌, ap, inl, inr, arith}
use Rattle.std.specs.{Prelude.nat_lt, Prelude.sum_by, List.list_all}
use Rattle.std.proofs.lemmas.Bool.{and_parts, and_from, cases_Bool, cond-true, cond-false, lt-ltb, ltb-true}
use Rattle.std.proofs.{lemmas.List.append-nil, lemmas.List.length-map, lemmas.List.FromFn.length-range_with_len}
use Rattle.std.proofs.lemmas.List.Sums.{count_by-le-length, length-filter, sum_by-cons}
use Rattle.loc_spec_plane.specs.{Lists.numbers, Lists.sorted_set, Lists.with_member, Rings.Rings}
use Rattle.loc_spec_plane.specs.Tables.{Table, edge_numbers}
use Rattle.loc_spec_plane.specs.Covers.{cover_above, cover_lists, cover_sum, feature_count, is_over, list_before}
use Rattle.loc_laws_noding.proofs.SortedSet.{length-sorted_set}
use Rattle.loc_rings.specs.Values.{unnamed}
use Rattle.loc_edges.specs.Layers.{layer_rings}

-- the rings of a layer of one polygon
pub one_polygon : (rings : Rings) → layer_rings (unnamed rings ∷ []) ≡ rings ∷ []
one_polygon rings = ap (λ (rs : Rings). rs ∷ []) (append-nil rings)

-- what all members pass those of the sorted set pass
module _ {X : Type 0} (comes_before : X → X → Bool) (p : X → Bool) where
  all_with : (x : X) (xs : List X) → p x ≡ true → list_all p xs ≡ true → list_all p (with_member comes_before x xs) ≡ true
  all_with x [] h all = and_from _ _ h refl
  all_with x (y ∷ ys) h all =
      let parts = and_parts (p y) (list_all p ys) all in
      elim (cases_Bool (comes_before x y)) [
        | inl first ↦ ap (list_all p) (cond-true _ _ _ first) ∙ and_from _ _ h all
        | inr not_first ↦ ap (list_all p) (cond-false _ _ _ not_first) ∙ elim (cases_Bool (comes_before y x)) [
          | inl later ↦ ap (list_all p) (cond-true _ _ _ later) ∙ and_from _ _ parts.0 (all_with x ys h parts.1)
          | inr same ↦ ap (list_all p) (cond-false _ _ _ same) ∙ all
        ]
      ]

  all_set : (xs : List X) → list_all p xs ≡ true → list_all p (sorted_set comes_before xs) ≡ true
  all_set [] all = refl
  all_set (x ∷ xs) all = let parts = and_parts (p x) (list_all p xs) all in all_with x (sorted_set comes_before xs) parts.0 (all_set xs parts.1)

-- a list of at most one member
abbrev is_short : List ℕ → Bool
is_short xs = nat_lt (length xs) 2

short_sum : (lists : List (List ℕ)) → list_all is_short lists ≡ true → sum_by length lists ≤ length lists
short_sum [] all = omega arith
short_sum (xs ∷ lists) all =
    let parts = and_parts (is_short xs) (list_all is_short lists) all in
    let short = ltb-true (length xs) 2 parts.0 in
    omega (arith, sum_by-cons length xs lists, short, short_sum lists parts.1)

module _ (t : Table) (one : feature_count t ≤ 1) where
  each_short : (es : List ℕ) → list_all is_short (map (cover_above t) es) ≡ true
  each_short [] = refl
  each_short (e ∷ es) = and_from _ _ (lt-ltb (length (cover_above t e)) 2 (omega (arith, one, length-filter (is_over t e) (numbers (feature_count t)), count_by-le-length (is_over t e) (numbers (feature_count t)), length-range_with_len 0 (feature_count t)))) (each_short es)

  -- the cover lists have no more members together than there are edges
  pub few_members : cover_sum t ≤ length t.ends
  few_members = omega (arith, short_sum (cover_lists t) (all_set list_before is_short (map (cover_above t) (edge_numbers t)) (each_short (edge_numbers t))), length-sorted_set list_before (map (cover_above t) (edge_numbers t)), length-map (edge_numbers t) (cover_above t), length-range_with_len 0 (length t.ends))
