-- Every cover list of a true legend is named by an edge: by one above which it is.
use Rattle.std.proofs.Common.{◌≡◌, ℕ, ◌<◌, true, List, [], length, get_or, refl, sym, ◌∙◌, ap, subst, inl, inr, arith, ◌==◌}
use Rattle.std.specs.{List.list_any, Str.bytes_eq}
use Rattle.std.proofs.lemmas.Bool.{both_ways, cases_order, eq-eqb}
use Rattle.std.proofs.lemmas.List.{get_or-map, length-map}
use Rattle.std.proofs.lemmas.List.Folds.{Any-from_list_any, list_any_at}
use Rattle.std.proofs.lemmas.List.FromFn.{get_or-range_with_len, length-range_with_len}
use Rattle.std.proofs.lemmas.Slice.Eq.{bytes_eq-Decides}
use Rattle.loc_spec_plane.specs.{Covers.cover_above, Covers.list_before, Lists.is_in, Lists.is_rising}
use Rattle.loc_spec_plane.specs.Tables.{Table, edge_numbers}
use Rattle.loc_laws_order.proofs.TableOrder.{rises}
use Rattle.loc_laws_noding.proofs.SortedSet.{any-sorted_set, irrefl}
use Rattle.loc_cover.specs.{Legends.LegendRows, Legends.IsSound, Legends.IsTrueLegend, Numbered.covers_of}
use Rattle.loc_cover.proofs.Lexicographic.{lists_by_before}

-- in a rising list of lists equal ones stand at one place
one_place : (lists : List (List ℕ)) (i j : ℕ) → is_rising list_before lists ≡ true → i < length lists → j < length lists → get_or lists i [] ≡ get_or lists j [] → i ≡ j
one_place lists i j rise li lj same = elim (cases_order i j) [
  | inl is ↦ is
  | inr differ ↦ elim differ [
    | inl less ↦ absurd (itself (get_or lists j []) (subst (λ (l : List ℕ). list_before l (get_or lists j []) ≡ true) same (rises list_before [] lists i j rise less lj)))
    | inr more ↦ absurd (itself (get_or lists j []) (subst (λ (l : List ℕ). list_before (get_or lists j []) l ≡ true) same (rises list_before [] lists j i rise more li)))
  ]
]
  where
    itself : (l : List ℕ) → list_before l l ≡ true → ⊥
    itself l h = both_ways (list_before l l) (irrefl lists_by_before l) h

module _ (t : Table) (rows : LegendRows) (sound : IsSound rows) (legend : IsTrueLegend t rows) (as_many : length rows.above ≡ length t.ends) where
  -- a list is above some edge
  above_one : (n : ℕ) → n < length rows.lists → (e : ℕ) × (e < length t.ends) × (cover_above t e ≡ get_or rows.lists n [])
  above_one n fits =
      let list = get_or rows.lists n [] in
      let here : list_any (bytes_eq list) rows.lists ≡ true = list_any_at (bytes_eq list) rows.lists n [] fits ((bytes_eq-Decides list list).1 refl) in
      let among : list_any (bytes_eq list) (covers_of t) ≡ true = sym (any-sorted_set lists_by_before (bytes_eq list) (covers_of t)) ∙ (ap (list_any (bytes_eq list)) (sym legend.lists) ∙ here) in
      let one = Any-from_list_any (bytes_eq list) (covers_of t) among in
      let within : one.0 < length t.ends = omega (arith, one.2, length-map (edge_numbers t) (cover_above t), length-range_with_len 0 (length t.ends)) in
      let counted : one.0 < length (edge_numbers t) = omega (arith, within, length-range_with_len 0 (length t.ends)) in
      let number : get_or (edge_numbers t) one.0 0 ≡ one.0 = get_or-range_with_len 0 (length t.ends) one.0 0 within ∙ (omega arith) in
      let is : get_or (covers_of t) one.0 one.1 ≡ cover_above t one.0 = get_or-map (cover_above t) (edge_numbers t) one.0 0 one.1 counted ∙ ap (cover_above t) number in
      (one.0, within, sym is ∙ (one.3 ∙ sym ((bytes_eq-Decides list one.1).0 one.4)))

  -- and that edge names it
  pub every_named : (n : ℕ) → n < length rows.lists → is_in n rows.above ≡ true
  every_named n fits =
      let one = above_one n fits in
      let named : one.0 < length rows.above = omega (arith, one.1, as_many) in
      let number = get_or rows.above one.0 0 in
      let same : number ≡ n = one_place rows.lists number n sound.lists.rise (sound.above_in_range one.0 named) fits (legend.above one.0 one.1 ∙ one.2) in
      list_any_at (λ m. m == n) rows.above one.0 0 named (eq-eqb number n same)
