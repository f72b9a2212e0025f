-- A table whose marks are exchanged: one feature has an odd mark on each edge that passes a test. Its corners and edges stay, so all that is said of these stays.
use Rattle.std.proofs.Common.{◌≡◌, ◌≢◌, ◌⊎◌, ℕ, ◌+◌, ◌-◌, ◌<◌, Bool, true, false, not, ◌&&◌, ◌||◌, List, [], ◌∷◌, map, length, get_or, sym, ◌∙◌, ap, subst, inl, inr, arith}
use Rattle.std.specs.Prelude.{nat_lt, ◌==◌, if◌then◌else◌}
use Rattle.std.specs.List.{list_any}
use Rattle.std.proofs.lemmas.Bool.{and_right, cases_Bool, cases_eq, cases_lt, ne_eqb, cond-true, cond-false, ltb-true, not_from_false}
use Rattle.std.proofs.lemmas.List.{length-map, get_or_past}
use Rattle.std.proofs.lemmas.List.FromFn.{get_or-map-range_with_len, length-range_with_len}
use Rattle.loc_spec_plane.specs.{Lists.is_rising, Lists.odd_many, declared.Mark.Mark}
use Rattle.loc_spec_plane.specs.Tables.{Table, IsTable, AllEven, edge_numbers, ends_at, has_odd, mark_before}
use Rattle.loc_laws_order.proofs.TableOrder.{numbers_within}
use Rattle.loc_laws_rays.proofs.Parity.{odd_many-agree, never}

-- the mark of the one feature where the test passes
abbrev pub mark_where : (ℕ → Bool) → ℕ → List Mark
mark_where keep e = if keep e then record { feature = 0; odd = true } ∷ [] else []

-- the table with these marks
abbrev pub marked_by : Table → (ℕ → Bool) → Table
marked_by t keep = record { corners = t.corners; ends = t.ends; marks = map (mark_where keep) (edge_numbers t); sources = t.sources }

module _ (t : Table) (keep : ℕ → Bool) where
  as_many : length (map (mark_where keep) (edge_numbers t)) ≡ length t.ends
  as_many = length-map (edge_numbers t) (mark_where keep) ∙ length-range_with_len 0 (length t.ends)

  marks_at : (e : ℕ) → e < length t.ends → get_or (marked_by t keep).marks e [] ≡ mark_where keep e
  marks_at e lt = get_or-map-range_with_len (mark_where keep) 0 (length t.ends) e e [] lt (omega arith)

  rises_where : (e : ℕ) → is_rising mark_before (mark_where keep e) ≡ true
  rises_where e = elim (cases_Bool (keep e)) [
    | inl yes_kept ↦ ap (is_rising mark_before) (cond-true (keep e) (record { feature = 0; odd = true } ∷ []) [] yes_kept)
    | inr not_kept ↦ ap (is_rising mark_before) (cond-false (keep e) (record { feature = 0; odd = true } ∷ []) [] not_kept)
  ]

  -- what the feature has, it has odd, and that is where the test passes
  odd_where : (e : ℕ) → list_any (λ (m : Mark). (m.feature == 0) && m.odd) (mark_where keep e) ≡ keep e
  odd_where e = elim (cases_Bool (keep e)) [
    | inl yes_kept ↦ ap (list_any (λ (m : Mark). (m.feature == 0) && m.odd)) (cond-true (keep e) (record { feature = 0; odd = true } ∷ []) [] yes_kept) ∙ sym yes_kept
    | inr not_kept ↦ ap (list_any (λ (m : Mark). (m.feature == 0) && m.odd)) (cond-false (keep e) (record { feature = 0; odd = true } ∷ []) [] not_kept) ∙ sym not_kept
  ]

  pub has_odd_is : (e : ℕ) → e < length t.ends → has_odd (marked_by t keep) 0 e ≡ keep e
  has_odd_is e lt = ap (list_any (λ (m : Mark). (m.feature == 0) && m.odd)) (marks_at e lt) ∙ odd_where e

  -- no other feature has a mark
  other_where : (f e : ℕ) → list_any (λ (m : Mark). (m.feature == f + 1) && m.odd) (mark_where keep e) ≡ false
  other_where f e = elim (cases_Bool (keep e)) [
    | inl yes_kept ↦ ap (list_any (λ (m : Mark). (m.feature == f + 1) && m.odd)) (cond-true (keep e) (record { feature = 0; odd = true } ∷ []) [] yes_kept) ∙ ap (λ b. (b && true) || false) (ne_eqb 0 (f + 1) (λ h. omega arith))
    | inr not_kept ↦ ap (list_any (λ (m : Mark). (m.feature == f + 1) && m.odd)) (cond-false (keep e) (record { feature = 0; odd = true } ∷ []) [] not_kept)
  ]

  other_odd : (f e : ℕ) → e < length t.ends → has_odd (marked_by t keep) (f + 1) e ≡ false
  other_odd f e lt = ap (list_any (λ (m : Mark). (m.feature == f + 1) && m.odd)) (marks_at e lt) ∙ other_where f e

  -- it is a table
  pub marked_is_table : IsTable t → IsTable (marked_by t keep)
  marked_is_table ok = record {
    corners_rise = ok.corners_rise;
    edges_rise = ok.edges_rise;
    goes_up = ok.goes_up;
    marks_fit = as_many;
    marks_rise = λ e. elim (cases_lt e (length t.ends)) [
      | inl lt ↦ ap (is_rising mark_before) (marks_at e lt) ∙ rises_where e
      | inr past ↦ ap (is_rising mark_before) (get_or_past (marked_by t keep).marks e [] (omega (arith, as_many)))
    ];
    sources_fit = ok.sources_fit;
    sources_go_up = ok.sources_go_up;
  }

  -- it is even where an even number of the edges that pass end at each corner
  pub marked_even : ((c : ℕ) → c < length t.corners → odd_many (λ e. ends_at t c e && keep e) (edge_numbers t) ≡ false) → AllEven (marked_by t keep)
  marked_even even c lt f = at (cases_eq f 0)
    where
      none : (g : ℕ) → odd_many (λ e. ends_at t c e && has_odd (marked_by t keep) (g + 1) e) (edge_numbers t) ≡ false
      none g = odd_many-agree (λ e. nat_lt e (length t.ends)) (λ e. ends_at t c e && has_odd (marked_by t keep) (g + 1) e) (λ e. false) (edge_numbers t) (numbers_within (length t.ends)) (λ e is_e. and_right (ends_at t c e) _ (other_odd g e (ltb-true e (length t.ends) is_e))) ∙ never (edge_numbers t)

      one : odd_many (λ e. ends_at t c e && has_odd (marked_by t keep) 0 e) (edge_numbers t) ≡ false
      one = odd_many-agree (λ e. nat_lt e (length t.ends)) (λ e. ends_at t c e && has_odd (marked_by t keep) 0 e) (λ e. ends_at t c e && keep e) (edge_numbers t) (numbers_within (length t.ends)) (λ e is_e. ap (λ b. ends_at t c e && b) (has_odd_is e (ltb-true e (length t.ends) is_e))) ∙ even c lt

      at : (f ≡ 0) ⊎ (f ≡ 0 → ⊥) → not (odd_many (λ e. ends_at t c e && has_odd (marked_by t keep) f e) (edge_numbers t)) ≡ true
      at (inl zero_f) = not_from_false _ (subst (λ g. odd_many (λ e. ends_at t c e && has_odd (marked_by t keep) g e) (edge_numbers t) ≡ false) (sym zero_f) one)
      at (inr other) =
          let ne : f ≢ 0 = other in
          let more : (f - 1) + 1 ≡ f = omega arith in
          not_from_false _ (subst (λ g. odd_many (λ e. ends_at t c e && has_odd (marked_by t keep) g e) (edge_numbers t) ≡ false) more (none (f - 1)))
