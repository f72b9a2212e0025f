-- The rows of a legend are in order, and their numbers in range.
use Rattle.std.proofs.Common.{◌≡◌, ℕ, ◌<◌, ◌≤◌, Bool, true, not, ◌&&◌, List, [], ◌∷◌, length, get_or, map, refl, sym, ◌∙◌, ap, subst, inl, inr, arith, Option, Some, None}
use Rattle.std.specs.{Prelude.All, Prelude.IfSome, Prelude.nat_lt, List.list_all, List.list_any}
use Rattle.std.proofs.lemmas.Bool.{and_parts, and_from, both_ways, cases_lt, not_from_false, ltb-true, true_from_ne_false}
use Rattle.std.proofs.{lemmas.List.get_or_past, lemmas.List.length-map, lemmas.List.FromFn.length-range_with_len}
use Rattle.std.proofs.{lemmas.List.Folds.list_any_at, lemmas.Option.slice_get-get_or}
use Rattle.loc_spec_plane.specs.Lists.{IsRisingListOf, is_rising, numbers, sorted_set}
use Rattle.loc_spec_plane.specs.Points.{is_above}
use Rattle.loc_spec_plane.specs.Tables.{Table, corner, edge, edge_numbers, ends_at, has}
use Rattle.loc_spec_plane.specs.Places.{alive, alive_at, is_edge, IsFloor}
use Rattle.loc_spec_plane.specs.Covers.{cover_above, cover_lists, feature_count, is_over, list_before}
use Rattle.loc_laws_order.proofs.{ListLaws.is_in-get, Kept.all_filter, Sets.any_some}
use Rattle.loc_laws_order.proofs.TableOrder.{all_from, numbers_within}
use Rattle.loc_laws_rays.proofs.Members.{feature_below}
use Rattle.loc_edges.proofs.{Counts.length-sorted_set, SortedSet.any-sorted_set, SortedSet.rising-sorted_set}
use Rattle.loc_cover.specs.{Legends.AreLists, Legends.IsFew, Numbered.covers_of}
use Rattle.loc_cover.proofs.{Exchanging.all_below, Lexicographic.lists_by_before, Lexicographic.none_fails}
use Rattle.loc_cover.proofs.Numbering.{above_rises}

-- ---- the members of a list
-- the members of a sorted set pass what those of the list pass
sorted_pass : (q : List ℕ → Bool) (xs : List (List ℕ)) → list_all q xs ≡ true → (k : ℕ) (d : List ℕ) → k < length (sorted_set list_before xs) → q (get_or (sorted_set list_before xs) k d) ≡ true
sorted_pass q xs h k d fits = true_from_ne_false (q (get_or (sorted_set list_before xs) k d)) (λ fails. both_ways (list_any (λ x. not (q x)) (sorted_set list_before xs)) (any-sorted_set lists_by_before (λ x. not (q x)) xs ∙ none_fails q xs h) (list_any_at (λ x. not (q x)) (sorted_set list_before xs) k d fits (not_from_false (q (get_or (sorted_set list_before xs) k d)) fails)))

all_mapped : (q : List ℕ → Bool) (f : ℕ → List ℕ) (ns : List ℕ) → ((n : ℕ) → q (f n) ≡ true) → list_all q (map f ns) ≡ true
all_mapped q f [] each = refl
all_mapped q f (n ∷ ns) each = and_from (q (f n)) (list_all q (map f ns)) (each n) (all_mapped q f ns each)

-- ---- the cover lists
module _ (t : Table) where
  -- their features are counted
  pub covers_named : (most : ℕ) → feature_count t ≤ most → All (All (λ f. f < most)) (cover_lists t)
  covers_named most le = λ k d fits i e inside. ltb-true (get_or (get_or (cover_lists t) k d) i e) most
      (all_from (λ _ f. nat_lt f most) 0 e (get_or (cover_lists t) k d) i (sorted_pass (list_all (λ f. nat_lt f most)) (covers_of t) (all_mapped (list_all (λ f. nat_lt f most)) (cover_above t) (edge_numbers t) (λ e. all_filter (is_over t e) (λ f. nat_lt f most) (λ f. nat_lt f most) (λ f less _. less) (numbers (feature_count t)) (all_below (feature_count t) most (numbers (feature_count t)) le (numbers_within (feature_count t))))) k d fits) inside)

  -- and they are in order
  pub are_lists : IsFew t → AreLists (length t.ends) (cover_lists t)
  are_lists few = record {
    rise = rising-sorted_set lists_by_before (covers_of t);
    each_rises = λ n. elim (cases_lt n (length (cover_lists t))) [
      | inl fits ↦ sorted_pass (is_rising nat_lt) (covers_of t) (all_mapped (is_rising nat_lt) (cover_above t) (edge_numbers t) (above_rises t)) n [] fits
      | inr past ↦ ap (is_rising nat_lt) (get_or_past (cover_lists t) n [] past)
    ];
    few = omega (arith, length-sorted_set list_before (covers_of t), length-map (edge_numbers t) (cover_above t), length-range_with_len 0 (length t.ends));
    few_members = few;
  }

  -- ---- the features that touch
  pub marked_there : (c f : ℕ) (es : List ℕ) → list_any (λ e. ends_at t c e && has t f e) es ≡ true → f < feature_count t
  marked_there c f es h = let found = any_some (λ e. ends_at t c e && has t f e) es h in feature_below t f found.0 (and_parts (ends_at t c found.0) (has t f found.0) found.1).1

-- features that pass a test, where the features that pass it are below a number
pub named_by : (test : ℕ → Bool) (most : ℕ) (fs : List ℕ) → IsRisingListOf nat_lt test fs → ((f : ℕ) → test f ≡ true → f < most) → All (λ f. f < most) fs
named_by test most fs are below = λ k d fits. below (get_or fs k d) (sym (are.exact (get_or fs k d)) ∙ is_in-get fs k (get_or fs k d) (slice_get-get_or fs k d fits))

-- an empty row has no feature at all
pub none_named : (most : ℕ) → All (λ f. f < most) []
none_named most k d fits = absurd (omega arith)

-- what follows of each row, and is so of an empty row, is so of every row and behind them
pub each_row : (P : ℕ → List ℕ → Type 0) (Q : List ℕ → Type 0) (rows : List (List ℕ)) → ((n : ℕ) (fs : List ℕ) → P n fs → Q fs) → Q [] → ((n : ℕ) → n < length rows → P n (get_or rows n [])) → (n : ℕ) → Q (get_or rows n [])
each_row P Q rows follows none each n = elim (cases_lt n (length rows)) [
  | inl fits ↦ follows n (get_or rows n []) (each n fits)
  | inr past ↦ subst Q (sym (get_or_past rows n [] past)) none
]

-- a floor is an edge
pub floor_in_range : (t : Table) (c : ℕ) (floor : Option ℕ) → IsFloor t (corner t c) floor → IfSome floor (λ e. e < length t.ends)
floor_in_range t c None is = tt
floor_in_range t c (Some e) is =
    let top = and_parts (alive_at t (corner t c) e) (is_above (edge t e) (corner t c)) is.0 in
    ltb-true e (length t.ends) (and_parts (is_edge t e) (alive (edge t e) (corner t c)) top.0).0

-- a floor that stands there is in range
pub floor_there : (floors : List (Option ℕ)) (most : ℕ) → All (λ floor. IfSome floor (λ e. e < most)) floors → (c e : ℕ) → get_or floors c None ≡ Some e → e < most
floor_there floors most each c e at = elim (cases_lt c (length floors)) [
  | inl fits ↦ subst (λ o. IfSome o (λ k. k < most)) at (each c None fits)
  | inr past ↦ absurd (let none = get_or_past floors c None past in cc (none, at))
]
