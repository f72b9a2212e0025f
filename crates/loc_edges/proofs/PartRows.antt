-- The table of parts that stand in order is a table.
use Rattle.std.proofs.Common.{◌≡◌, ℕ, suc, ◌<◌, ◌≤◌, true, List, [], ◌∷◌, length, get_or, map, sym, ◌∙◌, ap, subst, inl, inr, arith}
use Rattle.std.specs.Prelude.{All, ◌==◌}
use Rattle.std.specs.{List.flat_map, List.Sorted.IsNonDecreasingBy}
use Rattle.std.proofs.lemmas.Bool.{cases_Bool, cases_lt, cond-true, cond-false}
use Rattle.std.proofs.lemmas.List.Elements.{All-append, All-cons}
use Rattle.std.proofs.lemmas.List.{length-map, get_or-map, get_or_past}
use Rattle.std.proofs.lemmas.List.FromFn.{length-map-range_with_len, get_or-map-range_with_len}
use Rattle.loc_spec_plane.specs.{declared.Mark.Mark, Points.Point, Points.before, Lists.is_rising, Lists.numbers}
use Rattle.loc_spec_plane.specs.{Tables.IsTable, Tables.mark_before, Tables.pair_before, Covers.feature_count}
use Rattle.loc_laws_rays.proofs.Members.{feature_count_within}
use Rattle.loc_edges.specs.{Ending.row_of, Kept.AreEdges}
use Rattle.loc_edges.specs.Parts.{GoesUpBelow, edge_mark_before, edge_of_pair, table_of_parts, table_with}
use Rattle.loc_edges.proofs.EndingRows.{firsts_rise, row_rises}

-- the numbers of the edges of marks in order rise
pub marked_edges_rise : (marks : List (ℕ × Mark)) → is_rising edge_mark_before marks ≡ true → IsNonDecreasingBy (λ (m : ℕ × Mark). m.0) marks
marked_edges_rise marks up = firsts_rise mark_before marks up

-- the marks of each edge are in order
mark_rows_rise : (marks : List (ℕ × Mark)) (count e : ℕ) → is_rising edge_mark_before marks ≡ true → is_rising mark_before (get_or (map (row_of marks) (numbers count)) e []) ≡ true
mark_rows_rise marks count e up = elim (cases_lt e count) [
  | inl fits ↦ ap (is_rising mark_before) (get_or-map-range_with_len (row_of marks) 0 count e e [] fits (omega arith)) ∙ row_rises mark_before e marks up
  | inr past ↦ ap (is_rising mark_before) (get_or_past (map (row_of marks) (numbers count)) e [] (omega (arith, length-map-range_with_len (row_of marks) 0 count)))
]

module _ (corners : List Point) (ends : List (ℕ × ℕ)) (marks : List (ℕ × Mark)) (sources : List (ℕ × ℕ)) where
  -- the table of parts in order
  pub parts-is_table : is_rising before corners ≡ true → is_rising pair_before ends ≡ true → All (GoesUpBelow (length corners)) ends → is_rising edge_mark_before marks ≡ true → length sources ≡ length ends → All (GoesUpBelow (length corners)) sources → IsTable (table_of_parts corners ends marks sources)
  parts-is_table corners_rise edges_rise up marks_rise sources_fit sources_up = record {
    corners_rise = corners_rise;
    edges_rise = edges_rise;
    goes_up = λ e fits. up e (0, 0) fits;
    marks_fit = length-map-range_with_len (row_of marks) 0 (length ends);
    marks_rise = λ e. mark_rows_rise marks (length ends) e marks_rise;
    sources_fit = sources_fit;
    sources_go_up = λ e fits. sources_up e (0, 0) (omega (arith, fits, sources_fit));
  }

-- ---- the features
module _ (P : Mark → Type 0) (marks : List (ℕ × Mark)) where
  row_all : (c : ℕ) (ms : List (ℕ × Mark)) → All (λ (m : ℕ × Mark). P m.1) ms → All P (row_of ms c)
  row_all c [] each = λ k d lt. absurd (omega arith)
  row_all c (m ∷ ms) each =
      let rest = row_all c ms (λ k d lt. each (suc k) d (omega arith)) in
      elim (cases_Bool (m.0 == c)) [
        | inl here ↦ subst (λ qs. All P (map (λ (q : ℕ × Mark). q.1) qs)) (sym (cond-true _ _ _ here)) (All-cons P m.1 (row_of ms c) (each 0 m (omega arith)) rest)
        | inr other ↦ subst (λ qs. All P (map (λ (q : ℕ × Mark). q.1) qs)) (sym (cond-false _ _ _ other)) rest
      ]

  rows_all : (ns : List ℕ) → All (λ (m : ℕ × Mark). P m.1) marks → All P (flat_map (λ ms. ms) (map (row_of marks) ns))
  rows_all [] each = λ k d lt. absurd (omega arith)
  rows_all (n ∷ ns) each = All-append P (row_of marks n) (flat_map (λ ms. ms) (map (row_of marks) ns)) (row_all n marks each) (rows_all ns each)

-- the features of the marks are counted
pub parts-features : (corners : List Point) (ends : List (ℕ × ℕ)) (marks : List (ℕ × Mark)) (sources : List (ℕ × ℕ)) (most : ℕ) → All (λ (m : ℕ × Mark). m.1.feature < most) marks → feature_count (table_of_parts corners ends marks sources) ≤ most
parts-features corners ends marks sources most each = feature_count_within (table_of_parts corners ends marks sources) most (rows_all (λ (m : Mark). m.feature < most) marks (numbers (length ends)) each)

-- the edges by their points, from the pairs
pub edges-are : (corners : List Point) (ends : List (ℕ × ℕ)) (rows : List (List Mark)) (sources : List (ℕ × ℕ)) → AreEdges (table_with corners ends rows sources) (map (edge_of_pair corners) ends)
edges-are corners ends rows sources = record {
  as_many = length-map ends (edge_of_pair corners);
  are = λ n d fits. get_or-map (edge_of_pair corners) ends n (0, 0) d (omega (arith, length-map ends (edge_of_pair corners)));
}
