-- Segments in their order begin in order.
use Rattle.std.proofs.Common.{◌≡◌, ℕ, zero, suc, ◌+◌, ◌-◌, ◌<◌, true, ◌&&◌, List, length, ap, subst, arith}
use Rattle.std.specs.{Ordering.is_lt, List.Sorted.IsSorted}
use Rattle.std.proofs.lemmas.Bool.{both_ways, or_left, false_from_ne_true, not_from_false}
use Rattle.loc_spec_plane.specs.Points.{Edge, before, same_point, up_to}
use Rattle.loc_laws_order.proofs.Tests.{up_to_trans, up_to_refl}
use Rattle.loc_laws_noding.proofs.{Orders.edge_cmp, Orders.edges_by_before, SortedSet.less}
use Rattle.loc_spans.specs.Rows.{row_at, BeginInOrder}

module _ (rows : List Edge) (sorted : IsSorted edge_cmp rows) where
  one_on : (k : ℕ) (d : Edge) → k + 1 < length rows → up_to (row_at rows k d).lo (row_at rows (k + 1) d).lo ≡ true
  one_on k d lt = not_from_false (before (row_at rows (k + 1) d).lo (row_at rows k d).lo) (false_from_ne_true (before (row_at rows (k + 1) d).lo (row_at rows k d).lo) (λ h.
      both_ways _ (sorted k d (omega arith) lt) (ap is_lt (less edges_by_before (row_at rows (k + 1) d) (row_at rows k d)
      (or_left (before (row_at rows (k + 1) d).lo (row_at rows k d).lo) (same_point (row_at rows (k + 1) d).lo (row_at rows k d).lo && before (row_at rows (k + 1) d).hi (row_at rows k d).hi) h)))))

  many_on : (i n : ℕ) (d : Edge) → i + n < length rows → up_to (row_at rows i d).lo (row_at rows (i + n) d).lo ≡ true
  many_on i zero d lt = let same : i ≡ i + 0 = omega arith in subst (λ k. up_to (row_at rows i d).lo (row_at rows k d).lo ≡ true) same (up_to_refl (row_at rows i d).lo)
  many_on i (suc n) d lt =
      let next : (i + n) + 1 ≡ i + suc n = omega arith in
      subst (λ k. up_to (row_at rows i d).lo (row_at rows k d).lo ≡ true) next
      (up_to_trans (row_at rows i d).lo (row_at rows (i + n) d).lo (row_at rows ((i + n) + 1) d).lo (many_on i n d (omega arith)) (one_on (i + n) d (omega arith)))

  pub begin_in_order : BeginInOrder rows
  begin_in_order i j d le lt =
      let same : i + (j - i) ≡ j = omega arith in
      subst (λ k. up_to (row_at rows i d).lo (row_at rows k d).lo ≡ true) same (many_on i (j - i) d (omega arith))
