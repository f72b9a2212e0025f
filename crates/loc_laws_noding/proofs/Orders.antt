-- The derived orders of points and of edges, by which sorting goes, are orders of the plane.
use Rattle.std.proofs.Common.{◌≡◌, true, ◌&&◌, subst, inl, inr, Ordering, int_cmp}
use Rattle.std.specs.{Ordering.ordering_then, Cmp.IsTotalOrder}
use Rattle.std.proofs.lemmas.Bool.{and_parts, or_cases, both_ways}
use Rattle.std.proofs.lemmas.Cmp.{on_total, then_total, int_cmp_total}
use Rattle.loc_spec_plane.specs.Points.{Point, Edge, before, same_point, edge_before}
use Rattle.loc_laws_order.proofs.Ranks.{point_rank, edge_rank}
use Rattle.loc_laws_order.proofs.Sides.{before-asym_test, before-differ, same_point-true, same_point_refl}
use Rattle.loc_laws_noding.proofs.SortedSet.{IsOrderBy}

-- the derived order of points
abbrev pub point_cmp : Point → Point → Ordering
point_cmp p q = ordering_then (int_cmp p.x q.x) (int_cmp p.y q.y)

-- the derived order of edges
abbrev pub edge_cmp : Edge → Edge → Ordering
edge_cmp a b = ordering_then (point_cmp a.lo b.lo) (point_cmp a.hi b.hi)

-- it is an order
point_cmp_total : IsTotalOrder point_cmp
point_cmp_total = then_total (on_total (λ (p : Point). p.x) int_cmp_total) (on_total (λ (p : Point). p.y) int_cmp_total)

-- points are sorted by `before`
pub points_by_before : IsOrderBy point_cmp before
points_by_before = record { total = point_cmp_total; ranked = point_rank; asym = λ p q h k. both_ways (before q p) (before-asym_test p q h) k }

-- not both edges come before the other
edge_before-asym : (a b : Edge) → edge_before a b ≡ true → edge_before b a ≡ true → ⊥
edge_before-asym a b h k = elim (or_cases (before a.lo b.lo) (same_point a.lo b.lo && before a.hi b.hi) h) [
  | inl first ↦ elim (or_cases (before b.lo a.lo) (same_point b.lo a.lo && before b.hi a.hi) k) [
    | inl second ↦ both_ways _ (before-asym_test a.lo b.lo first) second
    | inr second ↦ same_then_before b.lo a.lo (and_parts _ _ second).0 first
  ]
  | inr first ↦ elim (or_cases (before b.lo a.lo) (same_point b.lo a.lo && before b.hi a.hi) k) [
    | inl second ↦ same_then_before a.lo b.lo (and_parts _ _ first).0 second
    | inr second ↦ both_ways _ (before-asym_test a.hi b.hi (and_parts (same_point a.lo b.lo) (before a.hi b.hi) first).1) (and_parts (same_point b.lo a.lo) (before b.hi a.hi) second).1
  ]
]
  where
    same_then_before : (p q : Point) → same_point p q ≡ true → before q p ≡ true → ⊥
    same_then_before p q same h = both_ways (same_point q p) (before-differ q p h) (subst (λ (r : Point). same_point r p ≡ true) (same_point-true p q same) (same_point_refl p))

-- edges are sorted by `edge_before`
pub edges_by_before : IsOrderBy edge_cmp edge_before
edges_by_before = record {
  total = then_total (on_total (λ (e : Edge). e.lo) point_cmp_total) (on_total (λ (e : Edge). e.hi) point_cmp_total);
  ranked = edge_rank;
  asym = edge_before-asym;
}
