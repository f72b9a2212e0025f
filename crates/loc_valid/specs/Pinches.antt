-- The rings at the ends of edges. The words:
--   ends_by, ring_ends   a ring with each end of its edges, edge by edge
--   pair_cmp             the order of pairs
--   same_pair, IsFirstThrice  the least pair that stands in a list more than twice
use Rattle.std.specs.Prelude.{ℕ, ◌<◌, ◌≤◌, Bool, ◌&&◌, List, [], ◌∷◌, get_or, count_by, Option, Some, None, IsTrue, ◌==◌}
use Rattle.std.specs.{List.flat_map, Ordering.nat_cmp, Ordering.ordering_then, declared.cmp.Ordering.Ordering}
use Rattle.loc_spec_plane.specs.{declared.Mark.Mark, Tables.Table, Tables.edge_numbers, Tables.pair_before}

-- each ring that has an edge, with both ends of the edge
abbrev pub ends_by : ℕ × ℕ → List Mark → List (ℕ × ℕ)
ends_by ends marks = flat_map (λ (m : Mark). (m.feature, ends.0) ∷ (m.feature, ends.1) ∷ []) marks

-- those of some edges
abbrev pub ring_ends_of : Table → List ℕ → List (ℕ × ℕ)
ring_ends_of t es = flat_map (λ e. ends_by (get_or t.ends e (0, 0)) (get_or t.marks e [])) es

-- those of all edges
abbrev pub ring_ends : Table → List (ℕ × ℕ)
ring_ends t = ring_ends_of t (edge_numbers t)

-- pairs are ordered by their first and then by their second numbers
abbrev pub pair_cmp : ℕ × ℕ → ℕ × ℕ → Ordering
pair_cmp a b = ordering_then (nat_cmp a.0 b.0) (nat_cmp a.1 b.1)

-- two pairs are one
abbrev pub same_pair : ℕ × ℕ → ℕ × ℕ → Bool
same_pair a b = (a.0 == b.0) && (a.1 == b.1)

-- the pair stands there more than twice, and no lesser one does; or none does
abbrev pub IsFirstThrice : List (ℕ × ℕ) → Option (ℕ × ℕ) → Type 0
IsFirstThrice pairs None = (x : ℕ × ℕ) → count_by (same_pair x) pairs ≤ 2
IsFirstThrice pairs (Some x) = (2 < count_by (same_pair x) pairs) × ((y : ℕ × ℕ) → IsTrue (pair_before y x) → count_by (same_pair y) pairs ≤ 2)
