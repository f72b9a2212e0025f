-- The edges of a table as a list: in order, and two of the list conflict exactly where two of the table do.
use Rattle.std.proofs.Common.{◌≡◌, ℕ, ◌<◌, true, ◌||◌, ◌&&◌, length, get_or, Some, ◌∙◌, ap, subst, inl, inr, arith, slice_get}
use Rattle.std.specs.Prelude.{IsTrue, not, nat_lt, ◌==◌}
use Rattle.std.proofs.lemmas.Bool.{and_from, and_parts, eqb-true, ltb-true, not-true, not_from_false, or_cases, or_right}
use Rattle.std.proofs.{lemmas.List.length-map, lemmas.List.Folds.list_any_at, lemmas.List.Folds.list_any_none}
use Rattle.std.proofs.lemmas.List.FromFn.{get_or-map-range_with_len, length-range_with_len}
use Rattle.std.proofs.lemmas.Option.{slice_get-get_or}
use Rattle.loc_spec_plane.specs.Points.{Edge, before, same_point, edge_before, conflict}
use Rattle.loc_spec_plane.specs.Tables.{Table, IsTable, NoConflict, corner, edge, edge_numbers, lo_of, hi_of, pair_before}
use Rattle.loc_laws_order.proofs.{Sides.same_point_refl, TableOrder.corner_before, TableOrder.rises}
use Rattle.loc_edges.specs.Conflicts.{conflicts_with, table_edges, has_conflict}

length-table_edges : (t : Table) → length (table_edges t) ≡ length t.ends
length-table_edges t = length-map (edge_numbers t) (edge t) ∙ length-range_with_len 0 (length t.ends)

table_edges-at : (t : Table) (k : ℕ) (d : Edge) → k < length t.ends → get_or (table_edges t) k d ≡ edge t k
table_edges-at t k d fits = get_or-map-range_with_len (edge t) 0 (length t.ends) k k d fits (omega arith)

-- edge k stands at place k
pub table_edges-get : (t : Table) (k : ℕ) → k < length t.ends → slice_get (table_edges t) k ≡ Some (edge t k)
table_edges-get t k fits = slice_get-get_or (table_edges t) k (edge t k) (omega (arith, length-table_edges t)) ∙ ap Some (table_edges-at t k (edge t k) fits)

-- of two edges of a table the lesser number is the lesser edge
pub edges_in_order : (t : Table) → IsTable t → (a b : ℕ) → a < b → b < length t.ends → edge_before (edge t a) (edge t b) ≡ true
edges_in_order t ok a b less fits =
    let up_a = ok.goes_up a (omega arith) in
    let up_b = ok.goes_up b fits in
    elim (or_cases (nat_lt (lo_of t a) (lo_of t b)) ((lo_of t a == lo_of t b) && nat_lt (hi_of t a) (hi_of t b)) (rises pair_before (0, 0) t.ends a b ok.edges_rise less fits)) [
      | inl low ↦ ap (λ x. x || (same_point (edge t a).lo (edge t b).lo && before (edge t a).hi (edge t b).hi)) (corner_before t ok (lo_of t a) (lo_of t b) (ltb-true (lo_of t a) (lo_of t b) low) (omega (arith, up_b.0, up_b.1)))
      | inr high ↦ (let parts = and_parts (lo_of t a == lo_of t b) (nat_lt (hi_of t a) (hi_of t b)) high in
          let same : lo_of t a ≡ lo_of t b = eqb-true (lo_of t a) (lo_of t b) parts.0 in
          let one_end : same_point (edge t a).lo (edge t b).lo ≡ true = subst (λ n. same_point (edge t a).lo (corner t n) ≡ true) same (same_point_refl (edge t a).lo) in
          or_right (before (edge t a).lo (edge t b).lo) (same_point (edge t a).lo (edge t b).lo && before (edge t a).hi (edge t b).hi) (and_from (same_point (edge t a).lo (edge t b).lo) (before (edge t a).hi (edge t b).hi) one_end (corner_before t ok (hi_of t a) (hi_of t b) (ltb-true (hi_of t a) (hi_of t b) parts.1) up_b.1)))
    ]

-- the places of two edges of the list, and the two of the table, conflict alike
conflict-at : (t : Table) (a b : ℕ) (d e : Edge) → a < length t.ends → b < length t.ends → conflict (get_or (table_edges t) a d) (get_or (table_edges t) b e) ≡ conflict (edge t a) (edge t b)
conflict-at t a b d e a_fits b_fits = ap (λ x. conflict x (get_or (table_edges t) b e)) (table_edges-at t a d a_fits) ∙ ap (conflict (edge t a)) (table_edges-at t b e b_fits)

-- and the other way round
pub edges_apart : (t : Table) → NoConflict t → IsTrue (not (has_conflict (table_edges t)))
edges_apart t apart = not_from_false (has_conflict (table_edges t)) (list_any_none (conflicts_with (table_edges t)) (table_edges t) (λ a d a_in. list_any_none (conflict (get_or (table_edges t) a d)) (table_edges t) (λ b e b_in.
    (let a_fits : a < length t.ends = omega (arith, length-table_edges t) in
    let b_fits : b < length t.ends = omega (arith, length-table_edges t) in
    conflict-at t a b d e a_fits b_fits ∙ not-true (conflict (edge t a) (edge t b)) (apart a b a_fits b_fits)))))

-- two edges of the table that conflict are two of the list
pub edges_conflict : (t : Table) (a b : ℕ) → a < length t.ends → b < length t.ends → IsTrue (conflict (edge t a) (edge t b)) → IsTrue (has_conflict (table_edges t))
edges_conflict t a b a_fits b_fits meet =
    let e : Edge = edge t a in
    list_any_at (conflicts_with (table_edges t)) (table_edges t) a e (omega (arith, length-table_edges t)) (list_any_at (conflict (get_or (table_edges t) a e)) (table_edges t) b e (omega (arith, length-table_edges t)) (conflict-at t a b e e a_fits b_fits ∙ meet))
