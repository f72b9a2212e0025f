-- The law of the sweep, for callers: where at each corner of a table the edges alive form a chain, no two of its edges conflict.
use Rattle.std.proofs.Common.{◌≡◌, ℕ, zero, suc, ◌<◌, true, List, [], ◌∷◌, length, map, not, ◌||◌, refl, sym, ◌∙◌, ap, subst, inl, inr, arith, Some, slice_get}
use Rattle.std.specs.Prelude.{◌==◌}
use Rattle.std.proofs.lemmas.Bool.{and_parts, and_from, or_cases, or_left, or_right, eq-eqb, eqb-true, lt-ltb, ltb-true, true≢false, not_from_false, not_from_true, both_ways, false_from_ne_true}
use Rattle.loc_spec_plane.specs.{Lists.is_in, Places.alive, Places.is_edge}
use Rattle.loc_spec_plane.specs.Points.{Edge, same_edge, touch, cross, conflict}
use Rattle.loc_spec_plane.specs.Tables.{Table, IsTable, corner, edge, lo_of, hi_of}
use Rattle.loc_laws_order.specs.Laws.{IsSweep, SweepLaw}
use Rattle.loc_laws_order.proofs.{Forms.IsEdge, Sides.before_decides, TableOrder.corner_before, TableOrder.edge_up}
use Rattle.loc_laws_order.proofs.Tests.{alive_decides, same_edge_decides, conflict-is, chain-is}
use Rattle.loc_laws_order.proofs.Swept.{Sweep, swept}

-- a member of a mapped list is the image of a member
pub get-from_map : {X : Type 0} (f : ℕ → X) (ns : List ℕ) (k : ℕ) (x : X) → slice_get (map f ns) k ≡ Some x → (n : ℕ) × (is_in n ns ≡ true) × (f n ≡ x)
get-from_map f [] k x at = absurd cc
get-from_map f (n ∷ ns) zero x at = (n, or_left (n == n) (is_in n ns) (eq-eqb n n refl), cc)
get-from_map f (n ∷ ns) (suc k) x at = let later = get-from_map f ns k x at in (later.0, or_right (n == later.0) (is_in later.0 ns) later.1, later.2)

-- the image of a member is a member of the mapped list
pub get-to_map : {X : Type 0} (f : ℕ → X) (ns : List ℕ) (n : ℕ) → is_in n ns ≡ true → (k : ℕ) × (slice_get (map f ns) k ≡ Some (f n))
get-to_map f [] n here = absurd (true≢false (sym here))
get-to_map f (m ∷ ns) n here = elim (or_cases (m == n) (is_in n ns) here) [
  | inl same ↦ (0, ap (λ j. Some (f j)) (eqb-true m n same))
  | inr later ↦ (let found = get-to_map f ns n later in (suc found.0, found.1))
]

module _ (t : Table) (ok : IsTable t) (lists : ℕ → List ℕ) (sweep : IsSweep t lists) where
  -- the edge is one of the table
  abbrev IsOne : Edge → Type 0
  IsOne e = (n : ℕ) × (n < length t.ends) × (edge t n ≡ e)

  as_sweep : Sweep IsOne (length t.corners) (corner t) (λ i. map (edge t) (lists i))
  as_sweep = record {
    edges = λ e one. (let P : Edge → Type 0 = λ e. IsEdge e in subst P one.2 ((before_decides (edge t one.0).lo (edge t one.0).hi).0 (edge_up t ok one.0 one.1)));
    increasing = λ i j lt fits. (before_decides (corner t i) (corner t j)).0 (corner_before t ok i j lt fits);
    begins = λ e one. (let up = ok.goes_up one.0 one.1 in (lo_of t one.0, omega arith, ap (λ (e : Edge). e.lo) one.2));
    ends = λ e one. (let up = ok.goes_up one.0 one.1 in (hi_of t one.0, up.1, ap (λ (e : Edge). e.hi) one.2));
    chains = λ i fits. chain-is (corner t i) (map (edge t) (lists i)) (sweep.chains i fits);
    listed = λ i k e fits at. (let found = get-from_map (edge t) (lists i) k e at in (found.0, ltb-true found.0 (length t.ends) (and_parts (is_edge t found.0) (alive (edge t found.0) (corner t i)) (sym (sweep.exact i found.0 fits) ∙ found.1)).0, found.2));
    alive = λ i e fits one lives. (
        let P : Edge → Type 0 = λ e. alive e (corner t i) ≡ true in
        let here : alive (edge t one.0) (corner t i) ≡ true = subst P (sym one.2) ((alive_decides e (corner t i)).1 lives) in
        let found = get-to_map (edge t) (lists i) one.0 (sweep.exact i one.0 fits ∙ and_from (is_edge t one.0) (alive (edge t one.0) (corner t i)) (lt-ltb one.0 (length t.ends) one.1) here) in
        (found.0, found.1 ∙ ap (λ e. Some e) one.2));
  }

-- where the lists are those of a sweep, no two edges conflict
pub sweep_law : SweepLaw
sweep_law t ok lists sweep a b la lb = not_from_false (conflict (edge t a) (edge t b)) (false_from_ne_true (conflict (edge t a) (edge t b)) (λ h.
    (let parts = and_parts (not (same_edge (edge t a) (edge t b))) (touch (edge t a) (edge t b) || cross (edge t a) (edge t b)) h in
    let other : ¬ (edge t a ≡ edge t b) = λ same. both_ways (not (same_edge (edge t a) (edge t b))) (not_from_true (same_edge (edge t a) (edge t b)) ((same_edge_decides (edge t a) (edge t b)).1 same)) parts.0 in
    swept (λ e. (n : ℕ) × (n < length t.ends) × (edge t n ≡ e)) (length t.corners) (corner t) (λ i. map (edge t) (lists i)) (as_sweep t ok lists sweep) (edge t a) (edge t b) (a, la, refl) (b, lb, refl) other (conflict-is (edge t a) (edge t b) h))))
