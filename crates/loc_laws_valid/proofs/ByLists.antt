-- The later breaches by the lists above edges, where each edge has one ring.
use Rattle.std.proofs.Common.{◌≡◌, ℕ, ◌<◌, Bool, true, false, not, ◌&&◌, ◌||◌, List, [], ◌∷◌, length, refl, sym, ◌∙◌, ap, ap₂, subst}
use Rattle.std.specs.Prelude.{nat_lt, ◌==◌}
use Rattle.std.specs.List.{list_any, list_all}
use Rattle.std.proofs.lemmas.Bool.{and_parts, and_from, eq-eqb, eqb-true, ltb-true, ne_eqb, not-true, not_from_false, true≢false}
use Rattle.loc_spec_plane.specs.{Lists.is_in, Lists.odd_many, Rings.Rings}
use Rattle.loc_spec_plane.specs.{Tables.Table, Tables.edge_numbers, Tables.has, Covers.cover_above}
use Rattle.loc_spec_valid.specs.Breaches.{belongs, feature_rings, is_hole, is_nested, is_outside, is_overlap, lies_inside, polygon_of, ring_numbers}
use Rattle.loc_laws_order.proofs.{Booleans.same-from_both, Sets.number_swap, TableOrder.numbers_within, Unique.all-at}
use Rattle.loc_laws_rays.proofs.Parity.{odd_many-agree}
use Rattle.loc_laws_dissolve.proofs.Prefixes.{one_number}
use Rattle.loc_laws_valid.specs.Laws.{BreachesByLists, HasOneRing}
use Rattle.loc_laws_valid.proofs.{Inside.belongs_is, Inside.inside_by_list, Placed.one_exterior}

-- tests that agree on the members that pass a guard
any_agree : (guard f g : ℕ → Bool) (xs : List ℕ) → list_all guard xs ≡ true → ((x : ℕ) → guard x ≡ true → f x ≡ g x) → list_any f xs ≡ list_any g xs
any_agree guard f g [] all same = refl
any_agree guard f g (x ∷ xs) all same = let parts = and_parts (guard x) (list_all guard xs) all in ap₂ (λ a b. a || b) (same x parts.0) (any_agree guard f g xs parts.1 same)

-- of two joined tests the second may be another where the first holds
and_agree : (a b c : Bool) → (a ≡ true → b ≡ c) → (a && b) ≡ (a && c)
and_agree true b c same = same refl
and_agree false b c same = refl

module _ (polygons : List Rings) (t : Table) (ring_of : ℕ → ℕ) (one : HasOneRing polygons t ring_of) where
  abbrev rings : ℕ
  rings = length (feature_rings polygons)

  by_edges : (f g : ℕ → Bool) → ((e : ℕ) → e < length t.ends → f e ≡ g e) → list_any f (edge_numbers t) ≡ list_any g (edge_numbers t)
  by_edges f g same = any_agree (λ e. nat_lt e (length t.ends)) f g (edge_numbers t) (numbers_within (length t.ends)) (λ e is_e. same e (ltb-true e (length t.ends) is_e))

  ring_fits : (e : ℕ) → e < length t.ends → ring_of e < rings
  ring_fits e le = ltb-true (ring_of e) rings (all-at (λ k. nat_lt k rings) (ring_numbers polygons) (ring_of e) (numbers_within rings) (one.is_ring e le))

  -- inside a set of which ring q is the one member
  inside_ring : (among : ℕ → Bool) (q e : ℕ) → q < rings → ((x : ℕ) → x < rings → among x ≡ (q == x)) → e < length t.ends → (q ≡ ring_of e → ⊥) → lies_inside polygons t among e ≡ is_in q (cover_above t e)
  inside_ring among q e lq is le other =
      inside_by_list polygons t ring_of one among e le (is (ring_of e) (ring_fits e le) ∙ ne_eqb q (ring_of e) other)
      ∙ (odd_many-agree (λ x. nat_lt x rings) (λ x. among x && is_in x (cover_above t e)) (λ x. (q == x) && is_in x (cover_above t e)) (ring_numbers polygons) (numbers_within rings) (λ x is_x. ap (λ b. b && is_in x (cover_above t e)) (is x (ltb-true x rings is_x)))
      ∙ one_number (λ x. is_in x (cover_above t e)) q rings lq)

  nested : (r q : ℕ) → q < rings → is_nested polygons t r q ≡ (((is_hole polygons r && is_hole polygons q) && ((polygon_of polygons r == polygon_of polygons q) && not (r == q))) && list_any (λ e. (r == ring_of e) && is_in q (cover_above t e)) (edge_numbers t))
  nested r q lq = and_agree ((is_hole polygons r && is_hole polygons q) && ((polygon_of polygons r == polygon_of polygons q) && not (r == q))) _ _ (λ both.
      (let differ : (r == q) ≡ false = not-true (r == q) (and_parts (polygon_of polygons r == polygon_of polygons q) (not (r == q)) (and_parts (is_hole polygons r && is_hole polygons q) ((polygon_of polygons r == polygon_of polygons q) && not (r == q)) both).1).1 in
      by_edges (λ e. has t r e && lies_inside polygons t (λ k. k == q) e) (λ e. (r == ring_of e) && is_in q (cover_above t e)) (λ e le.
      ap (λ b. b && lies_inside polygons t (λ k. k == q) e) (one.one e r le)
      ∙ and_agree (r == ring_of e) (lies_inside polygons t (λ k. k == q) e) (is_in q (cover_above t e)) (λ is_r. inside_ring (λ k. k == q) q e lq (λ x lx. number_swap x q) le (λ same. true≢false (sym (eq-eqb r q (eqb-true r (ring_of e) is_r ∙ sym same)) ∙ differ))))))

  module _ (r x : ℕ) (lx : x < rings) (hole : is_hole polygons r ≡ true) (off : is_hole polygons x ≡ false) (same : polygon_of polygons x ≡ polygon_of polygons r) where
    abbrev among : ℕ → Bool
    among q = (polygon_of polygons q == polygon_of polygons r) && not (is_hole polygons q)

    sole : (q : ℕ) → q < rings → among q ≡ (x == q)
    sole q lq = same-from_both (among q) (x == q)
        (λ h. (let parts = and_parts (polygon_of polygons q == polygon_of polygons r) (not (is_hole polygons q)) h in
        eq-eqb x q (one_exterior 0 polygons x q lx lq (same ∙ sym (eqb-true (polygon_of polygons q) (polygon_of polygons r) parts.0)) off (not-true (is_hole polygons q) parts.1))))
        (λ h. subst (λ k. among k ≡ true) (eqb-true x q h) (and_from _ _ (eq-eqb (polygon_of polygons x) (polygon_of polygons r) same) (not_from_false (is_hole polygons x) off)))

    outside : is_outside polygons t r ≡ list_any (λ e. (r == ring_of e) && not (is_in x (cover_above t e))) (edge_numbers t)
    outside = ap (λ b. b && list_any (λ e. has t r e && not (lies_inside polygons t among e)) (edge_numbers t)) hole
        ∙ by_edges (λ e. has t r e && not (lies_inside polygons t among e)) (λ e. (r == ring_of e) && not (is_in x (cover_above t e))) (λ e le.
        ap (λ b. b && not (lies_inside polygons t among e)) (one.one e r le)
        ∙ and_agree (r == ring_of e) (not (lies_inside polygons t among e)) (not (is_in x (cover_above t e))) (λ is_r. ap not (inside_ring among x e lx sole le
        (λ at. true≢false (sym hole ∙ (ap (is_hole polygons) (eqb-true r (ring_of e) is_r ∙ sym at) ∙ off))))))

  overlap : (n m : ℕ) → (n ≡ m → ⊥) → is_overlap polygons t n m ≡ list_any (λ e. (polygon_of polygons (ring_of e) == n) && odd_many (λ q. (polygon_of polygons q == m) && is_in q (cover_above t e)) (ring_numbers polygons)) (edge_numbers t)
  overlap n m differ = ap (λ b. not b && list_any (λ e. belongs polygons t (λ r. polygon_of polygons r == n) e && lies_inside polygons t (λ r. polygon_of polygons r == m) e) (edge_numbers t)) (ne_eqb n m differ)
      ∙ by_edges (λ e. belongs polygons t (λ r. polygon_of polygons r == n) e && lies_inside polygons t (λ r. polygon_of polygons r == m) e) (λ e. (polygon_of polygons (ring_of e) == n) && odd_many (λ q. (polygon_of polygons q == m) && is_in q (cover_above t e)) (ring_numbers polygons)) (λ e le.
      ap (λ b. b && lies_inside polygons t (λ r. polygon_of polygons r == m) e) (belongs_is polygons t ring_of one (λ r. polygon_of polygons r == n) e le)
      ∙ and_agree (polygon_of polygons (ring_of e) == n) (lies_inside polygons t (λ r. polygon_of polygons r == m) e) (odd_many (λ q. (polygon_of polygons q == m) && is_in q (cover_above t e)) (ring_numbers polygons)) (λ is_n.
      inside_by_list polygons t ring_of one (λ r. polygon_of polygons r == m) e le (ne_eqb (polygon_of polygons (ring_of e)) m (λ at. differ (sym (eqb-true (polygon_of polygons (ring_of e)) n is_n) ∙ at)))))

pub breaches_by_lists : BreachesByLists
breaches_by_lists polygons t ring_of one = record {
  nested = nested polygons t ring_of one;
  outside = outside polygons t ring_of one;
  overlap = overlap polygons t ring_of one;
}
