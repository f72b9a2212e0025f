-- How often a ring stands with a corner among the ends of edges: as often as it has an edge that ends there.
use Rattle.std.proofs.Common.{◌≡◌, ℕ, ◌+◌, ◌<◌, ◌≤◌, Bool, true, false, cond, ◌&&◌, ◌||◌, List, [], ◌∷◌, length, get_or, refl, sym, ◌∙◌, ap, ap₂, inl, inr, arith}
use Rattle.std.specs.Prelude.{nat_lt, count_by, ◌==◌}
use Rattle.std.specs.List.{list_any, list_all}
use Rattle.std.proofs.lemmas.Bool.{and_parts, cases_eq, eq-eqb, ne_eqb, ltb-true}
use Rattle.std.proofs.lemmas.List.Sums.{sum_by-append, sum_by-cons}
use Rattle.loc_spec_plane.specs.{declared.Mark.Mark, Lists.is_rising}
use Rattle.loc_spec_plane.specs.Tables.{Table, IsTable, edge_numbers, ends_at, has, hi_of, lo_of, mark_before}
use Rattle.loc_laws_order.proofs.TableOrder.{numbers_within}
use Rattle.loc_valid.specs.Pinches.{ends_by, ring_ends, ring_ends_of, same_pair}

-- what a member counts for
abbrev pub one_if : Bool → ℕ
one_if b = cond b 1 0

-- a ring and a corner among the ends of one edge
module _ (r c lo hi : ℕ) (up : lo < hi) where
  abbrev is : ℕ × ℕ → Bool
  is = same_pair (r, c)

  -- of one mark
  both : (m : Mark) (rest : List (ℕ × ℕ)) → count_by is ((m.feature, lo) ∷ (m.feature, hi) ∷ rest) ≡ one_if ((m.feature == r) && ((lo == c) || (hi == c))) + count_by is rest
  both m rest =
      let first = sum_by-cons (λ x. one_if (is x)) (m.feature, lo) ((m.feature, hi) ∷ rest) in
      let second = sum_by-cons (λ x. one_if (is x)) (m.feature, hi) rest in
      omega (arith, first, second, apart)
    where
      apart : one_if ((r == m.feature) && (c == lo)) + one_if ((r == m.feature) && (c == hi)) ≡ one_if ((m.feature == r) && ((lo == c) || (hi == c)))
      apart = elim (cases_eq m.feature r) [
        | inr other ↦ (let front : (r == m.feature) ≡ false = ne_eqb r m.feature (λ e. other (sym e)) in let back : (m.feature == r) ≡ false = ne_eqb m.feature r other in
            ap₂ (λ (a b : Bool). one_if (a && (c == lo)) + one_if (b && (c == hi))) front front ∙ sym (ap (λ (b : Bool). one_if (b && ((lo == c) || (hi == c)))) back))
        | inl same ↦ (let front : (r == m.feature) ≡ true = eq-eqb r m.feature (sym same) in let back : (m.feature == r) ≡ true = eq-eqb m.feature r same in
            ap₂ (λ (a b : Bool). one_if (a && (c == lo)) + one_if (b && (c == hi))) front front ∙ (ends ∙ sym (ap (λ (b : Bool). one_if (b && ((lo == c) || (hi == c)))) back)))
      ]
        where
          ends : one_if (c == lo) + one_if (c == hi) ≡ one_if ((lo == c) || (hi == c))
          ends = elim (cases_eq lo c) [
            | inl at_lo ↦ ap₂ (λ (a b : Bool). one_if a + one_if b) (eq-eqb c lo (sym at_lo)) (ne_eqb c hi (λ e. omega arith)) ∙ sym (ap (λ (a : Bool). one_if (a || (hi == c))) (eq-eqb lo c at_lo))
            | inr off_lo ↦ elim (cases_eq hi c) [
              | inl at_hi ↦ ap₂ (λ (a b : Bool). one_if a + one_if b) (ne_eqb c lo (λ e. off_lo (sym e))) (eq-eqb c hi (sym at_hi)) ∙ sym (ap₂ (λ (a b : Bool). one_if (a || b)) (ne_eqb lo c off_lo) (eq-eqb hi c at_hi))
              | inr off_hi ↦ ap₂ (λ (a b : Bool). one_if a + one_if b) (ne_eqb c lo (λ e. off_lo (sym e))) (ne_eqb c hi (λ e. off_hi (sym e))) ∙ sym (ap₂ (λ (a b : Bool). one_if (a || b)) (ne_eqb lo c off_lo) (ne_eqb hi c off_hi))
            ]
          ]

  -- of later marks none
  none_later : (f : ℕ) (odd : Bool) (ms : List Mark) → r ≤ f → list_all (mark_before (record { feature = f; odd = odd })) ms ≡ true → count_by is (ends_by (lo, hi) ms) ≡ 0
  none_later f odd [] le later = refl
  none_later f odd (m ∷ ms) le later =
      let parts = and_parts (nat_lt f m.feature) (list_all (mark_before (record { feature = f; odd = odd })) ms) later in
      let less : f < m.feature = ltb-true f m.feature parts.0 in
      let off : one_if ((m.feature == r) && ((lo == c) || (hi == c))) ≡ 0 = ap (λ (b : Bool). one_if (b && ((lo == c) || (hi == c)))) (ne_eqb m.feature r (λ e. omega arith)) in
      omega (arith, both m (ends_by (lo, hi) ms), off, none_later f odd ms le parts.1)

  abbrev marked : List Mark → Bool
  marked ms = list_any (λ (m : Mark). m.feature == r) ms

  of_edge : (ms : List Mark) → is_rising mark_before ms ≡ true → count_by is (ends_by (lo, hi) ms) ≡ one_if (marked ms && ((lo == c) || (hi == c)))
  of_edge [] rise = refl
  of_edge (m ∷ ms) rise =
      let parts = and_parts (list_all (mark_before m) ms) (is_rising mark_before ms) rise in
      elim (cases_eq m.feature r) [
        | inl same ↦ (let rest = none_later m.feature m.odd ms (omega arith) parts.0 in
            let here : (m.feature == r) ≡ true = eq-eqb m.feature r same in
            let one : one_if ((m.feature == r) && ((lo == c) || (hi == c))) ≡ one_if ((lo == c) || (hi == c)) = ap (λ (b : Bool). one_if (b && ((lo == c) || (hi == c)))) here in
            let all : one_if (marked (m ∷ ms) && ((lo == c) || (hi == c))) ≡ one_if ((lo == c) || (hi == c)) = ap (λ (b : Bool). one_if ((b || marked ms) && ((lo == c) || (hi == c)))) here in
            omega (arith, both m (ends_by (lo, hi) ms), rest, one, all))
        | inr other ↦ (let here : (m.feature == r) ≡ false = ne_eqb m.feature r other in
            let one : one_if ((m.feature == r) && ((lo == c) || (hi == c))) ≡ 0 = ap (λ (b : Bool). one_if (b && ((lo == c) || (hi == c)))) here in
            let all : one_if (marked (m ∷ ms) && ((lo == c) || (hi == c))) ≡ one_if (marked ms && ((lo == c) || (hi == c))) = ap (λ (b : Bool). one_if ((b || marked ms) && ((lo == c) || (hi == c)))) here in
            omega (arith, both m (ends_by (lo, hi) ms), one, all, of_edge ms parts.1))
      ]

module _ (t : Table) (ok : IsTable t) (r c : ℕ) where
  of_edges : (es : List ℕ) → list_all (λ k. nat_lt k (length t.ends)) es ≡ true → count_by (same_pair (r, c)) (ring_ends_of t es) ≡ count_by (λ e. has t r e && ends_at t c e) es
  of_edges [] all = refl
  of_edges (e ∷ es) all =
      let parts = and_parts (nat_lt e (length t.ends)) (list_all (λ k. nat_lt k (length t.ends)) es) all in
      let own = ends_by (get_or t.ends e (0, 0)) (get_or t.marks e []) in
      let joined : count_by (same_pair (r, c)) (ring_ends_of t (e ∷ es)) ≡ count_by (same_pair (r, c)) own + count_by (same_pair (r, c)) (ring_ends_of t es) = sum_by-append (λ x. one_if (same_pair (r, c) x)) own (ring_ends_of t es) in
      let one : count_by (same_pair (r, c)) own ≡ one_if (has t r e && ends_at t c e) = of_edge r c (lo_of t e) (hi_of t e) (ok.goes_up e (ltb-true e (length t.ends) parts.0)).0 (get_or t.marks e []) (ok.marks_rise e) in
      let whole : count_by (λ d. has t r d && ends_at t c d) (e ∷ es) ≡ one_if (has t r e && ends_at t c e) + count_by (λ d. has t r d && ends_at t c d) es = sum_by-cons (λ d. one_if (has t r d && ends_at t c d)) e es in
      omega (arith, joined, one, whole, of_edges es parts.1)

  -- as often as it has an edge that ends there
  pub ends_counted : count_by (same_pair (r, c)) (ring_ends t) ≡ count_by (λ e. has t r e && ends_at t c e) (edge_numbers t)
  ends_counted = of_edges (edge_numbers t) (numbers_within (length t.ends))
