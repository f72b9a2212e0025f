-- The least pair that stands more than twice in a list of pairs in order, and the first ring that is pinched.
use Rattle.std.proofs.Common.{◌≡◌, ℕ, zero, suc, ◌+◌, ◌-◌, ◌<◌, ◌≤◌, Bool, true, false, cond, ◌&&◌, List, length, take, get_or, refl, sym, ◌∙◌, ap, inl, inr, arith}
use Rattle.std.specs.Prelude.{nat_lt, ◌==◌, count_by, Option, Some, None}
use Rattle.std.specs.{List.range_with_len, List.Sorted.IsPermutation, List.Sorted.IsSorted}
use Rattle.std.proofs.lemmas.Bool.{cases_Bool, eq-eqb, eqb-true, or_cases, and_parts, le-ltb, lt-ltb, or_left, or_right, and_from}
use Rattle.std.proofs.{lemmas.List.Sums.sum_by-cons, lemmas.List.Sorted.sum_by-IsPermutation}
use Rattle.loc_spec_plane.specs.{Lists.numbers, Rings.Rings, Covers.feature_count}
use Rattle.loc_spec_plane.specs.Tables.{Table, IsTable, corner_numbers, edge_numbers, ends_at, has, hi_of, lo_of}
use Rattle.loc_spec_valid.specs.Breaches.{feature_rings, first_pair, is_pinch, ring_numbers}
use Rattle.loc_laws_rays.proofs.Members.{feature_below}
use Rattle.loc_laws_valid.proofs.Least.{first_pair_at, no_pair}
use Rattle.loc_laws_repeats.proofs.Repeats.{few_all, few_before, few_more, many_at}
use Rattle.loc_valid.specs.Pinches.{IsFirstThrice, pair_cmp, ring_ends, same_pair}
use Rattle.loc_valid.proofs.PairOrder.{lt_is, neither_less, pair_lt, pair_order, same_pair_decides}
use Rattle.loc_valid.proofs.PinchEnds.{ends_counted, one_if}

-- where some are counted one passes
some_from : (p : ℕ → Bool) (a n : ℕ) → 0 < count_by p (range_with_len a n) → (e : ℕ) × (e < a + n) × (p e ≡ true)
some_from p a zero some = absurd (omega (arith, some))
some_from p a (suc n) some = elim (cases_Bool (p a)) [
  | inl here ↦ (a, omega arith, here)
  | inr off ↦ (let all = sum_by-cons (λ x. one_if (p x)) a (range_with_len (a + 1) n) in
      let none : one_if (p a) ≡ 0 = ap one_if off in
      let rest = some_from p (a + 1) n (omega (arith, some, all, none)) in
      (rest.0, omega (arith, rest.1), rest.2))
]

counted_some : (p : ℕ → Bool) (n : ℕ) → 0 < count_by p (numbers n) → (e : ℕ) × (e < n) × (p e ≡ true)
counted_some p n some = let found = some_from p 0 n some in (found.0, omega (arith, found.1), found.2)

module _ (pairs : List (ℕ × ℕ)) (up : IsSorted pair_cmp pairs) where
  -- of the first i places no pair stands at more than two
  abbrev pub FewBefore : ℕ → Type 0
  FewBefore i = (x : ℕ × ℕ) → count_by (same_pair x) (take i pairs) ≤ 2

  pub more : (i : ℕ) → i < length pairs → (2 ≤ i → get_or pairs (i - 2) (0, 0) ≡ get_or pairs i (0, 0) → ⊥) → FewBefore i → FewBefore (i + 1)
  more i fits other few = few_more pair_lt pair_order neither_less same_pair same_pair_decides 2 (omega arith) pairs (0, 0) up i fits other few

  pub found : (i : ℕ) → 2 ≤ i → i < length pairs → get_or pairs i (0, 0) ≡ get_or pairs (i - 2) (0, 0) → FewBefore i → IsFirstThrice pairs (Some (get_or pairs i (0, 0)))
  found i le fits same few = (
    many_at pair_lt pair_order neither_less same_pair same_pair_decides 2 (omega arith) pairs (0, 0) up i fits le (sym same),
    λ y less. few_before pair_lt pair_order neither_less same_pair same_pair_decides 2 (omega arith) pairs (0, 0) up i fits few y (lt_is y (get_or pairs i (0, 0)) ∙ less),
  )

  pub none : (i : ℕ) → length pairs ≤ i → FewBefore i → IsFirstThrice pairs None
  none i past few = few_all pair_lt pair_order neither_less same_pair same_pair_decides 2 (omega arith) pairs (0, 0) up i past few

-- ---- the first pinch
module _ (polygons : List Rings) (t : Table) (ok : IsTable t) (rings : feature_count t ≤ length (feature_rings polygons)) (pairs : List (ℕ × ℕ)) (moved : IsPermutation (ring_ends t) pairs) where
  counted : (r c : ℕ) → count_by (same_pair (r, c)) pairs ≡ count_by (λ e. has t r e && ends_at t c e) (edge_numbers t)
  counted r c = sum_by-IsPermutation (λ x. cond (same_pair (r, c) x) 1 0) (ring_ends t) pairs moved ∙ ends_counted t ok r c

  few : (r c : ℕ) → count_by (same_pair (r, c)) pairs ≤ 2 → is_pinch polygons t r c ≡ false
  few r c le = le-ltb 2 _ (omega (arith, le, counted r c))

  many : (r c : ℕ) → 2 < count_by (same_pair (r, c)) pairs → is_pinch polygons t r c ≡ true
  many r c lt = lt-ltb 2 _ (omega (arith, lt, counted r c))

  pub pinch_is : (answer : Option (ℕ × ℕ)) → IsFirstThrice pairs answer → answer ≡ first_pair (is_pinch polygons t) (ring_numbers polygons) (corner_numbers t)
  pinch_is None none = sym (no_pair (is_pinch polygons t) (length t.corners) (length (feature_rings polygons)) (λ r c lr lc. few r c (none (r, c))))
  pinch_is (Some x) first = sym (first_pair_at (is_pinch polygons t) (length t.corners) (length (feature_rings polygons)) x.0 x.1 ring_fits corner_fits (many x.0 x.1 first.0)
      (λ r c less lc. few r c (first.1 (r, c) (or_left (nat_lt r x.0) ((r == x.0) && nat_lt c x.1) (lt-ltb r x.0 less))))
      (λ c less. few x.0 c (first.1 (x.0, c) (or_right (nat_lt x.0 x.0) ((x.0 == x.0) && nat_lt c x.1) (and_from _ _ (eq-eqb x.0 x.0 refl) (lt-ltb c x.1 less))))))
    where
      -- some edge of the ring ends at the corner
      somewhere : (e : ℕ) × (e < length t.ends) × ((has t x.0 e && ends_at t x.1 e) ≡ true)
      somewhere = counted_some (λ e. has t x.0 e && ends_at t x.1 e) (length t.ends) (omega (arith, first.0, counted x.0 x.1))

      parts : (has t x.0 somewhere.0 ≡ true) × (ends_at t x.1 somewhere.0 ≡ true)
      parts = and_parts (has t x.0 somewhere.0) (ends_at t x.1 somewhere.0) somewhere.2

      ring_fits : x.0 < length (feature_rings polygons)
      ring_fits = omega (arith, feature_below t x.0 somewhere.0 parts.0, rings)

      corner_fits : x.1 < length t.corners
      corner_fits =
          let up = ok.goes_up somewhere.0 somewhere.1 in
          elim (or_cases (lo_of t somewhere.0 == x.1) (hi_of t somewhere.0 == x.1) parts.1) [
            | inl low ↦ (let e = eqb-true (lo_of t somewhere.0) x.1 low in omega (arith, up.0, up.1, e))
            | inr high ↦ (let e = eqb-true (hi_of t somewhere.0) x.1 high in omega (arith, up.1, e))
          ]
