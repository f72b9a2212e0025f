-- What lies inside rings, by the list above an edge: a parity over the edges below, each of which has one ring, is a parity over rings, each by the edges below that it has.
use Rattle.std.proofs.Common.{◌≡◌, ℕ, ◌<◌, Bool, true, false, not, ◌&&◌, ◌||◌, List, [], ◌∷◌, length, refl, sym, ◌∙◌, ap, subst, inl, inr}
use Rattle.std.specs.Prelude.{nat_lt, ◌==◌}
use Rattle.std.specs.List.{list_any}
use Rattle.std.proofs.lemmas.Bool.{and_parts, and_from, and_right, cases_eq, eq-eqb, eqb-true, ne_eqb, ltb-true, or_cases, true≢false}
use Rattle.loc_spec_plane.specs.{Lists.is_in, Lists.exactly_one, Lists.odd_many, Rings.Rings}
use Rattle.loc_spec_plane.specs.Tables.{Table, edge, edge_numbers, has, has_odd}
use Rattle.loc_spec_plane.specs.Places.{alive_at, lower_of}
use Rattle.loc_spec_plane.specs.Covers.{cover_above, is_over, is_at_or_under}
use Rattle.loc_spec_valid.specs.Breaches.{belongs, lies_inside, feature_rings, ring_numbers}
use Rattle.loc_laws_order.proofs.{Booleans.and_swap, Booleans.same-from_both, Sets.number_swap}
use Rattle.loc_laws_order.proofs.{TableOrder.numbers_within, Unique.all-at}
use Rattle.loc_laws_rays.proofs.{Covering.any-found, Members.in_cover}
use Rattle.loc_laws_rays.proofs.Parity.{odd_many-same, odd_many-agree, odd_many-exactly_one, never}
use Rattle.loc_laws_dissolve.proofs.Prefixes.{one_number}
use Rattle.loc_laws_valid.specs.Laws.{HasOneRing, InsideByList}

module _ {X Y : Type 0} where
  -- parities over two lists change places
  odd_many-exchange : (f : X → Y → Bool) (xs : List X) (ys : List Y) → odd_many (λ x. odd_many (f x) ys) xs ≡ odd_many (λ y. odd_many (λ x. f x y) xs) ys
  odd_many-exchange f [] ys = sym (never ys)
  odd_many-exchange f (x ∷ xs) ys = ap (exactly_one (odd_many (f x) ys)) (odd_many-exchange f xs ys) ∙ sym (odd_many-exactly_one (f x) (λ y. odd_many (λ x. f x y) xs) ys)

-- a common factor of all tests
odd_many-factor : {X : Type 0} (a : Bool) (f : X → Bool) (xs : List X) → odd_many (λ x. a && f x) xs ≡ (a && odd_many f xs)
odd_many-factor true f xs = refl
odd_many-factor false f xs = never xs

regroup : (a b c : Bool) → (a && (b && c)) ≡ (b && (c && a))
regroup true true c = sym (and_swap c true)
regroup true false c = refl
regroup false true c = sym (and_swap c false)
regroup false false c = refl

module _ (polygons : List Rings) (t : Table) (ring_of : ℕ → ℕ) (one : HasOneRing polygons t ring_of) (among : ℕ → Bool) where
  -- an edge belongs to the rings exactly where its ring is one of them
  pub belongs_is : (d : ℕ) → d < length t.ends → belongs polygons t among d ≡ among (ring_of d)
  belongs_is d ld = same-from_both (belongs polygons t among d) (among (ring_of d))
      (λ some. (let found = number_found (λ r. among r && has t r d) (ring_numbers polygons) some in
      let parts = and_parts (among found.0) (has t found.0 d) found.1 in
      subst (λ r. among r ≡ true) (eqb-true found.0 (ring_of d) (sym (one.one d found.0 ld) ∙ parts.1)) parts.0))
      (λ here. any-found (λ r. among r && has t r d) (ring_numbers polygons) (ring_of d) (one.is_ring d ld) (and_from (among (ring_of d)) (has t (ring_of d) d) here (one.one d (ring_of d) ld ∙ eq-eqb (ring_of d) (ring_of d) refl)))
    where
      number_found : (p : ℕ → Bool) (ns : List ℕ) → list_any p ns ≡ true → (n : ℕ) × (p n ≡ true)
      number_found p [] h = absurd (true≢false (sym h))
      number_found p (n ∷ ns) h = elim (or_cases (p n) (list_any p ns) h) [ inl here ↦ (n, here) | inr later ↦ number_found p ns later ]

  -- of the rings of the set that an edge has, there is one where its ring is of the set
  one_ring : (d : ℕ) → d < length t.ends → odd_many (λ r. among r && has_odd t r d) (ring_numbers polygons) ≡ among (ring_of d)
  one_ring d ld =
      odd_many-same (λ r. among r && has_odd t r d) (λ r. (ring_of d == r) && among r) (ring_numbers polygons) (λ r. and_swap (among r) (has_odd t r d) ∙ ap (λ b. b && among r) (one.odd d r ld ∙ number_swap r (ring_of d)))
      ∙ one_number among (ring_of d) (length (feature_rings polygons)) (ltb-true (ring_of d) (length (feature_rings polygons)) (all-at (λ k. nat_lt k (length (feature_rings polygons))) (ring_numbers polygons) (ring_of d) (numbers_within (length (feature_rings polygons))) (one.is_ring d ld)))

  module _ (e : ℕ) (le : e < length t.ends) (off : among (ring_of e) ≡ false) where
    -- an edge below e, in the version of its lower corner
    abbrev below : ℕ → Bool
    below d = alive_at t (edge t e).lo d && lower_of t d e

    without_e : (d : ℕ) → d < length t.ends → (is_at_or_under t e d && among (ring_of d)) ≡ (below d && among (ring_of d))
    without_e d ld = elim (cases_eq d e) [
      | inl same ↦ (let none : among (ring_of d) ≡ false = ap (λ k. among (ring_of k)) same ∙ off in and_right (is_at_or_under t e d) (among (ring_of d)) none ∙ sym (and_right (below d) (among (ring_of d)) none))
      | inr other ↦ ap (λ b. (b || below d) && among (ring_of d)) (ne_eqb d e other)
    ]

    by_rings : odd_many (λ r. among r && is_over t e r) (ring_numbers polygons) ≡ odd_many (λ d. below d && among (ring_of d)) (edge_numbers t)
    by_rings =
        odd_many-same (λ r. among r && is_over t e r) (λ r. odd_many (λ d. among r && (is_at_or_under t e d && has_odd t r d)) (edge_numbers t)) (ring_numbers polygons) (λ r. sym (odd_many-factor (among r) (λ d. is_at_or_under t e d && has_odd t r d) (edge_numbers t)))
        ∙ (odd_many-exchange (λ r d. among r && (is_at_or_under t e d && has_odd t r d)) (ring_numbers polygons) (edge_numbers t)
        ∙ odd_many-agree (λ d. nat_lt d (length t.ends)) (λ d. odd_many (λ r. among r && (is_at_or_under t e d && has_odd t r d)) (ring_numbers polygons)) (λ d. below d && among (ring_of d)) (edge_numbers t) (numbers_within (length t.ends))
        (λ d is_d. (let ld = ltb-true d (length t.ends) is_d in
        odd_many-same (λ r. among r && (is_at_or_under t e d && has_odd t r d)) (λ r. is_at_or_under t e d && (has_odd t r d && among r)) (ring_numbers polygons) (λ r. regroup (among r) (is_at_or_under t e d) (has_odd t r d))
        ∙ (odd_many-factor (is_at_or_under t e d) (λ r. has_odd t r d && among r) (ring_numbers polygons)
        ∙ (ap (λ b. is_at_or_under t e d && b) (odd_many-same (λ r. has_odd t r d && among r) (λ r. among r && has_odd t r d) (ring_numbers polygons) (λ r. and_swap (has_odd t r d) (among r)) ∙ one_ring d ld) ∙ without_e d ld)))))

    pub inside_is : lies_inside polygons t among e ≡ odd_many (λ r. among r && is_in r (cover_above t e)) (ring_numbers polygons)
    inside_is =
        ap (λ b. not b && odd_many (λ d. below d && belongs polygons t among d) (edge_numbers t)) (belongs_is e le ∙ off)
        ∙ (odd_many-agree (λ d. nat_lt d (length t.ends)) (λ d. below d && belongs polygons t among d) (λ d. below d && among (ring_of d)) (edge_numbers t) (numbers_within (length t.ends)) (λ d is_d. ap (λ b. below d && b) (belongs_is d (ltb-true d (length t.ends) is_d)))
        ∙ (sym by_rings ∙ odd_many-same (λ r. among r && is_over t e r) (λ r. among r && is_in r (cover_above t e)) (ring_numbers polygons) (λ r. ap (λ b. among r && b) (sym (in_cover t e r)))))

pub inside_by_list : InsideByList
inside_by_list polygons t ring_of one among e le off = inside_is polygons t ring_of one among e le off
