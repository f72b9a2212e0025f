-- The least pairs by the lists above edges are the first breaches.
use Rattle.std.proofs.Common.{◌≡◌, ℕ, ◌<◌, ◌≤◌, Bool, true, false, not, ◌&&◌, List, [], ◌∷◌, length, get_or, refl, sym, ◌∙◌, ap, subst, inl, inr, arith}
use Rattle.std.specs.Prelude.{◌==◌, nat_lt, find, Option, option_map}
use Rattle.std.specs.List.{list_any, list_all}
use Rattle.std.proofs.Math.Bool.{and_comm}
use Rattle.std.proofs.lemmas.Bool.{and_from, and_parts, both_ways, cases_Bool, cases_eq, eq-eqb, eqb-true, false_from_ne_true, lt-ltb, ltb-true, ne_eqb, not-true, not_from_false, true≢false}
use Rattle.loc_spec_plane.specs.Lists.{exactly_one, is_in, is_rising, numbers, odd_many}
use Rattle.loc_spec_plane.specs.{Rings.Rings, declared.Mark.Mark, Tables.Table, Tables.edge_numbers, Tables.has}
use Rattle.loc_spec_plane.specs.Covers.{cover_above, feature_count, is_over}
use Rattle.loc_spec_valid.specs.Breaches.{belongs, feature_rings, first_pair, is_hole, is_nested, is_outside, is_overlap, lies_inside, polygon_numbers, polygon_of, ring_numbers}
use Rattle.loc_laws_order.proofs.{Booleans.same-from_both, Kept.all_filter, Kept.numbers_rise, Kept.rising_kept}
use Rattle.loc_laws_order.proofs.{TableOrder.numbers_within, Unique.all-at}
use Rattle.loc_laws_rays.proofs.Parity.{odd_many-same}
use Rattle.loc_laws_dissolve.proofs.Prefixes.{by_members}
use Rattle.loc_laws_valid.specs.Laws.{ByLists, HasOneRing, ring_of}
use Rattle.loc_laws_valid.proofs.ByLists.{breaches_by_lists}
use Rattle.loc_rings.specs.Values.{rings_before}
use Rattle.loc_cover.proofs.Gathered.{any_range, some_in}
use Rattle.loc_valid.specs.{declared.hits.Fault.Fault, declared.least.Least.Least}
use Rattle.loc_valid.specs.Hits.{AreLeast, IsLeast, IsLeastOf, misplaced_in, nested_in, other_than, outside_in, overlap_in}
use Rattle.loc_valid.proofs.{InLists.hole_fits, Minima.first_of_least, Minima.first_of_pairs}
use Rattle.loc_valid.proofs.Turns.{other, other_odd}
use Rattle.loc_valid.proofs.RingHomes.{exterior, fits_all, is_of, no_hole}

-- ---- tests of some number below n

some_of : (p : ℕ → Bool) (n : ℕ) → list_any p (numbers n) ≡ true → (e : ℕ) × (e < n) × (p e ≡ true)
some_of p n h = let found = some_in p 0 n h in (found.0, omega (arith, found.1), found.2)

in_numbers : (p : ℕ → Bool) (n e : ℕ) → e < n → p e ≡ true → list_any p (numbers n) ≡ true
in_numbers p n e lt h = any_range p 0 n e (omega arith) (omega arith) h

-- what holds of some by one test does by another that follows from it
some_too : (p q : ℕ → Bool) (n : ℕ) → ((e : ℕ) → e < n → p e ≡ true → q e ≡ true) → list_any p (numbers n) ≡ true → list_any q (numbers n) ≡ true
some_too p q n follows h = let found = some_of p n h in in_numbers q n found.0 found.1 (follows found.0 found.1 found.2)

-- tests that agree
some_same : (p q : ℕ → Bool) (n : ℕ) → ((e : ℕ) → e < n → p e ≡ q e) → list_any p (numbers n) ≡ list_any q (numbers n)
some_same p q n same = same-from_both _ _ (some_too p q n (λ e lt h. sym (same e lt) ∙ h)) (some_too q p n (λ e lt h. same e lt ∙ h))

-- a guard of all goes to each
any_guard : (a : Bool) (f g : ℕ → Bool) (n : ℕ) → (a && list_any (λ e. f e && g e) (numbers n)) ≡ list_any (λ e. f e && (a && g e)) (numbers n)
any_guard true f g n = refl
any_guard false f g n = sym (false_from_ne_true (list_any (λ e. f e && (false && g e)) (numbers n)) (λ h. (let found = some_of (λ e. f e && (false && g e)) n h in true≢false (sym (and_parts (f found.0) false found.2).1))))

module _ (polygons : List Rings) (t : Table) (one : HasOneRing polygons t (ring_of polygons t)) (features : feature_count t ≤ length (feature_rings polygons)) where
  abbrev rings : ℕ
  rings = length (feature_rings polygons)

  abbrev at_ring : ℕ → ℕ
  at_ring e = ring_of polygons t e

  lists : ByLists polygons t (ring_of polygons t)
  lists = breaches_by_lists polygons t (ring_of polygons t) one

  pub ring_fits : (e : ℕ) → e < length t.ends → at_ring e < rings
  ring_fits e le = ltb-true (at_ring e) rings (all-at (λ k. nat_lt k rings) (ring_numbers polygons) (at_ring e) (numbers_within rings) (one.is_ring e le))

  -- ---- a hole in another
  abbrev apart : ℕ → ℕ → Bool
  apart j k = (is_hole polygons j && is_hole polygons k) && ((polygon_of polygons j == polygon_of polygons k) && not (j == k))

  abbrev nested_hit : ℕ → ℕ → ℕ → Bool
  nested_hit e j k = nested_in polygons (at_ring e) (cover_above t e) j k

  pub nested_is : (a : Option (ℕ × ℕ)) → IsLeastOf nested_hit (length t.ends) a → first_pair (is_nested polygons t) (ring_numbers polygons) (ring_numbers polygons) ≡ a
  nested_is a least = first_of_pairs (λ j k. list_any (λ e. nested_hit e j k) (edge_numbers t)) (is_nested polygons t) rings rings
      (λ j k lj lk. lists.nested j k lk ∙ any_guard (apart j k) (λ e. j == at_ring e) (λ e. is_in k (cover_above t e)) (length t.ends))
      (λ j k h. (let found = some_of (λ e. nested_hit e j k) (length t.ends) h in
      let parts = and_parts (j == at_ring found.0) (apart j k && is_in k (cover_above t found.0)) found.2 in
      let holes = and_parts (is_hole polygons j) (is_hole polygons k) (and_parts (is_hole polygons j && is_hole polygons k) ((polygon_of polygons j == polygon_of polygons k) && not (j == k)) (and_parts (apart j k) (is_in k (cover_above t found.0)) parts.1).0).0 in
      (hole_fits polygons j holes.0, hole_fits polygons k holes.1)))
      a least

  -- ---- a hole outside its exterior
  abbrev outside_hit : ℕ → ℕ → ℕ → Bool
  outside_hit e j k = outside_in polygons (at_ring e) (cover_above t e) j k

  outside_passes : (j k : ℕ) → list_any (λ e. outside_hit e j k) (edge_numbers t) ≡ true → (j < rings) × (is_outside polygons t j ≡ true)
  outside_passes j k h =
      let found = some_of (λ e. outside_hit e j k) (length t.ends) h in
      let a = and_parts (j == at_ring found.0) _ found.2 in
      let b = and_parts (is_hole polygons j && not (is_hole polygons k)) _ a.1 in
      let holes = and_parts (is_hole polygons j) (not (is_hole polygons k)) b.0 in
      let c = and_parts (nat_lt k rings && (polygon_of polygons k == polygon_of polygons j)) (not (is_in k (cover_above t found.0))) b.1 in
      let d = and_parts (nat_lt k rings) (polygon_of polygons k == polygon_of polygons j) c.0 in (
        hole_fits polygons j holes.0,
        lists.outside j k (ltb-true k rings d.0) holes.0 (not-true (is_hole polygons k) holes.1) (eqb-true (polygon_of polygons k) (polygon_of polygons j) d.1)
            ∙ in_numbers (λ e. (j == at_ring e) && not (is_in k (cover_above t e))) (length t.ends) found.0 found.1 (and_from _ _ a.0 c.1),
      )

  outside_some : (j : ℕ) → j < rings → is_outside polygons t j ≡ true → (k : ℕ) × (list_any (λ e. outside_hit e j k) (edge_numbers t) ≡ true)
  outside_some j lj h =
      let hole : is_hole polygons j ≡ true = (and_parts (is_hole polygons j) _ h).0 in
      let is = is_of polygons j lj in
      let k = rings_before polygons (polygon_of polygons j) in
      let own = exterior polygons j (polygon_of polygons j) is in
      let off = no_hole polygons (polygon_of polygons j) own in
      let lk = fits_all polygons k (polygon_of polygons j) own in (
        k,
        some_too (λ e. (j == at_ring e) && not (is_in k (cover_above t e))) (λ e. outside_hit e j k) (length t.ends)
            (λ e le there. (let parts = and_parts (j == at_ring e) (not (is_in k (cover_above t e))) there in
            and_from _ _ parts.0 (and_from _ _ (and_from _ _ hole (not_from_false (is_hole polygons k) off)) (and_from _ _ (and_from _ _ (lt-ltb k rings lk) (eq-eqb (polygon_of polygons k) (polygon_of polygons j) own.home)) parts.1))))
            (sym (lists.outside j k lk hole off own.home) ∙ h),
      )

  pub outside_is : (a : Option (ℕ × ℕ)) → IsLeastOf outside_hit (length t.ends) a → find (is_outside polygons t) (ring_numbers polygons) ≡ option_map (λ (q : ℕ × ℕ). q.0) a
  outside_is a least = first_of_least (λ j k. list_any (λ e. outside_hit e j k) (edge_numbers t)) (is_outside polygons t) rings outside_passes outside_some a least

  -- ---- a polygon in another
  abbrev overlap_hit : ℕ → ℕ → ℕ → Bool
  overlap_hit e j k = overlap_in polygons (at_ring e) (cover_above t e) j k

  -- the list above an edge rises, and its members are rings
  less_asym : (a b : ℕ) → nat_lt a b ≡ true → nat_lt b a ≡ true → ⊥
  less_asym a b h k = let lt = ltb-true a b h in let gt = ltb-true b a k in omega arith

  cover_rises : (e : ℕ) → is_rising nat_lt (cover_above t e) ≡ true
  cover_rises e = rising_kept (is_over t e) nat_lt (numbers (feature_count t)) (numbers_rise (feature_count t))

  pub cover_fits : (e : ℕ) → list_all (λ k. nat_lt k rings) (cover_above t e) ≡ true
  cover_fits e = all_filter (is_over t e) (λ k. nat_lt k (feature_count t)) (λ k. nat_lt k rings) (λ k lt _. (let less = ltb-true k (feature_count t) lt in lt-ltb k rings (omega (arith, less, features)))) (numbers (feature_count t)) (numbers_within (feature_count t))

  by_list : (m e : ℕ) → odd_many (λ q. (polygon_of polygons q == m) && is_in q (cover_above t e)) (ring_numbers polygons) ≡ odd_many (λ q. polygon_of polygons q == m) (cover_above t e)
  by_list m e = odd_many-same (λ q. (polygon_of polygons q == m) && is_in q (cover_above t e)) (λ q. is_in q (cover_above t e) && (polygon_of polygons q == m)) (ring_numbers polygons) (λ q. and_comm (polygon_of polygons q == m) (is_in q (cover_above t e)))
      ∙ sym (by_members nat_lt less_asym (λ q. polygon_of polygons q == m) (cover_above t e) rings (cover_rises e) (cover_fits e))

  overlap_same : (j k : ℕ) → is_overlap polygons t j k ≡ list_any (λ e. overlap_hit e j k) (edge_numbers t)
  overlap_same j k = elim (cases_eq j k) [
    | inl same ↦ off_guard (eq-eqb j k same) ∙ sym (false_from_ne_true (list_any (λ e. overlap_hit e j k) (edge_numbers t)) (λ h. (let found = some_of (λ e. overlap_hit e j k) (length t.ends) h in
        let parts = and_parts (polygon_of polygons (at_ring found.0) == j) _ found.2 in
        both_ways (not (j == k)) (ap not (eq-eqb j k same)) (and_parts (not (j == k)) _ parts.1).0)))
    | inr other ↦ lists.overlap j k other ∙ some_same (λ e. (polygon_of polygons (at_ring e) == j) && odd_many (λ q. (polygon_of polygons q == k) && is_in q (cover_above t e)) (ring_numbers polygons)) (λ e. overlap_hit e j k) (length t.ends)
        (λ e le. ap (λ b. (polygon_of polygons (at_ring e) == j) && b) (by_list k e ∙ sym (ap (λ b. not b && odd_many (λ q. polygon_of polygons q == k) (cover_above t e)) (ne_eqb j k other))))
  ]
    where
      off_guard : (j == k) ≡ true → is_overlap polygons t j k ≡ false
      off_guard h = ap (λ b. not b && list_any (λ e. belongs polygons t (λ r. polygon_of polygons r == j) e && lies_inside polygons t (λ r. polygon_of polygons r == k) e) (edge_numbers t)) h

  overlap_fits : (j k : ℕ) → list_any (λ e. overlap_hit e j k) (edge_numbers t) ≡ true → (j < length polygons) × (k < length polygons)
  overlap_fits j k h =
      let found = some_of (λ e. overlap_hit e j k) (length t.ends) h in
      let parts = and_parts (polygon_of polygons (at_ring found.0) == j) _ found.2 in
      let odd = (and_parts (not (j == k)) (odd_many (λ q. polygon_of polygons q == k) (cover_above t found.0)) parts.1).1 in
      let own = (is_of polygons (at_ring found.0) (ring_fits found.0 found.1)).fits in
      let same = eqb-true (polygon_of polygons (at_ring found.0)) j parts.0 in
      let member = odd_member (λ q. polygon_of polygons q == k) (λ q. nat_lt q rings) (cover_above t found.0) (cover_fits found.0) odd in
      let at = eqb-true (polygon_of polygons member.0) k member.1 in
      let of_member = (is_of polygons member.0 (ltb-true member.0 rings member.2)).fits in
      (omega (arith, own, same), omega (arith, of_member, at))
    where
      -- where an odd number pass, one does
      odd_member : (p guard : ℕ → Bool) (xs : List ℕ) → list_all guard xs ≡ true → odd_many p xs ≡ true → (q : ℕ) × (p q ≡ true) × (guard q ≡ true)
      odd_member p guard [] all odd = absurd (true≢false (sym odd))
      odd_member p guard (x ∷ xs) all odd =
          let fits = and_parts (guard x) (list_all guard xs) all in
          elim (cases_Bool (p x)) [
            | inl here ↦ (x, here, fits.0)
            | inr off ↦ odd_member p guard xs fits.1 (sym (ap (λ b. exactly_one b (odd_many p xs)) off) ∙ odd)
          ]

  pub overlap_is : (a : Option (ℕ × ℕ)) → IsLeastOf overlap_hit (length t.ends) a → first_pair (is_overlap polygons t) (polygon_numbers polygons) (polygon_numbers polygons) ≡ a
  overlap_is a least = first_of_pairs (λ j k. list_any (λ e. overlap_hit e j k) (edge_numbers t)) (is_overlap polygons t) (length polygons) (length polygons) (λ j k lj lk. overlap_same j k) overlap_fits a least

  -- ---- at one edge
  -- the first ring of an edge is its ring
  pub ring_is : (e r : ℕ) → e < length t.ends → has t r e ≡ true → r ≡ at_ring e
  ring_is e r le h = eqb-true r (at_ring e) (sym (one.one e r le) ∙ h)

  pub some_mark : (e : ℕ) → e < length t.ends → 0 < length (get_or t.marks e [])
  some_mark e le = some_there (get_or t.marks e []) (λ (m : Mark). m.feature == at_ring e) (one.one e (at_ring e) le ∙ eq-eqb (at_ring e) (at_ring e) refl)
    where
      some_there : {X : Type 0} (xs : List X) (p : X → Bool) → list_any p xs ≡ true → 0 < length xs
      some_there [] p h = absurd (true≢false (sym h))
      some_there (x ∷ xs) p h = omega arith

  pub list_rises : (e : ℕ) (list : List ℕ) → list ≡ cover_above t e → is_rising nat_lt list ≡ true
  list_rises e list is = ap (is_rising nat_lt) is ∙ cover_rises e

  pub misplaced_here : (fault : Fault) (e r : ℕ) (list : List ℕ) (a : Option (ℕ × ℕ)) → r ≡ at_ring e → list ≡ cover_above t e → IsLeast (misplaced_in fault polygons r list) a → IsLeast (misplaced_in fault polygons (at_ring e) (cover_above t e)) a
  misplaced_here fault e r list a r_is list_is least = subst (λ xs. IsLeast (misplaced_in fault polygons (at_ring e) xs) a) list_is (subst (λ k. IsLeast (misplaced_in fault polygons k list) a) r_is least)

  pub overlap_here : (e n : ℕ) (list : List ℕ) (least : Least) → n ≡ polygon_of polygons (at_ring e) → list ≡ cover_above t e → AreLeast (λ m. odd_many (λ q. polygon_of polygons q == m) list) least → IsLeast (overlap_hit e) (other_than least n)
  overlap_here e n list least n_is list_is are =
      subst (λ xs. IsLeast (other_odd (λ m. odd_many (λ q. polygon_of polygons q == m) xs) (polygon_of polygons (at_ring e))) (other_than least n)) list_is
      (subst (λ k. IsLeast (other_odd (λ m. odd_many (λ q. polygon_of polygons q == m) list) k) (other_than least n)) n_is
      (other (λ m. odd_many (λ q. polygon_of polygons q == m) list) n least are))
