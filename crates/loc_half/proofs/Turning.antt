-- The edges at a corner in their order: where nothing conflicts, a sort by it makes the turn list.
use Rattle.std.proofs.Common.{◌≡◌, ◌≢◌, ℕ, suc, ◌<◌, ◌≤◌, max, Bool, true, false, cond, not, ◌&&◌, ◌||◌, List, [], ◌∷◌, length, get_or, refl, sym, ◌∙◌, subst, ◌⊎◌, inl, inr, arith}
use Rattle.std.specs.Prelude.{◌==◌, eqb}
use Rattle.std.specs.{Cmp.IsStrictWeakOrder, List.list_all, List.IsDistinct}
use Rattle.std.specs.List.Sorted.{IsPermutation, IsSortedBy}
use Rattle.std.proofs.lemmas.Bool.{and_parts, and_from, or_cases, both_ways, cases_eq, eqb-true, eqb-false, eq-eqb, ne_eqb, ltb-true, false_from_ne_true, true≢false}
use Rattle.std.proofs.{lemmas.List.get_or_default, lemmas.List.Folds.list_any_at}
use Rattle.std.proofs.lemmas.List.Sorted.{list_any-IsPermutation, sorted_far}
use Rattle.std.proofs.lemmas.Map.Keys.{IsDistinct-from_apart, IsDistinct-IsPermutation, apart_from_distinct}
use Rattle.loc_spec_plane.specs.{Lists.is_in, Lists.is_rising, Places.alive_at, Places.is_edge, Places.lower_of}
use Rattle.loc_spec_plane.specs.Tables.{Table, IsTable, NoConflict, corner, lo_of, hi_of, ends_at}
use Rattle.loc_spec_plane.specs.HalfEdges.{comes_round, IsTurnList}
use Rattle.loc_laws_order.proofs.AliveAt.{alive_between, alive_from, lower_passes, one_is_lower}
use Rattle.loc_laws_order.proofs.{Sets.number_swap, Unique.comes_round-asym}
use Rattle.loc_half.specs.Turns.{stands_at, stands_before, AreEdgesAt}

-- ---- the order round a corner, as a table of cases: x and y say which edges begin there, l and m which of the two is lower
abbrev round : Bool → Bool → Bool → Bool → Bool
round x y l m = cond x (cond y l true) (cond y false m)

total_cases : (x y l m : Bool) → (x ≡ true → y ≡ true → (l ≡ true) ⊎ (m ≡ true)) → (x ≡ false → y ≡ false → (l ≡ true) ⊎ (m ≡ true)) → (round x y l m ≡ true) ⊎ (round y x m l ≡ true)
total_cases true true l m up down = up refl refl
total_cases true false l m up down = inl refl
total_cases false true l m up down = inr refl
total_cases false false l m up down = elim (down refl refl) [
  | inl h ↦ inr h
  | inr h ↦ inl h
]

trans_cases : (x y z xy yx yz zy xz zx : Bool) → (x ≡ true → y ≡ true → z ≡ true → xy ≡ true → yz ≡ true → xz ≡ true) → (x ≡ false → y ≡ false → z ≡ false → zy ≡ true → yx ≡ true → zx ≡ true) → round x y xy yx ≡ true → round y z yz zy ≡ true → round x z xz zx ≡ true
trans_cases true true true xy yx yz zy xz zx up down h k = up refl refl refl h k
trans_cases true true false xy yx yz zy xz zx up down h k = refl
trans_cases true false true xy yx yz zy xz zx up down h k = absurd (true≢false (sym k))
trans_cases true false false xy yx yz zy xz zx up down h k = refl
trans_cases false true z xy yx yz zy xz zx up down h k = absurd (true≢false (sym h))
trans_cases false false true xy yx yz zy xz zx up down h k = absurd (true≢false (sym k))
trans_cases false false false xy yx yz zy xz zx up down h k = down refl refl refl k h

one_way_cases : (x y l m : Bool) → (l ≡ true → m ≡ false) → (x && (not y || l)) ≡ true → (y && (not x || m)) ≡ false
one_way_cases true true l m other h = other h
one_way_cases true false l m other h = refl
one_way_cases false y l m other h = absurd (true≢false (sym h))

chain_cases : (x y z xy yz xz : Bool) → (x ≡ true → y ≡ true → z ≡ true → xy ≡ false → yz ≡ false → xz ≡ false) → (x && (not y || xy)) ≡ false → (y && (not z || yz)) ≡ false → (x && (not z || xz)) ≡ false
chain_cases false y z xy yz xz all h k = refl
chain_cases true false z xy yz xz all h k = absurd (true≢false h)
chain_cases true true false xy yz xz all h k = absurd (true≢false k)
chain_cases true true true xy yz xz all h k = all refl refl refl h k

behind_cases : (x y l : Bool) → x ≡ true → y ≡ true → (x && (not y || l)) ≡ false → l ≡ false
behind_cases true true l h k off = off
behind_cases true false l h k off = absurd (true≢false (sym k))
behind_cases false y l h k off = absurd (true≢false (sym h))

module _ (t : Table) (ok : IsTable t) (quiet : NoConflict t) where
  module _ (c : ℕ) where
    fits : (e : ℕ) → stands_at t c e ≡ true → e < length t.ends
    fits e at = ltb-true e (length t.ends) (and_parts (is_edge t e) (ends_at t c e) at).0

    -- an edge that begins at the corner is alive there
    begun : (e : ℕ) → stands_at t c e ≡ true → (lo_of t e == c) ≡ true → alive_at t (corner t c) e ≡ true
    begun e at low =
        let start : lo_of t e ≡ c = eqb-true (lo_of t e) c low in
        let up = (ok.goes_up e (fits e at)).0 in
        alive_from t (corner t c) e (fits e at) (alive_between t ok c e (fits e at) (omega (arith, start)) (omega (arith, start, up)))

    -- an edge that does not begin there ends there
    ended : (e : ℕ) → stands_at t c e ≡ true → (lo_of t e == c) ≡ false → hi_of t e ≡ c
    ended e at not_low = elim (or_cases (lo_of t e == c) (hi_of t e == c) (and_parts (is_edge t e) (ends_at t c e) at).1) [
      | inl low ↦ absurd (both_ways (lo_of t e == c) not_low low)
      | inr high ↦ eqb-true (hi_of t e) c high
    ]

    -- and is alive at each corner between
    ending : (e m : ℕ) → stands_at t c e ≡ true → (lo_of t e == c) ≡ false → lo_of t e ≤ m → m < c → alive_at t (corner t m) e ≡ true
    ending e m at not_low from under = let end = ended e at not_low in alive_from t (corner t m) e (fits e at) (alive_between t ok m e (fits e at) from (omega (arith, under, end)))

    before_end : (e : ℕ) → stands_at t c e ≡ true → (lo_of t e == c) ≡ false → lo_of t e < c
    before_end e at not_low = let end = ended e at not_low in let up = (ok.goes_up e (fits e at)).0 in omega (arith, end, up)

    -- of two different edges at the corner one comes before the other
    pub turn-total : (a b : ℕ) → stands_at t c a ≡ true → stands_at t c b ≡ true → a ≢ b → (comes_round t c a b ≡ true) ⊎ (comes_round t c b a ≡ true)
    turn-total a b at_a at_b other = total_cases (lo_of t a == c) (lo_of t b == c) (lower_of t a b) (lower_of t b a)
        (λ low_a low_b. one_is_lower t quiet ok (corner t c) a b (begun a at_a low_a) (begun b at_b low_b) other)
        (λ high_a high_b. (let ea = before_end a at_a high_a in let eb = before_end b at_b high_b in
        one_is_lower t quiet ok (corner t (max (lo_of t a) (lo_of t b))) a b (ending a (max (lo_of t a) (lo_of t b)) at_a high_a (omega arith) (omega (arith, ea, eb))) (ending b (max (lo_of t a) (lo_of t b)) at_b high_b (omega arith) (omega (arith, ea, eb))) other))

    -- the order round the corner passes on
    pub turn-trans : (a b d : ℕ) → stands_at t c a ≡ true → stands_at t c b ≡ true → stands_at t c d ≡ true → comes_round t c a b ≡ true → comes_round t c b d ≡ true → comes_round t c a d ≡ true
    turn-trans a b d at_a at_b at_d = trans_cases (lo_of t a == c) (lo_of t b == c) (lo_of t d == c) (lower_of t a b) (lower_of t b a) (lower_of t b d) (lower_of t d b) (lower_of t a d) (lower_of t d a)
        (λ low_a low_b low_d. lower_passes t quiet (corner t c) a b d (begun a at_a low_a) (begun b at_b low_b) (begun d at_d low_d))
        (λ high_a high_b high_d. (let ea = before_end a at_a high_a in let eb = before_end b at_b high_b in let ed = before_end d at_d high_d in
        lower_passes t quiet (corner t (max (lo_of t a) (max (lo_of t b) (lo_of t d)))) d b a
        (ending d (max (lo_of t a) (max (lo_of t b) (lo_of t d))) at_d high_d (omega arith) (omega (arith, ea, eb, ed)))
        (ending b (max (lo_of t a) (max (lo_of t b) (lo_of t d))) at_b high_b (omega arith) (omega (arith, ea, eb, ed)))
        (ending a (max (lo_of t a) (max (lo_of t b) (lo_of t d))) at_a high_a (omega arith) (omega (arith, ea, eb, ed)))))

    turn-chain : (x y z : ℕ) → stands_at t c x ≡ true → stands_at t c y ≡ true → stands_at t c z ≡ true → comes_round t c x y ≡ false → comes_round t c y z ≡ false → comes_round t c x z ≡ false
    turn-chain x y z at_x at_y at_z xy yz = false_from_ne_true (comes_round t c x z) (λ xz. elim (cases_eq x y) [
      | inl same ↦ both_ways (comes_round t c y z) yz (subst (λ k. comes_round t c k z ≡ true) same xz)
      | inr other ↦ elim (turn-total x y at_x at_y other) [
        | inl first ↦ both_ways (comes_round t c x y) xy first
        | inr second ↦ both_ways (comes_round t c y z) yz (turn-trans y x z at_y at_x at_z second xz)
      ]
    ])

    -- the order by which edges are sorted is one
    pub sorts : IsStrictWeakOrder (stands_before t c)
    sorts = record {
      one_way = λ x y. one_way_cases (stands_at t c x) (stands_at t c y) (comes_round t c x y) (comes_round t c y x) (λ first. false_from_ne_true (comes_round t c y x) (comes_round-asym t c x y first));
      chain = λ x y z. chain_cases (stands_at t c x) (stands_at t c y) (stands_at t c z) (comes_round t c x y) (comes_round t c y z) (comes_round t c x z) (turn-chain x y z);
    }

    -- ---- a sorted list of the edges at the corner
    module _ (row es : List ℕ) (edges : AreEdgesAt t c row) (moved : IsPermutation row es) (sorted : IsSortedBy (stands_before t c) es) where
      members : (e : ℕ) → is_in e es ≡ stands_at t c e
      members e = sym (list_any-IsPermutation (λ m. m == e) row es moved) ∙ edges.exact e

      standing : (i : ℕ) → i < length es → stands_at t c (get_or es i 0) ≡ true
      standing i lt = sym (members (get_or es i 0)) ∙ list_any_at (λ m. m == get_or es i 0) es i 0 lt (eq-eqb (get_or es i 0) (get_or es i 0) refl)

      distinct : IsDistinct eqb es
      distinct = IsDistinct-IsPermutation eqb number_swap row es moved (IsDistinct-from_apart eqb row (λ i j d less lt.
          ne_eqb (get_or row i d) (get_or row j d) (λ same. edges.apart i j less lt (get_or_default row i 0 d (omega (arith, less, lt)) ∙ (same ∙ get_or_default row j d 0 lt)))))

      ordered : (i j : ℕ) → i < j → j < length es → comes_round t c (get_or es i 0) (get_or es j 0) ≡ true
      ordered i j less lt =
          let early = standing i (omega (arith, less, lt)) in
          let late = standing j lt in
          elim (turn-total (get_or es i 0) (get_or es j 0) early late (eqb-false (get_or es i 0) (get_or es j 0) (apart_from_distinct eqb es i j 0 distinct less lt))) [
            | inl first ↦ first
            | inr second ↦ absurd (both_ways (comes_round t c (get_or es j 0) (get_or es i 0)) (behind_cases (stands_at t c (get_or es j 0)) (stands_at t c (get_or es i 0)) (comes_round t c (get_or es j 0) (get_or es i 0)) late early (sorted_far (stands_before t c) sorts es sorted i j 0 (omega (arith, less)) lt)) second)
          ]

      -- is the turn list
      pub turns_sorted : IsTurnList t c es
      turns_sorted = record { rising = rising_by (comes_round t c) es ordered; exact = members }
        where
          all_by : (p : ℕ → Bool) (xs : List ℕ) → ((j : ℕ) → j < length xs → p (get_or xs j 0) ≡ true) → list_all p xs ≡ true
          all_by p [] each = refl
          all_by p (x ∷ xs) each = and_from (p x) (list_all p xs) (each 0 (omega arith)) (all_by p xs (λ j lt. each (suc j) (omega (arith, lt))))

          rising_by : (comes_before : ℕ → ℕ → Bool) (xs : List ℕ) → ((i j : ℕ) → i < j → j < length xs → comes_before (get_or xs i 0) (get_or xs j 0) ≡ true) → is_rising comes_before xs ≡ true
          rising_by comes_before [] each = refl
          rising_by comes_before (x ∷ xs) each = and_from (list_all (comes_before x) xs) (is_rising comes_before xs) (all_by (comes_before x) xs (λ j lt. each 0 (suc j) (omega arith) (omega (arith, lt)))) (rising_by comes_before xs (λ i j less lt. each (suc i) (suc j) (omega (arith, less)) (omega (arith, lt))))
