-- Different half-edges have different nexts.
use Rattle.std.proofs.Common.{◌≡◌, ℕ, ◌<◌, Bool, true, false, List, [], ◌∷◌, length, get_or, refl, sym, ◌∙◌, ap, subst, inl, inr, arith}
use Rattle.std.specs.Prelude.{◌==◌}
use Rattle.std.specs.List.{list_all}
use Rattle.std.proofs.lemmas.Bool.{and_parts, and_from, or_cases, or_left, or_right, both_ways, cases_Bool, cond-true, cond-false, eqb-true, eq-eqb, lt-ltb, ltb-true, false_from_ne_true, true≢false}
use Rattle.loc_spec_plane.specs.Lists.{is_in, is_rising, last_or_else, before_from, before_round}
use Rattle.loc_spec_plane.specs.{Tables.Table, Tables.IsTable, Tables.ends_at, Places.is_edge}
use Rattle.loc_spec_plane.specs.HalfEdges.{comes_round, half_edge_count, edge_of, origin, target, leaving, IsTurnList, IsNext, IsNextOfAll}
use Rattle.loc_laws_order.proofs.Unique.{all-at, comes_round-asym, turn_list-unique}
use Rattle.loc_half.specs.{Rounds.IsPermuting, Turns.arriving}
use Rattle.loc_half.proofs.Halves.{edge-fits, edge-leaving, leaving-fits, origin-leaving, ends-target, arriving-target}

-- no member stands there twice
abbrev pub AllDiffer : List ℕ → Type 0
AllDiffer [] = Unit {0}
AllDiffer (n ∷ ns) = (is_in n ns ≡ false) × AllDiffer ns

-- the members of a rising list differ
pub differ_from_rising : (p : ℕ → ℕ → Bool) → ((a b : ℕ) → p a b ≡ true → p b a ≡ true → ⊥) → (ns : List ℕ) → is_rising p ns ≡ true → AllDiffer ns
differ_from_rising p asym [] up = tt
differ_from_rising p asym (n ∷ ns) up =
    let parts = and_parts (list_all (p n) ns) (is_rising p ns) up in
    (false_from_ne_true (is_in n ns) (λ here. (let self = all-at (p n) ns n parts.0 here in asym n n self self)), differ_from_rising p asym ns parts.1)

-- the last member is a member
last_in : (n : ℕ) (ns : List ℕ) → is_in (last_or_else n ns) (n ∷ ns) ≡ true
last_in n [] = or_left (n == n) false (eq-eqb n n refl)
last_in n (m ∷ ms) = or_right (n == last_or_else m ms) (is_in (last_or_else m ms) (m ∷ ms)) (last_in m ms)

-- a member that is not the first is one of the others
later : (m n : ℕ) (ms : List ℕ) → (m == n) ≡ false → is_in n (m ∷ ms) ≡ true → is_in n ms ≡ true
later m n ms off here = elim (or_cases (m == n) (is_in n ms) here) [
  | inl at ↦ absurd (both_ways (m == n) off at)
  | inr more ↦ more
]

-- what stands before a member is x or a member
before_in : (x n : ℕ) (ms : List ℕ) → is_in n ms ≡ true → is_in (before_from x n ms) (x ∷ ms) ≡ true
before_in x n [] here = absurd (true≢false (sym here))
before_in x n (m ∷ ms) here = elim (cases_Bool (m == n)) [
  | inl at ↦ subst (λ k. is_in k (x ∷ m ∷ ms) ≡ true) (sym (cond-true (m == n) x (before_from m n ms) at)) (or_left (x == x) (is_in x (m ∷ ms)) (eq-eqb x x refl))
  | inr off ↦ subst (λ k. is_in k (x ∷ m ∷ ms) ≡ true) (sym (cond-false (m == n) x (before_from m n ms) off)) (or_right (x == before_from m n ms) (is_in (before_from m n ms) (m ∷ ms)) (before_in m n ms (later m n ms off here)))
]

-- the last member stands before none but the first
not_last : (y m : ℕ) (ys : List ℕ) → AllDiffer (y ∷ ys) → is_in m ys ≡ true → before_from y m ys ≡ last_or_else y ys → ⊥
not_last y m [] differ here same = true≢false (sym here)
not_last y m (z ∷ zs) differ here same = elim (cases_Bool (z == m)) [
  | inl at ↦ both_ways (is_in y (z ∷ zs)) differ.0 (subst (λ k. is_in k (z ∷ zs) ≡ true) (sym (sym (cond-true (z == m) y (before_from z m zs) at) ∙ same)) (last_in z zs))
  | inr off ↦ not_last z m zs differ.1 (later z m zs off here) (sym (cond-false (z == m) y (before_from z m zs) off) ∙ same)
]

-- one half-edge before two members
before_one : (x n m : ℕ) (ys : List ℕ) → is_in x ys ≡ false → AllDiffer ys → is_in n ys ≡ true → is_in m ys ≡ true → before_from x n ys ≡ before_from x m ys → n ≡ m
before_one x n m [] new differ in_n in_m same = absurd (true≢false (sym in_n))
before_one x n m (y ∷ ys) new differ in_n in_m same = elim (cases_Bool (y == n)) [
  | inl at_n ↦ elim (cases_Bool (y == m)) [
    | inl at_m ↦ sym (eqb-true y n at_n) ∙ eqb-true y m at_m
    | inr off_m ↦ absurd (both_ways (is_in x (y ∷ ys)) new (subst (λ k. is_in k (y ∷ ys) ≡ true) (sym (sym (cond-true (y == n) x (before_from y n ys) at_n) ∙ (same ∙ cond-false (y == m) x (before_from y m ys) off_m))) (before_in y m ys (later y m ys off_m in_m))))
  ]
  | inr off_n ↦ elim (cases_Bool (y == m)) [
    | inl at_m ↦ absurd (both_ways (is_in x (y ∷ ys)) new (subst (λ k. is_in k (y ∷ ys) ≡ true) (sym (cond-false (y == n) x (before_from y n ys) off_n) ∙ (same ∙ cond-true (y == m) x (before_from y m ys) at_m)) (before_in y n ys (later y n ys off_n in_n))))
    | inr off_m ↦ before_one y n m ys differ.0 differ.1 (later y n ys off_n in_n) (later y m ys off_m in_m) (sym (cond-false (y == n) x (before_from y n ys) off_n) ∙ (same ∙ cond-false (y == m) x (before_from y m ys) off_m))
  ]
]

-- going round, one half-edge before two members
round_one : (n m : ℕ) (ys : List ℕ) → AllDiffer ys → is_in n ys ≡ true → is_in m ys ≡ true → before_round n ys ≡ before_round m ys → n ≡ m
round_one n m [] differ in_n in_m same = absurd (true≢false (sym in_n))
round_one n m (y ∷ ys) differ in_n in_m same =
    elim (cases_Bool (y == n)) [
      | inl at_n ↦ elim (cases_Bool (y == m)) [
        | inl at_m ↦ sym (eqb-true y n at_n) ∙ eqb-true y m at_m
        | inr off_m ↦ absurd (not_last y m ys differ (later y m ys off_m in_m) (sym (cond-false (y == m) (last_or_else y ys) (before_from y m ys) off_m) ∙ (sym same ∙ cond-true (y == n) (last_or_else y ys) (before_from y n ys) at_n)))
      ]
      | inr off_n ↦ elim (cases_Bool (y == m)) [
        | inl at_m ↦ absurd (not_last y n ys differ (later y n ys off_n in_n) (sym (cond-false (y == n) (last_or_else y ys) (before_from y n ys) off_n) ∙ (same ∙ cond-true (y == m) (last_or_else y ys) (before_from y m ys) at_m)))
        | inr off_m ↦ before_one y n m ys differ.0 differ.1 (later y n ys off_n in_n) (later y m ys off_m in_m) (sym (cond-false (y == n) (last_or_else y ys) (before_from y n ys) off_n) ∙ (same ∙ cond-false (y == m) (last_or_else y ys) (before_from y m ys) off_m))
      ]
    ]

-- what stands before a member, going round, is a member
pub round_in : (n : ℕ) (ys : List ℕ) → is_in n ys ≡ true → is_in (before_round n ys) ys ≡ true
round_in n [] here = absurd (true≢false (sym here))
round_in n (y ∷ ys) here = elim (or_cases (last_or_else y ys == before_round n (y ∷ ys)) (is_in (before_round n (y ∷ ys)) (y ∷ ys)) (before_in (last_or_else y ys) n (y ∷ ys) here)) [
  | inl last ↦ subst (λ k. is_in k (y ∷ ys) ≡ true) (eqb-true (last_or_else y ys) (before_round n (y ∷ ys)) last) (last_in y ys)
  | inr more ↦ more
]

module _ (t : Table) (ok : IsTable t) where
  -- the edge of a half-edge is in the turn list where it arrives
  pub edge_in : (h : ℕ) (es : List ℕ) → h < half_edge_count t → IsTurnList t (target t h) es → is_in (edge_of h) es ≡ true
  edge_in h es lt turns = turns.exact (edge_of h) ∙ and_from (is_edge t (edge_of h)) (ends_at t (target t h) (edge_of h)) (lt-ltb (edge_of h) (length t.ends) (edge-fits t h lt)) (ends-target t h)

  module _ (nexts : List ℕ) (size : length nexts ≡ half_edge_count t) (all : IsNextOfAll t (λ h. get_or nexts h 0)) where
    fits : (h : ℕ) → h < length nexts → h < half_edge_count t
    fits h lt = omega (arith, size, lt)

    -- the edge by which the next leaves, and that it ends where the half-edge arrives
    by : (h : ℕ) → h < half_edge_count t → (e : ℕ) × (is_edge t e ≡ true) × (ends_at t (target t h) e ≡ true) × (get_or nexts h 0 ≡ leaving t (target t h) e)
    by h lt =
        let next = all h lt in
        let parts = and_parts (is_edge t (before_round (edge_of h) next.0)) (ends_at t (target t h) (before_round (edge_of h) next.0)) (sym (next.1.exact (before_round (edge_of h) next.0)) ∙ round_in (edge_of h) next.0 (edge_in h next.0 lt next.1)) in
        (before_round (edge_of h) next.0, parts.0, parts.1, next.2)

    -- the next leaves where the half-edge arrives
    pub leaves : (h : ℕ) → h < half_edge_count t → origin t (get_or nexts h 0) ≡ target t h
    leaves h lt = let way = by h lt in ap (origin t) way.3 ∙ origin-leaving t (target t h) way.0 way.2

    one : (g h : ℕ) → g < half_edge_count t → h < half_edge_count t → get_or nexts g 0 ≡ get_or nexts h 0 → g ≡ h
    one g h lt_g lt_h same =
        let at : target t g ≡ target t h = sym (leaves g lt_g) ∙ (ap (origin t) same ∙ leaves h lt_h) in
        let next_g = all g lt_g in
        let next_h : IsNext t h (get_or nexts h 0) = all h lt_h in
        let turns : IsTurnList t (target t g) next_h.0 = subst (λ c. IsTurnList t c next_h.0) (sym at) next_h.1 in
        let list : next_g.0 ≡ next_h.0 = turn_list-unique t (target t g) next_g.0 next_h.0 next_g.1 turns in
        let edges : before_round (edge_of g) next_g.0 ≡ before_round (edge_of h) next_h.0 =
        sym (edge-leaving t (target t g) (before_round (edge_of g) next_g.0)) ∙ (ap edge_of (sym next_g.2 ∙ (same ∙ next_h.2)) ∙ edge-leaving t (target t h) (before_round (edge_of h) next_h.0)) in
        let differ = differ_from_rising (comes_round t (target t g)) (comes_round-asym t (target t g)) next_h.0 turns.rising in
        let edge : edge_of g ≡ edge_of h = round_one (edge_of g) (edge_of h) next_h.0 differ (subst (λ es. is_in (edge_of g) es ≡ true) list (edge_in g next_g.0 lt_g next_g.1)) (edge_in h next_h.0 lt_h next_h.1) (ap (before_round (edge_of g)) (sym list) ∙ edges) in
        sym (arriving-target t ok g lt_g) ∙ (ap (λ c. arriving t c (edge_of g)) at ∙ (ap (arriving t (target t h)) edge ∙ arriving-target t ok h lt_h))

    -- the nexts of a table are a permutation of its half-edges
    pub nexts_permute : IsPermuting nexts
    nexts_permute = record {
      in_range = λ h lt. (let way = by h (fits h lt) in let below = leaving-fits t (target t h) way.0 (ltb-true way.0 (length t.ends) way.1) in let is = way.3 in omega (arith, below, is, size));
      one = λ g h lt_g lt_h same. one g h (fits g lt_g) (fits h lt_h) same;
    }
