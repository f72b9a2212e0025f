-- Counting by edges in order: each segment is counted by the edge that it is.
use Rattle.std.proofs.Common.{◌≡◌, ℕ, suc, ◌+◌, ◌<◌, Bool, true, false, ◌||◌, ◌&&◌, List, [], ◌∷◌, length, get_or, refl, sym, ◌∙◌, ap, subst, inl, inr, arith}
use Rattle.std.specs.List.{list_any, list_all, range_with_len}
use Rattle.std.proofs.lemmas.Bool.{and_from, and_parts, both_ways, cases_Bool, false_from_ne_true, or_cases, or_left, or_right, true≢false}
use Rattle.loc_spec_plane.specs.Points.{Edge, same_edge, edge_before}
use Rattle.loc_spec_plane.specs.Lists.{exactly_one, odd_many, is_rising}
use Rattle.loc_laws_order.proofs.Booleans.{and_none, and_true, same-from_both}
use Rattle.loc_laws_order.proofs.Tests.{same_edge_decides}
use Rattle.loc_laws_rays.proofs.Parity.{exactly_one-false, odd_many-exactly_one, odd_many-same, never}
use Rattle.loc_laws_noding.proofs.{Orders.edges_by_before, SortedSet.irrefl}

-- where there are none there is no odd number of them
pub odd_none : {X : Type 0} (p : X → Bool) (xs : List X) → list_any p xs ≡ false → odd_many p xs ≡ false
odd_none p [] h = refl
odd_none p (x ∷ xs) h = elim (cases_Bool (p x)) [
  | inl passes ↦ absurd (both_ways _ h (ap (λ b. b || list_any p xs) passes))
  | inr fails ↦ ap (λ b. exactly_one b (odd_many p xs)) fails ∙ odd_none p xs (sym (ap (λ b. b || list_any p xs) fails) ∙ h)
]

-- where there is an odd number of them there is one
pub any_from_odd : {X : Type 0} (p : X → Bool) (xs : List X) → odd_many p xs ≡ true → list_any p xs ≡ true
any_from_odd p xs h = elim (cases_Bool (list_any p xs)) [ inl some ↦ some | inr none ↦ absurd (both_ways _ (odd_none p xs none) h) ]

-- ---- counting by edges
module _ (q : Edge → Bool) (s : Edge) where
  -- behind an edge of a list in order it does not stand again
  not_again : (e : Edge) (es : List Edge) → list_all (edge_before e) es ≡ true → same_edge e s ≡ true → odd_many (λ d. q d && same_edge d s) es ≡ false
  not_again e [] all same = refl
  not_again e (d ∷ es) all same = (let parts = and_parts (edge_before e d) (list_all (edge_before e) es) all in
      let other : same_edge d s ≡ false = false_from_ne_true _ (λ here. both_ways _ (irrefl edges_by_before d) (subst (λ z. edge_before z d ≡ true) ((same_edge_decides e s).0 same ∙ sym ((same_edge_decides d s).0 here)) parts.0)) in
      ap (λ t. exactly_one (q d && t) (odd_many (λ z. q z && same_edge z s) es)) other ∙ (ap (λ t. exactly_one t (odd_many (λ z. q z && same_edge z s) es)) (and_none (q d)) ∙ not_again e es parts.1 same))

  -- in a list in order an edge that stands there stands there once
  pub once : (es : List Edge) → is_rising edge_before es ≡ true → list_any (same_edge s) es ≡ true → odd_many (λ d. q d && same_edge d s) es ≡ q s
  once [] up there = absurd (both_ways _ refl there)
  once (e ∷ es) up there =
      let parts = and_parts (list_all (edge_before e) es) (is_rising edge_before es) up in
      elim (cases_Bool (same_edge e s)) [
        | inl same ↦ ap (λ t. exactly_one (q e && t) (odd_many (λ d. q d && same_edge d s) es)) same ∙ (ap (exactly_one (q e && true)) (not_again e es parts.0 same) ∙ (exactly_one-false (q e && true) ∙ (and_true (q e) ∙ ap q ((same_edge_decides e s).0 same))))
        | inr other ↦ ap (λ t. exactly_one (q e && t) (odd_many (λ d. q d && same_edge d s) es)) other ∙ (ap (λ t. exactly_one t (odd_many (λ d. q d && same_edge d s) es)) (and_none (q e)) ∙ once es parts.1 (sym (ap (λ t. t || list_any (same_edge s) es) (false_from_ne_true _ (λ h. both_ways _ other ((same_edge_decides e s).1 (sym ((same_edge_decides s e).0 h)))))) ∙ there))
      ]

-- the segments by a test are counted by the edges, each as often as it is a segment
pub by_edges : (q : Edge → Bool) (es ss : List Edge) → is_rising edge_before es ≡ true → ((s : Edge) → list_any (same_edge s) ss ≡ true → list_any (same_edge s) es ≡ true) → odd_many (λ e. q e && odd_many (same_edge e) ss) es ≡ odd_many q ss
by_edges q es [] up part = odd_many-same (λ e. q e && false) (λ e. false) es (λ e. and_none (q e)) ∙ never es
by_edges q es (s ∷ ss) up part =
    odd_many-same (λ e. q e && exactly_one (same_edge e s) (odd_many (same_edge e) ss)) (λ e. exactly_one (q e && same_edge e s) (q e && odd_many (same_edge e) ss)) es (λ e. shared (q e) (same_edge e s) (odd_many (same_edge e) ss))
    ∙ (odd_many-exactly_one (λ e. q e && same_edge e s) (λ e. q e && odd_many (same_edge e) ss) es
    ∙ (ap (λ t. exactly_one t (odd_many (λ e. q e && odd_many (same_edge e) ss) es)) (once q s es up (part s (ap (λ t. t || list_any (same_edge s) ss) ((same_edge_decides s s).1 refl))))
    ∙ ap (exactly_one (q s)) (by_edges q es ss up (λ z there. part z (or_right (same_edge z s) (list_any (same_edge z) ss) there)))))
  where
    shared : (a b c : Bool) → (a && exactly_one b c) ≡ exactly_one (a && b) (a && c)
    shared true b c = refl
    shared false b c = refl

-- an edge stands once or never in a list in order
pub odd_is_any : (e : Edge) (es : List Edge) → is_rising edge_before es ≡ true → odd_many (same_edge e) es ≡ list_any (same_edge e) es
odd_is_any e es up = elim (cases_Bool (list_any (same_edge e) es)) [
  | inl there ↦ odd_many-same (same_edge e) (λ d. true && same_edge d e) es (λ d. same_edge_back e d) ∙ (once (λ d. true) e es up there ∙ sym there)
  | inr none ↦ odd_none (same_edge e) es none ∙ sym none
]
  where
    same_edge_back : (a b : Edge) → same_edge a b ≡ same_edge b a
    same_edge_back a b = same-from_both _ _ (λ h. (same_edge_decides b a).1 (sym ((same_edge_decides a b).0 h))) (λ h. (same_edge_decides a b).1 (sym ((same_edge_decides b a).0 h)))

-- an edge passes that is one of the segments, where it is another one by the same points
any_segment : (q : Edge → Bool) (e : Edge) (ss : List Edge) → list_any (same_edge e) ss ≡ true → q e ≡ true → list_any q ss ≡ true
any_segment q e [] here h = absurd (true≢false (sym here))
any_segment q e (s ∷ ss) here h = elim (or_cases (same_edge e s) (list_any (same_edge e) ss) here) [
  | inl same ↦ or_left (q s) (list_any q ss) (subst (λ d. q d ≡ true) ((same_edge_decides e s).0 same) h)
  | inr later ↦ or_right (q s) (list_any q ss) (any_segment q e ss later h)
]

-- a segment passes where an edge does that is one of the segments
pub any_by_edges : (q : Edge → Bool) (es ss : List Edge) → ((s : Edge) → list_any (same_edge s) ss ≡ true → list_any (same_edge s) es ≡ true) → list_any (λ e. list_any (same_edge e) ss && q e) es ≡ list_any q ss
any_by_edges q es ss part = same-from_both _ _ (to es) (back ss (λ s here. here))
  where
    to : (ds : List Edge) → list_any (λ e. list_any (same_edge e) ss && q e) ds ≡ true → list_any q ss ≡ true
    to [] h = absurd (true≢false (sym h))
    to (d ∷ ds) h = elim (or_cases (list_any (same_edge d) ss && q d) (list_any (λ e. list_any (same_edge e) ss && q e) ds) h) [
      | inl here ↦ (let parts = and_parts (list_any (same_edge d) ss) (q d) here in any_segment q d ss parts.0 parts.1)
      | inr later ↦ to ds later
    ]

    back : (rs : List Edge) → ((s : Edge) → list_any (same_edge s) rs ≡ true → list_any (same_edge s) ss ≡ true) → list_any q rs ≡ true → list_any (λ e. list_any (same_edge e) ss && q e) es ≡ true
    back [] inside h = absurd (true≢false (sym h))
    back (r ∷ rs) inside h = elim (or_cases (q r) (list_any q rs) h) [
      | inl here ↦ (let listed = inside r (or_left (same_edge r r) (list_any (same_edge r) rs) ((same_edge_decides r r).1 refl)) in any_segment (λ e. list_any (same_edge e) ss && q e) r es (part r listed) (and_from _ _ listed here))
      | inr later ↦ back rs (λ s there. inside s (or_right (same_edge s r) (list_any (same_edge s) rs) there)) later
    ]

-- numbers stand for the members of a list
pub odd_by_number : {X : Type 0} (g : ℕ → Bool) (h : X → Bool) (xs : List X) (a : ℕ) → ((k : ℕ) (d : X) → k < length xs → g (a + k) ≡ h (get_or xs k d)) → odd_many g (range_with_len a (length xs)) ≡ odd_many h xs
odd_by_number g h [] a same = refl
odd_by_number g h (x ∷ xs) a same =
    let first : a ≡ a + 0 = omega arith in
    ap (λ t. exactly_one t (odd_many g (range_with_len (a + 1) (length xs)))) (ap g first ∙ same 0 x (omega arith)) ∙ ap (exactly_one (h x)) (odd_by_number g h xs (a + 1) (λ k d lt. (let next : (a + 1) + k ≡ a + suc k = omega arith in ap g next ∙ same (suc k) d (omega arith))))

pub any_by_number : {X : Type 0} (g : ℕ → Bool) (h : X → Bool) (xs : List X) (a : ℕ) → ((k : ℕ) (d : X) → k < length xs → g (a + k) ≡ h (get_or xs k d)) → list_any g (range_with_len a (length xs)) ≡ list_any h xs
any_by_number g h [] a same = refl
any_by_number g h (x ∷ xs) a same =
    let first : a ≡ a + 0 = omega arith in
    ap (λ t. t || list_any g (range_with_len (a + 1) (length xs))) (ap g first ∙ same 0 x (omega arith)) ∙ ap (λ t. h x || t) (any_by_number g h xs (a + 1) (λ k d lt. (let next : (a + 1) + k ≡ a + suc k = omega arith in ap g next ∙ same (suc k) d (omega arith))))
